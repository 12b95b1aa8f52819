use Rattle.tb_wait.proofs.RowLemmas.{names_along, names_kept, names_gained}
use Rattle.tb_wait.proofs.wait.Wait.spawned.Goals as goal

pub returns-clause-names : goal.returns-clause-names
returns-clause-names c =
    names_along c.args.self.now.tasks c.reserve_spawned.new.self.tasks c.spawned_reserved.new.self.tasks
    (names_kept c.args.self.now.tasks c.reserve_spawned.new.self.tasks c.reserve_spawned.ensures.room.names)
    (names_gained c.reserve_spawned.new.self.tasks c.spawned_reserved.new.self.tasks c.args.child c.spawned_reserved.ensures.names)
