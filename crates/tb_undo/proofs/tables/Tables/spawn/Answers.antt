use Rattle.std.proofs.Common.{ap, subst}
use Rattle.tb_wait.specs.Kin.{KeepsNames}
use Rattle.tb_wait.proofs.RowLemmas.{names_gained}
use Rattle.tb_undo.proofs.tables.Tables.spawn.Goals as goal

pub returns-clause-names : goal.returns-clause-names
returns-clause-names c =
    subst (λ waits. KeepsNames waits c.spawned_reserved.new.self.tasks) (ap (λ s. s.waits.tasks) c.self.view_is)
    (names_gained c.self.inside.waits.tasks c.spawned_reserved.new.self.tasks _ c.spawned_reserved.ensures.names)
