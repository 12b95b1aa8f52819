use Rattle.std.proofs.Common.{subst, sym, ap, ◌∙◌}
use Rattle.tb_model.specs.declared.action.Action.TheVariants.{Spawn}
use Rattle.tb_undo.specs.Tasks.{fresh_task}
use Rattle.tb_undo.specs.Sets.{Comes}
use Rattle.tb_undo.proofs.ActLemmas.{acted_start, acted_spawn}
use Rattle.tb_undo.proofs.tables.Tables.act.Goals as goal

pub returns-in-Start-clause-acted : goal.returns-in-Start-clause-acted
returns-in-Start-clause-acted c =
    acted_start c.args.event.now c.args.self.now c.hold.new.self c.in-Start.is c.hold.ensures.store c.hold.ensures.waits c.hold.ensures.marks c.hold.ensures.rows

pub returns-in-Spawn-clause-acted : goal.returns-in-Spawn-clause-acted
returns-in-Spawn-clause-acted c =
    let s = c.get-spawn.result.now in
    acted_spawn c.args.event.now c.args.self.now c.spawn.new.self s (c.in-Spawn.is ∙ ap (λ x. Spawn x) (sym c.get-spawn.ensures)) c.requires.can c.requires.room
    c.spawn.ensures.store c.spawn.ensures.waits c.spawn.ensures.marks (subst (λ xs. Comes c.args.self.now.rows s.child (fresh_task c.args.event.now.task s.body xs) c.spawn.new.self.rows) c.as_slice.ensures c.spawn.ensures.rows)
