use Rattle.std.proofs.Common.{sym, ap, ◌∙◌}
use Rattle.std.proofs.lemmas.Bool.{false≢true}
use Rattle.tb_model.specs.Names.{same_name}
use Rattle.tb_model.proofs.TestLemmas.{same_true, same_refl}
use Rattle.tb_core.proofs.FillingLemmas.{its_task, no_spawn, spawn_found, spawn_next}
use Rattle.tb_core.proofs.filling.is_spawn_of.Goals as goal

pub returns-in_default : goal.returns-in_default
returns-in_default c = record {
  yes = λ h. absurd (false≢true h);
  no = λ h fills. no_spawn c.args.tables.now c.args.task.now c.args.action.now c.args.event.now c.requires c.in_default.not-Spawn fills;
}

pub returns-then-eq-clause-yes : goal.returns-then-eq-clause-yes
returns-then-eq-clause-yes c h =
    spawn_found c.args.tables.now c.args.task.now c.args.action.now c.in-Spawn.spawned c.in-Spawn.is c.args.event.now c.in-Spawn-action.spare (same_true c.args.event.now.task c.args.task.now (sym c.eq.ensures ∙ c.if-eq.true)) c.in-Spawn-action.is
    (c.is_next_spawn.ensures.0 h)

pub returns-then-eq-clause-no : goal.returns-then-eq-clause-no
returns-then-eq-clause-no c h fills =
    absurd (false≢true (sym h ∙ c.is_next_spawn.ensures.1 (spawn_next c.args.tables.now c.args.task.now c.args.action.now c.in-Spawn.spawned c.in-Spawn.is c.args.event.now c.in-Spawn-action.spare c.in-Spawn-action.is fills)))

pub returns-else-eq-clause-no : goal.returns-else-eq-clause-no
returns-else-eq-clause-no c h fills =
    absurd (false≢true (sym c.if-eq.false ∙ c.eq.ensures ∙ ap (λ u. same_name u c.args.task.now) (its_task c.args.tables.now c.args.task.now c.args.action.now c.args.event.now c.requires fills) ∙ same_refl c.args.task.now))
