use Rattle.std.proofs.Common.{rules, refl, sym, subst}
use Rattle.tb_model.specs.Names.{Name}
use Rattle.tb_next.specs.Plans.{IsClear, IsStepOf}
use Rattle.tb_next.proofs.ComingLemmas.{next_there, next_goes}
use Rattle.tb_live.proofs.EnteringLemmas.{kept_enters, full_enters, memory_enters, no_place, some_place}
use Rattle.tb_live.proofs.stepping.enter_step.Goals as goal

pub hindrance-requires-clause-there : goal.hindrance-requires-clause-there
hindrance-requires-clause-there c = next_there c.args.core.now.run c.args.task.now c.args.coming c.requires.next

pub hindrance-requires-clause-going : goal.hindrance-requires-clause-going
hindrance-requires-clause-going c = next_goes c.args.core.now.run c.args.task.now c.args.coming c.requires.next

pub returns-in-Some-hindrance-clause-entered : goal.returns-in-Some-hindrance-clause-entered
returns-in-Some-hindrance-clause-entered c p says current =
    kept_enters c.args.limit c.args.seat c.args.core.now.run c.args.task.now c.args.coming p c.args.journal.now.items c.args.control.now c.in-Some-hindrance.refusal says current c.in-Some-hindrance.ensures.some

pub returns-then-limit-len-clause-entered : goal.returns-then-limit-len-clause-entered
returns-then-limit-len-clause-entered c p says current =
    full_enters c.args.limit c.args.seat c.args.core.now.run c.args.task.now c.args.coming p c.args.journal.now.items c.args.control.now says current c.in_default-hindrance.ensures.none (no_place c.args.limit c.args.journal.now.items (search rules))

pub returns-in-Err-clause-entered : goal.returns-in-Err-clause-entered
returns-in-Err-clause-entered c p says current =
    memory_enters c.args.limit c.args.seat c.args.core.now.run c.args.core.now.run c.args.task.now c.args.coming p c.args.journal.now.items c.args.journal.now.items c.args.control.now c.args.control.now says c.in_default-hindrance.ensures.none refl refl refl (some_place c.args.limit c.args.journal.now.items (search rules))

pub enter_clear-requires-clause-clear : goal.enter_clear-requires-clause-clear
enter_clear-requires-clause-clear c =
    subst (λ (t : Name). IsClear c.args.core.now.run t c.args.coming) (sym c.in-Ok.ensures.cases) (record { next = c.requires.next; clear = c.in_default-hindrance.ensures.none })

pub returns-in-Ok-clause-entered : goal.returns-in-Ok-clause-entered
returns-in-Ok-clause-entered c p says current =
    c.enter_clear.ensures.entered p (subst (λ (t : Name). IsStepOf t c.args.coming p) (sym c.in-Ok.ensures.cases) says) current
