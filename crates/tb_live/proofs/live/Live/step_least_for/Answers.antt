use Rattle.std.proofs.Common.{subst, ap, sym, Option, Some}
use Rattle.std.specs.Prelude.{IfSome}
use Rattle.tb_model.specs.Names.{Name}
use Rattle.tb_next.specs.declared.coming.Coming.{Coming}
use Rattle.tb_live.specs.Moves.{LeastStepsFor}
use Rattle.tb_next.specs.Plans.{IsLeastComing}
use Rattle.tb_live.specs.Session.{Held}
use Rattle.tb_live.proofs.LeastStepLemmas.{clear_found, keeps_found, answer_found, floor_found}
use Rattle.tb_live.proofs.RunLemmas.{shown}
use Rattle.tb_live.proofs.StepLemmas.{longer}
use Rattle.tb_live.proofs.live.Live.step_least_for.Goals as goal

pub enter_clear-requires-clause-clear : goal.enter_clear-requires-clause-clear
enter_clear-requires-clause-clear c =
    let i = c.self.inside in
    let ready = subst (λ (o : Option (Name × Coming)). IfSome o (λ r. IsLeastComing i.program i.core.run (Some r))) c.in-Ok-Some.field-0-is c.in-Ok-Some.ensures.least in
    clear_found c.args.seat i.program i.limit i.journal.items i.control i.core.run c.self.invariant.0 c.in-Ok-Some.found ready

pub enter_clear-requires-clause-shorter : goal.enter_clear-requires-clause-shorter
enter_clear-requires-clause-shorter c =
    let i = c.self.inside in
    longer i.program i.limit i.journal.items i.core.run c.self.invariant.0

pub invariant_of-self : goal.invariant_of-self
invariant_of-self c =
    let i = c.self.inside in
    let ready = subst (λ (o : Option (Name × Coming)). IfSome o (λ r. IsLeastComing i.program i.core.run (Some r))) c.in-Ok-Some.field-0-is c.in-Ok-Some.ensures.least in
    let new = c.enter_clear.new in
    let keeps = keeps_found c.args.seat i.program i.limit i.journal.items i.control i.core.run c.self.invariant.0 c.in-Ok-Some.found ready new.journal.items new.control new.core.run c.enter_clear.result c.enter_clear.ensures.entered c.self.invariant.1 in (
      keeps.sound,
      keeps.lawful,
      c.enter_clear.ensures.serves i.program c.self.invariant.2,
      floor_found c.args.seat i.program i.limit i.journal.items i.control i.core.run c.self.invariant.0 c.in-Ok-Some.found ready new.journal.items new.control new.core.run c.enter_clear.result c.enter_clear.ensures.entered
          i.floor new.floor c.enter_clear.ensures.carried c.enter_clear.ensures.stays c.self.invariant.3,
    )

pub returns-in-Ok-Some-clause-stepped : goal.returns-in-Ok-Some-clause-stepped
returns-in-Ok-Some-clause-stepped c =
    let i = c.self.inside in
    let ready = subst (λ (o : Option (Name × Coming)). IfSome o (λ r. IsLeastComing i.program i.core.run (Some r))) c.in-Ok-Some.field-0-is c.in-Ok-Some.ensures.least in
    let new = c.enter_clear.new in
    subst (LeastStepsFor c.args.seat c.args.self.now.session (shown i.program i.limit new.journal.items new.control)) (sym c.for_least.ensures)
    (answer_found c.args.seat i.program i.limit i.journal.items i.control i.core.run c.self.invariant.0 c.in-Ok-Some.found ready new.journal.items new.control new.core.run c.enter_clear.result c.enter_clear.ensures.entered
    c.args.self.now.session (ap (λ (h : Held). h.session) c.self.view_is) c.self.invariant.1)

pub enter_apart-requires-clause-clear : goal.enter_apart-requires-clause-clear
enter_apart-requires-clause-clear c =
    let i = c.self.inside in
    let ready = subst (λ (o : Option (Name × Coming)). IsLeastComing i.program i.core.run o) c.in-Ok-Some-least_behind.field-0-is c.in-Ok-Some-least_behind.ensures.least in
    clear_found c.args.seat i.program i.limit i.journal.items i.control i.core.run c.self.invariant.0 c.in-Ok-Some-least_behind.found ready

pub enter_apart-requires-clause-shorter : goal.enter_apart-requires-clause-shorter
enter_apart-requires-clause-shorter c =
    let i = c.self.inside in
    longer i.program i.limit i.journal.items i.core.run c.self.invariant.0

pub invariant_of-self-in-Ok-Some-least_behind : goal.invariant_of-self-in-Ok-Some-least_behind
invariant_of-self-in-Ok-Some-least_behind c =
    let i = c.self.inside in
    let ready = subst (λ (o : Option (Name × Coming)). IsLeastComing i.program i.core.run o) c.in-Ok-Some-least_behind.field-0-is c.in-Ok-Some-least_behind.ensures.least in
    let new = c.enter_apart.new in
    let keeps = keeps_found c.args.seat i.program i.limit i.journal.items i.control i.core.run c.self.invariant.0 c.in-Ok-Some-least_behind.found ready new.journal.items new.control new.core.run c.enter_apart.result c.enter_apart.ensures.entered c.self.invariant.1 in (
      keeps.sound,
      keeps.lawful,
      c.enter_apart.ensures.serves i.program c.self.invariant.2,
      floor_found c.args.seat i.program i.limit i.journal.items i.control i.core.run c.self.invariant.0 c.in-Ok-Some-least_behind.found ready new.journal.items new.control new.core.run c.enter_apart.result c.enter_apart.ensures.entered
          c.least_behind.new.floor new.floor c.enter_apart.ensures.carried c.enter_apart.ensures.stays c.least_behind.ensures.floor,
    )

pub returns-in-Ok-Some-least_behind-clause-stepped : goal.returns-in-Ok-Some-least_behind-clause-stepped
returns-in-Ok-Some-least_behind-clause-stepped c =
    let i = c.self.inside in
    let ready = subst (λ (o : Option (Name × Coming)). IsLeastComing i.program i.core.run o) c.in-Ok-Some-least_behind.field-0-is c.in-Ok-Some-least_behind.ensures.least in
    let new = c.enter_apart.new in
    subst (LeastStepsFor c.args.seat c.args.self.now.session (shown i.program i.limit new.journal.items new.control)) (sym c.for_least-in-Ok-Some-least_behind.ensures)
    (answer_found c.args.seat i.program i.limit i.journal.items i.control i.core.run c.self.invariant.0 c.in-Ok-Some-least_behind.found ready new.journal.items new.control new.core.run c.enter_apart.result c.enter_apart.ensures.entered
    c.args.self.now.session (ap (λ (h : Held). h.session) c.self.view_is) c.self.invariant.1)

pub returns-in-Err-least_behind-clause-stepped : goal.returns-in-Err-least_behind-clause-stepped
returns-in-Err-least_behind-clause-stepped c =
    let i = c.self.inside in
    let s = shown i.program i.limit i.journal.items i.control in
    subst (λ was. LeastStepsFor c.args.seat was s c.least_refused.result) (ap (λ (h : Held). h.session) c.self.view_is) (c.least_refused.ensures c.args.seat)

pub returns-in-Err-clause-stepped : goal.returns-in-Err-clause-stepped
returns-in-Err-clause-stepped c = c.least_refused-in-Err.ensures c.args.seat
