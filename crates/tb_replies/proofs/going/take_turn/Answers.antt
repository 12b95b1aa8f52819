use Rattle.std.proofs.Common.{◌≡◌, false, refl, subst, rules, Option, Ok}
use Rattle.tb_model.specs.declared.step_id.StepId.{StepId}
use Rattle.tb_live.specs.Modes.{is_paused}
use Rattle.tb_live.specs.Moves.{LeastStepsFor}
use Rattle.tb_replies.proofs.AloneLemmas.{none_steps, turn_taken}
use Rattle.tb_replies.proofs.going.take_turn.Goals as goal

pub returns-in-Ok-Some : goal.returns-in-Ok-Some
returns-in-Ok-Some c =
    let s = c.args.live.now.session in
    let new = c.step_least_for.new.self.session in
    let on : is_paused s.control.mode ≡ false = search rules in
    turn_taken s c.requires.free on new c.in-Ok-Some.id c.args.text.now c.append_newest.new.text
    (subst (λ (o : Option StepId). LeastStepsFor 1 s new (Ok o)) c.in-Ok-Some.field-0-is c.in-Ok-Some.ensures.stepped) c.in_ok-append_newest-in-Ok-Some.ensures

pub returns-in-Ok-None : goal.returns-in-Ok-None
returns-in-Ok-None c =
    let s = c.args.live.now.session in
    let new = c.step_least_for.new.self.session in
    let over = none_steps s new (subst (λ (o : Option StepId). LeastStepsFor 1 s new (Ok o)) c.in-Ok-None.field-0-is c.in-Ok-None.ensures.stepped) in
    (over.0, refl, over.1)
