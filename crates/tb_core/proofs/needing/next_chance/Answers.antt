use Rattle.std.proofs.Common.{◌<◌, ◌∙◌, length, ap, sym, subst, arith}
use Rattle.tb_model.specs.Facts.{is_end, is_of}
use Rattle.tb_core.specs.Lending.{IsNoneBetween}
use Rattle.tb_core.specs.Needing.{meets}
use Rattle.tb_steps.proofs.FirstLemmas.{there}
use Rattle.tb_core.proofs.NeedingLemmas.{none_needs}
use Rattle.tb_core.proofs.needing.next_chance.Goals as goal

pub next_wait-requires-clause-end : goal.next_wait-requires-clause-end
next_wait-requires-clause-end c = λ e here. ap is_end (sym (c.action-action.ensures e here)) ∙ sym c.is_end.ensures ∙ c.if-is_end.true

pub returns-clause-none : goal.returns-clause-none
returns-clause-none c =
    let es = c.args.entries.now in
    let at = c.args.at in
    let from = c.args.from in
    let own = c.next_of-own.result in
    let next = c.next_met.result in
    let within : at < length es = omega (arith, c.requires.at, c.requires.from) in
    let u = there es at within in
    let action = c.action-action.ensures u.0 u.1 in
    none_needs es at from own next c.min.result u.0 within u.1 (ap is_end (sym action) ∙ sym c.is_end.ensures ∙ c.if-is_end.false) (omega (arith, c.min.ensures)) (omega (arith, c.min.ensures))
    (subst (λ t. IsNoneBetween (is_of t) es from own) (c.task.ensures u.0 u.1) c.next_of-own.ensures.none) (subst (λ a. IsNoneBetween (meets a) es from next) action c.next_met.ensures.none)
