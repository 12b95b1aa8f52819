use Rattle.std.proofs.Common.{◌∙◌, sym, ap, is_some, arith}
use Rattle.std.proofs.lemmas.Bool.{ltb-false, ltb-true}
use Rattle.std.proofs.lemmas.List.{get_or_default}
use Rattle.tb_places.proofs.ClosingLemmas.{below_at, below_is}
use Rattle.tb_places.proofs.gaps.passed.Goals as goal

pub leap-requires-clause-next : goal.leap-requires-clause-next
leap-requires-clause-next c =
    let going = c.args.going.now in
    let within = ltb-true _ _ (sym c.in-Some.ensures.lookup.0) in
    let here = c.in-Some.ensures.lookup.1 ∙ get_or_default going c.args.next c.in-Some.gone.now 0 within in
    let more = below_at 0 going c.args.place c.args.next c.requires.rise within (omega (arith, here, c.if-gone-place.true)) in
    omega (arith, more)

pub returns-in_default : goal.returns-in_default
returns-in_default c =
    let going = c.args.going.now in
    sym (below_is 0 going c.args.place c.args.next c.requires.rise c.requires.next
    (λ within.
    let here = c.in-Some.ensures.lookup.1 ∙ get_or_default going c.args.next c.in-Some.gone.now 0 within in
    omega (arith, here, c.if-gone-place.false)))

pub returns-in_default-2 : goal.returns-in_default-2
returns-in_default-2 c =
    sym (below_is 0 c.args.going.now c.args.place c.args.next c.requires.rise c.requires.next (λ within. absurd (omega (arith, within, ltb-false _ _ (sym c.get.ensures.lookup.0 ∙ ap is_some c.in_default.is)))))
