use Rattle.std.proofs.Common.{Some, None, refl, sym, ◌∙◌, subst, arith}
use Rattle.tb_lanes.specs.Clocks.{origin}
use Rattle.tb_stream.specs.Seen.{IsOf, IsOrigin}
use Rattle.tb_stream.proofs.ReachLemmas.{origin_reach_none, origin_reach_some}
use Rattle.tb_stream.proofs.joining.origin_reaches.Goals as goal

pub returns-in-Some : goal.returns-in-Some
returns-in-Some c r n lanes are next mark =
    let of = subst (λ p. IsOf r p c.args.step.task) (sym next.at) next.task in
    let from = c.in-Some.ensures.origin r n lanes are (omega (arith, next.at)) (omega (arith, next.at, next.within)) of in
    let here = subst (λ p. IsOrigin r n lanes c.args.clocks.now.rows.items (Some c.in-Some.origin) (origin r.tasks p)) next.at from in
    c.reaches.ensures r n lanes are from.0 mark
    ∙ sym (origin_reach_some r n lanes c.args.clocks.now.rows.items c.args.early mark are.within (Some c.in-Some.origin) c.in-Some.origin refl here)

pub returns-in-None : goal.returns-in-None
returns-in-None c r n lanes are next mark =
    let of = subst (λ p. IsOf r p c.args.step.task) (sym next.at) next.task in
    let from = c.in-None.ensures.origin r n lanes are (omega (arith, next.at)) (omega (arith, next.at, next.within)) of in
    let here = subst (λ p. IsOrigin r n lanes c.args.clocks.now.rows.items None (origin r.tasks p)) next.at from in
    sym (origin_reach_none r n lanes c.args.clocks.now.rows.items c.args.early mark are.within None refl here)
