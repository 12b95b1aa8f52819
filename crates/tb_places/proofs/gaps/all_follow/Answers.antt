use Rattle.std.proofs.Common.{ltb-true}
use Rattle.tb_places.proofs.ClosingLemmas.{all_passed}
use Rattle.tb_places.proofs.gaps.all_follow.Goals as goal

pub returns-in-Some-Some : goal.returns-in-Some-Some
returns-in-Some-Some c less =
    let w = c.in-Some-Some in
    all_passed c.args.going.now c.args.places.now w.last.now w.first.now c.requires w.ensures.value w.ensures'.value (ltb-true _ _ less)
