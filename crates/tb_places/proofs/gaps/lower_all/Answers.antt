use Rattle.std.proofs.Common.{◌<◌, ◌-◌, length, get_or, set, refl, arith}
use Rattle.tb_places.proofs.ClosingLemmas.{all_below, below_few, lowers_first, lowers_on, same_here}
use Rattle.tb_places.proofs.gaps.lower_all.Goals as goal

pub loop-at-init : goal.loop-at-init
loop-at-init c = lowers_first c.args.going.now c.args.places.now c.requires.going c.requires.places c.requires.behind

pub overflow_cast-places : goal.overflow_cast-places
overflow_cast-places c =
    let l = c.loop-at in
    let within : l.at < length c.args.places.now = omega arith in
    let all = all_below c.args.going.now c.args.places.now 0 l.places l.at l.at l.invariant within in
    let few = below_few c.args.going.now (get_or c.args.places.now l.at 0) c.requires.going in
    let same = same_here c.args.going.now c.args.places.now 0 l.places l.at l.at (length c.args.going.now) l.invariant within in
    omega (arith, all, few, same)

pub overflow_sub-places : goal.overflow_sub-places
overflow_sub-places c =
    let l = c.loop-at in
    let within : l.at < length c.args.places.now = omega arith in
    let all = all_below c.args.going.now c.args.places.now 0 l.places l.at l.at l.invariant within in
    let few = below_few c.args.going.now (get_or c.args.places.now l.at 0) c.requires.going in
    let same = same_here c.args.going.now c.args.places.now 0 l.places l.at l.at (length c.args.going.now) l.invariant within in
    omega (arith, all, few, same)

pub loop-at-preserved : goal.loop-at-preserved
loop-at-preserved c =
    let l = c.loop-at in
    let going = c.args.going.now in
    let old = c.args.places.now in
    let x = get_or l.places l.at 0 in
    let within : l.at < length old = omega arith in
    let same = same_here going old 0 l.places l.at l.at (length going) l.invariant within in
    lowers_on going old 0 l.places l.at l.at x l.invariant c.requires.going c.requires.places within same (set l.places l.at (x - length going)) refl
