use Rattle.std.proofs.Common.{◌≡◌, ◌∙◌, ◌<◌, ◌-◌, length, drop, get_or, set, refl, sym, ap, arith}
use Rattle.tb_places.specs.Renumbering.{below, goes_at}
use Rattle.tb_places.proofs.ClosingLemmas.{all_below, below_few, lowers_gone, lowers_kept, lowers_on, lowers_rest, same_here}
use Rattle.tb_places.proofs.gaps.lower.Goals.{then-goes, else-goes, then-pass-test+else-next-going, else-pass-test}
use Rattle.tb_places.proofs.gaps.lower.Goals as goal

pub passed-next-requires-clause-next : goal.passed-next-requires-clause-next
passed-next-requires-clause-next c =
    let l = c.pass in
    let within : l.at < length c.args.places.now = omega arith in
    let same = same_here c.args.going.now c.args.places.now c.args.from l.places l.at l.stay l.next l.invariant within in
    rw same (l.invariant.behind l.at (omega arith) within)

pub overflow_cast-places : goal.overflow_cast-places
overflow_cast-places c =
    let few = below_few c.args.going.now (get_or c.pass.places c.pass.at 0) c.requires.going in
    omega (arith, few, c.passed-next.ensures)

pub overflow_sub-places : goal.overflow_sub-places
overflow_sub-places c =
    let few = below_few c.args.going.now (get_or c.pass.places c.pass.at 0) c.requires.going in
    omega (arith, few, c.passed-next.ensures)

pub pass-preserved : goal.pass-preserved
pass-preserved c =
    let l = c.pass in
    let going = c.args.going.now in
    let old = c.args.places.now in
    let x = get_or l.places l.at 0 in
    let within : l.at < length old = omega arith in
    let same = same_here going old c.args.from l.places l.at l.stay l.next l.invariant within in
    let next = c.passed-next.ensures in
    let goes : goes_at x (drop (below going x) going) ≡ c.goes.result = ap (λ n. goes_at x (drop n going)) (sym next) ∙ sym c.goes.ensures.goes in
    elim c.if-goes.branch [
      | then-goes w ↦
          rw (w.places-is, w.stay-is, w.next-is, next) (lowers_gone going old c.args.from l.places l.at l.stay l.next x l.invariant c.requires.going c.requires.places within same (goes ∙ w.if-goes.true))
      | else-goes w ↦
          rw (w.places-is, w.stay-is, w.next-is, next) (lowers_kept going old c.args.from l.places l.at l.stay l.next x l.invariant c.requires.going c.requires.places within same (goes ∙ w.if-goes.false)
          (set l.places l.stay (x - below going x)) refl)
    ]

pub rest-init : goal.rest-init
rest-init c =
    let l = c.pass in
    lowers_rest c.args.going.now c.args.places.now c.args.from l.places l.at l.stay l.next l.invariant
    (λ less. elim c.pass-test.branch [
      | then-pass-test+else-next-going w ↦ omega (arith, w.if-next-going.false)
      | else-pass-test w ↦ absurd (omega (arith, less, w.pass-test.false, l.invariant.len))
    ])

pub overflow_cast-places-in-rest : goal.overflow_cast-places-in-rest
overflow_cast-places-in-rest c =
    let l = c.rest in
    let within : l.at < length c.args.places.now = omega (arith, c.rest-test.true, l.invariant.len) in
    let all = all_below c.args.going.now c.args.places.now c.args.from l.places l.at l.stay l.invariant within in
    let few = below_few c.args.going.now (get_or c.args.places.now l.at 0) c.requires.going in
    let same = same_here c.args.going.now c.args.places.now c.args.from l.places l.at l.stay (length c.args.going.now) l.invariant within in
    omega (arith, all, few, same)

pub overflow_sub-places-in-rest : goal.overflow_sub-places-in-rest
overflow_sub-places-in-rest c =
    let l = c.rest in
    let within : l.at < length c.args.places.now = omega (arith, c.rest-test.true, l.invariant.len) in
    let all = all_below c.args.going.now c.args.places.now c.args.from l.places l.at l.stay l.invariant within in
    let few = below_few c.args.going.now (get_or c.args.places.now l.at 0) c.requires.going in
    let same = same_here c.args.going.now c.args.places.now c.args.from l.places l.at l.stay (length c.args.going.now) l.invariant within in
    omega (arith, all, few, same)

pub rest-preserved : goal.rest-preserved
rest-preserved c =
    let l = c.rest in
    let going = c.args.going.now in
    let old = c.args.places.now in
    let x = get_or l.places l.at 0 in
    let within : l.at < length old = omega (arith, c.rest-test.true, l.invariant.len) in
    let same = same_here going old c.args.from l.places l.at l.stay (length going) l.invariant within in
    let new = set l.places l.stay (x - length going) in
    lowers_on going old c.args.from l.places l.at l.stay x l.invariant c.requires.going c.requires.places within same new refl
