use Rattle.std.proofs.Common.{◌<◌, ◌++◌, ◌∷◌, [], Some, is_some, length, map, take, sym, ap, ap₂, ◌∙◌, arith}
use Rattle.std.proofs.lemmas.List.{map-append, take_more}
use Rattle.tb_races.specs.declared.cause.Cause.{Cause}
use Rattle.tb_lanes.specs.Needing.{place_at}
use Rattle.tb_order.specs.Told.{told}
use Rattle.tb_order.proofs.CauseLemmas.{has_kind, told_as}
use Rattle.tb_lanes.proofs.FrontLemmas.{entry_read, front_length, front_read, front_step}
use Rattle.tb_order.proofs.immediate_all.causes_of.Goals as goal
use Rattle.tb_steps.proofs.FirstLemmas.{there}

pub unwrap-kind-requires : goal.unwrap-kind-requires
unwrap-kind-requires c =
    let entries = c.args.entries.now in
    let n = c.args.at in
    let w = c.requires.at in
    let q = place_at c.args.places.now c.loop-place.place-index in
    let l : q < n = c.requires.low c.loop-place.place-index c.loop-place-test.true in
    let i : q < length entries = omega (arith, l, w) in
    let x = there entries n w in
    let y = there entries q i in
    ap is_some (c.kind_at.ensures x.0 y.0 (entry_read entries n x.0 w x.1) (entry_read entries q y.0 i y.1))
    ∙ has_kind (take n entries) x.0.event q y.0 (front_length entries n q l w) (front_read entries n q y.0 l y.1) (c.requires.near x.0 x.1 c.loop-place.place-index c.loop-place-test.true)

pub loop-place-preserved : goal.loop-place-preserved
loop-place-preserved c v v_is =
    let entries = c.args.entries.now in
    let n = c.args.at in
    let w = c.requires.at in
    let places = c.args.places.now in
    let k = c.loop-place.place-index in
    let q = place_at places k in
    let l : q < n = c.requires.low k c.loop-place-test.true in
    let i : q < length entries = omega (arith, l, w) in
    let y = there entries q i in
    let front = take n entries in
    let kind = sym (c.kind_at.ensures v y.0 (entry_read entries n v w v_is) (entry_read entries q y.0 i y.1)) ∙ c.unwrap-kind.ensures in
    let this =
    told_as front v.event q y.0 (front_length entries n q l w) (front_read entries n q y.0 l y.1) (c.requires.near v v_is k c.loop-place-test.true) c.unwrap-kind.result kind c.in_ok-step.step (front_step entries n q y.0 l w y.1 ∙ c.in_ok-step.ensures) in
    ap (map (λ (x : Cause). Some x)) c.in_ok-push.ensures.items
    ∙ map-append (λ (x : Cause). Some x) c.loop-place.causes.items (record { kind = c.unwrap-kind.result; step = c.in_ok-step.step } ∷ [])
    ∙ ap₂ (λ xs o. xs ++ o ∷ []) (c.loop-place.invariant v v_is) (sym this)
    ∙ sym (ap (map (told front v.event)) (take_more places k 0 c.loop-place-test.true) ∙ map-append (told front v.event) (take k places) (q ∷ []))
