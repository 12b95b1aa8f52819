use Rattle.std.proofs.Common.{◌≡◌, ◌≢◌, ◌<◌, ◌-◌, Some, length, sym, ap, ◌∙◌, arith, eq-eqb, ⊎_elim, le-leb}
use Rattle.std.proofs.lemmas.Bool.{both_ways, cases_lt}
use Rattle.tb_lanes.specs.Clocks.{kept_in}
use Rattle.tb_lanes.specs.Kept.{slot_of}
use Rattle.tb_lanes.specs.Needing.{place_at}
use Rattle.tb_lanes.proofs.FrontLemmas.{entry_read}
use Rattle.tb_order.proofs.PendingLemmas.{covered_by}
use Rattle.tb_order.proofs.pending.is_current.Goals as goal
use Rattle.tb_steps.proofs.FirstLemmas.{there}

pub returns-else-is_empty : goal.returns-else-is_empty
returns-else-is_empty c late =
    let entries = c.args.entries.now in
    let q = c.args.early in
    let u = there entries q c.requires.early in
    let i = c.in-Some.slot in
    let slot : slot_of u.0.event.action ≡ Some i = ap slot_of (sym (c.action.ensures u.0 u.1)) ∙ sym c.slot_of.ensures ∙ c.in-Some.is in
    let given = c.places_in-writes.result.now in
    let writes = kept_in c.args.kept.now.writes.items i in
    let same : given ≡ writes = c.places_in-writes.ensures ∙ ap (λ r. kept_in r i) c.deref.ensures.value in
    let some : length given ≢ 0 = λ e. both_ways c.is_empty.result c.if-is_empty.false (c.is_empty.ensures ∙ eq-eqb (length given) 0 e) in
    let j = length given - 1 in
    let inside : j < length writes = omega (arith, some, ap length same) in
    let x = place_at given j in
    let is = c.requires.kept i in
    let after : q < x = ⊎_elim (λ l. l) (λ l. absurd (both_ways _ late (le-leb x q l))) (cases_lt q x) in
    let at = ap (λ xs. place_at xs j) same in
    let w = is.writes_in j inside in
    covered_by entries c.args.from q (place_at writes j) i u.0 (entry_read entries q u.0 c.requires.early u.1) slot (omega (arith, after, at)) w.0 w.1 w.2
