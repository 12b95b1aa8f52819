use Rattle.std.proofs.Common.{◌≡◌, ◌<◌, ◌-◌, length, reverse, take, sym, ap, ◌∙◌, arith, subst}
use Rattle.std.proofs.lemmas.Result.{IfOk-weaker}
use Rattle.std.proofs.lemmas.List.{get_or-reverse, length-reverse}
use Rattle.tb_cause.specs.Nearest.{nearest}
use Rattle.tb_steps.specs.Entries.{Entry}
use Rattle.tb_steps.specs.Scans.{history_of}
use Rattle.tb_races.specs.Orders.{AllNeeds}
use Rattle.tb_lanes.specs.Clocks.{AreOrdinals}
use Rattle.tb_lanes.specs.Needing.{place_at}
use Rattle.tb_lanes.proofs.AfterLemmas.{at, at_read}
use Rattle.tb_order.proofs.CauseLemmas.{causes_told, places_near}
use Rattle.tb_order.proofs.DirectLemmas.{direct_nearest}
use Rattle.tb_order.proofs.EdgeLemmas.{edges_more}
use Rattle.tb_lanes.proofs.FrontLemmas.{entry_read}
use Rattle.tb_order.proofs.edge_walk.EdgeWalk.next.Goals as goal
use Rattle.tb_steps.proofs.FirstLemmas.{some_same, there}

pub causes_of-requires-clause-low : goal.causes_of-requires-clause-low
causes_of-requires-clause-low c i l =
    let places = c.in_ok-places.places.items in
    let same : c.deref-2.result.now ≡ reverse places = c.deref-2.ensures.value ∙ c.reverse.ensures.items in
    let inside : i < length places = omega (arith, l, ap length same, length-reverse places) in
    let j = length places - 1 - i in
    let here : place_at c.deref-2.result.now i ≡ place_at places j = ap (λ xs. place_at xs i) same ∙ get_or-reverse places i 0 inside in
    omega (arith, here, (c.in_ok-places.ensures.places.each j (omega (arith, inside))).front)

pub causes_of-requires-clause-near : goal.causes_of-requires-clause-near
causes_of-requires-clause-near c v v_is i l =
    let entries = c.args.entries.now in
    let n = c.args.at in
    let w = c.requires.at in
    let F = history_of (take n entries) in
    let same : at AllNeeds entries n w ≡ v = some_same _ _ (sym (at_read AllNeeds entries n w) ∙ entry_read entries n v w v_is) in
    let near =
    c.deref-2.ensures.value ∙ c.reverse.ensures.items ∙ ap reverse (direct_nearest entries n w c.in_ok-places.places.items c.in_ok-places.ensures.places) ∙ ap (λ (e : Entry). reverse (nearest F e.event F)) same in
    places_near (take n entries) v.event c.deref-2.result.now near i 0 l

pub named-requires-clause-told : goal.named-requires-clause-told
named-requires-clause-told c =
    let entries = c.args.entries.now in
    subst (AreOrdinals entries (length entries)) (sym c.deref-3.ensures.value) c.requires.walk.told

pub returns-clause-edges : goal.returns-clause-edges
returns-clause-edges c =
    let entries = c.args.entries.now in
    let n = c.args.at in
    let w = c.requires.at in
    let x = there entries n w in
    let near =
    c.deref-2.ensures.value ∙ c.reverse.ensures.items ∙ ap reverse (direct_nearest entries n w c.in_ok-places.places.items c.in_ok-places.ensures.places) in
    let causes = causes_told (take n entries) x.0.event c.deref-2.result.now near c.in_ok-causes.causes.items (c.in_ok-causes.ensures x.0 x.1) in
    IfOk-weaker c.edges_of.result _ _
    (λ edges are. edges_more entries n x.0 w x.1 c.in_ok-later.later c.in_ok-later.ensures _ (c.deref-4.ensures.value ∙ causes) edges.items are)
    c.edges_of.ensures
