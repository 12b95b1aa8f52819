-- The ends of an order, one step more.
use Rattle.std.proofs.Common.{◌≡◌, ◌<◌, ◌+◌, ℕ, List, true, false, length, refl, sym, ap, ◌∙◌, subst, arith, ◌⊎◌, Vec, Global}
use Rattle.tb_model.specs.declared.event.Event.{Event}
use Rattle.tb_model.specs.declared.item.Item.{Item}
use Rattle.tb_model.specs.Facts.{items_of}
use Rattle.tb_clocks.specs.Known.{HasId, parent_of}
use Rattle.tb_steps.specs.Entries.{Entry}
use Rattle.tb_races.specs.Orders.{Synchronised}
use Rattle.tb_lanes.specs.declared.lane_bound.LaneBound.{LaneBound}
use Rattle.tb_lanes.specs.Clocks.{IsEnd, Lanes, is_end_at}
use Rattle.tb_lanes.specs.Rows.{items_at, items_so}
use Rattle.tb_lanes.proofs.AfterLemmas.{at, at_read}
use Rattle.tb_lanes.proofs.OwnLemmas.{ev}
use Rattle.tb_lanes.proofs.RowLemmas.{end_back, end_less, end_more, end_there}
use Rattle.tb_stream.specs.declared.clocks.Clocks.{Clocks}
use Rattle.tb_stream.specs.declared.mark.Mark.{Mark}
use Rattle.tb_stream.specs.declared.order.Order.{Order}
use Rattle.tb_stream.specs.Ends.{AreRows, AreStored, IsChild, IsNoted}
use Rattle.tb_stream.specs.Joins.{IsOrder}
use Rattle.tb_stream.specs.Placing.{IsPlaced, OldEnds, with_step}
use Rattle.tb_stream.specs.Seen.{AreClocks, IsAdded, IsId, Run, front}
use Rattle.tb_stream.proofs.GrowLemmas.{bound_stays, lane_kept, rows_on, stored_on}
use Rattle.tb_stream.proofs.ListLemmas.{the_same}
use Rattle.tb_stream.proofs.NoteLemmas.{rows_so, step_back, step_there, stored_so}
use Rattle.tb_stream.proofs.SeenLemmas.{id_whole}

module _ (r : Run) (n : ℕ) (lanes : Lanes) (o : Order) (past : IsOrder r n lanes o) (w : n < length r.entries) (m : Mark)
    (placed : IsPlaced r n lanes o.clocks.rows.items m) where
  abbrev rows : List (Vec LaneBound Global)
  rows = o.clocks.rows.items

  abbrev next : Lanes
  next = with_step lanes n rows m

  -- the clocks have one step more
  pub old_ends : (new : Order) → new.clocks.rows ≡ o.clocks.rows → new.exclusion ≡ o.exclusion → new.ends ≡ o.ends → new.rows ≡ o.rows → OldEnds r n next new
  old_ends new same exclusion ends named = record {
    exclusion = exclusion ∙ past.exclusion;
    ends = subst (λ (rs : Vec (Vec LaneBound Global) Global). AreStored r (n + 1) next rs.items (IsEnd r.entries n) new.ends) (sym same)
        (subst (AreStored r (n + 1) next rows (IsEnd r.entries n)) (sym ends)
        (stored_on r n lanes next (lane_kept r n w lanes o.clocks past.clocks m placed) (bound_stays r n w lanes o.clocks past.clocks m placed) rows rows (λ i l. refl) (omega arith) (n + 1) (omega arith) (IsEnd r.entries n) o.ends past.ends));
    rows = subst (λ (rs : Vec (Vec LaneBound Global) Global). AreRows r (n + 1) next rs.items (IsNoted r n) new.rows.entries) (sym same)
        (subst (λ es. AreRows r (n + 1) next rows (IsNoted r n) es.entries) (sym named)
        (rows_on r n lanes next (lane_kept r n w lanes o.clocks past.clocks m placed) (bound_stays r n w lanes o.clocks past.clocks m placed) rows rows (λ i l. refl) (omega arith) (n + 1) (omega arith) (IsNoted r n) o.rows.entries past.rows));
  }

module _ (r : Run) (n : ℕ) (lanes : Lanes) (o : Order) (old : OldEnds r n lanes o) (m : Mark) (added : IsAdded r n lanes o.clocks m) where
  -- the step is no end
  pub order_on : is_end_at r.entries n ≡ false → IsOrder r (n + 1) lanes o
  order_on none = record {
    exclusion = old.exclusion;
    clocks = added.clocks_are;
    ends = stored_so r (n + 1) lanes o.clocks.rows.items (IsEnd r.entries n) (IsEnd r.entries (n + 1)) (end_there r.entries r.tasks n) (end_back r.entries r.tasks n none) o.ends old.ends;
    rows = rows_so r (n + 1) lanes o.clocks.rows.items (IsNoted r n) (IsNoted r (n + 1)) o.rows.entries (step_there r n 0) (step_back r n 0 none) old.rows;
  }

  -- it is one, and was noted
  pub order_over : is_end_at r.entries n ≡ true → (new : Order) → new.clocks ≡ o.clocks → new.exclusion ≡ o.exclusion
      → AreStored r (n + 1) lanes o.clocks.rows.items (λ x. IsEnd r.entries n x ⊎ (x ≡ n)) new.ends
      → AreRows r (n + 1) lanes o.clocks.rows.items (IsNoted r (n + 1)) new.rows.entries → IsOrder r (n + 1) lanes new
  order_over over new same exclusion ends rows = record {
    exclusion = exclusion ∙ old.exclusion;
    clocks = subst (AreClocks r (n + 1) lanes) (sym same) added.clocks_are;
    ends = subst (λ (c : Clocks). AreStored r (n + 1) lanes c.rows.items (IsEnd r.entries (n + 1)) new.ends) (sym same)
        (stored_so r (n + 1) lanes o.clocks.rows.items (λ x. IsEnd r.entries n x ⊎ (x ≡ n)) (IsEnd r.entries (n + 1)) (end_more r.entries r.tasks n over) (end_less r.entries r.tasks n) new.ends ends);
    rows = subst (λ (c : Clocks). AreRows r (n + 1) lanes c.rows.items (IsNoted r (n + 1)) new.rows.entries) (sym same) rows;
  }

-- ---- what the tables say of the task of the next step

module _ (r : Run) (n : ℕ) (w : n < length r.entries) where
  abbrev v : Event
  v = ev r.entries n w

  pub child_is : (g : ℕ) → HasId (front r n) g (parent_of v.task) → IsChild r g n
  child_is g id x read =
      subst (λ (y : Entry). IsId r g (parent_of y.event.task)) (the_same (at Synchronised r.entries n w) x (sym (at_read Synchronised r.entries n w) ∙ read)) (id_whole r n g (parent_of v.task) (omega (arith, w)) id)

  pub items_are : (items : List Item) → items ≡ items_of v.task (front r n) → items ≡ items_at r.entries n
  items_are items is = is ∙ sym (ap (items_so (front r n)) (at_read Synchronised r.entries n w))
