use Rattle.std.proofs.Common.{◌≡◌, ◌<◌, ◌≤◌, ◌-◌, ℕ, length, false}
use Rattle.std.specs.Prelude.{slice_index}
use Rattle.std.specs.declared.cmp.Ordering.TheVariants.{Less}
use Rattle.std.specs.Ordering.{is_lt}
use Rattle.tb_model.specs.Names.{name_cmp}
use Rattle.tb_ready.specs.Layout.{name_at}
use Rattle.tb_ready.proofs.order.place_of.Given as goal

-- lesser names in front of the half that is left, and none after it
abbrev pub invariant-halves : goal.invariant-halves
invariant-halves l = record {
  low : l.low ≤ l.high;
  high : l.high ≤ length l.order.items;
  below : (a : ℕ) → a < l.low → name_cmp (name_at l.names.tasks (slice_index l.order.items a)) l.name ≡ Less;
  above : (a : ℕ) → l.high ≤ a → a < length l.order.items → is_lt (name_cmp (name_at l.names.tasks (slice_index l.order.items a)) l.name) ≡ false;
}

abbrev pub decreases-halves : goal.decreases-halves
decreases-halves l = l.high - l.low
