use Rattle.std.proofs.Common.{◌≡◌, ◌<◌, ◌≤◌, ℕ, length}
use Rattle.std.specs.Prelude.{slice_index}
use Rattle.std.specs.VecDeque.{deque_capacity}
use Rattle.tb_ready.specs.Order.{moved_up}
use Rattle.tb_ready.proofs.gapped.lower_above.Given as goal

-- the indexes so far have moved, and the others are there
abbrev pub invariant-loop-k : goal.invariant-loop-k
invariant-loop-k l = record {
  len : length l.ring.items ≡ length l.fn.ring.items;
  capacity : deque_capacity l.ring ≡ deque_capacity l.fn.ring;
  moved : (a : ℕ) → a < l.k → slice_index l.ring.items a ≡ moved_up l.gone (slice_index l.fn.ring.items a);
  rest : (a : ℕ) → l.k ≤ a → slice_index l.ring.items a ≡ slice_index l.fn.ring.items a;
}
