-- The ways of a text.
use Rattle.std.specs.Prelude.{◌≡◌, ℕ, suc, ◌<◌, ◌≤◌, List, length, slice_index}
use Rattle.tb_read.specs.Flow.{Line, Arrives, levels_behind, turn_of}
use Rattle.tb_read.specs.declared.ways.Ways.{Ways}

-- each line has where control is that comes there, and where the block turns that is open after it
pub record AreWaysOf (lines : List Line) (ways : Ways) : Type 0 where
  pub count : length ways.arrivals.items ≡ suc (length lines)
  pub arrives : (n : ℕ) → n ≤ length lines → Arrives lines n (slice_index ways.arrivals.items n)
  pub turn_count : length ways.turns.items ≡ length lines
  pub turns : (n : ℕ) → n < length lines → slice_index ways.turns.items n ≡ turn_of n (levels_behind lines n)
  pub turns_within : (n : ℕ) → n < length lines → slice_index ways.turns.items n < length lines
