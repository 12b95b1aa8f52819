-- The ways of the lines from one on.
use Rattle.std.proofs.Common.{◌≡◌, ℕ, suc, ◌<◌, ◌≤◌, List, [], length, drop, replicate, slice_get, slice_index, slice_set, Some, arith, ap, sym, ◌∙◌, subst, ◌⊎◌, inl, inr}
use Rattle.std.proofs.lemmas.Bool.{cases_lt}
use Rattle.std.proofs.lemmas.List.{get_or-replicate, get_or-set_same, get_or-set_other, length-set, length-replicate}
use Rattle.tb_read.specs.Flow.{Line, Arrives, levels_over, levels, levels_behind, turn_of}
use Rattle.tb_read.specs.Flow.Arrives.{outside}
use Rattle.tb_read.specs.Ways.{AreWaysOf}
use Rattle.tb_read.specs.declared.level.Level.{Level}
use Rattle.tb_read.specs.declared.ways.Ways.{Ways}
use Rattle.tb_read.proofs.LevelLemmas.{levels_up, levels_none, turn_within}

-- each line from `at` on has its ways, and these blocks are open in front of it
pub record WaysFrom (lines : List Line) (at : ℕ) (arrivals bends : List ℕ) (blocks : List Level) : Type 0 where
  pub count : length arrivals ≡ suc (length lines)
  pub turn_count : length bends ≡ length lines
  pub opened : blocks ≡ levels at (drop at lines)
  pub arrives : (n : ℕ) → at ≤ n → n ≤ length lines → Arrives lines n (slice_index arrivals n)
  pub turns : (n : ℕ) → at ≤ n → n < length lines → slice_index bends n ≡ turn_of n (levels_behind lines n)

-- after the last line
pub ways_none : (lines : List Line) (arrivals turns : List ℕ) (blocks : List Level) → arrivals ≡ replicate (suc (length lines)) (length lines) → turns ≡ replicate (length lines) 0 → blocks ≡ [] →
    WaysFrom lines (length lines) arrivals turns blocks
ways_none lines arrivals turns blocks filled blank none = record {
  count = ap length filled ∙ length-replicate (suc (length lines)) (length lines);
  turn_count = ap length blank ∙ length-replicate (length lines) 0;
  opened = none ∙ sym (levels_none lines (length lines) (length lines) (omega arith));
  arrives = λ n low high.
      let here : slice_index arrivals n ≡ length lines = ap (λ items. slice_index items n) filled ∙ get_or-replicate (suc (length lines)) n (length lines) 0 (omega arith) in
      rw here (outside low);
  turns = λ n low high. absurd (omega arith);
}

-- one line up
module _ (lines : List Line) (at : ℕ) (arrivals turns : List ℕ) (blocks : List Level) (from : WaysFrom lines (suc at) arrivals turns blocks) (line : Line) (here : slice_get lines at ≡ Some line) (within : at < length lines)
    (stands turn : ℕ) (over : List Level) (arrives : Arrives lines at stands) (turned : turn ≡ turn_of at blocks) (passed : over ≡ levels_over at line blocks) where
  up_arrives : (n : ℕ) → at ≤ n → n ≤ length lines → Arrives lines n (slice_index (slice_set arrivals at stands) n)
  up_arrives n low high = by_order (cases_lt at n)
    where
      by_order : (at < n) ⊎ (n ≤ at) → Arrives lines n (slice_index (slice_set arrivals at stands) n)
      by_order (inl behind) = rw (get_or-set_other arrivals at n stands 0 (λ same. omega (arith, same, behind))) (from.arrives n behind high)
      by_order (inr early) =
          let same : at ≡ n = omega arith in
          subst (λ k. Arrives lines k (slice_index (slice_set arrivals at stands) k)) same (rw (get_or-set_same arrivals at stands 0 (omega (arith, from.count))) arrives)

  up_turns : (n : ℕ) → at ≤ n → n < length lines → slice_index (slice_set turns at turn) n ≡ turn_of n (levels_behind lines n)
  up_turns n low high = by_order (cases_lt at n)
    where
      by_order : (at < n) ⊎ (n ≤ at) → slice_index (slice_set turns at turn) n ≡ turn_of n (levels_behind lines n)
      by_order (inl behind) = get_or-set_other turns at n turn 0 (λ same. omega (arith, same, behind)) ∙ from.turns n behind high
      by_order (inr early) =
          let same : at ≡ n = omega arith in
          subst (λ k. slice_index (slice_set turns at turn) k ≡ turn_of k (levels_behind lines k)) same (get_or-set_same turns at turn 0 (omega (arith, from.turn_count)) ∙ turned ∙ ap (turn_of at) from.opened)

  pub ways_up : WaysFrom lines at (slice_set arrivals at stands) (slice_set turns at turn) over
  ways_up = record {
    count = length-set arrivals at stands ∙ from.count;
    turn_count = length-set turns at turn ∙ from.turn_count;
    opened = passed ∙ ap (levels_over at line) from.opened ∙ sym (levels_up lines at line here at);
    arrives = up_arrives;
    turns = up_turns;
  }

-- from the first line on
pub ways_all : (lines : List Line) (ways : Ways) (blocks : List Level) → WaysFrom lines 0 ways.arrivals.items ways.turns.items blocks → AreWaysOf lines ways
ways_all lines ways blocks from = record {
  count = from.count;
  arrives = λ n high. from.arrives n (omega arith) high;
  turn_count = from.turn_count;
  turns = λ n within. from.turns n (omega arith) within;
  turns_within = λ n within. let lies = turn_within lines n within in omega (arith, lies.below, from.turns n (omega arith) within);
}
