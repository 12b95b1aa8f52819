-- Which step comes after which, by their marks.
use Rattle.std.proofs.Common.{◌≡◌, ◌<◌, ◌≤◌, ◌-◌, ◌==◌, ◌||◌, ◌&&◌, ℕ, suc, List, Bool, true, false, length, nat_lt, nat_le, ap, ap₂, ◌∙◌, subst, arith, Option, Some, None, Vec, Global}
use Rattle.tb_lanes.specs.declared.lane_bound.LaneBound.{LaneBound}
use Rattle.tb_lanes.specs.Bounds.{bound_in}
use Rattle.tb_lanes.specs.Clocks.{Lanes, is_below, is_told, origin, origin_reaches, reaches, row_in}
use Rattle.tb_lanes.proofs.JoinLemmas.{from_origin, not_from_origin, not_reached, reached_above, reached_below, reached_not}
use Rattle.tb_stream.specs.declared.clocks.Clocks.{Clocks}
use Rattle.tb_stream.specs.declared.mark.Mark.{Mark}
use Rattle.tb_stream.specs.Seen.{AreClocks, IsFull, IsMark, IsNext, IsOrigin, Run, order}

-- what a row and a lane say of a step
pub below_is : (r : Run) (n : ℕ) (lanes : Lanes) (rows : List (Vec LaneBound Global)) (m early : Mark) → IsFull r n lanes rows m → IsMark n lanes early
    → (b : ℕ) → b ≡ bound_in (row_in rows m.row) early.lane
    → ((m.lane == early.lane && nat_le early.at m.at) || nat_lt early.at b) ≡ is_below lanes (lanes.bound m.at) (lanes.lane m.at) m.at early.at
below_is r n lanes rows m early full mark b e =
    ap₂ (λ k j. (k == j && nat_le early.at m.at) || nat_lt early.at b) full.mark.lane mark.lane
    ∙ ap (λ x. (lanes.lane m.at == lanes.lane early.at && nat_le early.at m.at) || nat_lt early.at x) (e ∙ ap₂ (λ row k. row k) full.bounds mark.lane)

module _ (r : Run) (n : ℕ) (lanes : Lanes) (clocks : Clocks) (are : AreClocks r n lanes clocks) (m early : Mark)
    (full : IsFull r n lanes clocks.rows.items m) (mark : IsMark n lanes early) where
  pub reach_below : is_below lanes (lanes.bound m.at) (lanes.lane m.at) m.at early.at ≡ true → reaches (order r) r.entries m.at early.at ≡ true
  reach_below h = reached_below (order r) r.entries r.tasks n lanes r.by_task are.are are.within m.at full.mark.at early.at mark.at h

  pub reach_none : is_below lanes (lanes.bound m.at) (lanes.lane m.at) m.at early.at ≡ false → (o : Option Mark) → o ≡ None
      → IsOrigin r n lanes clocks.rows.items o (origin r.tasks m.at) → reaches (order r) r.entries m.at early.at ≡ false
  reach_none h o is from = reached_not (order r) r.entries r.tasks n lanes r.by_task are.are are.within m.at full.mark.at early.at mark.at h (subst (λ x. IsOrigin r n lanes clocks.rows.items x (origin r.tasks m.at)) is from)

  pub reach_some : is_below lanes (lanes.bound m.at) (lanes.lane m.at) m.at early.at ≡ false → (o : Option Mark) (k : Mark) → o ≡ Some k
      → IsOrigin r n lanes clocks.rows.items o (origin r.tasks m.at)
      → IsFull r n lanes clocks.rows.items k × (reaches (order r) r.entries m.at early.at ≡ reaches (order r) r.entries k.at early.at)
  reach_some h o k is from =
      let it = subst (λ x. IsOrigin r n lanes clocks.rows.items x (origin r.tasks m.at)) is from in
      let e : origin r.tasks m.at - 1 ≡ k.at = omega (arith, it.1) in (
        it.0,
        reached_above (order r) r.entries r.tasks n lanes r.by_task are.are are.within m.at full.mark.at early.at mark.at h (λ z. omega (arith, z, it.1))
            ∙ ap (λ x. reaches (order r) r.entries x early.at) e,
      )

  pub reach_over : (m.at < early.at) → reaches (order r) r.entries m.at early.at ≡ false
  reach_over l = not_reached (order r) r.entries m.at early.at l (omega (arith, mark.at, are.within))

-- ---- the origin of the next step

module _ (r : Run) (n : ℕ) (lanes : Lanes) (rows : List (Vec LaneBound Global)) (early : Mark) (mark : IsMark n lanes early)
    (within : n ≤ length r.entries) where
  pub origin_reach_none : (o : Option Mark) → o ≡ None → IsOrigin r n lanes rows o (origin r.tasks n)
      → origin_reaches (order r) r.entries (origin r.tasks n) early.at ≡ false
  origin_reach_none o is from =
      let e = subst (λ x. IsOrigin r n lanes rows x (origin r.tasks n)) is from in
      not_from_origin (order r) r.entries (origin r.tasks n) early.at (omega (arith, e)) (omega (arith, mark.at, within))

  pub origin_reach_some : (o : Option Mark) (k : Mark) → o ≡ Some k → IsOrigin r n lanes rows o (origin r.tasks n)
      → origin_reaches (order r) r.entries (origin r.tasks n) early.at ≡ reaches (order r) r.entries k.at early.at
  origin_reach_some o k is from =
      let it = subst (λ x. IsOrigin r n lanes rows x (origin r.tasks n)) is from in
      from_origin (order r) r.entries (origin r.tasks n) (suc k.at) early.at it.1 (λ z. omega (arith, z, it.1))
      ∙ (let e : suc k.at - 1 ≡ k.at = omega arith in ap (λ x. reaches (order r) r.entries x early.at) e)

pub known_is : (r : Run) (n : ℕ) (lanes : Lanes) (step early : Mark) → IsNext r n step → IsMark n lanes early → (row : ℕ → ℕ) (bound : ℕ)
    → bound ≡ row (lanes.lane early.at) → (up : Bool) → up ≡ origin_reaches (order r) r.entries (origin r.tasks n) early.at
    → ((step.lane == early.lane && nat_lt early.at step.at) || (nat_lt early.at bound || up)) ≡ is_told (order r) r.entries r.tasks lanes row step.lane n early.at
known_is r n lanes step early next mark row bound e up f =
    ap₂ (λ k p. (step.lane == k && nat_lt early.at p) || (nat_lt early.at bound || up)) mark.lane next.at
    ∙ ap₂ (λ x y. (step.lane == lanes.lane early.at && nat_lt early.at n) || (nat_lt early.at x || y)) e f
