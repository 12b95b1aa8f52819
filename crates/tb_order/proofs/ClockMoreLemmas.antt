-- What all needs put in front of each step, one step more.
use Rattle.std.proofs.Common.{Vec, Global, ◌≡◌, ◌==◌, ◌<◌, ◌≤◌, ◌+◌, ◌&&◌, ℕ, List, Bool, true, Option, Some, None, IfSome, nat_lt, length, refl, sym, ap, ◌∙◌, subst, arith, inl, inr, ⊎_elim, eqb-true, lt-ltb, ltb-true}
use Rattle.std.specs.Prelude.{slice_index_or}
use Rattle.std.proofs.lemmas.Bool.{and_parts, or_cases, or_left, or_right}
use Rattle.tb_steps.specs.Entries.{Entry}
use Rattle.tb_races.specs.Orders.{AllNeeds, Order, WithExclusion}
use Rattle.tb_lanes.specs.declared.tasks.Tasks.{Tasks}
use Rattle.tb_lanes.specs.declared.clocks.Clocks.{Clocks}
use Rattle.tb_lanes.specs.declared.lane_bound.LaneBound.{LaneBound}
use Rattle.tb_lanes.specs.declared.step.Step.{Step}
use Rattle.tb_order.specs.declared.pending.Pending.{Pending}
use Rattle.tb_lanes.specs.Bounds.{IsRising, bound_in}
use Rattle.tb_lanes.specs.Clocks.{AreClocks, GoesOn, IsClock, IsLane, IsLow, IsOneMore, IsSound, Lanes, TellsEnds, is_after, is_told, lane, lanes_of, links_at, origin, origin_reaches, reaches, row_in, says}
use Rattle.tb_lanes.specs.Fewer.{AreFewer, lanes_with, says_of}
use Rattle.tb_lanes.specs.Needing.{IsEndBefore, IsTouched, TellsShared}
use Rattle.tb_order.specs.AllNeeds.{GoesBehind, IsMade}
use Rattle.tb_order.specs.Needed.{IsBegun, IsMet, IsRowFound, is_pending, own_row}
use Rattle.tb_order.specs.Pending.{IsLaneMore, IsPart, first_of}
use Rattle.tb_lanes.proofs.AfterLemmas.{after_links, links_after, linked_on, reach_on, reached}
use Rattle.tb_lanes.proofs.FewerLemmas.{lane_reached}
use Rattle.tb_lanes.proofs.FewerTableLemmas.{fewer_same, fewer_more, top, top_by, top_has, top_low}
use Rattle.tb_lanes.proofs.LaneLemmas.{stands_in}
use Rattle.tb_lanes.proofs.LinkLemmas.{touch_links_at}
use Rattle.tb_lanes.proofs.TableLemmas.{lane_here, lane_kept, row_pushed}
use Rattle.tb_order.proofs.PendingLemmas.{pending_earlier}
use Rattle.tb_order.proofs.SharedLemmas.{link_shared_at}
use Rattle.tb_order.proofs.TakenLemmas.{reaches_up}

pub if_some : (o : Option ℕ) (P : ℕ → Type 0) → ((x : ℕ) → o ≡ Some x → P x) → IfSome o P
if_some None P f = tt
if_some (Some x) P f = f x refl

-- none yet
pub no_fewer : (asked : ℕ → Bool) (o : Order) (entries : List Entry) (tasks : Tasks) (clocks : Clocks) → AreClocks o entries tasks 0 clocks
    → AreFewer asked o entries tasks 0 clocks
no_fewer asked o entries tasks clocks none = record {
  bounds = λ p k. 0;
  listed = none.listed;
  laned = none.laned;
  within = λ p l. absurd (omega (arith, l));
  rising = λ p l. absurd (omega (arith, l));
  lanes = record {
    low = λ p l. absurd (omega (arith, l));
    told = λ p l. absurd (omega (arith, l));
    own = λ p q l. absurd (omega (arith, l));
    going = λ p l. absurd (omega (arith, l));
    few = λ p l. absurd (omega (arith, l));
    newest = λ p l. absurd (omega (arith, l));
  };
  low = λ p l. absurd (omega (arith, l));
  sound = λ p q l. absurd (omega (arith, l));
  enough = λ p q l. absurd (omega (arith, l));
}

-- the lanes are those that were, and the step's
pub lanes_noted : (clocks mid new : Clocks) (row n k p : ℕ) (left : Option (Vec LaneBound Global)) → length clocks.of.items ≡ p
    → length clocks.lanes.items ≡ p → IsMade clocks row left mid n → IsOneMore mid n k p new
    → IsLaneMore (lane (lanes_of clocks)) (lane (lanes_of new)) p k
lanes_noted clocks mid new row n k p left listed laned is one = by left is
  where
    same : mid.of ≡ clocks.of → mid.lanes ≡ clocks.lanes → IsLaneMore (lane (lanes_of clocks)) (lane (lanes_of new)) p k
    same of lanes =
        let a = ap (λ (v : Vec ℕ Global). length v.items) of ∙ listed in
        let b = ap (λ (v : Vec ℕ Global). length v.items) lanes ∙ laned in record {
          here = lane_here mid new n k p one a b;
          before = λ q l. lane_kept mid new n k p one a b q l ∙ ap (λ (v : Vec ℕ Global). slice_index_or v.items q 0) lanes;
        }

    by : (o : Option (Vec LaneBound Global)) → IsMade clocks row o mid n → IsLaneMore (lane (lanes_of clocks)) (lane (lanes_of new)) p k
    by None is = same (ap (λ (c : Clocks). c.of) is.0) (ap (λ (c : Clocks). c.lanes) is.0)
    by (Some v) is = same is.1 is.2

-- a row more makes no lane
pub made_count : (clocks mid : Clocks) (row n : ℕ) (left : Option (Vec LaneBound Global)) → IsMade clocks row left mid n
    → length clocks.lasts.items ≡ length mid.lasts.items
made_count clocks mid row n None is = ap (λ (c : Clocks). length c.lasts.items) (sym is.0)
made_count clocks mid row n (Some v) is = ap (λ (w : Vec ℕ Global). length w.items) (sym is.3)

-- and no fewer than a step may be in
pub lane_few : (entries : List Entry) (tasks : Tasks) (clocks : Clocks) (s : Step) → IsBegun entries tasks clocks s → (behind : Option ℕ)
    → ((x : ℕ) → behind ≡ Some x → IsEndBefore WithExclusion entries s.at x) → (j : ℕ) → GoesBehind (lanes_of clocks) s.lane behind j
    → j ≤ length clocks.lasts.items
lane_few entries tasks clocks s begun behind end j (inl e) = omega (arith, e, begun.begins.lane.few)
lane_few entries tasks clocks s begun behind end j (inr h) = omega (arith, h.3, begun.front.lanes.few h.0 (end h.0 h.1).0)

module _ (entries : List Entry) (tasks : Tasks) (clocks : Clocks) (s : Step) (begun : IsBegun entries tasks clocks s) where
  abbrev p : ℕ
  p = s.at

  abbrev w : p < length entries
  w = begun.at

  abbrev full : Lanes
  full = lanes_with clocks begun.front.bounds

  abbrev lane_of : ℕ → ℕ
  lane_of = lane (lanes_of clocks)

  abbrev Told : ℕ → (ℕ → ℕ) → ℕ → Type 0
  Told k row q = is_told AllNeeds entries tasks (lanes_of clocks) row k p q ≡ true

  abbrev in_lane : ℕ → ℕ → Bool
  in_lane k q = k == lane_of q && nat_lt q p

  -- ---- what comes before the step

  abbrev Before : ℕ → Type 0
  Before q = is_after AllNeeds entries p q ≡ true

  before_on : (x q : ℕ) → x < p → q < p → Before x → reaches AllNeeds entries x q ≡ true → Before q
  before_on x q l m h r =
      ⊎_elim (λ e. absurd (omega (arith, e, m))) (λ a. links_after a)
      (reach_on AllNeeds entries p x q (inr (after_links AllNeeds entries p x w (omega (arith, l, w)) h)) (reached AllNeeds entries x q (omega (arith, l, w)) (omega (arith, m, w)) r))

  link_before : (x : ℕ) → x < p → links_at AllNeeds entries p x ≡ true → Before x
  link_before x l h = links_after (linked_on AllNeeds entries p x x l w h (inl refl))

  touched_before : (q : ℕ) → q < p → IsTouched AllNeeds entries p q → Before q
  touched_before q l t = before_on t.0 q t.1 l (link_before t.0 t.1 (touch_links_at AllNeeds entries p t.0 w (omega (arith, t.1, w)) t.2)) t.3

  reached_before : (q : ℕ) → q < p → reaches AllNeeds entries p q ≡ true → Before q
  reached_before q l h = ⊎_elim (λ e. absurd (omega (arith, eqb-true p q e, l))) (λ a. a) (or_cases (p == q) (is_after AllNeeds entries p q) h)

  before_reached : (q : ℕ) → Before q → reaches AllNeeds entries p q ≡ true
  before_reached q h = or_right (p == q) _ h

  -- what is told by the row that the step begins with, or by the lane, or by what generates its task
  known_before : (q : ℕ) → q < p → Told s.lane (bound_in (own_row clocks s)) q → Before q
  known_before q l h = touched_before q l (begun.begins.sound q l h)

  row_before : (row : ℕ → ℕ) → ((q : ℕ) → q < p → says_of clocks row q → Before q) → (q : ℕ) → q < p → Told s.lane row q → Before q
  row_before row f q l h =
      ⊎_elim (λ a. known_before q l (or_left (in_lane s.lane q) _ a))
      (λ a. ⊎_elim (λ b. f q l b) (λ b. known_before q l (or_right (in_lane s.lane q) _ (or_right (says (bound_in (own_row clocks s)) (lane_of q) q) _ b))) (or_cases (says row (lane_of q) q) (origin_reaches AllNeeds entries (origin tasks p) q) a))
      (or_cases (in_lane s.lane q) _ h)

  -- ---- the bounds that it would have, if nothing were left out

  abbrev bounds : ℕ → ℕ
  bounds k = top (λ q. is_after AllNeeds entries p q) lane_of p k

  bounds_say : (q : ℕ) → q < p → Before q → says_of clocks bounds q
  bounds_say q l h = lt-ltb q (bounds (lane_of q)) (top_has (λ y. is_after AllNeeds entries p y) lane_of (lane_of q) p q l h refl)

  bounds_right : (q : ℕ) → q < p → says_of clocks bounds q → Before q
  bounds_right q l h =
      let r = top_by (λ y. is_after AllNeeds entries p y) lane_of (lane_of q) p q (ltb-true q (bounds (lane_of q)) h) in
      before_on r.0 q r.2 l r.3
      (lane_reached (is_pending entries tasks p) AllNeeds entries tasks p clocks begun.by_task begun.front (omega (arith, w)) r.0 r.2 q r.4 r.1)

  bounds_low : IsLow bounds p
  bounds_low k q h = omega (arith, ltb-true q (bounds k) h, top_low (λ y. is_after AllNeeds entries p y) lane_of k p)

  so : IsSound AllNeeds entries tasks full bounds s.lane p
  so = record {
    sound = λ q l h. row_before bounds bounds_right q l h;
    closed = λ x q l m h a.
        or_right (in_lane s.lane q) _
        (or_left (says bounds (lane_of q) q) _ (bounds_say q m (before_on x q l m (row_before bounds bounds_right x l h) (or_right (x == q) _ a))));
    low = bounds_low;
  }

  module _ (behind : Option ℕ) (end : (x : ℕ) → behind ≡ Some x → IsEndBefore WithExclusion entries p x) (j : ℕ)
      (goes : GoesBehind (lanes_of clocks) s.lane behind j) where
    bounds_list : (q : ℕ) → q < p → Before q → is_told AllNeeds entries tasks full bounds s.lane p q ≡ true
    bounds_list q l h = or_right (in_lane s.lane q) _ (or_left (says bounds (lane_of q) q) _ (bounds_say q l h))

    ends : TellsEnds AllNeeds entries tasks full bounds s.lane p
    ends x l e h = bounds_list x l (link_before x l h)

    shares : TellsShared AllNeeds entries tasks full bounds s.lane p
    shares c x l h = bounds_list x l (link_before x l (link_shared_at entries p x l w h))

    goes_on : GoesOn AllNeeds entries tasks full bounds s.lane p j
    goes_on = by goes
      where
        by : GoesBehind (lanes_of clocks) s.lane behind j → GoesOn AllNeeds entries tasks full bounds s.lane p j
        by (inl e) = inl e
        by (inr h) =
            let x = h.0 in
            let b = end x h.1 in
            inr (x, (b.0, b.1, bounds_list x b.0 (reached_before x b.0 (reaches_up entries p x w (omega (arith, b.0, w)) (or_right (p == x) _ b.2)))), h.2, h.3, h.4)

    stands : IsClock AllNeeds entries tasks full bounds j p × IsLane entries full j p
    stands =
        let l = begun.begins.lane in
        stands_in AllNeeds entries tasks begun.by_task p w full begun.front.lanes bounds s.lane j
        (record { few = l.few; own = l.own; follows = l.follows }) so ends shares goes_on

    -- in either lane a row tells of as much
    moves : (row : ℕ → ℕ) (q : ℕ) → q < p → Told s.lane row q → Told j row q
    moves row q l h = by goes
      where
        by : GoesBehind (lanes_of clocks) s.lane behind j → Told j row q
        by (inl e) = subst (λ k. Told k row q) (sym e) h
        by (inr g) =
            ⊎_elim
            (λ a. let b = and_parts (s.lane == lane_of q) (nat_lt q p) a in absurd (omega (arith, eqb-true s.lane (lane_of q) b.0, g.2, begun.front.lanes.few q l))) (λ a. or_right (in_lane j q) _ a)
            (or_cases (in_lane s.lane q) _ h)

    -- ---- with the row that is stored

    module _ (found : List ℕ) (met : (q : ℕ) → q < p → Before q → IsMet entries p found q) (pending : Pending)
        (wanted : (q : ℕ) → q < p → is_pending entries tasks (p + 1) q ≡ true → first_of pending (lane_of q) ≤ q) where
      abbrev later : ℕ → Bool
      later = is_pending entries tasks (p + 1)

      earlier : (q : ℕ) → q < p → later q ≡ true → is_pending entries tasks p q ≡ true
      earlier q l h = pending_earlier entries tasks q p (p + 1) (omega arith) h

      pub clocks_taken : (made left : Option (Vec LaneBound Global)) → IsRowFound entries tasks clocks s found made → IsPart pending made left
          → (mid : Clocks) (n : ℕ) → IsMade clocks s.row left mid n → (new : Clocks) → IsOneMore mid n j p new
          → AreFewer (is_pending entries tasks (p + 1)) AllNeeds entries tasks (p + 1) new
      clocks_taken None None none part mid n is new one =
          fewer_more (is_pending entries tasks p) AllNeeds entries tasks p clocks new s.row j
          (subst (λ m. IsOneMore clocks m j p new) is.1 (subst (λ m. IsOneMore m n j p new) is.0 one)) begun.front later earlier bounds stands.0 bounds_low stands.1
          begun.begins.within begun.begins.rising begun.begins.low
          (λ q l h. before_reached q (known_before q l (or_right (in_lane s.lane q) _ (or_left (says (bound_in (own_row clocks s)) (lane_of q) q) _ h))))
          (λ q l a h. moves (bound_in (own_row clocks s)) q l (begun.begins.enough q l (earlier q l a) (touched q (met q l (reached_before q l h)))))
        where
          touched : (q : ℕ) → IsMet entries p found q → IsTouched AllNeeds entries p q
          touched q (inl t) = t
          touched q (inr b) = absurd (omega (arith, b.1, ap length none))
      clocks_taken None (Some left) none part mid n is new one = absurd part
      clocks_taken (Some v) None f part mid n is new one = absurd part
      clocks_taken (Some v) (Some left) f part mid n is new one =
          let kept = fewer_same (is_pending entries tasks p) AllNeeds entries tasks p clocks mid.rows left is.0 begun.front in
          let row : row_in mid.rows.items n ≡ left.items = row_pushed clocks.rows.items mid.rows.items left n is.0 is.4 in
          fewer_more (is_pending entries tasks p) AllNeeds entries tasks p (with_rows mid.rows) new n j
          (subst (λ m. IsOneMore m n j p new) same one) kept later earlier bounds stands.0 bounds_low stands.1
          (omega (arith, is.4))
          (subst IsRising (sym row) (part.rising f.rising))
          (subst (λ r. IsLow (bound_in r) p) (sym row) (λ k q h. f.low k q (part.less k q h)))
          (subst (λ r. (q : ℕ) → q < p → says_of clocks (bound_in r) q → reaches AllNeeds entries p q ≡ true) (sym row) (λ q l h. before_reached q (f.sound q l (or_right (in_lane s.lane q) _ (or_left (says (bound_in v.items) (lane_of q) q) _ (part.less (lane_of q) q h))))))
          (subst (λ r. (q : ℕ) → q < p → later q ≡ true → reaches AllNeeds entries p q ≡ true → Told j (bound_in r) q) (sym row) (λ q l a h. moves (bound_in left.items) q l (still q l a (f.enough q l (earlier q l a) (met q l (reached_before q l h))))))
        where
          still : (q : ℕ) → q < p → later q ≡ true → Told s.lane (bound_in v.items) q → Told s.lane (bound_in left.items) q
          still q l a h =
              ⊎_elim (λ b. or_left (in_lane s.lane q) _ b)
              (λ b.
              or_right (in_lane s.lane q) _
              (⊎_elim (λ d. or_left (says (bound_in left.items) (lane_of q) q) _ (part.left (lane_of q) q d (wanted q l a))) (λ d. or_right (says (bound_in left.items) (lane_of q) q) _ d)
              (or_cases (says (bound_in v.items) (lane_of q) q) (origin_reaches AllNeeds entries (origin tasks p) q) b)))
              (or_cases (in_lane s.lane q) _ h)

          with_rows : Vec (Vec LaneBound Global) Global → Clocks
          with_rows rows = record { of = clocks.of; rows = rows; lanes = clocks.lanes; lasts = clocks.lasts }

          with_all : Vec ℕ Global → Vec ℕ Global → Vec ℕ Global → Clocks
          with_all a b d = record { of = a; rows = mid.rows; lanes = b; lasts = d }

          same : mid ≡ with_rows mid.rows
          same = ap (λ a. with_all a mid.lanes mid.lasts) is.1 ∙ ap (λ b. with_all clocks.of b mid.lasts) is.2 ∙ ap (with_all clocks.of clocks.lanes) is.3
