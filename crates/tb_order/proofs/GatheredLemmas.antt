-- What is gathered on the way up from a step, one step more.
use Rattle.std.proofs.Common.{◌≡◌, ◌==◌, ◌≢◌, ◌<◌, ◌≤◌, ◌-◌, ℕ, List, Bool, true, ◌||◌, ◌&&◌, nat_le, leb-true, length, refl, sym, ap, ◌∙◌, arith, inl, inr, ⊎_elim}
use Rattle.std.proofs.lemmas.Bool.{and_parts, both_ways, or_cases, or_left, or_right}
use Rattle.tb_steps.specs.Entries.{Entry}
use Rattle.tb_races.specs.Orders.{Order}
use Rattle.tb_lanes.specs.declared.tasks.Tasks.{Tasks}
use Rattle.tb_lanes.specs.declared.clocks.Clocks.{Clocks}
use Rattle.tb_lanes.specs.Clocks.{AreTasks, adds, is_told, lane, lanes_of, origin, origin_reaches, reaches, row_of_step, says}
use Rattle.tb_lanes.specs.Bounds.{bound_in}
use Rattle.tb_lanes.specs.Fewer.{AddsFor, AreFewer, IsClosedFor}
use Rattle.tb_order.specs.Gathered.{IsGathered}
use Rattle.tb_lanes.proofs.FewerLemmas.{asked_below, below_reached, fewer_all, fewer_up, origin_reached}
use Rattle.tb_lanes.proofs.JoinLemmas.{from_origin}
use Rattle.tb_lanes.proofs.SoundLemmas.{origin_none}

module _ (asked : ℕ → Bool) (o : Order) (entries : List Entry) (tasks : Tasks) (clocks : Clocks) (n : ℕ) (are : AreTasks entries tasks)
    (told : AreFewer asked o entries tasks n clocks) (long : n ≤ length entries) where
  adds_under : (s : ℕ) → s < n → (j q : ℕ) → adds (lanes_of clocks) s j q ≡ true → q < n
  adds_under s l j q h =
      ⊎_elim (λ a. omega (arith, leb-true q s (and_parts (lane (lanes_of clocks) s == j) (nat_le q s) a).1, l)) (λ a. omega (arith, told.low s l j q a, l))
      (or_cases (lane (lanes_of clocks) s == j && nat_le q s) (says (bound_in (row_of_step clocks s)) j q) h)

  -- the row of the step itself
  pub gathers : (s : ℕ) → s < n → (row : ℕ → ℕ) → ((j q : ℕ) → says row j q ≡ adds (lanes_of clocks) s j q) → IsGathered asked o entries tasks clocks n s s row
  gathers s l row is = record {
    low = λ j q h. adds_under s l j q (sym (is j q) ∙ h);
    right = λ q m h. (below_reached asked o entries tasks n clocks are told long s l q (sym (is (lane (lanes_of clocks) q) q) ∙ h)).1;
    left = λ q m a h.
        ⊎_elim (λ b. inl (is (lane (lanes_of clocks) q) q ∙ b)) (λ b. inr b) (asked_below asked o entries tasks n clocks are told long s l q m a h);
    way = λ q m h. h;
  }

  module _ (s at : ℕ) (inside : at < n) where
    module _ (some : origin tasks at ≢ 0) (up : ℕ) (up_is : up ≡ origin tasks at - 1) (under : up < n) where
      up_way : (q : ℕ) → origin_reaches o entries (origin tasks at) q ≡ reaches o entries up q
      up_way q = from_origin o entries (origin tasks at) (origin tasks at) q refl some ∙ ap (λ m. reaches o entries m q) (sym up_is)

      -- and that of what generates its task
      pub gathers_more : (old new : ℕ → ℕ) → ((j q : ℕ) → says new j q ≡ (says old j q || adds (lanes_of clocks) up j q))
          → IsGathered asked o entries tasks clocks n s at old → IsGathered asked o entries tasks clocks n s up new
      gathers_more old new is so = record {
        low = λ j q h. ⊎_elim (λ a. so.low j q a) (λ a. adds_under up under j q a) (or_cases (says old j q) (adds (lanes_of clocks) up j q) (sym (is j q) ∙ h));
        right = λ q l h.
            ⊎_elim (λ a. so.right q l a) (λ a. on q l (below_reached asked o entries tasks n clocks are told long up under q a).1)
            (or_cases (says old (lane (lanes_of clocks) q) q) (adds (lanes_of clocks) up (lane (lanes_of clocks) q) q) (sym (is (lane (lanes_of clocks) q) q) ∙ h));
        left = λ q l a h.
            ⊎_elim (λ b. inl (is (lane (lanes_of clocks) q) q ∙ or_left (says old (lane (lanes_of clocks) q) q) _ b))
            (λ b.
            ⊎_elim (λ d. inl (is (lane (lanes_of clocks) q) q ∙ or_right (says old (lane (lanes_of clocks) q) q) _ d)) (λ d. inr d)
            (asked_below asked o entries tasks n clocks are told long up under q l a (sym (up_way q) ∙ b)))
            (so.left q l a h);
        way = on;
      }
        where
          on : (q : ℕ) → q < n → reaches o entries up q ≡ true → reaches o entries s q ≡ true
          on q l h = so.way q l (origin_reached asked o entries tasks n clocks are told long at inside q l (up_way q ∙ h))

    -- ---- joined to others

    module _ (k : ℕ) (row more next : ℕ → ℕ) (both : (j q : ℕ) → says next j q ≡ (says row j q || says more j q))
        (so : IsGathered asked o entries tasks clocks n s at more) where
      pub all_left : (up : ℕ) → origin tasks at ≢ 0 → up ≡ origin tasks at - 1 → up < n → IsClosedFor asked o entries tasks (lanes_of clocks) row k n
          → is_told o entries tasks (lanes_of clocks) row k n up ≡ true → AddsFor asked o entries tasks clocks k n s row next
      all_left up some up_is under closed listed =
          fewer_up asked o entries tasks n clocks k s row more next both so.low so.right up under
          (λ q l a h. ⊎_elim (λ b. inl b) (λ b. inr (sym (up_way some up up_is under q) ∙ b)) (so.left q l a h)) closed listed

      pub none_left : origin tasks at ≡ 0 → AddsFor asked o entries tasks clocks k n s row next
      none_left none =
          fewer_all asked o entries tasks n clocks k s row more next both so.low so.right
          (λ q l a h. ⊎_elim (λ b. b) (λ b. absurd (both_ways (origin_reaches o entries (origin tasks at) q) (origin_none o entries (origin tasks at) q none) b)) (so.left q l a h))
