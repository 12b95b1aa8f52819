-- A start without depend items needs the step that generates its task, and nothing else directly.
use Rattle.std.proofs.Common.{◌≡◌, ◌⊎◌, inl, inr, ⊎_elim, ◌<◌, ◌≤◌, ◌+◌, ℕ, suc, List, [], ◌∷◌, Bool, true, false, ◌&&◌, ◌||◌, cond, length, take, drop, get_or, Option, Some, None, refl, sym, ap, ◌∙◌, subst, arith}
use Rattle.std.specs.List.{list_any}
use Rattle.std.specs.Option.{option_map}
use Rattle.std.proofs.lemmas.Bool.{or_cases, or_left, or_right, false≢true, false_from_ne_true, both_ways}
use Rattle.std.proofs.lemmas.List.Folds.{list_any-append}
use Rattle.std.proofs.lemmas.Option.{slice_get_read}
use Rattle.tb_model.specs.declared.action.Action.{Action}
use Rattle.tb_model.specs.declared.action.Action.TheVariants.{Start}
use Rattle.tb_model.specs.declared.event.Event.{Event}
use Rattle.tb_model.specs.Names.{Name, same_name}
use Rattle.tb_model.specs.Facts.{History, own, is_end, is_of, is_spawn_of, spawns}
use Rattle.tb_model.specs.Legal.{Continues}
use Rattle.tb_model.specs.Needs.{needs}
use Rattle.tb_model.specs.State.{spawn_of}
use Rattle.tb_model.proofs.FactsLemmas.{no_acts, not_again, spawned_by}
use Rattle.tb_steps.specs.Entries.{Entry}
use Rattle.tb_steps.specs.Scans.{AreLegal, history_of}
use Rattle.tb_cause.specs.Indexes.{placed_action, items_told}
use Rattle.tb_cause.specs.Keys.{Key, Task, gives, held_by, held_any, action_any, wait_any, items_any, item_any}
use Rattle.tb_cause.specs.Nearest.{IsReach}
use Rattle.tb_cause.proofs.AskedNeedLemmas.{told_at}
use Rattle.tb_cause.proofs.KeyedLemmas.{legal_here}
use Rattle.tb_cause.proofs.NearestLemmas.{at_one, cut_at}
use Rattle.tb_steps.proofs.FirstLemmas.{some_same, there}

-- what generates a task is a spawn of it
spawn_found : (t : Name) (H : History) (a : Action) → spawn_of t H ≡ Some a → is_spawn_of t a ≡ true
spawn_found t [] a h = absurd (none a h)
  where
    none : (b : Action) → ◌≡◌ {A = Option Action} None (Some b) → ⊥
    none b e = cc
spawn_found t (v ∷ H) a h = by (is_spawn_of t v.action) refl h (spawn_found t H a)
  where
    by : (b : Bool) → is_spawn_of t v.action ≡ b → cond b (Some v.action) (spawn_of t H) ≡ Some a → (spawn_of t H ≡ Some a → is_spawn_of t a ≡ true) → is_spawn_of t a ≡ true
    by true s e more = subst (λ x. is_spawn_of t x ≡ true) (some_same v.action a e) s
    by false s e more = more e

pub no_length : {A : Type 0} (xs : List A) → length xs ≡ 0 → xs ≡ []
no_length [] h = refl
no_length (x ∷ xs) h = absurd (omega (arith, h))

module _ (entries : List Entry) where
  any_at : (test : Event → Bool) (n q : ℕ) (x : Entry) → q < n → n ≤ length entries → x ≡ get_or entries q x → test x.event ≡ true → list_any test (history_of (take n entries)) ≡ true
  any_at test n q x lower i here h =
      let D = history_of (drop (suc q) (take n entries)) in
      ap (list_any test) (cut_at entries n q x lower i here) ∙ list_any-append test D (x.event ∷ history_of (take q entries))
      ∙ or_right (list_any test D) _ (or_left (test x.event) (list_any test (history_of (take q entries))) h)

  -- the stored step at the index that is noted generates the task
  generates : (t : Name) (b : ℕ) → spawn_of t (history_of entries) ≡ placed_action entries (Some b) → b < length entries → (y : Entry) → y ≡ get_or entries b y → spawns t y.event ≡ true
  generates t b is within y here =
      spawn_found t (history_of entries) y.event.action
      (is ∙ ap (λ (o : Option Entry). option_map (λ (e : Entry). e.event.action) o) (slice_get_read entries (length entries) b y refl within here))

  module _ (legal : AreLegal entries) where
    -- no two stored steps generate one task
    twice : (t : Name) (p q : ℕ) (x y : Entry) → p < q → q < length entries → x ≡ get_or entries p x → y ≡ get_or entries q y → spawns t x.event ≡ true → spawns t y.event ≡ true → ⊥
    twice t p q x y lower within here there_is first second =
        let l = legal_here entries q y within there_is legal in
        both_ways (spawns t y.event)
        (not_again legal.cells (history_of (take q entries)) l.0 y.event l.1 t (spawned_by t (history_of (take q entries)) (any_at (spawns t) q p x lower (omega (arith, within)) here first)))
        second

    module _ (at : ℕ) (within : at < length entries) (v : Entry) (isv : v ≡ get_or entries at v) (starts : v.event.action ≡ Start) (bare : items_told entries v.event.task ≡ []) (b : ℕ) (low : b < at) (y : Entry) (isy : y ≡ get_or entries b y) (made : spawns v.event.task y.event ≡ true) where
      abbrev F : History
      F = history_of (take at entries)

      abbrev t : Name
      t = v.event.task

      first : own t F ≡ []
      first = subst (λ a. Continues legal.cells t (own t F) a) starts (legal_here entries at v within isv legal).1.own

      no_wait : (f : Key → Bool) (a : Action) → a ≡ Start → (action_any f a || (wait_any f F t a || items_any f (items_told entries) t a)) ≡ false
      no_wait f a is = subst (λ x. (action_any f x || (wait_any f F t x || items_any f (items_told entries) t x)) ≡ false) (sym is) (at_name t bare)
        where
          at_name : (s : Name) → items_told entries s ≡ [] → items_any f (items_told entries) s Start ≡ false
          at_name [] e = refl
          at_name (n ∷ p) e = ap (list_any (item_any f p true)) e

      no_key : (q : ℕ) (x : Entry) → q < at → (q < b) ⊎ (b + 1 ≤ q) → x ≡ get_or entries q x → gives (items_told entries) x.event (Task t) ≡ true → ⊥
      no_key q x lower other here h =
          ⊎_elim (λ a. both_ways (list_any (is_of t) F) (no_acts t F first) (any_at (is_of t) at q x lower (omega (arith, within)) here a))
          (λ r. ⊎_elim (λ s. by other s) (λ e. no_end (is_end x.event.action) e) (or_cases (is_spawn_of t x.event.action) (is_end x.event.action && false) r))
          (or_cases (same_name x.event.task t) (is_spawn_of t x.event.action || (is_end x.event.action && false)) h)
        where
          no_end : (e : Bool) → (e && false) ≡ true → ⊥
          no_end true z = false≢true z
          no_end false z = false≢true z

          by : (q < b) ⊎ (b + 1 ≤ q) → spawns t x.event ≡ true → ⊥
          by (inl l) s = twice t q b x y l (omega (arith, low, within)) here isy s made
          by (inr l) s = twice t b q y x (omega (arith, l)) (omega (arith, lower, within)) isy here made s

      alone : (q : ℕ) (x : Entry) → q < at → (q < b) ⊎ (b + 1 ≤ q) → x ≡ get_or entries q x → needs F v.event x.event ≡ false
      alone q x lower other here =
          let f = gives (items_told entries) x.event in
          let rest = action_any f v.event.action || (wait_any f F t v.event.action || items_any f (items_told entries) t v.event.action) in
          false_from_ne_true (needs F v.event x.event)
          (λ h.
          ⊎_elim (λ k. no_key q x lower other here k)
          (λ r. ⊎_elim (λ o. false≢true (sym (ap (λ acts. held_any f (held_by acts)) first) ∙ o)) (λ o. both_ways rest (no_wait f v.event.action starts) o) (or_cases (held_any f (held_by (own t F))) rest r))
          (or_cases (f (Task t)) (held_any f (held_by (own t F)) || rest) (sym (told_at entries legal at v within isv q x lower here) ∙ h)))

    pub lone_reach : (at : ℕ) → at < length entries → (u : Entry) → u ≡ get_or entries at u → u.event.action ≡ Start → items_told entries u.event.task ≡ [] → (b : ℕ) → spawn_of u.event.task (history_of entries) ≡ placed_action entries (Some b) → b < at
        → IsReach entries at b (b + 1)
    lone_reach at within u isu starts bare b is low v isv q x lower other here =
        let y = there entries b (omega (arith, low, within)) in
        let same : u ≡ v = at_one entries at u v within isu isv in
        subst (λ (z : Entry). needs (history_of (take at entries)) z.event x.event ≡ false) same
        (alone at within u isu starts bare b low y.0 y.1 (generates u.event.task b is (omega (arith, low, within)) y.0 y.1) q x lower other here)
