-- The steps of one task in front of an index, and its depend items.
use Rattle.std.proofs.Common.{◌≡◌, ◌≢◌, ◌+◌, ◌<◌, ◌≤◌, ℕ, zero, suc, List, [], ◌∷◌, Bool, true, false, ◌||◌, cond, length, take, drop, refl, sym, ap, ap₂, ◌∙◌, subst, arith, Some, ◌⊎◌, inl, inr, ⊎_elim, eq-eqb, eqb-true, get_or, slice_get}
use Rattle.std.specs.List.{list_any}
use Rattle.std.proofs.lemmas.Bool.{or_cases, or_left, or_right, both_ways, false≢true, false_from_ne_true, cases_eq}
use Rattle.tb_model.specs.declared.action.Action.{Action}
use Rattle.tb_model.specs.declared.event.Event.{Event}
use Rattle.tb_model.specs.declared.item.Item.{Item}
use Rattle.tb_model.specs.Names.{Name}
use Rattle.tb_model.specs.Facts.{History, is_of, own, spawns, items_of, IsSpawned}
use Rattle.tb_model.specs.Legal.{Legal}
use Rattle.tb_model.specs.State.{spawn_of, items_in}
use Rattle.tb_model.proofs.FactsLemmas.{own_mine, own_other, spawn_names, acted_spawned, spawned_by}
use Rattle.tb_model.proofs.NeighboursLemmas.{legal_below}
use Rattle.tb_model.proofs.SettledLemmas.{items_settled}
use Rattle.tb_model.proofs.SiblingsLemmas.{no_items}
use Rattle.tb_model.proofs.StateLemmas.{items_of_spawn}
use Rattle.tb_model.proofs.TestLemmas.{same_refl, same_true}
use Rattle.tb_steps.specs.Entries.{Entry}
use Rattle.tb_steps.specs.Scans.{AreLegal, history_of}
use Rattle.tb_steps.proofs.ScanLemmas.{history_cut}
use Rattle.std.proofs.lemmas.Option.{slice_get_read}
use Rattle.tb_races.specs.Orders.{Synchronised}
use Rattle.tb_lanes.specs.declared.tasks.Tasks.{Tasks}
use Rattle.tb_lanes.specs.Clocks.{AreTasks, Behind, alone, generated, going_on, both_at, of_one, generates, touches, origin, number, previous}
use Rattle.tb_lanes.proofs.AfterLemmas.{at, at_is, at_read, same_at}
use Rattle.tb_lanes.proofs.FrontLemmas.{front_cut, one_more}
use Rattle.tb_lanes.proofs.LinkLemmas.{both_is}
use Rattle.tb_steps.proofs.FirstLemmas.{some_same, there}

module _ (entries : List Entry) where
  abbrev pub ev : (x : ℕ) → x < length entries → Event
  ev x i = (at Synchronised entries x i).event

  abbrev pub H : ℕ → History
  H n = history_of (take n entries)

  more : (n : ℕ) (w : n < length entries) → H (suc n) ≡ ev n w ∷ H n
  more n w = one_more entries n (at Synchronised entries n w) w (at_is Synchronised entries n w)

  -- one that passes is at an index
  pub any_place : (f : Event → Bool) (n : ℕ) → n ≤ length entries → list_any f (H n) ≡ true → (x : ℕ) × (x < n) × ((i : x < length entries) × (f (ev x i) ≡ true))
  any_place f zero l h = absurd (false≢true h)
  any_place f (suc n) l h =
      let w : n < length entries = omega (arith, l) in
      ⊎_elim (λ a. (n, omega arith, (w, a))) (λ a. let r = any_place f n (omega (arith, l)) a in (r.0, omega (arith, r.1), r.2))
      (or_cases (f (ev n w)) (list_any f (H n)) (subst (λ G. list_any f G ≡ true) (more n w) h))

  pub place_any : (f : Event → Bool) (n x : ℕ) → x < n → n ≤ length entries → (i : x < length entries) → f (ev x i) ≡ true → list_any f (H n) ≡ true
  place_any f zero x l m i h = absurd (omega (arith, l))
  place_any f (suc n) x l m i h =
      let w : n < length entries = omega (arith, m) in
      subst (λ G. list_any f G ≡ true) (sym (more n w)) (by w (cases_eq x n) (λ d. place_any f n x (omega (arith, l, d)) (omega (arith, m)) i h))
    where
      by : (w : n < length entries) → (x ≡ n) ⊎ (x ≢ n) → (x ≢ n → list_any f (H n) ≡ true) → (f (ev n w) || list_any f (H n)) ≡ true
      by w (inl e) rest = or_left (f (ev n w)) _ (moved x e i h w)
        where
          moved : (y : ℕ) → y ≡ n → (i : y < length entries) → f (ev y i) ≡ true → (w : n < length entries) → f (ev n w) ≡ true
          moved y e i h w = subst (λ z. (k : z < length entries) → f (ev z k) ≡ true) e (λ k. subst (λ (c : Entry). f c.event ≡ true) (same_at entries y i k) h) w
      by w (inr d) rest = or_right (f (ev n w)) _ (rest d)

  pub legal_here : (legal : AreLegal entries) (x : ℕ) (i : x < length entries) → Legal legal.cells (ev x i ∷ H x)
  legal_here legal x i =
      legal_below legal.cells (history_of (drop (suc x) entries)) (ev x i ∷ H x) (subst (Legal legal.cells) (history_cut entries x (at Synchronised entries x i) i (at_is Synchronised entries x i)) legal.legal)

  -- ---- own steps

  pub own_none : (t : Name) (n : ℕ) → n ≤ length entries → ((x : ℕ) → x < n → (i : x < length entries) → is_of t (ev x i) ≡ true → ⊥) → own t (H n) ≡ []
  own_none t zero l h = refl
  own_none t (suc n) l h =
      let w : n < length entries = omega (arith, l) in
      ap (own t) (more n w) ∙ own_other t (ev n w) (H n) (false_from_ne_true (is_of t (ev n w)) (λ m. h n (omega arith) w m))
      ∙ own_none t n (omega (arith, l)) (λ x k i m. h x (omega (arith, k)) i m)

  pub own_from : (t : Name) (b n : ℕ) → b < n → n ≤ length entries → (ib : b < length entries) → is_of t (ev b ib) ≡ true → ((x : ℕ) → b < x → x < n → (i : x < length entries) → is_of t (ev x i) ≡ true → ⊥) → own t (H n) ≡ (ev b ib).action ∷ own t (H b)
  own_from t b zero l m ib mine h = absurd (omega (arith, l))
  own_from t b (suc n) l m ib mine h =
      let w : n < length entries = omega (arith, m) in
      ap (own t) (more n w) ∙ by w (cases_eq b n) (λ d. own_from t b n (omega (arith, l, d)) (omega (arith, m)) ib mine (λ x k j i q. h x k (omega (arith, j)) i q))
    where
      by : (w : n < length entries) → (b ≡ n) ⊎ (b ≢ n) → (b ≢ n → own t (H n) ≡ (ev b ib).action ∷ own t (H b)) → own t (ev n w ∷ H n) ≡ (ev b ib).action ∷ own t (H b)
      by w (inl e) rest = moved b ib e mine
        where
          moved : (c : ℕ) (ic : c < length entries) → c ≡ n → is_of t (ev c ic) ≡ true → own t (ev n w ∷ H n) ≡ (ev c ic).action ∷ own t (H c)
          moved c ic e mine =
              subst (λ z. (k : z < length entries) → own t (ev z k ∷ H z) ≡ (ev c ic).action ∷ own t (H c)) e
              (λ k. ap (λ (x : Entry). own t (x.event ∷ H c)) (same_at entries c k ic) ∙ own_mine t (ev c ic) (H c) mine) w
      by w (inr d) rest =
          own_other t (ev n w) (H n) (false_from_ne_true (is_of t (ev n w)) (λ q. h n (omega (arith, l, d)) (omega arith) w q))
          ∙ rest d

  module _ (tasks : Tasks) (are : AreTasks entries tasks) (p : ℕ) (w : p < length entries) where
    abbrev t : Name
    t = (ev p w).task

    abbrev Touches : ℕ → Type 0
    Touches x = both_at touches entries p x ≡ true

    touching : (x : ℕ) (i : x < length entries) → is_of t (ev x i) ≡ true → Touches x
    touching x i h = both_is Synchronised entries p x w i touches ∙ or_left (is_of t (ev x i)) _ h

    -- the newest of the task in front, where the numbers are the same
    pub head_here : (b : ℕ) (ib : b < length entries) → previous tasks p ≡ suc b → number tasks b ≡ number tasks p → own t (H p) ≡ (ev b ib).action ∷ own t (H b)
    head_here b ib prev same = by (are.behind p w)
      where
        mine : both_at of_one entries p b ≡ true
        mine = sym (are.same p b w ib) ∙ eq-eqb (number tasks p) (number tasks b) (sym same)

        by : Behind entries tasks p → own t (H p) ≡ (ev b ib).action ∷ own t (H b)
        by (alone _ _ _ none o q) = absurd (omega (arith, none, prev))
        by (generated _ _ _ c l is o m other only) =
            absurd (both_ways (both_at of_one entries p c) other (subst (λ y. both_at of_one entries p y ≡ true) (omega (arith, is, prev)) mine))
        by (going_on _ _ _ c l is o m newest) =
            let e : b ≡ c = omega (arith, is, prev) in
            own_from t b p (omega (arith, e, l)) (omega (arith, w)) ib (sym (both_is Synchronised entries p b w ib of_one) ∙ mine)
            (λ x k j i q. absurd (omega (arith, newest x j (touching x i q), k, e)))

    -- else there is none
    pub head_none : (previous tasks p ≡ 0) ⊎ ((b : ℕ) × (previous tasks p ≡ suc b) × (number tasks b ≢ number tasks p)) → own t (H p) ≡ []
    head_none c = by (are.behind p w)
      where
        by : Behind entries tasks p → own t (H p) ≡ []
        by (alone _ _ _ none o nothing) = own_none t p (omega (arith, w)) (λ x k i q. nothing x k (touching x i q))
        by (generated _ _ _ b l is o m other only) =
            own_none t p (omega (arith, w)) (λ x k i q.
            both_ways (both_at of_one entries p b) other
            (subst (λ y. both_at of_one entries p y ≡ true) (only x k (touching x i q)) (both_is Synchronised entries p x w i of_one ∙ q)))
        by (going_on _ _ _ b l is o mine newest) =
            absurd
            (⊎_elim (λ z. omega (arith, z, is))
            (λ d.
            let e : d.0 ≡ b = omega (arith, d.1, is) in
            d.2 (ap (number tasks) e ∙ sym (eqb-true (number tasks p) (number tasks b) (are.same p b w (omega (arith, l, w)) ∙ mine)))) c)

    -- ---- depend items

    module _ (legal : AreLegal entries) where
      legal_to : (x : ℕ) (i : x < length entries) → Legal legal.cells (ev x i ∷ H x)
      legal_to x i = legal_here legal x i

      -- who acts without a spawn in front is the root
      pub rootless : ((x : ℕ) → x < p → both_at generates entries p x ≡ true → ⊥) → t ≡ []
      rootless none = by t refl
        where
          longer : (k : ℕ) (s : Name) → s ≡ k ∷ s → ⊥
          longer k s e = omega (arith, ap length e)

          spawned : IsSpawned (ev p w ∷ H p) t
          spawned = acted_spawned legal.cells (ev p w ∷ H p) t (legal_to p w) (λ z. cons (own t (H p)) (sym (own_mine t (ev p w) (H p) (same_refl t)) ∙ z))
            where
              cons : (acts : List Action) → (ev p w).action ∷ acts ≡ [] → ⊥
              cons acts e = cc

          by : (s : Name) → t ≡ s → t ≡ []
          by [] e = e
          by (n ∷ s) e =
              absurd
              (⊎_elim
              (λ q. longer _ t (spawn_names legal.cells t t (own t (H p)) (ev p w).action (legal_to p w).1.own (subst (λ z. spawns z (ev p w) ≡ true) (sym e) q)))
              (λ q. let r = any_place (spawns (n ∷ s)) p (omega (arith, w)) q in none r.0 r.1 (both_is Synchronised entries p r.0 w r.2.0 generates ∙ subst (λ z. spawns z (ev r.0 r.2.0) ≡ true) (sym e) r.2.1))
              (or_cases (spawns (n ∷ s) (ev p w)) (list_any (spawns (n ∷ s)) (H p)) (subst (IsSpawned (ev p w ∷ H p)) e spawned)))

      root_none : (G : History) → Legal legal.cells G → list_any (spawns []) G ≡ false
      root_none [] l = refl
      root_none (v ∷ G) l =
          ap₂ (λ a b. a || b) (false_from_ne_true (spawns [] v) (λ h. no_cons (spawn_names legal.cells v.task [] (own v.task G) v.action l.1.own h))) (root_none G l.0)
        where
          no_cons : {k : ℕ} {s : Name} → ◌≡◌ {A = Name} [] (k ∷ s) → ⊥
          no_cons e = cc

      below : (n : ℕ) → n < length entries → Legal legal.cells (H n)
      below n i = (legal_to n i).0

      pub items_none_at : (n : ℕ) → n < length entries → origin tasks p ≡ 0 → items_of t (H n) ≡ []
      items_none_at n i zero_is =
          let root : t ≡ [] = ⊎_elim (λ a. rootless a.1) (λ a. absurd (omega (arith, zero_is, a.1))) (are.origins p w) in
          ap (λ s. items_of s (H n)) root ∙ no_items [] (H n) (root_none (H n) (below n i))

      pub items_some_at : (n u : ℕ) → p ≤ n → n < length entries → (iu : u < length entries) → origin tasks p ≡ suc u → items_of t (H n) ≡ items_in (Some (ev u iu).action)
      items_some_at n u l i iu is = ⊎_elim (λ a. absurd (omega (arith, is, a.0))) (λ a. by a.0 (omega (arith, is, a.1)) a.2 a.3) (are.origins p w)
        where
          by : (c : ℕ) → c ≡ u → c < p → both_at generates entries p c ≡ true → items_of t (H n) ≡ items_in (Some (ev u iu).action)
          by c e k made =
              let lu : u < n = omega (arith, e, k, l) in
              let cut = front_cut entries n u (at Synchronised entries u iu) lu (omega (arith, i)) (at_is Synchronised entries u iu) in
              let D = history_of (drop (suc u) (take n entries)) in
              let mine : spawns t (ev u iu) ≡ true = sym (both_is Synchronised entries p u w iu generates) ∙ subst (λ y. both_at generates entries p y ≡ true) e made in
              ap (items_of t) cut
              ∙ items_settled legal.cells D (ev u iu ∷ H u) t (subst (Legal legal.cells) cut (below n i)) (spawned_by t (ev u iu ∷ H u) (or_left (spawns t (ev u iu)) _ mine))
              ∙ items_of_spawn legal.cells (ev u iu ∷ H u) t (legal_to u iu)
              ∙ ap (λ b. items_in (cond b (Some (ev u iu).action) (spawn_of t (H u)))) mine

-- ---- what the code reads

pub got : (entries : List Entry) (i : ℕ) (v : Entry) → i < length entries → slice_get entries i ≡ Some v → v ≡ get_or entries i v
got entries i v l is =
    let x = there entries i l in
    subst (λ (y : Entry). y ≡ get_or entries i y) (some_same x.0 v (sym (slice_get_read entries (length entries) i x.0 refl l x.1) ∙ is)) x.1

module _ (entries : List Entry) (tasks : Tasks) (are : AreTasks entries tasks) (p : ℕ) (w : p < length entries) (v : Entry) (v_is : slice_get entries p ≡ Some v) where
  same_task : (at Synchronised entries p w).event.task ≡ v.event.task
  same_task = ap (λ (e : Entry). e.event.task) (some_same _ v (sym (at_read Synchronised entries p w) ∙ v_is))

  pub held_here : (b : ℕ) (y : Entry) → b < length entries → y ≡ get_or entries b y → previous tasks p ≡ suc b → number tasks b ≡ number tasks p → own v.event.task (H entries p) ≡ y.event.action ∷ own v.event.task (H entries b)
  held_here b y ib there prev same =
      subst (λ s. own s (H entries p) ≡ y.event.action ∷ own s (H entries b)) same_task
      (head_here entries tasks are p w b ib prev same ∙ ap (λ (e : Entry). e.event.action ∷ own (at Synchronised entries p w).event.task (H entries b)) (some_same _ _ (sym (at_read Synchronised entries b ib) ∙ slice_get_read entries (length entries) b y refl ib there)))

  pub held_none : (previous tasks p ≡ 0) ⊎ ((b : ℕ) × (previous tasks p ≡ suc b) × (number tasks b ≢ number tasks p)) → own v.event.task (H entries p) ≡ []
  held_none c = subst (λ s. own s (H entries p) ≡ []) same_task (head_none entries tasks are p w c)

  pub no_items_told : (legal : AreLegal entries) (n : ℕ) → n < length entries → origin tasks p ≡ 0 → items_of v.event.task (H entries n) ≡ []
  no_items_told legal n i zero_is = ap (λ s. items_of s (H entries n)) (sym same_task) ∙ items_none_at entries tasks are p w legal n i zero_is

  pub items_told : (legal : AreLegal entries) (n u : ℕ) → p ≤ n → n < length entries → u < length entries → origin tasks p ≡ suc u → (xs : List Item) → ((e : Entry) → slice_get entries u ≡ Some e → xs ≡ items_in (Some e.event.action)) → xs ≡ items_of v.event.task (H entries n)
  items_told legal n u l i iu is xs named =
      named (at Synchronised entries u iu) (at_read Synchronised entries u iu) ∙ sym (items_some_at entries tasks are p w legal n u l i iu is) ∙ ap (λ s. items_of s (H entries n)) same_task

  -- the ordinal of the step among those of its task
  pub ordinal_here : (b : ℕ) → b < length entries → previous tasks p ≡ suc b → number tasks b ≡ number tasks p → (k : ℕ) → ((u : Entry) → slice_get entries b ≡ Some u → k ≡ suc (length (own u.event.task (H entries b)))) → k + 1 ≡ suc (length (own v.event.task (H entries p)))
  ordinal_here b ib prev same k told =
      let y = at Synchronised entries b ib in
      let mine : both_at of_one entries p b ≡ true = sym (are.same p b w ib) ∙ eq-eqb (number tasks p) (number tasks b) (sym same) in
      let names : y.event.task ≡ v.event.task = same_true y.event.task (at Synchronised entries p w).event.task (sym (both_is Synchronised entries p b w ib of_one) ∙ mine) ∙ same_task in
      omega (arith, told y (at_read Synchronised entries b ib), ap length (held_here b y ib (at_is Synchronised entries b ib) prev same), ap (λ s. length (own s (H entries b))) names)

  pub ordinal_first : (previous tasks p ≡ 0) ⊎ ((b : ℕ) × (previous tasks p ≡ suc b) × (number tasks b ≢ number tasks p)) → 1 ≡ suc (length (own v.event.task (H entries p)))
  ordinal_first c = sym (ap (λ (acts : List Action). suc (length acts)) (held_none c))
