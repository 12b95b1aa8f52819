-- Where a finished run has no race, no finished run of the program has one.
use Rattle.std.proofs.Common.{◌≡◌, ◌<◌, ℕ, [], ◌∷◌, ◌++◌, length, Bool, true, false, cond, ◌⊎◌, inl, inr, ⊎_elim, refl, sym, ap, ◌∙◌, subst, arith, ℤ, append_assoc, Some, None, ◌==◌, eqb-true, eq-eqb}
use Rattle.std.specs.Prelude.{◌↔◌}
use Rattle.std.proofs.lemmas.Bool.{or_left, or_right, and_from, both_ways, false≢true, ltb-true}
use Rattle.tb_model.specs.declared.action.Action.{Action}
use Rattle.tb_model.specs.declared.action.Action.TheVariants.{Start, Let, Load, Store, Print, Spawn, Wait, Open, Close, Test, End, Fault}
use Rattle.tb_model.specs.declared.event.Event.{Event}
use Rattle.tb_model.specs.Names.{Name}
use Rattle.tb_model.specs.Facts.{History, is_of, is_print, own, touches, is_store_to, IsSpawned}
use Rattle.tb_model.specs.Needs.{conflicts}
use Rattle.tb_model.proofs.TestLemmas.{same_refl}
use Rattle.tb_model.proofs.FactsLemmas.{own_mine, grown}
use Rattle.tb_model.proofs.NeighboursLemmas.{same_sym}
use Rattle.tb_model.proofs.SettledLemmas.{spawned_later}
use Rattle.tb_model.proofs.NeedsLemmas.{may_spawned}
use Rattle.tb_races.specs.declared.conflict.Conflict.{Conflict}
use Rattle.tb_races.specs.Kinds.{shared, some_if}
use Rattle.tb_races.specs.Orders.{Synchronised, counts_some, links, ComesAfter, directly, by_way}
use Rattle.tb_races.specs.Racing.{conflict, IsRace, unordered}
use Rattle.tb_one_run.specs.Outcomes.{HasRace}
use Rattle.tb_one_run.specs.Behaviours.{Behaviour, IsRunOf, IsOver}
use Rattle.tb_one_run.proofs.BehaviourLemmas.{run_below}
use Rattle.tb_one_run.proofs.ListedLemmas.{passed_back}
use Rattle.tb_one_run.proofs.LinkLemmas.{stands_before, clash, tame}
use Rattle.tb_one_run.proofs.SharedLemmas.{Older, has, own_longer, older_front, older_same, has_now}
use Rattle.tb_one_run.proofs.AgreeLemmas.{Reaches}
use Rattle.tb_one_run.proofs.TwinLemmas.{kind_same, Twin, twin, one_place}
use Rattle.tb_one_run.proofs.OutcomeLemmas.{walked, alike_outcome}

-- ---- conflicts hold both ways

turned : (c d : ℕ) → (c == d) ≡ true → (d == c) ≡ true
turned c d h = eq-eqb d c (sym (eqb-true c d h))

shared_if : (b : Bool) (s r : Conflict) → some_if b s ≡ Some r → b ≡ true
shared_if true s r h = refl
shared_if false s r h = cc

store_back : (c : ℕ) (b a : Action) → is_store_to c a ≡ true → touches c b ≡ true → conflicts b a ≡ true
store_back c (Load r d y) (Store k x) i h = ap (λ n. n == k) (sym (eqb-true c d h)) ∙ i
store_back c (Store d y) (Store k x) i h = ap (λ n. n == k) (sym (eqb-true c d h)) ∙ i
store_back c b Start i h = absurd (false≢true i)
store_back c b (Let r x) i h = absurd (false≢true i)
store_back c b (Load r k x) i h = absurd (false≢true i)
store_back c b (Print x) i h = absurd (false≢true i)
store_back c b (Spawn s) i h = absurd (false≢true i)
store_back c b (Wait items) i h = absurd (false≢true i)
store_back c b Open i h = absurd (false≢true i)
store_back c b Close i h = absurd (false≢true i)
store_back c b (Test y) i h = absurd (false≢true i)
store_back c b End i h = absurd (false≢true i)
store_back c b Fault i h = absurd (false≢true i)
store_back c Start (Store k x) i h = absurd (false≢true h)
store_back c (Let r y) (Store k x) i h = absurd (false≢true h)
store_back c (Print y) (Store k x) i h = absurd (false≢true h)
store_back c (Spawn s) (Store k x) i h = absurd (false≢true h)
store_back c (Wait items) (Store k x) i h = absurd (false≢true h)
store_back c Open (Store k x) i h = absurd (false≢true h)
store_back c Close (Store k x) i h = absurd (false≢true h)
store_back c (Test y) (Store k x) i h = absurd (false≢true h)
store_back c End (Store k x) i h = absurd (false≢true h)
store_back c Fault (Store k x) i h = absurd (false≢true h)

load_back : (c r : ℕ) (x : ℤ) (b : Action) → is_store_to c b ≡ true → conflicts b (Load r c x) ≡ true
load_back c r x (Store d y) h = turned c d h
load_back c r x Start h = absurd (false≢true h)
load_back c r x (Let k y) h = absurd (false≢true h)
load_back c r x (Load k d y) h = absurd (false≢true h)
load_back c r x (Print y) h = absurd (false≢true h)
load_back c r x (Spawn s) h = absurd (false≢true h)
load_back c r x (Wait items) h = absurd (false≢true h)
load_back c r x Open h = absurd (false≢true h)
load_back c r x Close h = absurd (false≢true h)
load_back c r x (Test y) h = absurd (false≢true h)
load_back c r x End h = absurd (false≢true h)
load_back c r x Fault h = absurd (false≢true h)

clash_back : (a b : Action) (r : Conflict) → shared a b ≡ Some r → clash b a ≡ true
clash_back (Store c x) b r h =
    or_left (conflicts b (Store c x)) _ (store_back c b (Store c x) (eq-eqb c c refl) (shared_if (touches c b) _ r h))
clash_back (Load k c x) b r h = or_left (conflicts b (Load k c x)) _ (load_back c k x b (shared_if (is_store_to c b) _ r h))
clash_back (Print x) b r h =
    or_right (conflicts b (Print x)) _ (and_from (is_print b) true (shared_if (is_print b) _ r h) refl)
clash_back Start b r h = cc
clash_back (Let k x) b r h = cc
clash_back (Spawn s) b r h = cc
clash_back (Wait items) b r h = cc
clash_back Open b r h = cc
clash_back Close b r h = cc
clash_back (Test y) b r h = cc
clash_back End b r h = cc
clash_back Fault b r h = cc

-- who conflict are of different tasks
pub conflict_parts : (v u : Event) (r : Conflict) → conflict v u ≡ Some r → (is_of v.task u ≡ false) × (shared v.action u.action ≡ Some r)
conflict_parts v u r h = at (is_of v.task u) refl
  where
    at : (b : Bool) → is_of v.task u ≡ b → (is_of v.task u ≡ false) × (shared v.action u.action ≡ Some r)
    at true o = absurd (let z : None ≡ Some r = sym (ap (λ p. cond p None (shared v.action u.action)) o) ∙ h in cc)
    at false o = (o, sym (ap (λ p. cond p None (shared v.action u.action)) o) ∙ h)

-- ---- two indexes of one list

-- two indexes of one list are one, or one is before the other
pub places : (a b : History) (x y : Event) (F G : History) → a ++ x ∷ F ≡ b ++ y ∷ G → (x ≡ y) ⊎ (((m : History) × (F ≡ m ++ y ∷ G)) ⊎ ((m : History) × (G ≡ m ++ x ∷ F)))
places [] [] x y F G e = inl (cc)
places [] (z ∷ b) x y F G e = inr (inl (b, cc))
places (z ∷ a) [] x y F G e = inr (inr (a, cc))
places (z ∷ a) (k ∷ b) x y F G e = places a b x y F G (cc)

-- who acts was generated
pub acts_spawned : (B : Behaviour) (b : History) (u : Event) (F : History) → IsRunOf B (b ++ u ∷ F) → IsSpawned (b ++ u ∷ F) u.task
acts_spawned B b u F l =
    let m = run_below B b (u ∷ F) l in spawned_later u.task b (u ∷ F) (grown u.task u F (may_spawned B.cells F u m.0.0 m.0.1))

module _ (B : Behaviour) (H : History) (lh : IsRunOf B H) (done : IsOver H) (free : HasRace Synchronised H → ⊥) (K : History) (lk : IsRunOf B K) (done_k : IsOver K) where
  acts : (t : Name) → own t H ≡ own t K
  acts t = (alike_outcome B H lh done free K lk done_k).acts t

  legal_k : (c F : History) → K ≡ c ++ F → IsRunOf B F
  legal_k c F e = run_below B c F (subst (IsRunOf B) e lk)

  reaches_k : (c F : History) → K ≡ c ++ F → Reaches F H
  reaches_k c F e t = subst (Older (own t F)) (sym (ap (own t) e) ∙ sym (acts t)) (older_front t c F)

  reaches_h : (b F : History) → H ≡ b ++ F → Reaches F H
  reaches_h b F e t = subst (λ G. Older (own t F) (own t G)) (sym e) (older_front t b F)

  -- ---- a link of H is one of K

  record Linked (y u : Event) (Y : History) (n : ℕ) : Type 0 where
    between : History
    front : History
    split : Y ≡ between ++ u ∷ front
    number : length (own u.task front) ≡ n
    link : links Synchronised Y y u ≡ true

  module _ (b : History) (y : Event) (Y : History) (e : H ≡ b ++ y ∷ Y) (m : History) (u : Event) (U : History) (f : Y ≡ m ++ u ∷ U) (l : links Synchronised Y y u ≡ true) (c Y' : History) (g : K ≡ c ++ y ∷ Y') (n : length (own y.task Y') ≡ length (own y.task Y)) where
    u_at : H ≡ (b ++ y ∷ m) ++ u ∷ U
    u_at = e ∙ ap (λ G. b ++ y ∷ G) f ∙ sym (append_assoc b (y ∷ m) (u ∷ U))

    -- it is before y in K too
    u_stands : length (own u.task U) < length (own u.task (y ∷ Y'))
    u_stands =
        let s = walked B H lh done free (y ∷ Y') (legal_k c (y ∷ Y') g) in
        ltb-true (length (own u.task U)) (length (own u.task (y ∷ Y')))
        (s.closed b y Y e (has_now Y' y y Y (same_refl y.task) (omega (arith, n))) m u U f l)

    kind : (k : History) (V : History) → Y' ≡ k ++ u ∷ V → links Synchronised Y' y u ≡ true
    kind k V q =
        let ly = legal_k c (y ∷ Y') g in
        let lx = run_below B b (y ∷ Y) (subst (IsRunOf B) e lh) in
        let same : own y.task Y ≡ own y.task Y' = older_same (own y.task H) (reaches_h (b ++ y ∷ []) Y (e ∙ sym (append_assoc b (y ∷ []) Y)) y.task) (reaches_k (c ++ y ∷ []) Y' (g ∙ sym (append_assoc c (y ∷ []) Y')) y.task) (sym n) in
        ap (counts_some Synchronised)
        (sym (kind_same B.cells H Y Y' lh.0 lx.0.0 ly.0.0 (reaches_h (b ++ y ∷ []) Y (e ∙ sym (append_assoc b (y ∷ []) Y))) (reaches_k (c ++ y ∷ []) Y' (g ∙ sym (append_assoc c (y ∷ []) Y'))) y u same
        (may_spawned B.cells Y y lx.0.0 lx.0.1) (may_spawned B.cells Y' y ly.0.0 ly.0.1)
        (subst (λ G. IsSpawned G u.task) (sym f) (acts_spawned B m u U (subst (IsRunOf B) f (lx.0.0, lx.1.0))))
        (subst (λ G. IsSpawned G u.task) (sym q) (acts_spawned B k u V (subst (IsRunOf B) q (ly.0.0, ly.1.0))))))
        ∙ l

    linked_too : Linked y u Y' (length (own u.task U))
    linked_too =
        let p = twin H (y ∷ Y') (reaches_k c (y ∷ Y') g) (b ++ y ∷ m) u U u_at u_stands in
        at p.later p.front p.split p.number
      where
        at : (k V : History) → y ∷ Y' ≡ k ++ u ∷ V → length (own u.task V) ≡ length (own u.task U) → Linked y u Y' (length (own u.task U))
        at [] V q r =
            let one : y ≡ u = cc in
            let rest : Y' ≡ V = cc in
            let same : length (own u.task Y') ≡ length (own u.task Y) = subst (λ z. length (own z.task Y') ≡ length (own z.task Y)) one n in
            absurd (omega (arith, r, ap (λ G. length (own u.task G)) rest, same, ap (λ G. length (own u.task G)) f, own_longer u.task m (u ∷ U), ap length (own_mine u.task u U (same_refl u.task))))
        at (z ∷ k) V q r =
            let s : Y' ≡ k ++ u ∷ V = cc in record { between = k; front = V; split = s; number = r; link = kind k V s }

  -- ---- and so is the order

  -- F' is the index in K of the newest event of F
  abbrev Stands : History → History → Type 0
  Stands [] F' = ⊥
  Stands (y ∷ Y) F' =
      (c : History) × (Y' : History) × (F' ≡ y ∷ Y') × (K ≡ c ++ F') × (length (own y.task Y') ≡ length (own y.task Y))

  transfer : {F G : History} → ComesAfter Synchronised F G → (b : History) → H ≡ b ++ F → (F' : History) → Stands F F' → (G' : History) × Stands G G' × ComesAfter Synchronised F' G'
  transfer (directly o v u between front h) b e F' s =
      let c = s.0 in
      let Y' = s.1 in
      let r = linked_too b v (between ++ u ∷ front) e between u front refl h c Y' (s.3 ∙ ap (λ G. c ++ G) s.2) s.4 in
      let whole : F' ≡ v ∷ (r.between ++ u ∷ r.front) = s.2 ∙ ap (λ G. v ∷ G) r.split in (
        u ∷ r.front,
        (c ++ v ∷ r.between, r.front, refl, s.3 ∙ ap (λ G. c ++ G) whole ∙ sym (append_assoc c (v ∷ r.between) (u ∷ r.front)), r.number),
        subst (λ G. ComesAfter Synchronised G (u ∷ r.front)) (sym whole)
            (directly Synchronised v u r.between r.front (subst (λ G. links Synchronised G v u ≡ true) r.split r.link)),
      )
  transfer (by_way {F = F} {G = G} f g) b e F' s =
      let a = stands_before f in
      let p = transfer f b e F' s in
      let q = transfer g (b ++ a.0) (e ∙ ap (λ X. b ++ X) a.1 ∙ sym (append_assoc b a.0 G)) p.0 p.1 in (q.0, q.1, by_way p.2 q.2)

  -- ---- no race

  module _ (c : History) (v u : Event) (between front : History) (shares : Conflict) (both : conflict v u ≡ Some shares) (at_v : K ≡ c ++ v ∷ (between ++ u ∷ front)) where
    parts : (is_of v.task u ≡ false) × (shared v.action u.action ≡ Some shares)
    parts = conflict_parts v u shares both

    at_u : K ≡ (c ++ v ∷ between) ++ u ∷ front
    at_u = at_v ∙ sym (append_assoc c (v ∷ between) (u ∷ front))

    -- the two in H
    reach_back : Reaches H K
    reach_back t = ([], sym (acts t))

    in_h : (d : History) (x : Event) (X : History) → K ≡ d ++ x ∷ X → Twin H x (length (own x.task X))
    in_h d x X q =
        twin K H reach_back d x X q (omega (arith, ap length (acts x.task), ap (λ G. length (own x.task G)) q, own_longer x.task d (x ∷ X), ap length (own_mine x.task x X (same_refl x.task))))

    -- the earlier is in front in H too, and H orders them
    in_order : (b V d U : History) → H ≡ b ++ v ∷ V → length (own v.task V) ≡ length (own v.task (between ++ u ∷ front)) → H ≡ d ++ u ∷ U → length (own u.task U) ≡ length (own u.task front) → (m : History) → V ≡ m ++ u ∷ U → (ComesAfter Synchronised (v ∷ (between ++ u ∷ front)) (u ∷ front) → ⊥) → ⊥
    in_order b V d U e n f k m q not =
        free (record {
          newer = b;
          later = v ∷ (m ++ u ∷ U);
          earlier = u ∷ U;
          split = e ∙ ap (λ G. b ++ v ∷ G) q;
          race = unordered Synchronised v u m U shares both (λ after.
              let r = transfer after b (e ∙ ap (λ G. b ++ v ∷ G) q) (v ∷ (between ++ u ∷ front)) (c, between ++ u ∷ front, refl, at_v, sym n ∙ ap (λ G. length (own v.task G)) q) in
              let s = r.1 in
              let one : s.1 ≡ front = (one_place K s.0 (c ++ v ∷ between) u u s.1 front (s.3 ∙ ap (λ G. s.0 ++ G) s.2) at_u refl (s.4 ∙ k)).0 in
              not (subst (ComesAfter Synchronised (v ∷ (between ++ u ∷ front))) (s.2 ∙ ap (λ G. u ∷ G) one) r.2));
        })

    -- the later isn't in front in H
    not_turned : (b V d U : History) → H ≡ b ++ v ∷ V → length (own v.task V) ≡ length (own v.task (between ++ u ∷ front)) → H ≡ d ++ u ∷ U → length (own u.task U) ≡ length (own u.task front) → (m : History) → U ≡ m ++ v ∷ V → ⊥
    not_turned b V d U e n f k m q =
        let s = walked B H lh done free (u ∷ front) (legal_k (c ++ v ∷ between) (u ∷ front) at_u) in
        let now : has (u ∷ front) (u ∷ U) ≡ true = has_now front u u U (same_refl u.task) (omega (arith, k)) in
        let there = tame (has (u ∷ front)) H s.closed free d u m v V (f ∙ ap (λ G. d ++ u ∷ G) q) (ap (λ G. has (u ∷ front) (u ∷ G)) (sym q) ∙ now) (same_sym u.task v.task parts.0) (clash_back v.action u.action shares parts.1) in
        let less = ltb-true (length (own v.task V)) (length (own v.task (u ∷ front))) there in
        omega (arith, n, own_longer v.task between (u ∷ front))

    ordered : (ComesAfter Synchronised (v ∷ (between ++ u ∷ front)) (u ∷ front) → ⊥) → ⊥
    ordered not =
        let p = in_h c v (between ++ u ∷ front) at_v in
        let q = in_h (c ++ v ∷ between) u front at_u in
        ⊎_elim (λ z. both_ways (is_of v.task u) parts.0 (subst (λ x. is_of v.task x ≡ true) z (same_refl v.task)))
        (λ z.
        ⊎_elim (λ a. in_order p.later p.front q.later q.front p.split p.number q.split q.number a.0 a.1 not)
        (λ a. not_turned p.later p.front q.later q.front p.split p.number q.split q.number a.0 a.1) z)
        (places p.later q.later v u p.front q.front (sym p.split ∙ q.split))

  not_one : {F G : History} → IsRace Synchronised F G → (c : History) → K ≡ c ++ F → ⊥
  not_one (unordered o v u between front shares both not) c e = ordered c v u between front shares both e not

  -- so K has no race
  pub no_race : HasRace Synchronised K → ⊥
  no_race r = not_one r.race r.newer r.split

-- of two runs that are over both have a race or neither has
pub all_or_none : (B : Behaviour) (H K : History) → IsRunOf B H → IsOver H → IsRunOf B K → IsOver K → HasRace Synchronised H ↔ HasRace Synchronised K
all_or_none B H K l d m e = (passed_back H K (λ f. no_race B K m e f H l d), passed_back K H (λ f. no_race B H l d f K m e))
