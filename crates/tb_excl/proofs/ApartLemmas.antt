-- Tasks exclude each other where one takes a location that an item of the other meets.
use Rattle.std.proofs.Common.{◌≡◌, ◌≢◌, ℕ, List, [], ◌∷◌, Bool, true, false, not, ◌&&◌, ◌||◌, ⊎_elim, refl, sym, ap, ◌∙◌, subst, nat_lt, nat_eq, arith, eqb-true, eq-eqb, IsTrue, IsFalse}
use Rattle.std.specs.Prelude.{◌↔◌}
use Rattle.std.specs.List.{list_any}
use Rattle.std.proofs.lemmas.Bool.{or_cases, or_left, or_right, and_parts, and_from, both_ways, false≢true}
use Rattle.std.proofs.lemmas.Bool.Decides.{nat_tests}
use Rattle.tb_model.specs.declared.kind.Kind.{Kind}
use Rattle.tb_model.specs.declared.kind.Kind.TheVariants.{In, Mutexinoutset, Inoutset}
use Rattle.tb_model.specs.declared.place.Place.{Place}
use Rattle.tb_model.specs.declared.place.Place.TheVariants.{Cell, All}
use Rattle.tb_model.specs.declared.item.Item.{Item}
use Rattle.tb_model.specs.Names.{Name, same_name, is_elder}
use Rattle.tb_model.specs.Items.{relation, is_apart, same_place, meets, some_meet}
use Rattle.tb_model.specs.Facts.{History, HasStarted, HasEnded, starts, ends, items_of, apart}
use Rattle.tb_model.specs.Legal.{Cells, Legal}
use Rattle.tb_model.proofs.TestLemmas.{same_true, same_refl, any_weaker}
use Rattle.tb_model.proofs.StateLemmas.{exclusion}
use Rattle.tb_excl.specs.Holders.{Holders, is_exclusive, is_place, takes, excludes, ExcludesTask}
use Rattle.tb_excl.specs.Histories.{is_held, AreHolders}

-- ---- kinds and locations

both_apart : (a b : Kind) → is_exclusive a ≡ true → is_exclusive b ≡ true → is_apart (relation a b) ≡ true
both_apart Mutexinoutset Mutexinoutset p q = refl
both_apart Mutexinoutset _ p q = absurd (false≢true q)
both_apart _ b p q = absurd (false≢true p)

apart_both : (a b : Kind) → is_apart (relation a b) ≡ true → (is_exclusive a ≡ true) × (is_exclusive b ≡ true)
apart_both Mutexinoutset Mutexinoutset h = (refl, refl)
apart_both In In h = absurd (false≢true h)
apart_both Inoutset Inoutset h = absurd (false≢true h)
apart_both _ _ h = absurd (false≢true h)

one_place : (p q : Place) → is_place p q ≡ true → p ≡ q
one_place (Cell c) (Cell d) h = ap Cell (eqb-true c d h)
one_place (Cell c) All h = absurd (false≢true h)
one_place All (Cell d) h = absurd (false≢true h)
one_place All All h = refl

itself : (p : Place) → is_place p p ≡ true
itself (Cell c) = eq-eqb c c refl
itself All = refl

same_itself : (p : Place) → same_place p p ≡ true
same_itself (Cell c) = eq-eqb c c refl
same_itself All = refl

same_back : (p q : Place) → same_place p q ≡ true → same_place q p ≡ true
same_back (Cell c) (Cell d) h = eq-eqb d c (sym (eqb-true c d h))
same_back (Cell c) All h = refl
same_back All (Cell d) h = refl
same_back All All h = refl

-- ---- items

-- an item of one list and one of the other: the lists may change places
any_swap : {A B : Type 0} (r : A → B → Bool) (xs : List A) (ys : List B) → list_any (λ x. list_any (r x) ys) xs ≡ true → list_any (λ y. list_any (λ x. r x y) xs) ys ≡ true
any_swap r [] ys h = absurd (false≢true h)
any_swap r (x ∷ xs) ys h =
    ⊎_elim (λ a. any_weaker (r x) (λ y. r x y || list_any (λ z. r z y) xs) (λ y b. or_left (r x y) _ b) ys a)
    (λ a. any_weaker (λ y. list_any (λ z. r z y) xs) (λ y. r x y || list_any (λ z. r z y) xs) (λ y b. or_right (r x y) _ b) ys (any_swap r xs ys a))
    (or_cases (list_any (r x) ys) _ h)

any_always : {A : Type 0} (b : Bool) (xs : List A) → list_any (λ x. b) xs ≡ true → b ≡ true
any_always b [] h = absurd (false≢true h)
any_always b (x ∷ xs) h = ⊎_elim (λ a. a) (λ a. any_always b xs a) (or_cases b (list_any (λ x. b) xs) h)

meets_back : (i j : Item) → meets is_apart i j ≡ true → meets is_apart j i ≡ true
meets_back i j h =
    let o = and_parts (same_place i.place j.place) (is_apart (relation i.kind j.kind)) h in
    let k = apart_both i.kind j.kind o.1 in
    and_from (same_place j.place i.place) (is_apart (relation j.kind i.kind)) (same_back i.place j.place o.0) (both_apart j.kind i.kind k.1 k.0)

meet_back : (new old : List Item) → some_meet is_apart new old ≡ true → some_meet is_apart old new ≡ true
meet_back new old h =
    any_weaker (λ j. list_any (λ i. meets is_apart i j) new) (λ j. list_any (meets is_apart j) new)
    (λ j a. any_weaker (λ i. meets is_apart i j) (meets is_apart j) (λ i b. meets_back i j b) new a) old
    (any_swap (meets is_apart) new old h)

abbrev TakesMet : List Item → List Item → Type 0
TakesMet new old = (place : Place) × IsTrue (takes old place) × IsTrue (excludes new place)

place_met : (new old : List Item) → list_any (λ j. list_any (λ i. meets is_apart i j) new) old ≡ true → TakesMet new old
place_met new [] h = absurd (false≢true h)
place_met new (j ∷ old) h =
    ⊎_elim here (λ a. let r = place_met new old a in (r.0, or_right (is_exclusive j.kind && is_place j.place r.0) (takes old r.0) r.1, r.2))
    (or_cases (list_any (λ i. meets is_apart i j) new) _ h)
  where
    parts : (i : Item) → meets is_apart i j ≡ true → (same_place i.place j.place ≡ true) × (is_exclusive i.kind ≡ true) × (is_exclusive j.kind ≡ true)
    parts i a =
        let o = and_parts (same_place i.place j.place) (is_apart (relation i.kind j.kind)) a in
        let k = apart_both i.kind j.kind o.1 in (o.0, k.0, k.1)

    here : list_any (λ i. meets is_apart i j) new ≡ true → TakesMet new (j ∷ old)
    here a =
        let e : is_exclusive j.kind ≡ true = any_always (is_exclusive j.kind) new (any_weaker (λ i. meets is_apart i j) (λ i. is_exclusive j.kind) (λ i b. (parts i b).2) new a) in (
          j.place,
          or_left (is_exclusive j.kind && is_place j.place j.place) (takes old j.place) (and_from (is_exclusive j.kind) (is_place j.place j.place) e (itself j.place)),
          any_weaker (λ i. meets is_apart i j) (λ i. is_exclusive i.kind && same_place i.place j.place)
              (λ i b. let o = parts i b in and_from (is_exclusive i.kind) (same_place i.place j.place) o.1 o.0) new a,
        )

taken_met : (new old : List Item) (place : Place) → takes old place ≡ true → excludes new place ≡ true → some_meet is_apart new old ≡ true
taken_met new old place t e =
    any_weaker (λ i. is_exclusive i.kind && same_place i.place place) (λ i. list_any (meets is_apart i) old)
    (λ i a.
    let x = and_parts (is_exclusive i.kind) (same_place i.place place) a in
    any_weaker (λ j. is_exclusive j.kind && is_place j.place place) (meets is_apart i)
    (λ j b.
    let y = and_parts (is_exclusive j.kind) (is_place j.place place) b in
    and_from (same_place i.place j.place) (is_apart (relation i.kind j.kind)) (subst (λ q. same_place i.place q ≡ true) (sym (one_place j.place place y.1)) x.1) (both_apart i.kind j.kind x.0 y.0))
    old t)
    new e

-- two tasks exclude each other where one takes a location that an item of the other meets
pub apart_by_place : (new old : List Item) → IsTrue (some_meet is_apart new old) ↔ TakesMet new old
apart_by_place new old = (
  λ h. place_met new old (any_swap (meets is_apart) new old h),
  λ m. taken_met new old m.0 m.1 m.2,
)

-- ---- siblings

siblings_apart : (H : History) (p : Name) (m n : ℕ) → m ≢ n → some_meet is_apart (items_of (n ∷ p) H) (items_of (m ∷ p) H) ≡ true → apart H (m ∷ p) (n ∷ p) ≡ true
siblings_apart H p m n d h = by_order (nat_lt m n) refl
  where
    elder : Bool
    elder = is_elder (m ∷ p) (n ∷ p) && some_meet is_apart (items_of (n ∷ p) H) (items_of (m ∷ p) H)

    younger : Bool
    younger = is_elder (n ∷ p) (m ∷ p) && some_meet is_apart (items_of (m ∷ p) H) (items_of (n ∷ p) H)

    by_order : (b : Bool) → nat_lt m n ≡ b → (elder || younger) ≡ true
    by_order true e =
        or_left elder younger (and_from (is_elder (m ∷ p) (n ∷ p)) _ (and_from (nat_lt m n) (same_name p p) e (same_refl p)) h)
    by_order false e =
        let l : nat_lt n m ≡ true = grind (arith, nat_tests) in
        or_right elder younger (and_from (is_elder (n ∷ p) (m ∷ p)) _ (and_from (nat_lt n m) (same_name p p) l (same_refl p)) (meet_back (items_of (n ∷ p) H) (items_of (m ∷ p) H) h))

-- what excludes a child is another child of the same task
apart_sibling : (H : History) (u : Name) (n : ℕ) (p : Name) → apart H u (n ∷ p) ≡ true → (m : ℕ) × (u ≡ m ∷ p) × (some_meet is_apart (items_of (n ∷ p) H) (items_of u H) ≡ true)
apart_sibling H [] n p h = absurd (false≢true h)
apart_sibling H (m ∷ q) n p h =
    ⊎_elim
    (λ a.
    let o = and_parts (is_elder (m ∷ q) (n ∷ p)) _ a in
    let e = and_parts (nat_lt m n) (same_name q p) o.0 in (m, ap (λ t. m ∷ t) (same_true q p e.1), o.1))
    (λ a.
    let o = and_parts (is_elder (n ∷ p) (m ∷ q)) _ a in
    let e = and_parts (nat_lt n m) (same_name p q) o.0 in
    (m, ap (λ t. m ∷ t) (sym (same_true p q e.1)), meet_back (items_of (m ∷ q) H) (items_of (n ∷ p) H) o.1))
    (or_cases (is_elder (m ∷ q) (n ∷ p) && some_meet is_apart (items_of (n ∷ p) H) (items_of (m ∷ q) H)) _ h)

-- ---- who holds

record Holds (H : History) (t : Name) (place : Place) : Type 0 where
  pub begun : list_any (starts t) H ≡ true
  pub alive : list_any (ends t) H ≡ false
  pub has : takes (items_of t H) place ≡ true

not_true : (b : Bool) → not b ≡ true → b ≡ false
not_true true h = absurd (false≢true h)
not_true false h = refl

holds : (H : History) (p : Name) (place : Place) (n : ℕ) → is_held H p place n ≡ true → Holds H (n ∷ p) place
holds H p place n h =
    let a = and_parts (list_any (starts (n ∷ p)) H) _ h in
    let b = and_parts (not (list_any (ends (n ∷ p)) H)) _ a.1 in
    record { begun = a.0; alive = not_true _ b.0; has = b.1 }

held : (H : History) (p : Name) (place : Place) (n : ℕ) → HasStarted H (n ∷ p) → (HasEnded H (n ∷ p) → ⊥) → takes (items_of (n ∷ p) H) place ≡ true → is_held H p place n ≡ true
held H p place n s e t = by_end (list_any (ends (n ∷ p)) H) refl
  where
    by_end : (b : Bool) → list_any (ends (n ∷ p)) H ≡ b → (list_any (starts (n ∷ p)) H && (not b && takes (items_of (n ∷ p) H) place)) ≡ true
    by_end true x = absurd (e x)
    by_end false x = and_from (list_any (starts (n ∷ p)) H) _ s t

-- of two children one has ended where what one takes meets what the other takes
two_hold : (cells : Cells) (H : History) (p : Name) (q r : Place) (m n : ℕ) → Legal cells H → same_place q r ≡ true → m ≢ n → Holds H (m ∷ p) q → Holds H (n ∷ p) r → ⊥
two_hold cells H p q r m n l s d x y =
    let met : excludes (items_of (m ∷ p) H) r ≡ true =
    any_weaker (λ i. is_exclusive i.kind && is_place i.place q) (λ i. is_exclusive i.kind && same_place i.place r)
    (λ i a.
    let o = and_parts (is_exclusive i.kind) (is_place i.place q) a in
    and_from (is_exclusive i.kind) (same_place i.place r) o.0 (subst (λ z. same_place z r ≡ true) (sym (one_place i.place q o.1)) s))
    (items_of (m ∷ p) H) x.has
    in
    let b = siblings_apart H p n m (λ e. d (sym e)) (taken_met (items_of (m ∷ p) H) (items_of (n ∷ p) H) r y.has met) in
    ⊎_elim (λ e. both_ways (list_any (ends (m ∷ p)) H) x.alive e) (λ e. both_ways (list_any (ends (n ∷ p)) H) y.alive e)
    (exclusion cells H (m ∷ p) (n ∷ p) l b x.begun y.begun)

-- two locations that are one storage location have one holder
pub one_of_both : (cells : Cells) (H : History) (p : Name) (q r : Place) (m n : ℕ) → Legal cells H → IsTrue (same_place q r) → IsTrue (is_held H p q m) → IsTrue (is_held H p r n) → m ≡ n
one_of_both cells H p q r m n l s a b = by_number (nat_eq m n) refl
  where
    by_number : (x : Bool) → nat_eq m n ≡ x → m ≡ n
    by_number true e = eqb-true m n e
    by_number false e =
        absurd (two_hold cells H p q r m n l s (λ z. both_ways (nat_eq m n) e (eq-eqb m n z)) (holds H p q m a) (holds H p r n b))

-- a location has at most one holder
pub one_holder : (cells : Cells) (H : History) (p : Name) (place : Place) (m n : ℕ) → Legal cells H → IsTrue (is_held H p place m) → IsTrue (is_held H p place n) → m ≡ n
one_holder cells H p place m n l = one_of_both cells H p place place m n l (same_itself place)

-- ---- who excludes a child

abbrev IsUnderWay : History → Name → Type 0
IsUnderWay H u = HasStarted H u × (HasEnded H u → ⊥)

-- a child that is apart and under way holds what excludes
pub under_way_excludes : (H : History) (p : Name) (n : ℕ) (h : Holders) (u : Name) → AreHolders H p h → IsTrue (apart H u (n ∷ p)) → HasStarted H u → (HasEnded H u → ⊥) → ExcludesTask h (items_of (n ∷ p) H) u
under_way_excludes H p n h u a b s e =
    let t = apart_sibling H u n p b in
    let m = (apart_by_place (items_of (n ∷ p) H) (items_of u H)).0 t.2 in
    let mine : is_held H p m.0 t.0 ≡ true =
    held H p m.0 t.0 (subst (HasStarted H) t.1 s) (λ x. e (subst (HasEnded H) (sym t.1) x)) (subst (λ w. takes (items_of w H) m.0 ≡ true) t.1 m.1)
    in (t.0, t.1 ∙ ap (λ w. t.0 ∷ w) (sym a.parent), (m.0, m.2, (a.held m.0 t.0).1 mine))

-- what excludes a child that hasn't started is apart from it and under way
excluder : (H : History) (p : Name) (n : ℕ) (h : Holders) (u : Name) → AreHolders H p h → IsFalse (list_any (starts (n ∷ p)) H) → ExcludesTask h (items_of (n ∷ p) H) u → IsTrue (apart H u (n ∷ p)) × HasStarted H u × (HasEnded H u → ⊥)
excluder H p n h u a f x =
    let m = x.0 in
    let y = x.2 in
    let o : Holds H (m ∷ p) y.0 = holds H p y.0 m ((a.held y.0 m).0 y.2) in
    let name : u ≡ m ∷ p = x.1 ∙ ap (λ w. m ∷ w) a.parent in
    let d : m ≢ n = λ z. both_ways (list_any (starts (n ∷ p)) H) f (subst (λ k. HasStarted H (k ∷ p)) z o.begun) in
    let b = siblings_apart H p m n d (taken_met (items_of (n ∷ p) H) (items_of (m ∷ p) H) y.0 o.has y.1) in (
      subst (λ w. apart H w (n ∷ p) ≡ true) (sym name) b,
      subst (HasStarted H) (sym name) o.begun,
      λ e. both_ways (list_any (ends (m ∷ p)) H) o.alive (subst (HasEnded H) name e),
    )

pub busy : (H : History) (p : Name) (n : ℕ) (h : Holders) (u : Name) → AreHolders H p h → IsFalse (list_any (starts (n ∷ p)) H) → ExcludesTask h (items_of (n ∷ p) H) u ↔ (IsTrue (apart H u (n ∷ p)) × HasStarted H u × (HasEnded H u → ⊥))
busy H p n h u a f = (excluder H p n h u a f, λ x. under_way_excludes H p n h u a x.0 x.1 x.2)
