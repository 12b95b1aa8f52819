-- The search finds the least holder that excludes a task.
use Rattle.std.proofs.Common.{◌≡◌, ◌≤◌, ◌<◌, ℕ, zero, suc, ◌+◌, ◌-◌, drop, slice_get, unwrap_or, List, [], ◌∷◌, Bool, true, false, cond, ◌&&◌, ◌⊎◌, inl, inr, ⊎_elim, Option, Some, None, nat_eq, nat_lt, refl, sym, ap, ◌∙◌, subst, arith, eqb-true, option_map}
use Rattle.std.specs.Map.{lookup, keys_of}
use Rattle.std.proofs.lemmas.Bool.{or_cases, or_left, or_right, and_parts, and_from, false≢true}
use Rattle.std.proofs.lemmas.Bool.Decides.{nat_tests}
use Rattle.tb_model.specs.declared.place.Place.{Place}
use Rattle.tb_model.specs.declared.place.Place.TheVariants.{Cell, All}
use Rattle.tb_model.specs.declared.item.Item.{Item}
use Rattle.tb_model.specs.Names.{Name, child}
use Rattle.tb_model.specs.Items.{same_place}
use Rattle.tb_model.specs.LeastNames.{IsAtMost, IsLeastName}
use Rattle.tb_model.proofs.OrderLemmas.{at_most_below, at_most_later}
use Rattle.tb_excl.specs.Holders.{Holders, holder, is_exclusive, excludes, Excludes, IsLeastNumber}
use Rattle.tb_excl.specs.Search.{lesser, least_held, holder_at, least_holder}

-- ---- the least of two

none_least : (P : ℕ → Type 0) → IsLeastNumber P None → (n : ℕ) → P n → ⊥
none_least P x n p = let l = x.least n p in cc

pub lesser_least : (P Q : ℕ → Type 0) (a b : Option ℕ) → IsLeastNumber P a → IsLeastNumber Q b → IsLeastNumber (λ n. P n ⊎ Q n) (lesser a b)
lesser_least P Q None b x y = record {
  found = λ n e. inr (y.found n e);
  least = λ n h. ⊎_elim (λ p. absurd (none_least P x n p)) (λ q. y.least n q) h;
}
lesser_least P Q (Some m) None x y = record {
  found = λ n e. inl (x.found n e);
  least = λ n h. ⊎_elim (λ p. x.least n p) (λ q. absurd (none_least Q y n q)) h;
}
lesser_least P Q (Some m) (Some n) x y = pick (nat_lt n m) refl
  where
    pick : (b : Bool) → nat_lt n m ≡ b → IsLeastNumber (λ k. P k ⊎ Q k) (cond b (Some n) (Some m))
    pick true e = record {
      found = λ k f. inr (y.found k f);
      least = λ k h. ⊎_elim
          (λ p. let l = x.least k p in let s : m ≡ l.0 = cc in (n, refl, grind (arith, nat_tests, l.2)))
          (λ q. y.least k q) h;
    }
    pick false e = record {
      found = λ k f. inl (x.found k f);
      least = λ k h. ⊎_elim (λ p. x.least k p)
          (λ q. let l = y.least k q in let s : n ≡ l.0 = cc in (m, refl, grind (arith, nat_tests, l.2))) h;
    }

-- the least ordinal with a property is the least with an equal property
pub least_by : (P Q : ℕ → Type 0) (o : Option ℕ) → ((n : ℕ) → P n → Q n) → ((n : ℕ) → Q n → P n) → IsLeastNumber P o → IsLeastNumber Q o
least_by P Q o to from x = record { found = λ n e. to n (x.found n e); least = λ n q. x.least n (from n q) }

itself_least : (o : Option ℕ) → IsLeastNumber (λ n. o ≡ Some n) o
itself_least o = record { found = λ n e. e; least = λ n e. (n, e, omega arith) }

-- ---- the cells

abbrev HeldIn : Holders → List ℕ → ℕ → Type 0
HeldIn h [] n = ⊥
HeldIn h (c ∷ cells) n = (holder h (Cell c) ≡ Some n) ⊎ HeldIn h cells n

held_least : (h : Holders) (cells : List ℕ) → IsLeastNumber (HeldIn h cells) (least_held h cells)
held_least h [] = record { found = λ n e. cc; least = λ n f. absurd f }
held_least h (c ∷ cells) = lesser_least (λ n. holder h (Cell c) ≡ Some n) (HeldIn h cells) (holder h (Cell c)) (least_held h cells) (itself_least (holder h (Cell c))) (held_least h cells)

held_by_one : (h : Holders) (cells : List ℕ) (n : ℕ) → HeldIn h cells n → (c : ℕ) × (holder h (Cell c) ≡ Some n)
held_by_one h [] n f = absurd f
held_by_one h (c ∷ cells) n f = ⊎_elim (λ e. (c, e)) (λ g. held_by_one h cells n g) f

-- a cell that is held is one of the cells
is_held : (h : Holders) (c n : ℕ) → holder h (Cell c) ≡ Some n → (es : List (ℕ × Option ℕ)) (x : Option ℕ) → lookup (nat_eq c) es ≡ Some x → HeldIn h (keys_of es) n
is_held h c n e [] x l = cc
is_held h c n e (d ∷ es) x l = at (λ m. is_held h c n e es x m) (nat_eq c d.0) refl
  where
    at : (lookup (nat_eq c) es ≡ Some x → HeldIn h (keys_of es) n) → (b : Bool) → nat_eq c d.0 ≡ b → HeldIn h (keys_of (d ∷ es)) n
    at rest true t = inl (subst (λ k. holder h (Cell k) ≡ Some n) (eqb-true c d.0 t) e)
    at rest false t = inr (rest (sym (ap (λ b. cond b (Some d.1) (lookup (nat_eq c) es)) t) ∙ l))

known : (o : Option (Option ℕ)) (n : ℕ) → unwrap_or o None ≡ Some n → o ≡ Some (Some n)
known None n e = cc
known (Some x) n e = ap Some e

-- ---- one item

abbrev Meets : Holders → Place → ℕ → Type 0
Meets h p n = (q : Place) × (same_place p q ≡ true) × (holder h q ≡ Some n)

same_cell : (c d : ℕ) → same_place (Cell c) (Cell d) ≡ true → c ≡ d
same_cell c d e = eqb-true c d e

item_least : (h : Holders) (p : Place) → IsLeastNumber (Meets h p) (holder_at h (keys_of h.cells) p)
item_least h (Cell c) = least_by (λ n. (holder h (Cell c) ≡ Some n) ⊎ (h.all ≡ Some n)) (Meets h (Cell c)) (lesser (holder h (Cell c)) h.all)
    (λ n e. ⊎_elim (λ a. (Cell c, grind (arith, nat_tests), a)) (λ a. (All, refl, a)) e) back
    (lesser_least (λ n. holder h (Cell c) ≡ Some n) (λ n. h.all ≡ Some n) (holder h (Cell c)) h.all (itself_least (holder h (Cell c))) (itself_least h.all))
  where
    at : (n : ℕ) (q : Place) → same_place (Cell c) q ≡ true → holder h q ≡ Some n → (holder h (Cell c) ≡ Some n) ⊎ (h.all ≡ Some n)
    at n (Cell d) s e = inl (subst (λ k. holder h (Cell k) ≡ Some n) (sym (same_cell c d s)) e)
    at n All s e = inr e

    back : (n : ℕ) → Meets h (Cell c) n → (holder h (Cell c) ≡ Some n) ⊎ (h.all ≡ Some n)
    back n m = at n m.0 m.1 m.2
item_least h All = least_by (λ n. HeldIn h (keys_of h.cells) n ⊎ (h.all ≡ Some n)) (Meets h All) (lesser (least_held h (keys_of h.cells)) h.all)
    (λ n e. ⊎_elim (λ a. let one = held_by_one h (keys_of h.cells) n a in (Cell one.0, refl, one.1)) (λ a. (All, refl, a)) e) back
    (lesser_least (HeldIn h (keys_of h.cells)) (λ n. h.all ≡ Some n) (least_held h (keys_of h.cells)) h.all (held_least h (keys_of h.cells)) (itself_least h.all))
  where
    at : (n : ℕ) (q : Place) → holder h q ≡ Some n → HeldIn h (keys_of h.cells) n ⊎ (h.all ≡ Some n)
    at n (Cell d) e = inl (is_held h d n e h.cells (Some n) (known (lookup (nat_eq d) h.cells) n e))
    at n All e = inr e

    back : (n : ℕ) → Meets h All n → HeldIn h (keys_of h.cells) n ⊎ (h.all ≡ Some n)
    back n m = at n m.0 m.2

-- ---- all items

pub least_holder_is_least : (h : Holders) (items : List Item) → IsLeastNumber (Excludes h items) (least_holder h (keys_of h.cells) items)
least_holder_is_least h [] = record { found = λ n e. cc; least = λ n x. absurd (false≢true x.1) }
least_holder_is_least h (i ∷ items) = at (least_holder_is_least h items) (is_exclusive i.kind) refl
  where
    at : IsLeastNumber (Excludes h items) (least_holder h (keys_of h.cells) items) → (b : Bool) → is_exclusive i.kind ≡ b
        → IsLeastNumber (Excludes h (i ∷ items)) (cond b (lesser (holder_at h (keys_of h.cells) i.place) (least_holder h (keys_of h.cells) items)) (least_holder h (keys_of h.cells) items))
    at rest true e = least_by (λ n. Meets h i.place n ⊎ Excludes h items n) (Excludes h (i ∷ items)) _
        (λ n x. ⊎_elim
        (λ m. (m.0, or_left (is_exclusive i.kind && same_place i.place m.0) (excludes items m.0) (and_from (is_exclusive i.kind) (same_place i.place m.0) e m.1), m.2))
        (λ m. (m.0, or_right (is_exclusive i.kind && same_place i.place m.0) (excludes items m.0) m.1, m.2)) x)
        (λ n x. ⊎_elim
        (λ m. inl (x.0, (and_parts (is_exclusive i.kind) (same_place i.place x.0) m).1, x.2))
        (λ m. inr (x.0, m, x.2)) (or_cases (is_exclusive i.kind && same_place i.place x.0) (excludes items x.0) x.1))
        (lesser_least (Meets h i.place) (Excludes h items) (holder_at h (keys_of h.cells) i.place) (least_holder h (keys_of h.cells) items) (item_least h i.place) rest)
    at rest false e = least_by (Excludes h items) (Excludes h (i ∷ items)) _
        (λ n x. (x.0, or_right (is_exclusive i.kind && same_place i.place x.0) (excludes items x.0) x.1, x.2))
        (λ n x. ⊎_elim
        (λ m. absurd (false≢true (sym e ∙ (and_parts (is_exclusive i.kind) (same_place i.place x.0) m).0)))
        (λ m. (x.0, m, x.2)) (or_cases (is_exclusive i.kind && same_place i.place x.0) (excludes items x.0) x.1))
        rest

-- ---- by name

-- the child of the least ordinal has the least name
pub least_child : (t : Name) (P : ℕ → Type 0) (o : Option ℕ) → IsLeastNumber P o → IsLeastName (λ u. (n : ℕ) × (u ≡ child t n) × P n) (option_map (child t) o)
least_child t P None x = record { found = λ u e. cc; least = λ u h. absurd (none_least P x h.0 h.2) }
least_child t P (Some m) x = record {
  found = λ u e. (m, cc, x.found m refl);
  least = λ u h. let l = x.least h.0 h.2 in let s : m ≡ l.0 = cc in (child t m, refl, at_most u h.0 h.1 (omega (arith, l.2)));
}
  where
    at_most : (u : Name) (n : ℕ) → u ≡ child t n → m ≤ n → IsAtMost (child t m) u
    at_most u n e le = subst (IsAtMost (child t m)) (sym e) (order (nat_lt m n) refl)
      where
        order : (b : Bool) → nat_lt m n ≡ b → IsAtMost (child t m) (child t n)
        order true l = at_most_later t [] [] m n (grind (arith, nat_tests))
        order false l = let s : m ≡ n = grind (arith, nat_tests) in subst (λ k. IsAtMost (child t m) (child t k)) s (at_most_below (child t m) [])

-- ---- the search from the back

key_at : (es : List (ℕ × Option ℕ)) (i c : ℕ) (x : Option ℕ) → slice_get es i ≡ Some (c, x) → drop i (keys_of es) ≡ c ∷ drop (i + 1) (keys_of es)
key_at [] i c x h = cc
key_at (e ∷ es) zero c x h =
    let same : e ≡ (c, x) = ap (λ o. unwrap_or o e) h in rw same refl
key_at (e ∷ es) (suc i) c x h =
    let k : suc i + 1 ≡ suc (i + 1) = omega arith in rw k (key_at es i c x h)

pub held_step : (h : Holders) (es : List (ℕ × Option ℕ)) (i c : ℕ) (x held best result : Option ℕ) → h.cells ≡ es → Some (c, x) ≡ slice_get es (i - 1) → 0 < i
    → best ≡ least_held h (drop i (keys_of h.cells)) → held ≡ holder h (Cell c) → result ≡ lesser held best → result ≡ least_held h (drop (i - 1) (keys_of h.cells))
held_step h es i c x held best result v s z b e r =
    let j : i - 1 + 1 ≡ i = omega arith in
    let at : drop (i - 1) (keys_of h.cells) ≡ c ∷ drop (i - 1 + 1) (keys_of h.cells) = key_at h.cells (i - 1) c x (ap (λ l. slice_get l (i - 1)) v ∙ sym s) in
    rw (at, j, ← b, ← e) r
