-- The index of a name, where one name more comes last, and whether it is known.
use Rattle.std.proofs.Common.{◌≡◌, ◌<◌, ◌+◌, ◌++◌, ℕ, zero, suc, Bool, true, false, cond, List, [], ◌∷◌, Option, Some, None, is_some, length, get_or, nat_lt, refl, sym, ap, ◌∙◌, arith, lt-ltb, ⊎_elim}
use Rattle.std.specs.Prelude.{position}
use Rattle.std.specs.Map.{keys_of, lookup}
use Rattle.std.specs.List.{position_or_len}
use Rattle.std.proofs.Math.Seq.{get_or-append_seam}
use Rattle.std.proofs.lemmas.Bool.{false≢true, true≢false, cases_lt}
use Rattle.std.proofs.lemmas.List.{length-map, length-append, get_or_append_left}
use Rattle.std.proofs.lemmas.List.Quantifiers.{position-Some}
use Rattle.std.proofs.lemmas.List.Sums.{position_or_len_is, fails_before_first}
use Rattle.tb_model.specs.Names.{Name, same_name}
use Rattle.tb_wait.specs.Kin.{Tasks, place, is_known}

module _ (p : Name → Bool) (ks : List Name) where
  at_place : (i : ℕ) → position_or_len p ks ≡ i → i < length ks → position p ks ≡ Some i
  at_place i e w = ap (λ n. cond (nat_lt n (length ks)) (Some n) None) e ∙ ap (λ b. cond b (Some i) None) (lt-ltb i (length ks) w)

  pub nowhere : position p ks ≡ None → (k : ℕ) → k < length ks → p (get_or ks k []) ≡ false
  nowhere none k w = by (nat_lt n (length ks)) refl
    where
      n : ℕ
      n = position_or_len p ks

      by : (b : Bool) → nat_lt n (length ks) ≡ b → p (get_or ks k []) ≡ false
      by true h = let clash : None ≡ Some n = sym none ∙ ap (λ b. cond b (Some n) None) h in absurd (cc)
      by false h = fails_before_first p ks k [] (grind (arith, h, w))

module _ (p : Name → Bool) (ks : List Name) (c : Name) where
  long : length (ks ++ c ∷ []) ≡ length ks + 1
  long = length-append ks (c ∷ [])

  pub grown : (i : ℕ) → position p ks ≡ Some i → position p (ks ++ c ∷ []) ≡ Some i
  grown i e =
      let f = position-Some p ks i [] e in
      at_place p (ks ++ c ∷ []) i
      (position_or_len_is p (ks ++ c ∷ []) i [] (omega (arith, f.0, long)) (λ k h. ap p (get_or_append_left ks (c ∷ []) [] k (omega (arith, h, f.0))) ∙ f.2 k h) (λ h. ap p (get_or_append_left ks (c ∷ []) [] i f.0) ∙ f.1))
      (omega (arith, f.0, long))

  pub grown_last : position p ks ≡ None → p c ≡ true → position p (ks ++ c ∷ []) ≡ Some (length ks)
  grown_last none is =
      at_place p (ks ++ c ∷ []) (length ks)
      (position_or_len_is p (ks ++ c ∷ []) (length ks) [] (omega (arith, long)) (λ k h. ap p (get_or_append_left ks (c ∷ []) [] k h) ∙ nowhere p ks none k h) (λ h. ap p (get_or-append_seam ks c [] []) ∙ is))
      (omega (arith, long))

  pub grown_none : position p ks ≡ None → p c ≡ false → position p (ks ++ c ∷ []) ≡ None
  grown_none none other = at (position p (ks ++ c ∷ [])) refl
    where
      at : (o : Option ℕ) → position p (ks ++ c ∷ []) ≡ o → position p (ks ++ c ∷ []) ≡ None
      at None e = e
      at (Some j) e =
          let f = position-Some p (ks ++ c ∷ []) j [] e in
          absurd (⊎_elim
          (λ low. false≢true (sym (ap p (get_or_append_left ks (c ∷ []) [] j low) ∙ nowhere p ks none j low) ∙ f.1))
          (λ high. let last : j ≡ length ks = omega (arith, high, f.0, long) in false≢true (sym (ap p (ap (λ k. get_or (ks ++ c ∷ []) k []) last ∙ get_or-append_seam ks c [] []) ∙ other) ∙ f.1))
          (cases_lt j (length ks)))

-- a name with an index is known
is_there : (es : Tasks) (t : Name) (i : ℕ) → i < length es → same_name t (get_or (keys_of es) i []) ≡ true → is_known es t ≡ true
is_there [] t i w e = absurd (omega (arith, w))
is_there (x ∷ es) t zero w e = ap (λ b. is_some (cond b (Some x.1) (lookup (same_name t) es))) e
is_there (x ∷ es) t (suc i) w e = at (is_there es t i (omega (arith, w)) e) (same_name t x.0) refl
  where
    at : is_known es t ≡ true → (b : Bool) → same_name t x.0 ≡ b → is_some (cond (same_name t x.0) (Some x.1) (lookup (same_name t) es)) ≡ true
    at rest true h = ap (λ b. is_some (cond b (Some x.1) (lookup (same_name t) es))) h
    at rest false h = ap (λ b. is_some (cond b (Some x.1) (lookup (same_name t) es))) h ∙ rest

pub unknown_place : (es : Tasks) (t : Name) → is_known es t ≡ false → place es t ≡ None
unknown_place es t h = at (place es t) refl
  where
    at : (o : Option ℕ) → place es t ≡ o → place es t ≡ None
    at None e = e
    at (Some i) e =
        let f = position-Some (same_name t) (keys_of es) i [] e in
        absurd (false≢true (sym h ∙ is_there es t i (omega (arith, f.0, length-map es (λ e. e.0))) f.1))

-- a known name has an index
pub known_place : (es : Tasks) (t : Name) → is_known es t ≡ true → is_some (place es t) ≡ true
known_place es t h = at (place es t) refl
  where
    none : (es : Tasks) → ((k : ℕ) → k < length es → same_name t (get_or (keys_of es) k []) ≡ false) → is_known es t ≡ false
    none [] f = refl
    none (x ∷ es) f = ap (λ b. is_some (cond b (Some x.1) (lookup (same_name t) es))) (f 0 (omega arith)) ∙ none es (λ k w. f (suc k) (omega (arith, w)))

    at : (o : Option ℕ) → place es t ≡ o → is_some (place es t) ≡ true
    at (Some i) e = ap is_some e
    at None e = absurd (true≢false (sym h ∙ none es (λ k w. nowhere (same_name t) (keys_of es) e k (omega (arith, w, length-map es (λ e. e.0))))))
