-- The id of a name among those that have one.
use Rattle.std.proofs.Common.{◌≡◌, ◌<◌, ◌==◌, ◌+◌, ◌++◌, ℕ, suc, List, [], ◌∷◌, Bool, true, false, not, cond, ltb, Option, Some, None, length, get_or, slice_get, is_some, refl, sym, ap, ◌∙◌, subst, arith, rules, tests}
use Rattle.std.specs.List.{IsDistinct, list_any, position_or_len}
use Rattle.std.proofs.lemmas.Bool.{true≢false, ltb-true, lt-ltb}
use Rattle.std.proofs.lemmas.List.{length-append}
use Rattle.std.proofs.lemmas.Bool.Decides.{nat_tests}
use Rattle.std.proofs.lemmas.Map.Keys.{apart_from_distinct}
use Rattle.std.proofs.lemmas.List.Folds.{list_any_at}
use Rattle.std.proofs.lemmas.List.Sums.{position_or_len_is}
use Rattle.std.proofs.lemmas.Option.{slice_get_within, get_or_from_slice_get}
use Rattle.std.proofs.lemmas.List.Quantifiers.{position-Some}
use Rattle.tb_model.specs.Names.{Name, same_name}
use Rattle.tb_model.proofs.TestLemmas.{same_true, same_refl}
use Rattle.tb_places.specs.Numbers.{number_of}
use Rattle.tb_places.specs.Rows.{is_in_row}

place_is : (ks : List Name) (i : ℕ) (k : Name) → IsDistinct same_name ks → slice_get ks i ≡ Some k → position_or_len (same_name k) ks ≡ i
place_is ks i k distinct at =
    let within : i < length ks = slice_get_within ks i k at in
    let here : get_or ks i k ≡ k = get_or_from_slice_get ks i k k at in
    position_or_len_is (same_name k) ks i k (omega (arith, within)) (λ j below. before j (same_name k (get_or ks j k)) refl (apart_from_distinct same_name ks j i k distinct below within) here)
    (λ _. subst (λ y. same_name k y ≡ true) (sym here) (same_refl k))
  where
    before : (j : ℕ) (b : Bool) → same_name k (get_or ks j k) ≡ b → same_name (get_or ks j k) (get_or ks i k) ≡ false → get_or ks i k ≡ k → b ≡ false
    before j false h apart here = refl
    before j true h apart here =
        let same : k ≡ get_or ks j k = same_true k (get_or ks j k) h in
        absurd (true≢false (sym (same_refl k) ∙ subst (λ y. same_name y k ≡ false) (sym same) (subst (λ y. same_name (get_or ks j k) y ≡ false) here apart)))

-- a name has its index as its id
pub number_at : (ks : List Name) (i : ℕ) (k t : Name) → IsDistinct same_name ks → slice_get ks i ≡ Some k → same_name k t ≡ true → number_of ks t ≡ Some i
number_at ks i k t distinct at same =
    let within : i < length ks = slice_get_within ks i k at in
    let here : position_or_len (same_name k) ks ≡ i = place_is ks i k distinct at in
    subst (λ u. number_of ks u ≡ Some i) (same_true k t same) (there (position_or_len (same_name k) ks) here within)
  where
    there : (n : ℕ) → n ≡ i → i < length ks → cond (ltb n (length ks)) (Some n) None ≡ Some i
    there n h within = grind (arith, nat_tests)

-- the name of an id is one alone
pub one_number : (ks : List Name) (k : ℕ) (t u : Name) → number_of ks t ≡ Some k → is_in_row k (number_of ks u) ≡ same_name u t
one_number ks k t u at = by (same_name u t) refl
  where
    by : (b : Bool) → same_name u t ≡ b → is_in_row k (number_of ks u) ≡ b
    by true h = ap (λ w. is_in_row k (number_of ks w)) (same_true u t h) ∙ ap (is_in_row k) at ∙ search (rules, tests)
    by false h = other (number_of ks u) refl
      where
        other : (o : Option ℕ) → number_of ks u ≡ o → is_in_row k o ≡ false
        other None e = refl
        other (Some n) e = apart (n == k) refl
          where
            apart : (b : Bool) → (n == k) ≡ b → b ≡ false
            apart false f = refl
            apart true f =
                let same : n ≡ k = search (rules, tests) in
                let there : number_of ks u ≡ Some k = e ∙ ap Some same in
                let x = position-Some (same_name t) ks k [] at in
                let y = position-Some (same_name u) ks k [] there in
                absurd (true≢false (sym (same_refl t) ∙ subst (λ w. same_name w t ≡ false) (same_true u (get_or ks k []) y.1 ∙ sym (same_true t (get_or ks k []) x.1)) h))

-- a name without an id is none of those that have one
pub no_number : (ks : List Name) (t u : Name) → number_of ks t ≡ None → is_some (number_of ks u) ≡ true → same_name u t ≡ false
no_number ks t u none some = by (same_name u t) refl
  where
    by : (b : Bool) → same_name u t ≡ b → b ≡ false
    by false h = refl
    by true h = absurd (true≢false (sym some ∙ ap is_some (ap (number_of ks) (same_true u t h) ∙ none)))

-- a name with an id is among those that have one
pub numbered : (ks : List Name) (t : Name) → is_some (number_of ks t) ≡ true → list_any (same_name t) ks ≡ true
numbered ks t some = by (number_of ks t) refl
  where
    by : (o : Option ℕ) → number_of ks t ≡ o → list_any (same_name t) ks ≡ true
    by None e = absurd (true≢false (sym some ∙ ap is_some e))
    by (Some k) e =
        let x = position-Some (same_name t) ks k [] e in
        list_any_at (same_name t) ks k [] x.0 x.1

-- ---- it retains its id where others come after it

first_grown : (p : Name → Bool) (ks more : List Name) → position_or_len p ks < length ks → position_or_len p (ks ++ more) ≡ position_or_len p ks
first_grown p [] more w = absurd (omega (arith, w))
first_grown p (k ∷ ks) more w = by (first_grown p ks more) (p k) refl
  where
    by : (position_or_len p ks < length ks → position_or_len p (ks ++ more) ≡ position_or_len p ks) → (b : Bool) → p k ≡ b → cond (not (p k)) (1 + position_or_len p (ks ++ more)) 0 ≡ cond (not (p k)) (1 + position_or_len p ks) 0
    by rest true h = ap (λ b. cond (not b) (1 + position_or_len p (ks ++ more)) 0) h ∙ sym (ap (λ b. cond (not b) (1 + position_or_len p ks) 0) h)
    by rest false h =
        let within : 1 + position_or_len p ks < suc (length ks) = subst (λ n. n < suc (length ks)) (ap (λ b. cond (not b) (1 + position_or_len p ks) 0) h) w in
        ap (λ b. cond (not b) (1 + position_or_len p (ks ++ more)) 0) h ∙ ap (λ n. 1 + n) (rest (omega (arith, within))) ∙ sym (ap (λ b. cond (not b) (1 + position_or_len p ks) 0) h)

pub number_grown : (ks more : List Name) (t : Name) → is_some (number_of ks t) ≡ true → number_of (ks ++ more) t ≡ number_of ks t
number_grown ks more t some =
    by (ltb (position_or_len (same_name t) ks) (length ks)) refl
  where
    n : ℕ
    n = position_or_len (same_name t) ks

    by : (b : Bool) → ltb n (length ks) ≡ b → number_of (ks ++ more) t ≡ number_of ks t
    by false h = absurd (true≢false (sym some ∙ ap (λ b. is_some (cond b (Some n) None)) h))
    by true h =
        let within = ltb-true n (length ks) h in
        let longer : n < length (ks ++ more) = omega (arith, within, length-append ks more) in
        ap (λ m. cond (ltb m (length (ks ++ more))) (Some m) None) (first_grown (same_name t) ks more within)
        ∙ ap (λ b. cond b (Some n) None) (lt-ltb n (length (ks ++ more)) longer) ∙ sym (ap (λ b. cond b (Some n) None) h)
