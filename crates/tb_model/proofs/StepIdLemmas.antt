-- How a text falls into the name of a task and the ordinal of a step.
use Rattle.std.proofs.Common.{◌≡◌, ℕ, suc, ◌+◌, List, [], ◌∷◌, ◌++◌, Bool, true, false, cond, not, take, drop, arith, refl, sym, ap, ◌∙◌, decimal, eqb-true, Option, Some, None}
use Rattle.std.specs.List.{position_or_len}
use Rattle.std.specs.Str.Parse.{digits_value}
use Rattle.tb_model.specs.Spelling.{name_text, is_hash, before_hash, behind_hash, is_ordinal, ordinal_of, spells_name, spells_step_id}
use Rattle.tb_model.proofs.PartLemmas.{decimal_ordinal}
use Rattle.tb_model.proofs.ReadLemmas.{none_is, some_is, and_no, and_all}

one_more : (n : ℕ) → 1 + n ≡ suc n
one_more n = omega arith

-- where something is after a `#`, there is one
cut_by : (t : Bool) (b : ℕ) (bytes rest : List ℕ) → is_hash b ≡ t → (is_ordinal rest ≡ true) → rest ≡ drop (suc (cond (not t) (1 + position_or_len is_hash bytes) 0)) (b ∷ bytes) →
    (is_ordinal (drop (suc (position_or_len is_hash bytes)) bytes) ≡ true → take (position_or_len is_hash bytes) bytes ++ 35 ∷ drop (suc (position_or_len is_hash bytes)) bytes ≡ bytes) →
    take (cond (not t) (1 + position_or_len is_hash bytes) 0) (b ∷ bytes) ++ 35 ∷ drop (suc (cond (not t) (1 + position_or_len is_hash bytes) 0)) (b ∷ bytes) ≡ b ∷ bytes
cut_by true b bytes rest e h is more = ap (λ c. c ∷ bytes) (sym (eqb-true b 35 e))
cut_by false b bytes rest e h is more = rw one_more (ap (λ t. b ∷ t) (more (rw one_more at (ap is_ordinal (sym is) ∙ h))))

cut_at_hash : (text : List ℕ) → is_ordinal (behind_hash text) ≡ true → before_hash text ++ 35 ∷ behind_hash text ≡ text
cut_at_hash [] h = absurd (let e : false ≡ true = h in cc)
cut_at_hash (b ∷ bytes) h = cut_by (is_hash b) b bytes (behind_hash (b ∷ bytes)) refl h refl (cut_at_hash bytes)

module _ (text : List ℕ) (r : Option ℕ) (read : r ≡ ordinal_of (behind_hash text)) where
  pub no_number : r ≡ None → spells_step_id text ≡ false
  no_number none = and_no (spells_name (before_hash text)) _ (none_is (is_ordinal (behind_hash text)) _ r read none)

  module _ (k : ℕ) (is : r ≡ Some k) where
    pub by_task : spells_step_id text ≡ spells_name (before_hash text)
    by_task = and_all (spells_name (before_hash text)) _ (some_is (is_ordinal (behind_hash text)) _ k r read is).0

    pub number_is : k ≡ digits_value 10 (behind_hash text)
    number_is = (some_is (is_ordinal (behind_hash text)) _ k r read is).1

    pub id_written : (task : List ℕ) → name_text task ≡ before_hash text → name_text task ++ 35 ∷ decimal k ≡ text
    id_written task e =
        let h : is_ordinal (behind_hash text) ≡ true = (some_is (is_ordinal (behind_hash text)) _ k r read is).0 in
        ap (λ t. t ++ 35 ∷ decimal k) e
        ∙ ap (λ n. before_hash text ++ 35 ∷ decimal n) number_is
        ∙ ap (λ t. before_hash text ++ 35 ∷ t) (decimal_ordinal (behind_hash text) h)
        ∙ cut_at_hash text h
