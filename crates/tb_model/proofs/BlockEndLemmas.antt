-- Where names that fall into blocks end.
use Rattle.std.proofs.lemmas.List.{take_rest}
use Rattle.std.proofs.Common.{◌≡◌, ℕ, ◌+◌, ◌-◌, ◌*◌, ◌<◌, ◌≤◌, List, [], ◌∷◌, ◌++◌, false, min, length, take, drop, take_all, refl, sym, ap, ap₂, ◌∙◌, subst, arith, append_assoc, append-nil, length-append, length-take, length-drop, take-append-drop}
use Rattle.std.specs.Prelude.{slice_index_or}
use Rattle.tb_model.specs.Names.{Name, same_name, is_within}
use Rattle.tb_model.specs.Blocks.{far_numbers, IsSplit}
use Rattle.tb_model.proofs.BlockLemmas.{far_length, full_take, has_near}
use Rattle.tb_model.proofs.WithinLemmas.{short_without, ends_with}

drop-append : (a b : Name) → drop (length a) (a ++ b) ≡ b
drop-append [] b = refl
drop-append (n ∷ a) b = drop-append a b

-- a name is within another just where its end of that length is that name
within_end : (c a s : Name) → length s ≡ length c → is_within c (a ++ s) ≡ same_name c s
within_end c a s long =
    ends_with (length a) c (a ++ s) (length-append a s ∙ ap (λ n. length a + n) long) ∙ ap (same_name c) (drop-append a s)

pub far_both : (xs ys : List (List ℕ)) → far_numbers (xs ++ ys) ≡ far_numbers ys ++ far_numbers xs
far_both [] ys = sym (append-nil (far_numbers ys))
far_both (b ∷ xs) ys = ap (λ x. x ++ b) (far_both xs ys) ∙ append_assoc (far_numbers ys) (far_numbers xs) b

-- what is before so many blocks at the root, and ends in these ordinals
pub record IsFront (near : Name) (far : List (List ℕ)) (k : ℕ) (front : Name) : Type 0 where
  pub before : Name
  pub is : near ++ far_numbers far ≡ before ++ (front ++ far_numbers (take k far))

abbrev after : ℕ → List (List ℕ) → List (List ℕ)
after k far = take (length far - k) (drop k far)

pub front_near : (near : Name) (far : List (List ℕ)) (k : ℕ) → length (take (length far - k) (drop k far)) < 1 → IsFront near far k near
front_near near far k none = record {
  before = [];
  is = ap (λ f. near ++ far_numbers f) (sym (take_all k far (omega (arith, none, ap length (take_rest far k), length-drop k far))));
}

of_block : (near : Name) (far : List (List ℕ)) (k : ℕ) (b : List ℕ) (rest : List (List ℕ)) → drop k far ≡ b ∷ rest → IsFront near far k b
of_block near far k b rest is = record {
  before = near ++ far_numbers rest;
  is = ap (λ f. near ++ far_numbers f) (sym (take-append-drop k far)) ∙ ap (λ x. near ++ x) (far_both (take k far) (drop k far) ∙ ap (λ x. far_numbers x ++ far_numbers (take k far)) is)
      ∙ ap (λ x. near ++ x) (append_assoc (far_numbers rest) b (far_numbers (take k far)))
      ∙ sym (append_assoc near (far_numbers rest) (b ++ far_numbers (take k far)));
}

of_first : (near : Name) (far : List (List ℕ)) (k : ℕ) (b : List ℕ) (rest : List (List ℕ)) → drop k far ≡ rest → 1 ≤ length rest → b ≡ slice_index_or rest 0 b
    → IsFront near far k b
of_first near far k b [] is some first = absurd (omega (arith, some))
of_first near far k b (x ∷ rest) is some first = of_block near far k b rest (is ∙ ap (λ y. y ∷ rest) (sym first))

pub front_block : (near : Name) (far : List (List ℕ)) (k : ℕ) (b front : List ℕ) → 1 ≤ length (take (length far - k) (drop k far))
    → b ≡ slice_index_or (take (length far - k) (drop k far)) 0 b → front ≡ b → IsFront near far k front
front_block near far k b front some first same =
    subst (IsFront near far k) (sym same) (of_first near far k b (after k far) (sym (take_rest far k)) some first)

pub fewer_left : (far : List (List ℕ)) (k : ℕ) → k ≤ length far → length (take (length far - k) (drop k far)) < 1 → length far ≡ k
fewer_left far k le none = omega (arith, le, none, ap length (take_rest far k), length-drop k far)

least : {j k : ℕ} → j ≤ k → min j k ≡ j
least le = omega (arith, le)

module _ (m : Name) (mf : List (List ℕ)) (c : Name) (cf : List (List ℕ)) (own : IsSplit m mf) (end : IsSplit c cf) where
  pub fewer_blocks : length mf < length cf → is_within (c ++ far_numbers cf) (m ++ far_numbers mf) ≡ false
  fewer_blocks fewer =
      short_without (c ++ far_numbers cf) (m ++ far_numbers mf)
      (omega (arith, fewer, own.short, has_near c cf end, far_length mf own.full, far_length cf end.full, length-append m (far_numbers mf), length-append c (far_numbers cf)))

  pub fewer_near : length mf ≡ length cf → length m < length c → is_within (c ++ far_numbers cf) (m ++ far_numbers mf) ≡ false
  fewer_near same fewer =
      short_without (c ++ far_numbers cf) (m ++ far_numbers mf)
      (omega (arith, fewer, same, far_length mf own.full, far_length cf end.full, length-append m (far_numbers mf), length-append c (far_numbers cf)))

  -- the end that has as many ordinals decides
  pub by_end : (front near : Name) → IsFront m mf (length cf) front → length cf ≤ length mf → length c ≤ length front
      → near ≡ take (length front - (length front - length c)) (drop (length front - length c) front)
      → is_within (c ++ far_numbers cf) (m ++ far_numbers mf) ≡ same_name (c ++ far_numbers cf) (near ++ far_numbers (take (length cf) mf))
  by_end front near stands some le is =
      let k = length front - length c in
      let whole : near ≡ drop k front = is ∙ take_rest front k in
      let kept = far_numbers (take (length cf) mf) in
      let split : m ++ far_numbers mf ≡ (stands.before ++ take k front) ++ (near ++ kept) =
      stands.is ∙ ap (λ x. stands.before ++ (x ++ kept)) (sym (take-append-drop k front) ∙ ap (λ x. take k front ++ x) (sym whole))
      ∙ ap (λ x. stands.before ++ x) (append_assoc (take k front) near kept) ∙ sym (append_assoc stands.before (take k front) (near ++ kept)) in
      let near_long : length near ≡ length c = ap length whole ∙ length-drop k front ∙ omega (arith, le) in
      let kept_long : length kept ≡ length (far_numbers cf) =
      far_length (take (length cf) mf) (full_take (length cf) mf own.full) ∙ ap (λ n. 128 * n) (length-take (length cf) mf ∙ least some) ∙ sym (far_length cf end.full) in
      ap (is_within (c ++ far_numbers cf)) split
      ∙ within_end (c ++ far_numbers cf) (stands.before ++ take k front) (near ++ kept)
      (length-append near kept ∙ ap₂ (λ x y. x + y) near_long kept_long ∙ sym (length-append c (far_numbers cf)))

  -- so it falls into parts too
  pub end_split : (front : Name) → length c ≤ length front
      → IsSplit (take (length front - (length front - length c)) (drop (length front - length c) front)) (take (length cf) mf)
  end_split front le =
      let k = length front - length c in
      let near = take (length front - k) (drop k front) in
      let long : length near ≡ length c = ap length (take_rest front k) ∙ length-drop k front ∙ omega (arith, le) in
      record {
        short = omega (arith, long, end.short);
        full = full_take (length cf) mf own.full;
        some = λ some. omega (arith, long, end.some (omega (arith, some, length-take (length cf) mf)));
      }
