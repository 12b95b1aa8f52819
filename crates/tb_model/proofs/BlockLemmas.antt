-- How the ordinals of a name fall into blocks.
use Rattle.std.proofs.lemmas.List.{take_rest}
use Rattle.std.proofs.Common.{true≢false, eqb-true, not, nat_lt, le-ltb, lt-ltb, eq-eqb, ne_eqb, ◌≡◌, ◌⊎◌, inl, inr, ℕ, zero, suc, ◌+◌, ◌-◌, ◌*◌, ◌<◌, ◌≤◌, List, [], ◌∷◌, ◌++◌, Bool, true, false, ◌&&◌, ◌==◌, min, length, take, drop, length-drop, refl, sym, ap, ap₂, ◌∙◌, arith, append_assoc, append-nil, length-append, length-take, take-append-drop, subst}
use Rattle.std.specs.Prelude.{slice_index_or}
use Rattle.tb_model.specs.Names.{same_name}
use Rattle.tb_model.specs.Blocks.{far_numbers, AreFull, IsSplit, IsDeep}
use Rattle.tb_model.proofs.TestLemmas.{same_refl}
use Rattle.tb_model.proofs.WithinLemmas.{different}

pub far_length : (far : List (List ℕ)) → AreFull far → length (far_numbers far) ≡ 128 * length far
far_length [] full = refl
far_length (b ∷ far) full = length-append (far_numbers far) b ∙ omega (arith, far_length far full.1, full.0)

pub full_take : (n : ℕ) (far : List (List ℕ)) → AreFull far → AreFull (take n far)
full_take zero far full = tt
full_take (suc n) [] full = tt
full_take (suc n) (b ∷ far) full = (full.0, full_take n far full.1)

pub full_drop : (n : ℕ) (far : List (List ℕ)) → AreFull far → AreFull (drop n far)
full_drop zero far full = full
full_drop (suc n) [] full = tt
full_drop (suc n) (b ∷ far) full = full_drop n far full.1

far_last_at : (far : List (List ℕ)) (k : ℕ) (d : List ℕ) → suc k ≡ length far → far_numbers far ≡ slice_index_or far k d ++ far_numbers (take k far)
far_last_at [] k d is = absurd (omega (arith, is))
far_last_at (b ∷ []) zero d is = sym (append-nil b)
far_last_at (b ∷ []) (suc k) d is = absurd (omega (arith, is))
far_last_at (b ∷ c ∷ far) zero d is = absurd (omega (arith, is))
far_last_at (b ∷ c ∷ far) (suc k) d is =
    ap (λ x. x ++ b) (far_last_at (c ∷ far) k d (omega (arith, is))) ∙ append_assoc (slice_index_or (c ∷ far) k d) (far_numbers (take k (c ∷ far))) b

-- the ordinals nearest to the task are in the last block
pub far_last : (far : List (List ℕ)) (d : List ℕ) → 0 < length far
    → far_numbers far ≡ slice_index_or far (length far - 1) d ++ far_numbers (take (length far - 1) far)
far_last far d some = far_last_at far (length far - 1) d (omega (arith, some))

-- a block after the others is nearest to the task
pub far_more : (far : List (List ℕ)) (b : List ℕ) → far_numbers (far ++ b ∷ []) ≡ b ++ far_numbers far
far_more [] b = sym (append-nil b)
far_more (c ∷ far) b = ap (λ x. x ++ c) (far_more far b) ∙ append_assoc b (far_numbers far) c

pub full_more : (far : List (List ℕ)) (b : List ℕ) → AreFull far → length b ≡ 128 → AreFull (far ++ b ∷ [])
full_more [] b full is = (is, tt)
full_more (c ∷ far) b full is = (full.0, full_more far b full.1 is)

-- the list without its first element
abbrev pub others : {T : Type 0} → List T → List T
others xs = take (length xs - 1) (drop 1 xs)

and_assoc : (a b c : Bool) → (a && (b && c)) ≡ ((a && b) && c)
and_assoc true b c = refl
and_assoc false b c = refl

pub same_append : (m n x y : List ℕ) → length m ≡ length n → same_name (m ++ x) (n ++ y) ≡ (same_name m n && same_name x y)
same_append [] [] x y e = refl
same_append [] (k ∷ n) x y e = absurd (omega (arith, e))
same_append (k ∷ m) [] x y e = absurd (omega (arith, e))
same_append (k ∷ m) (l ∷ n) x y e = ap (λ t. (k == l) && t) (same_append m n x y (omega (arith, e))) ∙ and_assoc (k == l) (same_name m n) (same_name x y)

and_true : (a b : Bool) → b ≡ true → (a && b) ≡ a
and_true true b h = h
and_true false b h = refl

and_false : (a b : Bool) → b ≡ false → (a && b) ≡ false
and_false true b h = h
and_false false b h = refl

same_first : (x y : List ℕ) (left right : List (List ℕ)) → length left ≡ length right → AreFull left → AreFull right
    → same_name (far_numbers left ++ x) (far_numbers right ++ y) ≡ (same_name (far_numbers left) (far_numbers right) && same_name x y)
same_first x y left right long full others =
    same_append (far_numbers left) (far_numbers right) x y (omega (arith, far_length left full, far_length right others, long))

-- a block that both begin with says nothing
pub same_block : (left right : List (List ℕ)) (d e : List ℕ) → 0 < length left → length left ≡ length right → AreFull left → AreFull right
    → same_name (slice_index_or left 0 d) (slice_index_or right 0 e) ≡ true
    → same_name (far_numbers left) (far_numbers right) ≡ same_name (far_numbers (others left)) (far_numbers (others right))
same_block [] right d e some long full its same = absurd (omega (arith, some))
same_block (x ∷ left) [] d e some long full its same = absurd (omega (arith, long))
same_block (x ∷ left) (y ∷ right) d e some long full its same =
    same_first x y left right (omega (arith, long)) full.1 its.1 ∙ and_true (same_name (far_numbers left) (far_numbers right)) _ same
    ∙ ap₂ (λ l r. same_name (far_numbers l) (far_numbers r)) (sym (take_rest (x ∷ left) 1)) (sym (take_rest (y ∷ right) 1))

-- a first block in which two names differ decides that they do
pub other_block : (left right : List (List ℕ)) (d e : List ℕ) → 0 < length left → length left ≡ length right → AreFull left → AreFull right
    → same_name (slice_index_or left 0 d) (slice_index_or right 0 e) ≡ false
    → same_name (far_numbers left) (far_numbers right) ≡ false
other_block [] right d e some long full its same = absurd (omega (arith, some))
other_block (x ∷ left) [] d e some long full its same = absurd (omega (arith, long))
other_block (x ∷ left) (y ∷ right) d e some long full its same =
    same_first x y left right (omega (arith, long)) full.1 its.1 ∙ and_false (same_name (far_numbers left) (far_numbers right)) _ same

pub full_others : (far : List (List ℕ)) → AreFull far → AreFull (others far)
full_others far full = full_take (length far - 1) (drop 1 far) (full_drop 1 far full)

pub length_others : (left right : List (List ℕ)) → length left ≡ length right → length (others left) ≡ length (others right)
length_others left right long = ap length (take_rest left 1) ∙ length-drop 1 left ∙ ap (λ n. n - 1) long ∙ sym (length-drop 1 right) ∙ sym (ap length (take_rest right 1))

-- where there is a block there are ordinals nearer to the task
pub has_near : (m : List ℕ) (f : List (List ℕ)) → IsSplit m f → (length f ≡ 0) ⊎ (0 < length m)
has_near m [] split = inl refl
has_near m (b ∷ f) split = inr (split.some (omega arith))

module _ {m n : List ℕ} {f g : List (List ℕ)} (own : IsSplit m f) (its : IsSplit n g) where
  -- names that fall into parts of other lengths aren't one
  pub other_parts : ((length m ≡ length n) → (length f ≡ length g) → ⊥) → same_name (m ++ far_numbers f) (n ++ far_numbers g) ≡ false
  other_parts unlike =
      different (m ++ far_numbers f) (n ++ far_numbers g) (λ e.
      let long = length-append m (far_numbers f) in
      let others_long = length-append n (far_numbers g) in
      let far = far_length f own.full in
      let others_far = far_length g its.full in
      let some = has_near m f own in
      let others_some = has_near n g its in
      unlike (omega (arith, e, long, others_long, far, others_far, own.short, its.short, some, others_some))
      (omega (arith, e, long, others_long, far, others_far, own.short, its.short, some, others_some)))

  pub same_parts : length m ≡ length n → same_name (m ++ far_numbers f) (n ++ far_numbers g) ≡ (same_name m n && same_name (far_numbers f) (far_numbers g))
  same_parts long = same_append m n (far_numbers f) (far_numbers g) long

-- a name with blocks is long, and one that long has blocks
pub deep_length : (m : List ℕ) (f : List (List ℕ)) → IsSplit m f → 0 < length f → 128 < length (m ++ far_numbers f)
deep_length m f split some = let far = far_length f split.full in let long = length-append m (far_numbers f) in let near = split.some some in omega (arith, far, long, near, some)

pub length_deep : (m : List ℕ) (f : List (List ℕ)) → IsSplit m f → 128 < length (m ++ far_numbers f) → 0 < length f
length_deep m f split long = let far = far_length f split.full in let whole = length-append m (far_numbers f) in omega (arith, far, whole, split.short, long)

-- whether there are blocks says whether the name is long
pub deep_or_not : (m : List ℕ) (f : List (List ℕ)) (empty : Bool) → IsSplit m f → empty ≡ (length f == 0)
    → not empty ≡ nat_lt 128 (length (m ++ far_numbers f))
deep_or_not m [] empty split is = ap not (is ∙ eq-eqb 0 0 refl) ∙ sym (le-ltb 128 (length (m ++ [])) (short m split.short))
  where
    short : (m : List ℕ) → length m ≤ 128 → length (m ++ []) ≤ 128
    short m few = omega (arith, few, ap length (append-nil m))
deep_or_not m (b ∷ f) empty split is = ap not (is ∙ ne_eqb (suc (length f)) 0 (λ e. absurd (omega (arith, e)))) ∙ sym (lt-ltb 128 (length (m ++ far_numbers (b ∷ f))) (deep_length m (b ∷ f) split (omega arith)))

-- the last 128 ordinals of those that are left become a block
pub more_blocks : (near : List ℕ) (far : List (List ℕ)) (b : List ℕ) (new : List (List ℕ)) (numbers : List ℕ)
    → b ≡ take (length near - (length near - 128)) (drop (length near - 128) near) → new ≡ far ++ b ∷ [] → 128 < length near
    → near ++ far_numbers far ≡ numbers → AreFull far
    → (take (length near - 128) near ++ far_numbers new ≡ numbers) × AreFull new
more_blocks near far b new numbers is pushed long named full =
    let k = length near - 128 in
    let whole : b ≡ drop k near = is ∙ take_rest near k in
    let size : length b ≡ 128 = ap length whole ∙ length-drop k near ∙ omega (arith, long) in (
      ap (λ x. take k near ++ far_numbers x) pushed ∙ ap (λ x. take k near ++ x) (far_more far b) ∙ sym (append_assoc (take k near) b (far_numbers far))
          ∙ ap (λ x. (take k near ++ x) ++ far_numbers far) whole ∙ ap (λ x. x ++ far_numbers far) (take-append-drop k near) ∙ named,
      subst AreFull (sym pushed) (full_more far b full size),
    )

-- an ordinal before 128 others, which become a block
pub grown_full : (n : ℕ) (near : List ℕ) (far : List (List ℕ)) (b : List ℕ) (new : List (List ℕ)) (one numbers : List ℕ)
    → IsSplit near far → near ++ far_numbers far ≡ numbers → 128 ≤ length near → b ≡ near → new ≡ far ++ b ∷ [] → one ≡ n ∷ []
    → IsDeep one new (n ∷ numbers)
grown_full n near far b new one numbers split named long is pushed first =
    let size : length b ≡ 128 = ap length is ∙ omega (arith, long, split.short) in
    let more : length new ≡ length far + 1 = ap length pushed ∙ length-append far (b ∷ []) in
    let single : length one ≡ 1 = ap length first in
    record {
      is = ap₂ (λ x y. x ++ far_numbers y) first pushed ∙ ap (λ x. n ∷ x) (far_more far b ∙ ap (λ x. x ++ far_numbers far) is ∙ named);
      deep = omega (arith, more);
      split = record {
        short = omega (arith, single);
        full = subst AreFull (sym pushed) (full_more far b split.full size);
        some = λ _. omega (arith, single);
      };
    }

-- the name's own parts, copied
pub same_deep : (near : List ℕ) (far : List (List ℕ)) (m : List ℕ) (f : List (List ℕ)) (numbers : List ℕ)
    → IsSplit near far → near ++ far_numbers far ≡ numbers → 128 < length numbers → m ≡ near → f ≡ far → IsDeep m f numbers
same_deep near far m f numbers split named long near-is far-is =
    rw (near-is, far-is) (record {
      is = named;
      deep = length_deep near far split (subst (λ x. 128 < length x) (sym named) long);
      split = split;
    })

pub not_zero : (n : ℕ) → false ≡ (n == 0) → 0 < n
not_zero zero e = absurd (true≢false (sym e))
not_zero (suc n) e = omega arith

pub is_zero : (n : ℕ) → true ≡ (n == 0) → n ≡ 0
is_zero zero e = refl
is_zero (suc n) e = eqb-true (suc n) 0 (sym e)

-- the one ordinal nearest to the task, and the last block after it
pub one_and_last : (near : List ℕ) (far : List (List ℕ)) (last m numbers : List ℕ) → near ++ far_numbers far ≡ numbers
    → 1 ≤ length near → true ≡ (length (others near) == 0) → 1 ≤ length far → last ≡ slice_index_or far (length far - 1) last → m ≡ last
    → numbers ≡ slice_index_or near 0 0 ∷ (m ++ far_numbers (take (length far - 1) far))
one_and_last [] far last m numbers named some one more is same = absurd (omega (arith, some))
one_and_last (n ∷ []) far last m numbers named some one more is same =
    sym named ∙ ap (λ x. n ∷ x) (far_last far last more ∙ ap (λ x. x ++ far_numbers (take (length far - 1) far)) (sym is ∙ sym same))
one_and_last (n ∷ k ∷ near) far last m numbers named some one more is same =
    absurd (omega (arith, is_zero _ one, ap length (take_rest (n ∷ k ∷ near) 1)))

-- a name with 128 ordinals nearest to the task, or with a block
pub at_least_full : (near : List ℕ) (far : List (List ℕ)) (numbers : List ℕ) → IsSplit near far → near ++ far_numbers far ≡ numbers
    → (128 ≤ length near) ⊎ (0 < length far) → 128 ≤ length numbers
at_least_full near far numbers split named (inl full) = omega (arith, full, length-append near (far_numbers far), ap length named)
at_least_full near far numbers split named (inr some) = omega (arith, deep_length near far split some, ap length named)

pub no_blocks : (near : List ℕ) (far : List (List ℕ)) → length far < 1 → near ++ far_numbers far ≡ near
no_blocks near [] none = append-nil near
no_blocks near (b ∷ far) none = absurd (omega (arith, none))

pub fewer_others : (far : List (List ℕ)) → 0 < length (others far) → 0 < length far
fewer_others [] some = some
fewer_others (b ∷ far) some = omega arith

same_split : (k : ℕ) (a b : List ℕ) → length a ≡ length b
    → same_name a b ≡ (same_name (take k a) (take k b) && same_name (take (length a - k) (drop k a)) (take (length b - k) (drop k b)))
same_split k a b long =
    ap₂ same_name (sym (take-append-drop k a)) (sym (take-append-drop k b))
    ∙ same_append (take k a) (take k b) (drop k a) (drop k b) (length-take k a ∙ ap (min k) long ∙ sym (length-take k b))
    ∙ ap₂ (λ x y. same_name (take k a) (take k b) && same_name x y) (sym (take_rest a k)) (sym (take_rest b k))

-- ordinals that both begin with say nothing
pub same_front : (k : ℕ) (a b : List ℕ) → length a ≡ length b → same_name (take k a) (take k b) ≡ true
    → same_name a b ≡ same_name (take (length a - k) (drop k a)) (take (length b - k) (drop k b))
same_front k a b long same = same_split k a b long ∙ ap (λ t. t && same_name (take (length a - k) (drop k a)) (take (length b - k) (drop k b))) same

-- the ordinals that both end with don't change whether two names are the same
pub same_filled : (k : ℕ) (a b : List ℕ) → length a ≡ length b → drop k a ≡ drop k b → same_name a b ≡ same_name (take k a) (take k b)
same_filled k a b long same =
    same_split k a b long
    ∙ and_true (same_name (take k a) (take k b)) _ (ap₂ same_name (take_rest a k ∙ same) (take_rest b k) ∙ same_refl (drop k b))

pub other_front : (k : ℕ) (a b : List ℕ) → length a ≡ length b → same_name (take k a) (take k b) ≡ false → same_name a b ≡ false
other_front k a b long other = same_split k a b long ∙ ap (λ t. t && same_name (take (length a - k) (drop k a)) (take (length b - k) (drop k b))) other

pub rests_long : (k : ℕ) (a b : List ℕ) → length a ≡ length b → length (take (length a - k) (drop k a)) ≡ length (take (length b - k) (drop k b))
rests_long k a b long =
    ap length (take_rest a k) ∙ length-drop k a ∙ ap (λ n. n - k) long ∙ sym (length-drop k b) ∙ sym (ap length (take_rest b k))
