-- The order of names that fall into blocks.
use Rattle.std.proofs.Common.{◌≡◌, ℕ, suc, ◌≤◌, ◌<◌, List, [], ◌∷◌, ◌++◌, true, false, length, reverse, refl, sym, ap, ap₂, ◌∙◌, arith, append_assoc, length-append, true≢false}
use Rattle.std.specs.declared.cmp.Ordering.{Ordering}
use Rattle.std.specs.declared.cmp.Ordering.TheVariants.{Less, Equal, Greater}
use Rattle.std.specs.Cmp.{nat_cmp_is}
use Rattle.std.specs.Cmp.Lexicographic.{slice_cmp}
use Rattle.std.specs.Ordering.{nat_cmp, ordering_then, is_eq}
use Rattle.std.proofs.lemmas.List.{reverse-append, length-reverse, take_rest}
use Rattle.std.specs.Prelude.{slice_index_or}
use Rattle.tb_model.specs.Names.{Name, name_cmp, same_name}
use Rattle.tb_model.specs.NameLaws.{name_cmp_ties}
use Rattle.tb_model.specs.Blocks.{far_numbers}
use Rattle.tb_model.proofs.BlockLemmas.{others, no_blocks}
use Rattle.tb_model.proofs.InCommonLemmas.{name_cmp-append, same_is}

then_equal : (o : Ordering) → ordering_then o Equal ≡ o
then_equal Less = refl
then_equal Equal = refl
then_equal Greater = refl

then_then : (o p q : Ordering) → ordering_then o (ordering_then p q) ≡ ordering_then (ordering_then o p) q
then_then Less p q = refl
then_then Equal p q = refl
then_then Greater p q = refl

-- of lists that are as long the front decides, where it does
front_first : (a b x y : List ℕ) → length a ≡ length b → slice_cmp nat_cmp (a ++ x) (b ++ y) ≡ ordering_then (slice_cmp nat_cmp a b) (slice_cmp nat_cmp x y)
front_first [] [] x y long = refl
front_first [] (l ∷ b) x y long = absurd (omega (arith, long))
front_first (k ∷ a) [] x y long = absurd (omega (arith, long))
front_first (k ∷ a) (l ∷ b) x y long = ap (ordering_then (nat_cmp k l)) (front_first a b x y (omega (arith, long))) ∙ then_then (nat_cmp k l) (slice_cmp nat_cmp a b) (slice_cmp nat_cmp x y)

-- a front with more after it, next to a list that is no longer than it
longer : (a x b : List ℕ) → length b ≤ length a → 0 < length x → slice_cmp nat_cmp (a ++ x) b ≡ ordering_then (slice_cmp nat_cmp a b) Greater
longer [] [] [] le some = absurd (omega (arith, some))
longer [] (k ∷ x) [] le some = refl
longer [] x (l ∷ b) le some = absurd (omega (arith, le))
longer (k ∷ a) x [] le some = refl
longer (k ∷ a) x (l ∷ b) le some = ap (ordering_then (nat_cmp k l)) (longer a x b (omega (arith, le)) some) ∙ then_then (nat_cmp k l) (slice_cmp nat_cmp a b) Greater

shorter : (b a x : List ℕ) → length b ≤ length a → 0 < length x → slice_cmp nat_cmp b (a ++ x) ≡ ordering_then (slice_cmp nat_cmp b a) Less
shorter [] [] [] le some = absurd (omega (arith, some))
shorter [] [] (k ∷ x) le some = refl
shorter (l ∷ b) [] x le some = absurd (omega (arith, le))
shorter [] (k ∷ a) x le some = refl
shorter (l ∷ b) (k ∷ a) x le some = ap (ordering_then (nat_cmp l k)) (shorter b a x (omega (arith, le)) some) ∙ then_then (nat_cmp l k) (slice_cmp nat_cmp b a) Less

decided : (o p : Ordering) → is_eq o ≡ false → ordering_then o p ≡ o
decided Less p e = refl
decided Equal p e = absurd (true≢false e)
decided Greater p e = refl

-- names whose last ordinals differ are ordered by these
pub last_decides : (x a y b : Name) → length a ≡ length b → same_name a b ≡ false → name_cmp (x ++ a) (y ++ b) ≡ name_cmp a b
last_decides x a y b long differ =
    ap₂ (slice_cmp nat_cmp) (reverse-append x a) (reverse-append y b)
    ∙ front_first (reverse a) (reverse b) (reverse x) (reverse y) (length-reverse a ∙ long ∙ sym (length-reverse b))
    ∙ decided (name_cmp a b) (slice_cmp nat_cmp (reverse x) (reverse y)) (sym (name_cmp_ties a b) ∙ differ)

pub longer_is_greater : (x a b : Name) → length b ≤ length a → 0 < length x → name_cmp (x ++ a) b ≡ ordering_then (name_cmp a b) Greater
longer_is_greater x a b le some =
    ap (λ r. slice_cmp nat_cmp r (reverse b)) (reverse-append x a)
    ∙ longer (reverse a) (reverse x) (reverse b) (omega (arith, le, length-reverse a, length-reverse b)) (omega (arith, some, length-reverse x))

pub shorter_is_less : (b x a : Name) → length b ≤ length a → 0 < length x → name_cmp b (x ++ a) ≡ ordering_then (name_cmp b a) Less
shorter_is_less b x a le some =
    ap (slice_cmp nat_cmp (reverse b)) (reverse-append x a)
    ∙ shorter (reverse b) (reverse a) (reverse x) (omega (arith, le, length-reverse a, length-reverse b)) (omega (arith, some, length-reverse x))

-- what two names have in common at the root is taken off both
abbrev pub AreOrdered : (a b near others_near : Name) (left right : List (List ℕ)) → Type 0
AreOrdered a b near others_near left right = name_cmp a b ≡ name_cmp (near ++ far_numbers left) (others_near ++ far_numbers right)

with_first : (near : Name) (x d : List ℕ) (left : List (List ℕ)) → 1 ≤ length left → d ≡ slice_index_or left 0 d → x ≡ d
    → near ++ far_numbers left ≡ (near ++ far_numbers (others left)) ++ x
with_first near x d [] some is same = absurd (omega (arith, some))
with_first near x d (b ∷ left) some is same =
    sym (append_assoc near (far_numbers left) b) ∙ ap₂ (λ l y. (near ++ far_numbers l) ++ y) (sym (take_rest (b ∷ left) 1)) (sym (same ∙ is))

module _ (a b m n : Name) (left right : List (List ℕ)) (ordered : AreOrdered a b m n left right) where
  pub same_blocks : length left < 1 → length right < 1 → name_cmp m n ≡ name_cmp a b
  same_blocks none none' = sym (ordered ∙ ap₂ name_cmp (no_blocks m left none) (no_blocks n right none'))

  module _ (x d : Name) (some : 1 ≤ length left) (is : d ≡ slice_index_or left 0 d) (same : x ≡ d) where
    -- only the first has blocks left
    pub more_is_greater : length right < 1 → 0 < length m → length n ≤ length x → ordering_then (name_cmp x n) Greater ≡ name_cmp a b
    more_is_greater none near le =
        sym (ordered ∙ ap₂ name_cmp (with_first m x d left some is same) (no_blocks n right none)
        ∙ longer_is_greater (m ++ far_numbers (others left)) x n le (omega (arith, near, length-append m (far_numbers (others left)))))

    module _ (y e : Name) (some' : 1 ≤ length right) (is' : e ≡ slice_index_or right 0 e) (same' : y ≡ e) where
      pub common_block : same_name x y ≡ true → AreOrdered a b m n (others left) (others right)
      common_block alike =
          ordered ∙ ap₂ name_cmp (with_first m x d left some is same) (with_first n y e right some' is' same')
          ∙ ap (λ z. name_cmp ((m ++ far_numbers (others left)) ++ x) ((n ++ far_numbers (others right)) ++ z)) (sym (same_is x y alike))
          ∙ name_cmp-append (m ++ far_numbers (others left)) (n ++ far_numbers (others right)) x

      pub block_decides : length x ≡ length y → same_name x y ≡ false → name_cmp x y ≡ name_cmp a b
      block_decides long differ =
          sym (ordered ∙ ap₂ name_cmp (with_first m x d left some is same) (with_first n y e right some' is' same')
          ∙ last_decides (m ++ far_numbers (others left)) x (n ++ far_numbers (others right)) y long differ)

  -- only the other has
  pub fewer_is_less : (y e : Name) → 1 ≤ length right → e ≡ slice_index_or right 0 e → y ≡ e → length left < 1 → 0 < length n → length m ≤ length y
      → ordering_then (name_cmp m y) Less ≡ name_cmp a b
  fewer_is_less y e some' is' same' none near le =
      sym (ordered ∙ ap₂ name_cmp (no_blocks m left none) (with_first n y e right some' is' same')
      ∙ shorter_is_less m (n ++ far_numbers (others right)) y le (omega (arith, near, length-append n (far_numbers (others right)))))

-- where one has no more ordinals, that one comes first
pub none_left : (xs ys : Name) → length xs < 1 → nat_cmp 0 (length ys) ≡ name_cmp xs ys
none_left [] [] none = refl
none_left [] (n ∷ ys) none = sym (nat_cmp_is 0 (suc (length ys)) Less (omega arith)) ∙ sym (shorter [] [] (reverse (n ∷ ys)) (omega arith) (omega (arith, length-reverse (n ∷ ys))))
none_left (m ∷ xs) ys none = absurd (omega (arith, none))

pub some_left : (xs ys : Name) → 1 ≤ length xs → length ys < 1 → Greater ≡ name_cmp xs ys
some_left [] ys some none = absurd (omega (arith, some))
some_left (m ∷ xs) [] some none = sym (longer [] (reverse (m ∷ xs)) [] (omega arith) (omega (arith, length-reverse (m ∷ xs))))
some_left (m ∷ xs) (n ∷ ys) some none = absurd (omega (arith, none))
