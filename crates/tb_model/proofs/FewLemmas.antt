-- Small ordinals that are in a name itself, and how they are lent.
use Rattle.std.proofs.lemmas.List.{drop-drop, drop-take, take-take, append-nil, take-append-le, drop-append-le, take_all}
use Rattle.std.proofs.Common.{◌≡◌, ℕ, suc, ◌+◌, ◌-◌, ◌<◌, ◌≤◌, List, [], ◌∷◌, ◌++◌, false, length, take, drop, length-take, refl, sym, ap, ◌∙◌, subst, arith}
use Rattle.tb_model.specs.Names.{same_name}
use Rattle.tb_model.specs.Bytes.{IsFilled, no_bytes}
use Rattle.tb_model.proofs.BlockLemmas.{same_filled}
use Rattle.tb_model.proofs.WithinLemmas.{different}

-- so many of fourteen
pub length_few : (k : ℕ) (a : List ℕ) → length a ≡ 14 → k ≤ 14 → length (take k a) ≡ k
length_few k a long few = omega (arith, length-take k a, long, few)

module _ {m n : ℕ} {a b : List ℕ} (own : IsFilled m a) (others : IsFilled n b) (long : length a ≡ 14) (its : length b ≡ 14) where
  -- where there are as many, all fourteen bytes decide
  pub by_bytes : m ≡ n → same_name a b ≡ same_name (take m a) (take n b)
  by_bytes same =
      same_filled m a b (long ∙ sym its) (own.zeros ∙ ap (λ k. drop k no_bytes) same ∙ sym others.zeros ∙ ap (λ k. drop k b) (sym same))
      ∙ ap (λ k. same_name (take m a) (take k b)) same

  -- and else they aren't the same
  pub by_count : (m ≡ n → ⊥) → same_name (take m a) (take n b) ≡ false
  by_count unlike =
      different (take m a) (take n b) (λ e. unlike (sym (length_few m a long own.few) ∙ e ∙ length_few n b its others.few))

-- the ordinals after the first
pub after_first : (numbers : List ℕ) (from to : ℕ) → from < to → take (to - (from + 1)) (drop (from + 1) numbers) ≡ drop 1 (take (to - from) (drop from numbers))
after_first numbers from to lt =
    let left = to - (from + 1) in
    let more : to - from ≡ 1 + left = omega (arith, lt) in
    sym (ap (λ k. drop 1 (take k (drop from numbers))) more ∙ drop-take 1 left (drop from numbers) ∙ ap (take left) (drop-drop 1 from numbers))

pub some_left : (numbers : List ℕ) (from to : ℕ) → 0 < length (take (to - from) (drop from numbers)) → from < to
some_left numbers from to some = omega (arith, some, length-take (to - from) (drop from numbers))

-- ---- one ordinal more, and one less

zeros_shorter : (d : ℕ) → d ≤ 13 → drop d no_bytes ≡ drop d (drop 1 no_bytes) ++ 0 ∷ []
zeros_shorter d h = drop-append-le d (drop 1 no_bytes) (0 ∷ []) h

shorter_by : (d : ℕ) (bytes : List ℕ) → length bytes ≡ 14 → 3 < d → d ≤ 13 → drop (suc d) bytes ≡ drop (suc d) no_bytes →
    IsFilled d (drop 1 bytes ++ 0 ∷ []) × (take d (drop 1 bytes ++ 0 ∷ []) ≡ drop 1 (take (suc d) bytes))
shorter_by d [] long some few zeros = absurd (omega (arith, long))
shorter_by d (x ∷ bs) long some few zeros =
    let its : length bs ≡ 13 = omega (arith, long) in (
      record {
        some = some;
        few = omega (arith, few);
        zeros = drop-append-le d bs (0 ∷ []) (omega (arith, its, few)) ∙ ap (λ ys. ys ++ 0 ∷ []) zeros ∙ sym (zeros_shorter d few);
      },
      take-append-le d bs (0 ∷ []) (omega (arith, its, few)),
    )

pub shorter : (c : ℕ) (bytes kept : List ℕ) → length bytes ≡ 14 → 4 < c → IsFilled c bytes → kept ≡ drop 1 bytes →
    IsFilled (c - 1) (kept ++ 0 ∷ []) × (take (c - 1) (kept ++ 0 ∷ []) ≡ drop 1 (take c bytes))
shorter c bytes kept long some filled is =
    let more : c ≡ suc (c - 1) = omega (arith, some) in
    let by = shorter_by (c - 1) bytes long (omega (arith, some)) (omega (arith, filled.few))
    (ap (λ k. drop k bytes) (sym more) ∙ filled.zeros ∙ ap (λ k. drop k no_bytes) more) in (
      subst (λ ys. IsFilled (c - 1) (ys ++ 0 ∷ [])) (sym is) by.0,
      ap (λ ys. take (c - 1) (ys ++ 0 ∷ [])) is ∙ by.1 ∙ ap (λ k. drop 1 (take k bytes)) (sym more),
    )

longer_by : (first d : ℕ) (bytes : List ℕ) → length bytes ≡ 14 → 3 < d → d ≤ 13 → drop d bytes ≡ drop d no_bytes →
    IsFilled (suc d) (first ∷ (take 13 bytes ++ [])) × (take (suc d) (first ∷ (take 13 bytes ++ [])) ≡ first ∷ take d bytes)
longer_by first d bytes long some few zeros =
    let all : d + (13 - d) ≡ 13 = omega (arith, few) in
    let left : (xs : List ℕ) → drop d (take 13 xs) ≡ take (13 - d) (drop d xs) = (λ xs. ap (λ k. drop d (take k xs)) (sym all) ∙ drop-take d (13 - d) xs) in (
      record {
        some = omega (arith, some);
        few = omega (arith, few);
        zeros = ap (drop d) (append-nil (take 13 bytes)) ∙ left bytes ∙ ap (take (13 - d)) zeros ∙ sym (left no_bytes);
      },
      ap (λ ys. first ∷ take d ys) (append-nil (take 13 bytes)) ∙ ap (λ ys. first ∷ ys) (take-take d 13 bytes few),
    )

pub longer : (first c : ℕ) (bytes kept : List ℕ) → length bytes ≡ 14 → c < 14 → IsFilled c bytes → kept ≡ take 13 bytes →
    IsFilled (c + 1) (first ∷ (kept ++ [])) × (take (c + 1) (first ∷ (kept ++ [])) ≡ first ∷ take c bytes)
longer first c bytes kept long few filled is =
    let more : suc c ≡ c + 1 = omega arith in
    let by = longer_by first c bytes long filled.some (omega (arith, few)) filled.zeros in (
      subst (λ ys. IsFilled (c + 1) (first ∷ (ys ++ []))) (sym is) (subst (λ k. IsFilled k (first ∷ (take 13 bytes ++ []))) more by.0),
      ap (λ ys. take (c + 1) (first ∷ (ys ++ []))) is ∙ ap (λ k. take k (first ∷ (take 13 bytes ++ []))) (sym more) ∙ by.1,
    )

pub all_but_first : (bytes : List ℕ) → length bytes ≡ 14 → take 13 (drop 1 bytes) ≡ drop 1 bytes
all_but_first [] long = refl
all_but_first (x ∷ bs) long = take_all 13 bs (omega (arith, long))
