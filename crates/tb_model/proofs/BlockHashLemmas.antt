-- Which ordinals of a name that falls into blocks are mixed.
use borrow.Author.Tests.{lt-leb}
use Rattle.std.proofs.lemmas.List.{take_rest}
use Rattle.std.proofs.Common.{◌≡◌, ℕ, zero, suc, ◌+◌, ◌-◌, ◌*◌, ◌<◌, ◌≤◌, List, [], ◌∷◌, ◌++◌, length, take, drop, refl, sym, ap, ap₂, ◌∙◌, arith, append_assoc, length-append}
use Rattle.std.specs.Prelude.{◌%◌, ◌^◌, slice_index_or}
use Rattle.tb_model.specs.NameHash.{digest_of, mixed}
use Rattle.tb_model.specs.Blocks.{far_numbers, IsSplit}
use Rattle.tb_model.proofs.BlockLemmas.{far_last, others, deep_length}

pub mixed_both : (d : ℕ) (a b : List ℕ) → mixed d (a ++ b) ≡ mixed (mixed d a) b
mixed_both d [] b = refl
mixed_both d (n ∷ a) b = mixed_both (((d * 2654435769) % 2 ^ 32 + n) % 2 ^ 32) a b

-- the ordinals nearest to the root end the first block
pub far_first : (far : List (List ℕ)) (d : List ℕ) → 1 ≤ length far → far_numbers far ≡ far_numbers (others far) ++ slice_index_or far 0 d
far_first [] d some = absurd (omega (arith, some))
far_first (b ∷ far) d some = ap (λ f. far_numbers f ++ b) (sym (take_rest (b ∷ far) 1))

drop_past : (k : ℕ) (a b : List ℕ) → drop (length a + k) (a ++ b) ≡ drop k b
drop_past k [] b = ap (λ n. drop n b) (omega arith)
drop_past k (n ∷ a) b = let e : length (n ∷ a) + k ≡ suc (length a + k) = omega arith in ap (λ m. drop m (n ∷ a ++ b)) e ∙ drop_past k a b

take_front : (k : ℕ) (a b : List ℕ) → k ≤ length a → take k (a ++ b) ≡ take k a
take_front zero a b le = refl
take_front (suc k) [] b le = absurd (omega (arith, le))
take_front (suc k) (n ∷ a) b le = ap (λ t. n ∷ t) (take_front k a b (omega (arith, le)))

take_past : (k : ℕ) (a b : List ℕ) → length a ≤ k → take k (a ++ b) ≡ a ++ take (k - length a) b
take_past k [] b le = ap (λ n. take n b) (omega arith)
take_past zero (n ∷ a) b le = absurd (omega (arith, le))
take_past (suc k) (n ∷ a) b le = ap (λ t. n ∷ t) (take_past k a b (omega (arith, le)) ∙ ap (λ m. a ++ take m b) (omega arith))

long_digest : (depth : ℕ) (t : List ℕ) → 24 < length t → digest_of depth t ≡ mixed (mixed depth (take 16 t)) (drop (length t - 8) t)
long_digest depth t long = rw (lt-leb (length t) 24 long) refl

-- sixteen ordinals from those nearest to the task, and from those after them
pub near_and_next : (near next : List ℕ) (d : ℕ) → length near < 16 → mixed (mixed d near) (take (16 - length near) next) ≡ mixed d (take 16 (near ++ next))
near_and_next near next d few = sym (mixed_both d near (take (16 - length near) next)) ∙ ap (mixed d) (sym (take_past 16 near next (omega (arith, few))))

pub near_only : (near next : List ℕ) → 16 ≤ length near → take 16 near ≡ take 16 (near ++ next)
near_only near next le = sym (take_front 16 near next le)

pub deep_digest : (near : List ℕ) (far : List (List ℕ)) (last root next end d : List ℕ) (depth : ℕ) (numbers : List ℕ)
    → IsSplit near far → near ++ far_numbers far ≡ numbers → 1 ≤ length far → last ≡ slice_index_or far (length far - 1) d → root ≡ slice_index_or far 0 root
    → next ≡ last → length last ≡ 128 → end ≡ root → length root ≡ 128
    → mixed (mixed depth (take 16 (near ++ next))) (drop 120 end) ≡ digest_of depth numbers
deep_digest near far last root next end d depth numbers split named some last-is root-is next-is last-full end-is root-full =
    let long : 24 < length numbers = omega (arith, deep_length near far split some, ap length named) in
    let front : numbers ≡ (near ++ next) ++ far_numbers (take (length far - 1) far) =
    sym named ∙ ap (λ x. near ++ x) (far_last far d some ∙ ap (λ x. x ++ far_numbers (take (length far - 1) far)) (sym last-is ∙ sym next-is))
    ∙ sym (append_assoc near next (far_numbers (take (length far - 1) far))) in
    let back : numbers ≡ (near ++ far_numbers (others far)) ++ end =
    sym named ∙ ap (λ x. near ++ x) (far_first far root some ∙ ap (λ x. far_numbers (others far) ++ x) (sym root-is ∙ sym end-is))
    ∙ sym (append_assoc near (far_numbers (others far)) end) in
    let before = near ++ far_numbers (others far) in
    let size : length end ≡ 128 = ap length end-is ∙ root-full in
    let next-size : length next ≡ 128 = ap length next-is ∙ last-full in
    let nearest : take 16 numbers ≡ take 16 (near ++ next) =
    ap (take 16) front ∙ take_front 16 (near ++ next) _ (omega (arith, length-append near next, next-size)) in
    let at : length numbers - 8 ≡ length before + 120 = omega (arith, ap length back, length-append before end, size) in
    let farthest : drop (length numbers - 8) numbers ≡ drop 120 end =
    ap (λ n. drop n numbers) at ∙ ap (drop (length before + 120)) back ∙ drop_past 120 before end in
    sym (long_digest depth numbers long ∙ ap₂ (λ x y. mixed (mixed depth x) y) nearest farthest)
