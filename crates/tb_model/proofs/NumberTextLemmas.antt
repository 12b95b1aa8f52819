-- The texts of ordinals and of levels that are pushed as digits.
use Rattle.std.proofs.Common.{◌≡◌, ℕ, zero, suc, ◌+◌, ◌-◌, ◌*◌, ◌<◌, ◌≤◌, true, set, take-append-drop, take-suc-set, length-set, take_all, length, take, drop, List, [], ◌∷◌, ◌++◌, ap, ap₂, sym, ◌∙◌, subst, arith, append_assoc, append-nil, if◌then◌else◌, Result, Ok, Err, OnOk, decimal}
use Rattle.std.proofs.lemmas.Fmt.{decimal_digit}
use Rattle.std.proofs.lemmas.List.{drop_more, take-append-drop, take_rest}
use Rattle.std.proofs.lemmas.Str.{IsUtf8-from_ascii}
use Rattle.std.proofs.lemmas.Str.Ascii.{IsAscii-push, IsAscii-nil}
use Rattle.std.specs.Char.{encode_utf8}
use Rattle.std.specs.Result.{is_ok}
use Rattle.std.specs.Str.{IsAscii, IsUtf8}
use Rattle.std.proofs.Math.Seq.{take-append_seam}
use Rattle.std.specs.List.{list_all}
use Rattle.std.specs.Cmp.{first_so, second_so}
use borrow.Author.Tests.{ltb-true}
use Rattle.std.specs.Prelude.{slice_index_or}
use Rattle.tb_model.specs.Blocks.{far_numbers}
use Rattle.tb_model.specs.Spelling.{name_text, levels_text, is_digit}
use Rattle.tb_model.specs.Texts.{Begins}
use Rattle.tb_model.proofs.BlockLemmas.{others}

-- a number of one digit is that digit
pub one_digit : {T : Type 0} → {E : Type 0} → (old : List ℕ) (n b : ℕ) (new : List ℕ) (r : Result T E) → n < 10 → b ≡ 48 + n
    → new ≡ (if is_ok r then old ++ encode_utf8 b else old) → (b < 128 → encode_utf8 b ≡ b ∷ []) → OnOk r (new ≡ old ++ decimal n)
one_digit old n b new (Ok u) small is pushed ascii =
    pushed ∙ ap (λ x. old ++ x) (ascii (omega (arith, is)) ∙ ap (λ x. x ∷ []) is ∙ sym (decimal_digit n small))
one_digit old n b new (Err e) small is pushed ascii = tt

-- levels of one digit each are text
level_is_ascii : (bs : List ℕ) (n : ℕ) → n < 10 → IsAscii bs → IsAscii (bs ++ 46 ∷ decimal n)
level_is_ascii bs n small h =
    rw (decimal_digit n small) (subst IsAscii (append_assoc bs (46 ∷ []) ((48 + n) ∷ []))
    (IsAscii-push (bs ++ 46 ∷ []) (48 + n) (IsAscii-push bs 46 h (omega arith)) (omega (arith, small))))

pub levels_are_text : (ns : List ℕ) → list_all is_digit ns ≡ true → IsUtf8 (levels_text ns)
levels_are_text ns digits = IsUtf8-from_ascii (levels_text ns) (levels_are_ascii ns digits)
  where
    levels_are_ascii : (ns : List ℕ) → list_all is_digit ns ≡ true → IsAscii (levels_text ns)
    levels_are_ascii [] digits = IsAscii-nil
    levels_are_ascii (n ∷ ns) digits =
        level_is_ascii (levels_text ns) n (ltb-true n 10 (first_so (is_digit n) _ digits)) (levels_are_ascii ns (second_so (is_digit n) _ digits))

-- what is appended to the old text are the levels of all ordinals but those that are still to come
abbrev pub IsNamed : (old numbers rest text : List ℕ) → Type 0
IsNamed old numbers rest text = (t : List ℕ) × (numbers ≡ rest ++ t) × (text ≡ old ++ levels_text t)

pub named_none : (old numbers : List ℕ) → IsNamed old numbers numbers old
named_none old numbers = ([], sym (append-nil numbers), sym (append-nil old))

pub named_all : (old numbers rest text : List ℕ) → length rest < 1 → IsNamed old numbers rest text → text ≡ old ++ levels_text numbers
named_all old numbers (n ∷ rest) text none named = absurd (omega (arith, none))
named_all old numbers [] text none named = named.2 ∙ ap (λ t. old ++ levels_text t) (sym named.1)

pub named_begins : (old numbers rest text : List ℕ) → IsNamed old numbers rest text → Begins old text
named_begins old numbers rest text named = ap (take (length old)) named.2 ∙ take-append_seam old (levels_text named.0)

-- the name of a descendant is that of the task, and the levels below it
pub name_of_levels : (m t : List ℕ) → name_text (m ++ t) ≡ name_text t ++ levels_text m
name_of_levels [] t = sym (append-nil (name_text t))
name_of_levels (n ∷ m) t = ap (λ x. x ++ 46 ∷ decimal n) (name_of_levels m t) ∙ append_assoc (name_text t) (levels_text m) (46 ∷ decimal n)

-- what is appended to the old text is the name that the blocks so far make
abbrev pub AreNamed : (old : List ℕ) (far rest : List (List ℕ)) (text : List ℕ) → Type 0
AreNamed old far rest text = (t : List ℕ) × (far_numbers far ≡ far_numbers rest ++ t) × (text ≡ old ++ name_text t)

pub blocks_none : (old : List ℕ) (far : List (List ℕ)) (text : List ℕ) → text ≡ old ++ 48 ∷ [] → AreNamed old far far text
blocks_none old far text is = ([], sym (append-nil (far_numbers far)), is)

pub blocks_begin : (old : List ℕ) (far rest : List (List ℕ)) (text : List ℕ) → AreNamed old far rest text → Begins old text
blocks_begin old far rest text named = ap (take (length old)) named.2 ∙ take-append_seam old (name_text named.0)

pub block_more : (old : List ℕ) (far rest : List (List ℕ)) (text new block d : List ℕ) → 1 ≤ length rest → d ≡ slice_index_or rest 0 d → block ≡ d
    → AreNamed old far rest text → new ≡ text ++ levels_text block → AreNamed old far (others rest) new
block_more old far [] text new block d some is same named told = absurd (omega (arith, some))
block_more old far (b ∷ rest) text new block d some is same named told = (
  block ++ named.0,
  named.1 ∙ append_assoc (far_numbers rest) b named.0
      ∙ ap₂ (λ x y. far_numbers x ++ (y ++ named.0)) (sym (take_rest (b ∷ rest) 1)) (sym (same ∙ is)),
  told ∙ ap (λ x. x ++ levels_text block) named.2 ∙ append_assoc old (name_text named.0) (levels_text block)
      ∙ ap (λ x. old ++ x) (sym (name_of_levels block named.0)),
)

pub blocks_all : (old near : List ℕ) (far rest : List (List ℕ)) (numbers text new : List ℕ) → near ++ far_numbers far ≡ numbers → length rest < 1
    → AreNamed old far rest text → new ≡ text ++ levels_text near → new ≡ old ++ name_text numbers
blocks_all old near far (b ∷ rest) numbers text new split none named told = absurd (omega (arith, none))
blocks_all old near far [] numbers text new split none named told =
    let whole : far_numbers far ≡ named.0 = named.1 in
    told ∙ ap (λ x. x ++ levels_text near) named.2 ∙ append_assoc old (name_text named.0) (levels_text near)
    ∙ ap (λ x. old ++ x) (sym (name_of_levels near named.0) ∙ ap (λ x. name_text (near ++ x)) (sym whole) ∙ ap name_text split)

-- the beginning of a text begins what it begins
pub begins_too : (old text new : List ℕ) → Begins old text → Begins text new → Begins old new
begins_too old text new first second =
    let front = drop (length old) text in
    let rest = drop (length text) new in
    let begun : text ≡ old ++ front = sym (take-append-drop (length old) text) ∙ ap (λ x. x ++ front) first in
    let whole : new ≡ old ++ (front ++ rest) = sym (take-append-drop (length text) new) ∙ ap (λ x. x ++ rest) (second ∙ begun) ∙ append_assoc old front rest in
    ap (take (length old)) whole ∙ take-append_seam old (front ++ rest)

pub on_ok : {T E : Type 0} {A B : Type 0} → (r : Result T E) → (A → B) → OnOk r A → OnOk r B
on_ok (Ok x) f a = f a
on_ok (Err e) f a = tt

pub levels_both : (m t : List ℕ) → levels_text (m ++ t) ≡ levels_text t ++ levels_text m
levels_both [] t = sym (append-nil (levels_text t))
levels_both (n ∷ m) t = ap (λ x. x ++ 46 ∷ decimal n) (levels_both m t) ∙ append_assoc (levels_text t) (levels_text m) (46 ∷ decimal n)

-- the levels of the last ordinals of those that are left
pub levels_more : (old numbers rest text new : List ℕ) (at : ℕ) → IsNamed old numbers rest text
    → new ≡ text ++ levels_text (take (length rest - at) (drop at rest)) → IsNamed old numbers (take at rest) new
levels_more old numbers rest text new at named told =
    let last = drop at rest in
    let is : take (length rest - at) last ≡ last = take_rest rest at in (
      last ++ named.0,
      named.1 ∙ ap (λ x. x ++ named.0) (sym (take-append-drop at rest)) ∙ append_assoc (take at rest) last named.0,
      told ∙ ap₂ (λ x y. x ++ levels_text y) named.2 is ∙ append_assoc old (levels_text named.0) (levels_text last)
          ∙ ap (λ x. old ++ x) (sym (levels_both last named.0)),
    )

-- each of them has one digit
pub one_of_digits : (ns : List ℕ) (i d : ℕ) → list_all is_digit ns ≡ true → i < length ns → slice_index_or ns i d < 10
one_of_digits [] i d digits lt = absurd (omega (arith, lt))
one_of_digits (n ∷ ns) zero d digits lt = ltb-true n 10 (first_so (is_digit n) _ digits)
one_of_digits (n ∷ ns) (suc i) d digits lt = one_of_digits ns i d (second_so (is_digit n) _ digits) (omega (arith, lt))

-- one level more of the sixteen
pub level_set : (levels numbers : List ℕ) (i n d : ℕ) → i < 16 → length numbers ≡ 16 → length levels ≡ 32 → n ≡ slice_index_or numbers (15 - i) d → n < 10
    → take (2 * i) levels ≡ levels_text (drop (16 - i) numbers)
    → take (2 * (i + 1)) (set (set levels (2 * i) 46) (2 * i + 1) (48 + n)) ≡ levels_text (drop (16 - (i + 1)) numbers)
level_set levels numbers i n d lt sixteen long is small named =
    let once = set levels (2 * i) 46 in
    let whole : 2 * (i + 1) ≡ suc (2 * i + 1) = omega arith in
    let half : 2 * i + 1 ≡ suc (2 * i) = omega arith in
    let next : 16 - (i + 1) ≡ 15 - i = omega (arith, lt) in
    let after : (15 - i) + 1 ≡ 16 - i = omega (arith, lt) in
    let left : drop (16 - (i + 1)) numbers ≡ n ∷ drop (16 - i) numbers =
    ap (λ k. drop k numbers) next ∙ drop_more numbers (15 - i) d (omega (arith, lt, sixteen)) ∙ ap₂ (λ x k. x ∷ drop k numbers) (sym is) after in
    ap (λ k. take k (set once (2 * i + 1) (48 + n))) whole
    ∙ take-suc-set once (2 * i + 1) (48 + n) (omega (arith, lt, long, length-set levels (2 * i) 46))
    ∙ ap (λ k. take k once ++ (48 + n) ∷ []) half
    ∙ ap (λ x. x ++ (48 + n) ∷ []) (take-suc-set levels (2 * i) 46 (omega (arith, lt, long)) ∙ ap (λ x. x ++ 46 ∷ []) named)
    ∙ append_assoc (levels_text (drop (16 - i) numbers)) (46 ∷ []) ((48 + n) ∷ [])
    ∙ ap (λ x. levels_text (drop (16 - i) numbers) ++ 46 ∷ x) (sym (decimal_digit n small))
    ∙ sym (ap levels_text left)

-- all sixteen
pub levels_done : (levels numbers : List ℕ) (i : ℕ) → 16 ≤ i → length numbers ≡ 16 → length levels ≡ 32 → take (2 * i) levels ≡ levels_text (drop (16 - i) numbers)
    → levels ≡ levels_text numbers
levels_done levels numbers i all sixteen long named =
    let none : 16 - i ≡ 0 = omega (arith, all) in
    sym (take_all (2 * i) levels (omega (arith, all, long))) ∙ named ∙ ap (λ k. levels_text (drop k numbers)) none
