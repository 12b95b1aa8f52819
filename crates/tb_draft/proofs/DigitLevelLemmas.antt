-- Levels of one digit each, put eight or four at once.
use Rattle.std.proofs.Common.{◌≡◌, ℕ, zero, suc, ◌+◌, ◌-◌, ◌*◌, ◌<◌, ◌≤◌, true, ◌&&◌, List, [], ◌∷◌, ◌++◌, length, length-append, take, drop, get_or, refl, ap, ap₂, sym, ◌∙◌, arith, append_assoc}
use Rattle.std.proofs.Math.Seq.{drop-append_seam, take-append-add}
use Rattle.std.proofs.lemmas.Fmt.{decimal_digit}
use Rattle.std.proofs.lemmas.List.{length-take-le, length-drop, drop-drop, take_all, take-append-drop}
use Rattle.std.proofs.lemmas.List.Folds.{list_all-append}
use Rattle.std.proofs.lemmas.Nat.{le_bytes_4, le_bytes_8}
use Rattle.std.proofs.lemmas.Simd.{put_chunk_whole, length-chunk}
use Rattle.std.specs.Cmp.{first_so, second_so}
use Rattle.std.specs.Int.{w32, w64, from_be_bytes, to_le_bytes}
use Rattle.std.specs.List.{list_all}
use Rattle.tb_model.specs.Spelling.{levels_text, is_digit}
use Rattle.tb_model.proofs.NumberTextLemmas.{levels_both}
use borrow.Author.Tests.{ltb-true}
use borrow.Rule.Slice.PartMut.{mid_of, put_mid, post_of}
use lib.Lanes.{put_chunk}

-- eight numbers, or four, from the last to the first
abbrev pub turned_eight : List ℕ → List ℕ
turned_eight ns = get_or ns 7 0 ∷ get_or ns 6 0 ∷ get_or ns 5 0 ∷ get_or ns 4 0 ∷ get_or ns 3 0 ∷ get_or ns 2 0 ∷ get_or ns 1 0 ∷ get_or ns 0 0 ∷ []

abbrev pub turned_four : List ℕ → List ℕ
turned_four ns = get_or ns 3 0 ∷ get_or ns 2 0 ∷ get_or ns 1 0 ∷ get_or ns 0 0 ∷ []

small_eight : (ns : List ℕ) → ((i : ℕ) → get_or ns i 0 < 256) → (i : ℕ) → get_or (turned_eight ns) i 0 < 256
small_eight ns small zero = small 7
small_eight ns small (suc zero) = small 6
small_eight ns small (suc (suc zero)) = small 5
small_eight ns small (suc (suc (suc zero))) = small 4
small_eight ns small (suc (suc (suc (suc zero)))) = small 3
small_eight ns small (suc (suc (suc (suc (suc zero))))) = small 2
small_eight ns small (suc (suc (suc (suc (suc (suc zero)))))) = small 1
small_eight ns small (suc (suc (suc (suc (suc (suc (suc zero))))))) = small 0
small_eight ns small (suc (suc (suc (suc (suc (suc (suc (suc i)))))))) = omega arith

small_four : (ns : List ℕ) → ((i : ℕ) → get_or ns i 0 < 256) → (i : ℕ) → get_or (turned_four ns) i 0 < 256
small_four ns small zero = small 3
small_four ns small (suc zero) = small 2
small_four ns small (suc (suc zero)) = small 1
small_four ns small (suc (suc (suc zero))) = small 0
small_four ns small (suc (suc (suc (suc i)))) = omega arith

pub turn_eight : (ns : List ℕ) (n : ℕ) → ((i : ℕ) → get_or ns i 0 < 256) → n ≡ from_be_bytes w64 ns → to_le_bytes w64 n ≡ turned_eight ns
turn_eight ns n small is = le_bytes_8 (turned_eight ns) n refl (small_eight ns small) (omega arith)

pub turn_four : (ns : List ℕ) (n : ℕ) → ((i : ℕ) → get_or ns i 0 < 256) → n ≡ from_be_bytes w32 ns → to_le_bytes w32 n ≡ turned_four ns
turn_four ns n small is = le_bytes_4 (turned_four ns) n refl (small_four ns small) (omega arith)

-- the last level first, each a dot and a digit
abbrev dotted : List ℕ → List ℕ
dotted [] = []
dotted (n ∷ ns) = dotted ns ++ 46 ∷ (48 + n) ∷ []

levels_dotted : (ns : List ℕ) → list_all is_digit ns ≡ true → levels_text ns ≡ dotted ns
levels_dotted [] all = refl
levels_dotted (n ∷ ns) all = ap₂ (λ x y. x ++ 46 ∷ y) (levels_dotted ns (second_so (is_digit n) _ all)) (decimal_digit n (ltb-true n 10 (first_so (is_digit n) _ all)))

length-dotted : (ns : List ℕ) → length (dotted ns) ≡ length ns * 2
length-dotted [] = refl
length-dotted (n ∷ ns) = omega (arith, length-append (dotted ns) (46 ∷ (48 + n) ∷ []), length-dotted ns)

pub length-digit_levels : (ns : List ℕ) → list_all is_digit ns ≡ true → length (levels_text ns) ≡ length ns * 2
length-digit_levels ns all = ap length (levels_dotted ns all) ∙ length-dotted ns

abbrev pub text_eight : List ℕ → List ℕ
text_eight ns = 46 ∷ (48 + get_or ns 7 0) ∷ 46 ∷ (48 + get_or ns 6 0) ∷ 46 ∷ (48 + get_or ns 5 0) ∷ 46 ∷ (48 + get_or ns 4 0) ∷ 46 ∷ (48 + get_or ns 3 0) ∷ 46 ∷ (48 + get_or ns 2 0) ∷ 46 ∷ (48 + get_or ns 1 0) ∷ 46 ∷ (48 + get_or ns 0 0) ∷ []

abbrev pub text_four : List ℕ → List ℕ
text_four ns = 46 ∷ (48 + get_or ns 3 0) ∷ 46 ∷ (48 + get_or ns 2 0) ∷ 46 ∷ (48 + get_or ns 1 0) ∷ 46 ∷ (48 + get_or ns 0 0) ∷ []

pub four_text : (ns : List ℕ) → length ns ≡ 4 → list_all is_digit ns ≡ true → text_four ns ≡ levels_text ns
four_text [] l all = absurd (omega arith)
four_text (a ∷ []) l all = absurd (omega arith)
four_text (a ∷ b ∷ []) l all = absurd (omega arith)
four_text (a ∷ b ∷ c ∷ []) l all = absurd (omega arith)
four_text (a ∷ b ∷ c ∷ d ∷ []) l all = sym (levels_dotted (a ∷ b ∷ c ∷ d ∷ []) all)
four_text (a ∷ b ∷ c ∷ d ∷ e ∷ ns) l all = absurd (omega arith)

pub eight_text : (ns : List ℕ) → length ns ≡ 8 → list_all is_digit ns ≡ true → text_eight ns ≡ levels_text ns
eight_text [] l all = absurd (omega arith)
eight_text (a ∷ []) l all = absurd (omega arith)
eight_text (a ∷ b ∷ []) l all = absurd (omega arith)
eight_text (a ∷ b ∷ c ∷ []) l all = absurd (omega arith)
eight_text (a ∷ b ∷ c ∷ d ∷ []) l all = absurd (omega arith)
eight_text (a ∷ b ∷ c ∷ d ∷ e ∷ []) l all = absurd (omega arith)
eight_text (a ∷ b ∷ c ∷ d ∷ e ∷ f ∷ []) l all = absurd (omega arith)
eight_text (a ∷ b ∷ c ∷ d ∷ e ∷ f ∷ g ∷ []) l all = absurd (omega arith)
eight_text (a ∷ b ∷ c ∷ d ∷ e ∷ f ∷ g ∷ h ∷ []) l all = sym (levels_dotted (a ∷ b ∷ c ∷ d ∷ e ∷ f ∷ g ∷ h ∷ []) all)
eight_text (a ∷ b ∷ c ∷ d ∷ e ∷ f ∷ g ∷ h ∷ i ∷ ns) l all = absurd (omega arith)

-- a text of k bytes that is written at an index
pub text_at : (at k : ℕ) (bytes text whole : List ℕ) → text ≡ whole → length text ≡ k → at + k ≤ length bytes
    → drop at (put_mid at (at + k - at) bytes (put_chunk 0 (mid_of at (at + k - at) bytes) text)) ≡ whole ++ drop (at + k) bytes
text_at at k bytes text whole is long room =
    let e : at + k - at ≡ k = omega arith in
    let front : length (take at bytes) ≡ at = length-take-le at bytes (omega (arith, room)) in
    let mid : put_chunk 0 (mid_of at k bytes) text ≡ whole = put_chunk_whole (mid_of at k bytes) text (length-chunk at k bytes room ∙ sym long) ∙ is in
    rw (e, mid) (ap (λ n. drop n (put_mid at k bytes whole)) (sym front)
    ∙ drop-append_seam (take at bytes) (whole ++ post_of at k bytes)
    ∙ ap (λ x. whole ++ x) (drop-drop k at bytes))

-- the levels in the middle are in both texts
levels_meet : (front middle rest old : List ℕ) → levels_text rest ++ drop (length (levels_text middle)) (levels_text (front ++ middle) ++ old) ≡ levels_text (front ++ rest) ++ old
levels_meet front middle rest old =
    let behind : levels_text (front ++ middle) ++ old ≡ levels_text middle ++ (levels_text front ++ old) = ap (λ x. x ++ old) (levels_both front middle) ∙ append_assoc (levels_text middle) (levels_text front) old in
    ap (λ x. levels_text rest ++ drop (length (levels_text middle)) x) behind
    ∙ ap (λ x. levels_text rest ++ x) (drop-append_seam (levels_text middle) (levels_text front ++ old))
    ∙ sym (append_assoc (levels_text rest) (levels_text front) old)
    ∙ ap (λ x. x ++ old) (sym (levels_both front rest))

-- the first c numbers, in front of those that the last c begin with
first_parts : (c : ℕ) (ns : List ℕ) → c ≤ length ns → length ns ≤ c * 2
    → take c ns ≡ take (length ns - c) ns ++ take (c - (length ns - c)) (drop (length ns - c) ns)
first_parts c ns some few =
    let k = length ns - c in
    let front : length (take k ns) ≡ k = length-take-le k ns (omega arith) in
    let e : c ≡ length (take k ns) + (c - k) = omega (arith, front, some, few) in
    ap (λ n. take n ns) e ∙ ap (λ l. take (length (take k ns) + (c - k)) l) (sym (take-append-drop k ns)) ∙ take-append-add (take k ns) (drop k ns) (c - k)

-- the last c numbers, as a part of a slice has them
last_part : (c : ℕ) (ns : List ℕ) → c ≤ length ns → take (length ns - (length ns - c)) (drop (length ns - c) ns) ≡ drop (length ns - c) ns
last_part c ns some = take_all (length ns - (length ns - c)) (drop (length ns - c) ns) (omega (arith, length-drop (length ns - c) ns, some))

-- where the first c numbers and the last c have one digit each, all have
pub all_digits : (c : ℕ) (ns : List ℕ) → c ≤ length ns → length ns ≤ c * 2
    → list_all is_digit (take c ns) ≡ true → list_all is_digit (take (length ns - (length ns - c)) (drop (length ns - c) ns)) ≡ true → list_all is_digit ns ≡ true
all_digits c ns some few first last =
    let k = length ns - c in
    let parts = ap (list_all is_digit) (sym (first_parts c ns some few)) ∙ first in
    let front = first_so (list_all is_digit (take k ns)) _ (sym (list_all-append is_digit (take k ns) (take (c - k) (drop k ns))) ∙ parts) in
    ap (list_all is_digit) (sym (take-append-drop k ns)) ∙ list_all-append is_digit (take k ns) (drop k ns)
    ∙ ap₂ (λ x y. x && y) front (ap (list_all is_digit) (sym (last_part c ns some)) ∙ last)

-- the first c levels are put, then the last c in front of them
pub both_put : (c end : ℕ) (ns old mid new : List ℕ) → c ≤ length ns → length ns ≤ c * 2 → length ns * 2 ≤ end → list_all is_digit (take c ns) ≡ true
    → drop (end - c * 2) mid ≡ levels_text (take c ns) ++ drop (end - c * 2 + c * 2) old
    → drop (end - length ns * 2) new ≡ levels_text (take (length ns - (length ns - c)) (drop (length ns - c) ns)) ++ drop (end - length ns * 2 + c * 2) mid
    → drop (end - length ns * 2) new ≡ levels_text ns ++ drop end old
both_put c end ns old mid new some few room digits first last =
    let k = length ns - c in
    let front = take k ns in
    let rest = drop k ns in
    let middle = take (c - k) rest in
    let parts = first_parts c ns some few in
    let ones = second_so (list_all is_digit front) _ (sym (list_all-append is_digit front middle) ∙ ap (list_all is_digit) (sym parts) ∙ digits) in
    let short : length middle ≡ c - k = length-take-le (c - k) rest (omega (arith, length-drop k ns, some, few)) in
    let long : length (levels_text middle) ≡ length middle * 2 = length-digit_levels middle ones in
    let place : end - length ns * 2 + c * 2 ≡ end - c * 2 + length (levels_text middle) = omega (arith, long, short, some, few, room) in
    let back : end - c * 2 + c * 2 ≡ end = omega (arith, some, room) in
    let behind = ap (λ n. drop n mid) place ∙ sym (drop-drop (length (levels_text middle)) (end - c * 2) mid)
    ∙ ap (drop (length (levels_text middle))) (first ∙ ap₂ (λ f n. levels_text f ++ drop n old) parts back) in
    last ∙ ap₂ (λ l x. levels_text l ++ x) (last_part c ns some) behind ∙ levels_meet front middle rest (drop end old)
    ∙ ap (λ l. levels_text l ++ drop end old) (take-append-drop k ns)
