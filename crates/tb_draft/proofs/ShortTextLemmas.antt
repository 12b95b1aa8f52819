-- What is in a short text after something was put in front of it.
use Rattle.std.proofs.Common.{◌≡◌, ℕ, ◌+◌, ◌-◌, ◌^◌, ◌<◌, ◌≤◌, List, ◌++◌, length, length-append, [], Option, Some, None, IfSome, append_assoc, zero, suc, take, drop, refl, ap, ap₂, sym, ◌∙◌, arith, subst, ℤ, pos, negsuc, FitsSigned, w64, false, int_le, unsigned_abs, set, ◌∷◌}
use Rattle.std.proofs.Math.Seq.{drop-append_seam}
use Rattle.std.proofs.lemmas.List.{length-take-le, drop-drop, drop-set, drop_all}
use Rattle.tb_draft.proofs.PassageLemmas.{named}
use Rattle.tb_draft.proofs.DigitLemmas.{minus_first}
use Rattle.std.proofs.lemmas.Fmt.{length-decimal-le, IsAscii-decimal, IsAscii-signed}
use Rattle.std.proofs.lemmas.Str.{IsUtf8-append, IsUtf8-from_ascii}
use Rattle.std.specs.Fmt.{decimal, signed_decimal}
use Rattle.std.specs.Str.{IsAscii, IsUtf8}
use Rattle.tb_model.specs.Spelling.{levels_text, name_text}
use borrow.Rule.Slice.PartMut.{put_mid, post_of}

pub text_put : (at : ℕ) (bytes text now : List ℕ) → now ≡ text → length text ≤ at → at ≤ length bytes
    → drop (at - length text) (put_mid (at - length text) (at - (at - length text)) bytes now) ≡ text ++ drop at bytes
text_put at bytes text now is within room =
    let a = at - length text in
    let k = at - a in
    let e : a + k ≡ at = omega (arith, within) in
    let front : length (take a bytes) ≡ a = length-take-le a bytes (omega (arith, room)) in
    ap (λ n. drop n (put_mid a k bytes now)) (sym front)
    ∙ drop-append_seam (take a bytes) (now ++ post_of a k bytes)
    ∙ ap₂ (λ x y. x ++ y) is (drop-drop k a bytes ∙ ap (λ n. drop n bytes) e)

pub text_is : (new front old : List ℕ) → new ≡ front ++ old → IsUtf8 front → IsUtf8 old → IsUtf8 new
text_is new front old is f o = subst IsUtf8 (sym is) (IsUtf8-append front old f o)

-- a number of up to ten digits
pub number_room : (n : ℕ) → n < 2 ^ 32 → length (decimal n) ≤ 10
number_room n small = length-decimal-le 10 n (omega arith) (omega arith) (omega arith)

pub long_room : (n : ℕ) → n ≤ 2 ^ 63 → length (decimal n) ≤ 19
long_room n small = length-decimal-le 19 n (omega arith) (omega arith) (omega arith)

pub number_is : (new old : List ℕ) (n : ℕ) → new ≡ decimal n ++ old → n < 2 ^ 64 → IsUtf8 old → IsUtf8 new
number_is new old n is small o = text_is new (decimal n) old is (IsUtf8-from_ascii _ (IsAscii-decimal n small)) o

-- a minus in front of a number
pub minus_put : (at : ℕ) (bytes old : List ℕ) (z : ℤ) → int_le (pos 0) z ≡ false → 1 ≤ at → at ≤ length bytes → drop at bytes ≡ decimal (unsigned_abs z) ++ old
    → drop (at - 1) (set bytes (at - 1) 45) ≡ signed_decimal z ++ old
minus_put at bytes old z below some within is =
    let e : at - 1 + 1 ≡ at = omega (arith, some) in
    drop-set bytes (at - 1) 45 (omega (arith, some, within)) ∙ ap (λ n. 45 ∷ drop n bytes) e ∙ ap (λ x. 45 ∷ x) is ∙ ap (λ x. x ++ old) (minus_first z below)

pub signed_is : (new old : List ℕ) (z : ℤ) → new ≡ signed_decimal z ++ old → FitsSigned w64 z → IsUtf8 old → IsUtf8 new
signed_is new old (pos n) is fits o = text_is new (signed_decimal (pos n)) old is (IsUtf8-from_ascii _ (IsAscii-signed (pos n) fits.sfits)) o
signed_is new old (negsuc n) is fits o = text_is new (signed_decimal (negsuc n)) old is (IsUtf8-from_ascii _ (IsAscii-signed (negsuc n) fits.sfits)) o

-- one level more, in front of those so far
pub level_put : (whole self new parts parent : List ℕ) (n : ℕ) → parts ≡ n ∷ parent → new ≡ 46 ∷ decimal n ++ self
    → name_text parts ++ self ≡ whole → name_text parent ++ new ≡ whole
level_put whole self new parts parent n is put named =
    ap (λ x. name_text parent ++ x) put ∙ sym (append_assoc (name_text parent) (46 ∷ decimal n) self)
    ∙ ap (λ t. name_text t ++ self) (sym is) ∙ named

-- all levels
pub levels_put : (self old numbers : List ℕ) (at : ℕ) → length numbers ≤ at → levels_text (drop at numbers) ++ self ≡ levels_text numbers ++ old → self ≡ levels_text numbers ++ old
levels_put self old numbers at all named = ap (λ t. levels_text t ++ self) (sym (drop_all at numbers all)) ∙ named

-- a name is the root's, and its levels
pub name_put : (mid new old name numbers : List ℕ) (r : Option (Unit {0})) → name ≡ numbers → mid ≡ levels_text numbers ++ old
    → IfSome r (λ _. new ≡ 48 ∷ mid) → IfSome r (λ _. new ≡ name_text name ++ old)
name_put mid new old name numbers None is levels put = tt
name_put mid new old name numbers (Some u) is levels put = put ∙ ap (λ t. 48 ∷ t) (levels ∙ ap (λ n. levels_text n ++ old) (sym is)) ∙ ap (λ t. t ++ old) (sym (named name))

-- what no numbers are left of
pub only_run : (name numbers left run : List ℕ) → name ≡ left ++ numbers → (run ≡ [] → left ≡ []) → length run < 1 → name ≡ numbers
only_run name numbers left [] split last none = split ∙ ap (λ x. x ++ numbers) (last refl)
only_run name numbers left (n ∷ run) split last none = absurd (omega (arith, none))

pub level_length : (self new : List ℕ) (n : ℕ) → n < 2 ^ 32 → new ≡ 46 ∷ decimal n ++ self → length new ≤ length self + 11
level_length self new n small put =
    let whole : length new ≡ suc (length (decimal n) + length self) = ap length put ∙ ap suc (length-append (decimal n) self) in
    omega (arith, number_room n small)

-- a level's dot, in front of its number
pub dot_put : (at : ℕ) (bytes old : List ℕ) (n : ℕ) → 1 ≤ at → at ≤ length bytes → drop at bytes ≡ decimal n ++ old → drop (at - 1) (set bytes (at - 1) 46) ≡ 46 ∷ decimal n ++ old
dot_put at bytes old n some within is =
    let e : at - 1 + 1 ≡ at = omega (arith, some) in
    drop-set bytes (at - 1) 46 (omega (arith, some, within)) ∙ ap (λ k. 46 ∷ drop k bytes) e ∙ ap (λ x. 46 ∷ x) is

ascii_dot : (n : ℕ) → n < 2 ^ 64 → IsAscii (46 ∷ decimal n)
ascii_dot n small zero = omega arith
ascii_dot n small (suc i) = IsAscii-decimal n small i

pub level_is : (new old : List ℕ) (n : ℕ) → new ≡ 46 ∷ decimal n ++ old → n < 2 ^ 64 → IsUtf8 old → IsUtf8 new
level_is new old n is small o = text_is new (46 ∷ decimal n) old is (IsUtf8-from_ascii (46 ∷ decimal n) (ascii_dot n small)) o
