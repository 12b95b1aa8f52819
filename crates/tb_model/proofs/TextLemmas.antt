-- A text can be cut where another text ended before something was appended.
use Rattle.std.proofs.Common.{◌≡◌, ℕ, List, [], ◌∷◌, ◌++◌, length, drop, sym, ap, ◌∙◌, subst, append_assoc, string_bytes, String, Global}
use Rattle.std.proofs.lemmas.List.{take-append-drop}
use Rattle.std.proofs.lemmas.Str.{IsUtf8-string_bytes, IsUtf8-past_char, IsCharBoundary-at_seam}
use Rattle.std.proofs.Math.Utf8.{encode, encodes}
use Rattle.std.specs.Str.{IsUtf8, IsCharBoundary}
use Rattle.std.specs.String.Boundary.{IsSplitPoint}
use Rattle.tb_model.specs.Texts.{Begins}

-- what is after characters is text where the whole is
behind_characters : (cs : List ℕ) (rest : List ℕ) → IsUtf8 (encodes cs ++ rest) → IsUtf8 rest
behind_characters [] rest h = h
behind_characters (c ∷ cs) rest h = behind_characters cs rest (IsUtf8-past_char _ _ c h (append_assoc (encode c) (encodes cs) rest))

behind : (front rest : List ℕ) → IsUtf8 front → IsUtf8 (front ++ rest) → IsUtf8 rest
behind front rest f h = behind_characters f.0 rest (subst (λ t. IsUtf8 (t ++ rest)) (sym f.1.1) h)

pub can_cut : (old new : String Global) → Begins (string_bytes old) (string_bytes new) → (n : ℕ) → n ≡ length (string_bytes old) → IsSplitPoint (string_bytes new) n
can_cut old new b n e =
    let front = string_bytes old in
    let rest = drop (length front) (string_bytes new) in
    let whole : string_bytes new ≡ front ++ rest = sym (take-append-drop (length front) (string_bytes new)) ∙ ap (λ t. t ++ rest) b in
    let text : IsUtf8 rest = behind front rest (IsUtf8-string_bytes old) (subst IsUtf8 whole (IsUtf8-string_bytes new)) in
    let seam : IsCharBoundary (string_bytes new) (length front) = IsCharBoundary-at_seam (string_bytes new) front rest whole text in
    rw e (seam.0, λ _ lt byte. seam.1 lt byte)
