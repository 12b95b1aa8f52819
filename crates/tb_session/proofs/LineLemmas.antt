-- Lines spelled out are those lines again.
use Rattle.std.proofs.Common.{◌≡◌, ℕ, List, [], ◌∷◌, ◌++◌, refl, sym, ap, ◌∙◌, append_assoc, append-nil}
use Rattle.std.specs.List.{AllByRecursion}
use Rattle.tb_read.specs.Text.{lines_of, onto_first}
use Rattle.tb_lines.specs.Lines.{IsUnbroken, AreUnbroken, last_line, spelled}

lines_of_line : (line rest : List ℕ) → IsUnbroken line → lines_of (line ++ 10 ∷ rest) ≡ line ∷ lines_of rest
lines_of_line [] rest h = refl
lines_of_line (b ∷ line) rest h = rw h.0 (ap (onto_first b) (lines_of_line line rest h.1))

pub lines_of_spelled : (lines : List (List ℕ)) (rest : List ℕ) → AreUnbroken lines → lines_of (spelled lines ++ rest) ≡ lines ++ lines_of rest
lines_of_spelled [] rest h = refl
lines_of_spelled (line ∷ lines) rest h =
    ap lines_of (append_assoc line (10 ∷ spelled lines) rest) ∙ (lines_of_line line (spelled lines ++ rest) h.0 ∙ ap (λ l. line ∷ l) (lines_of_spelled lines rest h.1))

pub lines_of_whole : (lines : List (List ℕ)) → AreUnbroken lines → lines_of (spelled lines) ≡ lines
lines_of_whole lines h = ap lines_of (sym (append-nil (spelled lines))) ∙ (lines_of_spelled lines [] h ∙ append-nil lines)

onto_last : (b : ℕ) (line : List ℕ) → onto_first b (last_line line) ≡ (b ∷ line) ∷ []
onto_last b [] = refl
onto_last b (c ∷ line) = refl

pub lines_of_last : (line : List ℕ) → IsUnbroken line → lines_of line ≡ last_line line
lines_of_last [] h = refl
lines_of_last (b ∷ line) h = rw h.0 (ap (onto_first b) (lines_of_last line h.1) ∙ onto_last b line)

pub spelled_append : (lines more : List (List ℕ)) → spelled (lines ++ more) ≡ spelled lines ++ spelled more
spelled_append [] more = refl
spelled_append (line ∷ lines) more = ap (λ l. line ++ 10 ∷ l) (spelled_append lines more) ∙ sym (append_assoc line (10 ∷ spelled lines) (spelled more))

-- what holds of all elements holds of those in front and of those after
pub all_parts : {X : Type 0} (P : X → Type 0) (xs ys : List X) → AllByRecursion P (xs ++ ys) → AllByRecursion P xs × AllByRecursion P ys
all_parts P [] ys h = (tt, h)
all_parts P (x ∷ xs) ys h =
    let rest = all_parts P xs ys h.1 in
    ((h.0, rest.0), rest.1)

-- what holds of each of some elements and of one more holds of them all
pub all_more : {X : Type 0} (P : X → Type 0) (xs : List X) (x : X) → AllByRecursion P xs → P x → AllByRecursion P (xs ++ x ∷ [])
all_more P [] x h p = (p, tt)
all_more P (y ∷ xs) x h p = (h.0, all_more P xs x h.1 p)
