-- What comes before a comment, of a line that is text.
use Rattle.std.proofs.Common.{◌≡◌, ℕ, ◌==◌, ◌&&◌, Bool, true, false, cond, List, [], ◌∷◌, refl}
use Rattle.std.proofs.lemmas.Bool.{and_from, and_parts}
use Rattle.tb_read.specs.Text.{before_comment, is_blank, is_text, is_text_byte, uncommented}

front_by : (comment : Bool) (b : ℕ) (bytes : List ℕ) → is_text_byte b ≡ true → is_text bytes ≡ true → is_text (cond comment [] (b ∷ bytes)) ≡ true
front_by true b bytes first h = refl
front_by false b bytes first h = and_from (is_text_byte b) (is_text bytes) first h

front_text : (starts : Bool) (bytes : List ℕ) → is_text bytes ≡ true → is_text (uncommented starts bytes) ≡ true
front_text starts [] h = refl
front_text starts (b ∷ bytes) h =
    let p = and_parts (is_text_byte b) (is_text bytes) h in
    front_by (starts && (b == 35)) b (uncommented (is_blank b) bytes) p.0 (front_text (is_blank b) bytes p.1)

pub text_before : (line : List ℕ) → is_text line ≡ true → is_text (before_comment line) ≡ true
text_before line h = front_text true line h
