-- How a text falls into lines, and a line into words.
use Rattle.std.specs.Prelude.{ℕ, Bool, true, false, List, [], ◌∷◌, ◌==◌, if◌then◌else◌, nat_le, filter, ◌||◌, ◌&&◌}
use Rattle.std.specs.List.{list_all}

abbrev pub is_line_feed : ℕ → Bool
is_line_feed b = b == 10

abbrev pub is_blank : ℕ → Bool
is_blank b = (b == 9) || (b == 13) || (b == 32)

-- a byte in front of the first piece, which is empty where there is none
abbrev pub onto_first : ℕ → List (List ℕ) → List (List ℕ)
onto_first b [] = (b ∷ []) ∷ []
onto_first b (piece ∷ pieces) = (b ∷ piece) ∷ pieces

-- what lies between the bytes that the test finds; an empty last piece isn't one
abbrev pub pieces : (ℕ → Bool) → List ℕ → List (List ℕ)
pieces ends [] = []
pieces ends (b ∷ bytes) = if ends b then [] ∷ pieces ends bytes else onto_first b (pieces ends bytes)

abbrev pub lines_of : List ℕ → List (List ℕ)
lines_of text = pieces is_line_feed text

-- the lines by their numbers: lines count from 1, so an empty one is at index 0
abbrev pub numbered : List ℕ → List (List ℕ)
numbered text = [] ∷ lines_of text

-- the bytes in front of the first `#` that begins a word; `starts`: a word can begin here
abbrev pub uncommented : Bool → List ℕ → List ℕ
uncommented starts [] = []
uncommented starts (b ∷ bytes) = if starts && (b == 35) then [] else b ∷ uncommented (is_blank b) bytes

-- a comment that begins at the first byte
abbrev pub begins_comment : List ℕ → Bool
begins_comment [] = false
begins_comment (b ∷ bytes) = b == 35

abbrev pub before_comment : List ℕ → List ℕ
before_comment line = uncommented true line

abbrev pub is_word : List ℕ → Bool
is_word [] = false
is_word (b ∷ bytes) = true

-- the longest runs of bytes that aren't blanks
abbrev pub words_of : List ℕ → List (List ℕ)
words_of bytes = filter is_word (pieces is_blank bytes)

abbrev pub is_text_byte : ℕ → Bool
is_text_byte b = is_blank b || (nat_le 32 b && nat_le b 126)

abbrev pub is_text : List ℕ → Bool
is_text bytes = list_all is_text_byte bytes

-- a byte of a text that isn't a blank
abbrev pub is_printed : ℕ → Bool
is_printed b = nat_le 33 b && nat_le b 126

-- the words of a line, without its comment
abbrev pub line_words : List ℕ → List (List ℕ)
line_words line = words_of (before_comment line)

-- the first byte that isn't a blank is this one
abbrev pub begins_with : ℕ → List ℕ → Bool
begins_with first [] = false
begins_with first (b ∷ bytes) = if is_blank b then begins_with first bytes else b == first
