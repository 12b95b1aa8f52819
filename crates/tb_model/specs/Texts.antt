-- What is stored of a text to which something is appended.
use Rattle.std.specs.Prelude.{◌≡◌, ℕ, List, length, take}

-- the new text begins with the old one
abbrev pub Begins : List ℕ → List ℕ → Type 0
Begins old new = take (length old) new ≡ old
