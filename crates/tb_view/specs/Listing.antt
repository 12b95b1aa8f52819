-- Lists of lines, as replies write them.
use Rattle.std.specs.Prelude.{ℕ, List, [], ◌∷◌, ◌++◌, length, codes}
use Rattle.std.specs.Fmt.{decimal}
use Rattle.tb_view.specs.Lines.{line}

-- each of these texts on a line
abbrev pub joined : List (List ℕ) → List ℕ
joined [] = []
joined (text ∷ lines) = line text ++ joined lines

-- the word with the number of the lines that follow, and these
abbrev pub listed : List ℕ → List (List ℕ) → List ℕ
listed word lines = line (word ++ codes " " ++ decimal (length lines)) ++ joined lines

-- the lines of each of these, in their order
abbrev pub lines_of : {A : Type 0} → (A → List (List ℕ)) → List A → List (List ℕ)
lines_of f [] = []
lines_of f (x ∷ xs) = f x ++ lines_of f xs
