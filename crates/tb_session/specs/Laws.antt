-- What the law of a whole session speaks of.
use Rattle.std.specs.Prelude.{ℕ, List}
use Rattle.std.specs.List.{AllByRecursion}
use Rattle.tb_commands.specs.Commands.{AsksSeveral}

-- none of the lines asks for a go of two or more workers
abbrev pub AskNoSeveral : ℕ → List (List ℕ) → Type 0
AskNoSeveral workers lines = AllByRecursion (λ line. AsksSeveral workers line → ⊥) lines
