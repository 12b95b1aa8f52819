-- A list with a gap. No public clause cites this module.
use Rattle.std.specs.Prelude.{ℕ, List, ◌++◌, drop, take}

-- the list, and how many it can hold with no memory
pub record Listed : Type 0 where
  pub items : List ℕ
  pub capacity : ℕ

-- the list of which those after the gap, so many, are first
abbrev pub joined : ℕ → List ℕ → List ℕ
joined behind ring = drop behind ring ++ take behind ring
