-- Whose entries those of a journal are. A turn is a row of entries of one task, and is known by the
-- slot where it begins.
use Rattle.std.specs.Prelude.{ℕ, suc, ◌≡◌, ◌≤◌, List, [], ◌∷◌, if◌then◌else◌, nat_lt, ◌<◌}
use Rattle.tb_model.specs.Names.{Name}
use Rattle.tb_model.specs.declared.entry.Entry.{Entry}
use Rattle.tb_journal.specs.declared.compact.Compact.{Compact}
use Rattle.tb_journal.specs.declared.turn.Turn.{Turn}
use Rattle.tb_journal.specs.Compact.{entry_of}

-- each turn begins after the one in front of it, the first not before `low`, and the last below
-- `high`
abbrev pub Rises : ℕ → List Turn → ℕ → Type 0
Rises low [] high = low ≤ high
Rises low (x ∷ xs) high = (low ≤ x.from) × Rises (suc x.from) xs high

-- the task of the last turn that has begun at the slot, else this one
abbrev pub task_at : Name → List Turn → ℕ → Name
task_at t [] at = t
task_at t (x ∷ xs) at = if nat_lt at x.from then t else task_at x.task xs at

-- the entries from this slot on
abbrev pub entries : List Entry → List Turn → ℕ → List Compact → List Entry
entries apart turns at [] = []
entries apart turns at (k ∷ ks) = entry_of apart (task_at [] turns at) k ∷ entries apart turns (suc at) ks

-- the entry at the slot, which is after all others, is the task's, and all others are whose they
-- were
pub record Begins (at : ℕ) (t : Name) (old new : List Turn) : Type 0 where
  pub rises : Rises 0 new (suc at)
  pub own : task_at [] new at ≡ t
  pub others : (i : ℕ) → i < at → task_at [] new i ≡ task_at [] old i
