use Rattle.std.proofs.Common.{◌≤◌, ◌+◌, ℕ, length, take, drop, vec_len, vec_capacity}
use Rattle.tb_wait.specs.Kin.{KeepsNames}
use Rattle.tb_core.specs.Storing.{entries_in}
use Rattle.tb_core.specs.UnwindingStored.{UnwindsAt}
use Rattle.tb_core.proofs.unwinding.unwind.Given as goal

-- the tables are those of the stored steps without the ones that went
abbrev pub invariant-back : goal.invariant-back
invariant-back l =
    let places = l.fn.rollback.places.items in
    record {
      unwinds : (count : ℕ) × UnwindsAt l.fn.rollback.step (entries_in l.fn.tables l.fn.entries.items) l.fn.tables l.fn.entries.items l.entries.items l.tables (take l.next places) (drop l.next places) l.steps.items l.removed.items count;
      names : KeepsNames l.fn.tables.waits.tasks l.tables.waits.tasks;
      within : l.next ≤ length places;
      room : l.next + vec_len l.removed ≤ vec_capacity l.removed;
    }

abbrev pub decreases-back : goal.decreases-back
decreases-back l = l.next
