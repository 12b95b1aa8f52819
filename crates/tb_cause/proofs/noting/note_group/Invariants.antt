use Rattle.std.proofs.Common.{◌≡◌, ◌≤◌, ◌+◌, true, length}
use Rattle.indexmap.specs.IndexSet.{contains}
use Rattle.tb_model.specs.Names.{Name, same_name}
use Rattle.tb_model.specs.Facts.{own}
use Rattle.tb_steps.specs.Scans.{history_of}
use Rattle.tb_cause.proofs.GroupLemmas.{member_behind, stays_open}
use Rattle.tb_cause.proofs.noting.note_group.Given as goal

-- what is put so far, and what the rest gives, is what all gives
abbrev pub invariant-back : goal.invariant-back
invariant-back l = record {
  put : (q : Name) → member_behind l.closed (contains same_name l.set q) (own l.task (history_of l.rest)) (λ c. same_name c q)
      ≡ member_behind 0 (contains same_name l.initial.set q) (own l.task (history_of l.front)) (λ c. same_name c q);
  stays : stays_open l.closed (own l.task (history_of l.rest)) ≡ true;
  fits : l.closed + length l.rest ≤ length l.front;
}

abbrev pub decreases-back : goal.decreases-back
decreases-back l = length l.rest
