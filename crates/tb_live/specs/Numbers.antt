-- The refusals of a commit by their codes.
use Rattle.std.specs.Prelude.{ℕ}
use Rattle.tb_core.specs.Refusals.{step_number}
use Rattle.tb_live.specs.declared.commit_refusal.CommitRefusal.{CommitRefusal}
use Rattle.tb_live.specs.declared.commit_refusal.CommitRefusal.TheVariants.{Paused, Withdrawn, Step}

abbrev pub commit_number : CommitRefusal → ℕ
commit_number Paused = 9
commit_number Withdrawn = 10
commit_number (Step refusal) = step_number refusal
