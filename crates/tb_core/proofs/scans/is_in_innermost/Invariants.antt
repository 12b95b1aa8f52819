use Rattle.std.proofs.Common.{◌≡◌, ◌≤◌, ◌+◌, length}
use Rattle.tb_model.specs.Facts.{own, is_member}
use Rattle.tb_steps.specs.Scans.{history_of}
use Rattle.tb_steps.proofs.MemberLemmas.{member_behind}
use Rattle.tb_core.proofs.scans.is_in_innermost.Given as goal

-- what is found so far, and what the rest gives, is what all gives
abbrev pub invariant-back : goal.invariant-back
invariant-back l = record {
  found : member_behind l.closed l.found (own l.t (history_of l.rest)) l.m ≡ is_member (own l.t (history_of l.front)) l.m;
  fits : l.closed + length l.rest ≤ length l.front;
}

abbrev pub decreases-back : goal.decreases-back
decreases-back l = length l.rest
