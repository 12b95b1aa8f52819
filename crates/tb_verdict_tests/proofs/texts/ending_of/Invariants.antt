use Rattle.tb_verdict.specs.Held.{IsBehind}
use Rattle.tb_verdict.specs.Texts.{Sofar}
use Rattle.tb_verdict_tests.proofs.texts.ending_of.Given as goal

-- the judge is after some lines
abbrev pub invariant-lines : goal.invariant-lines
invariant-lines l = record {
  behind : (s : Sofar) × IsBehind l.judge s;
}
