use Rattle.std.proofs.Common.{ℕ, List}
use Rattle.tb_verdict.specs.Whole.{IsJudged}
use Rattle.tb_verdict_tests.proofs.whole.judged.Given as goal

-- the judge has some lines
abbrev pub invariant-lines : goal.invariant-lines
invariant-lines l = record {
  behind : (taken : List (List ℕ)) × IsJudged l.judge taken;
}
