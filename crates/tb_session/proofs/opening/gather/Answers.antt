use Rattle.std.proofs.Common.{rules}
use Rattle.tb_session.proofs.GatherLemmas.{gather_fails, gather_divided, gather_halts, gather_whole, gather_more}
use Rattle.tb_session.proofs.opening.gather.Goals as goal

pub returns-in-Err-clause-gathered : goal.returns-in-Err-clause-gathered
returns-in-Err-clause-gathered g c = gather_fails _ _ _ _ _ c.in-Err.fault c.lines.invariant.taken c.in-Err.ensures.line

pub returns-in-Ok-true-clause-gathered : goal.returns-in-Ok-true-clause-gathered
returns-in-Ok-true-clause-gathered g c =
    let kept = rw c.in-Ok-true.field-0-test at c.in-Ok-true.ensures in
    gather_divided _ _ _ _ _ _ _ c.in-Ok.end c.lines.invariant.taken c.in-Ok.ensures.line c.deref.ensures.value kept.0 kept.1

pub returns-in-Err-keep-clause-gathered : goal.returns-in-Err-keep-clause-gathered
returns-in-Err-keep-clause-gathered g c =
    gather_halts _ _ _ _ _ c.in-Ok.end c.lines.invariant.taken c.in-Ok.ensures.line

pub lines-preserved : goal.lines-preserved
lines-preserved g c =
    let kept = rw c.in-Ok-false.field-0-test at c.in-Ok-false.ensures in
    record {
      can = tt;
      ends = tt;
      taken = gather_more _ _ _ _ _ _ _ c.in-Ok.end c.lines.invariant.taken c.in-Ok.ensures.line c.deref.ensures.value kept.0 kept.1 c.in-Feed.is;
      failures = search rules;
    }

pub returns-in-Input-clause-gathered : goal.returns-in-Input-clause-gathered
returns-in-Input-clause-gathered g c =
    let kept = rw c.in-Ok-false.field-0-test at c.in-Ok-false.ensures in
    gather_whole _ _ _ _ _ _ _ c.in-Ok.end c.lines.invariant.taken c.in-Ok.ensures.line c.deref.ensures.value kept.0 kept.1 c.in-Input.is
