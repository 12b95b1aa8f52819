use Rattle.std.proofs.Common.{◌++◌, subst, Some, None}
use Rattle.tb_wait.specs.Rows.{IsPlaceOf, key}
use Rattle.tb_wait.proofs.FindingLemmas.{run_next, run_none, none_left}
use Rattle.tb_wait.proofs.tree.Tree.place_of.Goals as goal

pub returns-in-None : goal.returns-in-None
returns-in-None c = λ names slots f.
    let here = c.runs.invariant.here names slots f in
    run_none names slots c.args.self.now.nodes f c.args.name.now c.runs.parts c.runs.run c.runs.at here.1
    (subst (λ l. IsPlaceOf names (l ++ key names c.runs.at) None) c.as_slice-in-runs.ensures (c.in-None.ensures names slots f here.0))

pub runs-preserved : goal.runs-preserved
runs-preserved c = record {
  last = none_left c.runs.parts c.take_run-run-in-runs.new.self c.take_run-run-in-runs.result c.take_run-run-in-runs.ensures.none c.take_run-run-in-runs.ensures.split;
  here = λ names slots f.
      let here = c.runs.invariant.here names slots f in
      run_next names slots c.args.self.now.nodes f c.args.name.now c.runs.parts c.runs.run c.take_run-run-in-runs.new.self c.take_run-run-in-runs.result c.runs.at c.in-Some.below here
      (subst (λ l. IsPlaceOf names (l ++ key names c.runs.at) (Some c.in-Some.below)) c.as_slice-in-runs.ensures (c.in-Some.ensures names slots f here.0)) c.take_run-run-in-runs.ensures.split;
}
