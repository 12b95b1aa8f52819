use Rattle.std.proofs.Common.{refl, sym, rules, arith, to_z-of_z, w64, SFits}
use Rattle.std.proofs.lemmas.Result.{err_from_is_err_and}
use Rattle.tb_runs.specs.Reading.{ends_args, number_in}
use Rattle.tb_runs.proofs.ListedLemmas.{behind_none, one_more, one_faulty, too_many, all_read}
use Rattle.tb_runs.proofs.items.take_args.Goals as goal

pub args-2-init : goal.args-2-init
args-2-init c = record { all = rw c.new-args.ensures (behind_none _) }

pub returns-in_err-x-clause-err : goal.returns-in_err-x-clause-err
returns-in_err-x-clause-err c fault is =
    let p = err_from_is_err_and c.from_residual.result c.from_residual.ensures.1 in
    let q = one_faulty ends_args number_in _ c.in_err-x.field-0.0 _ _ _ (sym c.args-2-test.ensures) c.in_err-x.ensures.err c.args-2.invariant.all in
    cc

pub returns-then-room-eq0-clause-err : goal.returns-then-room-eq0-clause-err
returns-then-room-eq0-clause-err c fault is =
    let q = too_many ends_args number_in _ c.in_ok-x.x _ _ _ _ (sym c.args-2-test.ensures) c.in_ok-x.ensures.ok c.if-room-eq0.true c.args-2.invariant.all in
    cc

pub args-2-preserved : goal.args-2-preserved
args-2-preserved c =
    let fits : SFits w64 c.in_ok-x.x = search rules in
    let whole = to_z-of_z fits in
    record {
      all = rw (c.in_ok-push.ensures.ok, whole)
          (one_more ends_args number_in _ _ _ _ _ _ _ (sym c.args-2-test.ensures) c.in_ok-x.ensures.ok (omega arith) refl c.args-2.invariant.all);
    }

pub returns-clause-ok : goal.returns-clause-ok
returns-clause-ok c = all_read ends_args number_in _ _ _ _ (sym c.args-2-test.ensures) c.args-2.invariant.all
