use Rattle.std.proofs.Common.{ap, rules, ◌∙◌}
use Rattle.tb_draft.proofs.WrittenLemmas.{put_cut, put_cut_later, put_whole, on_err}
use Rattle.tb_draft.proofs.waiting.put.Goals as goal

pub returns-in_err-write_whole-in-Err-clause-err : goal.returns-in_err-write_whole-in-Err-clause-err
returns-in_err-write_whole-in-Err-clause-err g c =
    on_err c.from_residual.result _
    (put_cut _ _ c.args.waiting.now.items _ c.args.bytes.now (c.as_slice.ensures.value ∙ ap (λ w. w.items) c.in-Err.ensures.err) c.in_err-write_whole-in-Err.ensures.err.0, search rules)

pub returns-in_err-write_whole-in-Err-try_extend_from_slice-clause-err : goal.returns-in_err-write_whole-in-Err-try_extend_from_slice-clause-err
returns-in_err-write_whole-in-Err-try_extend_from_slice-clause-err g c =
    on_err c.from_residual-in_err-write_whole-in-Err-try_extend_from_slice.result _
    (put_cut_later _ _ c.args.waiting.now.items _ c.args.bytes.now (c.as_slice.ensures.value ∙ ap (λ w. w.items) c.in-Err.ensures.err) _ c.in_ok-write_whole-in-Err.ensures.ok.0 c.in_err-write_whole-in-Err-try_extend_from_slice.ensures.err.0, search rules)

pub returns-in_ok-write_whole-in-Err-try_extend_from_slice-clause-ok : goal.returns-in_ok-write_whole-in-Err-try_extend_from_slice-clause-ok
returns-in_ok-write_whole-in-Err-try_extend_from_slice-clause-ok g c =
    (put_whole _ _ c.args.waiting.now.items _ c.args.bytes.now (c.as_slice.ensures.value ∙ ap (λ w. w.items) c.in-Err.ensures.err) _ _ (ap (λ w. w.items) c.in-Err-try_extend_from_slice.ensures.err ∙ c.clear.ensures) c.in_ok-write_whole-in-Err.ensures.ok.0 c.in_ok-write_whole-in-Err-try_extend_from_slice.ensures.ok.0, search rules)
