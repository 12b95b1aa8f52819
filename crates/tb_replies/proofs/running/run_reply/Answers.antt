use Rattle.tb_draft.proofs.WrittenLemmas.{on_err}
use Rattle.tb_replies.proofs.ToldLemmas.{begins_told, run_begins, run_extends, run_told}
use Rattle.tb_replies.proofs.running.run_reply.Goals as goal

pub returns-in_err-taken-clause-err : goal.returns-in_err-taken-clause-err
returns-in_err-taken-clause-err g c =
    on_err c.from_residual.result _ (run_begins c.args.live.now.session c.resume.new.self.session c.args.most _ c.resume.ensures c.new-text.ensures _ _ c.in_err-taken.ensures.err)

pub returns-in_err-append_end-clause-err : goal.returns-in_err-append_end-clause-err
returns-in_err-append_end-clause-err g c =
    let extends = run_extends c.args.live.now.session c.resume.new.self.session c.args.most _ c.resume.ensures c.new-text.ensures c.in_ok-taken.taken c.take_steps.new.live.session in
    on_err c.from_residual-in_err-append_end.result _ (begins_told _ _ _ _ _ c.in_ok-taken.ensures.told extends)

pub returns-clause-told : goal.returns-clause-told
returns-clause-told g c =
    run_told c.args.live.now.session c.resume.new.self.session c.args.most _ c.resume.ensures c.new-text.ensures _ _ _ _ c.in_ok-taken.taken c.take_steps.new.live.session c.in_ok-taken.ensures.told c.in_ok-append_end.ensures
