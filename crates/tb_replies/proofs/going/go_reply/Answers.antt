use Rattle.tb_draft.proofs.WrittenLemmas.{on_err}
use Rattle.tb_replies.proofs.ToldLemmas.{begins_told, go_told, whole_extends}
use Rattle.tb_replies.proofs.going.go_reply.Goals as goal

pub returns-in_err-append_end-clause-err : goal.returns-in_err-append_end-clause-err
returns-in_err-append_end-clause-err g c =
    let extends = whole_extends c.args.most c.args.live.now.session c.take_turns.new.live.session c.in_ok-taken.taken in
    on_err c.from_residual-in_err-append_end.result _ (begins_told _ _ _ _ _ c.in_ok-taken.ensures.told extends)

pub returns-clause-told : goal.returns-clause-told
returns-clause-told g c = go_told _ _ c.args.most c.args.live.now.session c.take_turns.new.live.session _ _ c.in_ok-taken.taken c.in_ok-taken.ensures.told c.in_ok-append_end.ensures
