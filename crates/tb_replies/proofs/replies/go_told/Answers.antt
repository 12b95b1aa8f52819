use Rattle.std.proofs.Common.{◌≡◌, IfOk, refl, sym, ◌∙◌, subst}
use Rattle.tb_replies.specs.Replies.{GoReply}
use Rattle.tb_draft.specs.Written.{Told}
use Rattle.tb_replies.proofs.AnswerLemmas.{fails_alone, go_waiting}
use Rattle.tb_replies.proofs.ResultLemmas.{err_then}
use Rattle.tb_replies.proofs.replies.go_told.Goals as goal

pub returns-then-count-eq1-clause-told : goal.returns-then-count-eq1-clause-told
returns-then-count-eq1-clause-told g c =
    let one = sym c.if-count-eq1.true ∙ c.count.ensures.count in
    subst (λ workers. IfOk c.alone_told.result (λ r. Told (g.K.Sink.taken c.args.sink.now) (g.K.Sink.taken c.alone_told.new.sink) r.1 (λ out. GoReply workers c.args.most c.args.live.session out r.0.session)))
    one c.alone_told.ensures.told

pub returns-then-count-eq1-clause-err : goal.returns-then-count-eq1-clause-err
returns-then-count-eq1-clause-err g c =
    let one : c.args.workers ≡ 1 = sym c.count.ensures.count ∙ c.if-count-eq1.true in
    err_then c.alone_told.result _ _ (λ why h. fails_alone _ _ c.args.live.session c.args.workers c.args.most why one h) c.alone_told.ensures.err

pub returns-clause-told : goal.returns-clause-told
returns-clause-told g c =
    go_waiting c.count-2.result c.args.workers c.args.most c.args.live.session c.in_ok-live.live.session c.in_ok-live.text c.in_ok-live.text _ c.count-2.ensures.count refl c.in_ok-live.ensures
