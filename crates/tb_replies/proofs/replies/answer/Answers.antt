use Rattle.std.proofs.Common.{sym, ◌∙◌}
use Rattle.tb_commands.specs.declared.asked.Asked.TheVariants.{Fault}
use Rattle.tb_replies.proofs.AnswerLemmas.{answers_waiting}
use Rattle.tb_replies.proofs.ResultLemmas.{ok_then}
use Rattle.tb_replies.proofs.replies.answer.Goals as goal

pub returns-in-Fault-clause-told : goal.returns-in-Fault-clause-told
returns-in-Fault-clause-told g c =
    let seen = sym c.in-Ok.ensures ∙ c.in-Fault.is in
    ok_then c.fault_told.result _ _ (λ r h. answers_waiting c.args.limit c.args.live.session r.0.session c.args.line.now r.1 _ (Fault c.in-Fault.fault) seen h) c.fault_told.ensures.told
