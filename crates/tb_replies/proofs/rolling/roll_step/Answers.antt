use Rattle.tb_replies.proofs.ResultLemmas.{ok_then}
use Rattle.tb_replies.proofs.RolledLemmas.{rolls_reply}
use Rattle.tb_replies.proofs.rolling.roll_step.Goals as goal

pub returns-in-Ok : goal.returns-in-Ok
returns-in-Ok c =
    ok_then c.removals_text.result _ _
    (λ text is. rolls_reply c.args.live.now.session c.roll.new.self.session c.args.id.now c.program.result.now c.in-Ok.removals.items c.deref.result.now _ c.in-Ok.ensures.rolled c.program.ensures c.deref.ensures.value is) c.removals_text.ensures
