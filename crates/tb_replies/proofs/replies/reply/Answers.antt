use Rattle.std.proofs.Common.{refl}
use Rattle.tb_draft.proofs.WrittenLemmas.{told_nothing}
use Rattle.tb_replies.proofs.replies.reply.Goals as goal

pub returns-in_ok-view_reply-in-Show-clause-told : goal.returns-in_ok-view_reply-in-Show-clause-told
returns-in_ok-view_reply-in-Show-clause-told g c = told_nothing _ _ _ (rw c.in-Show.is (c.in_ok-view_reply-in-Show.ensures, refl))

pub returns-in_ok-roll_reply-in-Roll-clause-told : goal.returns-in_ok-roll_reply-in-Roll-clause-told
returns-in_ok-roll_reply-in-Roll-clause-told g c = told_nothing _ _ _ (rw c.in-Roll.is c.in_ok-roll_reply-in-Roll.ensures)
