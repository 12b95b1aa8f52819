use Rattle.tb_replies.proofs.TeamLemmas.{few_steps, gone_reply}
use Rattle.tb_replies.proofs.teaming.reply_off_heap.Goals as goal

pub course_text-requires : goal.course_text-requires
course_text-requires g c = few_steps c.args.workers c.args.most c.args.live.session c.in_ok-live.field-0 c.in_ok-live.ensures.gone

pub returns-in-Ok : goal.returns-in-Ok
returns-in-Ok g c =
    gone_reply c.args.workers c.args.most c.args.live.session c.in_ok-live.field-0 c.in-Ok.text c.in_ok-live.ensures.gone c.in-Ok.ensures
