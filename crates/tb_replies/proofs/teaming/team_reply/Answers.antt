use Rattle.tb_replies.proofs.teaming.team_reply.Goals as goal

pub returns-in-Ok : goal.returns-in-Ok
returns-in-Ok g c =
    let gone = rw c.into_inner.ensures at c.in_ok-live.ensures in
    rw c.in-Ok.ensures gone
