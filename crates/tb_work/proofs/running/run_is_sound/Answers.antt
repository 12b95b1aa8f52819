use Rattle.tb_work.proofs.running.run_is_sound.Goals as goal

pub returns : goal.returns
returns c =
    let e = c.journal_is_sound.ensures in
    record { sound = e.sound; within = e.within; legal = e.legal; lawful = c.claim_of-claim.ensures.lawful }
