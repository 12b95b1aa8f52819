use Rattle.tb_stream.specs.Ends.{IsMeant}
use Rattle.tb_stream.proofs.NoteLemmas.{meant_low, stored_more}
use Rattle.tb_stream.proofs.noting.note_end.Goals as goal

pub returns : goal.returns
returns c r n lanes meant added stored =
    stored_more r n lanes c.args.clocks.now c.args.mark added (IsMeant r n meant) (meant_low r n meant) c.args.ends.now stored c.push.new.self c.first_skipped-skip.result c.in_ok-push.ensures.items c.first_skipped-skip.ensures.within
    (λ j a b. c.first_skipped-skip.ensures.reached r n lanes meant added stored j a b)
