use Rattle.std.proofs.Common.{◌∙◌, ap, map, subst, OnOk}
use Rattle.tb_read.specs.Reading.{IsAccepted}
use Rattle.tb_read.proofs.reader.read.Goals as goal

pub returns-in-Ok-headings_of-clause-accepted : goal.returns-in-Ok-headings_of-clause-accepted
returns-in-Ok-headings_of-clause-accepted c =
    subst (λ lines. OnOk c.read_known.result (IsAccepted lines)) (ap (map (λ line. line.now)) c.deref-in-Ok-headings_of.ensures.value ∙ c.in-Ok.ensures) c.read_known.ensures.accepted
