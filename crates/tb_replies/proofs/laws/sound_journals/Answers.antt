use Rattle.tb_replies.proofs.TotalLemmas.{opened_sound}
use Rattle.tb_replies.proofs.laws.sound_journals.Goals as goal

pub returns-clause-opened : goal.returns-clause-opened
returns-clause-opened c = opened_sound
