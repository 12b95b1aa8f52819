use Rattle.std.proofs.Common.{arith}
use Rattle.tb_draft.proofs.ShortTextLemmas.{text_put, text_is}
use Rattle.tb_draft.proofs.short_text.ShortText.prepend.Goals as goal

pub invariant_of-self : goal.invariant_of-self
invariant_of-self c = (omega (arith, c.self.invariant.0), text_is _ _ _ (text_put c.self.inside.at c.self.inside.bytes _ _ c.copy_from_slice.ensures.after c.if-self-text.false (omega (arith, c.self.invariant.0, c.self.told))) c.as_bytes-text.ensures.utf8 c.self.invariant.1)
