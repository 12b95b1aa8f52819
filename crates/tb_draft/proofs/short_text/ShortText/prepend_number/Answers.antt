use Rattle.std.proofs.Common.{arith}
use Rattle.tb_draft.proofs.ShortTextLemmas.{number_room, number_is}
use Rattle.tb_draft.proofs.short_text.ShortText.prepend_number.Goals as goal

pub put_digits-self-inside-requires : goal.put_digits-self-inside-requires
put_digits-self-inside-requires c = (omega (arith, number_room c.args.n (omega arith)), c.self.invariant.0)

pub invariant_of-self : goal.invariant_of-self
invariant_of-self c = (omega (arith, c.self.invariant.0), number_is _ _ c.args.n c.put_digits-self-inside.ensures.digits (omega arith) c.self.invariant.1)
