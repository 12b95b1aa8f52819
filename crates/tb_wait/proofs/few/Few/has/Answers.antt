use Rattle.std.proofs.Common.{ap, sym, ◌∙◌, nat_eq}
use Rattle.std.proofs.lemmas.Nat.Bits.{shr_and_one}
use Rattle.tb_wait.proofs.FewLemmas.{has_held}
use Rattle.tb_wait.proofs.few.Few.has.Goals as goal

pub returns : goal.returns
returns c = ap (λ x. nat_eq x 1) (shr_and_one c.args.self.now.bits c.args.n) ∙ sym (has_held c.args.self.now.bits c.args.n c.requires)
