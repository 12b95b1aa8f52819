use Rattle.std.proofs.Common.{ap, sym, ◌∙◌, eq-eqb, w64, ◌==◌}
use Rattle.std.proofs.lemmas.Nat.Bits.{bit_at_set_same, bit_at_set_other, bit_at_clear_same, bit_at_clear_other}
use Rattle.tb_wait.proofs.FewLemmas.{held_put}
use Rattle.tb_wait.proofs.few.Few.set.Goals as goal

pub returns-then-there : goal.returns-then-there
returns-then-there c =
    held_put c.args.self.now.bits _ c.args.n c.args.there c.requires
    (eq-eqb _ 1 (bit_at_set_same w64 c.args.self.now.bits c.args.n c.requires) ∙ sym c.if-there.true)
    (λ i few other. bit_at_set_other w64 c.args.self.now.bits c.args.n c.requires i other)

pub returns-else-there : goal.returns-else-there
returns-else-there c =
    held_put c.args.self.now.bits _ c.args.n c.args.there c.requires
    (ap (λ x. x == 1) (bit_at_clear_same w64 c.args.self.now.bits c.args.n c.requires) ∙ sym c.if-there.false)
    (λ i few other. bit_at_clear_other w64 c.args.self.now.bits c.args.n c.requires i few other)
