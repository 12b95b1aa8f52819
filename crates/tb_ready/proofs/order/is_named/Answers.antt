use Rattle.std.proofs.Common.{◌∙◌, sym, ap, arith}
use Rattle.std.proofs.lemmas.Bool.{both_ways}
use Rattle.tb_model.specs.Names.{same_name}
use Rattle.tb_model.proofs.TestLemmas.{same_true, same_refl}
use Rattle.tb_ready.proofs.order.is_named.Goals as goal

pub returns-then-k-len-clause-named : goal.returns-then-k-len-clause-named
returns-then-k-len-clause-named c =
    λ t. (omega (arith, c.if-k-len.true, c.len.ensures.len), sym c.marked.ensures.name ∙ same_true _ _ (sym c.eq.ensures ∙ t))

pub returns-then-k-len-clause-other : goal.returns-then-k-len-clause-other
returns-then-k-len-clause-other c =
    λ f h e. both_ways c.eq.result f (c.eq.ensures ∙ ap (λ n. same_name n c.args.name.now) (c.marked.ensures.name ∙ e) ∙ same_refl c.args.name.now)
