use Rattle.std.proofs.Common.{[], ◌∷◌, ◌++◌, ap, ◌∙◌, arith, length}
use Rattle.tb_wait.proofs.NearLemmas.{distinct_one}
use Rattle.tb_wait.proofs.names.Names.root.Goals as goal

pub invariant_of-result : goal.invariant_of-result
invariant_of-result c =
    let one = c.push_reserved.ensures.items ∙ ap (λ l. l ++ c.root.result ∷ []) c.in_ok-names.ensures.items in
    (distinct_one c.push_reserved.new.self.items c.root.result one, omega (arith, ap length one))
