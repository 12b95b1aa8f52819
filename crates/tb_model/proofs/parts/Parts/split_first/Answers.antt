use Rattle.std.proofs.Common.{◌≡◌, ◌∙◌, ◌++◌, ap, length, arith}
use Rattle.tb_model.specs.Blocks.{far_numbers}
use Rattle.tb_model.proofs.BlockLemmas.{full_take, one_and_last}
use Rattle.tb_model.proofs.parts.Parts.split_first.Goals as goal

pub invariant_of-result : goal.invariant_of-result
invariant_of-result c =
    let long : length c.of_slice-near.result ≡ 128 = ap length (c.of_slice-near.ensures ∙ c.as_slice-in-len1-up-far.ensures.is) ∙ c.as_slice-in-len1-up-far.ensures.full in record {
      short = omega (arith, long);
      full = full_take _ _ c.self.invariant.full;
      some = λ _. omega (arith, long);
    }

pub returns-in-len1-up-far-clause-some : goal.returns-in-len1-up-far-clause-some
returns-in-len1-up-far-clause-some c =
    one_and_last c.as_slice.result.now c.self.inside.far.now c.last-item.result c.of_slice-near.result c.args.self.now (ap (λ n. n ++ far_numbers c.self.inside.far.now) c.as_slice.ensures ∙ c.self.view_is)
    c.in-len1-up.len_at_least c.if-is_empty.ensures c.in-len1-up-far.len_at_least c.last-item.is (c.of_slice-near.ensures ∙ c.as_slice-in-len1-up-far.ensures.is)
