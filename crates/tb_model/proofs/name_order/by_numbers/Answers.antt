-- a run of `rev` gives the reverse of the slice, and `cmp` compares the two runs
use Rattle.std.specs.declared.iter.Rev.{Rev}
use Rattle.std.proofs.Common.{◌≡◌, ℕ, Iter, Bor, Option, refl, ap, ◌∙◌}
use Rattle.std.specs.Ordering.{nat_cmp}
use Rattle.std.specs.Iterator.Adapters.{rev_source, rev_steps}
use Rattle.std.specs.Slice.Iter.{iter_rest, iter_steps_back}
use Rattle.std.proofs.lemmas.Iterator.Adapters.{YieldsList-from_rev_slice}
use Rattle.std.proofs.lemmas.Iterator.Search.{cmp_from_yields_List}
use Rattle.tb_model.proofs.name_order.by_numbers.Goals as goal

pub returns : goal.returns
returns c =
    let own : iter_rest (rev_source c.rev.result) ≡ c.without_common.result.0.now = cc in
    let others : iter_rest (rev_source c.rev-2.result) ≡ c.without_common.result.1.now = cc in
    let backwards : Rev (Iter ℕ) → Option (Bor ℕ) → Rev (Iter ℕ) → Type 0 = rev_steps iter_steps_back in
    cmp_from_yields_List {steps = backwards} {others = backwards} {v = λ y. y.now} {s = c.rev.result} {cmp = λ x y. nat_cmp x.now y.now}
    (λ u it. it ≡ u) c.rev-2.result nat_cmp c.cmp.result c.cmp.ensures.ran
    (YieldsList-from_rev_slice _ own)
    (λ it h. YieldsList-from_rev_slice _ (ap (λ (r : Rev (Iter ℕ)). iter_rest (rev_source r)) h ∙ others))
    (λ x y. refl)
    ∙ c.without_common.ensures
