use Rattle.std.proofs.Common.{◌≤◌, ◌≡◌, ◌∙◌, ⊎_elim, true, length, ap, subst, arith}
use Rattle.std.specs.List.{list_any}
use Rattle.std.proofs.lemmas.List.{take_all}
use Rattle.tb_model.specs.Names.{Name, same_name}
use Rattle.tb_model.specs.Facts.{is_of}
use Rattle.tb_model.proofs.TestLemmas.{same_refl, same_true}
use Rattle.tb_cause.proofs.SkippingLemmas.{any_next, fewer}
use Rattle.tb_cause.proofs.skipping.next_of_parents.Goals as goal

pub loop-n-preserved : goal.loop-n-preserved
loop-n-preserved c =
    let l = c.loop-n in
    let entries = c.args.indexed.now in
    let from = c.args.from in
    let next = c.in_ok-next.next in
    let task = c.index.result.now in
    let passed = c.in_ok-next.ensures in
    record {
      low = passed.low;
      high = omega (arith, passed.high, l.invariant.high);
      none = λ p u h child.
          ⊎_elim (λ old. fewer (is_of p) entries from l.next next passed.high (l.invariant.none p u old child))
          (λ here. passed.none p u (subst (λ (t : Name). same_name t u ≡ true) (same_true u task here) (same_refl u)) child)
          (any_next (same_name u) c.args.set.now.keys l.n task c.index.ensures h);
    }

pub returns : goal.returns
returns c =
    let l = c.loop-n in
    let keys = c.args.set.now.keys in
    let all : length keys ≤ l.n = omega (arith, c.loop-n-test.false, c.len-n-end.ensures.len) in
    record {
      low = l.invariant.low;
      high = l.invariant.high;
      none = λ p u h child. l.invariant.none p u (ap (list_any (same_name u)) (take_all l.n keys all) ∙ h) child;
    }
