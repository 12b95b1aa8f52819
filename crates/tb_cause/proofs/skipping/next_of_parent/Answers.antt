use Rattle.std.proofs.Common.{◌∙◌, sym, subst, arith}
use Rattle.tb_model.specs.Names.{Name}
use Rattle.tb_model.specs.Facts.{is_of}
use Rattle.tb_core.specs.Lending.{IsNoneBetween}
use Rattle.tb_cause.proofs.SkippingLemmas.{fewer, one_parent}
use Rattle.tb_cause.proofs.skipping.next_of_parent.Goals as goal

pub returns-in-Some : goal.returns-in-Some
returns-in-Some c =
    let entries = c.args.indexed.now in
    let from = c.args.from in
    let q = c.in-Some.parent in
    record {
      low = omega (arith, c.min.ensures, c.requires.from, c.next_of.ensures.from);
      high = omega (arith, c.min.ensures);
      none = λ p u same child.
          fewer (is_of p) entries from c.next_of.result c.min.result (omega (arith, c.min.ensures))
          (subst (λ (t : Name). IsNoneBetween (is_of t) entries from c.next_of.result) (one_parent c.args.task.now u p q (sym c.in_ok-parent.ensures.parent ∙ c.in-Some.is) same child) c.next_of.ensures.none);
    }
