use Rattle.std.proofs.Common.{◌≡◌, ◌-◌, ap, ◌∙◌, arith, length}
use Rattle.std.specs.Prelude.{min}
use Rattle.tb_depend.specs.Relations.{depends}
use Rattle.tb_depend.specs.Numbers.{numbers_where}
use Rattle.tb_depend.proofs.NumbersLemmas.{length_where}
use Rattle.tb_depend.proofs.RelationsLemmas.{preds_front}
use Rattle.tb_depend.proofs.siblings.Siblings.fill_preds.Goals as goal

pub push_reserved-requires : goal.push_reserved-requires
push_reserved-requires c =
    let found : length c.loop-k.numbers.items ≡ length (numbers_where (depends c.args.self.now.siblings c.args.n) c.loop-k.k) =
    ap length c.loop-k.invariant.found in
    let few = length_where (depends c.args.self.now.siblings c.args.n) c.loop-k.k in
    omega (arith, found, few)

pub returns : goal.returns
returns c =
    let last : c.loop-k.k ≡ min (length c.args.self.now.siblings) (c.args.n - 1) = omega arith in
    c.of.ensures ∙ c.loop-k.invariant.found ∙ ap (numbers_where (depends c.args.self.now.siblings c.args.n)) last
    ∙ preds_front c.args.self.now.siblings c.args.n
