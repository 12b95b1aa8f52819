use Rattle.std.proofs.Common.{◌≡◌, [], refl, subst, sym, rules, replicate}
use Rattle.tb_depend.specs.Nearness.{AreOverFor}
use Rattle.tb_depend.proofs.BareLemmas.{over_for_bare}
use Rattle.tb_depend.proofs.siblings.Siblings.are_over_for.Goals as goal

pub returns-in-None : goal.returns-in-None
returns-in-None g c closed =
    let bare : c.args.self.now.siblings ≡ replicate c.self.inside.bare [] = search rules in (
      λ t. subst (λ s. AreOverFor s (g.T.Over.over c.args.over.now) c.args.items.now) (sym bare)
          (over_for_bare c.self.inside.bare c.args.items.now (g.T.Over.over c.args.over.now)),
      λ a. refl,
    )
