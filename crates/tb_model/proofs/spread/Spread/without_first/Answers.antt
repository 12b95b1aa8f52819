use Rattle.std.proofs.Common.{◌<◌, ◌∙◌, ap, drop, length, subst, sym}
use Rattle.tb_model.proofs.FewLemmas.{after_first, some_left}
use Rattle.tb_model.proofs.spread.Spread.without_first.Goals as goal

pub returns : goal.returns
returns c =
    let some = subst (λ l. 0 < length l) (sym c.self.view_is) c.requires in
    after_first c.self.inside.numbers c.self.inside.from c.self.inside.to (some_left c.self.inside.numbers c.self.inside.from c.self.inside.to some) ∙ ap (drop 1) c.self.view_is
