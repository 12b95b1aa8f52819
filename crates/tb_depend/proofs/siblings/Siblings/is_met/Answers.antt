use Rattle.std.proofs.Common.{◌∙◌, length, sym, eqb-true}
use Rattle.std.proofs.lemmas.List.{nil_from_length}
use Rattle.tb_depend.proofs.MetLemmas.{bare_not_met, not_met}
use Rattle.tb_depend.proofs.siblings.Siblings.is_met.Goals as goal

pub returns-then-is_empty : goal.returns-then-is_empty
returns-then-is_empty c none m =
    let bare = nil_from_length c.items.result.now (eqb-true (length c.items.result.now) 0 (sym c.is_empty.ensures ∙ c.if-is_empty.true)) in
    bare_not_met c.args.self.now.siblings c.args.n (sym c.items.ensures ∙ bare) m

pub returns : goal.returns
returns c none m = not_met c.args.self.now.siblings c.args.n (c.is_met_later.ensures c.if-is_met_later.false) (c.is_met_earlier.ensures none) m
