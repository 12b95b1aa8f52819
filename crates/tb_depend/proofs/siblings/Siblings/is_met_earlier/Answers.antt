use Rattle.std.proofs.Common.{◌∙◌, List, ap₂, sym}
use Rattle.tb_model.specs.declared.item.Item.{Item}
use Rattle.tb_model.specs.Items.{is_apart, some_meet}
use Rattle.tb_depend.proofs.MetLemmas.{first_front, more_front}
use Rattle.tb_depend.proofs.siblings.Siblings.is_met_earlier.Goals as goal

pub front-init : goal.front-init
front-init c m low = first_front c.args.self.now.siblings c.args.n m low

pub front-preserved : goal.front-preserved
front-preserved c =
    let apart = ap₂ (λ (new old : List Item). some_meet is_apart new old) (sym c.items-own.ensures) (sym c.items.ensures) ∙ sym c.some_apart.ensures ∙ c.if-some_apart.false in
    more_front c.args.self.now.siblings c.args.n c.front.k apart c.front.invariant
