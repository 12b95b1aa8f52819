use Rattle.std.proofs.Common.{◌∙◌, List, ap₂, sym, arith}
use Rattle.tb_model.specs.declared.item.Item.{Item}
use Rattle.tb_model.specs.Items.{is_before, is_apart, some_meet}
use Rattle.tb_depend.proofs.MetLemmas.{all_behind, more_behind}
use Rattle.tb_depend.proofs.siblings.Siblings.is_met_later.Goals as goal

pub later-init : goal.later-init
later-init c m low high = absurd (omega (arith, low, high))

pub later-preserved : goal.later-preserved
later-preserved c =
    let before = ap₂ (λ (new old : List Item). some_meet is_before new old) (sym c.items-items.ensures) (sym c.items-own.ensures) ∙ sym c.some_before.ensures ∙ c.if-some_before.false in
    let apart = ap₂ (λ (new old : List Item). some_meet is_apart new old) (sym c.items-items.ensures) (sym c.items-own.ensures) ∙ sym c.some_apart.ensures ∙ c.if-some_apart.false in
    more_behind c.args.self.now.siblings c.args.n c.later.k (before, apart) c.later.invariant

pub returns : goal.returns
returns c none = all_behind c.args.self.now.siblings c.args.n c.later.k (omega (arith, c.later-test.false, c.len.ensures)) c.later.invariant
