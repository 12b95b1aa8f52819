use Rattle.std.proofs.Common.{◌∷◌, [], ◌||◌, take, ap, ◌∙◌}
use Rattle.std.specs.List.{list_any}
use Rattle.std.proofs.lemmas.List.{take_more}
use Rattle.std.proofs.lemmas.List.Folds.{list_any-append}
use Rattle.tb_cause.specs.Asked.{same_key}
use Rattle.tb_cause.specs.Keys.{Item, item_any}
use Rattle.tb_cause.proofs.HasLemmas.{one_put}
use Rattle.tb_cause.proofs.KeyLemmas.{or_none}
use Rattle.tb_cause.proofs.noting.note_items.Goals as goal

pub loop-item-preserved : goal.loop-item-preserved
loop-item-preserved c p n d =
    let l = c.loop-item in
    let asks = item_any (λ a. same_key a (Item p n d)) c.args.parent.now c.args.starts in
    one_put (list_any asks (take l.item-index c.args.items.now)) _ _ _ _ _ (l.invariant p n d) (c.in_ok-note_item.ensures p n d)
    (ap (list_any asks) (take_more c.args.items.now l.item-index _ c.loop-item-test.true) ∙ list_any-append asks (take l.item-index c.args.items.now) (_ ∷ [])
    ∙ ap (λ b. list_any asks (take l.item-index c.args.items.now) || b) (or_none _))
