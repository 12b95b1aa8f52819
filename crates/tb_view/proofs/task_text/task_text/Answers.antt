use Rattle.std.proofs.Common.{◌++◌, ◌∙◌, ap, ap₂, ℕ, List, codes}
use Rattle.tb_model.specs.declared.item.Item.{Item}
use Rattle.tb_core.specs.Seen.{history}
use Rattle.tb_view.specs.Listing.{listed, lines_of}
use Rattle.tb_view.specs.Tasks.{head_text, item_line}
use Rattle.tb_view.proofs.StateLemmas.{own_numbers}
use Rattle.tb_view.proofs.task_text.task_text.Goals as goal

pub returns : goal.returns
returns c =
    let P = c.args.program.now in
    let run = c.args.core.now.run in
    let t = c.args.task.now in
    let head = c.in_ok-append_head.ensures ∙ ap (λ (text : List ℕ). text ++ head_text P (history run) t) c.new-text.ensures in
    let own = c.in_ok-append_own.ensures ∙ ap₂ (λ (text numbers : List ℕ). text ++ numbers) head (own_numbers P run t) in
    c.in_ok-append_items.ensures ∙ ap₂ (λ (text : List ℕ) (items : List Item). text ++ listed (codes "items") (lines_of item_line items)) own c.items.ensures
