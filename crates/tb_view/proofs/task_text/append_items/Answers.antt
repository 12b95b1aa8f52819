use Rattle.std.proofs.Common.{◌≡◌, ◌++◌, ap, sym, ◌∙◌, subst, refl, append_assoc, length, codes}
use Rattle.std.specs.Fmt.{decimal}
use Rattle.tb_view.specs.Lines.{line}
use Rattle.tb_view.specs.Listing.{joined, lines_of}
use Rattle.tb_view.specs.Tasks.{item_line}
use Rattle.tb_view.proofs.ListingLemmas.{one_each}
use Rattle.tb_view.proofs.task_text.append_items.Goals as goal

pub items-init : goal.items-init
items-init c =
    let items = c.args.items.now in
    let lines = joined (lines_of item_line items) in
    let told = ap (λ text. text ++ lines) c.in_ok-append_count.ensures ∙ append_assoc c.args.text.now (line (codes "items " ++ decimal (length items))) lines in
    subst (λ n. c.append_count.new.text ++ lines ≡ c.args.text.now ++ (line (codes "items " ++ decimal n) ++ lines)) (sym (one_each item_line (λ i. refl) items)) told
