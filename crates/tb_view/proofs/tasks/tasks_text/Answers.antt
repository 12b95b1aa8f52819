use Rattle.std.proofs.Common.{◌≡◌, ◌++◌, ◌∙◌, ap, sym, refl, length, codes, ℕ, List}
use Rattle.std.specs.Fmt.{decimal}
use Rattle.tb_core.specs.Seen.{history}
use Rattle.tb_view.specs.Lines.{line}
use Rattle.tb_view.specs.Listing.{joined, lines_of}
use Rattle.tb_view.specs.Tasks.{Named, task_line}
use Rattle.tb_view.proofs.ListingLemmas.{one_each}
use Rattle.tb_view.proofs.tasks.tasks_text.Goals as goal

pub tasks-init : goal.tasks-init
tasks-init c =
    let tasks : List Named = c.deref-task-items.result.now in
    let f = task_line c.args.program.now (history c.args.core.now.run) in
    let count : c.len-count.result ≡ length tasks = c.len-count.ensures ∙ sym c.deref-task-items.ensures.len in
    ap (λ (text : List ℕ). text ++ joined (lines_of f tasks)) (c.of-text.ensures ∙ c.in_ok-head.ensures.ok ∙ ap (λ n. line (codes "tasks " ++ decimal n)) (count ∙ sym (one_each f (λ t. refl) tasks)))
