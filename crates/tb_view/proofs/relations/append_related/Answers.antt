use Rattle.std.proofs.Common.{◌++◌, ◌∙◌, sym, ap, length, append-nil}
use Rattle.tb_core.specs.Seen.{history}
use Rattle.tb_view.specs.Listing.{joined}
use Rattle.tb_view.proofs.RelationLemmas.{root_alone}
use Rattle.tb_view.proofs.relations.append_related.Goals as goal

pub returns-in-None-clause-text : goal.returns-in-None-clause-text
returns-in-None-clause-text c =
    let run = c.args.core.now.run in
    let none = root_alone run.cells (history run) c.args.task.now c.history_is_legal.ensures.legal (sym c.in_ok-parent.ensures.parent ∙ c.in-None.is) in
    sym (ap (λ lines. c.args.text.now ++ joined lines) none ∙ append-nil c.args.text.now)

pub returns-in-None-clause-count : goal.returns-in-None-clause-count
returns-in-None-clause-count c =
    let run = c.args.core.now.run in
    let none = root_alone run.cells (history run) c.args.task.now c.history_is_legal.ensures.legal (sym c.in_ok-parent.ensures.parent ∙ c.in-None.is) in
    sym (ap length none)
