use Rattle.std.proofs.Common.{◌≡◌, ◌++◌, ◌∙◌, ap, length, arith}
use Rattle.tb_model.specs.Facts.{own}
use Rattle.tb_model.specs.Legal.{spawn_count}
use Rattle.tb_core.specs.Seen.{history}
use Rattle.tb_view.specs.Listing.{joined}
use Rattle.tb_view.proofs.RelationLemmas.{children_counted, whole_history, text_more, count_more}
use Rattle.tb_view.proofs.relations.append_siblings.Goals as goal

pub children-preserved : goal.children-preserved
children-preserved c =
    let H = history c.args.core.now.run in
    let l = c.children in
    record {
      text = text_more H c.args.task.now c.args.parent.now l.n c.requires.parent c.args.text.now l.text c.append_relations.new.text l.invariant.text c.in_ok-count.ensures.text;
      count = count_more H c.args.task.now c.args.parent.now l.n c.requires.parent l.count c.in_ok-count.field-0 l.invariant.count c.in_ok-count.ensures.count;
      few = omega (arith, l.invariant.few, c.in_ok-count.ensures.few);
    }

pub returns-clause-text : goal.returns-clause-text
returns-clause-text c =
    let H = history c.args.core.now.run in
    let cells = c.args.core.now.run.cells in
    let legal = c.history_is_legal.ensures.legal in
    let counted = children_counted cells H c.args.parent.now c.children-2.result c.unwrap_or-children.result legal c.children-2.ensures c.unwrap_or-children.ensures in
    let mine = ap (λ p. spawn_count (own p H)) c.requires.parent in
    let all : c.children.n ≡ c.unwrap_or-children.result = omega (arith, c.children-test.false, c.children.auto.n-end) in
    c.children.invariant.text ∙ ap (λ lines. c.args.text.now ++ joined lines) (whole_history cells H c.args.task.now c.children.n legal (all ∙ counted ∙ mine))

pub returns-clause-count : goal.returns-clause-count
returns-clause-count c =
    let H = history c.args.core.now.run in
    let cells = c.args.core.now.run.cells in
    let legal = c.history_is_legal.ensures.legal in
    let counted = children_counted cells H c.args.parent.now c.children-2.result c.unwrap_or-children.result legal c.children-2.ensures c.unwrap_or-children.ensures in
    let mine = ap (λ p. spawn_count (own p H)) c.requires.parent in
    let all : c.children.n ≡ c.unwrap_or-children.result = omega (arith, c.children-test.false, c.children.auto.n-end) in
    c.children.invariant.count ∙ ap length (whole_history cells H c.args.task.now c.children.n legal (all ∙ counted ∙ mine))
