use Rattle.std.proofs.Common.{sym, ap, ◌∙◌, subst, cond, arith}
use Rattle.tb_clocks.specs.Known.{parent_of}
use Rattle.tb_stream.specs.Seen.{IsId}
use Rattle.tb_stream.proofs.SeenLemmas.{id_at, id_whole, same_entry}
use Rattle.tb_stream.proofs.waiting.whose_children.Goals as goal

pub returns-then-is_start : goal.returns-then-is_start
returns-then-is_start c r n now v g =
    let id = id_at r n n c.args.task (omega arith) (omega (arith, now.within)) now.task now.within in
    subst (IsId r c.parent.result)
    (ap (λ t. parent_of t) (same_entry r n now.within v g) ∙ sym (ap (λ b. cond b (parent_of v.event.task) v.event.task) (sym c.is_start.ensures ∙ c.if-is_start.true)))
    (id_whole r n c.parent.result _ (omega (arith, now.within)) (c.parent.ensures r.legal.cells _ _ now.facts id))

pub returns-else-is_start : goal.returns-else-is_start
returns-else-is_start c r n now v g =
    subst (IsId r c.args.task) (sym (ap (λ b. cond b (parent_of v.event.task) v.event.task) (sym c.is_start.ensures ∙ c.if-is_start.false))) (now.task v g)
