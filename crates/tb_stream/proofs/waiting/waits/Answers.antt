use Rattle.std.proofs.Common.{ap, ◌∙◌, ◌||◌, ◌==◌, arith, ◌<◌, length}
use Rattle.tb_stream.proofs.AskLemmas.{link_by}
use Rattle.tb_stream.proofs.SeenLemmas.{id_at}
use Rattle.tb_stream.proofs.waiting.waits.Goals as goal

pub returns : goal.returns
returns c r n same now end of =
    let task = c.args.waiter.now.step.task in
    let i : c.args.end.at < length r.entries = omega (arith, end.0, now.within) in
    let id = id_at r n n task (omega arith) (omega (arith, now.within)) now.task now.within in
    let other = id_at r n c.args.end.at c.args.end.task (omega (arith, end.0)) (omega (arith, now.within)) of i in
    c.either-2.ensures
    ∙ ap (λ b. (task == c.args.end.task) || b) c.either.ensures
    ∙ link_by r n now.within c.args.end.at end i task c.args.end.task now.task of c.args.exclusion same c.args.waiter.now.action.now now.action _ _ (c.waits_for-waits.ensures r.legal.cells _ _ _ now.facts id other) (c.holds-held.ensures r.legal.cells _ _ _ now.facts id other)
