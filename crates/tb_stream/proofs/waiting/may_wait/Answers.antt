use Rattle.std.proofs.Common.{sym, ◌∙◌, arith}
use Rattle.std.proofs.lemmas.Bool.{or_parts}
use Rattle.tb_stream.proofs.AskLemmas.{waits_none}
use Rattle.tb_stream.specs.Seen.{front}
use Rattle.tb_stream.proofs.SeenLemmas.{id_at}
use Rattle.tb_stream.proofs.waiting.may_wait.Goals as goal

pub returns : goal.returns
returns c free r n now x l over link =
    let parts = or_parts c.waits_by_itself-waits.result c.is_held.result (sym c.either.ensures ∙ free) in
    let id = id_at r n n c.args.task (omega arith) (omega (arith, now.within)) now.task now.within in
    waits_none r n now.within x (l, over) (omega (arith, l, now.within)) c.args.action.now now.action (λ t u. c.waits_by_itself-waits.ensures parts.0 (front r n) t u) (c.items.ensures r.legal.cells _ _ now.facts id) (sym (c.is_held.ensures r.legal.cells _ _ now.facts id) ∙ parts.1) link
