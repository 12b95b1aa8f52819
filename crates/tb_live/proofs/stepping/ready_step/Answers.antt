use Rattle.std.proofs.Common.{◌<◌, arith, length, rules, refl}
use Rattle.tb_live.specs.Entering.{has_no_place}
use Rattle.tb_live.proofs.CommitLemmas.{open_full, open_wants, refusal_from, refuses_from}
use Rattle.tb_live.proofs.EnteringLemmas.{no_place, some_place}
use Rattle.tb_live.proofs.PreparedLemmas.{room_stays}
use Rattle.tb_live.proofs.stepping.ready_step.Goals as goal

pub returns-then-limit-len-clause-refused : goal.returns-then-limit-len-clause-refused
returns-then-limit-len-clause-refused c =
    let full = no_place c.args.limit c.args.journal.now.items (search rules) in
    refusal_from c.args.core.now.run c.args.plan.now (has_no_place c.args.limit c.args.journal.now.items) c.refusal.result _ _ c.unwrap_or.ensures c.refusal.ensures.some c.refusal.ensures.none (λ z. full) (λ o. open_full c.args.core.now.run c.args.plan.now _ o full)

pub returns-then-is_err-clause-refused : goal.returns-then-is_err-clause-refused
returns-then-is_err-clause-refused c =
    let short : length c.args.journal.now.items < c.args.limit = search rules in
    let room = some_place c.args.limit c.args.journal.now.items short in
    refusal_from c.args.core.now.run c.args.plan.now (has_no_place c.args.limit c.args.journal.now.items) c.refusal-then-is_err.result _ _ c.unwrap_or-then-is_err.ensures c.refusal-then-is_err.ensures.some c.refusal-then-is_err.ensures.none (λ z. absurd (omega (arith, short, c.requires.limit, c.requires.shorter, z))) (λ o. open_wants c.args.core.now.run c.args.plan.now _ o room)

pub returns-then-is_err-clause-serves : goal.returns-then-is_err-clause-serves
returns-then-is_err-clause-serves c P room = room_stays c.args.limit P c.args.core.now c.args.core.now c.args.journal.now.items c.reserve.new.self.items c.args.journal.now.room c.reserve.new.self.room c.args.prepared.now c.args.prepared.now refl c.reserve.ensures.items c.reserve.ensures.kept refl room

pub returns-in-Err-clause-serves : goal.returns-in-Err-clause-serves
returns-in-Err-clause-serves c P room = room_stays c.args.limit P c.args.core.now c.reserve_step.new.self c.args.journal.now.items c.reserve.new.self.items c.args.journal.now.room c.reserve.new.self.room c.args.prepared.now c.args.prepared.now c.in-Err.ensures.err c.reserve.ensures.items c.reserve.ensures.kept refl room

pub returns-in-Err-clause-refused : goal.returns-in-Err-clause-refused
returns-in-Err-clause-refused c =
    let short : length c.args.journal.now.items < c.args.limit = search rules in
    refuses_from c.args.core.now.run c.args.plan.now _ c.in-Err.refusal (some_place c.args.limit c.args.journal.now.items short) (λ z. omega (arith, short, c.requires.limit, c.requires.shorter, z)) c.in-Err.ensures.refused
