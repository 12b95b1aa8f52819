use Rattle.std.proofs.Common.{◌≤◌, ◌∙◌, arith, rules, refl, ap, slice_get}
use Rattle.tb_core.specs.Outcomes.{event_for}
use Rattle.tb_core.specs.Seen.{Held, history}
use Rattle.tb_next.proofs.ComingLemmas.{few_steps, may_go}
use Rattle.tb_live.proofs.EnteringLemmas.{full_enters, memory_enters, taken_enters, no_place, some_place}
use Rattle.tb_live.proofs.PreparedLemmas.{room_stays}
use Rattle.tb_live.proofs.stepping.enter_clear.Goals as goal

pub returns-then-limit-len-clause-entered : goal.returns-then-limit-len-clause-entered
returns-then-limit-len-clause-entered c p says current =
    full_enters c.args.limit c.args.seat c.args.core.now.run c.args.task c.args.coming p c.args.journal.now.items c.args.control.now says current c.requires.clear.clear (no_place c.args.limit c.args.journal.now.items (search rules))

pub returns-then-is_err-clause-entered : goal.returns-then-is_err-clause-entered
returns-then-is_err-clause-entered c p says current =
    memory_enters c.args.limit c.args.seat c.args.core.now.run c.args.core.now.run c.args.task c.args.coming p c.args.journal.now.items c.reserve.new.self.items c.args.control.now c.args.control.now says c.requires.clear.clear refl (search rules) refl (some_place c.args.limit c.args.journal.now.items (search rules))

pub take-requires-clause-may : goal.take-requires-clause-may
take-requires-clause-may c =
    may_go c.args.core.now.run c.args.task c.args.coming c.requires.clear.next c.requires.clear.clear (search rules)

pub overflow_add-result : goal.overflow_add-result
overflow_add-result c =
    let few = few_steps c.args.core.now.run c.args.task c.args.coming c.requires.clear.next in
    omega (arith, few)

pub returns-in-Ok-clause-entered : goal.returns-in-Ok-clause-entered
returns-in-Ok-clause-entered c p says current =
    let run = c.args.core.now.run in
    let taken = c.in-Ok.ensures.ok.taken in
    let newest = ap (λ r. slice_get (history r) 0) taken.now in
    taken_enters c.args.limit c.args.seat run c.args.task c.args.coming p c.take.new.core.run (event_for run c.args.task c.args.coming.action) c.args.journal.now.items c.take.new.journal.items c.args.control.now c.follow.new.control _ says current (search rules)
    taken (search rules) (some_place c.args.limit c.args.journal.now.items (search rules)) (c.follow.ensures _ newest) refl

pub returns-in-Err-clause-entered : goal.returns-in-Err-clause-entered
returns-in-Err-clause-entered c p says current =
    memory_enters c.args.limit c.args.seat c.args.core.now.run c.take.new.core.run c.args.task c.args.coming p c.args.journal.now.items c.take.new.journal.items c.args.control.now c.args.control.now says c.requires.clear.clear (ap (λ (h : Held). h.run) c.in-Err.ensures.err.0) (search rules) refl (some_place c.args.limit c.args.journal.now.items (search rules))

pub returns-then-is_err-clause-serves : goal.returns-then-is_err-clause-serves
returns-then-is_err-clause-serves c P room =
    room_stays c.args.limit P c.args.core.now c.args.core.now c.args.journal.now.items c.reserve.new.self.items c.args.journal.now.room c.reserve.new.self.room c.args.prepared.now c.args.prepared.now refl c.reserve.ensures.items c.reserve.ensures.kept refl room

pub returns-in-Err-clause-serves : goal.returns-in-Err-clause-serves
returns-in-Err-clause-serves c P room =
    let e = c.in-Err.ensures.err in
    let more : c.args.journal.now.room ≤ c.take.new.journal.room = omega (arith, e.2, c.reserve.ensures.kept) in
    room_stays c.args.limit P c.args.core.now c.take.new.core c.args.journal.now.items c.take.new.journal.items c.args.journal.now.room c.take.new.journal.room c.args.prepared.now c.args.prepared.now e.0 (e.1 ∙ c.reserve.ensures.items) more refl room
