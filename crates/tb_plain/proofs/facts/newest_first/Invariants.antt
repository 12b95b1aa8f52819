use Rattle.std.proofs.Common.{◌≡◌, reverse, take}
use Rattle.tb_plain.proofs.facts.newest_first.Given as goal

abbrev pub invariant-loop-event : goal.invariant-loop-event
invariant-loop-event l = l.history.items ≡ reverse (take l.event-index l.events)
