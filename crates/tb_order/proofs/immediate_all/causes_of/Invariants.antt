use Rattle.std.proofs.Common.{◌≡◌, Some, get_or, map, take}
use Rattle.tb_steps.specs.Entries.{Entry}
use Rattle.tb_races.specs.declared.cause.Cause.{Cause}
use Rattle.tb_order.specs.Told.{told}
use Rattle.tb_order.proofs.immediate_all.causes_of.Given as goal

-- those at the indexes so far
abbrev pub invariant-loop-place : goal.invariant-loop-place
invariant-loop-place l = (v : Entry) → v ≡ get_or l.entries l.at v → map (λ (c : Cause). Some c) l.causes.items ≡ map (told (take l.at l.entries) v.event) (take l.place-index l.places)
