use Rattle.std.proofs.Common.{◌≡◌, vec_len}
use Rattle.tb_work.proofs.places.Places.after.Given as goal

abbrev pub invariant-loop-slot : goal.invariant-loop-slot
invariant-loop-slot l = vec_len l.cells ≡ l._slot
