use Rattle.std.proofs.Common.{◌≡◌, ◌&&◌, drop}
use Rattle.tb_model.specs.Names.{same_name}
use Rattle.tb_model.proofs.in_common.are_bytes_same.Given as goal

-- the ordinals so far, and those that are left
abbrev pub invariant-loop-i : goal.invariant-loop-i
invariant-loop-i g l = (l.same && same_name (drop l.i l.a) (drop l.i l.b)) ≡ same_name l.a l.b
