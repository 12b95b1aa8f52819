use Rattle.std.proofs.Common.{◌≡◌, map, drop}
use Rattle.tb_read.specs.Bodies.{named, name_at}
use Rattle.tb_read.proofs.program.Program.body_name.Given as goal

-- the bodies that are left have the name that all have
abbrev pub invariant-loop-body : goal.invariant-loop-body
invariant-loop-body l = name_at l.line (map named (drop l.body-index l.body-items)) ≡ name_at l.line l.self.bodies
