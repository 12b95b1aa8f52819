use Rattle.std.proofs.Common.{◌≡◌, ◌≤◌, ◌-◌}
use Rattle.tb_replies.specs.Bodies.{line_from, body_line}
use Rattle.tb_replies.proofs.breaking.body_line.Given as goal

-- no line so far begins the body
abbrev pub invariant-lines : goal.invariant-lines
invariant-lines l = record {
  within : l.line ≤ l.count;
  rest : line_from (l.count - l.line) l.line l.name l.program.bodies ≡ body_line l.name l.program;
}

abbrev pub decreases-lines : goal.decreases-lines
decreases-lines l = l.count - l.line
