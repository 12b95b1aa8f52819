use Rattle.std.proofs.Common.{◌≡◌, ◌&&◌, drop}
use Rattle.std.specs.List.{list_all}
use Rattle.tb_read.specs.Text.{is_text_byte}
use Rattle.tb_runs.proofs.text.are_text.Given as goal

-- the bytes so far, and those that are left
abbrev pub invariant-loop-at : goal.invariant-loop-at
invariant-loop-at l = (l.all && list_all is_text_byte (drop l.at l.bytes)) ≡ list_all is_text_byte l.bytes
