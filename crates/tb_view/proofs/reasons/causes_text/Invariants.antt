use Rattle.std.proofs.Common.{◌≡◌, ◌++◌, drop}
use Rattle.tb_steps.specs.Scans.{history_of}
use Rattle.tb_view.specs.Reasons.{cause_lines, causes_text}
use Rattle.tb_view.proofs.reasons.causes_text.Given as goal

-- the text so far, and the lines of the needs that are left, are the whole text
abbrev pub invariant-causes : goal.invariant-causes
invariant-causes l = l.text ++ cause_lines l.program (history_of l.entries) (drop l.cause-index l.causes) ≡ causes_text l.program (history_of l.entries) l.causes
