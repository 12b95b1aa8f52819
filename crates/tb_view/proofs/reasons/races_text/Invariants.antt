use Rattle.std.proofs.Common.{◌≡◌, ◌++◌, drop}
use Rattle.tb_draft.specs.Races.{race_lines, races_text}
use Rattle.tb_view.proofs.reasons.races_text.Given as goal

-- the text so far, and the lines of the races that are left, are the whole text
abbrev pub invariant-races : goal.invariant-races
invariant-races l = l.text ++ race_lines (drop l.race-index l.races) ≡ races_text l.races
