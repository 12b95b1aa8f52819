use Rattle.std.proofs.Common.{◌≡◌, ◌++◌, length}
use Rattle.tb_model.specs.Spelling.{levels_text}
use Rattle.tb_draft.proofs.short_text.ShortText.prepend_fours.Given as goal

-- the levels that are left and those so far are all of them
abbrev pub invariant-fours : goal.invariant-fours
invariant-fours l = levels_text l.left ++ l.self ≡ levels_text l.numbers ++ l.fn.self

abbrev pub decreases-fours : goal.decreases-fours
decreases-fours l = length l.left
