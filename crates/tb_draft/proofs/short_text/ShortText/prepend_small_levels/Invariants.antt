use Rattle.std.proofs.Common.{◌≡◌, ◌++◌, drop}
use Rattle.tb_model.specs.Spelling.{levels_text}
use Rattle.tb_draft.proofs.short_text.ShortText.prepend_small_levels.Given as goal

-- the levels that are left and those so far are all of them
abbrev pub invariant-levels : goal.invariant-levels
invariant-levels l = levels_text (drop l.n-index l.others) ++ l.self ≡ levels_text l.numbers ++ l.fn.self
