use Rattle.std.proofs.Common.{◌∙◌, sym}
use Rattle.tb_cause.specs.Keys.{Within}
use Rattle.tb_cause.proofs.giving.give.Goals as goal

-- what is put before has no end
pub give_over-requires : goal.give_over-requires
give_over-requires c q m w h =
    c.in_ok-give_action.ensures (Within q) ∙ c.in_ok-give_own.ensures (Within q) ∙ c.requires.upward q m w (sym (c.in_ok-give_action.ensures (Within m) ∙ c.in_ok-give_own.ensures (Within m)) ∙ h)
