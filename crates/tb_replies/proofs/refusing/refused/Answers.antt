use Rattle.std.proofs.Common.{append_assoc, ◌∙◌}
use Rattle.tb_replies.proofs.refusing.refused.Goals as goal

pub returns : goal.returns
returns c = c.of.ensures ∙ c.in_ok-text.ensures.ok ∙ simp append_assoc
