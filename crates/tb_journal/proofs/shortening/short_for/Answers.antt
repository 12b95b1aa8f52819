use Rattle.tb_journal.proofs.shortening.short_for.Goals as goal

pub returns : goal.returns
returns c = c.short_action-compact.ensures.stands c.args.task
