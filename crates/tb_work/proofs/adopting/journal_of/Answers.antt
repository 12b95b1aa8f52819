use Rattle.std.proofs.Common.{length, reverse, ap, sym, ◌∙◌}
use Rattle.std.proofs.lemmas.List.{length-reverse, reverse-reverse}
use Rattle.tb_work.proofs.adopting.journal_of.Goals as goal

pub returns-clause-entries : goal.returns-clause-entries
returns-clause-entries c = sym (reverse-reverse c.journal.result.now.items) ∙ ap reverse c.journal.ensures

pub returns-clause-length : goal.returns-clause-length
returns-clause-length c = sym (length-reverse c.journal.result.now.items) ∙ ap length c.journal.ensures
