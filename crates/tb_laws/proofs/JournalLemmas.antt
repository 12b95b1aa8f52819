-- A sound journal's history is legal.
use Rattle.std.proofs.Common.{List, [], ◌∷◌}
use Rattle.tb_model.specs.Program.{Program, LegalFor}
use Rattle.tb_model.specs.declared.entry.Entry.{Entry}
use Rattle.tb_model.specs.declared.entry.Entry.TheVariants.{Opened, Stepped, Rolled}
use Rattle.tb_model.specs.Journal.{hist, Sound}
use Rattle.tb_model.proofs.NextLemmas.{removal_for}

-- each entry leaves the history legal
pub journal_legal : (P : Program) (J : List Entry) → Sound P J → LegalFor P (hist J)
journal_legal P [] s = absurd s
journal_legal P (Opened ∷ J) s = (tt, tt)
journal_legal P (Stepped seat v ∷ J) s = let l = journal_legal P J s.0 in ((l.0, s.1.may), (l.1, s.1.follows))
journal_legal P (Rolled seat e ∷ J) s = removal_for P e (hist J) (journal_legal P J s.0)
