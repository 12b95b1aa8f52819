-- Journals of steps and rollbacks, listed from their newest entry. A seat is who asked.
use Rattle.std.specs.Prelude.{List, [], ◌∷◌, IsTrue, ◌≡◌}
use Rattle.tb_model.specs.declared.entry.Entry.{Entry}
use Rattle.tb_model.specs.declared.entry.Entry.TheVariants.{Opened, Stepped, Rolled}
use Rattle.tb_model.specs.Facts.{History}
use Rattle.tb_model.specs.Needs.{without}
use Rattle.tb_model.specs.Program.{Program, IsNext}
use Rattle.tb_model.specs.Equivalent.{stands}

-- the history that a journal leaves
abbrev pub hist : List Entry → History
hist [] = []
hist (Opened ∷ J) = []
hist (Stepped seat v ∷ J) = v ∷ hist J
hist (Rolled seat e ∷ J) = without e (hist J)

-- a journal begins with its one Opened; each event is a next one, and each step that is rolled back
-- is there
abbrev pub Sound : Program → List Entry → Type 0
Sound P [] = ⊥
Sound P (Opened ∷ J) = J ≡ []
Sound P (Stepped seat v ∷ J) = Sound P J × IsNext P (hist J) v
Sound P (Rolled seat e ∷ J) = Sound P J × IsTrue (stands e (hist J))
