-- A step that nothing needs is taken out of the stored steps, wherever it is.
use Rattle.std.proofs.Common.{◌≡◌, ℕ, List, [], ◌∷◌, ◌++◌, map, refl, sym, ap, ◌∙◌}
use Rattle.tb_model.specs.Legal.{Cells}
use Rattle.tb_model.specs.Lines.{events_of}
use Rattle.tb_model.proofs.UndoLemmas.{AreFree}
use Rattle.tb_undo.specs.Steps.{replaced_for}
use Rattle.tb_undo.proofs.MiddleLemmas.{record_left}
use Rattle.tb_steps.specs.Entries.{Entry, departure}
use Rattle.tb_core.specs.Packing.{replaced_in}
use Rattle.tb_core.specs.Soundness.{AreRecords}

pub departures_append : (xs ys : List Entry) → map departure (xs ++ ys) ≡ map departure xs ++ map departure ys
departures_append [] ys = refl
departures_append (e ∷ xs) ys = ap (λ D. departure e ∷ D) (departures_append xs ys)

-- the records of what is left are right
pub records_left : (first : Cells) (root_line : ℕ) (later front : List Entry) (e : Entry) → AreRecords first root_line (later ++ e ∷ front)
    → AreFree e.event (events_of (map departure front)) (events_of (map departure later)) → AreRecords first root_line (later ++ front)
records_left first root_line [] front e r f = r.0
records_left first root_line (w ∷ later) front e r f = (
  records_left first root_line later front e r.0 f.0,
  r.1 ∙ ap (λ D. replaced_for first root_line D w.event) (departures_append later (e ∷ front))
      ∙ record_left (departure e) (map departure front) first root_line (map departure later) w.event f
      ∙ ap (λ D. replaced_for first root_line D w.event) (sym (departures_append later front)),
)

-- the record of the step itself is right
pub record_at : (first : Cells) (root_line : ℕ) (later front : List Entry) (e : Entry) → AreRecords first root_line (later ++ e ∷ front)
    → replaced_in e ≡ replaced_for first root_line (map departure front) e.event
record_at first root_line [] front e r = r.1
record_at first root_line (w ∷ later) front e r = record_at first root_line later front e r.0
