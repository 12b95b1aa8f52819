-- What changing the places of independent steps leaves, in whole.
use Rattle.std.proofs.Common.{◌≡◌, ◌∷◌, ◌++◌, false}
use Rattle.tb_model.specs.declared.event.Event.{Event}
use Rattle.tb_model.specs.Facts.{History}
use Rattle.tb_model.specs.Legal.{Cells, Legal}
use Rattle.tb_model.specs.Needs.{needs, step_of, without}
use Rattle.tb_model.specs.Program.{Program, LegalFor, IsNext}
use Rattle.tb_model.specs.Reordering.{IsReordering, IsReorderingFor, IsUnneeded}
use Rattle.tb_model.proofs.UndoLemmas.{single}
use Rattle.tb_model.proofs.RunLemmas.{Run, moved_run, swap_behind}
use Rattle.tb_model.proofs.NeedsLemmas.{run_same, run_equivalent}
use Rattle.tb_model.proofs.ForProgramLemmas.{run_for}

reordered : (cells : Cells) {G H : History} → Legal cells G → Run G H → IsReordering cells G H
reordered cells l r =
    let s = run_same cells l r in record { legal = s.legal; alike = s.alike; equivalent = run_equivalent cells l r }

reordered_for : (P : Program) {G H : History} → LegalFor P G → Run G H → IsReorderingFor P G H
reordered_for P l r =
    let s = run_same P.cells l.0 r in record { legal = run_for P l r; alike = s.alike; equivalent = run_equivalent P.cells l.0 r }

-- two neighbours change places
pub neighbours : (cells : Cells) (later front : History) (e f : Event) → Legal cells (later ++ f ∷ e ∷ front) → needs (e ∷ front) f e ≡ false → IsReordering cells (later ++ f ∷ e ∷ front) (later ++ e ∷ f ∷ front)
neighbours cells later front e f l n = reordered cells l (swap_behind later e f front n)

-- two neighbours change places in a program's run
pub neighbours_for : (P : Program) (later front : History) (e f : Event) → LegalFor P (later ++ f ∷ e ∷ front) → needs (e ∷ front) f e ≡ false → IsReorderingFor P (later ++ f ∷ e ∷ front) (later ++ e ∷ f ∷ front)
neighbours_for P later front e f l n = reordered_for P l (swap_behind later e f front n)

-- a step that nothing needs is undone, and executed again at the end
module _ (later front : History) (v : Event) (h : IsUnneeded (step_of front v) (later ++ v ∷ front)) where
  -- the undo leaves all else
  pub undone : without (step_of front v) (later ++ v ∷ front) ≡ later ++ front
  undone = (single v front later h).left

  -- executed again, the history is another order of what it was
  pub again : (cells : Cells) → Legal cells (later ++ v ∷ front) → IsReordering cells (later ++ v ∷ front) (v ∷ (later ++ front))
  again cells l = reordered cells l (moved_run v front cells later l (single v front later h).free)

  -- also for a program
  pub again_for : (P : Program) → LegalFor P (later ++ v ∷ front) → IsReorderingFor P (later ++ v ∷ front) (v ∷ (later ++ front))
  again_for P l = reordered_for P l (moved_run v front P.cells later l.0 (single v front later h).free)

  -- whose next event it is
  pub next_again : (P : Program) → LegalFor P (later ++ v ∷ front) → IsNext P (later ++ front) v
  next_again P l = let r = again_for P l in record { may = r.legal.0.1; follows = r.legal.1.1 }
