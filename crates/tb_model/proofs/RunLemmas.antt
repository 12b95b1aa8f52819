-- Histories that lead to one another by changes of places.
use Rattle.std.proofs.Common.{◌≡◌, [], ◌∷◌, ◌++◌, false, sym, ◌∙◌}
use Rattle.tb_model.specs.declared.event.Event.{Event}
use Rattle.tb_model.specs.Facts.{History}
use Rattle.tb_model.specs.Legal.{Cells, Legal}
use Rattle.tb_model.specs.Needs.{needs}
use Rattle.tb_model.proofs.UndoLemmas.{AreFree, moved, needs_alike}

-- changes of places of neighbours, in any number
pub data Run : History → History → Type 0 where
  same : (H : History) → Run H H
  more : (v : Event) {G H : History} → Run G H → Run (v ∷ G) (v ∷ H)
  swap : (e f : Event) (H : History) → needs (e ∷ H) f e ≡ false → Run (f ∷ e ∷ H) (e ∷ f ∷ H)
  by_way : {F G H : History} → Run F G → Run G H → Run F H

-- an event that nothing needs moves to the end
pub moved_run : (v : Event) (front : History) (cells : Cells) (b : History) → Legal cells (b ++ v ∷ front) → AreFree v front b → Run (b ++ v ∷ front) (v ∷ (b ++ front))
moved_run v front cells [] l f = same (v ∷ front)
moved_run v front cells (w ∷ b) l f =
    by_way (more w (moved_run v front cells b l.0 f.0))
    (swap v w (b ++ front) (sym (needs_alike (moved v front cells b l.0 f.0).1 w v) ∙ f.1))

-- neighbours change places after a later part
pub swap_behind : (later : History) (e f : Event) (front : History) → needs (e ∷ front) f e ≡ false → Run (later ++ f ∷ e ∷ front) (later ++ e ∷ f ∷ front)
swap_behind [] e f front n = swap e f front n
swap_behind (v ∷ later) e f front n = more v (swap_behind later e f front n)
