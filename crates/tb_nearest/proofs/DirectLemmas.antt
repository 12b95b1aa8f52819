-- What needs an event nearest needs it directly.
use Rattle.std.proofs.Common.{◌≡◌, ◌++◌, ◌∷◌, true, sym, subst}
use Rattle.std.proofs.lemmas.Bool.{or_left, or_right}
use Rattle.tb_model.specs.declared.action.Action.{Action}
use Rattle.tb_model.specs.declared.action.Action.TheVariants.{Start, Wait, Close}
use Rattle.tb_model.specs.declared.event.Event.{Event}
use Rattle.tb_model.specs.Names.{Name}
use Rattle.tb_model.specs.Facts.{History, own, holds}
use Rattle.tb_model.specs.Needs.{needs, waits_for, needs_end_of}
use Rattle.tb_nearest.specs.Nearest.{Nearest, next, first, touch, print, start, wait, close, resume}
use Rattle.tb_nearest.proofs.WayLemmas.{needs_own, needs_spawn, needs_conflict, needs_end, needs_print}

-- an action that waits for the end of a task needs it
pub by_waiting : (H : History) (t : Name) (a b : Action) (u : Name) → a ≡ b → waits_for H t b u ≡ true → needs_end_of H t a u ≡ true
by_waiting H t a b u e h = or_right (holds (own t H) u) _ (subst (λ c. waits_for H t c u ≡ true) (sym e) h)

pub nearest_needs : (v u : Event) (between front : History) → Nearest v u between front → needs (between ++ u ∷ front) v u ≡ true
nearest_needs v u between front (next o n) = needs_own _ v u o
nearest_needs v u between front (first s n) = needs_spawn _ v u s
nearest_needs v u between front (touch c h i j n) = needs_conflict _ v u h
nearest_needs v u between front (print p q n) = needs_print _ v u p q
nearest_needs v u between front (start e a b n) = needs_end _ v u e (by_waiting (between ++ u ∷ front) v.task v.action Start u.task a b)
nearest_needs v u between front (wait items e a c n) = needs_end _ v u e (by_waiting (between ++ u ∷ front) v.task v.action (Wait items) u.task a c)
nearest_needs v u between front (close e a m n) = needs_end _ v u e (by_waiting (between ++ u ∷ front) v.task v.action Close u.task a m)
nearest_needs v u between front (resume e h) = needs_end _ v u e (or_left (holds (own v.task (between ++ u ∷ front)) u.task) _ h)
