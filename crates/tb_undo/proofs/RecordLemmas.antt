-- What a step replaced is the same after the history that is left without it.
use Rattle.std.proofs.Common.{◌≡◌, ℕ, List, [], ◌∷◌, ◌++◌, Bool, true, false, cond, ◌==◌, refl, sym, ap, ap₂, ◌∙◌, subst, ℤ, Option, Some, eq-eqb, eqb-true}
use Rattle.std.proofs.lemmas.Bool.{false≢true, or_parts}
use Rattle.tb_model.specs.declared.action.Action.{Action}
use Rattle.tb_model.specs.declared.action.Action.TheVariants.{Start, Let, Load, Store, Print, Spawn, Wait, Open, Close, Test, End, Fault}
use Rattle.tb_model.specs.declared.event.Event.{Event}
use Rattle.tb_model.specs.Names.{Name}
use Rattle.tb_model.specs.Facts.{is_of, spawns, IsSpawned, is_store_to, last}
use Rattle.tb_model.specs.Legal.{Cells, Legal, first_number}
use Rattle.tb_model.specs.State.{spawn_of, called_by}
use Rattle.tb_model.specs.Lines.{Departure, events_of, line_of}
use Rattle.tb_model.specs.Records.{replaced_by, register, register_of, args_in}
use Rattle.tb_model.specs.Needs.{conflicts, step_of}
use Rattle.tb_model.specs.Reordering.{IsUnneeded}
use Rattle.tb_model.proofs.TestLemmas.{other_way}
use Rattle.tb_model.proofs.FactsLemmas.{own_other, not_again, grown}
use Rattle.tb_model.proofs.PartsLemmas.{not_stored}
use Rattle.tb_model.proofs.UndoLemmas.{AreFree, single}
use Rattle.tb_store.specs.declared.replaced.Replaced.{Replaced}
use Rattle.tb_undo.specs.Tasks.{register_by}
use Rattle.tb_undo.specs.State.{Seen}
use Rattle.tb_undo.specs.Steps.{replaced_for, Precedes}
use Rattle.tb_undo.proofs.TieLemmas.{at_end, acting, map_events}

-- an action that doesn't conflict with a store to the cell doesn't store to it
unstored : (a : Action) (c : ℕ) (x : ℤ) → conflicts a (Store c x) ≡ false → is_store_to c a ≡ false
unstored (Store d y) c x e = at (c == d) refl
  where
    at : (b : Bool) → (c == d) ≡ b → b ≡ false
    at false q = refl
    at true q = absurd (false≢true (sym e ∙ eq-eqb d c (sym (eqb-true c d q))))
unstored Start c x e = refl
unstored (Let r y) c x e = refl
unstored (Load r d y) c x e = refl
unstored (Print y) c x e = refl
unstored (Spawn s) c x e = refl
unstored (Wait items) c x e = refl
unstored Open c x e = refl
unstored Close c x e = refl
unstored (Test b) c x e = refl
unstored End c x e = refl
unstored Fault c x e = refl

-- an event that is of another task, doesn't generate it and doesn't conflict changes nothing of what is replaced
module _ (first : Cells) (root_line : ℕ) (D : List Departure) (e : Departure) (t : Name) (other : is_of t e.event ≡ false) (spawned : spawns t e.event ≡ false) where
  spawn_kept : spawn_of t (events_of (e ∷ D)) ≡ spawn_of t (events_of D)
  spawn_kept = ap (λ b. cond b (Some e.event.action) (spawn_of t (events_of D))) spawned

  register_kept : (r : ℕ) → register_of t r (events_of (e ∷ D)) ≡ register_of t r (events_of D)
  register_kept r = ap₂ (λ o acts. register r (args_in o) acts) spawn_kept (own_other t e.event (events_of D) other)

  number_kept : (a : Action) → conflicts e.event.action a ≡ false → replaced_by first (events_of (e ∷ D)) (record { task = t; action = a }) ≡ replaced_by first (events_of D) (record { task = t; action = a })
  number_kept (Store c x) n = ap Some (not_stored c e.event.action (last (first_number first c) c (events_of D)) (unstored e.event.action c x n))
  number_kept (Let r x) n = ap Some (register_kept r)
  number_kept (Load r c x) n = ap Some (register_kept r)
  number_kept Start n = refl
  number_kept (Print x) n = refl
  number_kept (Spawn s) n = refl
  number_kept (Wait items) n = refl
  number_kept Open n = refl
  number_kept Close n = refl
  number_kept (Test b) n = refl
  number_kept End n = refl
  number_kept Fault n = refl

  one_kept : (a : Action) → conflicts e.event.action a ≡ false → replaced_for first root_line (e ∷ D) (record { task = t; action = a }) ≡ replaced_for first root_line D (record { task = t; action = a })
  one_kept a n =
      ap₂ (λ (x : Option ℤ) (l : ℕ). made x l) (number_kept a n)
      (ap (λ b. cond b e.to (line_of (called_by root_line (spawn_of t (events_of (e ∷ D)))).line t D)) other
      ∙ ap (λ o. line_of (called_by root_line o).line t D) spawn_kept)
    where
      made : Option ℤ → ℕ → Replaced
      made x l = record { number = x; reg = register_by a; at = l }

kept : (first : Cells) (root_line : ℕ) (front later : List Departure) (v : Event) → Legal first (events_of (later ++ front)) → IsSpawned (events_of front) v.task → AreFree v (events_of front) (events_of later)
    → (replaced_for first root_line (later ++ front) v ≡ replaced_for first root_line front v) × IsSpawned (events_of (later ++ front)) v.task
kept first root_line front [] v l s f = (refl, s)
kept first root_line front (e ∷ later) v l s f =
    let rest = kept first root_line front later v l.0 s f.0 in
    let parts = or_parts (is_of e.event.task v) _ f.1 in
    let more = or_parts (spawns e.event.task v) _ parts.1 in
    let clash = or_parts (conflicts e.event.action v.action) _ more.1 in
    let other : is_of v.task e.event ≡ false = other_way v.task e.event.task parts.0 in
    let again = not_again first (events_of (later ++ front)) l.0 e.event l.1 v.task rest.1 in (
      one_kept first root_line (later ++ front) e v.task other again v.action clash.0 ∙ rest.0,
      grown v.task e.event (events_of (later ++ front)) rest.1,
    )

legal_front : (first : Cells) (later D : List Departure) → Legal first (events_of (later ++ D)) → Legal first (events_of D)
legal_front first [] D l = l
legal_front first (e ∷ later) D l = legal_front first later D l.0

-- what the step replaced where it was is what it replaces at the end
pub record_kept : (first : Cells) (root_line : ℕ) (later front : List Departure) (d : Departure) (r : Replaced) (s : Seen) → Precedes first root_line later front d r s
    → r ≡ replaced_for first root_line (later ++ front) d.event
record_kept first root_line later front d r s p =
    let there = map_events later (d ∷ front) in
    let unneeded = subst (IsUnneeded (step_of (events_of front) d.event)) there p.unneeded in
    let free = (single d.event (events_of front) (events_of later) unneeded).free in
    let end = at_end first root_line later front d r s p in
    let spawned = acting first (events_of front) d.event (legal_front first later (d ∷ front) p.legal) in
    p.replaced ∙ sym (kept first root_line front later d.event end.legal.0 spawned free).0
