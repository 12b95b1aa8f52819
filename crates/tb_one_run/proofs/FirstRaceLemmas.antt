-- The first race that isn't apart: both its tasks can step next.
use Rattle.std.proofs.Common.{◌≡◌, true, ◌∷◌, ◌++◌, refl, sym, subst}
use Rattle.std.proofs.lemmas.Bool.{or_left}
use Rattle.tb_model.specs.declared.event.Event.{Event}
use Rattle.tb_model.specs.Facts.{History}
use Rattle.tb_model.specs.Program.{Program, LegalFor}
use Rattle.tb_races.specs.Orders.{WithExclusion, ComesAfter, directly, links}
use Rattle.tb_races.specs.Racing.{IsRace, unordered}
use Rattle.tb_one_run.specs.Outcomes.{HasRace, is_in_front, leading, as_read, IsReal}
use Rattle.tb_one_run.specs.Behaviours.{Behaviour, IsRunOf, IsRealOf}
use Rattle.tb_one_run.proofs.BehaviourLemmas.{of_program, to_run, from_run, from_next}
use Rattle.tb_one_run.proofs.FrontLemmas.{after_front}
use Rattle.tb_one_run.proofs.TransferLemmas.{conflict_parts}
use Rattle.tb_one_run.proofs.RealLemmas.{keep, kept_run, earlier_next}
use Rattle.tb_one_run.proofs.LaterLemmas.{later_next}

-- with f and any e with which it has such a race
pub first_real_of : (B : Behaviour) (f e : Event) (F E : History) → IsRunOf B (f ∷ F) → IsRace WithExclusion (f ∷ F) (e ∷ E) → (HasRace WithExclusion F → ⊥) → IsRealOf B (leading WithExclusion (f ∷ F) (e ∷ E) F) e f
first_real_of B f e F E l (unordered o v u m front shares both not) free =
    let below : IsRunOf B F = (l.0.0, l.1.0) in
    let keeps : (k : History) (x : Event) (X : History) → F ≡ k ++ x ∷ X → links WithExclusion F f x ≡ true → keep B f F e E m refl not below free (x ∷ X) ≡ true =
    λ k x X q h.
    or_left (is_in_front WithExclusion (f ∷ F) (x ∷ X)) _
    (after_front WithExclusion f F x X (subst (λ G. ComesAfter WithExclusion (f ∷ G) (x ∷ X)) (sym q) (directly WithExclusion f x k X (subst (λ G. links WithExclusion G f x ≡ true) q h))))
    in
    record {
      run = kept_run B f F e E m refl not below free;
      earlier = earlier_next B f F e E m refl not below free;
      later = later_next B (keep B f F e E m refl not below free) f F e.action shares (conflict_parts f e shares both).1 l keeps;
    }

-- the first race of a program's run is real
pub first_real : (P : Program) (f e : Event) (F E : History) → LegalFor P (f ∷ F) → IsRace WithExclusion (f ∷ F) (e ∷ E) → (HasRace WithExclusion F → ⊥) → IsReal P (leading WithExclusion (f ∷ F) (e ∷ E) F) e f
first_real P f e F E l r free =
    let G = leading WithExclusion (f ∷ F) (e ∷ E) F in
    let real = first_real_of (of_program P) f e F E (to_run P (f ∷ F) l) r free in
    record { run = from_run P G real.run; earlier = from_next P G e real.earlier; later = from_next P G (as_read P G f) real.later }
