-- Whether all tasks are over, by the least one that isn't.
use Rattle.std.proofs.Common.{◌≡◌, ◌↔◌, Bool, true, false, refl, ap₂, ◌∙◌, sym, subst, ◌&&◌, Option, Some, None, not, is_none, is_some, option_copied, IsTrue, Bor}
use Rattle.std.specs.List.{list_any}
use Rattle.std.proofs.lemmas.Bool.{false≢true, both_ways}
use Rattle.std.proofs.lemmas.Option.{none-some}
use Rattle.tb_model.specs.Facts.{History, is_spawned, ends}
use Rattle.tb_model.specs.LeastNames.{IsLeastName}
use Rattle.tb_model.specs.Names.{Name}
use Rattle.tb_undo.specs.Readings.{IsUnendedBehind}

unended_parts : (there over : Bool) → (there && not over) ≡ true → (there ≡ true) × (over ≡ false)
unended_parts true false is = (refl, refl)
unended_parts true true is = absurd (false≢true is)
unended_parts false over is = absurd (false≢true is)

-- where no task is unended, each that is there is over
pub none_left : (H : History) (o : Option Name) → IsLeastName (IsUnendedBehind H None) o → is_none o ≡ true → (t : Name) → is_spawned H t ≡ true → list_any (ends t) H ≡ true
none_left H (Some u) least is t there = absurd (false≢true is)
none_left H None least is t there = at (list_any (ends t) H) refl
  where
    at : (over : Bool) → list_any (ends t) H ≡ over → list_any (ends t) H ≡ true
    at true is = is
    at false is =
        let first = least.least t (record { unended = ap₂ (λ a b. a && not b) there is; behind = tt }) in
        absurd (none-some first.0 first.1)

pub all_over : (H : History) (o : Option Name) → IsLeastName (IsUnendedBehind H None) o → ((t : Name) → is_spawned H t ≡ true → list_any (ends t) H ≡ true) → is_none o ≡ true
all_over H None least over = refl
all_over H (Some u) least over =
    let parts = unended_parts (is_spawned H u) (list_any (ends u) H) (least.found u refl).unended in
    absurd (both_ways (list_any (ends u) H) parts.1 (over u parts.0))

-- no reference is left exactly where none is answered
none_of : (o : Option (Bor Name)) (r : Bool) → is_some o ≡ not r → is_none (option_copied o) ≡ r
none_of None true is = refl
none_of None false is = absurd (false≢true is)
none_of (Some u) true is = absurd (false≢true (sym is))
none_of (Some u) false is = refl

-- the answer says whether all are over
pub tells_over : (H K : History) (o : Option (Bor Name)) (r : Bool) → H ≡ K → IsLeastName (IsUnendedBehind H None) (option_copied o) → is_some o ≡ not r
    → (IsTrue r ↔ ((t : Name) → IsTrue (is_spawned K t) → IsTrue (list_any (ends t) K)))
tells_over H K o r same least is =
    subst (λ (L : History). IsTrue r ↔ ((t : Name) → IsTrue (is_spawned L t) → IsTrue (list_any (ends t) L))) same
    ((λ yes. none_left H (option_copied o) least (none_of o r is ∙ yes)), (λ over. sym (none_of o r is) ∙ all_over H (option_copied o) least over))
