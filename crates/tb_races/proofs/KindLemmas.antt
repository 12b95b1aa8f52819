-- A direct need is what has a kind.
use Rattle.std.proofs.Common.{◌≡◌, Bool, true, false, cond, ◌&&◌, ◌||◌, refl, ap, ap₂, ◌∙◌, Option, Some, None, is_some}
use Rattle.std.specs.Option.{option_or, option_map}
use Rattle.tb_model.specs.declared.action.Action.{Action}
use Rattle.tb_model.specs.declared.action.Action.TheVariants.{Start, Let, Load, Store, Print, Spawn, Wait, Open, Close, Test, End, Fault}
use Rattle.tb_model.specs.declared.event.Event.{Event}
use Rattle.tb_model.specs.Names.{Name}
use Rattle.tb_model.specs.Facts.{History, is_of, own, before, apart, covers, is_member, holds, is_end, is_print, is_store_to, touches, spawns}
use Rattle.tb_model.specs.Needs.{needs, conflicts, waits_for, needs_end_of}
use Rattle.tb_races.specs.declared.conflict.Conflict.TheVariants.{Cell, Print as Prints}
use Rattle.tb_races.specs.declared.need_kind.NeedKind.TheVariants.{Before, Apart, Wait as Waits, Group, Conflict as Conflicts, Undeferred}
use Rattle.tb_races.specs.Kinds.{some_if, shared, wait_kind, end_kind, need_kind}

test_some : {A : Type 0} (b : Bool) (x : A) → is_some (some_if b x) ≡ b
test_some true x = refl
test_some false x = refl

or_some : {A : Type 0} (o p : Option A) → is_some (option_or o p) ≡ (is_some o || is_some p)
or_some (Some x) p = refl
or_some None p = refl

map_some : {A B : Type 0} (f : A → B) (o : Option A) → is_some (option_map f o) ≡ is_some o
map_some f (Some x) = refl
map_some f None = refl

or_false : (b : Bool) → b ≡ (b || false)
or_false true = refl
or_false false = refl

shared_some : (a b : Action) → is_some (shared a b) ≡ (conflicts a b || (is_print a && is_print b))
shared_some Start b = refl
shared_some (Let r x) b = refl
shared_some (Load r c x) b = test_some (is_store_to c b) (Cell c) ∙ or_false (is_store_to c b)
shared_some (Store c x) b = test_some (touches c b) (Cell c) ∙ or_false (touches c b)
shared_some (Print x) b = test_some (is_print b) Prints
shared_some (Spawn s) b = refl
shared_some (Wait items) b = refl
shared_some Open b = refl
shared_some Close b = refl
shared_some (Test y) b = refl
shared_some End b = refl
shared_some Fault b = refl

wait_some : (H : History) (t : Name) (a : Action) (u : Name) → is_some (wait_kind H t a u) ≡ waits_for H t a u
wait_some H t Start u = or_some (some_if (before H u t) Before) (some_if (apart H u t) Apart) ∙ ap₂ (λ b c. b || c) (test_some (before H u t) Before) (test_some (apart H u t) Apart)
wait_some H t (Let r x) u = refl
wait_some H t (Load r c x) u = refl
wait_some H t (Store c x) u = refl
wait_some H t (Print x) u = refl
wait_some H t (Spawn s) u = refl
wait_some H t (Wait items) u = test_some (covers H t items u) Waits
wait_some H t Open u = refl
wait_some H t Close u = test_some (is_member (own t H) u) Group
wait_some H t (Test y) u = refl
wait_some H t End u = refl
wait_some H t Fault u = refl

or_turned : (b c : Bool) → (b || c) ≡ (c || b)
or_turned true true = refl
or_turned true false = refl
or_turned false true = refl
or_turned false false = refl

end_some : (H : History) (t : Name) (a : Action) (u : Name) → is_some (end_kind H t a u) ≡ needs_end_of H t a u
end_some H t a u =
    or_some (wait_kind H t a u) (some_if (holds (own t H) u) Undeferred)
    ∙ ap₂ (λ b c. b || c) (wait_some H t a u) (test_some (holds (own t H) u) Undeferred)
    ∙ or_turned (waits_for H t a u) (holds (own t H) u)

if_some : {A : Type 0} (b : Bool) (o : Option A) → is_some (cond b o None) ≡ (b && is_some o)
if_some true o = refl
if_some false o = refl

first_some : {A : Type 0} (b : Bool) (x : A) (o : Option A) → is_some (cond b (Some x) o) ≡ (b || is_some o)
first_some true x o = refl
first_some false x o = refl

regrouped : (c p e : Bool) → ((c || p) || e) ≡ (c || (e || p))
regrouped true p e = refl
regrouped false p e = or_turned p e

pub kind_some : (H : History) (v u : Event) → is_some (need_kind H v u) ≡ needs H v u
kind_some H v u =
    let c = conflicts v.action u.action in
    let p = is_print v.action && is_print u.action in
    let e = is_end u.action && needs_end_of H v.task v.action u.task in
    first_some (is_of v.task u) _ _
    ∙ ap (λ b. is_of v.task u || b)
    (first_some (spawns v.task u) _ _
    ∙ ap (λ b. spawns v.task u || b)
    (or_some (option_map Conflicts (shared v.action u.action)) (cond (is_end u.action) (end_kind H v.task v.action u.task) None)
    ∙ ap₂ (λ b d. b || d) (map_some Conflicts (shared v.action u.action) ∙ shared_some v.action u.action)
    (if_some (is_end u.action) (end_kind H v.task v.action u.task) ∙ ap (λ b. is_end u.action && b) (end_some H v.task v.action u.task))
    ∙ regrouped c p e))
