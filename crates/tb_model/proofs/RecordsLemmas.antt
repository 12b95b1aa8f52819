-- A record made in one context is right in another.
use Rattle.std.proofs.Common.{◌∷◌, Bool, ◌==◌, eqb-true, ◌≡◌, ℕ, true, false, cond, refl, sym, ap, ap₂, ◌∙◌, Some}
use Rattle.std.specs.List.{list_any}
use Rattle.std.proofs.lemmas.Bool.{or_parts, false≢true}
use Rattle.tb_model.specs.declared.action.Action.{Action}
use Rattle.tb_model.specs.declared.action.Action.TheVariants.{Let, Load, Store}
use Rattle.tb_model.specs.declared.event.Event.{Event}
use Rattle.tb_model.specs.Names.{Name}
use Rattle.tb_model.specs.Facts.{History, own, last, stored_or, is_of, spawns, is_store_to, touches}
use Rattle.tb_model.specs.State.{spawn_of, spawn_or}
use Rattle.tb_model.specs.Legal.{Cells, first_number}
use Rattle.tb_model.specs.declared.step_id.StepId.{StepId}
use Rattle.tb_model.specs.Needs.{needs, is_step, removed, is_removed, without}
use Rattle.tb_model.specs.Records.{args_in, register, register_of, replaced_by, cell_back, register_back}
use Rattle.tb_model.proofs.TestLemmas.{none_weaker}
use Rattle.tb_model.proofs.PartsLemmas as parts
use Rattle.tb_model.proofs.PartsLemmas.{Parts, own_same, last_same}
use Rattle.tb_model.proofs.RemovalLemmas.{event, needs_own, needs_spawn, needs_cell, in_parts}
use Rattle.tb_model.proofs.PartsLemmas.{stores_to}

-- where no event that goes generates t, what generated it is the same
pub spawn_same : (t : Name) {H K R : History} → Parts H K R → list_any (spawns t) R ≡ false → spawn_of t K ≡ spawn_of t H
spawn_same t parts.none n = refl
spawn_same t (parts.stays {x = v} s) n = ap (spawn_or t v.action) (spawn_same t s n)
spawn_same t (parts.goes {x = v} {xs = H} {rs = R} s) n =
    let o = or_parts (spawns t v) (list_any (spawns t) R) n in
    spawn_same t s o.1 ∙ sym (ap (λ b. cond b (Some v.action) (spawn_of t H)) o.0)

touches_stored : (c : ℕ) (b : Action) → is_store_to c b ≡ true → touches c b ≡ true
touches_stored c (Store d x) h = h
touches_stored c (Load r d x) h = absurd (false≢true h)
touches_stored c _ h = h

stays_at : (cells : Cells) (t : Name) (a : Action) {H K R : History} → Parts H K R → list_any (needs H (event t a)) R ≡ false → replaced_by cells K (event t a) ≡ replaced_by cells H (event t a)
stays_at cells t (Store c x) {H} {K} {R} s n =
    ap Some (last_same (first_number cells c) c s (none_weaker (stores_to c) (needs H (event t (Store c x))) (λ u h. needs_cell H t (Store c x) u (touches_stored c u.action h)) R n))
stays_at cells t (Let r x) {H} {K} {R} s n =
    ap₂ (λ o acts. Some (register r (args_in o) acts)) (spawn_same t s (none_weaker (spawns t) (needs H (event t (Let r x))) (needs_spawn H t (Let r x)) R n)) (own_same t s (none_weaker (is_of t) (needs H (event t (Let r x))) (needs_own H t (Let r x)) R n))
stays_at cells t (Load r c x) {H} {K} {R} s n =
    ap₂ (λ o acts. Some (register r (args_in o) acts)) (spawn_same t s (none_weaker (spawns t) (needs H (event t (Load r c x))) (needs_spawn H t (Load r c x)) R n)) (own_same t s (none_weaker (is_of t) (needs H (event t (Load r c x))) (needs_own H t (Load r c x)) R n))
stays_at cells t _ s n = refl

-- where v stays, its record is right in what is left
pub record_stays : (cells : Cells) (e : StepId) (H : History) (v : Event) → is_removed e H v ≡ false → replaced_by cells (without e H) v ≡ replaced_by cells H v
record_stays cells e H v g =
    stays_at cells v.task v.action (in_parts e H) (or_parts (is_step e H v) (list_any (needs H v) (removed e H)) g).1

-- ---- a record takes its step back

-- a store's record gives the cell its former value back
pub cell_taken_back : (cells : Cells) (H : History) (v : Event) (c : ℕ) → cell_back v.action (replaced_by cells H v) c (last (first_number cells c) c (v ∷ H)) ≡ last (first_number cells c) c H
cell_taken_back cells H v c = at v.task v.action
  where
    at : (t : Name) (a : Action) → cell_back a (replaced_by cells H (record { task = t; action = a })) c (stored_or c a (last (first_number cells c) c H)) ≡ last (first_number cells c) c H
    at t (Store d x) = same (c == d) refl
      where
        same : (b : Bool) → (c == d) ≡ b → cond b (last (first_number cells d) d H) (cond b x (last (first_number cells c) c H)) ≡ last (first_number cells c) c H
        same true q = ap (λ k. last (first_number cells k) k H) (sym (eqb-true c d q))
        same false q = refl
    at t (Let r x) = refl
    at t (Load r d x) = refl
    at t _ = refl

-- a `let`'s or a `load`'s its register
pub register_taken_back : (cells : Cells) (H : History) (v : Event) (r : ℕ) → register_back v.action (replaced_by cells H v) r (register r (args_in (spawn_of v.task H)) (v.action ∷ own v.task H)) ≡ register_of v.task r H
register_taken_back cells H v r = at v.task v.action
  where
    at : (t : Name) (a : Action) → register_back a (replaced_by cells H (record { task = t; action = a })) r (register r (args_in (spawn_of t H)) (a ∷ own t H)) ≡ register_of t r H
    at t (Let k x) = same (r == k) refl
      where
        same : (b : Bool) → (r == k) ≡ b → cond b (register_of t k H) (cond b x (register_of t r H)) ≡ register_of t r H
        same true q = ap (λ i. register_of t i H) (sym (eqb-true r k q))
        same false q = refl
    at t (Load k c x) = same (r == k) refl
      where
        same : (b : Bool) → (r == k) ≡ b → cond b (register_of t k H) (cond b x (register_of t r H)) ≡ register_of t r H
        same true q = ap (λ i. register_of t i H) (sym (eqb-true r k q))
        same false q = refl
    at t _ = refl
