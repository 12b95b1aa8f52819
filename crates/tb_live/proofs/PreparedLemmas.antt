-- What is prepared, and whether it is what is asked for.
use Rattle.std.proofs.Common.{◌≡◌, ◌↔◌, ◌≤◌, ℕ, List, Bool, true, refl, sym, ap, ap₂, ◌∙◌, subst, Option, Some, None, option_map, arith}
use Rattle.std.specs.Prelude.{IfSome, is_some}
use Rattle.tb_model.specs.declared.entry.Entry.{Entry}
use Rattle.tb_model.specs.declared.entry.Entry.TheVariants.{Stepped, Rolled}
use Rattle.tb_model.specs.declared.event.Event.{Event}
use Rattle.tb_model.specs.declared.step_id.StepId.{StepId}
use Rattle.tb_model.specs.Names.{Name, same_name}
use Rattle.tb_model.specs.Program.{Program}
use Rattle.tb_model.proofs.TestLemmas.{same_true, same_refl}
use Rattle.tb_core.specs.Seen.{Held}
use Rattle.tb_roll.specs.declared.readied.Ready.{Ready}
use Rattle.tb_live.specs.declared.prepared.Prepared.{Prepared}
use Rattle.tb_live.specs.declared.prepared.Prepared.TheVariants.{Step, Roll}
use Rattle.tb_live.specs.Preparing.{HasRoom, HasStepRoom, HoldsStep, HoldsRoll, entry_of, held_event, held_roll, MayRoll}

pub same_step : (a b : StepId) (e : Bool) → a.k ≡ b.k → e ≡ same_name a.task b.task → (e ≡ true) ↔ (a ≡ b)
same_step a b e k m = (
  λ h. ap₂ (λ (t : Name) (n : ℕ). record { task = t; k = n }) (same_true a.task b.task (sym m ∙ h)) k,
  λ h. m ∙ subst (λ (i : StepId). same_name a.task i.task ≡ true) h (same_refl a.task),
)

-- ---- whether it is what is asked for

pub same_task : (given : Option Prepared) (seat whose : ℕ) (v : Event) (t : Name) (e : Bool) → given ≡ Some (Step whose v) → whose ≡ seat → e ≡ same_name v.task t → (e ≡ true) ↔ HoldsStep given seat t
same_task given seat whose v t e g w m =
    subst (λ o. (e ≡ true) ↔ HoldsStep o seat t) (sym g)
    (λ h. (w, same_true v.task t (sym m ∙ h)), λ h. m ∙ subst (λ u. same_name v.task u ≡ true) h.1 (same_refl v.task))

pub same_roll : (given : Option Prepared) (seat whose : ℕ) (i j : StepId) (r : Ready) (e : Bool) → given ≡ Some (Roll whose i r) → whose ≡ seat → (e ≡ true) ↔ (i ≡ j) → (e ≡ true) ↔ HoldsRoll given seat j
same_roll given seat whose i j r e g w f = subst (λ o. (e ≡ true) ↔ HoldsRoll o seat j) (sym g) (λ h. (w, f.0 h), λ h. f.1 h.1)

pub step_of_entry : (o : Option Prepared) (seat : ℕ) (v : Event) → option_map entry_of o ≡ Some (Stepped seat v) → HoldsStep o seat v.task
step_of_entry None seat v e = cc
step_of_entry (Some (Step whose u)) seat v e =
    let w : whose ≡ seat = cc in
    let z : u ≡ v = cc in
    (w, ap (λ (x : Event). x.task) z)
step_of_entry (Some (Roll whose i r)) seat v e = cc

pub roll_of_entry : (o : Option Prepared) (seat : ℕ) (i : StepId) → option_map entry_of o ≡ Some (Rolled seat i) → HoldsRoll o seat i
roll_of_entry None seat i e = cc
roll_of_entry (Some (Step whose u)) seat i e = cc
roll_of_entry (Some (Roll whose j r)) seat i e =
    let w : whose ≡ seat = cc in
    let z : j ≡ i = cc in
    (w, z)

-- ---- what is taken out

pub event_taken : (o : Option Prepared) (seat : ℕ) (t : Name) → HoldsStep o seat t → held_event o ≡ None → ⊥
event_taken None seat t h e = h
event_taken (Some (Step whose v)) seat t h e = cc
event_taken (Some (Roll whose i r)) seat t h e = h

pub roll_taken : (o : Option Prepared) (seat : ℕ) (i : StepId) → HoldsRoll o seat i → IfSome (held_roll o) (λ r. (o ≡ Some (Roll seat r.0 r.1)) × (r.0 ≡ i))
roll_taken None seat i h = tt
roll_taken (Some (Step whose v)) seat i h = tt
roll_taken (Some (Roll whose j r)) seat i h = (ap (λ n. Some (Roll n j r)) h.0, h.1)

pub roll_there : (o : Option Prepared) (seat : ℕ) (i : StepId) → HoldsRoll o seat i → is_some (held_roll o) ≡ true
roll_there None seat i h = absurd h
roll_there (Some (Step whose v)) seat i h = absurd h
roll_there (Some (Roll whose j r)) seat i h = refl

-- ---- the capacity for it

-- the event that is prepared has capacity
pub event_room : (limit : ℕ) (P : Program) (c : Held) (entries : List Entry) (spare : ℕ) (o : Option Prepared) (seat : ℕ) (t : Name) (v : Event) → HasRoom limit P c entries spare o → HoldsStep o seat t → held_event o ≡ Some v
    → (v.task ≡ t) × HasStepRoom limit P c entries spare v
event_room limit P c entries spare None seat t v room h e = absurd h
event_room limit P c entries spare (Some (Step whose u)) seat t v room h e =
    let z : u ≡ v = cc in
    (ap (λ (x : Event). x.task) (sym z) ∙ h.1, subst (HasStepRoom limit P c entries spare) z room)
event_room limit P c entries spare (Some (Roll whose i r)) seat t v room h e = absurd h

-- the step whose entry is to come is what is prepared, and has capacity
pub step_held : (limit : ℕ) (P : Program) (c : Held) (entries : List Entry) (spare : ℕ) (o : Option Prepared) (seat : ℕ) (v : Event)
    → HasRoom limit P c entries spare o → option_map entry_of o ≡ Some (Stepped seat v) → (held_event o ≡ Some v) × HasStepRoom limit P c entries spare v
step_held limit P c entries spare None seat v room e = absurd (nothing v e)
  where
    nothing : (v : Event) → ◌≡◌ {A = Option Entry} None (Some (Stepped seat v)) → ⊥
    nothing v e = cc
step_held limit P c entries spare (Some (Step whose u)) seat v room e =
    let z : u ≡ v = cc in
    (ap Some z, subst (HasStepRoom limit P c entries spare) z room)
step_held limit P c entries spare (Some (Roll whose i r)) seat v room e = absurd (other v e)
  where
    other : (v : Event) → ◌≡◌ {A = Option Entry} (Some (Rolled whose i)) (Some (Stepped seat v)) → ⊥
    other v e = cc

pub held_is : (o : Option Prepared) (v u : Event) → held_event o ≡ Some v → held_event o ≡ Some u → v ≡ u
held_is o v u e f = let z : ◌≡◌ {A = Option Event} (Some v) (Some u) = sym e ∙ f in cc

pub is_held : (o : Option Prepared) (v : Event) → held_event o ≡ Some v → is_some (held_event o) ≡ true
is_held o v e = ap is_some e

-- the rollback that is prepared has its names, and a slot is free for its entry
pub may_roll : (limit : ℕ) (P : Program) (c : Held) (entries : List Entry) (spare : ℕ) (o : Option Prepared) (seat : ℕ) (i : StepId) → HasRoom limit P c entries spare o → HoldsRoll o seat i → MayRoll spare i o
may_roll limit P c entries spare None seat i room h = absurd h
may_roll limit P c entries spare (Some (Step whose u)) seat i room h = absurd h
may_roll limit P c entries spare (Some (Roll whose j r)) seat i room h = (room.free, ap₂ (λ (a b : StepId). Some (a, b)) h.1 (room.step ∙ h.1))

-- more slots serve as well
pub room_more : (limit : ℕ) (P : Program) (c : Held) (entries : List Entry) (spare more : ℕ) (o : Option Prepared) → spare ≤ more → HasRoom limit P c entries spare o → HasRoom limit P c entries more o
room_more limit P c entries spare more None h room = tt
room_more limit P c entries spare more (Some (Step seat v)) h room = record {
  next = room.next;
  reserved = room.reserved;
  room = room.room;
  free = omega (arith, h, room.free);
}
room_more limit P c entries spare more (Some (Roll seat i r)) h room = record {
  stands = room.stands;
  step = room.step;
  readied = room.readied;
  room = room.room;
  free = omega (arith, h, room.free);
}

-- what is prepared serves still where nothing changed but for more capacity
pub room_stays : (limit : ℕ) (P : Program) (old new : Held) (entries pushed : List Entry) (spare more : ℕ) (o now : Option Prepared) → new ≡ old → pushed ≡ entries → spare ≤ more → now ≡ o
    → HasRoom limit P old entries spare o → HasRoom limit P new pushed more now
room_stays limit P old new entries pushed spare more o now same kept grows left room =
    subst (λ q. HasRoom limit P new pushed more q) (sym left)
    (subst (λ es. HasRoom limit P new es more o) (sym kept)
    (subst (λ z. HasRoom limit P z entries more o) (sym same) (room_more limit P old entries spare more o grows room)))

-- nothing that is prepared needs no capacity
pub no_room : (limit : ℕ) (P : Program) (c : Held) (entries : List Entry) (spare : ℕ) (o : Option Prepared) → o ≡ None → HasRoom limit P c entries spare o
no_room limit P c entries spare o e = subst (HasRoom limit P c entries spare) (sym e) tt
