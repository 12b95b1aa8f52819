-- A lent history, parted at its newest step.
use Rattle.std.proofs.Common.{◌≡◌, ◌≤◌, ◌<◌, ◌-◌, ℕ, zero, suc, List, [], ◌∷◌, length, take, get_or, refl, sym, ap, ap₂, ◌∙◌, subst, arith}
use Rattle.tb_model.specs.declared.action.Action.{Action}
use Rattle.tb_model.specs.declared.event.Event.{Event}
use Rattle.tb_model.specs.Names.{Name}
use Rattle.tb_steps.specs.Entries.{Entry}
use Rattle.tb_steps.specs.Scans.{history_of}
use Rattle.tb_core.specs.declared.entry.Entry.{Entry as Stored}
use Rattle.tb_core.specs.Storing.{IsStored}
use Rattle.std.specs.List.{AllZip}
use Rattle.std.proofs.lemmas.List.{get_or-take, length-take-le}
use Rattle.std.proofs.lemmas.Slice.Zip.{AllZip-long}
use Rattle.tb_steps.proofs.ScanLemmas.{history_newest}
use Rattle.tb_core.proofs.RenumberLemmas.{some_entry}

-- the newest event comes after those in front of it
pub parted_at_newest : (es older : List Entry) (at : ℕ) (task : Name) (action : Action) → suc at ≡ length es → older ≡ take at es
    → ((e : Entry) → e ≡ get_or es at e → task ≡ e.event.task)
    → ((e : Entry) → e ≡ get_or es at e → action ≡ e.event.action) → history_of es ≡ record { task = task; action = action } ∷ history_of older
parted_at_newest es older at task action last front of did =
    let w = some_entry es at (omega (arith, last)) in
    let e : Entry = w.0 in
    let place : at ≡ length es - 1 = omega (arith, last) in
    let event : e.event ≡ record { task = task; action = action } = ap₂ (λ (t : Name) (a : Action). made t a) (sym (of e w.1)) (sym (did e w.1)) in
    history_newest es e (omega (arith, last)) (subst (λ n. e ≡ get_or es n e) place w.1)
    ∙ ap₂ (λ (v : Event) (l : List Entry). v ∷ history_of l) event (ap (λ n. take n es) (sym place) ∙ sym front)
  where
    made : Name → Action → Event
    made t a = record { task = t; action = a }

-- ---- what is stored

all_taken : {A : Type 0} (n : ℕ) (xs : List A) → n ≡ length xs → take n xs ≡ xs
all_taken zero [] h = refl
all_taken zero (x ∷ xs) h = absurd (omega (arith, h))
all_taken (suc n) [] h = absurd (omega (arith, h))
all_taken (suc n) (x ∷ xs) h = ap (λ l. x ∷ l) (all_taken n xs (omega (arith, h)))

pub zip_at : {A B : Type 0} (R : A → B → Type 0) (xs : List A) (ys : List B) (i : ℕ) (x : A) (y : B) → AllZip R xs ys → i < length xs → x ≡ get_or xs i x
    → y ≡ get_or ys i y → R x y
zip_at R [] ys i x y z h a b = absurd (omega (arith, h))
zip_at R (v ∷ xs) [] i x y z h a b = absurd z
zip_at R (v ∷ xs) (w ∷ ys) zero x y z h a b = subst (λ k. R k y) (sym a) (subst (λ k. R v k) (sym b) z.0)
zip_at R (v ∷ xs) (w ∷ ys) (suc i) x y z h a b = zip_at R xs ys i x y z.1 (omega (arith, h)) a b

-- the first stored steps of those that are stored
module _ (names : List Name) (ss : List Stored) (es front : List Entry) (count : ℕ) (z : AllZip (IsStored names) ss es) (within : count ≤ length ss)
    (view : take count es ≡ front) where
  pub front_len : length front ≡ count
  front_len = sym (ap length view) ∙ length-take-le count es (omega (arith, within, AllZip-long (IsStored names) ss es z))

  -- each is what is stored at its index
  pub stored_here : (at : ℕ) (s : Stored) (e : Entry) → at < length front → s ≡ get_or ss at s → e ≡ get_or front at e → IsStored names s e
  stored_here at s e inside here is =
      let below : at < count = omega (arith, inside, front_len) in
      let read : e ≡ get_or es at e = is ∙ ap (λ (l : List Entry). get_or l at e) (sym view) ∙ get_or-take count es at e below in
      zip_at (IsStored names) ss es at s e z (omega (arith, below, within)) here read

-- all of them
pub whole_front : (names : List Name) (ss : List Stored) (es : List Entry) → AllZip (IsStored names) ss es → take (length ss) es ≡ es
whole_front names ss es z = all_taken (length ss) es (sym (AllZip-long (IsStored names) ss es z))
