-- What is answered of the stored steps.
use Rattle.std.proofs.Common.{◌≡◌, ◌<◌, ◌+◌, ℕ, suc, List, [], ◌∷◌, ◌++◌, cond, length, take, drop, reverse, refl, sym, ap, ap₂, ◌∙◌, Some, None, Option, get_or, slice_get, append-nil}
use Rattle.std.specs.Option.{option_to_list}
use Rattle.std.proofs.lemmas.List.{length-append, length-reverse, reverse-append}
use Rattle.std.proofs.lemmas.Option.{slice_get_read}
use Rattle.tb_model.specs.declared.event.Event.{Event}
use Rattle.tb_model.specs.declared.step_id.StepId.{StepId}
use Rattle.tb_model.specs.Facts.{History}
use Rattle.tb_model.specs.Needs.{step_of}
use Rattle.tb_model.proofs.LeastLemmas.{later_not_step}
use Rattle.tb_model.proofs.RemovalLemmas.{its_step}
use Rattle.tb_steps.specs.Entries.{Entry}
use Rattle.tb_steps.specs.Scans.{history_of, step_at}
use Rattle.tb_steps.proofs.FirstLemmas.{some_same, step_read}
use Rattle.tb_steps.proofs.ScanLemmas.{history_more, history_cut}
use Rattle.tb_races.specs.declared.race.Race.{Race}
use Rattle.tb_races.specs.Immediate.{immediate, immediate_of}
use Rattle.tb_races.specs.Racing.{race_of, races}

-- ---- one stored step more

reverse_more : {A : Type 0} (o : Option A) (xs : List A) → reverse (option_to_list o ++ xs) ≡ reverse xs ++ option_to_list o
reverse_more (Some x) xs = reverse-append (x ∷ []) xs
reverse_more None xs = sym (append-nil (reverse xs))

module _ (entries : List Entry) (at : ℕ) (x : Entry) (within : at < length entries) (here : x ≡ get_or entries at x) where
  read : slice_get entries at ≡ Some x
  read = slice_get_read entries (length entries) at x refl within here

  abbrev F : History
  F = history_of (take at entries)

  more : history_of (take (at + 1) entries) ≡ x.event ∷ F
  more = history_more entries at x within here

  pub races_more : (o : Option Race) → ((v : Entry) → slice_get entries at ≡ Some v → o ≡ race_of F v.event)
      → reverse (races (history_of (take (at + 1) entries))) ≡ reverse (races F) ++ option_to_list o
  races_more o h =
      ap (λ K. reverse (races K)) more
      ∙ reverse_more (race_of F x.event) (races F)
      ∙ ap (λ p. reverse (races F) ++ option_to_list p) (sym (h x read))

-- the stored step that is read there is that one
pub read_there : (entries : List Entry) (at : ℕ) (x v : Entry) → at < length entries → x ≡ get_or entries at x → slice_get entries at ≡ Some v → x ≡ v
read_there entries at x v within here is = some_same x v (sym (slice_get_read entries (length entries) at x refl within here) ∙ is)

-- as many more as there are
pub counted_more : {A : Type 0} (more old : List A) (o : Option A) → reverse more ≡ reverse old ++ option_to_list o → length more ≡ length old + length (option_to_list o)
counted_more more old o h = sym (length-reverse more) ∙ ap length h ∙ length-append (reverse old) (option_to_list o) ∙ ap (λ n. n + length (option_to_list o)) (length-reverse old)

immediate_here : (v : Event) (later front : History) → immediate_of (step_of front v) (later ++ v ∷ front) ≡ immediate front v front
immediate_here v [] front = ap (λ b. cond b (immediate front v front) (immediate_of (step_of front v) front)) (its_step front v)
immediate_here v (w ∷ later) front =
    ap (λ b. cond b (immediate (later ++ v ∷ front) w (later ++ v ∷ front)) (immediate_of (step_of front v) (later ++ v ∷ front))) (later_not_step v front later w)
    ∙ immediate_here v later front

pub immediate_at : (entries : List Entry) (at : ℕ) (x : Entry) → at < length entries → x ≡ get_or entries at x → (id : StepId) → step_at entries at ≡ Some id
    → immediate (history_of (take at entries)) x.event (history_of (take at entries)) ≡ immediate_of id (history_of entries)
immediate_at entries at x within here id is =
    let F = history_of (take at entries) in
    let same = some_same _ _ (sym (step_read entries at x within here) ∙ is) in
    sym (immediate_here x.event (history_of (drop (suc at) entries)) F)
    ∙ ap₂ immediate_of same (sym (history_cut entries at x within here))
