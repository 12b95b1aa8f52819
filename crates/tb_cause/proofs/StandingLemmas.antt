-- At which undeferred child a task is before a step: the one that its last step in front of that generated.
use Rattle.std.proofs.Common.{◌≡◌, ◌<◌, ◌≤◌, ◌+◌, ◌-◌, ℕ, zero, suc, List, [], ◌∷◌, true, false, cond, refl, sym, ap, ap₂, ◌∙◌, subst, arith, length, take, get_or, Option, Some, option_map}
use Rattle.std.proofs.lemmas.Option.{slice_get_read}
use Rattle.tb_model.specs.Names.{Name}
use Rattle.tb_model.specs.Facts.{IsSpawned, own, is_of, is_spawn_of, prepend_if}
use Rattle.tb_model.specs.State.{spawn_of}
use Rattle.tb_model.proofs.FactsLemmas.{own_other}
use Rattle.tb_steps.specs.Entries.{Entry}
use Rattle.tb_core.specs.Lending.{IsLast, IsNoneBetween}
use Rattle.tb_steps.specs.Scans.{AreLegal, history_of}
use Rattle.tb_core.proofs.LendingLemmas.{spawned_in}
use Rattle.tb_steps.proofs.ScanLemmas.{history_more}
use Rattle.tb_cause.specs.Indexes.{placed_action}
use Rattle.tb_cause.specs.Keys.{held_by}
use Rattle.tb_steps.proofs.FirstLemmas.{there}

-- where none of the stored steps from an index on is the task's, it has the actions that it had
-- there
own_stays : (entries : List Entry) (t : Name) (from k : ℕ) → from + k ≤ length entries → IsNoneBetween (is_of t) entries from (from + k)
    → own t (history_of (take (from + k) entries)) ≡ own t (history_of (take from entries))
own_stays entries t from zero within none = ap (λ n. own t (history_of (take n entries))) (omega arith)
own_stays entries t from (suc k) within none =
    let at : from + k < length entries = omega (arith, within) in
    let w = there entries (from + k) at in
    ap (λ n. own t (history_of (take n entries))) (omega arith)
    ∙ ap (own t) (history_more entries (from + k) w.0 at w.1)
    ∙ own_other t w.0.event (history_of (take (from + k) entries)) (none (from + k) w.0 (omega arith) (omega arith) w.1)
    ∙ own_stays entries t from k (omega (arith, within)) (λ j e low high here. none j e low (omega (arith, high)) here)

own_upto : (entries : List Entry) (t : Name) (from to : ℕ) → from ≤ to → to ≤ length entries → IsNoneBetween (is_of t) entries from to
    → own t (history_of (take to entries)) ≡ own t (history_of (take from entries))
own_upto entries t from to order within none =
    let k = to - from in
    let same : from + k ≡ to = omega (arith, order) in
    ap (λ n. own t (history_of (take n entries))) (sym same)
    ∙ own_stays entries t from k (omega (arith, same, within)) (λ j e low high here. none j e low (omega (arith, same, high)) here)

module _ (entries : List Entry) (at : ℕ) (e : Entry) (within : at < length entries) where
  abbrev t : Name
  t = e.event.task

  pub newest_own : (before : ℕ) (d : Entry) → IsLast (is_of t) entries at before → d ≡ get_or entries before d
      → own t (history_of (take at entries)) ≡ d.event.action ∷ own t (history_of (take before entries))
  newest_own before d last here =
      own_upto entries t (before + 1) at (omega (arith, last.front)) (omega (arith, within)) last.none
      ∙ ap (own t) (history_more entries before d (omega (arith, last.front, within)) here)
      ∙ ap (λ b. prepend_if b d.event.action (own t (history_of (take before entries)))) (last.passes d here)

  pub none_own : IsNoneBetween (is_of t) entries 0 at → own t (history_of (take at entries)) ≡ []
  none_own none = own_upto entries t 0 at (omega arith) (omega (arith, within)) none

-- the task read at an index, and the stored steps in front of it, hold as the stored step there
-- does
pub held_here : (entries : List Entry) (at : ℕ) → at < length entries → (t : Name) → ((e : Entry) → e ≡ get_or entries at e → t ≡ e.event.task) → (front : List Entry) → front ≡ take at entries → (o : Option Name)
    → ((e : Entry) → e ≡ get_or entries at e → o ≡ held_by (own e.event.task (history_of (take at entries)))) → o ≡ held_by (own t (history_of front))
held_here entries at within t read front cut o told =
    let w = there entries at within in
    told w.0 w.1 ∙ sym (ap₂ (λ (u : Name) (es : List Entry). held_by (own u (history_of es))) (read w.0 w.1) cut)

-- the task read at an index was generated
pub spawned_here : (entries : List Entry) (at : ℕ) → at < length entries → (t : Name) → ((e : Entry) → e ≡ get_or entries at e → t ≡ e.event.task) → AreLegal entries → IsSpawned (history_of entries) t
spawned_here entries at within t read legal =
    let w = there entries at within in
    subst (IsSpawned (history_of entries)) (sym (read w.0 w.1)) (spawned_in entries at w.0 within w.1 legal)

-- ---- the spawn of a task, looked for from the newest stored step on

module _ (entries : List Entry) (t : Name) (left : ℕ) (e : Entry) (within : left < length entries) (here : e ≡ get_or entries left e) (same : spawn_of t (history_of (take (left + 1) entries)) ≡ spawn_of t (history_of entries)) where
  step : spawn_of t (history_of (take (left + 1) entries)) ≡ cond (is_spawn_of t e.event.action) (Some e.event.action) (spawn_of t (history_of (take left entries)))
  step = ap (spawn_of t) (history_more entries left e within here)

  pub spawn_here : is_spawn_of t e.event.action ≡ true → spawn_of t (history_of entries) ≡ placed_action entries (Some left)
  spawn_here h =
      sym same ∙ step ∙ ap (λ b. cond b (Some e.event.action) (spawn_of t (history_of (take left entries)))) h
      ∙ sym (ap (option_map (λ (x : Entry). x.event.action)) (slice_get_read entries (length entries) left e refl within here))

  pub spawn_not_here : is_spawn_of t e.event.action ≡ false → spawn_of t (history_of (take left entries)) ≡ spawn_of t (history_of entries)
  spawn_not_here h = sym (step ∙ ap (λ b. cond b (Some e.event.action) (spawn_of t (history_of (take left entries)))) h) ∙ same
