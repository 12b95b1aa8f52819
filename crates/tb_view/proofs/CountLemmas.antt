-- The steps of each task, counted along a history.
use Rattle.std.proofs.Common.{◌≡◌, ◌<◌, ◌≤◌, ◌+◌, ℕ, suc, List, [], ◌∷◌, Bool, true, false, cond, length, take, refl, sym, ap, ◌∙◌, subst, arith, ap₂, Some, None, get_or, unwrap_or, Result, Ok, Err, IsOk, OnOk, zero, slice_get, option_map}
use Rattle.std.specs.Map.{lookup, keys_of, values_of}
use Rattle.std.proofs.lemmas.Bool.{false≢true}
use Rattle.std.proofs.lemmas.Option.{slice_get-map}
use Rattle.indexmap.specs.IndexMap.{IndexMap, IsUnique, with_value_at}
use Rattle.indexmap.proofs.CallerLemmas.{updates-with_value_at}
use Rattle.indexmap.proofs.MapLemmas.{Found-position, index-first}
use Rattle.indexmap.proofs.RemoveLemmas.{own_first}
use Rattle.tb_model.specs.declared.action.Action.{Action}
use Rattle.tb_model.specs.declared.event.Event.{Event}
use Rattle.tb_model.specs.Facts.{History, is_of, own, prepend_if}
use Rattle.tb_model.specs.Names.{Name, same_name}
use Rattle.tb_model.specs.NameLaws.{same_name_equivalence}
use Rattle.tb_model.proofs.TestLemmas.{same_true}
use Rattle.tb_steps.specs.Entries.{Entry}
use Rattle.tb_steps.specs.Scans.{history_of}
use Rattle.tb_core.proofs.RenumberLemmas.{some_entry}
use Rattle.tb_steps.proofs.ScanLemmas.{count_front, history_more}
use Rattle.tb_view.specs.Steps.{Counts, count_of, IsCounted, AreCounts}

-- one stored step is written: t has executed k steps more than that
pub writes_count : (old new : Counts) (t : Name) (k : ℕ) → k ≡ suc (count_of old t) → ((u : Name) → lookup (same_name u) new ≡ cond (same_name t u) (Some k) (lookup (same_name u) old)) → IsCounted old t new
writes_count old new t k is writes u = at (same_name t u) refl
  where
    at : (b : Bool) → same_name t u ≡ b → count_of new u ≡ cond b (suc (count_of old u)) (count_of old u)
    at true e =
        ap (λ o. unwrap_or o 0) (writes u ∙ ap (λ b. cond b (Some k) (lookup (same_name u) old)) e) ∙ is ∙ ap (λ x. suc (count_of old x)) (same_true t u e)
    at false e = ap (λ o. unwrap_or o 0) (writes u ∙ ap (λ b. cond b (Some k) (lookup (same_name u) old)) e)

-- in front of the first step none is counted
pub none_counted : (entries : List Entry) → AreCounts (history_of (take 0 entries)) []
none_counted entries t = refl

own_within : (t : Name) (H : History) → length (own t H) ≤ length H
own_within t [] = omega arith
own_within t (v ∷ H) = at (is_of t v) (own_within t H)
  where
    at : (b : Bool) → length (own t H) ≤ length H → length (prepend_if b v.action (own t H)) ≤ suc (length H)
    at true h = omega (arith, h)
    at false h = omega (arith, h)

counts_more : (H : History) (v : Event) (old new : Counts) → AreCounts H old → IsCounted old v.task new → AreCounts (v ∷ H) new
counts_more H v old new counts more t = at (same_name v.task t) (more t)
  where
    at : (b : Bool) → count_of new t ≡ cond b (suc (count_of old t)) (count_of old t) → count_of new t ≡ length (prepend_if b v.action (own t H))
    at true h = h ∙ ap suc (counts t)
    at false h = h ∙ counts t

-- the event is that of the step at the index
pub record IsReadAt (entries : List Entry) (i : ℕ) (v : Event) : Type 0 where
  pub step : Entry
  pub within : i < length entries
  pub here : step ≡ get_or entries i step
  pub same : v ≡ step.event

-- the task and the action that are read there
pub read_at : (entries : List Entry) (i : ℕ) (t : Name) (a : Action) → i < length entries → ((e : Entry) → e ≡ get_or entries i e → t ≡ e.event.task) → ((e : Entry) → e ≡ get_or entries i e → a ≡ e.event.action)
    → IsReadAt entries i (record { task = t; action = a })
read_at entries i t a within task action =
    let w = some_entry entries i within in
    let event : Name → Action → Event = λ u b. record { task = u; action = b } in
    record { step = w.0; within = within; here = w.1; same = ap₂ event (task w.0 w.1) (action w.0 w.1) }

-- the history after one stored step more
pub read_more : (entries : List Entry) (i : ℕ) (v : Event) → IsReadAt entries i v → history_of (take (i + 1) entries) ≡ v ∷ history_of (take i entries)
read_more entries i v is = history_more entries i is.step is.within is.here ∙ ap (λ (u : Event). u ∷ history_of (take i entries)) (sym is.same)

-- the counts after one stored step more
pub counted : (entries : List Entry) (i : ℕ) (v : Event) (old new : Counts) → IsReadAt entries i v → AreCounts (history_of (take i entries)) old → IsCounted old v.task new → AreCounts (history_of (take (i + 1) entries)) new
counted entries i v old new is counts more = subst (λ H. AreCounts H new) (sym (read_more entries i v is)) (counts_more (history_of (take i entries)) v old new counts more)

-- no count is so large that it can't grow
pub few : (entries : List Entry) (i : ℕ) (counts : Counts) (t : Name) → i < length entries → length entries ≤ 1000000 → AreCounts (history_of (take i entries)) counts → count_of counts t < 4294967295
few entries i counts t within bound are = omega (arith, are t, own_within t (history_of (take i entries)), count_front entries i (omega (arith, within)), within, bound)

pub on_ok : {A E : Type 0} (r : Result A E) (P : Type 0) → IsOk r → OnOk r P → P
on_ok (Ok x) P ok h = h
on_ok (Err e) P ok h = absurd (false≢true ok)

-- a task that wasn't counted is counted now
pub inserts_count : (old mid new : Counts) (t name : Name) → name ≡ t → mid ≡ old → lookup (same_name t) old ≡ None
    → ((u : Name) → lookup (same_name u) new ≡ cond (same_name name u) (Some 1) (lookup (same_name u) mid)) → IsCounted old t new
inserts_count old mid new t name same kept none writes =
    writes_count old new t 1 (ap (λ o. suc (unwrap_or o 0)) (sym none))
    (λ u. writes u ∙ ap₂ (λ n (m : Counts). cond (same_name n u) (Some 1) (lookup (same_name u) m)) same kept)

-- ---- a count that is at an index

-- the name there is the task's
pub key_in : (es : Counts) (i : ℕ) (k t : Name) (v : ℕ) → slice_get es i ≡ Some (k, v) → same_name k t ≡ true → slice_get (keys_of es) i ≡ Some t
key_in es i k t v at same = slice_get-map (λ (e : Name × ℕ). e.0) es i ∙ ap (option_map (λ (e : Name × ℕ). e.0)) at ∙ ap Some (same_true k t same)

entry_at : (es : Counts) (i : ℕ) (t : Name) (k : ℕ) → slice_get (keys_of es) i ≡ Some t → slice_get (values_of es) i ≡ Some k → slice_get es i ≡ Some (t, k)
entry_at [] i t k a b = absurd (cc)
entry_at (e ∷ es) zero t k a b = ap₂ (λ x y. Some (x, y)) (ap (λ o. unwrap_or o t) a) (ap (λ o. unwrap_or o k) b)
entry_at (e ∷ es) (suc i) t k a b = entry_at es i t k a b

module _ {S : Type 0} (m : IndexMap Name ℕ S) (t : Name) (i k : ℕ) (unique : IsUnique same_name m) (key : slice_get (keys_of m.entries) i ≡ Some t) (value : slice_get (values_of m.entries) i ≡ Some k) where
  here : slice_get m.entries i ≡ Some (t, k)
  here = entry_at m.entries i t k key value

  pub count_there : count_of m.entries t ≡ k
  count_there =
      ap (λ o. unwrap_or o 0)
      ((Found-position (same_name t) m.entries i (index-first (same_name t) m.entries i (own_first same_name same_name_equivalence m.entries i t k unique here))).value
      ∙ slice_get-map (λ (e : Name × ℕ). e.1) m.entries i ∙ ap (option_map (λ (e : Name × ℕ). e.1)) here)

  -- it grows there
  pub counts_there : (w : ℕ) → w ≡ suc k → IsCounted m.entries t (with_value_at m i w).entries
  counts_there w is = writes_count m.entries (with_value_at m i w).entries t w (is ∙ ap suc (sym count_there)) (updates-with_value_at m i w same_name_equivalence unique t k here).0
