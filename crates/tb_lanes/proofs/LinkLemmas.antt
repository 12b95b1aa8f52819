-- What links a step to another, by indexes.
use Rattle.std.proofs.Common.{◌≡◌, ◌<◌, ℕ, List, Bool, true, false, ◌||◌, cond, length, take, refl, sym, ap, ap₂, ◌∙◌, Option, Some, None, is_some, ◌⊎◌, inl, inr, get_or}
use Rattle.std.specs.Option.{option_or, option_map}
use Rattle.std.proofs.lemmas.Bool.{false≢true}
use Rattle.tb_model.specs.declared.action.Action.{Action}
use Rattle.tb_model.specs.declared.action.Action.TheVariants.{Load, Store, Print, End, Fault}
use Rattle.tb_model.specs.declared.event.Event.{Event}
use Rattle.tb_model.specs.Names.{Name}
use Rattle.tb_model.specs.Facts.{History, is_of, is_end, spawns, is_spawn_of}
use Rattle.std.proofs.lemmas.Option.{slice_get_read}
use Rattle.tb_steps.specs.Entries.{Entry}
use Rattle.tb_steps.specs.Scans.{history_of}
use Rattle.tb_races.specs.declared.conflict.Conflict.{Conflict}
use Rattle.tb_races.specs.declared.need_kind.NeedKind.{NeedKind}
use Rattle.tb_races.specs.declared.need_kind.NeedKind.TheVariants.{Task, Spawn, Conflict as Conflicts}
use Rattle.tb_races.specs.Kinds.{shared, end_kind}
use Rattle.tb_races.specs.Orders.{Order, links, counts_conflicts, counts_some}
use Rattle.tb_lanes.specs.Clocks.{both_at, both_so, ends_so, is_end_at, links_at, touches}
use Rattle.tb_lanes.specs.Kept.{shares_at, shares_so}
use Rattle.tb_lanes.proofs.AfterLemmas.{at, at_read, links_is}
use Rattle.tb_steps.proofs.FirstLemmas.{some_same}

module _ (o : Order) where
  -- own steps, and the one that generates the task
  pub touch_links : (H : History) (v u : Event) → touches v u ≡ true → links o H v u ≡ true
  touch_links H v u h = by (is_of v.task u) (spawns v.task u) _ h
    where
      by : (a b : Bool) (rest : Option NeedKind) → (a || b) ≡ true → counts_some o (cond a (Some Task) (cond b (Some Spawn) rest)) ≡ true
      by true b rest h = refl
      by false true rest h = refl
      by false false rest h = absurd (false≢true h)

  -- all others are to ends, or where conflicts count, to what shares something
  pub link_cases : (H : History) (v u : Event) → links o H v u ≡ true → (touches v u ≡ true) ⊎ ((is_end u.action ≡ true) ⊎ ((counts_conflicts o ≡ true) × (is_some (shared v.action u.action) ≡ true)))
  link_cases H v u h = by (is_of v.task u) (spawns v.task u) (shared v.action u.action) (is_end u.action) _ h
    where
      by : (a b : Bool) (s : Option Conflict) (e : Bool) (k : Option NeedKind) → counts_some o (cond a (Some Task) (cond b (Some Spawn) (option_or (option_map Conflicts s) (cond e k None)))) ≡ true → ((a || b) ≡ true) ⊎ ((e ≡ true) ⊎ ((counts_conflicts o ≡ true) × (is_some s ≡ true)))
      by true b s e k h = inl refl
      by false true s e k h = inl refl
      by false false (Some c) e k h = inr (inr (h, refl))
      by false false None true k h = inr (inl refl)
      by false false None false k h = absurd (false≢true h)

  no_spawn : (t : Name) (a : Action) → is_end a ≡ true → is_spawn_of t a ≡ false
  no_spawn t End h = refl
  no_spawn t Fault h = refl
  no_spawn t _ h = absurd (false≢true h)

  shares_end : (a : Action) → shared a End ≡ None
  shares_end (Load r c x) = refl
  shares_end (Store c x) = refl
  shares_end (Print x) = refl
  shares_end _ = refl

  shares_fault : (a : Action) → shared a Fault ≡ None
  shares_fault (Load r c x) = refl
  shares_fault (Store c x) = refl
  shares_fault (Print x) = refl
  shares_fault _ = refl

  no_share : (a b : Action) → is_end b ≡ true → shared a b ≡ None
  no_share a End h = shares_end a
  no_share a Fault h = shares_fault a
  no_share a _ h = absurd (false≢true h)

  -- an end is linked by what waits for it
  pub end_links : (H : History) (v u : Event) → is_end u.action ≡ true → links o H v u ≡ (is_of v.task u || counts_some o (end_kind H v.task v.action u.task))
  end_links H v u h = by (is_of v.task u) (spawns v.task u) (shared v.action u.action) (is_end u.action) (end_kind H v.task v.action u.task) (no_spawn v.task u.action h) (no_share v.action u.action h) h
    where
      by : (a b : Bool) (s : Option Conflict) (e : Bool) (k : Option NeedKind) → b ≡ false → s ≡ None → e ≡ true → counts_some o (cond a (Some Task) (cond b (Some Spawn) (option_or (option_map Conflicts s) (cond e k None)))) ≡ (a || counts_some o k)
      by true b s e k p q r = refl
      by false true s e k p q r = absurd (false≢true (sym p))
      by false false (Some c) e k p q r = cc
      by false false None true k p q r = refl
      by false false None false k p q r = absurd (false≢true r)

module _ (o : Order) (entries : List Entry) (p x : ℕ) (w : p < length entries) (i : x < length entries) where
  abbrev v : Event
  v = (at o entries p w).event

  abbrev u : Event
  u = (at o entries x i).event

  pub both_is : (f : Event → Event → Bool) → both_at f entries p x ≡ f v u
  both_is f = ap₂ (both_so f) (at_read o entries p w) (at_read o entries x i)

  pub end_is : is_end_at entries x ≡ is_end u.action
  end_is = ap ends_so (at_read o entries x i)

  pub touch_links_at : both_at touches entries p x ≡ true → links_at o entries p x ≡ true
  touch_links_at h = links_is o entries p x w i ∙ touch_links o (history_of (take p entries)) v u (sym (both_is touches) ∙ h)

  pub shares_is : shares_at entries p x ≡ is_some (shared v.action u.action)
  shares_is = ap₂ shares_so (at_read o entries p w) (at_read o entries x i)

  pub link_cases_at : links_at o entries p x ≡ true → (both_at touches entries p x ≡ true) ⊎ ((is_end_at entries x ≡ true) ⊎ ((counts_conflicts o ≡ true) × (shares_at entries p x ≡ true)))
  link_cases_at h = either (link_cases o (history_of (take p entries)) v u (sym (links_is o entries p x w i) ∙ h))
    where
      either : (touches v u ≡ true) ⊎ ((is_end u.action ≡ true) ⊎ ((counts_conflicts o ≡ true) × (is_some (shared v.action u.action) ≡ true))) → (both_at touches entries p x ≡ true) ⊎ ((is_end_at entries x ≡ true) ⊎ ((counts_conflicts o ≡ true) × (shares_at entries p x ≡ true)))
      either (inl a) = inl (both_is touches ∙ a)
      either (inr (inl a)) = inr (inl (end_is ∙ a))
      either (inr (inr a)) = inr (inr (a.0, shares_is ∙ a.1))

  -- an end, as the code reads it
  module _ (a b : Entry) (here : a ≡ get_or entries p a) (there : b ≡ get_or entries x b) (end : is_end_at entries x ≡ true) where
    a_is : at o entries p w ≡ a
    a_is = some_same _ _ (sym (at_read o entries p w) ∙ slice_get_read entries (length entries) p a refl w here)

    b_is : at o entries x i ≡ b
    b_is = some_same _ _ (sym (at_read o entries x i) ∙ slice_get_read entries (length entries) x b refl i there)

    pub end_linked : links_at o entries p x ≡ (is_of a.event.task b.event || counts_some o (end_kind (history_of (take p entries)) a.event.task a.event.action b.event.task))
    end_linked =
        links_is o entries p x w i ∙ end_links o (history_of (take p entries)) v u (sym end_is ∙ end)
        ∙ ap₂ (λ (c d : Entry). is_of c.event.task d.event || counts_some o (end_kind (history_of (take p entries)) c.event.task c.event.action d.event.task)) a_is b_is

-- what is read of the two, and of those in front
pub end_read : (entries : List Entry) (p : ℕ) (a b : Entry) (front : List Entry) (t : Name) (act : Action) (u : Name) → front ≡ take p entries → t ≡ a.event.task → act ≡ a.event.action → u ≡ b.event.task
    → end_kind (history_of front) t act u ≡ end_kind (history_of (take p entries)) a.event.task a.event.action b.event.task
end_read entries p a b front t act u cut task action other =
    ap (λ (es : List Entry). end_kind (history_of es) t act u) cut ∙ ap₂ (λ s c. end_kind (history_of (take p entries)) s c u) task action
    ∙ ap (end_kind (history_of (take p entries)) a.event.task a.event.action) other
