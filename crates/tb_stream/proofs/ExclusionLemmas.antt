-- Where no tasks exclude each other, it makes no difference whether exclusion counts.
use Rattle.std.proofs.Common.{◌≡◌, ◌-◌, ◌==◌, ◌∷◌, ℕ, List, [], Bool, true, false, ◌&&◌, ◌||◌, cond, length, take, refl, sym, ap, ap₂, ◌∙◌, subst, Option, Some, None, slice_get}
use Rattle.std.specs.List.{list_any}
use Rattle.std.specs.Option.{option_or, option_map}
use Rattle.std.proofs.lemmas.Bool.{false≢true, or_parts}
use Rattle.std.proofs.lemmas.List.Folds.{list_any-append}
use Rattle.tb_model.specs.declared.kind.Kind.{Kind}
use Rattle.tb_model.specs.declared.kind.Kind.TheVariants.{In, Out, Inout, Mutexinoutset, Inoutset}
use Rattle.tb_model.specs.declared.item.Item.{Item}
use Rattle.tb_model.specs.declared.action.Action.{Action}
use Rattle.tb_model.specs.declared.action.Action.TheVariants.{Start, Spawn, Wait, Close}
use Rattle.tb_model.specs.declared.event.Event.{Event}
use Rattle.tb_model.specs.declared.step_id.StepId.{StepId}
use Rattle.tb_model.specs.Items.{is_apart, relation, same_place, meets, some_meet}
use Rattle.tb_model.specs.Names.{Name, same_name, is_elder}
use Rattle.tb_model.specs.Facts.{History, is_of, is_end, own, spawns, items_for, items_of, before, apart, covers, is_member, holds, prepend_if}
use Rattle.tb_model.specs.State.{items_in}
use Rattle.tb_model.specs.Needs.{is_step}
use Rattle.tb_model.proofs.AlikeLemmas.{any_same}
use Rattle.tb_races.specs.declared.conflict.Conflict.{Conflict}
use Rattle.tb_races.specs.declared.need_kind.NeedKind.{NeedKind}
use Rattle.tb_races.specs.declared.need_kind.NeedKind.TheVariants.{Task, Spawn as Generates, Conflict as Conflicts, Before, Apart, Wait as Waits, Group, Undeferred}
use Rattle.tb_races.specs.Kinds.{some_if, shared, end_kind}
use Rattle.tb_races.specs.Orders.{Synchronised, WithExclusion, counts_some, links, followers, comes_after}
use Rattle.tb_steps.specs.Entries.{Entry}
use Rattle.tb_steps.specs.Scans.{history_of, step_at}
use Rattle.tb_lanes.specs.Clocks.{after_so, is_after, reaches}
use Rattle.tb_lanes.specs.Kept as kept
use Rattle.tb_lanes.specs.Linking.{order_of}
use Rattle.tb_stream.specs.declared.access.Access.{Access}
use Rattle.tb_stream.specs.declared.half.Half.{Half}
use Rattle.tb_stream.specs.Exclusion.{is_exclusive, has_exclusive, excludes_some}
use Rattle.tb_stream.specs.Halves.{IsFound, IsHalf, IsLoose}
use Rattle.tb_stream.specs.Keeping.{behind}
use Rattle.tb_stream.specs.Seen.{Run, front}
use Rattle.tb_stream.proofs.HalfLemmas.{front_is}

-- ---- items

apart_kinds : (new old : Kind) → is_exclusive new ≡ false → is_apart (relation new old) ≡ false
apart_kinds In In h = refl
apart_kinds In _ h = refl
apart_kinds Out old h = refl
apart_kinds Inout old h = refl
apart_kinds Inoutset Inoutset h = refl
apart_kinds Inoutset _ h = refl
apart_kinds Mutexinoutset old h = absurd (false≢true (sym h))

none_meets : (i : Item) → is_exclusive i.kind ≡ false → (old : List Item) → list_any (meets is_apart i) old ≡ false
none_meets i h [] = refl
none_meets i h (j ∷ old) = ap₂ (λ c d. c || d) (at (same_place i.place j.place) (apart_kinds i.kind j.kind h)) (none_meets i h old)
  where
    at : (a : Bool) {b : Bool} → b ≡ false → (a && b) ≡ false
    at true e = e
    at false e = refl

none_apart : (new old : List Item) → has_exclusive new ≡ false → some_meet is_apart new old ≡ false
none_apart [] old h = refl
none_apart (i ∷ new) old h =
    let e = or_parts (is_exclusive i.kind) (has_exclusive new) h in
    ap₂ (λ c d. c || d) (none_meets i e.0 old) (none_apart new old e.1)

given : (t : Name) (a : Action) → has_exclusive (items_in (Some a)) ≡ false → has_exclusive (items_for t a) ≡ false
given t (Spawn s) h = at (same_name s.child t)
  where
    at : (b : Bool) → has_exclusive (cond b s.items []) ≡ false
    at true = h
    at false = refl
given t _ h = refl

items_without : (t : Name) (H : History) → excludes_some H ≡ false → has_exclusive (items_of t H) ≡ false
items_without t [] h = refl
items_without t (v ∷ H) h =
    let e = or_parts (has_exclusive (items_in (Some v.action))) (excludes_some H) h in
    list_any-append (λ (i : Item). is_exclusive i.kind) (items_for t v.action) (items_of t H) ∙ ap₂ (λ c d. c || d) (given t v.action e.0) (items_without t H e.1)

not_apart : (H : History) (u t : Name) → excludes_some H ≡ false → apart H u t ≡ false
not_apart H u t h =
    at (is_elder u t) (is_elder t u) (none_apart (items_of t H) (items_of u H) (items_without t H h)) (none_apart (items_of u H) (items_of t H) (items_without u H h))
  where
    at : (a b : Bool) {p q : Bool} → p ≡ false → q ≡ false → ((a && p) || (b && q)) ≡ false
    at true true e f = rw (e, f) refl
    at true false e f = rw e refl
    at false true e f = f
    at false false e f = refl

-- ---- links

by_start : (b p h : Bool) → p ≡ false
    → counts_some Synchronised (option_or (option_or (some_if b Before) (some_if p Apart)) (some_if h Undeferred))
    ≡ counts_some WithExclusion (option_or (option_or (some_if b Before) (some_if p Apart)) (some_if h Undeferred))
by_start true p h e = refl
by_start false true h e = absurd (false≢true (sym e))
by_start false false true e = refl
by_start false false false e = refl

by_other : (k : NeedKind) (c h : Bool) → counts_some Synchronised (Some k) ≡ counts_some WithExclusion (Some k)
    → counts_some Synchronised (option_or (some_if c k) (some_if h Undeferred)) ≡ counts_some WithExclusion (option_or (some_if c k) (some_if h Undeferred))
by_other k true h e = e
by_other k false true e = refl
by_other k false false e = refl

ends_same : (H : History) (t : Name) (a : Action) (u : Name) → excludes_some H ≡ false
    → counts_some Synchronised (end_kind H t a u) ≡ counts_some WithExclusion (end_kind H t a u)
ends_same H t Start u h = by_start (before H u t) (apart H u t) (holds (own t H) u) (not_apart H u t h)
ends_same H t (Wait items) u h = by_other Waits (covers H t items u) (holds (own t H) u) refl
ends_same H t Close u h = by_other Group (is_member (own t H) u) (holds (own t H) u) refl
ends_same H t _ u h = by_other Waits false (holds (own t H) u) refl

links_same : (H : History) (v u : Event) → excludes_some H ≡ false → links Synchronised H v u ≡ links WithExclusion H v u
links_same H v u h = by (is_of v.task u) (spawns v.task u) (shared v.action u.action) (is_end u.action) (end_kind H v.task v.action u.task) (ends_same H v.task v.action u.task h)
  where
    by : (a b : Bool) (s : Option Conflict) (e : Bool) (k : Option NeedKind) → counts_some Synchronised k ≡ counts_some WithExclusion k
        → counts_some Synchronised (cond a (Some Task) (cond b (Some Generates) (option_or (option_map Conflicts s) (cond e k None))))
        ≡ counts_some WithExclusion (cond a (Some Task) (cond b (Some Generates) (option_or (option_map Conflicts s) (cond e k None))))
    by true b s e k same = refl
    by false true s e k same = refl
    by false false (Some c) e k same = refl
    by false false None true k same = same
    by false false None false k same = refl

followers_same : (e : StepId) (H : History) → excludes_some H ≡ false → followers Synchronised e H ≡ followers WithExclusion e H
followers_same e [] h = refl
followers_same e (v ∷ H) h =
    let rest = or_parts (has_exclusive (items_in (Some v.action))) (excludes_some H) h in
    let same = followers_same e H rest.1 in
    ap₂ (λ (b : Bool) (F : History). prepend_if b v F)
    (ap (λ b. is_step e H v || b) (any_same (links Synchronised H v) (links WithExclusion H v) (λ u. links_same H v u rest.1) (followers Synchronised e H) ∙ ap (list_any (links WithExclusion H v)) same))
    same

-- what comes after a step is the same then
comes_same : (e : StepId) (H : History) (v : Event) → excludes_some H ≡ false → comes_after Synchronised e H v ≡ comes_after WithExclusion e H v
comes_same e H v h =
    any_same (links Synchronised H v) (links WithExclusion H v) (λ u. links_same H v u h) (followers Synchronised e H)
    ∙ ap (list_any (links WithExclusion H v)) (followers_same e H h)

after_same : (entries : List Entry) (p q : ℕ) → excludes_some (history_of (take p entries)) ≡ false
    → is_after Synchronised entries p q ≡ is_after WithExclusion entries p q
after_same entries p q h = at (slice_get entries p) (step_at entries q)
  where
    at : (v : Option Entry) (e : Option StepId)
        → after_so Synchronised (history_of (take p entries)) v e ≡ after_so WithExclusion (history_of (take p entries)) v e
    at None e = refl
    at (Some v) None = refl
    at (Some v) (Some e) = comes_same e (history_of (take p entries)) v.event h

pub reaches_same : (entries : List Entry) (p q : ℕ) → excludes_some (history_of (take p entries)) ≡ false
    → reaches Synchronised entries p q ≡ reaches WithExclusion entries p q
reaches_same entries p q h = ap (λ b. p == q || b) (after_same entries p q h)

-- ---- the newest step with which the next one races

module _ (entries : List Entry) (p n : ℕ) (none : excludes_some (history_of (take p entries)) ≡ false) where
  newest_same : kept.IsNewest WithExclusion entries p n → kept.IsNewest Synchronised entries p n
  newest_same is = record {
    within = is.within;
    unordered = λ some. reaches_same entries p (n - 1) none ∙ is.unordered some;
    shares = is.shares;
    newest = λ x low inside shares. reaches_same entries p x none ∙ is.newest x low inside shares;
  }

-- the order in which exclusion counts
abbrev pub strict : Run → Run
strict r = record { exclusion = true; entries = r.entries; tasks = r.tasks; legal = r.legal; by_task = r.by_task }

-- where no tasks exclude each other, it is the same by both orders
pub found_same : (H : History) (v : Event) (o : Option Access) → excludes_some H ≡ false → IsFound true H v o → IsFound false H v o
found_same H v o none found r begins =
    let it = found (strict r) (record { exclusion_is = refl; within = begins.within; front_is = begins.front_is }) in
    let here : excludes_some (front r (length H)) ≡ false = ap excludes_some (front_is false H v r begins) ∙ none in (
      it.0,
      record {
        newest = subst (λ x. kept.IsNewest (order_of x) r.entries (length H) (behind o)) (sym begins.exclusion_is) (newest_same r.entries (length H) (behind o) here it.1.newest);
        access = λ a is. let of = it.1.access a is in record { mark = of.mark; task = of.task; number = of.number };
      },
    )

-- ---- what is stored of the order without exclusion

pub loose_half : (H : History) (o : Option Half) (h : Half) → IsLoose H o → o ≡ Some h → IsHalf false H h
loose_half H o h is e = subst (IsLoose H) e is

pub loose_none : (H : History) (o : Option Half) → IsLoose H o → o ≡ None → excludes_some H ≡ false
loose_none H o is e = subst (IsLoose H) e is

-- one event more that generates no task that may exclude others
pub none_more : (H : History) (v : Event) (a : Action) → a ≡ v.action → has_exclusive (items_in (Some a)) ≡ false → excludes_some H ≡ false
    → excludes_some (v ∷ H) ≡ false
none_more H v a is none h = ap₂ (λ p q. p || q) (ap (λ b. has_exclusive (items_in (Some b))) (sym is) ∙ none) h
