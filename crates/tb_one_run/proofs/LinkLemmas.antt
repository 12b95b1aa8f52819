-- What is closed under the links of an order is closed under the order, and where nothing races under conflicts too.
use Rattle.std.proofs.Common.{◌≡◌, ◌∷◌, ◌++◌, Bool, true, false, cond, ◌&&◌, ◌||◌, ◌⊎◌, inl, inr, ⊎_elim, refl, sym, ap, ◌∙◌, Option, Some, None, append_assoc, option_map}
use Rattle.std.specs.Option.{option_or}
use Rattle.std.proofs.lemmas.Bool.{cases_Bool, both_ways, false≢true, or_cases}
use Rattle.tb_model.specs.declared.action.Action.{Action}
use Rattle.tb_model.specs.declared.action.Action.TheVariants.{Start, Let, Load, Store, Print, Spawn, Wait, Open, Close, Test, End, Fault}
use Rattle.tb_model.specs.declared.event.Event.{Event}
use Rattle.tb_model.specs.Names.{Name}
use Rattle.tb_model.specs.Facts.{History, is_of, own, before, apart, is_member, covers, holds, is_end, is_print, is_store_to, touches, spawns}
use Rattle.tb_model.specs.Needs.{conflicts}
use Rattle.tb_races.specs.declared.conflict.Conflict.{Conflict}
use Rattle.tb_races.specs.declared.conflict.Conflict.TheVariants.{Cell, Print as Prints}
use Rattle.tb_races.specs.declared.need_kind.NeedKind.{NeedKind}
use Rattle.tb_races.specs.declared.need_kind.NeedKind.TheVariants.{Task, Spawn as Spawned, Conflict as Conflicts, Before, Apart, Undeferred}
use Rattle.tb_races.specs.Kinds.{shared, some_if, end_kind}
use Rattle.tb_races.specs.Orders.{Order, Synchronised, counts_some, links, ComesAfter, directly, by_way}
use Rattle.tb_races.specs.Racing.{unordered}
use Rattle.tb_one_run.specs.Outcomes.{HasRace}

-- ---- what a synchronised link is

-- the action, of t and after H, waits for the end of u, whatever exclusion says
abbrev pub awaits : History → Name → Action → Name → Bool
awaits H t Start u = before H u t
awaits H t (Wait items) u = covers H t items u
awaits H t Close u = is_member (own t H) u
awaits H t _ u = false

some_counts : (o : Order) (b : Bool) (k : NeedKind) → counts_some o (some_if b k) ≡ true → b ≡ true
some_counts o true k h = refl
some_counts o false k h = absurd (false≢true h)

either_counts : (o : Order) (b c : Bool) (k l : NeedKind) → counts_some o (option_or (some_if b k) (some_if c l)) ≡ true → (c ≡ true) ⊎ (b ≡ true)
either_counts o true c k l h = inr refl
either_counts o false c k l h = inl (some_counts o c l h)

start_counts : (b c d : Bool) → counts_some Synchronised (option_or (option_or (some_if b Before) (some_if c Apart)) (some_if d Undeferred)) ≡ true → (d ≡ true) ⊎ (b ≡ true)
start_counts true c d h = inr refl
start_counts false true d h = absurd (false≢true h)
start_counts false false d h = inl (some_counts Synchronised d Undeferred h)

end_counts : (H : History) (t : Name) (a : Action) (u : Name) → counts_some Synchronised (end_kind H t a u) ≡ true → (holds (own t H) u ≡ true) ⊎ (awaits H t a u ≡ true)
end_counts H t Start u h = start_counts (before H u t) (apart H u t) (holds (own t H) u) h
end_counts H t (Wait items) u h = either_counts Synchronised (covers H t items u) (holds (own t H) u) _ Undeferred h
end_counts H t Close u h = either_counts Synchronised (is_member (own t H) u) (holds (own t H) u) _ Undeferred h
end_counts H t _ u h = inl (some_counts Synchronised (holds (own t H) u) Undeferred h)

chosen : (p q : Bool) (s : Option Conflict) (e : Bool) (k : Option NeedKind) → counts_some Synchronised (cond p (Some Task) (cond q (Some Spawned) (option_or (option_map Conflicts s) (cond e k None)))) ≡ true → (p ≡ true) ⊎ ((q ≡ true) ⊎ ((e ≡ true) × (counts_some Synchronised k ≡ true)))
chosen true q s e k h = inl refl
chosen false true s e k h = inr (inl refl)
chosen false false (Some c) e k h = absurd (false≢true h)
chosen false false None true k h = inr (inr (refl, h))
chosen false false None false k h = absurd (false≢true h)

-- a synchronised link is of one task, from its spawn, or from an end that it waits for
pub linked : (H : History) (x u : Event) → links Synchronised H x u ≡ true → (is_of x.task u ≡ true) ⊎ ((spawns x.task u ≡ true) ⊎ ((is_end u.action ≡ true) × ((holds (own x.task H) u.task ≡ true) ⊎ (awaits H x.task x.action u.task ≡ true))))
linked H x u h =
    ⊎_elim (λ a. inl a) (λ a. ⊎_elim (λ b. inr (inl b)) (λ b. inr (inr (b.0, end_counts H x.task x.action u.task b.1))) a)
    (chosen (is_of x.task u) (spawns x.task u) (shared x.action u.action) (is_end u.action) (end_kind H x.task x.action u.task) h)

-- ---- what is closed

-- an event is named by itself with all in front of it: with one that passes, all pass to which links lead
abbrev pub IsClosed : Order → (History → Bool) → History → Type 0
IsClosed o keep H =
    (b : History) (x : Event) (X : History) → H ≡ b ++ x ∷ X → keep (x ∷ X) ≡ true → (m : History) (u : Event) (F : History) → X ≡ m ++ u ∷ F → links o X x u ≡ true → keep (u ∷ F) ≡ true

-- what comes in front is in front
pub stands_before : {o : Order} {F G : History} → ComesAfter o F G → (m : History) × (F ≡ m ++ G)
stands_before (directly o v u between front h) = (v ∷ between, refl)
stands_before (by_way {G = G} {H = H} f g) =
    let a = stands_before f in
    let b = stands_before g in (a.0 ++ b.0, a.1 ∙ ap (λ X. a.0 ++ X) b.1 ∙ sym (append_assoc a.0 b.0 H))

-- all to which the order leads pass too
pub closed_on : {o : Order} (keep : History → Bool) (H : History) → IsClosed o keep H → {F G : History} → ComesAfter o F G → (b : History) → H ≡ b ++ F → keep F ≡ true → keep G ≡ true
closed_on keep H c (directly o v u between front h) b s k = c b v (between ++ u ∷ front) s k between u front refl h
closed_on keep H c (by_way {F = F} {G = G} f g) b s k =
    let a = stands_before f in
    closed_on keep H c g (b ++ a.0) (s ∙ ap (λ X. b ++ X) a.1 ∙ sym (append_assoc b a.0 G)) (closed_on keep H c f b s k)

-- ---- and conflicts

shares_by : (b : Bool) (s : Conflict) → b ≡ true → (r : Conflict) × (some_if b s ≡ Some r)
shares_by true s h = (s, refl)
shares_by false s h = absurd (false≢true h)

shares_cell : (a b : Action) → conflicts a b ≡ true → (r : Conflict) × (shared a b ≡ Some r)
shares_cell (Store c x) b h = shares_by (touches c b) (Cell c) h
shares_cell (Load r c x) b h = shares_by (is_store_to c b) (Cell c) h
shares_cell Start b h = absurd (false≢true h)
shares_cell (Let r x) b h = absurd (false≢true h)
shares_cell (Print x) b h = absurd (false≢true h)
shares_cell (Spawn s) b h = absurd (false≢true h)
shares_cell (Wait items) b h = absurd (false≢true h)
shares_cell Open b h = absurd (false≢true h)
shares_cell Close b h = absurd (false≢true h)
shares_cell (Test y) b h = absurd (false≢true h)
shares_cell End b h = absurd (false≢true h)
shares_cell Fault b h = absurd (false≢true h)

shares_output : (a b : Action) → (is_print a && is_print b) ≡ true → (r : Conflict) × (shared a b ≡ Some r)
shares_output (Print x) b h = shares_by (is_print b) Prints h
shares_output Start b h = absurd (false≢true h)
shares_output (Let r x) b h = absurd (false≢true h)
shares_output (Load r c x) b h = absurd (false≢true h)
shares_output (Store c x) b h = absurd (false≢true h)
shares_output (Spawn s) b h = absurd (false≢true h)
shares_output (Wait items) b h = absurd (false≢true h)
shares_output Open b h = absurd (false≢true h)
shares_output Close b h = absurd (false≢true h)
shares_output (Test y) b h = absurd (false≢true h)
shares_output End b h = absurd (false≢true h)
shares_output Fault b h = absurd (false≢true h)

-- the two share a cell or the output
abbrev pub clash : Action → Action → Bool
clash a b = conflicts a b || (is_print a && is_print b)

-- actions that clash share something
pub clash_shares : (a b : Action) → clash a b ≡ true → (r : Conflict) × (shared a b ≡ Some r)
clash_shares a b h = ⊎_elim (λ c. shares_cell a b c) (λ c. shares_output a b c) (or_cases (conflicts a b) (is_print a && is_print b) h)

-- where nothing races, with an event all pass that it conflicts with
pub tame : {o : Order} (keep : History → Bool) (H : History) → IsClosed o keep H → (HasRace o H → ⊥) → (b : History) (x : Event) (m : History) (w : Event) (F : History) → H ≡ b ++ x ∷ (m ++ w ∷ F) → keep (x ∷ (m ++ w ∷ F)) ≡ true → is_of x.task w ≡ false → clash x.action w.action ≡ true → keep (w ∷ F) ≡ true
tame {o} keep H c free b x m w F s k n h =
    ⊎_elim (λ y. y)
    (λ y.
    let r = clash_shares x.action w.action h in
    absurd (free (record {
      newer = b;
      later = x ∷ (m ++ w ∷ F);
      earlier = w ∷ F;
      split = s;
      race = unordered o x w m F r.0 (ap (λ p. cond p None (shared x.action w.action)) n ∙ r.1) (λ a. both_ways (keep (w ∷ F)) y (closed_on keep H c a b s k));
    })))
    (cases_Bool (keep (w ∷ F)))
