-- The later event of a race, after what the order puts in front of either.
use Rattle.std.proofs.Common.{◌≡◌, inl, inr, ℤ, List, [], ◌∷◌, ◌++◌, Bool, true, false, cond, ◌&&◌, ◌||◌, refl, sym, ap, ◌∙◌, subst, Option, Some, None, option_map, is_some}
use Rattle.std.specs.List.{list_any}
use Rattle.std.specs.Option.{option_or}
use Rattle.std.proofs.lemmas.Bool.{false≢true}
use Rattle.tb_model.specs.declared.action.Action.{Action}
use Rattle.tb_model.specs.declared.action.Action.TheVariants.{Start, Let, Load, Store, Print, Spawn, Wait, Open, Close, Test, End, Fault}
use Rattle.tb_model.specs.declared.event.Event.{Event}
use Rattle.tb_model.specs.Names.{Name}
use Rattle.tb_model.specs.Facts.{History, is_of, own, holds, is_end, spawns}
use Rattle.tb_model.specs.Legal.{Cells, Continues, MayFollow}
use Rattle.tb_model.specs.Needs.{needs}
use Rattle.tb_model.specs.State.{called_by, spawn_of}
use Rattle.tb_model.specs.Program.{loaded}
use Rattle.tb_model.specs.Hindrances.{number_read}
use Rattle.tb_model.proofs.PartsLemmas.{Parts, own_same}
use Rattle.tb_model.proofs.TestLemmas.{none_weaker}
use Rattle.tb_model.proofs.RemovalLemmas.{needs_own, needs_spawn, follows_stays}
use Rattle.tb_races.specs.declared.conflict.Conflict.{Conflict}
use Rattle.tb_races.specs.declared.need_kind.NeedKind.{NeedKind}
use Rattle.tb_races.specs.declared.need_kind.NeedKind.TheVariants.{Task, Spawn as Spawned, Conflict as Conflicts, Undeferred}
use Rattle.tb_races.specs.Kinds.{some_if, shared, wait_kind, end_kind}
use Rattle.tb_races.specs.Orders.{WithExclusion, counts_some, links}
use Rattle.tb_one_run.specs.Outcomes.{passing, with_number, as_read_at}
use Rattle.tb_one_run.specs.Behaviours.{IsNoLoad, OnlyReads, Behaviour, given, IsRunOf, IsNextOf}
use Rattle.tb_one_run.proofs.BehaviourLemmas.{some_one, given_stays}
use Rattle.tb_one_run.proofs.PassingLemmas.{failing, passing_parts, none_failing}
use Rattle.tb_one_run.proofs.FrontLemmas.{end_counts}

-- ---- an action with another value

-- what is given with another value says that value
given_with : (g : ℤ → Option Action) → OnlyReads g → (a : Action) (x : ℤ) → g (loaded a) ≡ Some a → g (loaded (with_number x a)) ≡ Some (with_number x a)
given_with g (inl o) a x p = o.2 (loaded (with_number x a)) ∙ sym (o.2 (loaded a)) ∙ p ∙ ap Some (kept a (subst IsNoLoad (sym (o.2 (loaded a)) ∙ p) o.1))
  where
    kept : (a : Action) → IsNoLoad (Some a) → a ≡ with_number x a
    kept (Load r c y) n = absurd n
    kept Start n = refl
    kept (Let r y) n = refl
    kept (Store c y) n = refl
    kept (Print y) n = refl
    kept (Spawn s) n = refl
    kept (Wait items) n = refl
    kept Open n = refl
    kept Close n = refl
    kept (Test b) n = refl
    kept End n = refl
    kept Fault n = refl
given_with g (inr o) a x p =
    let l : a ≡ Load o.0 o.1 (loaded a) = some_one (sym p ∙ o.2 (loaded a)) in
    let m : with_number x a ≡ Load o.0 o.1 x = ap (with_number x) l in
    o.2 (loaded (with_number x a)) ∙ ap (λ y. Some (Load o.0 o.1 y)) (ap loaded m) ∙ ap Some (sym m)

-- ---- an action that waits for nothing but past links of its own task

abbrev quiet : Name → Event
quiet t = record { task = t; action = Open }

no_end_shared : (a b : Action) (r : Conflict) → is_end b ≡ true → shared a b ≡ None
no_end_shared (Store c x) End r h = refl
no_end_shared (Store c x) Fault r h = refl
no_end_shared (Load k c x) End r h = refl
no_end_shared (Load k c x) Fault r h = refl
no_end_shared (Print x) End r h = refl
no_end_shared (Print x) Fault r h = refl
no_end_shared Start b r h = refl
no_end_shared (Let k x) b r h = refl
no_end_shared (Spawn s) b r h = refl
no_end_shared (Wait items) b r h = refl
no_end_shared Open b r h = refl
no_end_shared Close b r h = refl
no_end_shared (Test y) b r h = refl
no_end_shared End b r h = refl
no_end_shared Fault b r h = refl
no_end_shared a Start r h = absurd (false≢true h)
no_end_shared a (Let k x) r h = absurd (false≢true h)
no_end_shared a (Load k c x) r h = absurd (false≢true h)
no_end_shared a (Store c x) r h = absurd (false≢true h)
no_end_shared a (Print x) r h = absurd (false≢true h)
no_end_shared a (Spawn s) r h = absurd (false≢true h)
no_end_shared a (Wait items) r h = absurd (false≢true h)
no_end_shared a Open r h = absurd (false≢true h)
no_end_shared a Close r h = absurd (false≢true h)
no_end_shared a (Test y) r h = absurd (false≢true h)

or_some : (o p : Option NeedKind) → is_some p ≡ true → is_some (option_or o p) ≡ true
or_some (Some k) p h = refl
or_some None p h = h

held_some : (b : Bool) (k : NeedKind) → b ≡ true → is_some (some_if b k) ≡ true
held_some true k h = refl
held_some false k h = absurd (false≢true h)

quiet_counts : (p q e h : Bool) (s : Option Conflict) (k : Option NeedKind) → (e ≡ true → s ≡ None) → (h ≡ true → counts_some WithExclusion k ≡ true) → (p || (q || (false || ((e && (h || false)) || false)))) ≡ true → counts_some WithExclusion (cond p (Some Task) (cond q (Some Spawned) (option_or (option_map Conflicts s) (cond e k None)))) ≡ true
quiet_counts true q e h s k f g z = refl
quiet_counts false true e h s k f g z = refl
quiet_counts false false true true s k f g z =
    ap (λ c. counts_some WithExclusion (option_or (option_map Conflicts c) k)) (f refl) ∙ g refl
quiet_counts false false true false s k f g z = absurd (false≢true z)
quiet_counts false false false h s k f g z = absurd (false≢true z)

quiet_links : (H : History) (v u : Event) (r : Conflict) → needs H (quiet v.task) u ≡ true → links WithExclusion H v u ≡ true
quiet_links H v u r h =
    quiet_counts (is_of v.task u) (spawns v.task u) (is_end u.action) (holds (own v.task H) u.task) (shared v.action u.action) (end_kind H v.task v.action u.task)
    (λ e. no_end_shared v.action u.action r e)
    (λ o. end_counts H v.task v.action u.task (or_some (wait_kind H v.task v.action u.task) _ (held_some (holds (own v.task H) u.task) Undeferred o)))
    h

-- ---- the event

-- who shares a cell or the output is under way
under_way : (cells : Cells) (t : Name) (acts : List Action) (a b : Action) (r : Conflict) → shared a b ≡ Some r → Continues cells t acts a → Continues cells t acts Open
under_way cells t acts (Store c x) b r s h = h.0
under_way cells t acts (Load k c x) b r s h = h.0
under_way cells t acts (Print x) b r s h = h
under_way cells t acts Start b r s h = cc
under_way cells t acts (Let k x) b r s h = cc
under_way cells t acts (Spawn spawn) b r s h = cc
under_way cells t acts (Wait items) b r s h = cc
under_way cells t acts Open b r s h = cc
under_way cells t acts Close b r s h = cc
under_way cells t acts (Test y) b r s h = cc
under_way cells t acts End b r s h = cc
under_way cells t acts Fault b r s h = cc

-- a task under way may go on with what shares a cell or the output, where nothing blocks it
may_go_on : (cells : Cells) (G : History) (t : Name) (a b : Action) (r : Conflict) → shared a b ≡ Some r → Continues cells t (own t G) a → MayFollow cells G (quiet t) → MayFollow cells G (record { task = t; action = with_number (number_read cells G a) a })
may_go_on cells G t (Store c x) b r s h m = record { own = h; resumed = m.resumed; timely = tt }
may_go_on cells G t (Load k c x) b r s h m = record { own = h; resumed = m.resumed; timely = refl }
may_go_on cells G t (Print x) b r s h m = record { own = h; resumed = m.resumed; timely = tt }
may_go_on cells G t Start b r s h m = cc
may_go_on cells G t (Let k x) b r s h m = cc
may_go_on cells G t (Spawn spawn) b r s h m = cc
may_go_on cells G t (Wait items) b r s h m = cc
may_go_on cells G t Open b r s h m = cc
may_go_on cells G t Close b r s h m = cc
may_go_on cells G t (Test y) b r s h m = cc
may_go_on cells G t End b r s h m = cc
may_go_on cells G t Fault b r s h m = cc

module _ (B : Behaviour) (p : History → Bool) (f : Event) (F : History) (b : Action) (r : Conflict) (shares : shared f.action b ≡ Some r) (l : IsRunOf B (f ∷ F)) (keeps : (k : History) (u : Event) (U : History) → F ≡ k ++ u ∷ U → links WithExclusion F f u ≡ true → p (u ∷ U) ≡ true) where
  abbrev G : History
  G = passing p F

  abbrev s : Parts F G (failing p F)
  s = passing_parts p F

  none : list_any (needs F (quiet f.task)) (failing p F) ≡ false
  none = none_failing p (needs F (quiet f.task)) [] F F refl (λ k u U q n. keeps k u U q (quiet_links F f u r n))

  none_own : list_any (is_of f.task) (failing p F) ≡ false
  none_own = none_weaker (is_of f.task) (needs F (quiet f.task)) (needs_own F f.task Open) (failing p F) none

  none_spawn : list_any (spawns f.task) (failing p F) ≡ false
  none_spawn = none_weaker (spawns f.task) (needs F (quiet f.task)) (needs_spawn F f.task Open) (failing p F) none

  quiet_may : MayFollow B.cells G (quiet f.task)
  quiet_may =
      follows_stays B.cells F G (failing p F) s (quiet f.task) none
      (record { own = under_way B.cells f.task (own f.task F) f.action b r shares l.0.1.own; resumed = l.0.1.resumed; timely = tt })

  -- so it is next, with the value that its cell has there
  pub later_next : IsNextOf B G (as_read_at B.cells G f)
  later_next = record {
    may =
        may_go_on B.cells G f.task f.action b r shares
        (subst (λ acts. Continues B.cells f.task acts f.action) (sym (own_same f.task s none_own)) l.0.1.own) quiet_may;
    behaves =
        let x = number_read B.cells G f.action in
        given_with (given B G f.task) (B.reads (called_by B.root_line (spawn_of f.task G)) f.task (own f.task G)) f.action x (given_stays B s f.task none_own none_spawn (loaded f.action) ∙ l.1.1);
  }
