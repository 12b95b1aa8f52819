-- An event that may follow isn't refused; one that isn't refused has the ordinal that is due.
use Rattle.std.proofs.Common.{◌≡◌, ◌≢◌, ℕ, suc, ℤ, List, [], ◌∷◌, Bool, true, false, cond, length, map, ⊎_elim, refl, ap, ◌∙◌, subst, Option, Some, None}
use Rattle.std.specs.List.{list_any}
use Rattle.std.proofs.lemmas.Bool.{false_from_ne_true}
use Rattle.std.proofs.lemmas.Bool.Decides.{Decides-int_eq}
use Rattle.tb_model.specs.declared.action.Action.{Action}
use Rattle.tb_model.specs.declared.action.Action.TheVariants.{Start, Let, Load, Store, Print, Spawn, Wait, Open, Close, Test, End, Fault}
use Rattle.tb_model.specs.declared.event.Event.{Event}
use Rattle.tb_model.specs.Names.{Name, child, same_name}
use Rattle.tb_model.specs.Facts.{History, own, ends, is_start, last, groups}
use Rattle.tb_model.specs.State.{open_groups, children_since}
use Rattle.tb_model.specs.Legal.{Cells, IsRunning, Continues, IsTimely, Legal, MayFollow, first_number, spawn_count}
use Rattle.tb_model.specs.Needs.{step_of}
use Rattle.tb_model.proofs.FactsLemmas.{begun, ends_own, not_running, not_started}
use Rattle.tb_model.proofs.GroupsLemmas.{groups_since}
use Rattle.tb_model.proofs.HindranceLemmas.{nothing_keeps}
use Rattle.tb_model.proofs.NeedsLemmas.{may_spawned}
use Rattle.tb_model.proofs.TestLemmas.{same_refl}
use Rattle.tb_plan.specs.Plans.{names_allowed}
use Rattle.tb_verdict.specs.Refusals.{refusal_of, out_of_turn, started_by, is_due, misread, misnamed, unopened, unfit}
use Rattle.tb_verdict.specs.declared.refusal.Refusal.{Refusal}
use Rattle.tb_verdict.specs.declared.refusal.Refusal.TheVariants.{Reads, Child, Step}
use Rattle.tb_verdict.proofs.FollowLemmas.{some_none, cleared, may_follow_unrefused}
use Rattle.tb_verdict.proofs.RefusalLemmas.{clear}

-- ---- a task in its turn

-- who is under way has executed steps
later : (acts : List Action) → IsRunning acts → started_by (length acts) false ≡ None
later [] r = absurd r
later (a ∷ acts) r = refl

module _ (first : Cells) (t : Name) where
  begins : (acts : List Action) → acts ≡ [] → started_by (length acts) true ≡ None
  begins acts e = ap (λ (others : List Action). started_by (length others) true) e

  in_turn : (acts : List Action) (a : Action) → Continues first t acts a → started_by (length acts) (is_start a) ≡ None
  in_turn acts Start c = begins acts c
  in_turn acts (Let r x) c = later acts c.0
  in_turn acts (Load r d x) c = later acts c.0
  in_turn acts (Store d x) c = later acts c.0
  in_turn acts (Print x) c = later acts c
  in_turn acts (Spawn s) c = later acts c.0
  in_turn acts (Wait items) c = later acts c.0
  in_turn acts Open c = later acts c
  in_turn acts Close c = later acts c.0
  in_turn acts (Test b) c = later acts c
  in_turn acts End c = later acts c
  in_turn acts Fault c = later acts c

-- a step with the ordinal that is due is refused at most as a start is, or what isn't one
turn_due : (b : Bool) (n : ℕ) (o : Option Refusal) → b ≡ true → o ≡ None → cond b o (Some (Step n)) ≡ None
turn_due true n o d e = e
turn_due false n o d e = absurd (let h : ◌≡◌ {A = Bool} false true = d in cc)

due_by : (b : Bool) (n : ℕ) (o : Option Refusal) → cond b o (Some (Step n)) ≡ None → b ≡ true
due_by true n o e = refl
due_by false n o e = absurd (some_none (Step n) e)

-- ---- what the action says

read_right : (x number : ℤ) → x ≡ number → misread x number ≡ None
read_right x number e = ap (λ b. cond b None (Some (Reads number))) ((Decides-int_eq x number).1 e)

named_right : (u due : Name) → u ≡ due → misnamed u due ≡ None
named_right u due e =
    ap (λ b. cond b None (Some (Child due))) (subst (λ (w : Name). same_name u w ≡ true) e (same_refl u))

some_opened : (ks : List ℕ) (acts : List Action) → map (λ k. children_since k acts) ks ≢ [] → unopened (length ks) ≡ None
some_opened [] acts h = absurd (h refl)
some_opened (k ∷ ks) acts h = refl

closed_right : (acts : List Action) → groups acts ≢ [] → unopened (length (open_groups acts)) ≡ None
closed_right acts h = some_opened (open_groups acts) acts (λ e. h (groups_since acts ∙ e))

fits : (first : Cells) (H : History) (t : Name) (a : Action) → Continues first t (own t H) a → IsTimely first H t a → unfit first H t a ≡ None
fits first H t (Load r d x) c m = read_right x (last (first_number first d) d H) m
fits first H t (Spawn s) c m = named_right s.child (child t (suc (spawn_count (own t H)))) c.1
fits first H t Close c m = closed_right (own t H) c.1
fits first H t Start c m = refl
fits first H t (Let r x) c m = refl
fits first H t (Store d x) c m = refl
fits first H t (Print x) c m = refl
fits first H t (Wait items) c m = refl
fits first H t Open c m = refl
fits first H t (Test b) c m = refl
fits first H t End c m = refl
fits first H t Fault c m = refl

-- ---- both ways

module _ (first : Cells) (H : History) (k : Option ℕ) (v : Event) where
  going : Legal first H → MayFollow first H v → list_any (ends v.task) H ≡ false
  going legal m =
      false_from_ne_true (list_any (ends v.task) H)
      (λ e. ⊎_elim (λ s. not_started v.task H (ends v.task) (ends_own v.task) (subst (Continues first v.task (own v.task H)) s m.own) e)
      (λ r. not_running first H v.task legal e r)
      (begun first v.task (own v.task H) v.action m.own))

  pub unrefused : Legal first (v ∷ H) → is_due k (step_of H v).k ≡ true → refusal_of first H k v ≡ None
  unrefused l due =
      let n = length (own v.task H) in
      let turn : out_of_turn k n v.action ≡ None = turn_due (is_due k (suc n)) (suc n) (started_by n (is_start v.action)) due (in_turn first v.task (own v.task H) v.action l.1.own) in
      clear first H k v (may_spawned first H v l.0 l.1) (going l.0 l.1) turn (nothing_keeps first H v.task v.action l.1)
      ∙ fits first H v.task v.action l.1.own l.1.timely

  pub longer : Legal first H → names_allowed (length first) v.action ≡ true → refusal_of first H k v ≡ None → (is_due k (step_of H v).k ≡ true) × Legal first (v ∷ H)
  longer legal p none =
      let n = length (own v.task H) in (
        due_by (is_due k (suc n)) (suc n) (started_by n (is_start v.action)) (cleared first H k v none).turn,
        (legal, may_follow_unrefused first H k v p none),
      )
