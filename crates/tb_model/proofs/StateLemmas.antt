-- What the state of a legal history is, read off the actions of one task.
use Rattle.std.proofs.Common.{◌≡◌, ◌≢◌, ◌≤◌, ℕ, suc, List, [], ◌∷◌, ◌++◌, Bool, true, false, cond, ◌&&◌, ◌||◌, not, ◌⊎◌, inl, inr, ⊎_elim, ◌↔◌, refl, sym, ap, ◌∙◌, subst, arith, ◌==◌, eq-eqb, eqb-true, Some, append-nil}
use Rattle.std.specs.List.{list_any}
use Rattle.std.proofs.lemmas.Bool.{or_cases, or_left, or_right, both_ways, cases_Bool, false≢true, false_from_ne_true}
use Rattle.tb_model.specs.declared.action.Action.{Action}
use Rattle.tb_model.specs.declared.action.Action.TheVariants.{Start, Let, Load, Store, Print, Spawn, Wait, Open, Close, Test, End, Fault}
use Rattle.tb_model.specs.Names.{Name, same_name}
use Rattle.tb_model.specs.Facts.{History, is_of, own, prepend_if, is_end, is_start, is_spawn_of, items_of, items_for, apart, spawns, starts, ends, HasStarted, HasEnded, IsSpawned}
use Rattle.tb_model.specs.Legal.{Cells, IsRunning, spawn_count, Continues, Legal}
use Rattle.tb_model.specs.State.{status_of, has_begun, is_over, spawn_of, items_in}
use Rattle.tb_model.proofs.TestLemmas.{same_true, same_refl}
use Rattle.tb_model.proofs.FactsLemmas.{spawn_names, spawn_bound, cons_head, begun}
use Rattle.tb_model.proofs.SettledLemmas.{ended_later}
use Rattle.tb_model.proofs.RulesLemmas.{rules, started_where}
use Rattle.tb_model.proofs.SiblingsLemmas.{no_items}
use Rattle.tb_model.proofs.FactsLemmas.{items_none, not_again}
use Rattle.tb_model.proofs.FactsLemmas.{spawned_by}

-- ---- the status of a task

over_last : (a : Action) (acts : List Action) → is_over (status_of (a ∷ acts)) ≡ is_end a
over_last End acts = refl
over_last Fault acts = refl
over_last _ acts = refl

begun_last : (a : Action) (acts : List Action) → has_begun (status_of (a ∷ acts)) ≡ true
begun_last End acts = refl
begun_last Fault acts = refl
begun_last _ acts = refl

running_begun : (acts : List Action) → IsRunning acts → has_begun (status_of acts) ≡ true
running_begun [] r = absurd r
running_begun (a ∷ acts) r = begun_last a acts

not_over : (acts : List Action) → (acts ≡ []) ⊎ (IsRunning acts) → is_over (status_of acts) ≡ false
not_over [] c = refl
not_over (a ∷ acts) c =
    over_last a acts ∙ ⊎_elim (λ e. absurd (cons e)) (λ r. false_from_ne_true (is_end a) (λ e. both_ways (not (is_end a)) (ap not e) r)) c
  where
    cons : a ∷ acts ≡ [] → ⊥
    cons e = cc

-- what goes on hasn't ended
goes_on : (cells : Cells) (t : Name) (acts : List Action) (a : Action) → Continues cells t acts a → (acts ≡ []) ⊎ (IsRunning acts)
goes_on cells t acts a c =
    ⊎_elim (λ s. inl (subst (Continues cells t acts) s c)) (λ r. inr r) (begun cells t acts a c)

-- whether a task has ended
pub over_ended : (cells : Cells) (H : History) (t : Name) → Legal cells H → list_any (ends t) H ≡ is_over (status_of (own t H))
over_ended cells [] t l = refl
over_ended cells (v ∷ H) t l = at (is_of t v) refl (over_ended cells H t l.0)
  where
    at : (b : Bool) → is_of t v ≡ b → list_any (ends t) H ≡ is_over (status_of (own t H)) → (b && is_end v.action || list_any (ends t) H) ≡ is_over (status_of (prepend_if b v.action (own t H)))
    at false o e = e
    at true o e =
        let c = subst (λ u. Continues cells u (own u H) v.action) (same_true v.task t o) l.1.own in
        let n : list_any (ends t) H ≡ false = e ∙ not_over (own t H) (goes_on cells t (own t H) v.action c) in
        ap (λ b. is_end v.action || b) n ∙ or_false (is_end v.action) ∙ sym (over_last v.action (own t H))
      where
        or_false : (b : Bool) → (b || false) ≡ b
        or_false true = refl
        or_false false = refl

-- whether it has started
pub begun_started : (cells : Cells) (H : History) (t : Name) → Legal cells H → list_any (starts t) H ≡ has_begun (status_of (own t H))
begun_started cells [] t l = refl
begun_started cells (v ∷ H) t l = at (is_of t v) refl (begun_started cells H t l.0)
  where
    at : (b : Bool) → is_of t v ≡ b → list_any (starts t) H ≡ has_begun (status_of (own t H)) → (b && is_start v.action || list_any (starts t) H) ≡ has_begun (status_of (prepend_if b v.action (own t H)))
    at false o e = e
    at true o e =
        let c = subst (λ u. Continues cells u (own u H) v.action) (same_true v.task t o) l.1.own in
        ⊎_elim (λ s. or_left (is_start v.action) (list_any (starts t) H) (ap is_start s)) (λ r. or_right (is_start v.action) (list_any (starts t) H) (e ∙ running_begun (own t H) r))
        (begun cells t (own t H) v.action c)
        ∙ sym (begun_last v.action (own t H))

-- ---- children are numbered from 1, in the order of their spawns

spawned_positive : (cells : Cells) (H : History) (n : ℕ) (t : Name) → Legal cells H → list_any (spawns (n ∷ t)) H ≡ true → 1 ≤ n
spawned_positive cells [] n t l h = absurd (false≢true h)
spawned_positive cells (v ∷ H) n t l h =
    ⊎_elim
    (λ s. let k : n ≡ suc (spawn_count (own v.task H)) = cons_head (spawn_names cells v.task (n ∷ t) (own v.task H) v.action l.1.own s) in omega arith)
    (λ r. spawned_positive cells H n t l.0 r)
    (or_cases (spawns (n ∷ t) v) (list_any (spawns (n ∷ t)) H) h)

-- an action that generates nothing, or the next child
counted : (cells : Cells) (t : Name) (acts : List Action) (a : Action) → Continues cells t acts a → (spawn_count (a ∷ acts) ≡ spawn_count acts) ⊎ ((spawn_count (a ∷ acts) ≡ suc (spawn_count acts)) × (is_spawn_of (suc (spawn_count acts) ∷ t) a ≡ true))
counted cells t acts (Spawn s) c =
    inr (refl, subst (λ w. same_name w (suc (spawn_count acts) ∷ t) ≡ true) (sym c.1) (same_refl (suc (spawn_count acts) ∷ t)))
counted cells t acts _ c = inl refl

numbered : (cells : Cells) (H : History) (n : ℕ) (t : Name) → Legal cells H → 1 ≤ n → n ≤ spawn_count (own t H) → list_any (spawns (n ∷ t)) H ≡ true
numbered cells [] n t l p m = absurd (omega arith)
numbered cells (v ∷ H) n t l p m = at (is_of t v) refl m (numbered cells H n t l.0 p)
  where
    at : (b : Bool) → is_of t v ≡ b → n ≤ spawn_count (prepend_if b v.action (own t H)) → (n ≤ spawn_count (own t H) → list_any (spawns (n ∷ t)) H ≡ true) → (spawns (n ∷ t) v || list_any (spawns (n ∷ t)) H) ≡ true
    at false o m rest = or_right (spawns (n ∷ t) v) _ (rest m)
    at true o m rest =
        let c = subst (λ u. Continues cells u (own u H) v.action) (same_true v.task t o) l.1.own in
        ⊎_elim (λ e. or_right (spawns (n ∷ t) v) _ (rest (omega (arith, e))))
        (λ s.
        ⊎_elim (λ q. or_left (spawns (n ∷ t) v) _ (subst (λ k. is_spawn_of (k ∷ t) v.action ≡ true) (sym (eqb-true n (suc (spawn_count (own t H))) q)) s.1))
        (λ q. or_right (spawns (n ∷ t) v) _ (rest (smaller s.0 q)))
        (cases_Bool (n == suc (spawn_count (own t H)))))
        (counted cells t (own t H) v.action c)
      where
        smaller : spawn_count (v.action ∷ own t H) ≡ suc (spawn_count (own t H)) → (n == suc (spawn_count (own t H))) ≡ false → n ≤ spawn_count (own t H)
        smaller e q =
            let d : n ≢ suc (spawn_count (own t H)) = λ z. both_ways (n == suc (spawn_count (own t H))) q (eq-eqb n (suc (spawn_count (own t H))) z) in
            omega (arith, d)

-- a child was spawned exactly where its ordinal is from 1 to the count of the task's spawns
pub children_numbered : (cells : Cells) (H : History) (t : Name) (n : ℕ) → Legal cells H → IsSpawned H (n ∷ t) ↔ ((1 ≤ n) × (n ≤ spawn_count (own t H)))
children_numbered cells H t n l =
    (λ s. (spawned_positive cells H n t l s, spawn_bound cells H n t l s), λ b. numbered cells H n t l b.0 b.1)

-- ---- a task is generated once

items_named : (t : Name) (a : Action) → is_spawn_of t a ≡ true → items_for t a ++ [] ≡ items_in (Some a)
items_named t (Spawn s) h = ap (λ b. cond b s.items [] ++ []) h ∙ append-nil s.items
items_named t Start h = absurd (false≢true h)
items_named t (Let r x) h = absurd (false≢true h)
items_named t (Load r c x) h = absurd (false≢true h)
items_named t (Store c x) h = absurd (false≢true h)
items_named t (Print x) h = absurd (false≢true h)
items_named t (Wait items) h = absurd (false≢true h)
items_named t Open h = absurd (false≢true h)
items_named t Close h = absurd (false≢true h)
items_named t (Test b) h = absurd (false≢true h)
items_named t End h = absurd (false≢true h)
items_named t Fault h = absurd (false≢true h)

-- a task's items are those that its spawn names
pub items_of_spawn : (cells : Cells) (H : History) (t : Name) → Legal cells H → items_of t H ≡ items_in (spawn_of t H)
items_of_spawn cells [] t l = refl
items_of_spawn cells (v ∷ H) t l = at (is_spawn_of t v.action) refl (items_of_spawn cells H t l.0)
  where
    at : (b : Bool) → is_spawn_of t v.action ≡ b → items_of t H ≡ items_in (spawn_of t H) → items_for t v.action ++ items_of t H ≡ items_in (cond b (Some v.action) (spawn_of t H))
    at false s e = ap (λ i. i ++ items_of t H) (items_none t v.action s) ∙ e
    at true s e =
        let n : list_any (spawns t) H ≡ false = false_from_ne_true (list_any (spawns t) H) (λ h. both_ways (spawns t v) (not_again cells H l.0 v l.1 t (spawned_by t H h)) s) in
        ap (λ i. items_for t v.action ++ i) (no_items t H n) ∙ items_named t v.action s

-- ---- of two tasks that exclude each other one has ended

ended_behind : (u t : Name) (a : Action) (H later front : History) → H ≡ later ++ record { task = t; action = a } ∷ front → HasEnded front u → HasEnded H u
ended_behind u t a H later front s e =
    subst (λ K. HasEnded K u) (sym s) (ended_later u later (record { task = t; action = a } ∷ front) (or_right (ends u (record { task = t; action = a })) _ e))

-- by the rule that one ends before the other starts
pub exclusion : (cells : Cells) (H : History) (t u : Name) → Legal cells H → apart H u t ≡ true → HasStarted H t → HasStarted H u → HasEnded H t ⊎ HasEnded H u
exclusion cells H t u l b st su =
    let s = started_where t H st in
    let q = started_where u H su in
    ⊎_elim (λ e. inr (ended_behind u t Start H s.1.later s.0 s.1.split e)) (λ e. inl (ended_behind t u Start H q.1.later q.0 q.1.split e))
    ((rules cells H l).alone t u s.0 q.0 s.1 q.1 b)
