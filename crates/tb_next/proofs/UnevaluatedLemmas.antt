-- What blocks a task's statement, by the statement as it is written.
use Rattle.std.proofs.Common.{◌≡◌, ℕ, suc, List, [], ◌∷◌, ◌&&◌, ◌||◌, ◌==◌, Bool, true, false, not, length, map, refl, sym, ap, ap₂, ◌∙◌, subst, ℤ, IsTrue, Option, Some, None, option_map, arith}
use Rattle.std.specs.Prelude.{is_none, is_some, IfNone, IfSome, IsSomeAnd}
use Rattle.std.specs.List.{list_any, list_all}
use Rattle.std.specs.Option.{option_or}
use Rattle.std.proofs.lemmas.Bool.{false≢true, and_parts, and_from}
use Rattle.std.proofs.lemmas.Bool.Decides.{nat_tests}
use Rattle.std.proofs.lemmas.Option.{none-some}
use Rattle.tb_model.specs.declared.place.Place.{Place}
use Rattle.tb_model.specs.declared.item.Item.{Item}
use Rattle.tb_model.specs.declared.clause.Clause.{Clause}
use Rattle.tb_model.specs.declared.action.Action.{Action}
use Rattle.tb_model.specs.declared.action.Action.TheVariants.{Start, Let, Load, Store, Print, Spawn, Wait, Open, Close, Test, End, Fault}
use Rattle.tb_model.specs.declared.statement.Statement.{Statement}
use Rattle.tb_model.specs.declared.statement.Statement.TheVariants.{Start as DoStart, Let as DoLet, Compute as DoCompute, Load as DoLoad, Store as DoStore, Print as DoPrint, Task as DoTask, Taskwait as DoTaskwait, Taskgroup as DoTaskgroup, EndTaskgroup as DoEndTaskgroup, Test as DoTest, End as DoEnd}
use Rattle.tb_model.specs.Names.{Name, child, is_child}
use Rattle.tb_model.specs.Items.{some_meet, is_before, has_no_items, meets}
use Rattle.tb_model.specs.Facts.{History, own, ends, is_spawned, items_of, covers}
use Rattle.tb_model.specs.State.{is_unended, is_unended_covered, is_unended_undeferred}
use Rattle.tb_model.specs.LeastNames.{IsLeastName}
use Rattle.tb_model.specs.Legal.{Cells, spawn_count}
use Rattle.tb_model.specs.Program.{Program, Instr, action_of, and_item, cell_at, computed, instr_at, is_deferred, is_met, items_at, items_or_fault, or_fault, place_at, planned, value, zero_ℤ}
use Rattle.tb_model.specs.Hindrances.{Hindrance, Refusal, By, Children, Undeferred, can_step, in_the_way, least_as, least_where, refusal_of, spawned_names}
use Rattle.tb_model.proofs.LeastNameLemmas.{one_least, least_found}
use Rattle.tb_plan.specs.declared.config.Config.{Config}
use Rattle.tb_plan.specs.declared.instr.Instr.{Instr as Read}
use Rattle.tb_plan.specs.Plans.{instruction}
use Rattle.tb_undo.specs.Standings.{Standing}
use Rattle.tb_core.specs.declared.step_refusal.StepRefusal.{StepRefusal}
use Rattle.tb_core.specs.declared.step_refusal.StepRefusal.TheVariants.{Memory, NoSuchTask, Ended, Full, Stale}
use Rattle.tb_core.specs.declared.step_refusal.StepRefusal.TheVariants.{Undeferred as NotDeferred, Waiting as Awaits, Excluded as IsExcluded, Children as HasChildren, Group as HasGroup}
use Rattle.tb_core.specs.Naming.{config_with, IsLong}
use Rattle.tb_core.specs.Refusals.{told_by}
use Rattle.tb_core.specs.Outcomes.{has_ended, IsKeptBy}
use Rattle.tb_core.specs.Seen.{Seen, history}
use Rattle.tb_core.specs.Situation.{config_of}
use Rattle.tb_next.specs.Fitting.{Fits}
use Rattle.tb_next.specs.Unevaluated.{follows_at, follows_some, hindrance_at, holding, is_good, is_named, stand_in, waited_for, IsKeptAt, IsNaming, IsWanting}
use Rattle.tb_next.proofs.PlanLemmas.{stands_at, holds_registers, known_refusal}

-- ---- the clauses are those of the items

module _ (cells : Cells) (regs : List ℤ) where
  -- they give items exactly where all their addresses are good
  pub all_good : (cs : List Clause) → list_all (is_good cells regs) cs ≡ is_some (items_at cells regs cs)
  all_good [] = refl
  all_good (c ∷ cs) = at (place_at cells regs c.address) (items_at cells regs cs) (all_good cs)
    where
      at : (p : Option Place) (o : Option (List Item)) → list_all (is_good cells regs) cs ≡ is_some o → (is_some p && list_all (is_good cells regs) cs) ≡ is_some (and_item p c.kind o)
      at None o e = refl
      at (Some p) None e = e
      at (Some p) (Some items) e = e

  -- what the clauses make of earlier items is what their items do
  record AreItems (cs : List Clause) (items : List Item) : Type 0 where
    none : (length cs == 0) ≡ has_no_items items
    follow : (earlier : List Item) → list_any (follows_some cells regs earlier) cs ≡ some_meet is_before items earlier

  are_items : (cs : List Clause) (items : List Item) → items_at cells regs cs ≡ Some items → AreItems cs items
  are_items [] items e = at items e
    where
      at : (items : List Item) → ◌≡◌ {A = Option (List Item)} (Some []) (Some items) → AreItems [] items
      at [] e = record { none = refl; follow = λ earlier. refl }
      at (i ∷ is) e = cc
  are_items (c ∷ cs) items e = at (place_at cells regs c.address) refl (items_at cells regs cs) (are_items cs) items e
    where
      alone : (b : Bool) → (b || false) ≡ b
      alone true = refl
      alone false = refl

      some : (n : ℕ) → (suc n == 0) ≡ false
      some n = grind (arith, nat_tests)

      at : (p : Option Place) → place_at cells regs c.address ≡ p → (o : Option (List Item)) → ((rest : List Item) → o ≡ Some rest → AreItems cs rest) → (items : List Item) → and_item p c.kind o ≡ Some items → AreItems (c ∷ cs) items
      at None q o more items e = cc
      at (Some p) q None more items e = cc
      at (Some p) q (Some rest) more items e =
          let all : (record { kind = c.kind; place = p } ∷ rest) ≡ items = cc in
          subst (AreItems (c ∷ cs)) all (record {
            none = some (length cs);
            follow = λ earlier. ap₂ (λ a b. a || b) (ap (λ z. follows_at z c.kind earlier) q ∙ alone (list_any (meets is_before (record { kind = c.kind; place = p })) earlier)) ((more rest refl).follow earlier);
          })

  pub named_so : (H : History) (t : Name) (cs : List Clause) (items : List Item) → items_at cells regs cs ≡ Some items → (u : Name) → is_named cells H t regs cs u ≡ covers H t items u
  named_so H t cs items e u =
      let k = are_items cs items e in
      ap₂ (λ a b. is_child t u && (a || b)) k.none (k.follow (items_of u H))

-- ---- the walk to a child for which a `taskwait` waits

module _ (cells : Cells) (H : History) (t : Name) (regs : List ℤ) (cs : List Clause) where
  -- the task is unended, and one for which the clauses wait
  abbrev pub IsWaitedFor : Name → Type 0
  IsWaitedFor u = (is_named cells H t regs cs u ≡ true) × (is_unended H u ≡ true)

  some_items : (o : Option (List Item)) → is_some o ≡ true → (items : List Item) × (o ≡ Some items)
  some_items (Some items) h = (items, refl)
  some_items None h = absurd (false≢true h)

  covered_spawned : (items : List Item) (u : Name) → is_unended_covered H t items u ≡ true → is_spawned H u ≡ true
  covered_spawned items u h = (and_parts (is_spawned H u) (not (list_any (ends u) H)) (and_parts (covers H t items u) (is_unended H u) h).1).0

  found_at : (items : List Item) → IsLeastName (λ u. IsTrue (is_unended_covered H t items u)) (least_where (is_unended_covered H t items) (spawned_names H))
  found_at items = least_found H (is_unended_covered H t items) (covered_spawned items)

  -- a bad address holds nothing up
  pub bad_passes : list_all (is_good cells regs) cs ≡ false → waited_for H t (items_at cells regs cs) ≡ None
  bad_passes h = at (items_at cells regs cs) (sym (all_good cells regs cs) ∙ h)
    where
      at : (o : Option (List Item)) → is_some o ≡ false → waited_for H t o ≡ None
      at None e = refl
      at (Some items) e = absurd (false≢true (sym e))

  module _ (good : list_all (is_good cells regs) cs ≡ true) where
    items_so : (items : List Item) × (items_at cells regs cs ≡ Some items)
    items_so = some_items (items_at cells regs cs) (sym (all_good cells regs cs) ∙ good)

    covered_so : (items : List Item) → items_at cells regs cs ≡ Some items → (u : Name) → IsWaitedFor u → is_unended_covered H t items u ≡ true
    covered_so items is u w = and_from (covers H t items u) (is_unended H u) (sym (named_so cells regs H t cs items is u) ∙ w.0) w.1

    waited_so : (items : List Item) → items_at cells regs cs ≡ Some items → (u : Name) → is_unended_covered H t items u ≡ true → IsWaitedFor u
    waited_so items is u h =
        let q = and_parts (covers H t items u) (is_unended H u) h in
        (named_so cells regs H t cs items is u ∙ q.0, q.1)

    -- the least for which the clauses wait is that for which the `taskwait` does
    pub least_waits : (o : Option Name) → IsLeastName IsWaitedFor o → waited_for H t (items_at cells regs cs) ≡ o
    least_waits o l =
        let k = items_so in
        ap (waited_for H t) k.1
        ∙ one_least (λ u. IsTrue (is_unended_covered H t k.0 u)) (least_where (is_unended_covered H t k.0) (spawned_names H)) o (found_at k.0) (record {
          found = λ u e. covered_so k.0 k.1 u (l.found u e);
          least = λ u h. l.least u (waited_so k.0 k.1 u h);
        })

-- ---- what is in the way of the statement

or_none : (o : Option Hindrance) → o ≡ option_or o None
or_none None = refl
or_none (Some h) = refl

or_both : (o w : Option Hindrance) → option_or o w ≡ option_or (option_or o None) w
or_both None w = refl
or_both (Some h) w = refl

module _ (H : History) (t : Name) where
  same_way : (a b : Action) → in_the_way H t a ≡ in_the_way H t b → in_the_way H t a ≡ option_or (in_the_way H t b) None
  same_way a b e = e ∙ or_none (in_the_way H t b)

  -- what blocks the action of t is what blocks the statement
  pub way_by : (cells : Cells) (n : ℕ) (regs : List ℤ) (x : ℤ) (s : Statement) → in_the_way H t (action_of cells t n regs x s) ≡ hindrance_at cells H t regs s
  way_by cells n regs x DoStart = same_way Start Start refl
  way_by cells n regs x (DoLet r a) = same_way (Let r (value regs a)) Open refl
  way_by cells n regs x (DoCompute r a o b) = same_way (Let r (computed o (value regs a) (value regs b))) Open refl
  way_by cells n regs x (DoLoad r a) = at (cell_at cells (value regs a))
    where
      at : (o : Option ℕ) → in_the_way H t (or_fault o (λ c. Load r c x)) ≡ option_or (in_the_way H t Open) None
      at None = same_way Fault Open refl
      at (Some c) = same_way (Load r c x) Open refl
  way_by cells n regs x (DoStore a b) = at (cell_at cells (value regs a))
    where
      at : (o : Option ℕ) → in_the_way H t (or_fault o (λ c. Store c (value regs b))) ≡ option_or (in_the_way H t Open) None
      at None = same_way Fault Open refl
      at (Some c) = same_way (Store c (value regs b)) Open refl
  way_by cells n regs x (DoPrint a) = same_way (Print (value regs a)) Open refl
  way_by cells n regs x (DoTask body args depends c) = at (items_at cells regs depends)
    where
      at : (o : Option (List Item)) → in_the_way H t (items_or_fault o (λ is. Spawn (record { child = child t n; body = body; args = map (value regs) args; items = is; deferred = is_deferred regs c }))) ≡ option_or (in_the_way H t Open) None
      at None = same_way Fault Open refl
      at (Some is) = same_way (Spawn (record { child = child t n; body = body; args = map (value regs) args; items = is; deferred = is_deferred regs c })) Open refl
  way_by cells n regs x (DoTaskwait depends) = at (items_at cells regs depends)
    where
      at : (o : Option (List Item)) → in_the_way H t (items_or_fault o Wait) ≡ option_or (in_the_way H t Open) (option_map Children (waited_for H t o))
      at None = same_way Fault Open refl
      at (Some items) = or_both (least_as Undeferred (is_unended_undeferred H t) H) (option_map Children (least_where (is_unended_covered H t items) (spawned_names H)))
  way_by cells n regs x DoTaskgroup = same_way Open Open refl
  way_by cells n regs x DoEndTaskgroup = same_way Close Close refl
  way_by cells n regs x (DoTest c) = same_way (Test (is_met regs c)) Open refl
  way_by cells n regs x DoEnd = same_way End Open refl

-- what blocks the statement is why the step of a task that is there and goes on is refused
pub refused_by_statement : (P : Program) (run : Seen) (t : Name) (k : Standing) (i : Read) → Fits P run → is_spawned (history run) t ≡ true → has_ended run t ≡ false → config_of run t ≡ config_with t k
    → instruction i ≡ instr_at P k.at → refusal_of P (history run) t ≡ option_map By (hindrance_at P.cells (history run) t k.regs i.statement)
refused_by_statement P run t k i f there going here instr =
    known_refusal (is_spawned H t) (list_any (ends t) H) (in_the_way H t (planned P H t zero_ℤ)) there going
    ∙ ap (λ a. option_map By (in_the_way H t a)) planned_so
    ∙ ap (option_map By) (way_by H t P.cells number k.regs zero_ℤ i.statement)
  where
    H : History
    H = history run

    number : ℕ
    number = suc (spawn_count (own t H))

    planned_so : planned P H t zero_ℤ ≡ action_of P.cells t number k.regs zero_ℤ i.statement
    planned_so =
        ap₂ (λ (regs : List ℤ) (s : Statement). action_of P.cells t number regs zero_ℤ s)
        (sym (holds_registers P run t) ∙ ap (λ (c : Config). c.regs) here)
        (ap (λ n. (instr_at P n).statement) (sym (stands_at P run t f) ∙ ap (λ (c : Config). c.at) here) ∙ ap (λ (j : Instr). j.statement) (sym instr))

-- ---- what is said of it

pub kept_first : (o w : Option Hindrance) (run : Seen) (t : Name) (a : Action) (e : StepRefusal) → o ≡ in_the_way (history run) t a → IsKeptBy run t a e → IsNaming (option_or o w) e
kept_first o w run t a e is k = record {
  hindrance = k.hindrance;
  found = ap (λ z. option_or z w) (is ∙ k.found);
  named = k.named;
}

pub kept_behind : (o : Option Hindrance) (w v : Option Name) (r : Option StepRefusal) → o ≡ None → w ≡ v → IfSome r (IsNaming (option_map Children w)) → IfSome r (IsNaming (option_or o (option_map Children v)))
kept_behind o w v None none same k = tt
kept_behind o w v (Some e) none same k = record {
  hindrance = k.hindrance;
  found = ap (λ z. option_or z (option_map Children v)) none ∙ ap (option_map Children) (sym same) ∙ k.found;
  named = k.named;
}

pub none_behind : (o : Option Hindrance) (w v : Option Name) (r : Option StepRefusal) → o ≡ None → w ≡ v → IfNone r (w ≡ None) → IfNone r (option_or o (option_map Children v) ≡ None)
none_behind o w v (Some e) none same k = tt
none_behind o w v None none same k = ap (λ z. option_or z (option_map Children v)) none ∙ ap (option_map Children) (sym same ∙ k)

module _ (P : Program) (run : Seen) (t : Name) where
  pub kept_at : (o : Option Hindrance) (r : Option StepRefusal) → refusal_of P (history run) t ≡ option_map By o → IfSome r (IsNaming o) → IfSome r (IsKeptAt P run t)
  kept_at o None is k = tt
  kept_at o (Some e) is k = record { hindrance = k.hindrance; found = is ∙ ap (option_map By) k.found; named = k.named }

  pub none_at : (o : Option Hindrance) (r : Option StepRefusal) → refusal_of P (history run) t ≡ option_map By o → IfNone r (o ≡ None) → IfNone r (refusal_of P (history run) t ≡ None)
  none_at o (Some e) is k = tt
  none_at o None is k = is ∙ ap (option_map By) k

  -- the task can step where nothing is found
  pub can_where_none : (b : Bool) (o : Option StepRefusal) → not b ≡ is_some o → IfSome o (IsKeptAt P run t) → IfNone o (refusal_of P (history run) t ≡ None) → b ≡ can_step P (history run) t
  can_where_none true None is some none = sym (ap is_none none)
  can_where_none false None is some none = absurd (false≢true (sym is))
  can_where_none true (Some e) is some none = absurd (false≢true is)
  can_where_none false (Some e) is some none = sym (ap is_none some.found)

  names : (h : Hindrance) (o : Option Refusal) → refusal_of P (history run) t ≡ Some (By h) → o ≡ Some (By h) → IsSomeAnd o (λ told. refusal_of P (history run) t ≡ Some told)
  names h o found told = subst (λ z. IsSomeAnd z (λ r. refusal_of P (history run) t ≡ Some r)) (sym told) found

  -- memory was refused for the statement of a task that something blocks
  pub wanting_kept : (full : Bool) (e : StepRefusal) → IsKeptAt P run t e → IsWanting P run full t e
  wanting_kept full Full k = absurd (none-some (By k.hindrance) k.named)
  wanting_kept full Memory k = (
    λ can. absurd (false≢true (sym (ap is_none k.found) ∙ can)),
    λ h is. subst IsLong (let same : k.hindrance ≡ h = cc (k.found, is) in same) k.named,
  )
  wanting_kept full NoSuchTask k = names k.hindrance (told_by NoSuchTask) k.found k.named
  wanting_kept full Ended k = names k.hindrance (told_by Ended) k.found k.named
  wanting_kept full (Stale now) k = names k.hindrance (told_by (Stale now)) k.found k.named
  wanting_kept full (NotDeferred u) k = names k.hindrance (told_by (NotDeferred u)) k.found k.named
  wanting_kept full (Awaits u) k = names k.hindrance (told_by (Awaits u)) k.found k.named
  wanting_kept full (IsExcluded u) k = names k.hindrance (told_by (IsExcluded u)) k.found k.named
  wanting_kept full (HasChildren u) k = names k.hindrance (told_by (HasChildren u)) k.found k.named
  wanting_kept full (HasGroup u) k = names k.hindrance (told_by (HasGroup u)) k.found k.named

  -- and of one that nothing blocks
  pub wanting_clear : refusal_of P (history run) t ≡ None → IsWanting P run false t Memory
  wanting_clear none = (λ can. refl, λ h is. absurd (none-some (By h) (sym none ∙ is)))

  pub full_clear : refusal_of P (history run) t ≡ None → IsWanting P run true t Full
  full_clear none = (refl, ap is_none none)
