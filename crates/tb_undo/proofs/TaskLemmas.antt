-- The tasks' own parts after a step, and in front of it again.
use Rattle.std.proofs.Common.{◌≡◌, ◌-◌, ℕ, suc, List, [], ◌∷◌, Bool, true, false, cond, ◌||◌, length, refl, sym, ap, ap₂, ◌∙◌, subst, ℤ, arith, Option, Some, None, drop}
use Rattle.std.specs.Option.{option_map}
use Rattle.std.proofs.lemmas.Bool.{false≢true}
use Rattle.tb_model.specs.declared.item.Item.{Item}
use Rattle.tb_model.specs.declared.action.Action.{Action}
use Rattle.tb_model.specs.declared.action.Action.TheVariants.{Start, Let, Load, Store, Print, Spawn, Wait, Open, Close, Test, End, Fault}
use Rattle.tb_model.specs.declared.event.Event.{Event}
use Rattle.tb_model.specs.Names.{Name, same_name}
use Rattle.tb_model.specs.Facts.{History, is_of, is_spawn_of, own, is_spawned}
use Rattle.tb_model.specs.Legal.{Cells, Legal, Continues, spawn_count}
use Rattle.tb_model.specs.State.{spawn_of, called_by}
use Rattle.tb_model.specs.Lines.{Departure, events_of, line_of}
use Rattle.tb_model.specs.Records.{args_in, replaced_by}
use Rattle.tb_model.proofs.TestLemmas.{same_true}
use Rattle.tb_model.proofs.FactsLemmas.{own_mine, own_other, acted_spawned, not_again, spawn_names}
use Rattle.tb_store.specs.declared.replaced.Replaced.{Replaced}
use Rattle.tb_depend.specs.Relations.{spawned_items}
use Rattle.tb_depend.proofs.RelationsLemmas.{take_added}
use Rattle.tb_undo.specs.Tasks.{Task, advanced, retreated, fresh_task, with_undeferred, with_child, without_undeferred, without_child}
use Rattle.tb_undo.specs.State.{registers, undeferred_at, known_task, task_of}
use Rattle.tb_undo.specs.Changes.{spawned_task, with_task, task_by, without_task, task_back}
use Rattle.tb_undo.proofs.StoreLemmas.{registers_less}

-- ---- what a task's own step changes of it

undeferred_more : (a : Action) (acts : List Action) → undeferred_at (a ∷ acts) ≡ with_undeferred a (suc (length acts)) (undeferred_at acts)
undeferred_more (Spawn s) acts = refl
undeferred_more Start acts = refl
undeferred_more (Let r x) acts = refl
undeferred_more (Load r c x) acts = refl
undeferred_more (Store c x) acts = refl
undeferred_more (Print x) acts = refl
undeferred_more (Wait items) acts = refl
undeferred_more Open acts = refl
undeferred_more Close acts = refl
undeferred_more (Test b) acts = refl
undeferred_more End acts = refl
undeferred_more Fault acts = refl

children_more : (a : Action) (acts : List Action) → spawned_items (a ∷ acts) ≡ with_child a (spawned_items acts)
children_more (Spawn s) acts = refl
children_more Start acts = refl
children_more (Let r x) acts = refl
children_more (Load r c x) acts = refl
children_more (Store c x) acts = refl
children_more (Print x) acts = refl
children_more (Wait items) acts = refl
children_more Open acts = refl
children_more Close acts = refl
children_more (Test b) acts = refl
children_more End acts = refl
children_more Fault acts = refl

undeferred_less : (a : Action) (k : ℕ) (ks : List ℕ) → without_undeferred a (with_undeferred a k ks) ≡ ks
undeferred_less (Spawn s) k ks = by s.deferred
  where
    by : (d : Bool) → cond d (cond d ks (k ∷ ks)) (drop 1 (cond d ks (k ∷ ks))) ≡ ks
    by true = refl
    by false = refl
undeferred_less Start k ks = refl
undeferred_less (Let r x) k ks = refl
undeferred_less (Load r c x) k ks = refl
undeferred_less (Store c x) k ks = refl
undeferred_less (Print x) k ks = refl
undeferred_less (Wait items) k ks = refl
undeferred_less Open k ks = refl
undeferred_less Close k ks = refl
undeferred_less (Test b) k ks = refl
undeferred_less End k ks = refl
undeferred_less Fault k ks = refl

children_less : (a : Action) (children : List (List Item)) → without_child a (with_child a children) ≡ children
children_less (Spawn s) children = take_added children s.items
children_less Start children = refl
children_less (Let r x) children = refl
children_less (Load r c x) children = refl
children_less (Store c x) children = refl
children_less (Print x) children = refl
children_less (Wait items) children = refl
children_less Open children = refl
children_less Close children = refl
children_less (Test b) children = refl
children_less End children = refl
children_less Fault children = refl

-- a task is known by its own actions, its spawn and its line
abbrev known_from : ℕ → Name → Option Action → List Action → ℕ → Task
known_from root_line t spawn acts line = record {
  parent = drop 1 t;
  body = (called_by root_line spawn).line;
  at = line;
  steps = length acts;
  regs = registers (args_in spawn) acts;
  undeferred = undeferred_at acts;
  children = spawned_items acts;
}

advance_known : (root_line : ℕ) (t : Name) (spawn : Option Action) (acts : List Action) (line to : ℕ) (a : Action)
    → known_from root_line t spawn (a ∷ acts) to ≡ advanced a to (known_from root_line t spawn acts line)
advance_known root_line t spawn acts line to a =
    ap₂ (λ (ks : List ℕ) (children : List (List Item)). made ks children) (undeferred_more a acts) (children_more a acts)
  where
    made : List ℕ → List (List Item) → Task
    made ks children = record {
      parent = drop 1 t;
      body = (called_by root_line spawn).line;
      at = to;
      steps = suc (length acts);
      regs = registers (args_in spawn) (a ∷ acts);
      undeferred = ks;
      children = children;
    }

retreat_known : (first : Cells) (root_line : ℕ) (t : Name) (H : History) (a : Action) (line to : ℕ) (number : Option ℤ) → Continues first t (own t H) a
    → number ≡ replaced_by first H (record { task = t; action = a })
    → retreated a number line (advanced a to (known_from root_line t (spawn_of t H) (own t H) line)) ≡ known_from root_line t (spawn_of t H) (own t H) line
retreat_known first root_line t H a line to number k e =
    let one : suc (length (own t H)) - 1 ≡ length (own t H) = omega arith in
    ap₂ made (ap₂ (λ x y. (x, y)) one (registers_less first H t a number k e))
    (ap₂ (λ x y. (x, y)) (undeferred_less a (suc (length (own t H))) (undeferred_at (own t H))) (children_less a (spawned_items (own t H))))
  where
    made : ℕ × List ℤ → List ℕ × List (List Item) → Task
    made now rest = record {
      parent = drop 1 t;
      body = (called_by root_line (spawn_of t H)).line;
      at = line;
      steps = now.0;
      regs = now.1;
      undeferred = rest.0;
      children = rest.1;
    }

-- ---- a task that comes

line_unbegun : (body : ℕ) (t : Name) (D : List Departure) → own t (events_of D) ≡ [] → line_of body t D ≡ body
line_unbegun body t [] e = refl
line_unbegun body t (d ∷ D) e = at (is_of t d.event) refl (line_unbegun body t D)
  where
    cons : d.event.action ∷ own t (events_of D) ≡ [] → ⊥
    cons e = cc

    at : (b : Bool) → is_of t d.event ≡ b → (own t (events_of D) ≡ [] → line_of body t D ≡ body) → line_of body t (d ∷ D) ≡ body
    at true o rest = absurd (cons (sym (own_mine t d.event (events_of D) o) ∙ e))
    at false o rest = ap (λ b. cond b d.to (line_of body t D)) o ∙ rest (sym (own_other t d.event (events_of D) o) ∙ e)

fresh_known : (root_line : ℕ) (t p : Name) (n : ℕ) (a : Action) → t ≡ n ∷ p → is_spawn_of t a ≡ true
    → known_from root_line t (Some a) [] (called_by root_line (Some a)).line ≡ spawned_task p a
fresh_known root_line t p n (Spawn spawn) e s = ap (λ (x : Name). made (drop 1 x)) e
  where
    made : Name → Task
    made x = fresh_task x spawn.body spawn.args
fresh_known root_line t p n Start e s = absurd (false≢true s)
fresh_known root_line t p n (Let r x) e s = absurd (false≢true s)
fresh_known root_line t p n (Load r c x) e s = absurd (false≢true s)
fresh_known root_line t p n (Store c x) e s = absurd (false≢true s)
fresh_known root_line t p n (Print x) e s = absurd (false≢true s)
fresh_known root_line t p n (Wait items) e s = absurd (false≢true s)
fresh_known root_line t p n Open e s = absurd (false≢true s)
fresh_known root_line t p n Close e s = absurd (false≢true s)
fresh_known root_line t p n (Test b) e s = absurd (false≢true s)
fresh_known root_line t p n End e s = absurd (false≢true s)
fresh_known root_line t p n Fault e s = absurd (false≢true s)

-- the tasks with the one that is generated, by the test
with_test : (p : Name) (a : Action) (f : Name → Option Task) (u : Name) → with_task p a f u ≡ cond (is_spawn_of u a) (Some (spawned_task p a)) (f u)
with_test p (Spawn s) f u = refl
with_test p Start f u = refl
with_test p (Let r x) f u = refl
with_test p (Load r c x) f u = refl
with_test p (Store c x) f u = refl
with_test p (Print x) f u = refl
with_test p (Wait items) f u = refl
with_test p Open f u = refl
with_test p Close f u = refl
with_test p (Test b) f u = refl
with_test p End f u = refl
with_test p Fault f u = refl

without_test : (a : Action) (f : Name → Option Task) (u : Name) → without_task a f u ≡ cond (is_spawn_of u a) None (f u)
without_test (Spawn s) f u = refl
without_test Start f u = refl
without_test (Let r x) f u = refl
without_test (Load r c x) f u = refl
without_test (Store c x) f u = refl
without_test (Print x) f u = refl
without_test (Wait items) f u = refl
without_test Open f u = refl
without_test Close f u = refl
without_test (Test b) f u = refl
without_test End f u = refl
without_test Fault f u = refl

-- no task is its own child
pub not_child : (p : Name) (n : ℕ) → same_name p (n ∷ p) ≡ false
not_child p n = at (same_name p (n ∷ p)) refl
  where
    at : (b : Bool) → same_name p (n ∷ p) ≡ b → b ≡ false
    at false e = refl
    at true e = let same = ap length (same_true p (n ∷ p) e) in absurd (omega (arith, same))

-- who isn't there has done nothing
pub unacted_in : (first : Cells) (H : History) → Legal first H → (u : Name) → is_spawned H u ≡ false → own u H ≡ []
unacted_in first H legal u s = at (own u H) refl
  where
    cons : (a : Action) (acts : List Action) → a ∷ acts ≡ [] → ⊥
    cons a acts e = cc

    at : (acts : List Action) → own u H ≡ acts → acts ≡ []
    at [] e = refl
    at (a ∷ acts) e = absurd (false≢true (sym s ∙ acted_spawned first H u legal (λ z. cons a acts (sym e ∙ z))))

module _ (first : Cells) (root_line : ℕ) (D : List Departure) (d : Departure) (legal : Legal first (d.event ∷ events_of D)) where
  abbrev H : History
  H = events_of D

  abbrev v : Event
  v = d.event

  -- a generated task wasn't there, and isn't the one that generates it
  record IsNew (u : Name) : Type 0 where
    number : ℕ
    name : u ≡ number ∷ v.task
    absent : is_spawned H u ≡ false
    other : is_of u v ≡ false

  new_task : (u : Name) → is_spawn_of u v.action ≡ true → IsNew u
  new_task u s =
      let name = spawn_names first v.task u (own v.task H) v.action legal.1.own s in
      record {
        number = suc (spawn_count (own v.task H));
        name = name;
        absent = absent (is_spawned H u) refl;
        other = ap (same_name v.task) name ∙ not_child v.task (suc (spawn_count (own v.task H)));
      }
    where
      absent : (b : Bool) → is_spawned H u ≡ b → b ≡ false
      absent false e = refl
      absent true e = absurd (false≢true (sym (not_again first H legal.0 v legal.1 u e) ∙ s))

  spawned_more : (u : Name) → is_spawned (v ∷ H) u ≡ cond (is_spawn_of u v.action) true (is_spawned H u)
  spawned_more [] = at (is_spawn_of [] v.action)
    where
      at : (b : Bool) → true ≡ cond b true true
      at true = refl
      at false = refl
  spawned_more (n ∷ u) = at (is_spawn_of (n ∷ u) v.action)
    where
      at : (b : Bool) → (b || is_spawned H (n ∷ u)) ≡ cond b true (is_spawned H (n ∷ u))
      at true = refl
      at false = refl

  -- each task after the step
  pub task_more : (u : Name) → task_of root_line (d ∷ D) u ≡ task_by v d.to (task_of root_line D) u
  task_more u = by_spawn (is_spawn_of u v.action) refl (is_of u v) refl
    where
      shown : (b s : Bool) → is_of u v ≡ b → is_spawn_of u v.action ≡ s
          → task_by v d.to (task_of root_line D) u ≡ cond b (option_map (advanced v.action d.to) (cond s (Some (spawned_task v.task v.action)) (task_of root_line D u))) (cond s (Some (spawned_task v.task v.action)) (task_of root_line D u))
      shown b s o q = ap₂ (λ c o. cond c (option_map (advanced v.action d.to) o) o) o (with_test v.task v.action (task_of root_line D) u ∙ ap (λ c. cond c (Some (spawned_task v.task v.action)) (task_of root_line D u)) q)

      behind : (s : Bool) → is_spawn_of u v.action ≡ s → (acts : List Action) → own u (v ∷ H) ≡ acts → (spawn : Option Action) → spawn_of u (v ∷ H) ≡ spawn → (line : ℕ) → line_of (called_by root_line spawn).line u (d ∷ D) ≡ line
          → task_of root_line (d ∷ D) u ≡ cond (cond s true (is_spawned H u)) (Some (known_from root_line u spawn acts line)) None
      behind s q acts e spawn f line l =
          ap₂ (λ c (k : Task). cond c (Some k) None) (spawned_more u ∙ ap (λ c. cond c true (is_spawned H u)) q)
          (ap (λ o. known_from root_line u o (own u (v ∷ H)) (line_of (called_by root_line o).line u (d ∷ D))) f
          ∙ ap₂ (λ xs n. known_from root_line u spawn xs n) e l)

      by_spawn : (s : Bool) → is_spawn_of u v.action ≡ s → (b : Bool) → is_of u v ≡ b → task_of root_line (d ∷ D) u ≡ task_by v d.to (task_of root_line D) u
      by_spawn true q b o =
          let new = new_task u q in
          let none = unacted_in first H legal.0 u new.absent in
          let acts = own_other u v H new.other ∙ none in
          let spawn : spawn_of u (v ∷ H) ≡ Some v.action = ap (λ c. cond c (Some v.action) (spawn_of u H)) q in
          let line = ap (λ c. cond c d.to (line_of (called_by root_line (Some v.action)).line u D)) new.other ∙ line_unbegun (called_by root_line (Some v.action)).line u D none in
          behind true q [] acts (Some v.action) spawn (called_by root_line (Some v.action)).line line
          ∙ ap Some (fresh_known root_line u v.task new.number v.action new.name q)
          ∙ sym (shown false true new.other q)
      by_spawn false q true o =
          let spawn : spawn_of u (v ∷ H) ≡ spawn_of u H = ap (λ c. cond c (Some v.action) (spawn_of u H)) q in
          let line = ap (λ c. cond c d.to (line_of (called_by root_line (spawn_of u H)).line u D)) o in
          behind false q (v.action ∷ own u H) (own_mine u v H o) (spawn_of u H) spawn d.to line
          ∙ mapped (is_spawned H u)
          ∙ sym (shown true false o q)
        where
          mapped : (b : Bool) → cond b (Some (known_from root_line u (spawn_of u H) (v.action ∷ own u H) d.to)) None
              ≡ option_map (advanced v.action d.to) (cond b (Some (known_task root_line D u)) None)
          mapped true = ap Some (advance_known root_line u (spawn_of u H) (own u H) (line_of (called_by root_line (spawn_of u H)).line u D) d.to v.action)
          mapped false = refl
      by_spawn false q false o =
          let spawn : spawn_of u (v ∷ H) ≡ spawn_of u H = ap (λ c. cond c (Some v.action) (spawn_of u H)) q in
          let line = ap (λ c. cond c d.to (line_of (called_by root_line (spawn_of u H)).line u D)) o in
          behind false q (own u H) (own_other u v H o) (spawn_of u H) spawn (line_of (called_by root_line (spawn_of u H)).line u D) line
          ∙ sym (shown false false o q)

  -- and in front of it again
  pub task_less : (r : Replaced) → r.number ≡ replaced_by first H v → r.at ≡ line_of (called_by root_line (spawn_of v.task H)).line v.task D
      → (u : Name) → task_back v r (task_of root_line (d ∷ D)) u ≡ task_of root_line D u
  task_less r number line u = by_spawn (is_spawn_of u v.action) refl (is_of u v) refl
    where
      back : Option Task → Option Task
      back o = option_map (retreated v.action r.number r.at) o

      shown : (b s : Bool) → is_of u v ≡ b → is_spawn_of u v.action ≡ s
          → task_back v r (task_of root_line (d ∷ D)) u ≡ cond b (back (cond s None (task_of root_line (d ∷ D) u))) (cond s None (task_of root_line (d ∷ D) u))
      shown b s o q = ap₂ (λ c o. cond c (back o) o) o (without_test v.action (task_of root_line (d ∷ D)) u ∙ ap (λ c. cond c None (task_of root_line (d ∷ D) u)) q)

      ahead : task_of root_line (d ∷ D) u ≡ task_by v d.to (task_of root_line D) u
      ahead = task_more u

      moved : (b : Bool) → is_of u v ≡ b → is_spawn_of u v.action ≡ false
          → task_of root_line (d ∷ D) u ≡ cond b (option_map (advanced v.action d.to) (task_of root_line D u)) (task_of root_line D u)
      moved b o q =
          ahead ∙ ap₂ (λ c o. cond c (option_map (advanced v.action d.to) o) o) o (with_test v.task v.action (task_of root_line D) u ∙ ap (λ c. cond c (Some (spawned_task v.task v.action)) (task_of root_line D u)) q)

      by_spawn : (s : Bool) → is_spawn_of u v.action ≡ s → (b : Bool) → is_of u v ≡ b → task_back v r (task_of root_line (d ∷ D)) u ≡ task_of root_line D u
      by_spawn true q b o =
          let new = new_task u q in
          shown false true new.other q ∙ sym (ap (λ c. cond c (Some (known_task root_line D u)) None) new.absent)
      by_spawn false q true o =
          shown true false o q ∙ ap back (moved true o q) ∙ again (is_spawned H u)
        where
          same : v.task ≡ u
          same = same_true v.task u o

          k : Continues first u (own u H) v.action
          k = subst (λ x. Continues first x (own x H) v.action) same legal.1.own

          number_u : r.number ≡ replaced_by first H (record { task = u; action = v.action })
          number_u = number ∙ ap (λ (x : Name). replaced_by first H (record { task = x; action = v.action })) same

          line_u : r.at ≡ line_of (called_by root_line (spawn_of u H)).line u D
          line_u = line ∙ ap (λ (x : Name). line_of (called_by root_line (spawn_of x H)).line x D) same

          again : (b : Bool) → back (option_map (advanced v.action d.to) (cond b (Some (known_task root_line D u)) None)) ≡ cond b (Some (known_task root_line D u)) None
          again true =
              ap (λ n. Some (retreated v.action r.number n (advanced v.action d.to (known_task root_line D u)))) line_u
              ∙ ap Some (retreat_known first root_line u H v.action (line_of (called_by root_line (spawn_of u H)).line u D) d.to r.number k number_u)
          again false = refl
      by_spawn false q false o = shown false false o q ∙ moved false o q
