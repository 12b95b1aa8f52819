-- A task at its undeferred child.
use Rattle.std.proofs.Common.{◌≡◌, ◌==◌, ℕ, suc, List, [], ◌∷◌, Bool, true, false, not, ◌&&◌, refl, sym, ap, ap₂, ◌∙◌, subst, arith, Option, Some, slice_get}
use Rattle.std.proofs.lemmas.Bool.Decides.{nat_tests}
use Rattle.tb_model.specs.declared.action.Action.{Action}
use Rattle.tb_model.specs.declared.action.Action.TheVariants.{Start, Let, Load, Store, Print, Spawn, Wait, Open, Close, Test, End, Fault}
use Rattle.tb_model.specs.declared.event.Event.{Event}
use Rattle.tb_model.specs.declared.spawn.Spawn.{Spawn as TheSpawn}
use Rattle.tb_model.specs.Facts.{History, holds, is_of, own}
use Rattle.tb_model.specs.Legal.{Cells, Continues, Legal, spawn_count}
use Rattle.tb_model.specs.Names.{Name, same_name}
use Rattle.tb_model.proofs.FactsLemmas.{own_mine, own_other, spawn_names}
use Rattle.tb_model.proofs.TestLemmas.{same_refl, same_true}
use Rattle.tb_clocks.specs.Known.{HasId, holds_some, names_in}
use Rattle.tb_clocks.specs.Tree.{IsAbove}
use Rattle.tb_clocks.proofs.TaskLemmas.{one_id}

no_cons : (a : Action) (acts : List Action) → ◌≡◌ {A = List Action} [] (a ∷ acts) → ⊥
no_cons a acts h = cc

same_head : (a b : Action) (xs ys : List Action) → a ∷ xs ≡ b ∷ ys → a ≡ b
same_head a b xs ys h = cc

same_tail : (a b : Action) (xs ys : List Action) → a ∷ xs ≡ b ∷ ys → xs ≡ ys
same_tail a b xs ys h = cc

-- the child that the newest of t's actions generates
newest_by : (cells : Cells) (v : Event) (H : History) (t : Name) (s : TheSpawn) (rest : List Action) (b : Bool) → is_of t v ≡ b → Legal cells (v ∷ H) → own t (v ∷ H) ≡ Spawn s ∷ rest →
    (own t H ≡ Spawn s ∷ rest → s.child ≡ suc (spawn_count rest) ∷ t) → s.child ≡ suc (spawn_count rest) ∷ t
newest_by cells v H t s rest false m l e earlier = earlier (sym (own_other t v H m) ∙ e)
newest_by cells v H t s rest true m l e earlier =
    let both = sym (own_mine t v H m) ∙ e in
    let it : v.task ≡ t = same_true v.task t m in
    let action : v.action ≡ Spawn s = same_head v.action (Spawn s) (own t H) rest both in
    let acts : own v.task H ≡ rest = ap (λ (u : Name). own u H) it ∙ same_tail v.action (Spawn s) (own t H) rest both in
    spawn_names cells v.task s.child (own v.task H) (Spawn s) (subst (λ a. Continues cells v.task (own v.task H) a) action l.1.own) (same_refl s.child)
    ∙ ap₂ (λ (xs : List Action) (u : Name). suc (spawn_count xs) ∷ u) acts it

newest_child : (cells : Cells) (H : History) (t : Name) (s : TheSpawn) (rest : List Action) → Legal cells H → own t H ≡ Spawn s ∷ rest → s.child ≡ suc (spawn_count rest) ∷ t
newest_child cells [] t s rest l e = absurd (no_cons (Spawn s) rest e)
newest_child cells (v ∷ H) t s rest l e = newest_by cells v H t s rest (is_of t v) refl l e (λ q. newest_child cells H t s rest l.0 q)

-- ---- which child it is

swapped : (m n : ℕ) → (m == n) ≡ (n == m)
swapped m n = grind (arith, nat_tests)

and_swapped : (a b : Bool) → (a && b) ≡ (b && a)
and_swapped true true = refl
and_swapped true false = refl
and_swapped false true = refl
and_swapped false false = refl

and_false : (a : Bool) → (a && false) ≡ false
and_false true = refl
and_false false = refl

yes_by : (m n : ℕ) → m ≡ n → (m == n) ≡ true
yes_by m n e = grind (arith, nat_tests)

only_if : (m n : ℕ) → (m == n) ≡ true → m ≡ n
only_if m n e = grind (arith, nat_tests)

zero_suc : (o n : ℕ) → o ≡ 0 → (o == suc n) ≡ false
zero_suc o n e = grind (arith, nat_tests)

both_or_none : (a b : Bool) → (a ≡ true → b ≡ true) → (b ≡ true → a ≡ true) → a ≡ b
both_or_none true true f g = refl
both_or_none true false f g = sym (f refl)
both_or_none false true f g = g refl
both_or_none false false f g = refl

module _ (cells : Cells) (H : History) (t : Name) (task : ℕ) (l : Legal cells H) (id : HasId H task t) (p o : ℕ) where
  same_id : (w : Name) → HasId H p w → (p == task) ≡ same_name t w
  same_id w h =
      both_or_none (p == task) (same_name t w)
      (λ e. let it : t ≡ w = (let q : ◌≡◌ {A = Option Name} (Some t) (Some w) = sym id ∙ ap (slice_get (names_in H)) (sym (only_if p task e)) ∙ h in cc) in subst (λ (x : Name). same_name t x ≡ true) it (same_refl t))
      (λ e. yes_by p task (one_id cells H p task t l (subst (HasId H p) (sym (same_true t w e)) h) id))

  which_child : (n : ℕ) (u : Name) → IsAbove H u p o → ((p == task) && (o == suc n)) ≡ same_name (suc n ∷ t) u
  which_child n [] above = ap (λ b. (p == task) && b) (zero_suc o n above.ordinal) ∙ and_false (p == task)
  which_child n (k ∷ w) above =
      ap₂ (λ a b. a && b) (same_id w above.parent) (ap (λ j. j == suc n) above.ordinal ∙ swapped k (suc n)) ∙ and_swapped (same_name t w) (suc n == k)

  held_by : (acts : List Action) (u : Name) → own t H ≡ acts → IsAbove H u p o → (holds_some acts && ((p == task) && (o == spawn_count acts))) ≡ holds acts u
  held_by [] u e above = refl
  held_by (Spawn s ∷ rest) u e above =
      ap (λ b. not s.deferred && b) (which_child (spawn_count rest) u above ∙ ap (λ (c : Name). same_name c u) (sym (newest_child cells H t s rest l e)))
  held_by (Start ∷ rest) u e above = refl
  held_by (Let r x ∷ rest) u e above = refl
  held_by (Load r c x ∷ rest) u e above = refl
  held_by (Store c x ∷ rest) u e above = refl
  held_by (Print x ∷ rest) u e above = refl
  held_by (Wait items ∷ rest) u e above = refl
  held_by (Open ∷ rest) u e above = refl
  held_by (Close ∷ rest) u e above = refl
  held_by (Test b ∷ rest) u e above = refl
  held_by (End ∷ rest) u e above = refl
  held_by (Fault ∷ rest) u e above = refl

  pub held : (u : Name) → IsAbove H u p o → (holds_some (own t H) && ((p == task) && (o == spawn_count (own t H)))) ≡ holds (own t H) u
  held u above = held_by (own t H) u refl above

-- the root is no child
root_by : (cells : Cells) (H : History) (t : Name) (acts : List Action) → Legal cells H → own t H ≡ acts → holds acts [] ≡ false
root_by cells H t [] l e = refl
root_by cells H t (Spawn s ∷ rest) l e = ap (λ (c : Name). not s.deferred && same_name c []) (newest_child cells H t s rest l e) ∙ and_false (not s.deferred)
root_by cells H t (Start ∷ rest) l e = refl
root_by cells H t (Let r x ∷ rest) l e = refl
root_by cells H t (Load r c x ∷ rest) l e = refl
root_by cells H t (Store c x ∷ rest) l e = refl
root_by cells H t (Print x ∷ rest) l e = refl
root_by cells H t (Wait items ∷ rest) l e = refl
root_by cells H t (Open ∷ rest) l e = refl
root_by cells H t (Close ∷ rest) l e = refl
root_by cells H t (Test b ∷ rest) l e = refl
root_by cells H t (End ∷ rest) l e = refl
root_by cells H t (Fault ∷ rest) l e = refl

pub not_root : (cells : Cells) (H : History) (t u : Name) → Legal cells H → u ≡ [] → false ≡ holds (own t H) u
not_root cells H t u l e = sym (ap (holds (own t H)) e ∙ root_by cells H t (own t H) l refl)
