-- What a direct need says of the events in between.
use Rattle.std.proofs.Common.{◌≡◌, ◌≢◌, ◌⊎◌, inl, inr, ⊎_elim, ℕ, suc, List, [], ◌∷◌, true, false, length, refl, sym, ap, ◌∙◌, subst, arith}
use Rattle.std.proofs.lemmas.Bool.{cases_Bool, eqb-true, eq-eqb, both_ways, false≢true}
use Rattle.tb_model.specs.declared.action.Action.{Action}
use Rattle.tb_model.specs.declared.action.Action.TheVariants.{Start, Let, Load, Store, Print, Spawn, Wait, Open, Close, Test, End, Fault}
use Rattle.tb_model.specs.declared.event.Event.{Event}
use Rattle.tb_model.specs.Names.{Name, same_name}
use Rattle.tb_model.specs.Facts.{History, is_of, own, is_store_to, touches, spawns}
use Rattle.tb_model.specs.Legal.{Cells, Legal}
use Rattle.tb_model.specs.Needs.{conflicts}
use Rattle.tb_model.proofs.TestLemmas.{same_true}
use Rattle.tb_model.proofs.FactsLemmas.{own_other, spawn_names, acted_spawned, not_again}

-- ---- a task's own events, and its first one

pub one_task : (t u w : Name) → same_name u t ≡ true → same_name w t ≡ true → same_name u w ≡ true
one_task t u w a b = subst (λ x. same_name u x ≡ true) (sym (same_true w t b)) a

pub empty_or : {A : Type 0} (xs : List A) → (xs ≡ []) ⊎ (xs ≢ [])
empty_or [] = inl refl
empty_or (x ∷ xs) = inr (λ e. cc)

-- a task has no event in front of its spawn
pub unborn : (cells : Cells) (t : Name) (u : Event) (front : History) → Legal cells (u ∷ front) → spawns t u ≡ true → own t (u ∷ front) ≡ []
unborn cells t u front l s = own_other t u front other ∙ none
  where
    other : is_of t u ≡ false
    other = ⊎_elim (λ i. absurd (longer (spawn_names cells u.task t (own u.task front) u.action l.1.own s) (same_true u.task t i))) (λ n. n) (cases_Bool (is_of t u))
      where
        longer : {n : ℕ} → t ≡ n ∷ u.task → u.task ≡ t → ⊥
        longer {n} e i = let m : length t ≡ suc (length u.task) = ap length e in let k : length u.task ≡ length t = ap length i in omega arith

    none : own t front ≡ []
    none = ⊎_elim (λ e. e) (λ n. absurd (both_ways (spawns t u) (not_again cells front l.0 u l.1 t (acted_spawned cells front t l.0 n)) s)) (empty_or (own t front))

-- ---- cells

pub store_touches : (c : ℕ) (a : Action) → is_store_to c a ≡ true → touches c a ≡ true
store_touches c (Store d x) h = h
store_touches c Start h = absurd (false≢true h)
store_touches c (Let r x) h = absurd (false≢true h)
store_touches c (Load r d x) h = absurd (false≢true h)
store_touches c (Print x) h = absurd (false≢true h)
store_touches c (Spawn s) h = absurd (false≢true h)
store_touches c (Wait items) h = absurd (false≢true h)
store_touches c Open h = absurd (false≢true h)
store_touches c Close h = absurd (false≢true h)
store_touches c (Test b) h = absurd (false≢true h)
store_touches c End h = absurd (false≢true h)
store_touches c Fault h = absurd (false≢true h)

pub store_conflicts : (c : ℕ) (a b : Action) → is_store_to c a ≡ true → touches c b ≡ true → conflicts a b ≡ true
store_conflicts c (Store d x) b h t = subst (λ k. touches k b ≡ true) (eqb-true c d h) t
store_conflicts c Start b h t = absurd (false≢true h)
store_conflicts c (Let r x) b h t = absurd (false≢true h)
store_conflicts c (Load r d x) b h t = absurd (false≢true h)
store_conflicts c (Print x) b h t = absurd (false≢true h)
store_conflicts c (Spawn s) b h t = absurd (false≢true h)
store_conflicts c (Wait items) b h t = absurd (false≢true h)
store_conflicts c Open b h t = absurd (false≢true h)
store_conflicts c Close b h t = absurd (false≢true h)
store_conflicts c (Test b') b h t = absurd (false≢true h)
store_conflicts c End b h t = absurd (false≢true h)
store_conflicts c Fault b h t = absurd (false≢true h)

-- the cell over which two actions conflict, and that any store to it in between conflicts too
pub record Shared (a b : Action) : Type 0 where
  pub cell : ℕ
  pub mine : touches cell a ≡ true
  pub others : touches cell b ≡ true
  pub stored : (w : Action) → is_store_to cell w ≡ true → conflicts a w ≡ true

pub shared : (a b : Action) → conflicts a b ≡ true → Shared a b
shared (Store c x) b h = record { cell = c; mine = eq-eqb c c refl; others = h; stored = store_touches c }
shared (Load r c x) b h = record { cell = c; mine = eq-eqb c c refl; others = store_touches c b h; stored = λ w s. s }
shared Start b h = absurd (false≢true h)
shared (Let r x) b h = absurd (false≢true h)
shared (Print x) b h = absurd (false≢true h)
shared (Spawn s) b h = absurd (false≢true h)
shared (Wait items) b h = absurd (false≢true h)
shared Open b h = absurd (false≢true h)
shared Close b h = absurd (false≢true h)
shared (Test b') b h = absurd (false≢true h)
shared End b h = absurd (false≢true h)
shared Fault b h = absurd (false≢true h)
