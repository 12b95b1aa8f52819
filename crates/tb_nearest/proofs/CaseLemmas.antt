-- A direct need is nearest, or goes by way of an event in between: kind by kind.
use Rattle.std.proofs.Common.{◌≡◌, ◌⊎◌, inl, ⊎_elim, List, [], ◌∷◌, ◌++◌, true, ◌&&◌, refl, sym, ◌∙◌, subst, append_assoc}
use Rattle.std.specs.List.{list_any}
use Rattle.std.proofs.lemmas.Bool.{or_cases, or_right, and_parts, both_ways, false≢true}
use Rattle.tb_model.specs.declared.item.Item.{Item}
use Rattle.tb_model.specs.declared.action.Action.{Action}
use Rattle.tb_model.specs.declared.action.Action.TheVariants.{Start, Let, Load, Store, Print, Spawn, Wait, Open, Close, Test, End, Fault}
use Rattle.tb_model.specs.declared.event.Event.{Event}
use Rattle.tb_model.specs.Names.{Name}
use Rattle.tb_model.specs.Facts.{History, is_of, own, covers, holds, is_end, is_print, is_store_to, spawns}
use Rattle.tb_model.specs.Legal.{Cells, Legal}
use Rattle.tb_model.specs.Needs.{needs, waits_for, needs_end_of, conflicts}
use Rattle.tb_model.proofs.TestLemmas.{same_true, same_refl}
use Rattle.tb_model.proofs.FactsLemmas.{acted_spawned, no_acts}
use Rattle.tb_model.proofs.NeighboursLemmas.{legal_below}
use Rattle.tb_model.proofs.SettledLemmas.{covers_settled}
use Rattle.tb_nearest.specs.Nearest.{Nearest, next, first, touch, print, wait, resume, covers_by}
use Rattle.tb_nearest.proofs.WayLemmas.{Found, any_there, needs_own, needs_spawn, needs_conflict, needs_end, needs_print, Way, whole, none_or_way, own_behind, none_own}
use Rattle.tb_nearest.proofs.BetweenLemmas.{one_task, unborn, shared, store_conflicts}
use Rattle.tb_nearest.proofs.SiblingLemmas.{by_start}
use Rattle.tb_nearest.proofs.GroupLemmas.{by_close}

-- a `taskwait` of another set of items waits for the task too
waits_by : (H E : History) (t m : Name) (a : Action) → ((items : List Item) → covers H t items m ≡ true → covers E t items m ≡ true)
    → covers_by H t a m ≡ true → waits_for E t a m ≡ true
waits_by H E t m (Wait items) f h = f items h
waits_by H E t m Start f h = absurd (false≢true h)
waits_by H E t m (Let r x) f h = absurd (false≢true h)
waits_by H E t m (Load r c x) f h = absurd (false≢true h)
waits_by H E t m (Store c x) f h = absurd (false≢true h)
waits_by H E t m (Print x) f h = absurd (false≢true h)
waits_by H E t m (Spawn s) f h = absurd (false≢true h)
waits_by H E t m Open f h = absurd (false≢true h)
waits_by H E t m Close f h = absurd (false≢true h)
waits_by H E t m (Test b) f h = absurd (false≢true h)
waits_by H E t m End f h = absurd (false≢true h)
waits_by H E t m Fault f h = absurd (false≢true h)

module _ (cells : Cells) (v u : Event) (between front : History) (l : Legal cells (v ∷ (between ++ u ∷ front))) where
  abbrev H : History
  H = between ++ u ∷ front

  abbrev Split : Type 0
  Split = Nearest v u between front ⊎ Way v u between front

  by_task : is_of v.task u ≡ true → Split
  by_task h =
      none_or_way v u between front (is_of v.task) (λ n. next h (none_own v.task between n))
      (λ f. (needs_own H v f.who f.passes, needs_own (f.earlier ++ u ∷ front) f.who u (one_task v.task u.task f.who.task h f.passes)))

  by_spawn : spawns v.task u ≡ true → Split
  by_spawn h =
      none_or_way v u between front (is_of v.task)
      (λ n. first h (own_behind v.task between (u ∷ front) n ∙ unborn cells v.task u front (legal_below cells between (u ∷ front) l.0) h))
      (λ f. (needs_own H v f.who f.passes, needs_spawn (f.earlier ++ u ∷ front) f.who u (subst (λ t. spawns t u ≡ true) (sym (same_true f.who.task v.task f.passes)) h)))

  by_cell : conflicts v.action u.action ≡ true → Split
  by_cell h =
      let s = shared v.action u.action h in
      none_or_way v u between front (λ w. is_store_to s.cell w.action) (λ n. touch s.cell h s.mine s.others n)
      (λ f. (
        needs_conflict H v f.who (s.stored f.who.action f.passes),
        needs_conflict (f.earlier ++ u ∷ front) f.who u (store_conflicts s.cell f.who.action u.action f.passes s.others),
      ))

  by_print : is_print v.action ≡ true → is_print u.action ≡ true → Split
  by_print p q =
      none_or_way v u between front (λ w. is_print w.action) (λ n. print p q n)
      (λ f. (needs_print H v f.who p f.passes, needs_print (f.earlier ++ u ∷ front) f.who u f.passes q))

  module _ (e : is_end u.action ≡ true) where
    by_wait : (items : List Item) → v.action ≡ Wait items → covers H v.task items u.task ≡ true → Split
    by_wait items a c =
        none_or_way v u between front (λ w. is_of v.task w && covers_by H v.task w.action u.task) (λ n. wait items e a c n) some
      where
        some : (f : Found (λ w. is_of v.task w && covers_by H v.task w.action u.task) between)
            → (needs H v f.who ≡ true) × (needs (f.earlier ++ u ∷ front) f.who u ≡ true)
        some f =
            let w = f.who in
            let o = and_parts (is_of v.task w) (covers_by H v.task w.action u.task) f.passes in
            let E = f.earlier ++ u ∷ front in
            let is : H ≡ f.later ++ w ∷ E = whole u w between front f.later f.earlier f.split in
            let cut : H ≡ (f.later ++ w ∷ []) ++ E = is ∙ sym (append_assoc f.later (w ∷ []) E) in
            let lw = legal_below cells f.later (w ∷ E) (subst (Legal cells) is l.0) in
            let acted : own u.task E ≡ [] → ⊥ = λ n. both_ways (list_any (is_of u.task) E) (no_acts u.task E n) (any_there (is_of u.task) f.earlier u front (same_refl u.task)) in
            let kept : (its : List Item) → covers H v.task its u.task ≡ true → covers E v.task its u.task ≡ true =
            λ its x. covers_settled cells (f.later ++ w ∷ []) E v.task its u.task (subst (Legal cells) cut l.0) (acted_spawned cells E u.task lw.0 acted) (subst (λ K. covers K v.task its u.task ≡ true) cut x)
            in
            let n : v.task ≡ w.task = sym (same_true w.task v.task o.0) in (
              needs_own H v w o.0,
              needs_end E w u e (or_right (holds (own w.task E) u.task) _ (subst (λ t. waits_for E t w.action u.task ≡ true) n (waits_by H E v.task u.task w.action kept o.1))),
            )

    by_waiting : (a : Action) → v.action ≡ a → waits_for H v.task a u.task ≡ true → Split
    by_waiting Start a h = by_start cells v u between front l e a h
    by_waiting (Wait items) a h = by_wait items a h
    by_waiting Close a h = by_close cells v u between front l e a h
    by_waiting (Let r x) a h = absurd (false≢true h)
    by_waiting (Load r c x) a h = absurd (false≢true h)
    by_waiting (Store c x) a h = absurd (false≢true h)
    by_waiting (Print x) a h = absurd (false≢true h)
    by_waiting (Spawn s) a h = absurd (false≢true h)
    by_waiting Open a h = absurd (false≢true h)
    by_waiting (Test b) a h = absurd (false≢true h)
    by_waiting End a h = absurd (false≢true h)
    by_waiting Fault a h = absurd (false≢true h)

    by_end : needs_end_of H v.task v.action u.task ≡ true → Split
    by_end h = ⊎_elim (λ r. inl (resume e r)) (by_waiting v.action refl) (or_cases (holds (own v.task H) u.task) (waits_for H v.task v.action u.task) h)

  pub nearest_or_way : needs H v u ≡ true → Split
  nearest_or_way h =
      ⊎_elim by_task
      (λ i. ⊎_elim by_spawn
      (λ j. ⊎_elim by_cell
      (λ k. ⊎_elim (λ m. let o = and_parts (is_end u.action) _ m in by_end o.0 o.1) (λ m. let o = and_parts (is_print v.action) _ m in by_print o.0 o.1)
      (or_cases (is_end u.action && needs_end_of H v.task v.action u.task) _ k))
      (or_cases (conflicts v.action u.action) _ j))
      (or_cases (spawns v.task u) _ i))
      (or_cases (is_of v.task u) _ h)
