-- A walk over any run K of a behaviour, next to a finished run H without a race: what is in K says
-- of every task, cell and output what H says of it.
use Rattle.std.proofs.Common.{◌≡◌, ℕ, ℤ, [], ◌∷◌, ◌++◌, length, true, ◌⊎◌, inl, inr, ⊎_elim, refl, sym, ap, ◌∙◌, subst, arith, append_assoc, Option, Some}
use Rattle.std.specs.List.{list_any}
use Rattle.std.proofs.lemmas.Bool.{and_from}
use Rattle.tb_model.specs.declared.action.Action.{Action}
use Rattle.tb_model.specs.declared.event.Event.{Event}
use Rattle.tb_model.specs.Names.{Name}
use Rattle.tb_model.specs.Facts.{History, is_of, is_end, own, ends, spawns, holds, HasEnded, IsSpawned}
use Rattle.tb_model.specs.Legal.{Legal}
use Rattle.tb_model.specs.Alike.{Alike}
use Rattle.tb_model.specs.Program.{loaded}
use Rattle.tb_model.specs.State.{called_by, spawn_of}
use Rattle.tb_model.proofs.TestLemmas.{same_true, same_refl}
use Rattle.tb_model.proofs.FactsLemmas.{own_mine, grown, spawn_names}
use Rattle.tb_model.proofs.NeighboursLemmas.{legal_below}
use Rattle.tb_model.proofs.SettledLemmas.{spawned_later}
use Rattle.tb_model.proofs.NeedsLemmas.{may_spawned}
use Rattle.tb_races.specs.Orders.{Synchronised, links}
use Rattle.tb_one_run.proofs.LinkLemmas.{awaits, linked, IsClosed}
use Rattle.tb_one_run.proofs.SharedLemmas.{has, part, own_longer, has_now, has_back, has_still}
use Rattle.tb_one_run.proofs.OnceLemmas.{end_stays, spawn_stays}
use Rattle.tb_one_run.specs.Behaviours.{Behaviour, given, IsRunOf, IsNextOf}
use Rattle.tb_one_run.proofs.NumberLemmas.{IsBlind}
use Rattle.tb_one_run.proofs.BehaviourLemmas.{given_same, blind_given, run_below}
use Rattle.tb_one_run.proofs.PlaceLemmas.{own_at, awaited, spawn_here}

-- so far K is a part of H in another order: closed under the order of H, alike, and as long
pub record Walked (H K : History) : Type 0 where
  pub closed : IsClosed Synchronised (has K) H
  pub alike : Alike (part K H) K
  pub size : length (part K H) ≡ length K

module _ (B : Behaviour) (H K : History) (lh : IsRunOf B H) (lk : IsRunOf B K) (s : Walked H K) (v : Event) (nk : IsNextOf B K v) where
  abbrev pub t : Name
  t = v.task

  abbrev n : ℕ
  n = length (own t K)

  abbrev spawned_k : IsSpawned K t
  spawned_k = may_spawned B.cells K v lk.0 nk.may

  -- the next event of the task in H, which is there with X in front of it
  module _ (b : History) (w : Event) (X : History) (split : H ≡ b ++ w ∷ X) (mine : is_of t w ≡ true) (number : length (own t X) ≡ n) where
    abbrev pub lx : IsRunOf B (w ∷ X)
    lx = run_below B b (w ∷ X) (subst (IsRunOf B) split lh)

    abbrev pub same_task : w.task ≡ t
    same_task = same_true w.task t mine

    abbrev spawned_x : IsSpawned X t
    spawned_x = subst (IsSpawned X) same_task (may_spawned B.cells X w lx.0.0 lx.0.1)

    -- the behaviour gives the same to both
    pub same_given : (y : ℤ) → given B X t y ≡ given B K t y
    same_given y =
        given_same B X K t y (own_at B.cells H K lh.0 lk.0 s.alike t b w X split mine number)
        (spawn_here B.cells H K lh.0 lk.0 s.alike t b w X split mine number spawned_x spawned_k)

    -- what it gives there
    abbrev pub gives : ℤ → Option Action
    gives = given B K t

    pub w_given : gives (loaded w.action) ≡ Some w.action
    w_given = sym (same_given (loaded w.action)) ∙ ap (λ u. given B X u (loaded w.action)) (sym same_task) ∙ lx.1.1

    -- so the two differ in the value that a load reads, if at all
    same_but_number : {A : Type 0} (f : Action → A) → IsBlind f → f w.action ≡ f v.action
    same_but_number f blind =
        blind_given f blind gives (B.reads (called_by B.root_line (spawn_of t K)) t (own t K)) w.action v.action w_given nk.behaves

    -- what a link leads to is in K
    pub link_stands : (m : History) (u : Event) (F : History) → X ≡ m ++ u ∷ F → links Synchronised X w u ≡ true → has (v ∷ K) (u ∷ F) ≡ true
    link_stands m u F e h =
        ⊎_elim own_event (λ a. ⊎_elim (λ q. has_still K v u F (its_spawn q)) (λ q. has_still K v u F (its_end q)) a) (linked X w u h)
      where
        c : History
        c = b ++ w ∷ m

        at_u : H ≡ c ++ u ∷ F
        at_u = split ∙ ap (λ G. b ++ w ∷ G) e ∙ sym (append_assoc b (w ∷ m) (u ∷ F))

        lu : Legal B.cells (c ++ u ∷ F)
        lu = subst (Legal B.cells) at_u lh.0

        own_event : is_of w.task u ≡ true → has (v ∷ K) (u ∷ F) ≡ true
        own_event o =
            let mine_u : is_of t u ≡ true = subst (λ z. is_of z u ≡ true) same_task o in
            has_now K v u F mine_u
            (omega (arith, number, ap (λ G. length (own t G)) e, own_longer t m (u ∷ F), ap length (own_mine t u F mine_u)))

        its_spawn : spawns w.task u ≡ true → has K (u ∷ F) ≡ true
        its_spawn q = at t spawned_k (subst (λ z. spawns z u ≡ true) same_task q)
          where
            at : (z : Name) → IsSpawned K z → spawns z u ≡ true → has K (u ∷ F) ≡ true
            at [] sp q =
                absurd (cc (spawn_names B.cells u.task [] (own u.task F) u.action (legal_below B.cells c (u ∷ F) lu).1.own q))
            at (k ∷ p) sp q =
                spawn_stays B.cells K (k ∷ p) c u F lu q
                (ap (λ G. list_any (spawns (k ∷ p)) (part K G)) (sym at_u) ∙ s.alike.any (spawns (k ∷ p)) ∙ sp)

        acted_u : IsSpawned X u.task
        acted_u =
            let l = legal_below B.cells c (u ∷ F) lu in
            subst (λ G. IsSpawned G u.task) (sym e) (spawned_later u.task m (u ∷ F) (may_grow l))
          where
            may_grow : Legal B.cells (u ∷ F) → IsSpawned (u ∷ F) u.task
            may_grow l = grown u.task u F (may_spawned B.cells F u l.0 l.1)

        has_ended : (holds (own w.task X) u.task ≡ true) ⊎ (awaits X w.task w.action u.task ≡ true) → HasEnded K u.task
        has_ended (inl q) =
            nk.may.resumed u.task (ap (λ acts. holds acts u.task) (sym (own_at B.cells H K lh.0 lk.0 s.alike t b w X split mine number)) ∙ subst (λ z. holds (own z X) u.task ≡ true) same_task q)
        has_ended (inr q) =
            let q' : awaits X t w.action u.task ≡ true = subst (λ z. awaits X z w.action u.task ≡ true) same_task q in
            awaited B.cells H K lh.0 lk.0 s.alike t b w X split mine number v.action nk.may.timely spawned_x u.task acted_u
            (sym (same_but_number (λ a. awaits X t a u.task) (λ r d x y. refl)) ∙ q')

        its_end : (is_end u.action ≡ true) × ((holds (own w.task X) u.task ≡ true) ⊎ (awaits X w.task w.action u.task ≡ true)) → has K (u ∷ F) ≡ true
        its_end q =
            end_stays B.cells K u.task c u F lu (and_from (is_of u.task u) (is_end u.action) (same_refl u.task) q.0)
            (ap (λ G. list_any (ends u.task) (part K G)) (sym at_u) ∙ s.alike.any (ends u.task) ∙ has_ended q.1)

  -- with the next event K is still closed
  pub closed_more : IsClosed Synchronised (has (v ∷ K)) H
  closed_more b x X e h m u F e' l =
      ⊎_elim (λ p. link_stands b x X e p.0 p.1 m u F e' l)
      (λ q. has_still K v u F (s.closed b x X e q m u F e' l))
      (has_back K v x X h)
