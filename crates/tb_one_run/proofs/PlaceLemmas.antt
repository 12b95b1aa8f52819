-- The event of one history that the next event of another means.
use Rattle.std.proofs.Common.{◌≡◌, ℕ, [], ◌∷◌, ◌++◌, length, Bool, true, false, ⊎_elim, refl, sym, ap, ◌∙◌, subst, arith, nat_lt, append_assoc}
use Rattle.std.proofs.lemmas.Bool.{and_parts, false≢true, ltb-true, ltb-false}
use Rattle.tb_model.specs.declared.action.Action.{Action}
use Rattle.tb_model.specs.declared.action.Action.TheVariants.{Start, Let, Load, Store, Print, Spawn, Wait, Open, Close, Test, End, Fault}
use Rattle.tb_model.specs.declared.event.Event.{Event}
use Rattle.tb_model.specs.Names.{Name, is_child, is_elder}
use Rattle.tb_model.specs.Facts.{History, is_of, own, is_member, HasEnded, IsSpawned}
use Rattle.tb_model.specs.State.{status_of, is_over, spawn_of}
use Rattle.tb_model.specs.Legal.{Cells, IsTimely, Legal, spawn_count}
use Rattle.tb_model.specs.Alike.{Alike}
use Rattle.tb_model.proofs.TestLemmas.{same_true}
use Rattle.tb_model.proofs.FactsLemmas.{acted_spawned, member_up}
use Rattle.tb_model.proofs.NeighboursLemmas.{legal_below}
use Rattle.tb_model.proofs.StateLemmas.{over_ended, children_numbered}
use Rattle.tb_one_run.proofs.LinkLemmas.{awaits}
use Rattle.tb_one_run.proofs.SharedLemmas.{Older, part, own_front, own_back, own_older, older_front, older_all, place}
use Rattle.tb_one_run.proofs.OnceLemmas.{no_more}
use Rattle.tb_one_run.proofs.AgreeLemmas.{Reaches, spawned_too, spawned_back, elder_back, before_too, covers_too, spawn_too, root_unspawned}

-- whose child was generated was generated
pub parent_spawned : (cells : Cells) (X : History) (k : ℕ) (p : Name) → Legal cells X → IsSpawned X (k ∷ p) → IsSpawned X p
parent_spawned cells X k p l s =
    let a = (children_numbered cells X p k l).0 s in
    acted_spawned cells X p l (λ z. omega (arith, a.0, a.1, ap spawn_count z))

module _ (cells : Cells) (H K : History) (lh : Legal cells H) (lk : Legal cells K) (alike : Alike (part K H) K) where
  -- what K has of each task is the older part of what H has
  pub reaches : Reaches K H
  reaches t = subst (λ acts. Older acts (own t H)) (alike.acts t) (own_older K t H)

  module _ (t : Name) (b : History) (w : Event) (X : History) (split : H ≡ b ++ w ∷ X) (mine : is_of t w ≡ true) (number : length (own t X) ≡ length (own t K)) where
    abbrev lx : Legal cells (w ∷ X)
    lx = legal_below cells b (w ∷ X) (subst (Legal cells) split lh)

    -- the front of a task's next event has what K has of the task
    pub own_at : own t X ≡ own t K
    own_at =
        let back = own_back K t (b ++ w ∷ []) X (omega (arith, number)) in
        let whole : own t (part K H) ≡ own t (part K ((b ++ w ∷ []) ++ X)) = ap (λ G. own t (part K G)) (split ∙ sym (append_assoc b (w ∷ []) X)) in
        sym (own_front K t X (omega (arith, number))) ∙ sym back ∙ sym whole ∙ alike.acts t

    -- and of each task no more than H has
    pub reaches_front : Reaches X H
    reaches_front u = subst (λ G. Older (own u X) (own u G)) (sym (split ∙ sym (append_assoc b (w ∷ []) X))) (older_front u (b ++ w ∷ []) X)

  -- who has ended in K has in K all that it has in H
  pub complete : (p : Name) → HasEnded K p → own p K ≡ own p H
  complete p e = at (nat_lt (length (own p K)) (length (own p H))) refl
    where
      at : (c : Bool) → nat_lt (length (own p K)) (length (own p H)) ≡ c → own p K ≡ own p H
      at false l = older_all (reaches p) (ltb-false (length (own p K)) (length (own p H)) l)
      at true l =
          let q = place p (length (own p K)) H (ltb-true (length (own p K)) (length (own p H)) l) in
          let lx = legal_below cells q.later (q.event ∷ q.front) (subst (Legal cells) q.split lh) in
          let o = own_at p q.later q.event q.front q.split q.mine q.number in
          let over = over_ended cells q.front p lx.0 ∙ ap (λ acts. is_over (status_of acts)) o ∙ sym (over_ended cells K p lk) ∙ e in
          absurd (no_more cells q.front q.event p lx.0 lx.1 q.mine over)

  module _ (t : Name) (b : History) (w : Event) (X : History) (split : H ≡ b ++ w ∷ X) (mine : is_of t w ≡ true) (number : length (own t X) ≡ length (own t K)) where
    abbrev legal_at : Legal cells (w ∷ X)
    legal_at = legal_below cells b (w ∷ X) (subst (Legal cells) split lh)

    abbrev here : own t X ≡ own t K
    here = own_at t b w X split mine number

    abbrev front_up : Reaches X H
    front_up = reaches_front t b w X split mine number

    -- a child that was generated there was generated in K
    pub child_in : (u : Name) → is_child t u ≡ true → IsSpawned X u → IsSpawned K u
    child_in [] c s = refl
    child_in (n ∷ p) c s =
        let q = same_true p t c in
        let a = ((children_numbered cells X p n legal_at.0).0 s).1 in
        spawned_back cells K H lk lh reaches n p (spawned_too cells X H legal_at.0 lh front_up (n ∷ p) s)
        (omega (arith, a, ap spawn_count (subst (λ x. own x X ≡ own x K) (sym q) here)))

    -- and so was a member of the group that the event closes
    pub member_in : ((m : Name) → is_member (own t K) m ≡ true → IsSpawned K m → HasEnded K m) → (m : Name) → is_member (own t K) m ≡ true → IsSpawned X m → IsSpawned K m
    member_in timely [] i s = refl
    member_in timely (k ∷ p) i s =
        ⊎_elim (λ c. child_in (k ∷ p) c s)
        (λ g.
        let parent = member_in timely p g (parent_spawned cells X k p legal_at.0 s) in
        let all = complete p (timely p g parent) in
        let sp = spawned_too cells X H legal_at.0 lh front_up (k ∷ p) s in
        let a = ((children_numbered cells H p k lh).0 sp).1 in
        spawned_back cells K H lk lh reaches k p sp (omega (arith, a, ap spawn_count all)))
        (member_up cells K t k p lk i)

    -- whose end the event waits for has ended in K
    pub awaited : (a : Action) → IsTimely cells K t a → IsSpawned X t → (u : Name) → IsSpawned X u → awaits X t a u ≡ true → HasEnded K u
    awaited Start m st u su h =
        let e = (and_parts (is_elder u t) _ h).0 in
        let sh = spawned_too cells X H legal_at.0 lh front_up u su in
        let sk = elder_back cells K H lk lh reaches u t e m.spawned sh in
        m.behind u (sym (before_too cells K H lk lh reaches u t sk m.spawned) ∙ before_too cells X H legal_at.0 lh front_up u t su st ∙ h)
    awaited (Wait items) m st u su h =
        let c = (and_parts (is_child t u) _ h).0 in
        let sk = child_in u c su in
        m u (sym (covers_too cells K H lk lh reaches t items u sk) ∙ covers_too cells X H legal_at.0 lh front_up t items u su ∙ h) sk
    awaited Close m st u su h =
        let i = ap (λ acts. is_member acts u) (sym here) ∙ h in m u i (member_in m u i su)
    awaited (Let r x) m st u su h = absurd (false≢true h)
    awaited (Load r c x) m st u su h = absurd (false≢true h)
    awaited (Store c x) m st u su h = absurd (false≢true h)
    awaited (Print x) m st u su h = absurd (false≢true h)
    awaited (Spawn s) m st u su h = absurd (false≢true h)
    awaited Open m st u su h = absurd (false≢true h)
    awaited (Test y) m st u su h = absurd (false≢true h)
    awaited End m st u su h = absurd (false≢true h)
    awaited Fault m st u su h = absurd (false≢true h)

    -- and the task's spawn is the same
    pub spawn_here : IsSpawned X t → IsSpawned K t → spawn_of t X ≡ spawn_of t K
    spawn_here sx sk = at t sx sk
      where
        at : (u : Name) → IsSpawned X u → IsSpawned K u → spawn_of u X ≡ spawn_of u K
        at [] sx sk = root_unspawned cells X legal_at.0 ∙ sym (root_unspawned cells K lk)
        at (n ∷ p) sx sk = sym (spawn_too cells X H legal_at.0 lh front_up n p sx) ∙ spawn_too cells K H lk lh reaches n p sk
