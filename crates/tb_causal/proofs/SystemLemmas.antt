-- The parabolic lemma and causal consistency, in any reversible system that meets the axioms.
use Rattle.std.proofs.Common.{◌≡◌, ℕ, zero, suc, ◌+◌, List, [], ◌∷◌, ◌++◌, length, Bool, true, false, not, ⊎_elim, refl, sym, ap, ◌∙◌, subst, arith, append_assoc, append-nil, ◌≤◌, length-append}
use Rattle.tb_causal.specs.Systems.{System, Square, IsPath, end_of, AreBackward, AreForward, Parabola, EndlessBack, CausallyEquivalent, same, turned, by_way, behind, swap, cancel}
use Rattle.tb_causal.specs.Axioms.{Axioms, Back}

-- ---- paths

module _ (S : System) (A : Axioms S) where
  -- a path leads to a state
  pub end_state : (x : S.State) (ls : List S.Label) → S.IsState x → IsPath S x ls → S.IsState (end_of S x ls)
  end_state x [] s p = s
  end_state x (l ∷ ls) s p = end_state (S.target x l) ls (A.kept x l s p.0) p.1

  -- a path with another beginning, or with other labels
  pub record Reaches (x : S.State) (ls : List S.Label) (y : S.State) (ms : List S.Label) : Type 0 where
    pub path : IsPath S y ms
    pub ends : S.Same (end_of S x ls) (end_of S y ms)

  -- the same labels from an equivalent state
  pub from_same : (x y : S.State) (ls : List S.Label) → S.IsState x → S.IsState y → S.Same x y → IsPath S x ls → Reaches x ls y ls
  from_same x y [] s t q p = record { path = tt; ends = q }
  from_same x y (l ∷ ls) s t q p =
      let c = A.congruent x y l s t q p.0 in
      let r = from_same (S.target x l) (S.target y l) ls (A.kept x l s p.0) (A.kept y l t c.0) c.1 p.1 in
      record { path = (c.0, r.path); ends = r.ends }

  crossed : (x : S.State) (l m : S.Label) (ls : List S.Label) → S.IsState x → S.Enabled x l → S.Enabled x m → Square S x l m → IsPath S x (l ∷ m ∷ ls) → Reaches x (l ∷ m ∷ ls) x (m ∷ l ∷ ls)
  crossed x l m ls s a b q p =
      let r = from_same (S.target (S.target x l) m) (S.target (S.target x m) l) ls (A.kept (S.target x l) m (A.kept x l s a) q.first) (A.kept (S.target x m) l (A.kept x m s b) q.second) q.meet p.1.1 in
      record { path = (b, (q.second, r.path)); ends = r.ends }

  chained : (x : S.State) (ks ls ms : List S.Label) → S.IsState x → (IsPath S x ks → Reaches x ks x ls) → (IsPath S x ls → Reaches x ls x ms) → IsPath S x ks → Reaches x ks x ms
  chained x ks ls ms s f g p =
      let q = f p in
      let r = g q.path in
      record { path = r.path; ends = A.trans _ _ _ (end_state x ks s p) (end_state x ls s q.path) q.ends r.ends }

  -- what is causally equivalent to a path is one, and ends alike
  pub sound : {x : S.State} {ls ms : List S.Label} → CausallyEquivalent S x ls ms → S.IsState x → (IsPath S x ls → Reaches x ls x ms) × (IsPath S x ms → Reaches x ms x ls)
  sound (same x ls) s =
      let r : IsPath S x ls → Reaches x ls x ls = λ p. record { path = p; ends = A.refl _ (end_state x ls s p) } in (r, r)
  sound (turned r) s = ((sound r s).1, (sound r s).0)
  sound (by_way {x} {ks} {ls} {ms} r q) s =
      (chained x ks ls ms s (sound r s).0 (sound q s).0, chained x ms ls ks s (sound q s).1 (sound r s).1)
  sound (behind x l r) s = (
    λ p. let q = (sound r (A.kept x l s p.0)).0 p.1 in record { path = (p.0, q.path); ends = q.ends },
    λ p. let q = (sound r (A.kept x l s p.0)).1 p.1 in record { path = (p.0, q.path); ends = q.ends },
  )
  sound (swap x l m ls a b i) s =
      let q = A.square x l m s a b i in
      let q' : Square S x m l = record { first = q.second; second = q.first; meet = A.sym _ _ q.meet } in
      (crossed x l m ls s a b q, crossed x m l ls s b a q')
  sound (cancel x l ls a) s =
      let o = A.loop x l s a in
      let y = S.target (S.target x l) (S.inverse l) in
      let t = A.kept (S.target x l) (S.inverse l) (A.kept x l s a) o.0 in (
        λ p. let r = from_same y x ls t s o.1 p.1.1 in record { path = r.path; ends = r.ends },
        λ p. let r = from_same x y ls s t (A.sym _ _ o.1) p in record { path = (a, (o.0, r.path)); ends = r.ends },
      )

  -- in front of a common end
  in_front : {x : S.State} {ls ms : List S.Label} → CausallyEquivalent S x ls ms → (ns : List S.Label) → CausallyEquivalent S x (ls ++ ns) (ms ++ ns)
  in_front (same x ls) ns = same x (ls ++ ns)
  in_front (turned r) ns = turned (in_front r ns)
  in_front (by_way r q) ns = by_way (in_front r ns) (in_front q ns)
  in_front (behind x l r) ns = behind x l (in_front r ns)
  in_front (swap x l m ls a b i) ns = swap x l m (ls ++ ns) a b i
  in_front (cancel x l ls a) ns = cancel x l (ls ++ ns) a

  -- after a common beginning
  behind_all : (x : S.State) (ks : List S.Label) {ls ms : List S.Label} → CausallyEquivalent S (end_of S x ks) ls ms → CausallyEquivalent S x (ks ++ ls) (ks ++ ms)
  behind_all x [] r = r
  behind_all x (k ∷ ks) r = behind x k (behind_all (S.target x k) ks r)

  beginning : (x : S.State) (ls ms : List S.Label) → IsPath S x (ls ++ ms) → IsPath S x ls
  beginning x [] ms p = tt
  beginning x (l ∷ ls) ms p = (p.0, beginning (S.target x l) ls ms p.1)

  -- one path after another
  pub joined : (x : S.State) (ls ms : List S.Label) → IsPath S x ls → IsPath S (end_of S x ls) ms → IsPath S x (ls ++ ms)
  joined x [] ms p q = q
  joined x (l ∷ ls) ms p q = (p.0, joined (S.target x l) ls ms p.1 q)

  -- ends where that one does
  pub end_joined : (x : S.State) (ls ms : List S.Label) → end_of S x (ls ++ ms) ≡ end_of S (end_of S x ls) ms
  end_joined x [] ms = refl
  end_joined x (l ∷ ls) ms = end_joined (S.target x l) ls ms

  -- ---- the parabolic lemma

  -- a transition forward changes places with one back, unless the two cancel
  swapped : (x : S.State) (l m : S.Label) (ms : List S.Label) → S.IsState x → S.Enabled x l → S.Enabled (S.target x l) m → S.Independent (S.target x l) (S.inverse l) m → CausallyEquivalent S x (l ∷ m ∷ ms) (m ∷ l ∷ ms)
  swapped x l m ms s a b i =
      let y = S.target x l in
      let k = S.inverse l in
      let o = A.loop x l s a in
      let q = A.square y k m (A.kept x l s a) o.0 b i in
      let there : CausallyEquivalent S x (l ∷ m ∷ ms) (l ∷ m ∷ k ∷ S.inverse k ∷ ms) = behind x l (behind y m (turned (cancel (S.target y m) k ms q.second))) in
      let across : CausallyEquivalent S x (l ∷ m ∷ k ∷ S.inverse k ∷ ms) (l ∷ k ∷ m ∷ S.inverse k ∷ ms) = behind x l (turned (swap y k m (S.inverse k ∷ ms) o.0 b i)) in
      let away : CausallyEquivalent S x (l ∷ k ∷ m ∷ S.inverse k ∷ ms) (m ∷ S.inverse k ∷ ms) = cancel x l (m ∷ S.inverse k ∷ ms) a in
      subst (λ n. CausallyEquivalent S x (l ∷ m ∷ ms) (m ∷ n ∷ ms)) (A.twice l) (by_way there (by_way across away))

  past : (x : S.State) (l : S.Label) (ms : List S.Label) → S.IsState x → S.Enabled x l → S.is_backward l ≡ false → IsPath S (S.target x l) ms → AreBackward S ms → Parabola S x (l ∷ ms)
  past x l [] s a f p b = record { back = []; forth = l ∷ []; backward = tt; forward = (f, tt); equivalent = same x (l ∷ []); no_longer = omega arith }
  past x l (m ∷ ms) s a f p b =
      ⊎_elim
      (λ e. record {
        back = ms;
        forth = [];
        backward = b.1;
        forward = tt;
        equivalent = subst (CausallyEquivalent S x (l ∷ m ∷ ms)) (sym (append-nil ms)) (subst (λ k. CausallyEquivalent S x (l ∷ k ∷ ms) ms) e (cancel x l ms a));
        no_longer = omega arith;
      })
      (λ i.
      let c = swapped x l m ms s a p.0 i in
      let r = ((sound c s).0 (a, p)).path in
      let rest = past (S.target x m) l ms (A.kept x m s r.0) r.1.0 f r.1.1 b.1 in
      record { back = m ∷ rest.back; forth = rest.forth; backward = (b.0, rest.backward); forward = rest.forward; equivalent = by_way c (behind x m rest.equivalent); no_longer = omega (arith, rest.no_longer) })
      (A.backward (S.target x l) (S.inverse l) m (A.kept x l s a) (A.loop x l s a).0 p.0 (A.turns l ∙ ap not f) b.0)

  forward_both : (ls ms : List S.Label) → AreForward S ls → AreForward S ms → AreForward S (ls ++ ms)
  forward_both [] ms f g = g
  forward_both (l ∷ ls) ms f g = (f.0, forward_both ls ms f.1 g)

  pub parabolic : (x : S.State) (ls : List S.Label) → S.IsState x → IsPath S x ls → Parabola S x ls
  parabolic x [] s p = record { back = []; forth = []; backward = tt; forward = tt; equivalent = same x []; no_longer = omega arith }
  parabolic x (l ∷ ls) s p = at (S.is_backward l) refl (parabolic (S.target x l) ls (A.kept x l s p.0) p.1)
    where
      at : (b : Bool) → S.is_backward l ≡ b → Parabola S (S.target x l) ls → Parabola S x (l ∷ ls)
      at true e r = record { back = l ∷ r.back; forth = r.forth; backward = (e, r.backward); forward = r.forward; equivalent = behind x l r.equivalent; no_longer = omega (arith, r.no_longer) }
      at false e r =
          let whole = ((sound r.equivalent (A.kept x l s p.0)).0 p.1).path in
          let q = past x l r.back s p.0 e (beginning (S.target x l) r.back r.forth whole) r.backward in
          record {
            back = q.back;
            forth = q.forth ++ r.forth;
            backward = q.backward;
            forward = forward_both q.forth r.forth q.forward r.forward;
            equivalent =
                by_way (behind x l r.equivalent)
                (subst (CausallyEquivalent S x (l ∷ (r.back ++ r.forth))) (append_assoc q.back q.forth r.forth) (in_front q.equivalent r.forth));
            no_longer = omega (arith, q.no_longer, r.no_longer, length-append q.forth r.forth);
          }

  -- ---- the way back along a path

  abbrev way_back : List S.Label → List S.Label
  way_back [] = []
  way_back (l ∷ ls) = way_back ls ++ S.inverse l ∷ []

  way_back_last : (ls : List S.Label) (l : S.Label) → way_back (ls ++ l ∷ []) ≡ S.inverse l ∷ way_back ls
  way_back_last [] l = refl
  way_back_last (k ∷ ls) l = ap (λ ms. ms ++ S.inverse k ∷ []) (way_back_last ls l)

  way_back_twice : (ls : List S.Label) → way_back (way_back ls) ≡ ls
  way_back_twice [] = refl
  way_back_twice (l ∷ ls) =
      way_back_last (way_back ls) (S.inverse l) ∙ ap (λ k. k ∷ way_back (way_back ls)) (A.twice l) ∙ ap (λ ms. l ∷ ms) (way_back_twice ls)

  goes_back : (x : S.State) (ls : List S.Label) → S.IsState x → IsPath S x ls → Reaches x [] (end_of S x ls) (way_back ls)
  goes_back x [] s p = record { path = tt; ends = A.refl x s }
  goes_back x (l ∷ ls) s p =
      let y = S.target x l in
      let t = A.kept x l s p.0 in
      let r = goes_back y ls t p.1 in
      let o = A.loop x l s p.0 in
      let z = end_of S y ls in
      let w = end_of S z (way_back ls) in
      let zs = end_state y ls t p.1 in
      let ws = end_state z (way_back ls) zs r.path in
      let c = A.congruent y w (S.inverse l) t ws r.ends o.0 in
      let ys = A.kept y (S.inverse l) t o.0 in
      record {
        path = joined z (way_back ls) (S.inverse l ∷ []) r.path (c.0, tt);
        ends = subst (S.Same x) (sym (end_joined z (way_back ls) (S.inverse l ∷ []))) (A.trans _ _ _ s ys (A.sym _ _ o.1) c.1);
      }

  -- there and back is nothing
  nothing : (x : S.State) (ls : List S.Label) → S.IsState x → IsPath S x ls → CausallyEquivalent S x (ls ++ way_back ls) []
  nothing x [] s p = same x []
  nothing x (l ∷ ls) s p =
      let r = in_front (nothing (S.target x l) ls (A.kept x l s p.0) p.1) (S.inverse l ∷ []) in
      by_way (behind x l (subst (λ ms. CausallyEquivalent S (S.target x l) ms (S.inverse l ∷ [])) (append_assoc ls (way_back ls) (S.inverse l ∷ [])) r)) (cancel x l [] p.0)

  -- ---- causal consistency

  grown : (x : S.State) (ls : List S.Label) → S.IsState x → IsPath S x ls → AreForward S ls → A.size (end_of S x ls) ≡ length ls + A.size x
  grown x [] s p f = omega arith
  grown x (l ∷ ls) s p f = omega (arith, grown (S.target x l) ls (A.kept x l s p.0) p.1 f.1, A.grows x l s p.0 f.0)

  bounded : (x : S.State) (ls : List S.Label) → S.IsState x → IsPath S x ls → A.size (end_of S x ls) ≤ length ls + A.size x
  bounded x [] s p = omega arith
  bounded x (l ∷ ls) s p = at (S.is_backward l) refl (bounded (S.target x l) ls (A.kept x l s p.0) p.1)
    where
      at : (b : Bool) → S.is_backward l ≡ b → A.size (end_of S (S.target x l) ls) ≤ length ls + A.size (S.target x l) → A.size (end_of S (S.target x l) ls) ≤ suc (length ls) + A.size x
      at true e h = omega (arith, h, A.shrinks x l s p.0 e)
      at false e h = omega (arith, h, A.grows x l s p.0 e)

  -- a path forward is no longer than one that ends alike
  pub shortest : (x : S.State) (ls ms : List S.Label) → S.IsState x → IsPath S x ls → IsPath S x ms → AreForward S ms → S.Same (end_of S x ls) (end_of S x ms) → length ms ≤ length ls
  shortest x ls ms s p q f e =
      omega (arith, grown x ms s q f, bounded x ls s p, A.same_size _ _ (end_state x ls s p) (end_state x ms s q) e)

  -- where nothing can be taken back, a path that returns is nothing
  returning : (x : S.State) (ls : List S.Label) → S.IsState x → A.size x ≡ 0 → IsPath S x ls → S.Same (end_of S x ls) x → CausallyEquivalent S x ls []
  returning x ls s z p q = at r.back r.forth r.backward r.forward r.equivalent
    where
      r : Parabola S x ls
      r = parabolic x ls s p

      at : (back forth : List S.Label) → AreBackward S back → AreForward S forth → CausallyEquivalent S x ls (back ++ forth) → CausallyEquivalent S x ls []
      at [] [] b f e = e
      at [] (l ∷ forth) b f e =
          let t = (sound e s).0 p in
          let g = grown x (l ∷ forth) s t.path f in
          let i = A.same_size _ _ (end_state x ls s p) (end_state x (l ∷ forth) s t.path) t.ends in
          let j = A.same_size _ _ (end_state x ls s p) s q in
          absurd (omega (arith, g, i, j, z))
      at (l ∷ back) forth b f e =
          let t = (sound e s).0 p in
          absurd (omega (arith, A.shrinks x l s t.path.0 b.0, z))

  from_ground : (x : S.State) (ls ms : List S.Label) → S.IsState x → A.size x ≡ 0 → IsPath S x ls → IsPath S x ms → S.Same (end_of S x ls) (end_of S x ms) → CausallyEquivalent S x ls ms
  from_ground x ls ms s z p q e =
      let y = end_of S x ls in
      let w = way_back ms in
      let ys = end_state x ls s p in
      let zs = end_state x ms s q in
      let b = goes_back x ms s q in
      let c = from_same (end_of S x ms) y w zs ys (A.sym _ _ e) b.path in
      let round = joined x ls w p c.path in
      let cs = end_state y w ys c.path in
      let returns : S.Same (end_of S y w) x = A.sym _ _ (A.trans _ _ _ s (end_state _ w zs b.path) b.ends c.ends) in
      let gone : CausallyEquivalent S x ((ls ++ w) ++ ms) ms = in_front (returning x (ls ++ w) s z round (subst (λ u. S.Same u x) (sym (end_joined x ls w)) returns)) ms in
      let kept : CausallyEquivalent S y (w ++ ms) [] = subst (λ ns. CausallyEquivalent S y (w ++ ns) []) (way_back_twice ms) (nothing y w ys c.path) in
      let longer : CausallyEquivalent S x ls (ls ++ (w ++ ms)) = subst (λ ns. CausallyEquivalent S x ns (ls ++ (w ++ ms))) (append-nil ls) (turned (behind_all x ls kept)) in
      by_way longer (subst (λ ns. CausallyEquivalent S x ns ms) (append_assoc ls w ms) gone)

  -- the way to where nothing can be taken back
  record Descent (x : S.State) : Type 0 where
    labels : List S.Label
    path : IsPath S x labels
    ground : A.size (end_of S x labels) ≡ 0

  descent : (n : ℕ) (x : S.State) → S.IsState x → A.size x ≡ n → Descent x
  descent zero x s z = record { labels = []; path = tt; ground = z }
  descent (suc n) x s z = ⊎_elim (λ e. absurd (omega (arith, e, z))) (at (descent n)) (A.ground x s)
    where
      at : ((y : S.State) → S.IsState y → A.size y ≡ n → Descent y) → Back S x → Descent x
      at more b =
          let d = more (S.target x b.label) (A.kept x b.label s b.enabled) (omega (arith, A.shrinks x b.label s b.enabled b.backward, z)) in
          record { labels = b.label ∷ d.labels; path = (b.enabled, d.path); ground = d.ground }

  -- paths from one state that end alike are causally equivalent
  pub consistent : (x : S.State) (ls ms : List S.Label) → S.IsState x → IsPath S x ls → IsPath S x ms → S.Same (end_of S x ls) (end_of S x ms) → CausallyEquivalent S x ls ms
  consistent x ls ms s p q e =
      let d = descent (A.size x) x s refl in
      let u = d.labels in
      let y = end_of S x u in
      let ys = end_state x u s d.path in
      let w = way_back u in
      let b = goes_back x u s d.path in
      let zs = end_state y w ys b.path in
      let lp = from_same x (end_of S y w) ls s zs b.ends p in
      let mp = from_same x (end_of S y w) ms s zs b.ends q in
      let le = end_state x ls s p in
      let me = end_state x ms s q in
      let ends : S.Same (end_of S (end_of S y w) ls) (end_of S (end_of S y w) ms) =
      A.trans _ _ _ (end_state _ ls zs lp.path) le (A.sym _ _ lp.ends) (A.trans _ _ _ le me e mp.ends) in
      let lj = end_joined y w ls in
      let mj = end_joined y w ms in
      let c = from_ground y (w ++ ls) (w ++ ms) ys d.ground (joined y w ls b.path lp.path) (joined y w ms b.path mp.path) (subst (λ t. S.Same t (end_of S y (w ++ ms))) (sym lj) (subst (S.Same (end_of S (end_of S y w) ls)) (sym mj) ends)) in
      let away : (ns : List S.Label) → CausallyEquivalent S x (u ++ (w ++ ns)) ns =
      λ ns. subst (λ ks. CausallyEquivalent S x ks ns) (append_assoc u w ns) (in_front (nothing x u s d.path) ns) in
      by_way (turned (away ls)) (by_way (behind_all x u c) (away ms))

  -- ---- well-foundedness

  pub no_endless_back : (x : ℕ → S.State) (l : ℕ → S.Label) → EndlessBack S x l → ⊥
  no_endless_back x l e = omega (arith, at (suc (A.size (x 0))))
    where
      at : (n : ℕ) → A.size (x n) + n ≡ A.size (x 0)
      at zero = omega arith
      at (suc n) =
          let t = S.target (x n) (l n) in
          let q = A.same_size t (x (suc n)) (A.kept (x n) (l n) (e.states n) (e.enabled n)) (e.states (suc n)) (e.next n) in
          omega (arith, at n, q, A.shrinks (x n) (l n) (e.states n) (e.enabled n) (e.backward n))
