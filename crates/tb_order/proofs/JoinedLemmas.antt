-- What is joined, end by end.
use Rattle.std.proofs.Common.{◌≡◌, ◌<◌, ℕ, Option, Some, None, List, [], ◌∷◌, ◌++◌, true, refl, sym, ◌∙◌, subst, ◌⊎◌, inl, inr, ⊎_elim}
use Rattle.tb_steps.specs.Entries.{Entry}
use Rattle.tb_lanes.specs.declared.tasks.Tasks.{Tasks}
use Rattle.tb_lanes.specs.declared.past.Past.{Past}
use Rattle.tb_lanes.specs.declared.joined.Joined.{Joined}
use Rattle.tb_lanes.specs.Clocks.{IsJoined, IsSound, lanes_of, links_at, reaches}
use Rattle.tb_lanes.specs.Bounds.{AreRising, bound_among}
use Rattle.tb_lanes.specs.Linking.{order_of}
use Rattle.tb_lanes.specs.Needing.{IsLinkedEnd}
use Rattle.tb_lanes.proofs.NeedingLemmas.{below_last, below_more, each_more}
use Rattle.tb_lanes.specs.Rows.{AreJoined, IsTold, JoinsMore}

module _ (entries : List Entry) (tasks : Tasks) (past : Past) (k p : ℕ) where
  pub joins_none : (j : Joined) → AreJoined entries tasks past k p j → JoinsMore entries tasks past k p j j
  joins_none j are = record {
    are = are;
    kept = λ q l t. t;
    added = λ q l t. inl t;
    listed = λ q h. h;
    same = λ e. (refl, e);
  }

  pub joins_trans : (a b c : Joined) → JoinsMore entries tasks past k p a b → JoinsMore entries tasks past k p b c → JoinsMore entries tasks past k p a c
  joins_trans a b c f g = record {
    are = g.are;
    kept = λ q l t. g.kept q l (f.kept q l t);
    added = λ q l t. ⊎_elim (λ h. ⊎_elim (λ y. inl y) (λ y. inr (g.listed q y)) (f.added q l h)) (λ h. inr h) (g.added q l t);
    listed = λ q h. g.listed q (f.listed q h);
    same = λ e. let s = g.same e in let r = f.same s.1 in (s.0 ∙ r.0, r.1);
  }

  -- one end more
  pub joins_one : (a b c : Joined) (s : ℕ) → JoinsMore entries tasks past k p a b → AreRising c.rows.items
      → IsSound (order_of past.exclusion) entries tasks (lanes_of past.clocks) (bound_among c.rows.items) k p
      → ((q : ℕ) → q < p → IsTold entries tasks past k p b q → IsTold entries tasks past k p c q)
      → IsJoined (order_of past.exclusion) entries tasks (lanes_of past.clocks) (bound_among c.rows.items) k p s → (y : ℕ) → (y ≡ s) ⊎ (b.end ≡ Some y) → c.end ≡ Some y
      → c.ends.items ≡ b.ends.items ++ s ∷ [] → links_at (order_of past.exclusion) entries p s ≡ true
      → ((q : ℕ) → q < p → IsTold entries tasks past k p c q → IsTold entries tasks past k p b q ⊎ (reaches (order_of past.exclusion) entries s q ≡ true)) → JoinsMore entries tasks past k p a c
  joins_one a b c s f rising sound stays here y found is more link adds = record {
    are = record {
      rising = rising;
      sound = sound;
      end = λ x e. subst (IsJoined (order_of past.exclusion) entries tasks (lanes_of past.clocks) (bound_among c.rows.items) k p) (the_some y x (sym_some is e)) (one y found);
      ends = each_more b.ends.items c.ends.items s more (IsLinkedEnd (order_of past.exclusion) entries p) f.are.ends (here.0, here.1, link);
    };
    kept = λ q l t. stays q l (f.kept q l t);
    added = λ q l t.
        ⊎_elim (λ h. ⊎_elim (λ y. inl y) (λ y. inr (below_more (order_of past.exclusion) entries b.ends.items c.ends.items s more q y)) (f.added q l h)) (λ h. inr (below_last (order_of past.exclusion) entries b.ends.items c.ends.items s more q h))
        (adds q l t);
    listed = λ q h. below_more (order_of past.exclusion) entries b.ends.items c.ends.items s more q (f.listed q h);
    same = λ e. absurd (no_some y (sym_some is e));
  }
    where
      sym_some : {o : Option ℕ} {w : Option ℕ} → c.end ≡ o → c.end ≡ w → o ≡ w
      sym_some a b = sym a ∙ b

      no_some : (x : ℕ) → ◌≡◌ {A = Option ℕ} (Some x) None → ⊥
      no_some x e = cc

      the_some : (x y : ℕ) → ◌≡◌ {A = Option ℕ} (Some x) (Some y) → x ≡ y
      the_some x y e = cc

      one : (y : ℕ) → (y ≡ s) ⊎ (b.end ≡ Some y) → IsJoined (order_of past.exclusion) entries tasks (lanes_of past.clocks) (bound_among c.rows.items) k p y
      one y (inl e) = subst (IsJoined (order_of past.exclusion) entries tasks (lanes_of past.clocks) (bound_among c.rows.items) k p) (sym e) here
      one y (inr e) = let j = f.are.end y e in (j.0, j.1, stays y j.0 j.2)
