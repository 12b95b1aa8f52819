-- The siblings of a task by their ordinals, instead of all steps that spawn one.
use Rattle.std.proofs.Common.{◌≡◌, ◌≢◌, ℕ, zero, suc, List, [], ◌∷◌, ◌++◌, Bool, true, false, ◌&&◌, ◌||◌, drop, cond, refl, sym, ap, ap₂, ◌∙◌, subst, append-nil, append_assoc, ◌+◌, nat_lt, length, length-append, arith, Option, Some, None, unwrap_or, if◌then◌else◌}
use Rattle.std.specs.Prelude.{codes}
use Rattle.std.proofs.lemmas.Bool.{true≢false, false_from_ne_true, and_right}
use Rattle.tb_model.specs.declared.action.Action.{Action}
use Rattle.tb_model.specs.declared.action.Action.TheVariants.{Start, Let, Load, Store, Print, Spawn, Wait, Open, Close, Test, End, Fault}
use Rattle.tb_model.specs.declared.event.Event.{Event}
use Rattle.tb_model.specs.Names.{Name, child, parent, same_name, is_elder}
use Rattle.tb_model.specs.Items.{is_before, is_apart, some_meet}
use Rattle.tb_model.specs.Facts.{History, own, prepend_if, is_spawned, items_of, IsSpawned}
use Rattle.tb_model.specs.Legal.{Cells, Legal, Continues, spawn_count}
use Rattle.tb_model.proofs.TestLemmas.{same_true, same_refl}
use Rattle.tb_model.proofs.FactsLemmas.{acted_spawned}
use Rattle.tb_view.specs.Listing.{joined}
use Rattle.tb_view.specs.Relations.{line_where, relation_lines, spawned_lines, lines_among}
use Rattle.tb_view.proofs.ListingLemmas.{joined-append}

-- ---- only siblings stand to each other

unrelated : (H : History) (t u : Name) → is_elder u t ≡ false → is_elder t u ≡ false → relation_lines H t u ≡ []
unrelated H t u e f =
    ap₂
    (λ a b.
    line_where (a && some_meet is_before (items_of t H) (items_of u H)) u (codes " before")
    ++ line_where ((a && some_meet is_apart (items_of t H) (items_of u H)) || (b && some_meet is_apart (items_of u H) (items_of t H))) u (codes " apart"))
    e f

others_child : (H : History) (t p : Name) (n : ℕ) → same_name p (drop 1 t) ≡ false → relation_lines H t (child p n) ≡ []
others_child H [] p n e = refl
others_child H (m ∷ q) p n e =
    let back : same_name q p ≡ false = false_from_ne_true (same_name q p) (λ s. true≢false (sym (subst (λ x. same_name x q ≡ true) (same_true q p s) (same_refl q)) ∙ e)) in
    unrelated H (m ∷ q) (n ∷ p) (and_right (nat_lt n m) (same_name p q) e) (and_right (nat_lt m n) (same_name q p) back)

-- ---- the lines of a parent's first children

abbrev pub lines_upto : History → Name → ℕ → List (List ℕ)
lines_upto G t zero = []
lines_upto G t (suc n) = lines_upto G t n ++ relation_lines G t (child (drop 1 t) (suc n))

module _ (cells : Cells) (G : History) (t : Name) where
  abbrev counted : List Action → List (List ℕ)
  counted acts = lines_upto G t (spawn_count acts)

  plain : (a : Action) (acts : List Action) → spawned_lines G t a ≡ [] → spawn_count (a ∷ acts) ≡ spawn_count acts → (b : Bool) (lines : List (List ℕ)) → lines ≡ counted acts
      → lines ++ spawned_lines G t a ≡ counted (prepend_if b a acts)
  plain a acts none same true lines h = ap (λ x. lines ++ x) none ∙ append-nil lines ∙ h ∙ ap (lines_upto G t) (sym same)
  plain a acts none same false lines h = ap (λ x. lines ++ x) none ∙ append-nil lines ∙ h

  added : (v : Event) (H : History) (a : Action) → Continues cells v.task (own v.task H) a → lines_among G t H ≡ counted (own (drop 1 t) H)
      → lines_among G t H ++ spawned_lines G t a ≡ counted (prepend_if (same_name v.task (drop 1 t)) a (own (drop 1 t) H))
  added v H (Spawn s) k h = at (same_name v.task (drop 1 t)) refl
    where
      at : (b : Bool) → same_name v.task (drop 1 t) ≡ b → lines_among G t H ++ relation_lines G t s.child ≡ counted (prepend_if b (Spawn s) (own (drop 1 t) H))
      at true e =
          let same = same_true v.task (drop 1 t) e in
          ap₂ (λ x y. x ++ relation_lines G t y) h (k.1 ∙ ap (λ p. child p (suc (spawn_count (own p H)))) same)
      at false e =
          ap (λ x. lines_among G t H ++ x) (ap (relation_lines G t) k.1 ∙ others_child G t v.task (suc (spawn_count (own v.task H))) e) ∙ append-nil (lines_among G t H) ∙ h
  added v H Start k h = plain Start (own (drop 1 t) H) refl refl (same_name v.task (drop 1 t)) (lines_among G t H) h
  added v H (Let r x) k h = plain (Let r x) (own (drop 1 t) H) refl refl (same_name v.task (drop 1 t)) (lines_among G t H) h
  added v H (Load r c x) k h = plain (Load r c x) (own (drop 1 t) H) refl refl (same_name v.task (drop 1 t)) (lines_among G t H) h
  added v H (Store c x) k h = plain (Store c x) (own (drop 1 t) H) refl refl (same_name v.task (drop 1 t)) (lines_among G t H) h
  added v H (Print x) k h = plain (Print x) (own (drop 1 t) H) refl refl (same_name v.task (drop 1 t)) (lines_among G t H) h
  added v H (Wait items) k h = plain (Wait items) (own (drop 1 t) H) refl refl (same_name v.task (drop 1 t)) (lines_among G t H) h
  added v H Open k h = plain Open (own (drop 1 t) H) refl refl (same_name v.task (drop 1 t)) (lines_among G t H) h
  added v H Close k h = plain Close (own (drop 1 t) H) refl refl (same_name v.task (drop 1 t)) (lines_among G t H) h
  added v H (Test b) k h = plain (Test b) (own (drop 1 t) H) refl refl (same_name v.task (drop 1 t)) (lines_among G t H) h
  added v H End k h = plain End (own (drop 1 t) H) refl refl (same_name v.task (drop 1 t)) (lines_among G t H) h
  added v H Fault k h = plain Fault (own (drop 1 t) H) refl refl (same_name v.task (drop 1 t)) (lines_among G t H) h

  by_children : (H : History) → Legal cells H → lines_among G t H ≡ counted (own (drop 1 t) H)
  by_children [] l = refl
  by_children (v ∷ H) l = added v H v.action l.1.own (by_children H l.0)

-- ---- how many children there are

none_acted : (p : Name) (H : History) → (own p H ≢ [] → IsSpawned H p) → is_spawned H p ≡ false → spawn_count (own p H) ≡ 0
none_acted p H acted unspawned = at (own p H) refl
  where
    at : (acts : List Action) → own p H ≡ acts → spawn_count acts ≡ 0
    at [] e = refl
    at (a ∷ acts) e = absurd (true≢false (sym (acted (λ n. cons_is_no_end (sym n ∙ e))) ∙ unspawned))
      where
        cons_is_no_end : {x : Action} {xs : List Action} → [] ≡ x ∷ xs → ⊥
        cons_is_no_end h = cc

pub children_counted : (cells : Cells) (H : History) (p : Name) (o : Option ℕ) (n : ℕ) → Legal cells H → o ≡ (if is_spawned H p then Some (spawn_count (own p H)) else None) → n ≡ unwrap_or o 0
    → n ≡ spawn_count (own p H)
children_counted cells H p o n l is e = e ∙ ap (λ x. unwrap_or x 0) is ∙ at (is_spawned H p) refl
  where
    at : (b : Bool) → is_spawned H p ≡ b → unwrap_or (cond b (Some (spawn_count (own p H))) None) 0 ≡ spawn_count (own p H)
    at true q = refl
    at false q = sym (none_acted p H (acted_spawned cells H p l) q)

-- after the last child the lines are those of the whole history
pub whole_history : (cells : Cells) (H : History) (t : Name) (n : ℕ) → Legal cells H → n ≡ spawn_count (own (drop 1 t) H) → lines_upto H t n ≡ lines_among H t H
whole_history cells H t n l e = ap (lines_upto H t) e ∙ sym (by_children cells H t H l)

-- a task without a parent is the root, which has no siblings
pub root_alone : (cells : Cells) (H : History) (t : Name) → Legal cells H → parent t ≡ None → lines_among H t H ≡ []
root_alone cells H [] l e = by_children cells H [] H l ∙ none (spawn_count (own [] H))
  where
    none : (n : ℕ) → lines_upto H [] n ≡ []
    none zero = refl
    none (suc n) = append-nil (lines_upto H [] n) ∙ none n
root_alone cells H (n ∷ u) l e = absurd cc

-- ---- one child more

module _ (H : History) (t p : Name) (n : ℕ) (is : p ≡ drop 1 t) where
  abbrev added_lines : List (List ℕ)
  added_lines = relation_lines H t (child p (n + 1))

  lines_more : lines_upto H t (n + 1) ≡ lines_upto H t n ++ added_lines
  lines_more =
      let one : n + 1 ≡ suc n = omega arith in
      ap (lines_upto H t) one ∙ ap₂ (λ q k. lines_upto H t n ++ relation_lines H t (child q k)) (sym is) (sym one)

  pub text_more : (before text more : List ℕ) → text ≡ before ++ joined (lines_upto H t n) → more ≡ text ++ joined added_lines → more ≡ before ++ joined (lines_upto H t (n + 1))
  text_more before text more told grows =
      grows ∙ ap (λ x. x ++ joined added_lines) told ∙ append_assoc before (joined (lines_upto H t n)) (joined added_lines)
      ∙ ap (λ x. before ++ x) (sym (joined-append (lines_upto H t n) added_lines) ∙ ap joined (sym lines_more))

  pub count_more : (count k : ℕ) → count ≡ length (lines_upto H t n) → k ≡ length added_lines → count + k ≡ length (lines_upto H t (n + 1))
  count_more count k told is = omega (arith, told, is, length-append (lines_upto H t n) added_lines, ap length lines_more)
