-- What the relations of siblings are, read off the actions of their parent.
use Rattle.std.proofs.Common.{◌≡◌, ℕ, suc, List, [], ◌∷◌, ◌++◌, Bool, true, false, cond, ◌&&◌, ◌||◌, refl, sym, ap, ap₂, ◌∙◌, subst, arith, ◌==◌, eqb-true, eq-eqb, append-nil, nat_lt}
use Rattle.std.specs.List.{list_any}
use Rattle.std.proofs.lemmas.Bool.{both_ways, false_from_ne_true, or_parts}
use Rattle.tb_model.specs.declared.item.Item.{Item}
use Rattle.tb_model.specs.declared.action.Action.{Action}
use Rattle.tb_model.specs.declared.action.Action.TheVariants.{Spawn}
use Rattle.tb_model.specs.Names.{Name, same_name, is_elder}
use Rattle.tb_model.specs.Items.{Relation, some_meet, is_before, is_apart, has_no_items}
use Rattle.tb_model.specs.Facts.{History, own, is_of, is_spawn_of, prepend_if, items_of, items_for, before, apart, spawns, covers}
use Rattle.tb_model.specs.Legal.{Cells, Legal, Continues, spawn_count}
use Rattle.tb_model.specs.Siblings.{nth_items, child_before, child_apart, child_covered}
use Rattle.tb_model.proofs.TestLemmas.{same_true, same_refl}
use Rattle.tb_model.proofs.FactsLemmas.{spawn_names, spawn_bound, cons_head, cons_tail}
use Rattle.tb_model.proofs.FactsLemmas.{items_none}

-- who wasn't generated has no items
pub no_items : (t : Name) (H : History) → list_any (spawns t) H ≡ false → items_of t H ≡ []
no_items t [] h = refl
no_items t (v ∷ H) h =
    let o = or_parts (spawns t v) (list_any (spawns t) H) h in
    ap (λ i. i ++ items_of t H) (items_none t v.action o.0) ∙ no_items t H o.1

-- nothing meets no items
pub meets_none : (test : Relation → Bool) (new : List Item) → some_meet test new [] ≡ false
meets_none test [] = refl
meets_none test (i ∷ new) = meets_none test new

and_true : (b : Bool) → (b && true) ≡ b
and_true true = refl
and_true false = refl

own_items : (cells : Cells) (n : ℕ) (p : Name) (a : Action) (acts : List Action) (old : List Item) → Continues cells p acts a → (n ≡ suc (spawn_count acts) → old ≡ []) → old ≡ nth_items n acts → items_for (n ∷ p) a ++ old ≡ nth_items n (a ∷ acts)
own_items cells n p (Spawn spawn) acts old h fresh e = at (n == c) refl
  where
    c : ℕ
    c = suc (spawn_count acts)

    at : (b : Bool) → (n == c) ≡ b → cond (same_name spawn.child (n ∷ p)) spawn.items [] ++ old ≡ cond b spawn.items (nth_items n acts)
    at true q =
        let k = eqb-true n c q in
        let same : same_name spawn.child (n ∷ p) ≡ true = subst (λ w. same_name w (n ∷ p) ≡ true) (sym (h.1 ∙ ap (λ m. m ∷ p) (sym k))) (same_refl (n ∷ p)) in
        ap₂ (λ b o. cond b spawn.items [] ++ o) same (fresh k) ∙ append-nil spawn.items
    at false q =
        let other : same_name spawn.child (n ∷ p) ≡ false = false_from_ne_true (same_name spawn.child (n ∷ p)) (λ s. both_ways (n == c) q (eq-eqb n c (cons_head (sym (same_true spawn.child (n ∷ p) s) ∙ h.1)))) in
        ap (λ b. cond b spawn.items [] ++ old) other ∙ e
own_items cells n p _ acts old h fresh e = e

-- a child's items are those that its parent named
pub items_at : (cells : Cells) (H : History) (n : ℕ) (p : Name) → Legal cells H → items_of (n ∷ p) H ≡ nth_items n (own p H)
items_at cells [] n p l = refl
items_at cells (v ∷ H) n p l = at (is_of p v) refl (items_at cells H n p l.0)
  where
    at : (b : Bool) → is_of p v ≡ b → items_of (n ∷ p) H ≡ nth_items n (own p H) → items_for (n ∷ p) v.action ++ items_of (n ∷ p) H ≡ nth_items n (prepend_if b v.action (own p H))
    at true o e =
        own_items cells n p v.action (own p H) (items_of (n ∷ p) H) (subst (λ t. Continues cells t (own t H) v.action) (same_true v.task p o) l.1.own)
        (λ k. no_items (n ∷ p) H (false_from_ne_true (list_any (spawns (n ∷ p)) H) (λ s. let b = spawn_bound cells H n p l.0 s in absurd (omega arith)))) e
    at false o e =
        ap (λ i. i ++ items_of (n ∷ p) H) (items_none (n ∷ p) v.action (false_from_ne_true (is_spawn_of (n ∷ p) v.action) (λ s.
        both_ways (is_of p v) o (subst (λ t. same_name t p ≡ true) (cons_tail (spawn_names cells v.task (n ∷ p) (own v.task H) v.action l.1.own s)) (same_refl p)))))
        ∙ e

elder_at : (m n : ℕ) (p : Name) → is_elder (m ∷ p) (n ∷ p) ≡ nat_lt m n
elder_at m n p = ap (λ b. nat_lt m n && b) (same_refl p) ∙ and_true (nat_lt m n)

-- who is before whom, who excludes whom and who is covered, by the items that their parent named
pub before_at : (cells : Cells) (H : History) (p : Name) (m n : ℕ) → Legal cells H → before H (m ∷ p) (n ∷ p) ≡ child_before (own p H) m n
before_at cells H p m n l =
    ap₂ (λ b c. b && c) (elder_at m n p) (ap₂ (some_meet is_before) (items_at cells H n p l) (items_at cells H m p l))

pub apart_at : (cells : Cells) (H : History) (p : Name) (m n : ℕ) → Legal cells H → apart H (m ∷ p) (n ∷ p) ≡ child_apart (own p H) m n
apart_at cells H p m n l =
    ap₂ (λ b c. b || c) (ap₂ (λ b c. b && c) (elder_at m n p) (ap₂ (some_meet is_apart) (items_at cells H n p l) (items_at cells H m p l)))
    (ap₂ (λ b c. b && c) (elder_at n m p) (ap₂ (some_meet is_apart) (items_at cells H m p l) (items_at cells H n p l)))

pub covers_at : (cells : Cells) (H : History) (t : Name) (items : List Item) (n : ℕ) → Legal cells H → covers H t items (n ∷ t) ≡ child_covered (own t H) items n
covers_at cells H t items n l =
    ap₂ (λ b i. b && (has_no_items items || some_meet is_before items i)) (same_refl t) (items_at cells H n t l)
