-- Legal histories of which each task's actions in one are the older part of those in the other.
use Rattle.std.proofs.Common.{◌≡◌, ◌≤◌, ℕ, suc, List, [], ◌∷◌, ◌++◌, Bool, true, false, cond, ◌&&◌, ◌||◌, refl, sym, ap, ap₂, ◌∙◌, subst, arith, ◌==◌, eqb-true, eq-eqb, ne_eqb, nat_lt, Option, Some, None}
use Rattle.std.proofs.lemmas.Bool.{and_parts, both_ways, false≢true, false_from_ne_true, ltb-true}
use Rattle.tb_model.specs.declared.item.Item.{Item}
use Rattle.tb_model.specs.declared.action.Action.{Action}
use Rattle.tb_model.specs.declared.action.Action.TheVariants.{Spawn}
use Rattle.tb_model.specs.declared.event.Event.{Event}
use Rattle.tb_model.specs.Names.{Name, same_name, is_child, is_elder}
use Rattle.tb_model.specs.Items.{some_meet, is_before, is_apart, has_no_items}
use Rattle.tb_model.specs.Facts.{History, is_of, own, is_spawn_of, items_of, before, apart, covers, spawns, prepend_if, IsSpawned}
use Rattle.tb_model.specs.State.{spawn_of, spawn_or}
use Rattle.tb_model.specs.Legal.{Cells, Continues, MayFollow, Legal, spawn_count}
use Rattle.tb_model.specs.Siblings.{nth_items}
use Rattle.tb_model.proofs.TestLemmas.{same_true, same_refl}
use Rattle.tb_model.proofs.FactsLemmas.{cons_head, cons_tail, spawn_names}
use Rattle.tb_model.proofs.StateLemmas.{children_numbered}
use Rattle.tb_model.proofs.SiblingsLemmas.{items_at}
use Rattle.tb_one_run.proofs.SharedLemmas.{Older}

-- the first history's actions of each task are the older part of the second's
abbrev pub Reaches : History → History → Type 0
Reaches A B = (t : Name) → Older (own t A) (own t B)

more_spawns : (a : Action) (acts : List Action) → spawn_count acts ≤ spawn_count (a ∷ acts)
more_spawns (Spawn s) acts = omega arith
more_spawns _ acts = omega arith

count_older : (later acts : List Action) → spawn_count acts ≤ spawn_count (later ++ acts)
count_older [] acts = omega arith
count_older (a ∷ later) acts = omega (arith, more_spawns a (later ++ acts), count_older later acts)

one_older : (n : ℕ) (a : Action) (acts : List Action) → n ≤ spawn_count acts → nth_items n (a ∷ acts) ≡ nth_items n acts
one_older n (Spawn s) acts h =
    ap (λ b. cond b s.items (nth_items n acts)) (ne_eqb n (suc (spawn_count acts)) (λ e. omega (arith, e, h)))
one_older n _ acts h = refl

nth_older : (n : ℕ) (later acts : List Action) → n ≤ spawn_count acts → nth_items n (later ++ acts) ≡ nth_items n acts
nth_older n [] acts h = refl
nth_older n (a ∷ later) acts h =
    one_older n a (later ++ acts) (omega (arith, h, count_older later acts)) ∙ nth_older n later acts h

-- ---- the action that generated a child, by its ordinal

nth_spawn : ℕ → List Action → Option Action
nth_spawn n [] = None
nth_spawn n (Spawn s ∷ acts) = cond (n == suc (spawn_count acts)) (Some (Spawn s)) (nth_spawn n acts)
nth_spawn n (_ ∷ acts) = nth_spawn n acts

own_spawn : (cells : Cells) (n : ℕ) (p : Name) (a : Action) (acts : List Action) → Continues cells p acts a → spawn_or (n ∷ p) a (nth_spawn n acts) ≡ nth_spawn n (a ∷ acts)
unfolding nth_spawn
own_spawn cells n p (Spawn spawn) acts h = at (n == c) refl
  where
    c : ℕ
    c = suc (spawn_count acts)

    at : (b : Bool) → (n == c) ≡ b → cond (same_name spawn.child (n ∷ p)) (Some (Spawn spawn)) (nth_spawn n acts) ≡ cond (n == c) (Some (Spawn spawn)) (nth_spawn n acts)
    at true q =
        let same : same_name spawn.child (n ∷ p) ≡ true = subst (λ w. same_name w (n ∷ p) ≡ true) (sym (h.1 ∙ ap (λ m. m ∷ p) (sym (eqb-true n c q)))) (same_refl (n ∷ p)) in
        ap (λ b. cond b (Some (Spawn spawn)) (nth_spawn n acts)) (same ∙ sym q)
    at false q =
        let other : same_name spawn.child (n ∷ p) ≡ false = false_from_ne_true (same_name spawn.child (n ∷ p)) (λ s. both_ways (n == c) q (eq-eqb n c (cons_head (sym (same_true spawn.child (n ∷ p) s) ∙ h.1)))) in
        ap (λ b. cond b (Some (Spawn spawn)) (nth_spawn n acts)) (other ∙ sym q)
own_spawn cells n p _ acts h = refl

spawn_at : (cells : Cells) (H : History) (n : ℕ) (p : Name) → Legal cells H → spawn_of (n ∷ p) H ≡ nth_spawn n (own p H)
unfolding nth_spawn
spawn_at cells [] n p l = refl
spawn_at cells (v ∷ H) n p l = at (is_of p v) refl (spawn_at cells H n p l.0)
  where
    at : (b : Bool) → is_of p v ≡ b → spawn_of (n ∷ p) H ≡ nth_spawn n (own p H) → spawn_or (n ∷ p) v.action (spawn_of (n ∷ p) H) ≡ nth_spawn n (prepend_if b v.action (own p H))
    at true o e =
        ap (spawn_or (n ∷ p) v.action) e ∙ own_spawn cells n p v.action (own p H) (subst (λ t. Continues cells t (own t H) v.action) (same_true v.task p o) l.1.own)
    at false o e =
        ap (λ b. cond b (Some v.action) (spawn_of (n ∷ p) H)) (false_from_ne_true (is_spawn_of (n ∷ p) v.action) (λ s.
        both_ways (is_of p v) o (subst (λ t. same_name t p ≡ true) (cons_tail (spawn_names cells v.task (n ∷ p) (own v.task H) v.action l.1.own s)) (same_refl p))))
        ∙ e

one_spawn : (n : ℕ) (a : Action) (acts : List Action) → n ≤ spawn_count acts → nth_spawn n (a ∷ acts) ≡ nth_spawn n acts
unfolding nth_spawn
one_spawn n (Spawn s) acts h =
    ap (λ b. cond b (Some (Spawn s)) (nth_spawn n acts)) (ne_eqb n (suc (spawn_count acts)) (λ e. omega (arith, e, h)))
one_spawn n _ acts h = refl

spawn_older : (n : ℕ) (later acts : List Action) → n ≤ spawn_count acts → nth_spawn n (later ++ acts) ≡ nth_spawn n acts
spawn_older n [] acts h = refl
spawn_older n (a ∷ later) acts h =
    one_spawn n a (later ++ acts) (omega (arith, h, count_older later acts)) ∙ spawn_older n later acts h

-- no event generates the root
root_not : (cells : Cells) (H : History) (v : Event) → MayFollow cells H v → spawns [] v ≡ false
root_not cells H v m = false_from_ne_true (spawns [] v) (λ h. cc (spawn_names cells v.task [] (own v.task H) v.action m.own h))

-- nobody generates the root
pub root_unspawned : (cells : Cells) (H : History) → Legal cells H → spawn_of [] H ≡ None
root_unspawned cells [] l = refl
root_unspawned cells (v ∷ H) l =
    ap (λ b. cond b (Some v.action) (spawn_of [] H)) (root_not cells H v l.1)
    ∙ root_unspawned cells H l.0

-- ---- what agrees

module _ (cells : Cells) (A B : History) (la : Legal cells A) (lb : Legal cells B) (r : Reaches A B) where
  count_up : (p : Name) → spawn_count (own p A) ≤ spawn_count (own p B)
  count_up p = omega (arith, count_older (r p).0 (own p A), ap spawn_count (r p).1)

  -- who was generated in the first was in the second
  pub spawned_too : (u : Name) → IsSpawned A u → IsSpawned B u
  spawned_too [] s = refl
  spawned_too (n ∷ p) s =
      let a = (children_numbered cells A p n la).0 s in
      (children_numbered cells B p n lb).1 (a.0, omega (arith, a.1, count_up p))

  -- and in the first, where the parent had generated as many
  pub spawned_back : (n : ℕ) (p : Name) → IsSpawned B (n ∷ p) → n ≤ spawn_count (own p A) → IsSpawned A (n ∷ p)
  spawned_back n p s h = (children_numbered cells A p n la).1 (((children_numbered cells B p n lb).0 s).0, h)

  -- an elder sibling, or a child of a task with the same actions, was too
  pub elder_back : (u t : Name) → is_elder u t ≡ true → IsSpawned A t → IsSpawned B u → IsSpawned A u
  elder_back [] t e s b = refl
  elder_back (m ∷ u) [] e s b = absurd (false≢true e)
  elder_back (m ∷ u) (n ∷ t) e s b =
      let o = and_parts (nat_lt m n) (same_name u t) e in
      let q = same_true u t o.1 in
      let a = ((children_numbered cells A t n la).0 s).1 in
      spawned_back m u b (omega (arith, ltb-true m n o.0, a, ap (λ x. spawn_count (own x A)) q))

  -- or a child of a task with the same actions
  pub child_back : (t u : Name) → own t A ≡ own t B → is_child t u ≡ true → IsSpawned B u → IsSpawned A u
  child_back t [] e c b = refl
  child_back t (n ∷ p) e c b =
      let q = same_true p t c in
      let a = ((children_numbered cells B p n lb).0 b).1 in
      spawned_back n p b (omega (arith, a, ap spawn_count (subst (λ x. own x A ≡ own x B) (sym q) e)))

  -- with the same items
  pub items_too : (n : ℕ) (p : Name) → IsSpawned A (n ∷ p) → items_of (n ∷ p) B ≡ items_of (n ∷ p) A
  items_too n p s =
      items_at cells B n p lb ∙ ap (nth_items n) (r p).1
      ∙ nth_older n (r p).0 (own p A) ((children_numbered cells A p n la).0 s).1 ∙ sym (items_at cells A n p la)

  -- so the same are before it
  pub before_too : (u t : Name) → IsSpawned A u → IsSpawned A t → before B u t ≡ before A u t
  before_too [] t su st = refl
  before_too (m ∷ u) [] su st = refl
  before_too (m ∷ u) (n ∷ t) su st =
      ap₂ (λ i j. is_elder (m ∷ u) (n ∷ t) && some_meet is_before i j) (items_too n t st) (items_too m u su)

  -- and the same exclude it
  pub apart_too : (u t : Name) → IsSpawned A u → IsSpawned A t → apart B u t ≡ apart A u t
  apart_too [] [] su st = refl
  apart_too [] (n ∷ t) su st = refl
  apart_too (m ∷ u) [] su st = refl
  apart_too (m ∷ u) (n ∷ t) su st =
      ap₂ (λ i j. (is_elder (m ∷ u) (n ∷ t) && some_meet is_apart i j) || (is_elder (n ∷ t) (m ∷ u) && some_meet is_apart j i)) (items_too n t st) (items_too m u su)

  -- and a `taskwait` covers the same
  pub covers_too : (t : Name) (items : List Item) (u : Name) → IsSpawned A u → covers B t items u ≡ covers A t items u
  covers_too t items [] s = refl
  covers_too t items (n ∷ p) s =
      ap (λ i. is_child t (n ∷ p) && (has_no_items items || some_meet is_before items i)) (items_too n p s)

  -- and the spawn is the same
  pub spawn_too : (n : ℕ) (p : Name) → IsSpawned A (n ∷ p) → spawn_of (n ∷ p) B ≡ spawn_of (n ∷ p) A
  spawn_too n p s =
      spawn_at cells B n p lb ∙ ap (nth_spawn n) (r p).1
      ∙ spawn_older n (r p).0 (own p A) ((children_numbered cells A p n la).0 s).1 ∙ sym (spawn_at cells A n p la)
