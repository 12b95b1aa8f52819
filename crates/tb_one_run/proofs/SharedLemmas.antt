-- The part of one history whose steps are in another.
use Rattle.std.proofs.Common.{◌≡◌, ◌≤◌, ◌<◌, ℕ, suc, List, [], ◌∷◌, ◌++◌, length, Bool, true, false, ◌&&◌, not, ◌⊎◌, inl, inr, refl, sym, ap, ap₂, ◌∙◌, subst, arith, nat_lt, eqb-true, eq-eqb, append_assoc, length-append, ◌==◌}
use Rattle.std.specs.List.{AllByRecursion}
use Rattle.std.proofs.lemmas.Bool.{both_ways, ltb-true, lt-ltb, le-ltb, ltb-false}
use Rattle.tb_model.specs.declared.action.Action.{Action}
use Rattle.tb_model.specs.declared.event.Event.{Event}
use Rattle.tb_model.specs.Names.{Name}
use Rattle.tb_model.specs.Facts.{History, is_of, own, prepend_if, is_print, spawns}
use Rattle.tb_model.specs.Needs.{conflicts}
use Rattle.tb_model.specs.Alike.{Alike}
use Rattle.tb_model.proofs.TestLemmas.{same_true, same_refl}
use Rattle.tb_model.proofs.PartsLemmas as parts
use Rattle.tb_model.proofs.PartsLemmas.{Parts}
use Rattle.tb_model.proofs.FactsLemmas.{own_mine, own_other}
use Rattle.tb_model.proofs.RemovalLemmas.{own_grows}
use Rattle.tb_model.proofs.AlikeLemmas.{alike_refl, alike_trans, alike_cons}
use Rattle.tb_model.proofs.NeighboursLemmas.{swap_alike, same_sym}

-- the newest event of F is a step of K, by its ordinal
abbrev pub has : History → History → Bool
has K [] = false
has K (v ∷ F) = nat_lt (length (own v.task F)) (length (own v.task K))

-- the events of F that are steps of K, and the others
abbrev pub part : History → History → History
part K [] = []
part K (v ∷ F) = prepend_if (has K (v ∷ F)) v (part K F)

-- the events that the other history hasn't
abbrev pub gone : History → History → History
gone K [] = []
gone K (v ∷ F) = prepend_if (not (has K (v ∷ F))) v (gone K F)

-- the events of the later part of a history that the other history has
abbrev pub late : History → History → History → History
late K [] front = []
late K (v ∷ b) front = prepend_if (has K (v ∷ (b ++ front))) v (late K b front)

put_append : (c : Bool) (v : Event) (G F : History) → prepend_if c v G ++ F ≡ prepend_if c v (G ++ F)
put_append true v G F = refl
put_append false v G F = refl

-- the later part and the front have each their own
pub part_split : (K b F : History) → part K (b ++ F) ≡ late K b F ++ part K F
part_split K [] F = refl
part_split K (v ∷ b) F =
    ap (prepend_if (has K (v ∷ (b ++ F))) v) (part_split K b F) ∙ sym (put_append (has K (v ∷ (b ++ F))) v (late K b F) (part K F))

-- one event more stays or goes
pub one_more : (c : Bool) (v : Event) {H G R : History} → Parts H G R → Parts (v ∷ H) (prepend_if c v G) (prepend_if (not c) v R)
one_more true v s = parts.stays s
one_more false v s = parts.goes s

-- a history is those that are steps of K and the others
pub part_gone : (K F : History) → Parts F (part K F) (gone K F)
part_gone K [] = parts.none
part_gone K (v ∷ F) = one_more (has K (v ∷ F)) v (part_gone K F)

-- ---- one task's actions

-- of a task, by its own actions
pub has_mine : (K : History) (t : Name) (v : Event) (F : History) → is_of t v ≡ true → has K (v ∷ F) ≡ nat_lt (length (own t F)) (length (own t K))
has_mine K t v F o = ap (λ u. nat_lt (length (own u F)) (length (own u K))) (same_true v.task t o)

own_put : (t : Name) (c : Bool) (v : Event) (G : History) → is_of t v ≡ false → own t (prepend_if c v G) ≡ own t G
own_put t true v G o = own_other t v G o
own_put t false v G o = refl

own_put_mine : (t : Name) (c : Bool) (v : Event) (G : History) → c ≡ true → is_of t v ≡ true → own t (prepend_if c v G) ≡ v.action ∷ own t G
own_put_mine t c v G e o = ap (λ d. own t (prepend_if d v G)) e ∙ own_mine t v G o

-- what is before the reach of K stays
pub own_front : (K : History) (t : Name) (F : History) → length (own t F) ≤ length (own t K) → own t (part K F) ≡ own t F
own_front K t [] h = refl
own_front K t (v ∷ F) h = at (is_of t v) refl (own_front K t F)
  where
    at : (c : Bool) → is_of t v ≡ c → (length (own t F) ≤ length (own t K) → own t (part K F) ≡ own t F) → own t (part K (v ∷ F)) ≡ own t (v ∷ F)
    at true o rest =
        let m = ap length (own_mine t v F o) in
        own_put_mine t (has K (v ∷ F)) v (part K F) (has_mine K t v F o ∙ lt-ltb (length (own t F)) (length (own t K)) (omega (arith, m, h))) o
        ∙ ap (λ acts. v.action ∷ acts) (rest (omega (arith, m, h))) ∙ sym (own_mine t v F o)
    at false o rest =
        own_put t (has K (v ∷ F)) v (part K F) o ∙ rest (omega (arith, h, ap length (own_other t v F o))) ∙ sym (own_other t v F o)

-- a front has no more of a task than the whole
pub own_longer : (t : Name) (b F : History) → length (own t F) ≤ length (own t (b ++ F))
own_longer t [] F = omega arith
own_longer t (v ∷ b) F = omega (arith, own_longer t b F, own_grows t v (b ++ F))

-- where the other history has no more of a task than a front has, none of the later part's events
-- of the task is shared
pub own_back : (K : History) (t : Name) (b F : History) → length (own t K) ≤ length (own t F) → own t (part K (b ++ F)) ≡ own t (part K F)
own_back K t [] F h = refl
own_back K t (v ∷ b) F h = at (is_of t v) refl (own_back K t b F h)
  where
    at : (c : Bool) → is_of t v ≡ c → own t (part K (b ++ F)) ≡ own t (part K F) → own t (part K (v ∷ (b ++ F))) ≡ own t (part K F)
    at true o rest =
        let n : has K (v ∷ (b ++ F)) ≡ false = has_mine K t v (b ++ F) o ∙ le-ltb (length (own t (b ++ F))) (length (own t K)) (omega (arith, h, own_longer t b F)) in
        ap (λ d. own t (prepend_if d v (part K (b ++ F)))) n ∙ rest
    at false o rest = own_put t (has K (v ∷ (b ++ F))) v (part K (b ++ F)) o ∙ rest

-- all has these acts at its older end
abbrev pub Older : List Action → List Action → Type 0
Older acts all = (later : List Action) × (all ≡ later ++ acts)

older_mine : (a : Action) {acts all : List Action} → Older acts all → Older acts (a ∷ all)
older_mine a o = (a ∷ o.0, ap (λ xs. a ∷ xs) o.1)

-- of each task, what is in K is the older part
pub own_older : (K : History) (t : Name) (F : History) → Older (own t (part K F)) (own t F)
own_older K t [] = ([], refl)
own_older K t (v ∷ F) = at (is_of t v) (has K (v ∷ F)) refl refl (own_older K t F)
  where
    at : (c d : Bool) → is_of t v ≡ c → has K (v ∷ F) ≡ d → Older (own t (part K F)) (own t F) → Older (own t (prepend_if d v (part K F))) (prepend_if c v.action (own t F))
    at true true o h rest =
        let l = ltb-true (length (own t F)) (length (own t K)) (sym (has_mine K t v F o) ∙ h) in
        ([], ap (λ acts. v.action ∷ acts) (sym (own_front K t F (omega (arith, l)))) ∙ sym (own_mine t v (part K F) o))
    at true false o h rest = older_mine v.action rest
    at false d o h rest = subst (λ acts. Older acts (own t F)) (sym (own_put t d v (part K F) o)) rest

-- of each task, what is in front is the older part
pub older_front : (t : Name) (b F : History) → Older (own t F) (own t (b ++ F))
older_front t [] F = ([], refl)
older_front t (v ∷ b) F = at (is_of t v) (older_front t b F)
  where
    at : (c : Bool) → Older (own t F) (own t (b ++ F)) → Older (own t F) (prepend_if c v.action (own t (b ++ F)))
    at true o = older_mine v.action o
    at false o = o

-- which is all where all is no longer
pub older_all : {acts all : List Action} → Older acts all → length all ≤ length acts → acts ≡ all
older_all {acts} {all} o h = none o.0 o.1
  where
    none : (later : List Action) → all ≡ later ++ acts → acts ≡ all
    none [] e = sym e
    none (a ∷ later) e = absurd (omega (arith, h, ap length e ∙ length-append (a ∷ later) acts))

-- of an older part, the older part
pub older_trans : {a b c : List Action} → Older a b → Older b c → Older a c
older_trans {a} o p = (p.0 ++ o.0, p.1 ∙ ap (λ xs. p.0 ++ xs) o.1 ∙ sym (append_assoc p.0 o.0 a))

-- older parts of one length are one
pub older_same : {a b : List Action} (all : List Action) → Older a all → Older b all → length a ≡ length b → a ≡ b
older_same {a} {b} all o p n = at o.0 p.0 (sym o.1 ∙ p.1)
  where
    at : (x y : List Action) → x ++ a ≡ y ++ b → a ≡ b
    at [] [] e = e
    at [] (z ∷ y) e = absurd (omega (arith, n, ap length e ∙ length-append (z ∷ y) b))
    at (z ∷ x) [] e = absurd (omega (arith, n, sym (ap length e) ∙ length-append (z ∷ x) a))
    at (z ∷ x) (k ∷ y) e = at x y (cc)

-- ---- the index of a step

-- the event of t in front of which t has n
pub record Place (H : History) (t : Name) (n : ℕ) : Type 0 where
  pub later : History
  pub event : Event
  pub front : History
  pub split : H ≡ later ++ event ∷ front
  pub mine : is_of t event ≡ true
  pub number : length (own t front) ≡ n

-- each ordinal that was reached has its index
pub place : (t : Name) (n : ℕ) (H : History) → n < length (own t H) → Place H t n
place t n [] h = absurd (omega (arith, h))
place t n (v ∷ H) h = at (is_of t v) (nat_lt n (length (own t H))) refl refl (place t n H)
  where
    further : Place H t n → Place (v ∷ H) t n
    further p = record { later = v ∷ p.later; event = p.event; front = p.front; split = ap (λ K. v ∷ K) p.split; mine = p.mine; number = p.number }

    at : (c d : Bool) → is_of t v ≡ c → nat_lt n (length (own t H)) ≡ d → (n < length (own t H) → Place H t n) → Place (v ∷ H) t n
    at c true o l rest = further (rest (ltb-true n (length (own t H)) l))
    at true false o l rest = record {
      later = [];
      event = v;
      front = H;
      split = refl;
      mine = o;
      number = omega (arith, h, ap length (own_mine t v H o), ltb-false n (length (own t H)) l);
    }
    at false false o l rest = further (rest (omega (arith, h, ap length (own_other t v H o))))

-- ---- an event moves to the end

-- w may change places with x, which is after it
pub record Changes (w x : Event) : Type 0 where
  pub other : is_of w.task x ≡ false
  pub cell : conflicts x.action w.action ≡ false
  pub print : (is_print x.action && is_print w.action) ≡ false
  pub spawn : (t : Name) → spawns t w ≡ true → spawns t x ≡ true → ⊥

-- an event moves to the end past those with which it may change places
pub to_end : (w : Event) (L F : History) → AllByRecursion (Changes w) L → Alike (L ++ w ∷ F) (w ∷ (L ++ F))
to_end w [] F h = alike_refl (w ∷ F)
to_end w (x ∷ L) F h =
    alike_trans (alike_cons x (to_end w L F h.1)) (swap_alike w x (L ++ F) h.0.other h.0.cell h.0.print h.0.spawn)

-- ---- one step more in K

reach_same : (m n : ℕ) → (m ≡ n → ⊥) → nat_lt m (suc n) ≡ nat_lt m n
reach_same m n d = at (nat_lt m n) refl
  where
    at : (c : Bool) → nat_lt m n ≡ c → nat_lt m (suc n) ≡ nat_lt m n
    at true l = lt-ltb m (suc n) (omega (arith, ltb-true m n l)) ∙ sym l
    at false l = le-ltb m (suc n) (omega (arith, d, ltb-false m n l)) ∙ sym l

module _ (K : History) (v : Event) where
  abbrev reach : ℕ
  reach = length (own v.task K)

  longer : length (own v.task (v ∷ K)) ≡ suc reach
  longer = ap length (own_mine v.task v K (same_refl v.task))

  -- only the index of the new step changes
  pub has_same : (x : Event) (X : History) → (is_of v.task x ≡ true → length (own v.task X) ≡ reach → ⊥) → has (v ∷ K) (x ∷ X) ≡ has K (x ∷ X)
  has_same x X d = at (is_of v.task x) refl
    where
      at : (c : Bool) → is_of v.task x ≡ c → has (v ∷ K) (x ∷ X) ≡ has K (x ∷ X)
      at true o =
          has_mine (v ∷ K) v.task x X o ∙ ap (nat_lt (length (own v.task X))) longer
          ∙ reach_same (length (own v.task X)) reach (d o) ∙ sym (has_mine K v.task x X o)
      at false o = ap (λ acts. nat_lt (length (own x.task X)) (length acts)) (own_other x.task v K (same_sym x.task v.task o))

  -- the index itself
  pub has_now : (x : Event) (X : History) → is_of v.task x ≡ true → length (own v.task X) ≤ reach → has (v ∷ K) (x ∷ X) ≡ true
  has_now x X o n = has_mine (v ∷ K) v.task x X o ∙ lt-ltb (length (own v.task X)) (length (own v.task (v ∷ K))) (omega (arith, longer, n))

  -- what is a step of the longer one is the new step or one of the shorter
  pub has_back : (x : Event) (X : History) → has (v ∷ K) (x ∷ X) ≡ true → ((is_of v.task x ≡ true) × (length (own v.task X) ≡ reach)) ⊎ (has K (x ∷ X) ≡ true)
  has_back x X h = at (is_of v.task x) (length (own v.task X) == reach) refl refl
    where
      at : (c d : Bool) → is_of v.task x ≡ c → (length (own v.task X) == reach) ≡ d → ((is_of v.task x ≡ true) × (length (own v.task X) ≡ reach)) ⊎ (has K (x ∷ X) ≡ true)
      at true true o e = inl (o, eqb-true (length (own v.task X)) reach e)
      at true false o e = inr (sym (has_same x X (λ p q. both_ways (length (own v.task X) == reach) e (eq-eqb (length (own v.task X)) reach q))) ∙ h)
      at false d o e = inr (sym (has_same x X (λ p q. both_ways (is_of v.task x) o p)) ∙ h)

  -- what was a step stays one
  pub has_still : (x : Event) (X : History) → has K (x ∷ X) ≡ true → has (v ∷ K) (x ∷ X) ≡ true
  has_still x X h = at (is_of v.task x) refl
    where
      at : (c : Bool) → is_of v.task x ≡ c → has (v ∷ K) (x ∷ X) ≡ true
      at true o = has_now x X o (omega (arith, ltb-true (length (own v.task X)) reach (sym (has_mine K v.task x X o) ∙ h)))
      at false o = has_same x X (λ p q. both_ways (is_of v.task x) o p) ∙ h

  -- in front of the index the part is the same
  pub part_same : (F : History) → length (own v.task F) ≤ reach → part (v ∷ K) F ≡ part K F
  part_same [] h = refl
  part_same (x ∷ F) h =
      let s : has (v ∷ K) (x ∷ F) ≡ has K (x ∷ F) = has_same x F (λ o e. omega (arith, h, e, ap length (own_mine v.task x F o))) in
      ap₂ (λ c G. prepend_if c x G) s (part_same F (omega (arith, h, own_grows v.task x F)))

  -- and so it is after it
  pub late_same : (b F : History) → suc reach ≤ length (own v.task F) → late (v ∷ K) b F ≡ late K b F
  late_same [] F h = refl
  late_same (x ∷ b) F h =
      let s : has (v ∷ K) (x ∷ (b ++ F)) ≡ has K (x ∷ (b ++ F)) = has_same x (b ++ F) (λ o e. omega (arith, h, e, own_longer v.task b F)) in
      ap₂ (λ c G. prepend_if c x G) s (late_same b F h)
