-- The immediate needs that are listed are those by the words.
use Rattle.std.proofs.Common.{◌≡◌, ◌++◌, ◌∷◌, [], Bool, true, false, cond, ◌&&◌, ◌||◌, not, ◌⊎◌, ◌↔◌, inl, inr, ⊎_elim, refl, sym, ap, ◌∙◌, subst, append_assoc, Option, Some, None, is_some, arith}
use Rattle.std.specs.List.{list_any}
use Rattle.std.specs.Option.{option_map}
use Rattle.std.proofs.lemmas.Bool.{or_cases, or_left, or_right, and_parts, false≢true, false_from_ne_true}
use Rattle.tb_model.specs.declared.event.Event.{Event}
use Rattle.tb_model.specs.declared.step_id.StepId.{StepId}
use Rattle.tb_model.specs.Facts.{History, prepend_if}
use Rattle.tb_model.specs.Closure.{Needs, directly, by_way}
use Rattle.tb_model.specs.Needers.{is_needer}
use Rattle.tb_model.specs.Needs.{needs, is_step, step_of, removed}
use Rattle.tb_model.proofs.LeastLemmas.{complete, Takes, later_not_step, removed_needs}
use Rattle.tb_model.proofs.RemovalLemmas.{removed_none, its_step}
use Rattle.tb_races.specs.Immediate.{IsImmediate, needing, needs_by_way, as_cause, cause}
use Rattle.tb_races.specs.Kinds.{need_kind}
use Rattle.tb_races.proofs.KindLemmas.{kind_some}

-- ---- the first link of a chain of needs

-- v, after H, directly needs an event, which needs the newest one of G
record First (v : Event) (H G : History) : Type 0 where
  event : Event
  between : History
  front : History
  split : H ≡ between ++ event ∷ front
  direct : needs H v event ≡ true
  rest : Needs (event ∷ front) G

-- the first event needs the second directly, or by way of what it directly needs
abbrev Start : History → History → Type 0
Start [] G = ⊥
Start (v ∷ H) [] = ⊥
Start (v ∷ H) (u ∷ K) = (needs H v u ≡ true) ⊎ First v H (u ∷ K)

first_by : (v : Event) (H : History) (x : Event) (X : History) (G : History) → Start (v ∷ H) (x ∷ X) → Takes (v ∷ H) (x ∷ X) → Needs (x ∷ X) G → First v H G
first_by v H x X G h t m =
    ⊎_elim
    (λ d. record { event = x; between = t.0; front = X; split = sym t.1; direct = d; rest = m })
    (λ r. record { event = r.event; between = r.between; front = r.front; split = r.split; direct = r.direct; rest = by_way r.rest m })
    h

start_on : (F G H : History) → Needs G H → Takes F G → Takes G H → Start F G → Start F H
start_on [] G H m s t h = s
start_on (v ∷ F) [] H m s t h = absurd s
start_on (v ∷ F) (x ∷ X) [] m s t h = absurd t
start_on (v ∷ F) (x ∷ X) (u ∷ K) m s t h = inr (first_by v F x X (u ∷ K) h s m)

start : {F G : History} → Needs F G → Start F G
start (directly v u between front h) = inl h
start (by_way {F = F} {G = G} {H = H} n m) = start_on F G H m (complete n) (complete m) (start n)

-- ---- what needs a step

put_on : (p : Event → Bool) (b : Bool) (w : Event) (R : History) → list_any p R ≡ true → list_any p (prepend_if b w R) ≡ true
put_on p true w R h = or_right (p w) (list_any p R) h
put_on p false w R h = h

put_first : (p : Event → Bool) (b : Bool) (w : Event) (R : History) → b ≡ true → p w ≡ true → list_any p (prepend_if b w R) ≡ true
put_first p b w R e h = subst (λ c. list_any p (prepend_if c w R) ≡ true) (sym e) (or_left (p w) (list_any p R) h)

put_either : (p : Event → Bool) (b : Bool) (w : Event) (R : History) → list_any p (prepend_if b w R) ≡ true → ((b ≡ true) × (p w ≡ true)) ⊎ (list_any p R ≡ true)
put_either p true w R h = ⊎_elim (λ a. inl (refl, a)) (λ a. inr a) (or_cases (p w) (list_any p R) h)
put_either p false w R h = inr h

passing : (p : Event → Bool) (e : StepId) (b : History) (x : Event) (X : History) → is_needer e X x ≡ true → p x ≡ true → list_any p (needing e (b ++ x ∷ X)) ≡ true
passing p e [] x X g h = put_first p (is_needer e X x) x (needing e X) g h
passing p e (w ∷ b) x X g h = put_on p (is_needer e (b ++ x ∷ X) w) w (needing e (b ++ x ∷ X)) (passing p e b x X g h)

module _ (u : Event) (front : History) where
  abbrev itself : StepId
  itself = step_of front u

  -- an event that needs it is one of those
  needer : (x : Event) (X : History) → Needs (x ∷ X) (u ∷ front) → is_needer itself X x ≡ true
  needer x X n =
      let t = complete n in
      subst (λ Y. is_needer itself Y x ≡ true) t.1
      (at (is_step itself (t.0 ++ u ∷ front) x) (list_any (needs (t.0 ++ u ∷ front) x) (removed itself (t.0 ++ u ∷ front))) (later_not_step u front t.0 x)
      (subst (λ Y. (is_step itself Y x || list_any (needs Y x) (removed itself Y)) ≡ true) (sym t.1) t.2))
    where
      at : (s a : Bool) → s ≡ false → (s || a) ≡ true → (not s && a) ≡ true
      at true a q h = absurd (false≢true (sym q))
      at false a q h = h

  -- one of those that passes is some event after it that needs it
  record Among (p : Event → Bool) (b : History) : Type 0 where
    who : Event
    after : History
    before : History
    split : b ≡ after ++ who ∷ before
    needed : Needs (who ∷ (before ++ u ∷ front)) (u ∷ front)
    passes : p who ≡ true

  none_below : (p : Event → Bool) (H : History) → removed itself H ≡ [] → list_any p (needing itself H) ≡ true → ⊥
  none_below p [] r h = false≢true h
  none_below p (w ∷ H) r h =
      at (is_step itself H w) (list_any (needs H w) (removed itself H)) r h (none_below p H)
    where
      no_cons : (R : History) → w ∷ R ≡ [] → ⊥
      no_cons R z = cc

      at : (s a : Bool) → prepend_if (s || a) w (removed itself H) ≡ [] → list_any p (prepend_if (not s && a) w (needing itself H)) ≡ true → (removed itself H ≡ [] → list_any p (needing itself H) ≡ true → ⊥) → ⊥
      at true a z g more = no_cons (removed itself H) z
      at false true z g more = no_cons (removed itself H) z
      at false false z g more = more z g

  among : (p : Event → Bool) (b : History) → list_any p (needing itself (b ++ u ∷ front)) ≡ true → Among p b
  among p [] h =
      absurd
      (⊎_elim
      (λ a. false≢true (sym (ap (λ s. not s && list_any (needs front u) (removed itself front)) (its_step front u)) ∙ a.0))
      (λ a. none_below p front (removed_none itself front (omega arith)) a)
      (put_either p (is_needer itself front u) u (needing itself front) h))
  among p (w ∷ b) h =
      ⊎_elim
      (λ a. record {
        who = w;
        after = [];
        before = b;
        split = refl;
        needed = (removed_needs b w u front).0 (or_right (is_step itself (b ++ u ∷ front) w) _ (and_parts (not (is_step itself (b ++ u ∷ front) w)) _ a.0).1);
        passes = a.1;
      })
      (λ a. let f = among p b a in record { who = f.who; after = w ∷ f.after; before = f.before; split = ap (λ X. w ∷ X) f.split; needed = f.needed; passes = f.passes })
      (put_either p (is_needer itself (b ++ u ∷ front) w) w (needing itself (b ++ u ∷ front)) h)

  -- ---- both ways

  module _ (v : Event) (later : History) where
    abbrev H : History
    H = later ++ u ∷ front

    abbrev way : Bool
    way = needs_by_way itself H v

    by_way_of : First v H (u ∷ front) → way ≡ true
    by_way_of r =
        subst (λ Y. list_any (needs H v) (needing itself Y) ≡ true) (sym r.split)
        (passing (needs H v) itself r.between r.event r.front (needer r.event r.front r.rest) r.direct)

    between_two : (G : History) → Needs (v ∷ H) G → Needs G (u ∷ front) → way ≡ true
    between_two [] n m = absurd (complete n)
    between_two (x ∷ X) n m = by_way_of (first_by v H x X (u ∷ front) (start n) (complete n) m)

    some_unless : {A B : Type 0} (f : A → B) (b : Bool) (o : Option A) → is_some (cond b None (option_map f o)) ≡ (not b && is_some o)
    some_unless f true o = refl
    some_unless f false (Some x) = refl
    some_unless f false None = refl

    test : is_some (cause H v front u) ≡ (not way && needs H v u)
    test = some_unless (as_cause itself) way (need_kind H v u) ∙ ap (λ b. not way && b) (kind_some H v u)

    not_true : (b : Bool) → not b ≡ true → b ≡ true → ⊥
    not_true true h q = false≢true h
    not_true false h q = false≢true q

    by_words : (not way && needs H v u) ≡ true → IsImmediate (v ∷ H) (u ∷ front)
    by_words h =
        let o = and_parts (not way) (needs H v u) h in record {
          needs = directly v u later front o.1;
          nothing_between = λ G n m. not_true way o.0 (between_two G n m);
        }

    -- an event that needs it and is directly needed lies between
    lies_between : IsImmediate (v ∷ H) (u ∷ front) → way ≡ true → ⊥
    lies_between i h =
        let f = among (needs H v) later h in
        let whole : H ≡ f.after ++ f.who ∷ (f.before ++ u ∷ front) = ap (λ X. X ++ u ∷ front) f.split ∙ append_assoc f.after (f.who ∷ f.before) (u ∷ front) in
        i.nothing_between (f.who ∷ (f.before ++ u ∷ front))
        (subst (λ X. Needs (v ∷ X) (f.who ∷ (f.before ++ u ∷ front))) (sym whole)
        (directly v f.who f.after (f.before ++ u ∷ front) (subst (λ X. needs X v f.who ≡ true) whole f.passes)))
        f.needed

    directly_so : IsImmediate (v ∷ H) (u ∷ front) → needs H v u ≡ true
    directly_so i =
        ⊎_elim (λ d. d)
        (λ r.
        absurd
        (i.nothing_between (r.event ∷ r.front)
        (subst (λ X. Needs (v ∷ X) (r.event ∷ r.front)) (sym r.split) (directly v r.event r.between r.front (subst (λ X. needs X v r.event ≡ true) r.split r.direct)))
        r.rest))
        (start i.needs)

    unless_way : (b c : Bool) → b ≡ false → c ≡ true → (not b && c) ≡ true
    unless_way true c p q = absurd (false≢true (sym p))
    unless_way false c p q = q

    pub by_test : (is_some (cause H v front u) ≡ true) ↔ IsImmediate (v ∷ H) (u ∷ front)
    by_test = (
      λ h. by_words (sym test ∙ h),
      λ i. test ∙ unless_way way (needs H v u) (false_from_ne_true way (lies_between i)) (directly_so i),
    )
