-- A need that goes by way of an event in between.
use Rattle.std.proofs.Common.{◌≡◌, ◌⊎◌, inl, inr, ⊎_elim, List, [], ◌∷◌, ◌++◌, Bool, true, false, ◌&&◌, refl, sym, ap, ◌∙◌, subst, append_assoc, append-nil}
use Rattle.std.specs.List.{list_any}
use Rattle.std.proofs.lemmas.Bool.{or_cases, or_parts, or_left, or_right, and_parts, and_from, cases_Bool, false≢true}
use Rattle.std.proofs.lemmas.List.Folds.{list_any-append}
use Rattle.tb_model.specs.declared.event.Event.{Event}
use Rattle.tb_model.specs.Names.{Name, same_name}
use Rattle.tb_model.specs.Facts.{History, HasEnded, is_of, own, spawns, ends, is_end, is_print}
use Rattle.tb_model.specs.Needs.{needs, needs_end_of, conflicts}
use Rattle.tb_model.specs.Closure.{Needs, directly, by_way}
use Rattle.tb_model.proofs.TestLemmas.{same_true, same_refl}
use Rattle.tb_model.proofs.FactsLemmas.{own_other}

-- ---- an element that passes a test

pub record Found {A : Type 0} (test : A → Bool) (xs : List A) : Type 0 where
  pub who : A
  pub later : List A
  pub earlier : List A
  pub split : xs ≡ later ++ who ∷ earlier
  pub passes : test who ≡ true

pub found : {A : Type 0} (test : A → Bool) (xs : List A) → list_any test xs ≡ true → Found test xs
found test [] h = absurd (false≢true h)
found test (x ∷ xs) h =
    ⊎_elim (λ p. record { who = x; later = []; earlier = xs; split = refl; passes = p })
    (λ r. let f = found test xs r in record { who = f.who; later = x ∷ f.later; earlier = f.earlier; split = ap (λ l. x ∷ l) f.split; passes = f.passes })
    (or_cases (test x) (list_any test xs) h)

pub any_there : {A : Type 0} (test : A → Bool) (later : List A) (x : A) (earlier : List A) → test x ≡ true → list_any test (later ++ x ∷ earlier) ≡ true
any_there test [] x earlier h = or_left (test x) _ h
any_there test (y ∷ later) x earlier h = or_right (test y) _ (any_there test later x earlier h)

-- ---- direct needs, kind by kind

module _ (H : History) (v u : Event) where
  pub needs_own : is_of v.task u ≡ true → needs H v u ≡ true
  needs_own h = or_left (is_of v.task u) _ h

  pub needs_spawn : spawns v.task u ≡ true → needs H v u ≡ true
  needs_spawn h = or_right (is_of v.task u) _ (or_left (spawns v.task u) _ h)

  pub needs_conflict : conflicts v.action u.action ≡ true → needs H v u ≡ true
  needs_conflict h = or_right (is_of v.task u) _ (or_right (spawns v.task u) _ (or_left (conflicts v.action u.action) _ h))

  pub needs_end : is_end u.action ≡ true → needs_end_of H v.task v.action u.task ≡ true → needs H v u ≡ true
  needs_end e h =
      or_right (is_of v.task u) _ (or_right (spawns v.task u) _ (or_right (conflicts v.action u.action) _
      (or_left (is_end u.action && needs_end_of H v.task v.action u.task) _ (and_from (is_end u.action) _ e h))))

  pub needs_print : is_print v.action ≡ true → is_print u.action ≡ true → needs H v u ≡ true
  needs_print p q =
      or_right (is_of v.task u) _ (or_right (spawns v.task u) _ (or_right (conflicts v.action u.action) _
      (or_right (is_end u.action && needs_end_of H v.task v.action u.task) _ (and_from (is_print v.action) _ p q))))

-- a direct need of an event that is in H
pub direct : (v y : Event) (H later front : History) → H ≡ later ++ y ∷ front → needs H v y ≡ true → Needs (v ∷ H) (y ∷ front)
direct v y H later front e h =
    subst (λ K. Needs (v ∷ K) (y ∷ front)) (sym e) (directly v y later front (subst (λ K. needs K v y ≡ true) e h))

-- ---- ways

pub record Way (v u : Event) (between front : History) : Type 0 where
  pub who : Event
  pub later : History
  pub earlier : History
  pub split : between ≡ later ++ who ∷ earlier
  pub upper : Needs (v ∷ (between ++ u ∷ front)) (who ∷ (earlier ++ u ∷ front))
  pub lower : Needs (who ∷ (earlier ++ u ∷ front)) (u ∷ front)

pub whole : (u w : Event) (between front later earlier : History) → between ≡ later ++ w ∷ earlier → between ++ u ∷ front ≡ later ++ w ∷ (earlier ++ u ∷ front)
whole u w between front later earlier e = ap (λ b. b ++ u ∷ front) e ∙ append_assoc later (w ∷ earlier) (u ∷ front)

pub way_by : (v u w : Event) (between front later earlier : History) → between ≡ later ++ w ∷ earlier → needs (between ++ u ∷ front) v w ≡ true
    → needs (earlier ++ u ∷ front) w u ≡ true → Way v u between front
way_by v u w between front later earlier e up down = record {
  who = w;
  later = later;
  earlier = earlier;
  split = e;
  upper = direct v w (between ++ u ∷ front) later (earlier ++ u ∷ front) (whole u w between front later earlier e) up;
  lower = directly w u earlier front down;
}

-- in between is an event of a task that ends after it, and for whose end v waits
pub by_ended : (v u w : Event) (between front later earlier : History) → between ≡ later ++ w ∷ earlier → HasEnded (between ++ u ∷ front) w.task
    → (ends w.task w ≡ true → ⊥) → (HasEnded (earlier ++ u ∷ front) w.task → ⊥)
    → needs_end_of (between ++ u ∷ front) v.task v.action w.task ≡ true → needs (earlier ++ u ∷ front) w u ≡ true → Way v u between front
by_ended v u w between front later earlier split ended not_here not_before up down =
    let H = between ++ u ∷ front in
    let E = earlier ++ u ∷ front in
    let is : H ≡ later ++ w ∷ E = whole u w between front later earlier split in
    let z = found (ends w.task) later (above (subst (λ K. HasEnded K w.task) is ended)) in
    let o = and_parts (is_of w.task z.who) (is_end z.who.action) z.passes in
    let n : z.who.task ≡ w.task = same_true z.who.task w.task o.0 in
    let zis : H ≡ z.later ++ z.who ∷ (z.earlier ++ w ∷ E) = is ∙ ap (λ b. b ++ w ∷ E) z.split ∙ append_assoc z.later (z.who ∷ z.earlier) (w ∷ E) in
    let top = direct v z.who H z.later (z.earlier ++ w ∷ E) zis (needs_end H v z.who o.1 (subst (λ t. needs_end_of H v.task v.action t ≡ true) (sym n) up)) in
    let mid = directly z.who w z.earlier E (needs_own (z.earlier ++ w ∷ E) z.who w (subst (λ t. same_name w.task t ≡ true) (sym n) (same_refl w.task))) in
    record { who = w; later = later; earlier = earlier; split = split; upper = by_way top mid; lower = directly w u earlier front down }
  where
    above : HasEnded (later ++ w ∷ (earlier ++ u ∷ front)) w.task → list_any (ends w.task) later ≡ true
    above h =
        ⊎_elim (λ x. x) (λ x. absurd (⊎_elim not_here not_before (or_cases (ends w.task w) _ x)))
        (or_cases (list_any (ends w.task) later) _ (sym (list_any-append (ends w.task) later (w ∷ (earlier ++ u ∷ front))) ∙ h))

-- where none in between passes the test, or by way of one that does
pub none_or_way : {P : Type 0} (v u : Event) (between front : History) (test : Event → Bool) → (list_any test between ≡ false → P)
    → ((f : Found test between) → (needs (between ++ u ∷ front) v f.who ≡ true) × (needs (f.earlier ++ u ∷ front) f.who u ≡ true)) → P ⊎ Way v u between front
none_or_way v u between front test none some =
    ⊎_elim (λ t. let f = found test between t in let s = some f in inr (way_by v u f.who between front f.later f.earlier f.split s.0 s.1)) (λ e. inl (none e)) (cases_Bool (list_any test between))

-- ---- one's own events

-- a task that has none in between has after them what it had in front
pub own_behind : (t : Name) (b front : History) → list_any (is_of t) b ≡ false → own t (b ++ front) ≡ own t front
own_behind t [] front h = refl
own_behind t (v ∷ b) front h =
    let n = or_parts (is_of t v) (list_any (is_of t) b) h in
    own_other t v (b ++ front) n.0 ∙ own_behind t b front n.1

pub none_own : (t : Name) (H : History) → list_any (is_of t) H ≡ false → own t H ≡ []
none_own t H h = ap (own t) (sym (append-nil H)) ∙ own_behind t H [] h
