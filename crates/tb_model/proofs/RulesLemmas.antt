-- A history is legal exactly where it meets the rules over the whole list.
use Rattle.std.proofs.Common.{◌≡◌, ◌<◌, List, [], ◌∷◌, ◌++◌, Bool, true, ◌&&◌, ◌⊎◌, inl, inr, ⊎_elim, refl, sym, ap, ◌∙◌, subst, arith, nat_lt, ltb-true, append_assoc}
use Rattle.std.specs.List.{list_any}
use Rattle.std.proofs.lemmas.Bool.{or_cases, or_left, or_right, and_parts, and_from, false≢true}
use Rattle.tb_model.specs.declared.item.Item.{Item}
use Rattle.tb_model.specs.declared.action.Action.{Action}
use Rattle.tb_model.specs.declared.action.Action.TheVariants.{Start, Load, Wait, Close}
use Rattle.tb_model.specs.declared.event.Event.{Event}
use Rattle.tb_model.specs.Names.{Name, same_name, is_child, is_elder}
use Rattle.tb_model.specs.Items.{Relation, meets, some_meet, is_before, is_apart, has_no_items}
use Rattle.tb_model.specs.Facts.{History, is_of, is_start, items_of, items_for, before, apart, ends, starts, covers, HasEnded, HasStarted, IsSpawned}
use Rattle.tb_model.specs.Legal.{Cells, IsTimely, MayFollow, Legal}
use Rattle.tb_model.specs.Rules.{Stands, Rules}
use Rattle.tb_model.proofs.TestLemmas.{same_true, same_refl, any_weaker}
use Rattle.std.proofs.lemmas.List.Folds.{list_any-append}
use Rattle.tb_model.proofs.FactsLemmas.{grown, acted_spawned, not_started, ends_own}
use Rattle.tb_model.proofs.NeighboursLemmas.{legal_below, apart_sym, start_only}
use Rattle.tb_model.proofs.SettledLemmas.{apart_settled, before_settled, covers_settled, ended_later, no_late_member, spawned_later}

at_place : (cells : Cells) (H : History) (t : Name) (a : Action) (front : History) → Legal cells H → (s : Stands H t a front) → Legal cells (s.later ++ record { task = t; action = a } ∷ front)
at_place cells H t a front l s = subst (Legal cells) s.split l

follows_at : (cells : Cells) (H : History) (t : Name) (a : Action) (front : History) → Legal cells H → Stands H t a front → MayFollow cells front (record { task = t; action = a })
follows_at cells H t a front l s = (legal_below cells s.later (record { task = t; action = a } ∷ front) (at_place cells H t a front l s)).1

-- two indexes of one list
record Within (H : History) (x : Event) (front : History) : Type 0 where
  mid : History
  split : H ≡ mid ++ x ∷ front

-- two indexes of one list are one, or one is before the other
places : (a b : History) (x y : Event) (f g : History) → a ++ x ∷ f ≡ b ++ y ∷ g → ((x ≡ y) × (f ≡ g)) ⊎ (Within f y g ⊎ Within g x f)
places [] [] x y f g e = inl (cc, cc)
places [] (z ∷ b) x y f g e = inr (inl (record { mid = b; split = cc }))
places (z ∷ a) [] x y f g e = inr (inr (record { mid = a; split = cc }))
places (z ∷ a) (w ∷ b) x y f g e = places a b x y f g (cc)

any_at : (p : Event → Bool) (b : History) (x : Event) (front : History) → p x ≡ true → list_any p (b ++ x ∷ front) ≡ true
any_at p [] x front h = or_left (p x) _ h
any_at p (w ∷ b) x front h = or_right (p w) _ (any_at p b x front h)

abbrev starting : Name → Event
starting t = record { task = t; action = Start }

elder_not_itself : (t : Name) → is_elder t t ≡ true → ⊥
elder_not_itself [] h = false≢true h
elder_not_itself (n ∷ t) h = let l : n < n = ltb-true n n (and_parts (nat_lt n n) (same_name t t) h).0 in omega arith

-- u starts in front of t's start
alone_at : (cells : Cells) (H : History) (t u : Name) (front front' : History) → Legal cells H → Stands H t Start front → Within front (starting u) front' → apart H u t ≡ true → HasEnded front u
alone_at cells H t u front front' l s w b =
    let m = (follows_at cells H t Start front l s).timely in
    let G = starting t ∷ front in
    let lg = legal_below cells s.later G (at_place cells H t Start front l s) in
    let st : HasStarted front u = subst (λ K. HasStarted K u) (sym w.split) (any_at (starts u) w.mid (starting u) front' (and_from (same_name u u) true (same_refl u) refl)) in
    let sp = acted_spawned cells front u lg.0 (λ z. not_started u front (starts u) (λ v q. (and_parts (is_of u v) (is_start v.action) q).0) z st) in
    m.alone u (sym (apart_settled cells s.later G u t (at_place cells H t Start front l s) m.spawned sp) ∙ sym (ap (λ K. apart K u t) s.split) ∙ b) st

both_alone : (cells : Cells) (H : History) (t u : Name) (front front' : History) → Legal cells H → Stands H t Start front → Stands H u Start front' → apart H u t ≡ true → HasEnded front u ⊎ HasEnded front' t
both_alone cells H t u front front' l s r b =
    ⊎_elim
    (λ z. absurd (⊎_elim (λ e. elder_not_itself t (subst (λ w. is_elder w t ≡ true) (sym (ap (λ v. v.task) z.0)) (and_parts (is_elder u t) _ e).0)) (λ e. elder_not_itself t (subst (λ w. is_elder t w ≡ true) (sym (ap (λ v. v.task) z.0)) (and_parts (is_elder t u) _ e).0)) (or_cases (is_elder u t && _) _ b)))
    (λ z. ⊎_elim (λ w. inl (alone_at cells H t u front front' l s w b)) (λ w. inr (alone_at cells H u t front' front l r w (apart_sym H u t b))) z)
    (places s.later r.later (starting t) (starting u) front front' (sym s.split ∙ r.split))

whole_split : (H : History) (t : Name) (a : Action) (front : History) → (s : Stands H t a front) → H ≡ (s.later ++ record { task = t; action = a } ∷ []) ++ front
whole_split H t a front s = s.split ∙ sym (append_assoc s.later (record { task = t; action = a } ∷ []) front)

-- a legal history meets each rule
pub rules : (cells : Cells) (H : History) → Legal cells H → Rules cells H
rules cells H l = record {
  own_order = λ t a front s. (follows_at cells H t a front l s).own;
  spawned = λ t front s n. (follows_at cells H t Start front l s).timely.spawned;
  loaded = λ t r c front x s. (follows_at cells H t (Load r c x) front l s).timely;
  behind =
      λ t u front s b.
      let m = (follows_at cells H t Start front l s).timely in
      let G = record { task = t; action = Start } ∷ front in
      m.behind u (before_settled cells s.later G u t (at_place cells H t Start front l s) m.spawned (subst (λ K. before K u t ≡ true) s.split b));
  alone = λ t u front front' s r b. both_alone cells H t u front front' l s r b;
  waited =
      λ t u items front s c q.
      (follows_at cells H t (Wait items) front l s).timely u
      (covers_settled cells (s.later ++ record { task = t; action = Wait items } ∷ []) front t items u (subst (Legal cells) (whole_split H t (Wait items) front s) l) q (subst (λ K. covers K t items u ≡ true) (whole_split H t (Wait items) front s) c)) q;
  resumed = λ t u a front s h. (follows_at cells H t a front l s).resumed u h;
  closed =
      λ t m front s i q.
      let c = follows_at cells H t Close front l s in
      c.timely m i (no_late_member cells front t c m s.later (at_place cells H t Close front l s) i (subst (λ K. IsSpawned K m) s.split q));
}

-- ---- and back

items_more : (p : Item → Bool) (t : Name) (b front : History) → list_any p (items_of t front) ≡ true → list_any p (items_of t (b ++ front)) ≡ true
items_more p t [] front h = h
items_more p t (f ∷ b) front h =
    list_any-append p (items_for t f.action) (items_of t (b ++ front)) ∙ or_right (list_any p (items_for t f.action)) _ (items_more p t b front h)

meet_more : (test : Relation → Bool) (t u : Name) (b front : History) → some_meet test (items_of t front) (items_of u front) ≡ true → some_meet test (items_of t (b ++ front)) (items_of u (b ++ front)) ≡ true
meet_more test t u b front h =
    any_weaker (λ i. list_any (meets test i) (items_of u front)) (λ i. list_any (meets test i) (items_of u (b ++ front))) (λ i. items_more (meets test i) u b front) (items_of t (b ++ front))
    (items_more (λ i. list_any (meets test i) (items_of u front)) t b front h)

before_more : (u t : Name) (b front : History) → before front u t ≡ true → before (b ++ front) u t ≡ true
before_more u t b front h =
    let o = and_parts (is_elder u t) _ h in and_from (is_elder u t) _ o.0 (meet_more is_before t u b front o.1)

apart_more : (u t : Name) (b front : History) → apart front u t ≡ true → apart (b ++ front) u t ≡ true
apart_more u t b front h =
    let half : (x y : Name) → (is_elder x y && some_meet is_apart (items_of y front) (items_of x front)) ≡ true → (is_elder x y && some_meet is_apart (items_of y (b ++ front)) (items_of x (b ++ front))) ≡ true =
    λ x y q. let o = and_parts (is_elder x y) _ q in and_from (is_elder x y) _ o.0 (meet_more is_apart y x b front o.1)
    in
    ⊎_elim (λ a. or_left _ (is_elder t u && some_meet is_apart (items_of u (b ++ front)) (items_of t (b ++ front))) (half u t a))
    (λ a. or_right (is_elder u t && some_meet is_apart (items_of t (b ++ front)) (items_of u (b ++ front))) _ (half t u a))
    (or_cases (is_elder u t && some_meet is_apart (items_of t front) (items_of u front)) _ h)

-- where a task started
pub started_where : (u : Name) (H : History) → HasStarted H u → (front : History) × Stands H u Start front
started_where u [] h = absurd (false≢true h)
started_where u (v ∷ H) h =
    ⊎_elim
    (λ a.
    let o = and_parts (is_of u v) (is_start v.action) a in
    let q = same_true v.task u o.0 in
    let p = start_only v.action o.1 in
    (H, record { later = []; split = λ i. record { task = q i; action = p i } ∷ H }))
    (λ a. let r = started_where u H a in (r.0, record { later = v ∷ r.1.later; split = ap (λ K. v ∷ K) r.1.split }))
    (or_cases (starts u v) (list_any (starts u) H) h)

covers_more : (t : Name) (items : List Item) (u : Name) (b front : History) → covers front t items u ≡ true → covers (b ++ front) t items u ≡ true
covers_more t items u b front h =
    let o = and_parts (is_child t u) _ h in
    and_from (is_child t u) _ o.0
    (⊎_elim (λ a. or_left (has_no_items items) _ a)
    (λ a. or_right (has_no_items items) _ (any_weaker (λ i. list_any (meets is_before i) (items_of u front)) (λ i. list_any (meets is_before i) (items_of u (b ++ front))) (λ i. items_more (meets is_before i) u b front) items a))
    (or_cases (has_no_items items) (some_meet is_before items (items_of u front)) o.1))

whole_before : (u t : Name) (H front : History) (a : Action) → Stands H t a front → before front u t ≡ true → before H u t ≡ true
whole_before u t H front a s b =
    subst (λ K. before K u t ≡ true) (sym (s.split ∙ sym (append_assoc s.later (record { task = t; action = a } ∷ []) front))) (before_more u t (s.later ++ record { task = t; action = a } ∷ []) front b)

whole_apart : (u t : Name) (H front : History) (a : Action) → Stands H t a front → apart front u t ≡ true → apart H u t ≡ true
whole_apart u t H front a s b =
    subst (λ K. apart K u t ≡ true) (sym (s.split ∙ sym (append_assoc s.later (record { task = t; action = a } ∷ []) front))) (apart_more u t (s.later ++ record { task = t; action = a } ∷ []) front b)

whole_spawned : (m t : Name) (H front : History) (a : Action) → Stands H t a front → IsSpawned front m → IsSpawned H m
whole_spawned m t H front a s b =
    subst (λ K. IsSpawned K m) (sym s.split) (spawned_later m s.later (record { task = t; action = a } ∷ front) (grown m (record { task = t; action = a }) front b))

-- an index of the front is an index of the whole
whole_stands : (u t : Name) (H front front' : History) (a b : Action) → Stands H t a front → Stands front u b front' → Stands H u b front'
whole_stands u t H front front' a b s r = record {
  later = s.later ++ record { task = t; action = a } ∷ r.later;
  split = s.split ∙ ap (λ K. s.later ++ record { task = t; action = a } ∷ K) r.split ∙ sym (append_assoc s.later (record { task = t; action = a } ∷ r.later) (record { task = u; action = b } ∷ front'));
}

module _ (cells : Cells) (H : History) (r : Rules cells H) where
  -- what hasn't begun hasn't ended further in front
  not_ended : (t u : Name) (front front' : History) → Stands H t Start front → Stands front u Start front' → HasEnded front' t → ⊥
  not_ended t u front front' s q e =
      not_started t front (ends t) (ends_own t) (r.own_order t Start front s)
      (subst (λ K. HasEnded K t) (sym q.split) (ended_later t q.later (starting u ∷ front') (or_right (ends t (starting u)) _ e)))

  timely_by : (t : Name) (a : Action) (front : History) → Stands H t a front → IsTimely cells front t a
  timely_by t Start front s = record {
    spawned = at t s;
    behind = λ u b. r.behind t u front s (whole_before u t H front Start s b);
    alone =
        λ u b st.
        let w = started_where u front st in
        ⊎_elim (λ x. x) (λ x. absurd (not_ended t u front w.0 s w.1 x)) (r.alone t u front w.0 s (whole_stands u t H front w.0 Start Start s w.1) (whole_apart u t H front Start s b));
  }
    where
      at : (t : Name) → Stands H t Start front → IsSpawned front t
      at [] s = refl
      at (n ∷ t) s = r.spawned (n ∷ t) front s (λ e. cc)
  timely_by t (Load k c x) front s = r.loaded t k c front x s
  timely_by t (Wait items) front s =
      λ u c q. r.waited t u items front s (subst (λ K. covers K t items u ≡ true) (sym (whole_split H t (Wait items) front s)) (covers_more t items u (s.later ++ record { task = t; action = Wait items } ∷ []) front c)) q
  timely_by t Close front s = λ m i q. r.closed t m front s i (whole_spawned m t H front Close s q)
  timely_by t _ front s = tt

  legal_by : (later front : History) → H ≡ later ++ front → Legal cells front
  legal_by later [] e = tt
  legal_by later (v ∷ front) e = (
    legal_by (later ++ v ∷ []) front (e ∙ sym (append_assoc later (v ∷ []) front)),
    let s : Stands H v.task v.action front = record { later = later; split = e } in
        record { own = r.own_order v.task v.action front s; resumed = λ u h. r.resumed v.task u v.action front s h; timely = timely_by v.task v.action front s },
  )

-- a history that meets the rules is legal
pub from_rules : (cells : Cells) (H : History) → Rules cells H → Legal cells H
from_rules cells H r = legal_by cells H r [] H refl
