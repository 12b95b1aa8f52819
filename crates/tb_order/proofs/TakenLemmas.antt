-- What a step needs immediately, by the steps that it is linked to.
use Rattle.std.proofs.Common.{◌≡◌, ◌<◌, ◌++◌, [], ℕ, List, Bool, true, false, not, ◌&&◌, ◌||◌, take, cond, Option, Some, None, is_some, length, filter, refl, sym, ap, ap₂, ◌∙◌, subst, arith, ◌⊎◌, inl, inr, ⊎_elim}
use Rattle.std.specs.Option.{option_or}
use Rattle.std.proofs.lemmas.Bool.{and_parts, both_ways, cases_eq, cases_lt, false≢true, false_from_ne_true, or_cases, or_left, or_right}
use Rattle.tb_model.specs.declared.action.Action.{Action}
use Rattle.tb_model.specs.declared.action.Action.TheVariants.{Start, Wait as Waits, Close}
use Rattle.tb_model.specs.Facts.{History, before, apart, covers, is_member, own, holds}
use Rattle.tb_model.specs.Names.{Name}
use Rattle.tb_steps.specs.Entries.{Entry}
use Rattle.tb_steps.specs.Scans.{history_of}
use Rattle.tb_races.specs.declared.need_kind.NeedKind.{NeedKind}
use Rattle.tb_races.specs.declared.need_kind.NeedKind.TheVariants.{Before, Apart, Wait, Group, Undeferred}
use Rattle.tb_races.specs.Kinds.{end_kind, need_kind, some_if, wait_kind}
use Rattle.tb_races.specs.Orders.{AllNeeds, WithExclusion, counts_some}
use Rattle.tb_lanes.specs.declared.tasks.Tasks.{Tasks}
use Rattle.tb_lanes.specs.declared.clocks.Clocks.{Clocks}
use Rattle.tb_lanes.specs.declared.kept.Kept.{Kept}
use Rattle.tb_lanes.specs.declared.step.Step.{Step}
use Rattle.tb_order.specs.AllNeeds.{AreDirect}
use Rattle.tb_lanes.specs.Clocks.{AreTasks, Lanes, both_at, is_after, is_end_at, kept_in, links_at, reaches, touches}
use Rattle.tb_lanes.specs.Fewer.{AreFewer, BeginsFor, lanes_with}
use Rattle.tb_lanes.specs.Kept.{is_in_at, is_load, loads_at, loads_so, shares_at, shares_so, slot_of}
use Rattle.tb_lanes.specs.Needing.{FindsEnds, IsBelow, IsTouched, place_at}
use Rattle.tb_order.specs.Needed.{AreCandidates, AreNeeded, AreShared, IsAmong, IsBegun, IsMet, is_known, is_pending, places_so, shared_places}
use Rattle.tb_lanes.proofs.AfterLemmas.{After, after_links, at, at_read, by_way, direct, first_link, links_is, reached, reaches_so, same_at}
use Rattle.tb_order.proofs.DirectLemmas.{all_count}
use Rattle.tb_lanes.proofs.KeptLemmas.{shares_by_number}
use Rattle.tb_lanes.proofs.LinkLemmas.{end_is, end_links, link_cases_at, touch_links_at}
use Rattle.tb_order.proofs.SharedLemmas.{link_shared_at}
use Rattle.tb_lanes.proofs.SharingLemmas.{shared_none}
use Rattle.tb_lanes.proofs.SoundLemmas.{first_reaches, first_touches, reached_low}
use Rattle.tb_order.proofs.NeededLemmas.{further, met_on}
use Rattle.tb_order.proofs.PendingLemmas.{end_pending, uncovered_pending}
use Rattle.tb_order.proofs.WalkedLemmas.{among_both, among_filter, among_left, among_right, filter_among}
use Rattle.tb_steps.proofs.FirstLemmas.{there}

-- ---- what exclusion orders, all needs do

up_count : (k : Option NeedKind) → counts_some WithExclusion k ≡ true → counts_some AllNeeds k ≡ true
up_count None h = h
up_count (Some k) h = all_count (Some k)

some_if_down : (b : Bool) (k : NeedKind) → counts_some WithExclusion (Some k) ≡ true → is_some (some_if b k) ≡ true
    → counts_some WithExclusion (some_if b k) ≡ true
some_if_down true k c h = c
some_if_down false k c h = h

or_down : (o p : Option NeedKind) → (is_some o ≡ true → counts_some WithExclusion o ≡ true) → (is_some p ≡ true → counts_some WithExclusion p ≡ true)
    → is_some (option_or o p) ≡ true → counts_some WithExclusion (option_or o p) ≡ true
or_down (Some k) p f g h = f refl
or_down None p f g h = g h

wait_down : (H : History) (t : Name) (a : Action) (u : Name) → is_some (wait_kind H t a u) ≡ true → counts_some WithExclusion (wait_kind H t a u) ≡ true
wait_down H t Start u h =
    or_down (some_if (before H u t) Before) (some_if (apart H u t) Apart) (some_if_down (before H u t) Before refl) (some_if_down (apart H u t) Apart refl) h
wait_down H t (Waits items) u h = some_if_down (covers H t items u) Wait refl h
wait_down H t Close u h = some_if_down (is_member (own t H) u) Group refl h
wait_down H t _ u h = absurd (false≢true h)

end_down : (H : History) (t : Name) (a : Action) (u : Name) → counts_some AllNeeds (end_kind H t a u) ≡ true
    → counts_some WithExclusion (end_kind H t a u) ≡ true
end_down H t a u h =
    or_down (wait_kind H t a u) (some_if (holds (own t H) u) Undeferred) (wait_down H t a u) (some_if_down (holds (own t H) u) Undeferred refl)
    (sym (all_count (end_kind H t a u)) ∙ h)

module _ (entries : List Entry) where
  abbrev H : ℕ → History
  H n = history_of (take n entries)

  pub links_up : (p x : ℕ) → p < length entries → x < length entries → links_at WithExclusion entries p x ≡ true → links_at AllNeeds entries p x ≡ true
  links_up p x w i h =
      links_is AllNeeds entries p x w i ∙ up_count (need_kind (H p) (at AllNeeds entries p w).event (at AllNeeds entries x i).event)
      (sym (links_is WithExclusion entries p x w i) ∙ h)

  after_up : {p q : ℕ} → After WithExclusion entries p q → After AllNeeds entries p q
  after_up (direct o es p q l w h) = direct AllNeeds entries p q l w (links_up p q w (omega (arith, l, w)) h)
  after_up (by_way o es p x q l w h a) = by_way AllNeeds entries p x q l w (links_up p x w (omega (arith, l, w)) h) (after_up a)

  pub reaches_up : (p q : ℕ) → p < length entries → q < length entries → reaches WithExclusion entries p q ≡ true → reaches AllNeeds entries p q ≡ true
  reaches_up p q w i h = reaches_so AllNeeds entries p q (⊎_elim (λ e. inl e) (λ a. inr (after_up a)) (reached WithExclusion entries p q w i h))

  end_link_down : (p x : ℕ) → p < length entries → x < length entries → is_end_at entries x ≡ true → links_at AllNeeds entries p x ≡ true
      → links_at WithExclusion entries p x ≡ true
  end_link_down p x w i e h =
      let v = (at AllNeeds entries p w).event in
      let u = (at AllNeeds entries x i).event in
      let end = sym (end_is AllNeeds entries p x w i) ∙ e in
      links_is WithExclusion entries p x w i ∙ end_links WithExclusion (H p) v u end
      ∙ ⊎_elim (λ a. or_left _ _ a) (λ a. or_right _ _ (end_down (H p) v.task v.action u.task a))
      (or_cases _ _ (sym (end_links AllNeeds (H p) v u end) ∙ sym (links_is AllNeeds entries p x w i) ∙ h))

  -- ---- by the steps of a list

  abbrev Reaches : List ℕ → ℕ → Type 0
  Reaches xs q = (y : ℕ) × IsAmong xs y × (reaches AllNeeds entries y q ≡ true)

  some_below : (xs : List ℕ) (q : ℕ) → IsBelow AllNeeds entries xs q → Reaches xs q
  some_below xs q h = (place_at xs h.0, (h.0, h.1, refl), h.2)

  below_some : (xs : List ℕ) (q : ℕ) → Reaches xs q → IsBelow AllNeeds entries xs q
  below_some xs q h = (h.1.0, h.1.1, subst (λ y. reaches AllNeeds entries y q ≡ true) (sym h.1.2) h.2)

  module _ (p : ℕ) (w : p < length entries) where
    -- ---- the ends, and what is shared

    module _ (ends : List ℕ) (finds : FindsEnds WithExclusion entries p ends) (kept : Kept) (are_shared : AreShared entries p kept) (a : Action)
        (a_is : a ≡ (at AllNeeds entries p w).event.action) where
      abbrev sources : List ℕ
      sources = ends ++ shared_places kept a

      load_is : loads_at entries p ≡ is_load a
      load_is = ap loads_so (at_read AllNeeds entries p w) ∙ ap is_load (sym a_is)

      module _ (i : ℕ) (slot : slot_of a ≡ Some i) where
        abbrev writes : List ℕ
        writes = kept_in kept.writes.items i

        abbrev loads : List ℕ
        loads = kept_in kept.loads.items i

        shared_are : shared_places kept a ≡ writes ++ cond (is_load a) [] loads
        shared_are = ap (λ s. places_so kept s (is_load a)) slot

        by_number : (x : ℕ) → x < p → shares_at entries p x ≡ (is_in_at entries i x && (not (loads_at entries p) || not (loads_at entries x)))
        by_number = shares_by_number AllNeeds entries p w i (ap slot_of (sym a_is) ∙ slot)

        write_among : (y : ℕ) → IsAmong writes y → IsAmong sources y
        write_among y h =
            among_right ends (shared_places kept a) y (subst (λ xs. IsAmong xs y) (sym shared_are) (among_left writes (cond (is_load a) [] loads) y h))

        load_among : is_load a ≡ false → (y : ℕ) → IsAmong loads y → IsAmong sources y
        load_among e y h =
            among_right ends (shared_places kept a) y
            (subst (λ xs. IsAmong xs y) (sym shared_are) (among_right writes (cond (is_load a) [] loads) y (subst (λ b. IsAmong (cond b [] loads) y) (sym e) h)))

        shared_source : (x : ℕ) → x < p → shares_at entries p x ≡ true → Reaches sources x
        shared_source x l h = by (loads_at entries x) refl
          where
            parts : (is_in_at entries i x ≡ true) × ((not (loads_at entries p) || not (loads_at entries x)) ≡ true)
            parts = and_parts (is_in_at entries i x) (not (loads_at entries p) || not (loads_at entries x)) (sym (by_number x l) ∙ h)

            one_stores : (b c : Bool) → c ≡ true → (not b || not c) ≡ true → b ≡ false
            one_stores false c e h = refl
            one_stores true true e h = absurd (false≢true h)
            one_stores true false e h = absurd (false≢true e)

            by : (b : Bool) → loads_at entries x ≡ b → Reaches sources x
            by false e = let r = some_below writes x ((are_shared i).by_writes x l parts.0 e) in (r.0, write_among r.0 r.1, r.2)
            by true e =
                ⊎_elim (λ c. let r = some_below writes x c in (r.0, write_among r.0 r.1, r.2))
                (λ c. let r = some_below loads x c in (r.0, load_among (sym load_is ∙ one_stores (loads_at entries p) (loads_at entries x) e parts.1) r.0 r.1, r.2))
                ((are_shared i).by_loads x l parts.0 e)

        each_shared : (y : ℕ) → IsAmong (shared_places kept a) y → (y < p) × (links_at AllNeeds entries p y ≡ true)
        each_shared y h =
            ⊎_elim (λ c. of_writes c) (λ c. of_loads (is_load a) refl c)
            (among_both writes (cond (is_load a) [] loads) y (subst (λ xs. IsAmong xs y) shared_are h))
          where
            linked : y < p → is_in_at entries i y ≡ true → (not (loads_at entries p) || not (loads_at entries y)) ≡ true
                → (y < p) × (links_at AllNeeds entries p y ≡ true)
            linked l e f = (l, link_shared_at entries p y l w (by_number y l ∙ ap₂ (λ b c. b && c) e f))

            open_side : (b : Bool) → (b || true) ≡ true
            open_side true = refl
            open_side false = refl

            of_writes : IsAmong writes y → (y < p) × (links_at AllNeeds entries p y ≡ true)
            of_writes c =
                let g = (are_shared i).writes_in c.0 c.1 in
                let none : loads_at entries y ≡ false = subst (λ z. loads_at entries z ≡ false) c.2 g.2 in
                linked (subst (λ z. z < p) c.2 g.0) (subst (λ z. is_in_at entries i z ≡ true) c.2 g.1)
                (ap (λ b. not (loads_at entries p) || not b) none ∙ open_side (not (loads_at entries p)))

            of_loads : (b : Bool) → is_load a ≡ b → IsAmong (cond (is_load a) [] loads) y → (y < p) × (links_at AllNeeds entries p y ≡ true)
            of_loads true e c = absurd (none (subst (λ b. IsAmong (cond b [] loads) y) e c))
              where
                none : IsAmong [] y → ⊥
                none h = omega (arith, h.1)
            of_loads false e c =
                let d = subst (λ b. IsAmong (cond b [] loads) y) e c in
                let g = (are_shared i).loads_in d.0 d.1 in
                linked (subst (λ z. z < p) d.2 g.0) (subst (λ z. is_in_at entries i z ≡ true) d.2 g.1)
                (ap (λ b. not b || not (loads_at entries y)) (load_is ∙ e))

        -- for each of them a later step may ask
        shared_pending : (tasks : Tasks) (y : ℕ) → IsAmong (shared_places kept a) y → is_pending entries tasks p y ≡ true
        shared_pending tasks y h =
            ⊎_elim (λ c. of_writes c) (λ c. of_loads (is_load a) c) (among_both writes (cond (is_load a) [] loads) y (subst (λ xs. IsAmong xs y) shared_are h))
          where
            of_writes : IsAmong writes y → is_pending entries tasks p y ≡ true
            of_writes c =
                subst (λ z. is_pending entries tasks p z ≡ true) c.2
                (uncovered_pending entries tasks (place_at writes c.0) p i ((are_shared i).writes_in c.0 c.1).1 (λ x l m h. (are_shared i).new_writes c.0 x c.1 l m h))

            of_loads : (b : Bool) → IsAmong (cond b [] loads) y → is_pending entries tasks p y ≡ true
            of_loads true c = absurd (none c)
              where
                none : IsAmong [] y → ⊥
                none h = omega (arith, h.1)
            of_loads false c =
                subst (λ z. is_pending entries tasks p z ≡ true) c.2
                (uncovered_pending entries tasks (place_at loads c.0) p i ((are_shared i).loads_in c.0 c.1).1 (λ x l m h. (are_shared i).new_loads c.0 x c.1 l m h))

      no_slot : slot_of a ≡ None → (x : ℕ) → x < p → shares_at entries p x ≡ true → ⊥
      no_slot none x l h =
          let i : x < length entries = omega (arith, l, w) in
          both_ways (shares_at entries p x)
          (ap₂ shares_so (at_read AllNeeds entries p w) (at_read AllNeeds entries x i) ∙ ap is_some (shared_none (at AllNeeds entries p w).event.action (at AllNeeds entries x i).event.action (ap slot_of (sym a_is) ∙ none))) h

      -- whatever the step is linked to is reached from one of them, or by what touches its task
      pub sourced : (x : ℕ) → x < p → links_at AllNeeds entries p x ≡ true → IsTouched AllNeeds entries p x ⊎ Reaches sources x
      sourced x l h = by (link_cases_at AllNeeds entries p x w (omega (arith, l, w)) h)
        where
          i : x < length entries
          i = omega (arith, l, w)

          share : (s : Option ℕ) → slot_of a ≡ s → shares_at entries p x ≡ true → Reaches sources x
          share None e g = absurd (no_slot e x l g)
          share (Some k) e g = shared_source k e x l g

          of_end : IsTouched WithExclusion entries p x ⊎ IsBelow WithExclusion entries ends x → IsTouched AllNeeds entries p x ⊎ Reaches sources x
          of_end (inl t) = inl (t.0, t.1, t.2, reaches_up t.0 x (omega (arith, t.1, w)) i t.3)
          of_end (inr b) =
              let y = place_at ends b.0 in
              inr (y, among_left ends (shared_places kept a) y (b.0, b.1, refl), reaches_up y x (omega (arith, (finds.each b.0 b.1).0, w)) i b.2)

          by : (both_at touches entries p x ≡ true) ⊎ ((is_end_at entries x ≡ true) ⊎ ((true ≡ true) × (shares_at entries p x ≡ true)))
              → IsTouched AllNeeds entries p x ⊎ Reaches sources x
          by (inl t) = inl (x, l, t, reaches_so AllNeeds entries x x (inl refl))
          by (inr (inl e)) = of_end (finds.all x (l, e, end_link_down p x w i e h))
          by (inr (inr s)) = inr (share (slot_of a) refl s.1)

      -- for each a later step may ask
      pub pending_source : (tasks : Tasks) (y : ℕ) → IsAmong sources y → is_pending entries tasks p y ≡ true
      pending_source tasks y h = ⊎_elim of_ends (λ c. of_shared (slot_of a) refl c) (among_both ends (shared_places kept a) y h)
        where
          of_ends : IsAmong ends y → is_pending entries tasks p y ≡ true
          of_ends c = end_pending entries tasks y p (subst (λ z. is_end_at entries z ≡ true) c.2 (finds.each c.0 c.1).1)

          of_shared : (s : Option ℕ) → slot_of a ≡ s → IsAmong (shared_places kept a) y → is_pending entries tasks p y ≡ true
          of_shared None e c = absurd (none (subst (λ s. IsAmong (places_so kept s (is_load a)) y) e c))
            where
              none : IsAmong [] y → ⊥
              none h = omega (arith, h.1)
          of_shared (Some k) e c = shared_pending k e tasks y c

      -- and the step is linked to each
      pub each_source : (y : ℕ) → IsAmong sources y → (y < p) × (links_at AllNeeds entries p y ≡ true)
      each_source y h = ⊎_elim of_ends (λ c. of_shared (slot_of a) refl c) (among_both ends (shared_places kept a) y h)
        where
          of_ends : IsAmong ends y → (y < p) × (links_at AllNeeds entries p y ≡ true)
          of_ends c =
              let g = finds.each c.0 c.1 in
              subst (λ z. (z < p) × (links_at AllNeeds entries p z ≡ true)) c.2 (g.0, links_up p (place_at ends c.0) w (omega (arith, g.0, w)) g.2)

          of_shared : (s : Option ℕ) → slot_of a ≡ s → IsAmong (shared_places kept a) y → (y < p) × (links_at AllNeeds entries p y ≡ true)
          of_shared None e c = absurd (none (subst (λ s. IsAmong (places_so kept s (is_load a)) y) e c))
            where
              none : IsAmong [] y → ⊥
              none h = omega (arith, h.1)
          of_shared (Some k) e c = each_shared k e y c

-- ---- those that aren't known

module _ (entries : List Entry) (tasks : Tasks) (clocks : Clocks) (s : Step) (begun : IsBegun entries tasks clocks s) where
  abbrev p : ℕ
  p = s.at

  abbrev w : p < length entries
  w = begun.at

  abbrev full : Lanes
  full = lanes_with clocks begun.front.bounds

  -- what touches the task reaches no further than the newest that does
  touched_on : (y x : ℕ) → y < p → x < p → IsTouched AllNeeds entries p y → reaches AllNeeds entries y x ≡ true → IsTouched AllNeeds entries p x
  touched_on y x l m t r = (t.0, t.1, t.2, further entries p w t.0 y x t.1 l m t.3 r)

  module _ (ends : List ℕ) (finds : FindsEnds WithExclusion entries p ends) (kept : Kept) (are_shared : AreShared entries p kept) (a : Action)
      (a_is : a ≡ (at AllNeeds entries p w).event.action) where
    abbrev all : List ℕ
    all = sources entries p w ends finds kept are_shared a a_is

    abbrev found : List ℕ
    found = filter (λ q. not (is_known entries tasks clocks s q)) all

    pub low_source : (i : ℕ) → i < length all → place_at all i < p
    low_source i l = (each_source entries p w ends finds kept are_shared a a_is (place_at all i) (i, l, refl)).0

    pub asked_source : (i : ℕ) → i < length all → is_pending entries tasks p (place_at all i) ≡ true
    asked_source i l = pending_source entries p w ends finds kept are_shared a a_is tasks (place_at all i) (i, l, refl)

    not_true : (b : Bool) → not b ≡ true → b ≡ false
    not_true true h = absurd (false≢true h)
    not_true false h = refl

    pub are_candidates : AreCandidates entries tasks p found
    are_candidates c h =
        let f = among_filter (λ q. not (is_known entries tasks clocks s q)) all c h in
        let g = each_source entries p w ends finds kept are_shared a a_is c f.0 in
        let asked = pending_source entries p w ends finds kept are_shared a a_is tasks c f.0 in
        (g.0, g.1, asked, λ t. both_ways (is_known entries tasks clocks s c) (not_true (is_known entries tasks clocks s c) f.1) (begun.begins.enough c g.0 asked t))

    -- whatever the step is linked to is reached from one of them, or by what touches its task
    pub covered : (x : ℕ) → x < p → links_at AllNeeds entries p x ≡ true → IsTouched AllNeeds entries p x ⊎ Reaches entries found x
    covered x l h =
        ⊎_elim (λ t. inl t) (λ r. by r.0 r.1 r.2 (is_known entries tasks clocks s r.0) refl) (sourced entries p w ends finds kept are_shared a a_is x l h)
      where
        by : (y : ℕ) → IsAmong all y → reaches AllNeeds entries y x ≡ true → (b : Bool) → is_known entries tasks clocks s y ≡ b
            → IsTouched AllNeeds entries p x ⊎ Reaches entries found x
        by y m r true e =
            let low = (each_source entries p w ends finds kept are_shared a a_is y m).0 in inl (touched_on y x low l (begun.begins.sound y low e) r)
        by y m r false e = inr (y, filter_among (λ q. not (is_known entries tasks clocks s q)) all y m (ap not e), r)

    -- ---- what the step comes after is met

    found_low : (i : ℕ) → i < length found → place_at found i < p
    found_low i l = (are_candidates (place_at found i) (i, l, refl)).0

    met_linked : (x : ℕ) → x < p → links_at AllNeeds entries p x ≡ true → IsMet entries p found x
    met_linked x l h = ⊎_elim (λ t. inl t) (λ r. inr (below_some entries found x r)) (covered x l h)

    pub after_met : (q : ℕ) → q < p → is_after AllNeeds entries p q ≡ true → IsMet entries p found q
    after_met q l h =
        let f = first_link (after_links AllNeeds entries p q w (omega (arith, l, w)) h) in
        met_on entries p w found found_low f.0 q f.1 l (met_linked f.0 f.1 f.2) (reaches_so AllNeeds entries f.0 q f.3)

    -- ---- what is needed

    module _ (places : List ℕ) (needed : AreNeeded entries tasks p found places) where
      below : (x : ℕ) → x < p → links_at AllNeeds entries p x ≡ true → Reaches entries places x
      below x l h =
          ⊎_elim
          (λ t.
          let f = first_reaches AllNeeds entries tasks begun.by_task p w full begun.front.lanes t.0 t.1 t.2 in
          let b = some_below entries places f.0 (needed.covered f.0 (inr f.1)) in
          (b.0, b.1, further entries p w b.0 f.0 x (place_low b.0 b.1) f.2 l b.2 (further entries p w f.0 t.0 x f.2 t.1 l (reaches_so AllNeeds entries f.0 t.0 f.3) t.3)))
          (λ r.
          let b = some_below entries places r.0 (needed.covered r.0 (inl r.1)) in
          (b.0, b.1, further entries p w b.0 r.0 x (place_low b.0 b.1) (are_candidates r.0 r.1).0 l b.2 r.2))
          (covered x l h)
        where
          place_low : (y : ℕ) → IsAmong places y → y < p
          place_low y m =
              subst (λ z. z < p) m.2
              (⊎_elim (λ c. (are_candidates (place_at places m.0) c).0) (λ c. (first_touches AllNeeds entries tasks begun.by_task p w full begun.front.lanes (place_at places m.0) c).0) (needed.each m.0 m.1))

      linked_place : (i : ℕ) → i < length places → (place_at places i < p) × (links_at AllNeeds entries p (place_at places i) ≡ true)
      linked_place i l =
          ⊎_elim (λ c. let g = are_candidates (place_at places i) c in (g.0, g.1))
          (λ c.
          let t = first_touches AllNeeds entries tasks begun.by_task p w full begun.front.lanes (place_at places i) c in
          (t.0, touch_links_at AllNeeds entries p (place_at places i) w (omega (arith, t.0, w)) t.1))
          (needed.each i l)

      -- one that reaches another of them is the other
      one : (i j : ℕ) → i < length places → j < length places → reaches AllNeeds entries (place_at places j) (place_at places i) ≡ true
          → place_at places j ≡ place_at places i
      one i j l m r =
          let a = (linked_place i l).0 in
          let b = (linked_place j m).0 in
          let le = reached_low AllNeeds entries (place_at places j) (place_at places i) (reached AllNeeds entries (place_at places j) (place_at places i) (omega (arith, b, w)) (omega (arith, a, w)) r) in
          ⊎_elim (λ s. ap (place_at places) s)
          (λ d. ⊎_elim (λ k. absurd (both_ways _ (needed.apart.apart j i k l) r)) (λ k. absurd (omega (arith, le, needed.apart.falling i j (omega (arith, k, d)) m))) (cases_lt j i))
          (cases_eq j i)

      same_place : (y x : ℕ) → y < p → x < p → reaches AllNeeds entries y x ≡ true → reaches AllNeeds entries x y ≡ true → y ≡ x
      same_place y x l m a b =
          omega
          (arith, reached_low AllNeeds entries y x (reached AllNeeds entries y x (omega (arith, l, w)) (omega (arith, m, w)) a), reached_low AllNeeds entries x y (reached AllNeeds entries x y (omega (arith, m, w)) (omega (arith, l, w)) b))

      pub are_direct : AreDirect entries p places
      are_direct = record {
        falling = needed.apart.falling;
        each = λ i l.
            let f = linked_place i l in record {
              front = f.0;
              linked = f.1;
              nearest = λ x m link other. false_from_ne_true (reaches AllNeeds entries x (place_at places i)) (λ r.
                  let b = below x m link in
                  let g = linked_place b.1.0 b.1.1 in
                  let y_low : b.0 < p = subst (λ z. z < p) b.1.2 g.0 in
                  let far = further entries p w b.0 x (place_at places i) y_low m f.0 b.2 r in
                  let same : b.0 ≡ place_at places i = sym b.1.2 ∙ one i b.1.0 l b.1.1 (subst (λ z. reaches AllNeeds entries z (place_at places i) ≡ true) (sym b.1.2) far) in
                  other (same_place x (place_at places i) m f.0 r (subst (λ z. reaches AllNeeds entries z x ≡ true) same b.2)));
            };
        all = λ q d.
            let b = below q d.front d.linked in
            let g = linked_place b.1.0 b.1.1 in
            ⊎_elim (λ e. subst (IsAmong places) e b.1)
            (λ n. absurd (both_ways (reaches AllNeeds entries b.0 q) (d.nearest b.0 (subst (λ z. z < p) b.1.2 g.0) (subst (λ z. links_at AllNeeds entries p z ≡ true) b.1.2 g.1) n) b.2))
            (cases_eq b.0 q);
      }

-- ---- the step with which it begins

pub begun_of : (entries : List Entry) (tasks : Tasks) (clocks : Clocks) (s : Step) (n : ℕ) → s.at ≡ n → AreTasks entries tasks
    → AreFewer (is_pending entries tasks n) AllNeeds entries tasks n clocks → n < length entries
    → BeginsFor (is_pending entries tasks n) AllNeeds entries tasks clocks s.row s.lane n → IsBegun entries tasks clocks s
begun_of entries tasks clocks s n e are told w begins = record {
  by_task = are;
  front = subst (λ m. AreFewer (is_pending entries tasks m) AllNeeds entries tasks m clocks) (sym e) told;
  at = omega (arith, e, w);
  begins = subst (λ m. BeginsFor (is_pending entries tasks m) AllNeeds entries tasks clocks s.row s.lane m) (sym e) begins;
}

-- the action at an index, by whatever shows that it is one
pub action_at : (entries : List Entry) (m n : ℕ) → m ≡ n → (w : m < length entries) (i : n < length entries) (a : Action)
    → a ≡ (there entries n i).0.event.action → a ≡ (at AllNeeds entries m w).event.action
action_at entries m n e w i a h =
    h ∙ subst (λ k. (j : k < length entries) → (there entries n i).0.event.action ≡ (at AllNeeds entries k j).event.action) (sym e)
    (λ j. ap (λ (v : Entry). v.event.action) (same_at entries n i j)) w
