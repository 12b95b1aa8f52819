-- The pass that finds what a step needs immediately.
use Rattle.std.proofs.Common.{◌≡◌, ◌⊎◌, inl, inr, ⊎_elim, ◌≢◌, ◌<◌, ◌≤◌, ◌+◌, ℕ, zero, suc, List, [], ◌∷◌, ◌++◌, Bool, true, false, ◌||◌, cond, length, take, drop, get_or, is_some, Option, Some, None, refl, sym, ap, ◌∙◌, subst, arith, append_assoc, length-append}
use Rattle.std.specs.List.{AllByRecursion}
use Rattle.std.specs.Option.{option_map}
use Rattle.std.proofs.lemmas.Bool.{or_cases, or_left, or_right, false≢true, false_from_ne_true, both_ways, cases_eq}
use Rattle.std.proofs.lemmas.List.{get_or-take, length-take-le, take-take}
use Rattle.std.proofs.lemmas.List.Folds.{list_any-append}
use Rattle.tb_model.specs.declared.event.Event.{Event}
use Rattle.tb_model.specs.Facts.{History, prepend_if}
use Rattle.tb_model.specs.Causes.{Placed, some_needs}
use Rattle.tb_model.specs.Closure.{Needs, directly, by_way}
use Rattle.tb_model.specs.Needs.{needs, step_of}
use Rattle.tb_model.proofs.LeastLemmas.{complete}
use Rattle.tb_steps.specs.Entries.{Entry}
use Rattle.tb_steps.specs.Scans.{history_of}
use Rattle.tb_steps.proofs.ScanLemmas.{count_front, history_cut, history_more}
use Rattle.tb_races.specs.Immediate.{as_cause, cause, needs_by_way}
use Rattle.tb_races.specs.Kinds.{need_kind}
use Rattle.tb_races.proofs.ImmediateLemmas.{by_test}
use Rattle.tb_races.proofs.KindLemmas.{kind_some}
use Rattle.tb_cause.specs.Nearest.{nearest, IsFound, AreFound}
use Rattle.tb_cause.proofs.ConeLemmas.{one_entry}
use Rattle.tb_steps.proofs.FirstLemmas.{there}

-- ---- the links of a chain of needs

-- F needs an event, which directly needs the newest one of u ∷ K
record Last (F : History) (u : Event) (K : History) : Type 0 where
  who : Event
  front : History
  between : History
  split : front ≡ between ++ u ∷ K
  reached : Needs F (who ∷ front)
  direct : needs front who u ≡ true

abbrev LastTo : History → History → Type 0
LastTo F [] = ⊥
LastTo F (u ∷ K) = Last F u K

last : {G H : History} → Needs G H → (F : History) → Needs F G → LastTo F H
last (directly v u b front h) F n = record { who = v; front = b ++ u ∷ front; between = b; split = refl; reached = n; direct = h }
last (by_way n m) F r = last m F (by_way r n)

-- the newest event of F directly needs an event, which isn't older than the newest one of H
record First (v : Event) (F : History) (n : ℕ) : Type 0 where
  who : Event
  front : History
  between : History
  split : F ≡ between ++ who ∷ front
  young : n ≤ length front
  direct : needs F v who ≡ true

abbrev FirstOf : History → ℕ → Type 0
FirstOf [] n = ⊥
FirstOf (v ∷ F) n = First v F n

older : {F G : History} → Needs F G → length G < length F
older (directly v u b front h) = omega (arith, length-append b (u ∷ front))
older (by_way n m) = omega (arith, older n, older m)

younger : (F : History) (m n : ℕ) → n ≤ m → FirstOf F m → FirstOf F n
younger [] m n l f = f
younger (v ∷ F) m n l f = record { who = f.who; front = f.front; between = f.between; split = f.split; young = omega (arith, l, f.young); direct = f.direct }

first : {F G : History} → Needs F G → (n : ℕ) → suc n ≤ length G → FirstOf F n
first (directly v u b front h) n l = record { who = u; front = front; between = b; split = refl; young = omega (arith, l); direct = h }
first (by_way f g) n l = first f n (omega (arith, l, older g))

-- ---- events by their indexes

-- the event is at an index among the first n stored steps, after this history
record At (entries : List Entry) (n : ℕ) (who : Event) (front : History) : Type 0 where
  place : ℕ
  entry : Entry
  lower : place < n
  here : entry ≡ get_or entries place entry
  event : entry.event ≡ who
  its_front : history_of (take place entries) ≡ front

list_head : {A : Type 0} (x y : A) (xs ys : List A) → x ∷ xs ≡ y ∷ ys → x ≡ y
list_head x y xs ys e = cc

list_tail : {A : Type 0} (x y : A) (xs ys : List A) → x ∷ xs ≡ y ∷ ys → xs ≡ ys
list_tail x y xs ys e = cc

nothing_there : {A : Type 0} (b : List A) (x : A) (xs : List A) → [] ≡ b ++ x ∷ xs → ⊥
nothing_there [] x xs e = cc
nothing_there (y ∷ b) x xs e = cc

at_place : (entries : List Entry) (n : ℕ) → n ≤ length entries → (b : History) (who : Event) (front : History) → history_of (take n entries) ≡ b ++ who ∷ front → At entries n who front
at_place entries zero i b who front e = absurd (nothing_there b who front e)
at_place entries (suc n) i b who front e = cases b (sym more ∙ e) (at_place entries n (omega (arith, i)))
  where
    w : (x : Entry) × (x ≡ get_or entries n x)
    w = there entries n (omega (arith, i))

    more : history_of (take (suc n) entries) ≡ w.0.event ∷ history_of (take n entries)
    more = let e : suc n ≡ n + 1 = omega arith in ap (λ m. history_of (take m entries)) e ∙ history_more entries n w.0 (omega (arith, i)) w.1

    cases : (b : History) → w.0.event ∷ history_of (take n entries) ≡ b ++ who ∷ front → ((b : History) (who : Event) (front : History) → history_of (take n entries) ≡ b ++ who ∷ front → At entries n who front)
        → At entries (suc n) who front
    cases [] h lower = record {
      place = n;
      entry = w.0;
      lower = omega arith;
      here = w.1;
      event = list_head w.0.event who (history_of (take n entries)) front h;
      its_front = list_tail w.0.event who (history_of (take n entries)) front h;
    }
    cases (c ∷ b) h lower =
        let a = lower b who front (list_tail w.0.event c (history_of (take n entries)) (b ++ who ∷ front) h) in
        record { place = a.place; entry = a.entry; lower = omega (arith, a.lower); here = a.here; event = a.event; its_front = a.its_front }

-- one stored step is at an index
pub at_one : (entries : List Entry) (p : ℕ) (x w : Entry) → p < length entries → x ≡ get_or entries p x → w ≡ get_or entries p w → x ≡ w
at_one entries p x w within first second = first ∙ one_entry entries p x w within first second

-- the first n stored steps, cut at one of them
pub cut_at : (entries : List Entry) (n p : ℕ) (w : Entry) → p < n → n ≤ length entries → w ≡ get_or entries p w
    → history_of (take n entries) ≡ history_of (drop (suc p) (take n entries)) ++ w.event ∷ history_of (take p entries)
cut_at entries n p w lower i here =
    history_cut (take n entries) p w (omega (arith, lower, length-take-le n entries i)) (here ∙ sym (get_or-take n entries p w lower))
    ∙ ap (λ (es : List Entry). history_of (drop (suc p) (take n entries)) ++ w.event ∷ history_of es) (take-take p n entries (omega (arith, lower)))

-- a direct need of one of them
linked_at : (entries : List Entry) (n p : ℕ) (w : Entry) (v : Event) → p < n → n ≤ length entries → w ≡ get_or entries p w → needs (history_of (take n entries)) v w.event ≡ true
    → Needs (v ∷ history_of (take n entries)) (w.event ∷ history_of (take p entries))
linked_at entries n p w v lower i here h =
    let D = history_of (drop (suc p) (take n entries)) in
    let K = history_of (take p entries) in
    let cut = cut_at entries n p w lower i here in
    subst (λ X. Needs (v ∷ X) (w.event ∷ K)) (sym cut) (directly v w.event D K (subst (λ X. needs X v w.event ≡ true) cut h))

-- ---- what is found

-- one of those that are found, of which u is needed
record Some_of (P : Placed → Type 0) (u : Event) : Type 0 where
  who : Placed
  holds : P who
  direct : needs who.front who.event u ≡ true

some_of : (P : Placed → Type 0) (S : List Placed) (u : Event) → AllByRecursion P S → some_needs S u ≡ true → Some_of P u
some_of P [] u all h = absurd (false≢true h)
some_of P (r ∷ S) u all h = ⊎_elim (λ a. record { who = r; holds = all.0; direct = a }) (λ a. some_of P S u all.1 a) (or_cases (needs r.front r.event u) (some_needs S u) h)

all_put : {A : Type 0} (P Q : A → Type 0) (f : (x : A) → P x → Q x) (xs : List A) (x : A) → AllByRecursion P xs → Q x → AllByRecursion Q (xs ++ x ∷ [])
all_put P Q f [] x h q = (q, tt)
all_put P Q f (y ∷ ys) x h q = (f y h.0, all_put P Q f ys x h.1 q)

all_on : {A : Type 0} (P Q : A → Type 0) (f : (x : A) → P x → Q x) (xs : List A) → AllByRecursion P xs → AllByRecursion Q xs
all_on P Q f [] h = tt
all_on P Q f (y ∷ ys) h = (f y h.0, all_on P Q f ys h.1)

module _ (entries : List Entry) (at : ℕ) (within : at < length entries) (v : Event) where
  abbrev F : History
  F = history_of (take at entries)

  abbrev front_at : ℕ → History
  front_at p = history_of (take p entries)

  lowered : (left p : ℕ) → p ≤ left → (r : Placed) → IsFound entries at v left r → IsFound entries at v p r
  lowered left p l r i = record { place = i.place; after = omega (arith, l, i.after); before = i.before; its_front = i.its_front; needed = i.needed }

  -- what one of those found directly needs, v needs
  needed_by : (left p : ℕ) (w : Entry) (r : Placed) → p < left → w ≡ get_or entries p w → IsFound entries at v left r → needs r.front r.event w.event ≡ true → Needs (r.event ∷ r.front) (w.event ∷ front_at p)
  needed_by left p w r lower here i h =
      subst (λ X. Needs (r.event ∷ X) (w.event ∷ front_at p)) (sym i.its_front)
      (linked_at entries i.place p w r.event (omega (arith, lower, i.after)) (omega (arith, i.before, within)) here (subst (λ X. needs X r.event w.event ≡ true) i.its_front h))

  -- where nothing is found yet, nothing from there on is directly needed
  pub found_none : (top : ℕ) → ((q : ℕ) (x : Entry) → q < at → top ≤ q → x ≡ get_or entries q x → needs F v x.event ≡ false) → AreFound entries at v top []
  found_none top none = record {
    sound = tt;
    complete = λ q x after before here n u h. absurd (contrary q x after before (first n q (omega (arith, count_front entries q (omega (arith, before, within))))));
  }
    where
      contrary : (q : ℕ) (x : Entry) → top ≤ q → q < at → First v F q → ⊥
      contrary q x after before f =
          let a = at_place entries at (omega (arith, within)) f.between f.who f.front f.split in
          let young : q ≤ a.place = omega (arith, f.young, ap length a.its_front, count_front entries a.place (omega (arith, a.lower, within))) in
          both_ways (needs F v f.who) (ap (needs F v) (sym a.event) ∙ none a.place a.entry a.lower (omega (arith, after, young)) a.here) f.direct

  module _ (left p : ℕ) (next : left ≡ p + 1) (low : p < at) (w : Entry) (here : w ≡ get_or entries p w) (S : List Placed) (found : AreFound entries at v left S) where
    abbrev K : History
    K = front_at p

    cut : F ≡ history_of (drop (suc p) (take at entries)) ++ w.event ∷ K
    cut = cut_at entries at p w low (omega (arith, within)) here

    -- some of those found needs the stored step, where anything does that v needs
    some_last : Last (v ∷ F) w.event K → some_needs S w.event ≡ true
    some_last l =
        let t = complete l.reached in
        let a = at_place entries at (omega (arith, within)) t.0 l.who l.front (sym t.1) in
        let after : left ≤ a.place =
        omega (arith, next, ap length a.its_front, count_front entries a.place (omega (arith, a.lower, within)), ap length l.split, length-append l.between (w.event ∷ K), count_front entries p (omega (arith, low, within))) in
        found.complete a.place a.entry after a.lower a.here
        (subst (λ X. Needs (v ∷ F) (a.entry.event ∷ X)) (sym a.its_front) (subst (λ e. Needs (v ∷ F) (e ∷ l.front)) (sym a.event) l.reached))
        w.event
        (subst (λ X. needs X a.entry.event w.event ≡ true) (sym a.its_front) (subst (λ e. needs l.front e w.event ≡ true) (sym a.event) l.direct))

    -- what v needs, it needs directly or by way of one that is found
    needed_so : Needs (v ∷ F) (w.event ∷ K) → needs F v w.event ≡ false → some_needs S w.event ≡ false → ⊥
    needed_so n d s = split n refl refl
      where
        split : {X Y : History} → Needs X Y → X ≡ v ∷ F → Y ≡ w.event ∷ K → ⊥
        split (directly x u b front h) e f =
            both_ways (needs F v w.event) d
            (subst (λ y. needs F v y ≡ true) (list_head u w.event front K f)
            (subst (λ y. needs F y u ≡ true) (list_head x v (b ++ u ∷ front) F e)
            (subst (λ Z. needs Z x u ≡ true) (list_tail x v (b ++ u ∷ front) F e) h)))
        split (by_way {F = X} {G = G} {H = Y} f g) e h =
            both_ways (some_needs S w.event) s (some_last (subst (LastTo (v ∷ F)) h (last g (v ∷ F) (subst (λ Z. Needs Z G) e f))))

    pub needed_here : (needs F v w.event ≡ true) ⊎ (some_needs S w.event ≡ true) → Needs (v ∷ F) (w.event ∷ K)
    needed_here (inl d) = linked_at entries at p w v low (omega (arith, within)) here d
    needed_here (inr s) =
        let o = some_of (IsFound entries at v left) S w.event found.sound s in
        by_way o.holds.needed (needed_by left p w o.who (omega (arith, next)) here o.holds o.direct)

    -- the stored step is needed
    pub found_more : (needs F v w.event ≡ true) ⊎ (some_needs S w.event ≡ true) → (T : List Placed) → T ≡ S ++ record { event = w.event; front = K } ∷ [] → AreFound entries at v p T
    found_more is T more = subst (AreFound entries at v p) (sym more) (record {
      sound = all_put (IsFound entries at v left) (IsFound entries at v p) (lowered left p (omega (arith, next))) S r found.sound (record { place = p; after = omega arith; before = low; its_front = refl; needed = needed_here is });
      complete = λ q x after before there n u h.
          list_any-append (λ (s : Placed). needs s.front s.event u) S (r ∷ []) ∙ by q x after before there n u h;
    })
      where
        r : Placed
        r = record { event = w.event; front = K }

        by : (q : ℕ) (x : Entry) → p ≤ q → q < at → x ≡ get_or entries q x → Needs (v ∷ F) (x.event ∷ front_at q) → (u : Event) → needs (front_at q) x.event u ≡ true → (some_needs S u || some_needs (r ∷ []) u) ≡ true
        by q x after before there n u h = at_it (cases_eq q p)
          where
            at_it : (q ≡ p) ⊎ (q ≢ p) → (some_needs S u || some_needs (r ∷ []) u) ≡ true
            at_it (inl e) = or_right (some_needs S u) _ (or_left (needs K w.event u) false (subst (λ y. needs K y u ≡ true) (ap (λ (y : Entry). y.event) (same_entry e)) (subst (λ m. needs (front_at m) x.event u ≡ true) e h)))
              where
                same_entry : q ≡ p → x ≡ w
                same_entry e = at_one entries p x w (omega (arith, low, within)) (subst (λ m. x ≡ get_or entries m x) e there) here
            at_it (inr d) = or_left (some_needs S u) _ (found.complete q x (omega (arith, next, after, d)) before there n u h)

    -- or it isn't
    pub found_on : needs F v w.event ≡ false → some_needs S w.event ≡ false → AreFound entries at v p S
    found_on d s = record {
      sound = all_on (IsFound entries at v left) (IsFound entries at v p) (lowered left p (omega (arith, next))) S found.sound;
      complete = λ q x after before there n u h. by q x after before there n u h;
    }
      where
        by : (q : ℕ) (x : Entry) → p ≤ q → q < at → x ≡ get_or entries q x → Needs (v ∷ F) (x.event ∷ front_at q) → (u : Event) → needs (front_at q) x.event u ≡ true → some_needs S u ≡ true
        by q x after before there n u h = at_it (cases_eq q p)
          where
            at_it : (q ≡ p) ⊎ (q ≢ p) → some_needs S u ≡ true
            at_it (inl e) =
                absurd
                (needed_so
                (subst (λ y. Needs (v ∷ F) (y ∷ K)) (ap (λ (y : Entry). y.event) (at_one entries p x w (omega (arith, low, within)) (subst (λ m. x ≡ get_or entries m x) e there) here))
                (subst (λ m. Needs (v ∷ F) (x.event ∷ front_at m)) e n))
                d s)
            at_it (inr d) = found.complete q x (omega (arith, next, after, d)) before there n u h

    -- ---- whether the stored step is needed immediately

    pub is_near : needs F v w.event ≡ true → some_needs S w.event ≡ false → is_some (cause F v K w.event) ≡ true
    is_near d s =
        let D = history_of (drop (suc p) (take at entries)) in
        subst (λ X. is_some (cause X v K w.event) ≡ true) (sym cut)
        ((by_test w.event K v D).1
        (record {
          needs = directly v w.event D K (subst (λ X. needs X v w.event ≡ true) cut d);
          nothing_between = λ G n m.
              both_ways (some_needs S w.event) s (some_last (subst (λ X. Last (v ∷ X) w.event K) (sym cut) (last m (v ∷ (D ++ w.event ∷ K)) n)));
        }))

  -- ---- what isn't

  module _ (p : ℕ) (low : p < at) (w : Entry) (here : w ≡ get_or entries p w) where
    some_kind : {A B : Type 0} (f : A → B) (b : Bool) (o : Option A) → is_some (cond b None (option_map f o)) ≡ true → is_some o ≡ true
    some_kind f true o h = absurd (false≢true h)
    some_kind f false (Some x) h = refl
    some_kind f false None h = h

    pub no_need : needs F v w.event ≡ false → is_some (cause F v (front_at p) w.event) ≡ false
    no_need d =
        false_from_ne_true (is_some (cause F v (front_at p) w.event))
        (λ h. both_ways (needs F v w.event) d (sym (kind_some F v w.event) ∙ some_kind (as_cause (step_of (front_at p) w.event)) (needs_by_way (step_of (front_at p) w.event) F v) (need_kind F v w.event) h))

    pub by_others : (left : ℕ) (S : List Placed) → p < left → AllByRecursion (IsFound entries at v left) S → some_needs S w.event ≡ true → is_some (cause F v (front_at p) w.event) ≡ false
    by_others left S lower sound s =
        let D = history_of (drop (suc p) (take at entries)) in
        let cut = cut_at entries at p w low (omega (arith, within)) here in
        let o = some_of (IsFound entries at v left) S w.event sound s in
        false_from_ne_true (is_some (cause F v (front_at p) w.event))
        (λ h.
        ((by_test w.event (front_at p) v D).0 (subst (λ X. is_some (cause X v (front_at p) w.event) ≡ true) cut h)).nothing_between (o.who.event ∷ o.who.front)
        (subst (λ X. Needs (v ∷ X) (o.who.event ∷ o.who.front)) cut o.holds.needed)
        (needed_by left p w o.who lower here o.holds o.direct))

  -- ---- those that are needed immediately

  abbrev near : History → List ℕ
  near K = nearest F v K

  near_more : (left p : ℕ) → left ≡ p + 1 → p < at → (w : Entry) → w ≡ get_or entries p w → near (front_at left) ≡ prepend_if (is_some (cause F v (front_at p) w.event)) p (near (front_at p))
  near_more left p next low w here =
      ap (λ n. near (front_at n)) next ∙ ap near (history_more entries p w (omega (arith, low, within)) here)
      ∙ ap (λ n. prepend_if (is_some (cause F v (front_at p) w.event)) n (near (front_at p))) (count_front entries p (omega (arith, low, within)))

  -- one more, or none
  pub near_put : (left p : ℕ) → left ≡ p + 1 → p < at → (w : Entry) → w ≡ get_or entries p w → (b : Bool) → is_some (cause F v (front_at p) w.event) ≡ b → (places places' : List ℕ)
      → places ++ near (front_at left) ≡ near F → places' ≡ places ++ cond b (p ∷ []) [] → places' ++ near (front_at p) ≡ near F
  near_put left p next low w here b is places places' so_far more =
      ap (λ ps. ps ++ near (front_at p)) more ∙ append_assoc places (cond b (p ∷ []) []) (near (front_at p))
      ∙ ap (λ ps. places ++ ps) (put b ∙ sym (near_more left p next low w here ∙ ap (λ c. prepend_if c p (near (front_at p))) is)) ∙ so_far
    where
      put : (c : Bool) → cond c (p ∷ []) [] ++ near (front_at p) ≡ prepend_if c p (near (front_at p))
      put true = refl
      put false = refl

  -- none of the first n
  pub near_none : (n : ℕ) → n ≤ at → ((p : ℕ) (w : Entry) → p < n → w ≡ get_or entries p w → is_some (cause F v (front_at p) w.event) ≡ false) → near (front_at n) ≡ []
  near_none zero l none = refl
  near_none (suc n) l none =
      let w = there entries n (omega (arith, l, within)) in
      near_more (suc n) n (omega arith) (omega (arith, l)) w.0 w.1 ∙ ap (λ b. prepend_if b n (near (front_at n))) (none n w.0 (omega arith) w.1)
      ∙ near_none n (omega (arith, l)) (λ p x i h. none p x (omega (arith, i)) h)

  -- none from the first n on
  pub near_past : (n m : ℕ) → m + n ≤ at → ((p : ℕ) (w : Entry) → n ≤ p → p < m + n → w ≡ get_or entries p w → is_some (cause F v (front_at p) w.event) ≡ false) → near (front_at n) ≡ near (front_at (m + n))
  near_past n zero l none = let e : n ≡ 0 + n = omega arith in ap (λ m. near (front_at m)) e
  near_past n (suc m) l none =
      let w = there entries (m + n) (omega (arith, l, within)) in
      near_past n m (omega (arith, l)) (λ p x a i h. none p x a (omega (arith, i)) h)
      ∙ sym (near_more (suc m + n) (m + n) (omega arith) (omega (arith, l)) w.0 w.1 ∙ ap (λ b. prepend_if b (m + n) (near (front_at (m + n)))) (none (m + n) w.0 (omega arith) (omega arith) w.1))
