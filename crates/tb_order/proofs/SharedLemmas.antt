-- What is shared, one step more.
use Rattle.std.proofs.Common.{◌≡◌, ◌≢◌, ◌<◌, ◌+◌, ℕ, List, [], ◌∷◌, ◌++◌, Bool, true, false, cond, length, take, get_or, is_some, refl, sym, ap, ◌∙◌, subst, arith, Option, Some, None, ◌⊎◌, inl, inr, ⊎_elim, eq-eqb, ne_eqb, not, ◌&&◌, ◌||◌}
use Rattle.std.specs.Option.{option_or, option_map}
use Rattle.std.proofs.lemmas.Bool.{and_from, both_ways, cases_eq, false≢true}
use Rattle.tb_model.specs.declared.event.Event.{Event}
use Rattle.tb_model.specs.Facts.{History, is_of, is_end, spawns}
use Rattle.tb_steps.specs.Entries.{Entry}
use Rattle.tb_steps.specs.Scans.{history_of}
use Rattle.tb_races.specs.declared.conflict.Conflict.{Conflict}
use Rattle.tb_races.specs.declared.need_kind.NeedKind.TheVariants.{Task, Spawn, Conflict as Conflicts}
use Rattle.tb_races.specs.Kinds.{shared, end_kind}
use Rattle.tb_races.specs.Orders.{AllNeeds, counts_some, links}
use Rattle.tb_lanes.specs.Clocks.{links_at, reaches}
use Rattle.tb_lanes.specs.Kept.{in_so, is_in, is_in_at, is_load, loads_at, loads_so, shares_at, slot_of}
use Rattle.tb_lanes.specs.Needing.{IsBelow}
use Rattle.tb_order.specs.Needed.{Shares}
use Rattle.tb_lanes.proofs.AfterLemmas.{at, at_read, links_is, linked_on, reaches_so}
use Rattle.tb_lanes.proofs.FrontLemmas.{entry_read}
use Rattle.tb_lanes.proofs.KeptLemmas.{shares_by_number}
use Rattle.tb_lanes.proofs.LinkLemmas.{shares_is}
use Rattle.tb_lanes.proofs.NeedingLemmas.{below_last, below_more, each_more}
use Rattle.tb_lanes.proofs.SharingLemmas.{in_no_slot, in_slot}

-- where all needs count, what shares something is linked
pub link_shared : (H : History) (v u : Event) → is_some (shared v.action u.action) ≡ true → links AllNeeds H v u ≡ true
link_shared H v u h = by (is_of v.task u) (spawns v.task u) (shared v.action u.action) h
  where
    by : (a b : Bool) (s : Option Conflict) → is_some s ≡ true
        → counts_some AllNeeds (cond a (Some Task) (cond b (Some Spawn) (option_or (option_map Conflicts s) (cond (is_end u.action) (end_kind H v.task v.action u.task) None)))) ≡ true
    by true b s h = refl
    by false true s h = refl
    by false false (Some c) h = refl
    by false false None h = absurd (false≢true h)

pub link_shared_at : (entries : List Entry) (p x : ℕ) → x < p → p < length entries → shares_at entries p x ≡ true → links_at AllNeeds entries p x ≡ true
link_shared_at entries p x l w h =
    let i : x < length entries = omega (arith, l, w) in
    links_is AllNeeds entries p x w i
    ∙ link_shared (history_of (take p entries)) (at AllNeeds entries p w).event (at AllNeeds entries x i).event (sym (shares_is AllNeeds entries p x w i) ∙ h)

pub reaches_shared : (entries : List Entry) (p x : ℕ) → x < p → p < length entries → shares_at entries p x ≡ true → reaches AllNeeds entries p x ≡ true
reaches_shared entries p x l w h = reaches_so AllNeeds entries p x (inr (linked_on AllNeeds entries p x x l w (link_shared_at entries p x l w h) (inl refl)))

module _ (entries : List Entry) (n : ℕ) (w : n < length entries) (x : Entry) (here : x ≡ get_or entries n x) where
  in_is : (j : ℕ) → is_in_at entries j n ≡ is_in j x.event.action
  in_is j = ap (in_so j) (entry_read entries n x w here)

  load_is : loads_at entries n ≡ is_load x.event.action
  load_is = ap loads_so (entry_read entries n x w here)

  same_step : at AllNeeds entries n w ≡ x
  same_step = the (at AllNeeds entries n w) x (sym (at_read AllNeeds entries n w) ∙ entry_read entries n x w here)
    where
      the : (a b : Entry) → ◌≡◌ {A = Option Entry} (Some a) (Some b) → a ≡ b
      the a b e = cc

  -- the step at n has no part in it
  pub shares_other : (i : ℕ) (writes loads : List ℕ) → is_in_at entries i n ≡ false → Shares entries n i writes loads → Shares entries (n + 1) i writes loads
  shares_other i writes loads none is = record {
    writes_in = λ j l. let h = is.writes_in j l in (omega (arith, h.0), h.1, h.2);
    loads_in = λ j l. let h = is.loads_in j l in (omega (arith, h.0), h.1);
    by_writes = λ y l h s. is.by_writes y (below y l h) h s;
    by_loads = λ y l h s. is.by_loads y (below y l h) h s;
    new_writes = λ j y l m k h. is.new_writes j y l m (below y k h) h;
    new_loads = λ j y l m k h. is.new_loads j y l m (below y k h) h;
  }
    where
      below : (y : ℕ) → y < n + 1 → is_in_at entries i y ≡ true → y < n
      below y l h = ⊎_elim (λ e. absurd (both_ways (is_in_at entries i n) none (ap (is_in_at entries i) (sym e) ∙ h))) (λ d. omega (arith, l, d)) (cases_eq y n)

  pub shares_none : slot_of x.event.action ≡ None → (i : ℕ) (writes loads : List ℕ) → Shares entries n i writes loads → Shares entries (n + 1) i writes loads
  shares_none none i writes loads is = shares_other i writes loads (in_is i ∙ in_no_slot x.event.action i none) is

  module _ (i : ℕ) (slot : slot_of x.event.action ≡ Some i) where
    here_in : is_in_at entries i n ≡ true
    here_in = in_is i ∙ in_slot x.event.action i i slot ∙ eq-eqb i i refl

    shares : (y : ℕ) → y < n → shares_at entries n y ≡ (is_in_at entries i y && (not (loads_at entries n) || not (loads_at entries y)))
    shares = shares_by_number AllNeeds entries n w i (ap (λ (e : Entry). slot_of e.event.action) same_step ∙ slot)

    pub shares_rest : (writes loads new_writes new_loads : ℕ → List ℕ) → ((j : ℕ) → Shares entries n j (writes j) (loads j))
        → Shares entries (n + 1) i (new_writes i) (new_loads i)
        → ((j : ℕ) → j ≢ i → new_writes j ≡ writes j) → ((j : ℕ) → j ≢ i → new_loads j ≡ loads j) → (j : ℕ) → Shares entries (n + 1) j (new_writes j) (new_loads j)
    shares_rest writes loads new_writes new_loads are at_i same_writes same_loads j = by (cases_eq j i)
      where
        by : (j ≡ i) ⊎ (j ≢ i) → Shares entries (n + 1) j (new_writes j) (new_loads j)
        by (inl e) = subst (λ k. Shares entries (n + 1) k (new_writes k) (new_loads k)) (sym e) at_i
        by (inr d) =
            subst (λ xs. Shares entries (n + 1) j xs (new_loads j)) (sym (same_writes j d))
            (subst (λ ys. Shares entries (n + 1) j (writes j) ys) (sym (same_loads j d)) (shares_other j (writes j) (loads j) (in_is j ∙ in_slot x.event.action i j slot ∙ ne_eqb j i d) (are j)))

    -- a load comes next to the others
    pub load_shares : is_load x.event.action ≡ true → (writes loads : List ℕ) → Shares entries n i writes loads
        → Shares entries (n + 1) i writes (loads ++ n ∷ [])
    load_shares h writes loads is = record {
      writes_in = λ j l. let g = is.writes_in j l in (omega (arith, g.0), g.1, g.2);
      loads_in = each_more loads (loads ++ n ∷ []) n refl (λ y. (y < n + 1) × (is_in_at entries i y ≡ true)) (λ j l. let g = is.loads_in j l in (omega (arith, g.0), g.1)) (omega arith, here_in);
      by_writes = λ y l g s. ⊎_elim (λ e. absurd (both_ways (loads_at entries n) (ap (loads_at entries) (sym e) ∙ s) (load_is ∙ h))) (λ d. is.by_writes y (omega (arith, l, d)) g s) (cases_eq y n);
      by_loads = λ y l g s.
          ⊎_elim (λ e. inr (below_last AllNeeds entries loads (loads ++ n ∷ []) n refl y (reaches_so AllNeeds entries n y (inl (sym e)))))
          (λ d. ⊎_elim (λ b. inl b) (λ b. inr (below_more AllNeeds entries loads (loads ++ n ∷ []) n refl y b)) (is.by_loads y (omega (arith, l, d)) g s)) (cases_eq y n);
      new_writes = λ j y l m k g. on (λ d. is.new_writes j y l m d g) (cases_eq y n) k;
      new_loads = λ j y l m k g.
          on (λ d. each_more loads (loads ++ n ∷ []) n refl (λ z. z < y → loads_at entries y ≡ true) (λ i a b. is.new_loads i y a b d g) (λ b. absurd (omega (arith, b, d))) j l m) (cases_eq y n) k;
    }
      where
        on : {y : ℕ} → (y < n → loads_at entries y ≡ true) → (y ≡ n) ⊎ (y ≢ n) → y < n + 1 → loads_at entries y ≡ true
        on f (inl e) k = ap (loads_at entries) e ∙ load_is ∙ h
        on f (inr d) k = f (omega (arith, k, d))

    -- a store or a print comes after them
    pub write_shares : is_load x.event.action ≡ false → (writes loads : List ℕ) → Shares entries n i writes loads → Shares entries (n + 1) i (n ∷ []) []
    write_shares h writes loads is = record {
      writes_in = each_more [] (n ∷ []) n refl (λ y. (y < n + 1) × (is_in_at entries i y ≡ true) × (loads_at entries y ≡ false)) (λ j l. absurd (omega (arith, l))) (omega arith, here_in, load_is ∙ h);
      loads_in = λ j l. absurd (omega (arith, l));
      by_writes = λ y l g s. below y l g;
      by_loads = λ y l g s. inl (below y l g);
      new_writes = λ j y l m k g. each_more [] (n ∷ []) n refl (λ z. z < y → loads_at entries y ≡ true) (λ i a. absurd (omega (arith, a))) (λ b. absurd (omega (arith, b, k))) j l m;
      new_loads = λ j y l. absurd (omega (arith, l));
    }
      where
        open_side : (b : Bool) → (not (loads_at entries n) || b) ≡ true
        open_side b = ap (λ c. not c || b) (load_is ∙ h)

        below : (y : ℕ) → y < n + 1 → is_in_at entries i y ≡ true → IsBelow AllNeeds entries (n ∷ []) y
        below y l g =
            below_last AllNeeds entries [] (n ∷ []) n refl y
            (⊎_elim (λ e. reaches_so AllNeeds entries n y (inl (sym e)))
            (λ d. let m : y < n = omega (arith, l, d) in reaches_shared entries n y m w (shares y m ∙ and_from (is_in_at entries i y) _ g (open_side (not (loads_at entries y)))))
            (cases_eq y n))
