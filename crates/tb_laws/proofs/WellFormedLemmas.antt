-- What a well-formed program's tasks would do fits their own actions; so a run has no dead end.
use Rattle.std.proofs.Common.{◌≡◌, ◌<◌, ℕ, suc, List, [], ◌∷◌, Bool, true, false, not, cond, ◌⊎◌, inl, inr, ⊎_elim, refl, sym, ap, ◌∙◌, subst, ℤ, Option, Some, None, length, map, drop, arith, nat_lt, ltb-true}
use Rattle.std.specs.List.{list_any, AllByRecursion}
use Rattle.std.proofs.lemmas.Bool.{or_parts, and_from, both_ways, false≢true, false_from_ne_true}
use Rattle.std.proofs.lemmas.List.{length-map}
use Rattle.tb_model.specs.declared.place.Place.{Place}
use Rattle.tb_model.specs.declared.item.Item.{Item}
use Rattle.tb_model.specs.declared.action.Action.{Action}
use Rattle.tb_model.specs.declared.action.Action.TheVariants.{Start, Load, Store, Spawn, Wait, Test}
use Rattle.tb_model.specs.declared.event.Event.{Event}
use Rattle.tb_model.specs.Names.{Name, child}
use Rattle.tb_model.specs.Facts.{History, own, prepend_if, is_of, is_end, spawns, is_spawn_of, ends, groups, last, HasEnded, IsSpawned}
use Rattle.tb_model.specs.State.{spawn_of, called_by}
use Rattle.tb_model.specs.Legal.{Cells, first_number, IsPlace, IsRunning, spawn_count, Continues}
use Rattle.tb_model.specs.declared.statement.Statement.{Statement}
use Rattle.tb_model.specs.declared.clause.Clause.{Clause}
use Rattle.tb_model.specs.declared.address.Address.{Address}
use Rattle.tb_model.specs.declared.statement.Statement.TheVariants.{Start as DoStart, Let as DoLet, Compute as DoCompute, Load as DoLoad, Store as DoStore, Print as DoPrint, Task as DoSpawn, Taskwait as DoWait, Taskgroup as DoOpen, EndTaskgroup as DoClose, Test as DoTest, End as DoEnd}
use Rattle.tb_model.specs.declared.address.Address.TheVariants.{Cell as At, All as Everywhere}
use Rattle.tb_model.specs.Program.{Program, Instr, Config, value, cell_at, or_fault, as_cell, place_at, and_item, items_at, items_or_fault, is_met, action_of, moved, instr_at, config, called, planned, loaded, Follows, AllFollow, LegalFor, IsNext}
use Rattle.tb_model.specs.WellFormed.{is_begin, Begins, Inside, WellAt, WellFormed}
use Rattle.tb_model.proofs.TestLemmas.{same_true}
use Rattle.tb_model.proofs.FactsLemmas.{acted_spawned, begun}
use Rattle.tb_model.proofs.NeedsLemmas.{may_spawned}
use Rattle.tb_model.proofs.DeadEndLemmas.{no_dead_end}
use Rattle.tb_model.proofs.FactsLemmas.{not_again}

-- ---- addresses

abbrev CellFits : Cells → Option ℕ → Type 0
CellFits cells None = Unit {0}
CellFits cells (Some c) = c < length cells

cell_fits : (cells : Cells) (z : ℤ) → CellFits cells (cell_at cells z)
cell_fits cells (ℤ.negsuc n) = tt
cell_fits cells (ℤ.pos n) = at (nat_lt n (length cells)) refl
  where
    at : (b : Bool) → nat_lt n (length cells) ≡ b → CellFits cells (cond b (Some n) None)
    at true q = ltb-true n (length cells) q
    at false q = tt

abbrev PlaceFits : Cells → Option Place → Type 0
PlaceFits cells None = Unit {0}
PlaceFits cells (Some p) = IsPlace cells p

place_fits : (cells : Cells) (regs : List ℤ) (a : Address) → PlaceFits cells (place_at cells regs a)
place_fits cells regs Everywhere = tt
place_fits cells regs (At a) = at (cell_at cells (value regs a)) (cell_fits cells (value regs a))
  where
    at : (o : Option ℕ) → CellFits cells o → PlaceFits cells (as_cell o)
    at None h = tt
    at (Some c) h = h

abbrev ItemsFit : Cells → Option (List Item) → Type 0
ItemsFit cells None = Unit {0}
ItemsFit cells (Some items) = AllByRecursion (λ (i : Item). IsPlace cells i.place) items

items_fit : (cells : Cells) (regs : List ℤ) (is : List Clause) → ItemsFit cells (items_at cells regs is)
items_fit cells regs [] = tt
items_fit cells regs (i ∷ is) =
    at (place_at cells regs i.address) (place_fits cells regs i.address) (items_at cells regs is) (items_fit cells regs is)
  where
    at : (o : Option Place) → PlaceFits cells o → (q : Option (List Item)) → ItemsFit cells q → ItemsFit cells (and_item o i.kind q)
    at None h q k = tt
    at (Some p) h None k = tt
    at (Some p) h (Some items) k = (h, k)

-- ---- what a task does fits, and leads to a line of the same kind

module _ (P : Program) (depth : ℕ → ℕ) (t : Name) (acts : List Action) (r : IsRunning acts) (regs : List ℤ) (next otherwise : ℕ) where
  fits : (x : ℤ) (s : Statement) → is_begin s ≡ false → WellAt P depth (length (groups acts)) next otherwise s → Continues P.cells t acts (action_of P.cells t (suc (spawn_count acts)) regs x s)
  fits x DoStart n w = absurd (false≢true (sym n))
  fits x (DoLet k a) n w = (r, w.0)
  fits x (DoCompute k a o b) n w = (r, w.0)
  fits x (DoLoad k a) n w = at (cell_at P.cells (value regs a)) (cell_fits P.cells (value regs a))
    where
      at : (o : Option ℕ) → CellFits P.cells o → Continues P.cells t acts (or_fault o (λ c. Load k c x))
      at None h = r
      at (Some c) h = (r, w.0, h)
  fits x (DoStore a b) n w = at (cell_at P.cells (value regs a)) (cell_fits P.cells (value regs a))
    where
      at : (o : Option ℕ) → CellFits P.cells o → Continues P.cells t acts (or_fault o (λ c. Store c (value regs b)))
      at None h = r
      at (Some c) h = (r, h)
  fits x (DoPrint a) n w = r
  fits x (DoSpawn body args items c) n w = at (items_at P.cells regs items) (items_fit P.cells regs items)
    where
      at : (o : Option (List Item)) → ItemsFit P.cells o → Continues P.cells t acts (items_or_fault o (λ is. Spawn (record { child = child t (suc (spawn_count acts)); body = body; args = map (value regs) args; items = is; deferred = Rattle.tb_model.specs.Program.is_deferred regs c })))
      at None h = r
      at (Some is) h = (r, refl, omega (arith, w.1, length-map args (value regs)), h)
  fits x (DoWait items) n w = at (items_at P.cells regs items) (items_fit P.cells regs items)
    where
      at : (o : Option (List Item)) → ItemsFit P.cells o → Continues P.cells t acts (items_or_fault o Wait)
      at None h = r
      at (Some is) h = (r, h)
  fits x DoOpen n w = r
  fits x DoClose n w = (r, λ e. cc (sym w.1 ∙ ap length e))
  fits x (DoTest c) n w = r
  fits x DoEnd n w = r

module _ (P : Program) (depth : ℕ → ℕ) (t : Name) (acts : List Action) (k : ℕ) (i : Instr) (c : Config) where
  abbrev Lands : Action → Type 0
  Lands a = is_end a ≡ false → Inside P depth (length (groups (a ∷ acts))) (moved i c a).line

  lands : (x : ℤ) (s : Statement) → is_begin s ≡ false → WellAt P depth (length (groups acts)) i.next i.otherwise s → Lands (action_of P.cells t k c.regs x s)
  lands x DoStart n w = absurd (false≢true (sym n))
  lands x (DoLet r a) n w = λ e. w.1
  lands x (DoCompute r a o b) n w = λ e. w.1
  lands x (DoLoad r a) n w = at (cell_at P.cells (value c.regs a))
    where
      at : (o : Option ℕ) → Lands (or_fault o (λ d. Load r d x))
      at None = λ e. absurd (false≢true (sym e))
      at (Some d) = λ e. w.1
  lands x (DoStore a b) n w = at (cell_at P.cells (value c.regs a))
    where
      at : (o : Option ℕ) → Lands (or_fault o (λ d. Store d (value c.regs b)))
      at None = λ e. absurd (false≢true (sym e))
      at (Some d) = λ e. w
  lands x (DoPrint a) n w = λ e. w
  lands x (DoSpawn body args items q) n w = at (items_at P.cells c.regs items)
    where
      at : (o : Option (List Item)) → Lands (items_or_fault o (λ is. Spawn (record { child = child t k; body = body; args = map (value c.regs) args; items = is; deferred = Rattle.tb_model.specs.Program.is_deferred c.regs q })))
      at None = λ e. absurd (false≢true (sym e))
      at (Some is) = λ e. subst (λ m. Inside P depth m i.next) (sym (length-map (groups acts) (λ us. child t k ∷ us))) w.2
  lands x (DoWait items) n w = at (items_at P.cells c.regs items)
    where
      at : (o : Option (List Item)) → Lands (items_or_fault o Wait)
      at None = λ e. absurd (false≢true (sym e))
      at (Some is) = λ e. w
  lands x DoOpen n w = λ e. w
  lands x DoClose n w = λ e. at (groups acts) w.1
    where
      at : (gs : List (List Name)) → length gs ≡ suc w.0 → Inside P depth (length (drop 1 gs)) i.next
      at [] q = cc q
      at (us ∷ gs) q = subst (λ m. Inside P depth m i.next) (sym (cc q)) w.2
  lands x (DoTest q) n w = at (is_met c.regs q)
    where
      at : (b : Bool) → Lands (Test b)
      at true = λ e. w.0
      at false = λ e. w.1
  lands x DoEnd n w = λ e. absurd (false≢true (sym e))

-- ---- where each task is

abbrev pub Placed : (P : Program) → (ℕ → ℕ) → List Action → Config → Type 0
Placed P depth [] c = Begins P c.line
Placed P depth (a ∷ acts) c = is_end a ≡ false → Inside P depth (length (groups (a ∷ acts))) c.line

started : (P : Program) (depth : ℕ → ℕ) (t : Name) (k : ℕ) (i : Instr) (c : Config) (x : ℤ) (s : Statement) → is_begin s ≡ true → WellAt P depth (depth c.line) i.next i.otherwise s → Lands P depth t [] k i c (action_of P.cells t k c.regs x s)
started P depth t k i c x DoStart b w = λ e. w
started P depth t k i c x (DoLet r a) b w = absurd (false≢true b)
started P depth t k i c x (DoCompute r a o d) b w = absurd (false≢true b)
started P depth t k i c x (DoLoad r a) b w = absurd (false≢true b)
started P depth t k i c x (DoStore a d) b w = absurd (false≢true b)
started P depth t k i c x (DoPrint a) b w = absurd (false≢true b)
started P depth t k i c x (DoSpawn body args items q) b w = absurd (false≢true b)
started P depth t k i c x (DoWait items) b w = absurd (false≢true b)
started P depth t k i c x DoOpen b w = absurd (false≢true b)
started P depth t k i c x DoClose b w = absurd (false≢true b)
started P depth t k i c x (DoTest q) b w = absurd (false≢true b)
started P depth t k i c x DoEnd b w = absurd (false≢true b)

module _ (P : Program) (w : WellFormed P) where
  -- the action that the situation gives leads on
  placed_on : (t : Name) (acts : List Action) (c : Config) (k : ℕ) (x : ℤ) → Placed P w.depth acts c → (acts ≡ []) ⊎ (IsRunning acts) → Placed P w.depth (action_of P.cells t k c.regs x (instr_at P c.line).statement ∷ acts) (moved (instr_at P c.line) c (action_of P.cells t k c.regs x (instr_at P c.line).statement))
  placed_on t [] c k x p r = started P w.depth t k (instr_at P c.line) c x (instr_at P c.line).statement p (w.lines c.line)
  placed_on t (a ∷ acts) c k x p r =
      let e : is_end a ≡ false = ⊎_elim (λ z. cc z) (λ z. false_from_ne_true (is_end a) (λ y. both_ways (not (is_end a)) (ap not y) z)) r in
      let q = p e in
      lands P w.depth t (a ∷ acts) k (instr_at P c.line) c x (instr_at P c.line).statement q.within
      (subst (λ m. WellAt P w.depth m (instr_at P c.line).next (instr_at P c.line).otherwise (instr_at P c.line).statement) q.groups_open (w.lines c.line))

  -- a body that was spawned begins with its start
  spawned_begins : (depth : ℕ → ℕ) (t : Name) (k groups next otherwise : ℕ) (regs : List ℤ) (x : ℤ) (s : Statement) → WellAt P depth groups next otherwise s → Begins P (called_by P.root_line (Some (action_of P.cells t k regs x s))).line
  spawned_begins depth t k g m o regs x (DoSpawn body args items q) h = at (items_at P.cells regs items)
    where
      at : (o : Option (List Item)) → Begins P (called_by P.root_line (Some (items_or_fault o (λ is. Spawn (record { child = child t k; body = body; args = map (value regs) args; items = is; deferred = Rattle.tb_model.specs.Program.is_deferred regs q }))))).line
      at None = w.root
      at (Some is) = h.0
  spawned_begins depth t k g m o regs x (DoWait items) h = at (items_at P.cells regs items)
    where
      at : (o : Option (List Item)) → Begins P (called_by P.root_line (Some (items_or_fault o Wait))).line
      at None = w.root
      at (Some is) = w.root
  spawned_begins depth t k g m o regs x (DoLoad r a) h = at (cell_at P.cells (value regs a))
    where
      at : (o : Option ℕ) → Begins P (called_by P.root_line (Some (or_fault o (λ c. Load r c x)))).line
      at None = w.root
      at (Some c) = w.root
  spawned_begins depth t k g m o regs x (DoStore a b) h = at (cell_at P.cells (value regs a))
    where
      at : (o : Option ℕ) → Begins P (called_by P.root_line (Some (or_fault o (λ c. Store c (value regs b))))).line
      at None = w.root
      at (Some c) = w.root
  spawned_begins depth t k g m o regs x _ h = w.root

  called_begins : (H : History) (t : Name) → AllFollow P H → Begins P (called P t H).line
  called_begins [] t f = w.root
  called_begins (v ∷ H) t f = at (is_spawn_of t v.action) (called_begins H t f.0)
    where
      mine : Begins P (called_by P.root_line (Some v.action)).line
      mine =
          let k = called P v.task H in
          let c = config P k.line k.args (own v.task H) in
          subst (λ a. Begins P (called_by P.root_line (Some a)).line) (sym f.1)
          (spawned_begins w.depth v.task (suc (spawn_count (own v.task H))) (w.depth c.line) (instr_at P c.line).next (instr_at P c.line).otherwise c.regs (loaded v.action) (instr_at P c.line).statement (w.lines c.line))

      at : (b : Bool) → Begins P (called P t H).line → Begins P (called_by P.root_line (cond b (Some v.action) (spawn_of t H))).line
      at true rest = mine
      at false rest = rest

  abbrev Stands : History → Name → Type 0
  Stands H t = Placed P w.depth (own t H) (config P (called P t H).line (called P t H).args (own t H))

  fresh : (t : Name) (line : ℕ) (args : List ℤ) (acts : List Action) → acts ≡ [] → Begins P line → Placed P w.depth acts (config P line args acts)
  fresh t line args [] e b = b
  fresh t line args (a ∷ acts) e b = cc e

  -- each task is at a line that fits its own actions
  pub stands : (H : History) (t : Name) → LegalFor P H → Stands H t
  stands [] t l = w.root
  stands (v ∷ H) t l = at (is_of t v) refl (stands H t (l.0.0, l.1.0))
    where
      kept : (b : Bool) → is_spawn_of t v.action ≡ b → Stands H t → Placed P w.depth (own t H) (config P (called P t (v ∷ H)).line (called P t (v ∷ H)).args (own t H))
      kept false s rest =
          subst (λ o. Placed P w.depth (own t H) (config P (called_by P.root_line o).line (called_by P.root_line o).args (own t H))) (ap (λ b. cond b (Some v.action) (spawn_of t H)) (sym s)) rest
      kept true s rest = none (own t H) refl
        where
          none : (acts : List Action) → own t H ≡ acts → Placed P w.depth (own t H) (config P (called P t (v ∷ H)).line (called P t (v ∷ H)).args (own t H))
          none [] e = fresh t (called P t (v ∷ H)).line (called P t (v ∷ H)).args (own t H) e (called_begins (v ∷ H) t l.1)
          none (a ∷ acts) e = absurd (both_ways (spawns t v) (not_again P.cells H l.0.0 v l.0.1 t (acted_spawned P.cells H t l.0.0 (λ z. cc (sym e ∙ z)))) s)

      at : (b : Bool) → is_of t v ≡ b → Stands H t → Placed P w.depth (prepend_if b v.action (own t H)) (config P (called P t (v ∷ H)).line (called P t (v ∷ H)).args (prepend_if b v.action (own t H)))
      at false o rest = kept (is_spawn_of t v.action) refl rest
      at true o rest =
          let e = same_true v.task t o in
          let s : spawns t v ≡ false = subst (λ u. spawns u v ≡ false) e (not_again P.cells H l.0.0 v l.0.1 v.task (may_spawned P.cells H v l.0.0 l.0.1)) in
          let f : v.action ≡ planned P H t (loaded v.action) = l.1.1 ∙ ap (λ u. planned P H u (loaded v.action)) e in
          let r : (own t H ≡ []) ⊎ (IsRunning (own t H)) =
          subst (λ u. (own u H ≡ []) ⊎ (IsRunning (own u H))) e
          (⊎_elim (λ z. inl (subst (Continues P.cells v.task (own v.task H)) z l.0.1.own)) (λ z. inr z) (begun P.cells v.task (own v.task H) v.action l.0.1.own)) in
          let k = called P t H in
          let c = config P k.line k.args (own t H) in
          subst (λ q. Placed P w.depth (v.action ∷ own t H) (config P (called_by P.root_line q).line (called_by P.root_line q).args (v.action ∷ own t H))) (ap (λ b. cond b (Some v.action) (spawn_of t H)) (sym s))
          (subst (λ a. Placed P w.depth (a ∷ own t H) (moved (instr_at P c.line) c a)) (sym f)
          (placed_on t (own t H) c (suc (spawn_count (own t H))) (loaded v.action) rest r))

  -- ---- no dead end

  -- the value that a load would read
  abbrev read_by : History → Action → ℤ
  read_by H (Load r c x) = last (first_number P.cells c) c H
  read_by H _ = ℤ.pos 0

  abbrev wants : History → Name → Action
  wants H t = planned P H t (read_by H (planned P H t (ℤ.pos 0)))

  starts_only : (t : Name) (k : ℕ) (regs : List ℤ) (x : ℤ) (s : Statement) → is_begin s ≡ true → action_of P.cells t k regs x s ≡ Start
  starts_only t k regs x DoStart b = refl
  starts_only t k regs x (DoLet r a) b = absurd (false≢true b)
  starts_only t k regs x (DoCompute r a o d) b = absurd (false≢true b)
  starts_only t k regs x (DoLoad r a) b = absurd (false≢true b)
  starts_only t k regs x (DoStore a d) b = absurd (false≢true b)
  starts_only t k regs x (DoPrint a) b = absurd (false≢true b)
  starts_only t k regs x (DoSpawn body args items q) b = absurd (false≢true b)
  starts_only t k regs x (DoWait items) b = absurd (false≢true b)
  starts_only t k regs x DoOpen b = absurd (false≢true b)
  starts_only t k regs x DoClose b = absurd (false≢true b)
  starts_only t k regs x (DoTest q) b = absurd (false≢true b)
  starts_only t k regs x DoEnd b = absurd (false≢true b)

  -- a load that is wanted reads the cell's value, and the value is what the action says
  record Reading (H : History) (f : ℤ → Action) : Type 0 where
    reads : (r c : ℕ) (x : ℤ) → f (read_by H (f (ℤ.pos 0))) ≡ Load r c x → x ≡ last (first_number P.cells c) c H
    says : f (read_by H (f (ℤ.pos 0))) ≡ f (loaded (f (read_by H (f (ℤ.pos 0)))))

  reading : (H : History) (t : Name) (k : ℕ) (regs : List ℤ) (s : Statement) → Reading H (λ x. action_of P.cells t k regs x s)
  reading H t k regs (DoLoad d a) = at (cell_at P.cells (value regs a))
    where
      at : (o : Option ℕ) → Reading H (λ x. or_fault o (λ c. Load d c x))
      at None = record { reads = λ r c x e. cc e; says = refl }
      at (Some n) = record {
        reads =
            λ r c x e.
            let p : n ≡ c = cc e in
            let q : last (first_number P.cells n) n H ≡ x = cc e in
            sym q ∙ ap (λ m. last (first_number P.cells m) m H) p;
        says = refl;
      }
  reading H t k regs (DoStore a b) = at (cell_at P.cells (value regs a))
    where
      at : (o : Option ℕ) → Reading H (λ x. or_fault o (λ c. Store c (value regs b)))
      at None = record { reads = λ r c x e. cc e; says = refl }
      at (Some n) = record { reads = λ r c x e. cc e; says = refl }
  reading H t k regs (DoSpawn body args items q) = at (items_at P.cells regs items)
    where
      at : (o : Option (List Item)) → Reading H (λ x. items_or_fault o (λ is. Spawn (record { child = child t k; body = body; args = map (value regs) args; items = is; deferred = Rattle.tb_model.specs.Program.is_deferred regs q })))
      at None = record { reads = λ r c x e. cc e; says = refl }
      at (Some is) = record { reads = λ r c x e. cc e; says = refl }
  reading H t k regs (DoWait items) = at (items_at P.cells regs items)
    where
      at : (o : Option (List Item)) → Reading H (λ x. items_or_fault o Wait)
      at None = record { reads = λ r c x e. cc e; says = refl }
      at (Some is) = record { reads = λ r c x e. cc e; says = refl }
  reading H t k regs _ = record { reads = λ r c x e. cc e; says = refl }

  module _ (H : History) (l : LegalFor P H) where
    abbrev situation : Name → Config
    situation t = config P (called P t H).line (called P t H).args (own t H)

    read_here : (t : Name) → Reading H (planned P H t)
    read_here t = reading H t (suc (spawn_count (own t H))) (situation t).regs (instr_at P (situation t).line).statement

    -- a task that hasn't ended is pending or under way
    left : (t : Name) (G : History) → list_any (ends t) G ≡ false → (own t G ≡ []) ⊎ (IsRunning (own t G))
    left t [] e = inl refl
    left t (v ∷ G) e = at (is_of t v) refl (left t G (or_parts (ends t v) _ e).1)
      where
        at : (b : Bool) → is_of t v ≡ b → (own t G ≡ []) ⊎ (IsRunning (own t G)) → (prepend_if b v.action (own t G) ≡ []) ⊎ (IsRunning (prepend_if b v.action (own t G)))
        at false o rest = rest
        at true o rest =
            inr (ap not (false_from_ne_true (is_end v.action) (λ z. both_ways (ends t v) (or_parts (ends t v) _ e).0 (and_from (is_of t v) (is_end v.action) o z))))

    pub what_fits : (t : Name) (x : ℤ) → list_any (ends t) H ≡ false → Continues P.cells t (own t H) (planned P H t x)
    what_fits t x e = ⊎_elim pending running (left t H e)
      where
        pending : own t H ≡ [] → Continues P.cells t (own t H) (planned P H t x)
        pending z =
            let b : Begins P (situation t).line = subst (λ acts. Placed P w.depth acts (config P (called P t H).line (called P t H).args acts) → Begins P (config P (called P t H).line (called P t H).args acts).line) (sym z) (λ q. q) (stands H t l) in
            subst (Continues P.cells t (own t H)) (sym (starts_only t (suc (spawn_count (own t H))) (situation t).regs x (instr_at P (situation t).line).statement b)) z

        at : (acts : List Action) (c : Config) → IsRunning acts → Placed P w.depth acts c → Inside P w.depth (length (groups acts)) c.line
        at [] c r p = absurd r
        at (a ∷ acts) c r p = p (false_from_ne_true (is_end a) (λ y. both_ways (not (is_end a)) (ap not y) r))

        running : IsRunning (own t H) → Continues P.cells t (own t H) (planned P H t x)
        running r =
            let q = at (own t H) (situation t) r (stands H t l) in
            let i = instr_at P (situation t).line in
            fits P w.depth t (own t H) r (situation t).regs i.next i.otherwise x i.statement q.within
            (subst (λ m. WellAt P w.depth m i.next i.otherwise i.statement) q.groups_open (w.lines (situation t).line))

    pub no_dead_end_for : ((v : Event) → IsNext P H v → ⊥) → (t : Name) → IsSpawned H t → HasEnded H t
    no_dead_end_for stuck t sp =
        no_dead_end P.cells H l.0 (wants H)
        (record {
          fits = λ u s e. what_fits u (read_by H (planned P H u (ℤ.pos 0))) e;
          reads = λ u r c x e. (read_here u).reads r c x e;
          waits = λ u s e m. stuck (record { task = u; action = wants H u }) (record { may = m; follows = (read_here u).says });
        })
        t sp
