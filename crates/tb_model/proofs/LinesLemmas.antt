-- The lines that a history retains are those at which the program's tasks are; registers by the
-- last `let` or `load`.
use Rattle.std.proofs.Common.{◌≡◌, ◌≢◌, ◌<◌, ℕ, zero, suc, List, [], ◌∷◌, ◌++◌, length, Bool, true, false, cond, not, refl, sym, ap, ap₂, ◌∙◌, ℤ, arith, replicate, set, get_or, ◌==◌, eq-eqb, eqb-true, Some, subst}
use Rattle.std.specs.List.{list_any}
use Rattle.std.proofs.lemmas.Bool.{both_ways, or_parts}
use Rattle.std.proofs.lemmas.List.{length-take-le, length-set, length-append, length-replicate, get_or-take, get_or-set_same, get_or-set_other}
use Rattle.tb_model.specs.declared.action.Action.{Action}
use Rattle.tb_model.specs.declared.action.Action.TheVariants.{Let, Load, Test}
use Rattle.tb_model.specs.declared.event.Event.{Event}
use Rattle.tb_model.specs.declared.step_id.StepId.{StepId}
use Rattle.tb_model.specs.Names.{Name}
use Rattle.tb_model.specs.Facts.{History, is_of, own, prepend_if, spawns}
use Rattle.tb_model.specs.State.{called_by, spawn_of}
use Rattle.tb_model.specs.Records.{register}
use Rattle.tb_model.specs.Needs.{needs, is_step, removed, is_removed, without, step_of}
use Rattle.tb_model.specs.Program.{Program, Config, moved, instr_at, config, called, situation, LegalFor}
use Rattle.tb_model.specs.Lines.{Departure, events_of, line_of, without_lines, LinesFit}
use Rattle.tb_model.proofs.TestLemmas.{same_true, none_weaker}
use Rattle.tb_model.proofs.PartsLemmas.{own_same}
use Rattle.tb_model.proofs.RemovalLemmas.{needs_own, needs_spawn, in_parts}
use Rattle.tb_model.proofs.RecordsLemmas.{spawn_same}
use Rattle.tb_model.proofs.FactsLemmas.{own_mine, own_other, acted_spawned}
use Rattle.tb_model.proofs.FactsLemmas.{not_again}
use Rattle.tb_model.specs.Reordering.{IsUnneeded}
use Rattle.tb_model.proofs.UndoLemmas.{AreFree, single}

-- ---- registers

sixteen : (P : Program) (line : ℕ) (args : List ℤ) (acts : List Action) → length (config P line args acts).regs ≡ 16
sixteen P line args [] = length-take-le 16 (args ++ replicate 16 (ℤ.pos 0)) (omega (arith, length-append args (replicate 16 (ℤ.pos 0)), length-replicate 16 (ℤ.pos 0)))
sixteen P line args (a ∷ acts) = at a ∙ sixteen P line args acts
  where
    c : Config
    c = config P line args acts

    at : (a : Action) → length (moved (instr_at P c.line) c a).regs ≡ length c.regs
    at (Let r x) = length-set c.regs r x
    at (Load r d x) = length-set c.regs r x
    at (Test true) = refl
    at (Test false) = refl
    at _ = refl

-- an argument, else 0
padded : (args : List ℤ) (r : ℕ) → r < 16 → get_or (args ++ replicate 16 (ℤ.pos 0)) r (ℤ.pos 0) ≡ get_or args r (ℤ.pos 0)
padded args r b = at args r
  where
    zeros : (n r : ℕ) → get_or (replicate n (ℤ.pos 0)) r (ℤ.pos 0) ≡ ℤ.pos 0
    zeros zero r = refl
    zeros (suc n) zero = refl
    zeros (suc n) (suc r) = zeros n r

    at : (args : List ℤ) (r : ℕ) → get_or (args ++ replicate 16 (ℤ.pos 0)) r (ℤ.pos 0) ≡ get_or args r (ℤ.pos 0)
    at [] r = zeros 16 r
    at (x ∷ args) zero = refl
    at (x ∷ args) (suc r) = at args r

-- one more action
register_more : (P : Program) (line : ℕ) (args : List ℤ) (acts : List Action) (r : ℕ) → r < 16 → get_or (config P line args acts).regs r (ℤ.pos 0) ≡ register r args acts → (a : Action) → get_or (config P line args (a ∷ acts)).regs r (ℤ.pos 0) ≡ register r args (a ∷ acts)
register_more P line args acts r b rest a = at a
  where
    c : Config
    c = config P line args acts

    written : (k : ℕ) (x : ℤ) → (t : Bool) → (r == k) ≡ t → get_or (set c.regs k x) r (ℤ.pos 0) ≡ cond t x (register r args acts)
    written k x true q =
        let e : r ≡ k = eqb-true r k q in
        ap (λ i. get_or (set c.regs k x) i (ℤ.pos 0)) e ∙ get_or-set_same c.regs k x (ℤ.pos 0) (omega (arith, e, b, sixteen P line args acts))
    written k x false q = get_or-set_other c.regs k r x (ℤ.pos 0) (λ e. both_ways (r == k) q (eq-eqb r k e)) ∙ rest

    at : (a : Action) → get_or (moved (instr_at P c.line) c a).regs r (ℤ.pos 0) ≡ register r args (a ∷ acts)
    at (Let k x) = written k x (r == k) refl
    at (Load k d x) = written k x (r == k) refl
    at (Test true) = rest
    at (Test false) = rest
    at _ = rest

-- a register as the program has it is the last value given to it
pub registers : (P : Program) (line : ℕ) (args : List ℤ) (acts : List Action) (r : ℕ) → r < 16 → get_or (config P line args acts).regs r (ℤ.pos 0) ≡ register r args acts
registers P line args [] r b = get_or-take 16 (args ++ replicate 16 (ℤ.pos 0)) r (ℤ.pos 0) b ∙ padded args r b
registers P line args (a ∷ acts) r b = register_more P line args acts r b (registers P line args acts r b) a

-- ---- lines

line_unbegun : (body : ℕ) (t : Name) (D : List Departure) → own t (events_of D) ≡ [] → line_of body t D ≡ body
line_unbegun body t [] e = refl
line_unbegun body t (d ∷ D) e = at (is_of t d.event) refl (line_unbegun body t D)
  where
    at : (b : Bool) → is_of t d.event ≡ b → (own t (events_of D) ≡ [] → line_of body t D ≡ body) → cond b d.to (line_of body t D) ≡ body
    at true o rest = absurd (cons (sym (own_mine t d.event (events_of D) o) ∙ e))
      where
        cons : d.event.action ∷ own t (events_of D) ≡ [] → ⊥
        cons e = cc
    at false o rest = rest (sym (own_other t d.event (events_of D) o) ∙ e)

pub situation_other : (P : Program) (t : Name) (v : Event) (H : History) → is_of t v ≡ false → spawns t v ≡ false → situation P t (v ∷ H) ≡ situation P t H
situation_other P t v H o s =
    ap₂ (λ acts k. config P k.line k.args acts) (own_other t v H o) (ap (λ b. called_by P.root_line (cond b (Some v.action) (spawn_of t H))) s)

line_begun : (P : Program) (body : ℕ) (t : Name) (D : List Departure) → LinesFit P D → LegalFor P (events_of D) → own t (events_of D) ≢ [] → line_of body t D ≡ (situation P t (events_of D)).line
line_begun P body t [] f l n = absurd (n refl)
line_begun P body t (d ∷ D) f l n = at (is_of t d.event) refl (line_begun P body t D f.0 (l.0.0, l.1.0))
  where
    H : History
    H = events_of D

    at : (b : Bool) → is_of t d.event ≡ b → (own t (events_of D) ≢ [] → line_of body t D ≡ (situation P t (events_of D)).line) → cond b d.to (line_of body t D) ≡ (situation P t (d.event ∷ events_of D)).line
    at true o rest = f.1 ∙ ap (λ u. (situation P u (d.event ∷ events_of D)).line) (same_true d.event.task t o)
    at false o rest =
        let m : own t (events_of D) ≢ [] = λ e. n (own_other t d.event (events_of D) o ∙ e) in
        let s = not_again P.cells (events_of D) l.0.0 d.event l.0.1 t (acted_spawned P.cells (events_of D) t l.0.0 m) in
        rest m ∙ ap (λ c. c.line) (sym (situation_other P t d.event (events_of D) o s))

-- the line that the history retains for a task is the line at which it is
pub line_kept : (P : Program) (D : List Departure) (t : Name) → LinesFit P D → LegalFor P (events_of D) → line_of (called P t (events_of D)).line t D ≡ (situation P t (events_of D)).line
line_kept P D t f l = at (own t (events_of D)) refl
  where
    at : (acts : List Action) → own t (events_of D) ≡ acts → line_of (called P t (events_of D)).line t D ≡ (situation P t (events_of D)).line
    at [] e =
        line_unbegun (called P t (events_of D)).line t D e
        ∙ sym (ap (λ acts. (config P (called P t (events_of D)).line (called P t (events_of D)).args acts).line) e)
    at (a ∷ acts) e = line_begun P (called P t (events_of D)).line t D f l (λ z. cons (sym e ∙ z))
      where
        cons : a ∷ acts ≡ [] → ⊥
        cons e = cc

-- ---- what is left retains its lines

-- the events that are left are those left without lines
pub events_left : (e : StepId) (D : List Departure) → events_of (without_lines e D) ≡ without e (events_of D)
events_left e [] = refl
events_left e (d ∷ D) = at (is_removed e (events_of D) d.event) (events_left e D)
  where
    at : (b : Bool) → events_of (without_lines e D) ≡ without e (events_of D) → events_of (prepend_if (not b) d (without_lines e D)) ≡ prepend_if (not b) d.event (without e (events_of D))
    at true r = r
    at false r = ap (λ H. d.event ∷ H) r

situation_stays : (P : Program) (e : StepId) (v : Event) (H : History) → is_removed e H v ≡ false → situation P v.task (v ∷ without e H) ≡ situation P v.task (v ∷ H)
situation_stays P e v H g =
    let none = (or_parts (is_step e H v) (list_any (needs H v) (removed e H)) g).1 in
    let o = own_same v.task (in_parts e H) (none_weaker (is_of v.task) (needs H v) (needs_own H v.task v.action) (removed e H) none) in
    let s = spawn_same v.task (in_parts e H) (none_weaker (spawns v.task) (needs H v) (needs_spawn H v.task v.action) (removed e H) none) in
    ap₂ (λ acts o. config P (called_by P.root_line (cond (spawns v.task v) (Some v.action) o)).line (called_by P.root_line (cond (spawns v.task v) (Some v.action) o)).args (prepend_if (is_of v.task v) v.action acts)) o s

-- an event that stays leaves its task at the same line
pub lines_left : (P : Program) (e : StepId) (D : List Departure) → LinesFit P D → LinesFit P (without_lines e D)
lines_left P e [] f = tt
lines_left P e (d ∷ D) f = at (is_removed e (events_of D) d.event) refl (lines_left P e D f.0)
  where
    at : (b : Bool) → is_removed e (events_of D) d.event ≡ b → LinesFit P (without_lines e D) → LinesFit P (prepend_if (not b) d (without_lines e D))
    at true g r = r
    at false g r = (
      r,
      f.1 ∙ ap (λ c. c.line) (sym (situation_stays P e d.event (events_of D) g)) ∙ ap (λ H. (situation P d.event.task (d.event ∷ H)).line) (sym (events_left e D)),
    )

-- ---- a step that nothing needs is its task's last, so the lines are the same with it at the end

line_moved : (body : ℕ) (t : Name) (d : Departure) (front later : List Departure) → AreFree d.event (events_of front) (events_of later) → line_of body t (later ++ d ∷ front) ≡ line_of body t (d ∷ (later ++ front))
line_moved body t d front [] f = refl
line_moved body t d front (w ∷ later) f =
    ap (cond (is_of t w.event) w.to) (line_moved body t d front later f.0)
    ∙ at (is_of t w.event) (is_of t d.event) refl refl
  where
    other : is_of w.event.task d.event ≡ false
    other = (or_parts (is_of w.event.task d.event) _ f.1).0

    at : (p q : Bool) → is_of t w.event ≡ p → is_of t d.event ≡ q → cond p w.to (cond q d.to (line_of body t (later ++ front))) ≡ cond q d.to (cond p w.to (line_of body t (later ++ front)))
    at true true x y =
        absurd (both_ways (is_of w.event.task d.event) other (subst (λ u. is_of u d.event ≡ true) (sym (same_true w.event.task t x)) y))
    at true false x y = refl
    at false q x y = refl

pub line_again : (body : ℕ) (t : Name) (later front : List Departure) (d : Departure) → IsUnneeded (step_of (events_of front) d.event) (events_of later ++ d.event ∷ events_of front) → line_of body t (later ++ d ∷ front) ≡ line_of body t (d ∷ (later ++ front))
line_again body t later front d h =
    line_moved body t d front later (single d.event (events_of front) (events_of later) h).free
