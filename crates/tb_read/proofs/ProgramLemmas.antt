-- The instructions of a program.
use Rattle.std.proofs.Common.{◌≡◌, ◌≢◌, ℕ, ◌+◌, ◌<◌, List, [], ◌∷◌, ◌++◌, map, slice_get, slice_index_or, length, Some, None, Option, Bor, IsSome, IfSome, IfNone, arith, refl, ap, sym, ◌∙◌, true, false, suc, cond, subst, slice_index}
use Rattle.tb_model.specs.Program.{no_instr, Instr as Instruction}
use Rattle.tb_plan.specs.Plans.{instruction}
use Rattle.tb_plan.specs.Statements.{is_test}
use Rattle.tb_plan.specs.declared.instr.Instr.{Instr}
use Rattle.tb_read.specs.Flow.{Line}
use Rattle.tb_read.specs.Meaning.{IsInstrAt, IsInstrOf}
use Rattle.tb_read.specs.Flow.Line.{Passed, Stands}
use Rattle.tb_read.specs.Flow.{Arrives, LeadsTo, levels_behind, turn_of}
use Rattle.tb_read.specs.Followed.{is_last}
use Rattle.tb_read.specs.Ways.{AreWaysOf}
use Rattle.tb_read.specs.declared.ways.Ways.{Ways}
use Rattle.tb_model.specs.declared.statement.Statement.{Statement}
use Rattle.tb_model.specs.declared.statement.Statement.TheVariants.{Start, Let, Compute, Load, Store, Print, Task, Taskwait, Taskgroup, EndTaskgroup, Test, End}
use Rattle.tb_read.specs.Shown.{shown_instr, IsPlaced, ArePlaced}
use Rattle.tb_read.proofs.ListLemmas.{get_map, get_or_push, get_push, get_or_of_get}

module _ (lines : List (Option Instr)) (shown : List Instruction) (same : map shown_instr lines ≡ shown) (at cells : ℕ) (placed : ArePlaced cells lines) where
  -- a line that has an instruction shows it
  shows : (i : Instr) → slice_get lines at ≡ Some (Some i) → instruction i ≡ slice_index_or shown at no_instr
  shows i e = sym (get_or_of_get (map shown_instr lines) at no_instr (instruction i) (get_map shown_instr lines at (Some i) e)) ∙ ap (λ s. slice_index_or s at no_instr) same

  pub instr_position : (o : Option (Bor Instr)) → IfNone o (slice_index_or (map shown_instr lines) at no_instr ≡ no_instr) → IfSome o (λ i. slice_get lines at ≡ Some (Some i.now)) →
      (IsSome o → slice_index_or shown at no_instr ≢ no_instr) × (slice_index_or shown at no_instr ≢ no_instr → IsSome o)
  instr_position None none some =
      let empty : slice_index_or shown at no_instr ≡ no_instr = ap (λ s. slice_index_or s at no_instr) (sym same) ∙ none in
      (λ h. absurd (let f : false ≡ true = h in cc), λ other. absurd (other empty))
  instr_position (Some i) none some =
      (λ h none. (placed at (Some i.now) some).2 (shows i.now some ∙ none), λ h. refl)

  pub instr_shown : (o : Option (Bor Instr)) → IfSome o (λ i. slice_get lines at ≡ Some (Some i.now)) → IfSome o (λ i. instruction i.now ≡ slice_index_or shown at no_instr)
  instr_shown None some = some
  instr_shown (Some i) some = shows i.now some

  pub instr_line : (o : Option (Bor Instr)) → IfSome o (λ i. slice_get lines at ≡ Some (Some i.now)) → IfSome o (λ i. i.now.line ≡ at)
  instr_line None some = some
  instr_line (Some i) some = (placed at (Some i.now) some).0

  pub instr_cells : (o : Option (Bor Instr)) → IfSome o (λ i. slice_get lines at ≡ Some (Some i.now)) → IfSome o (λ i. i.now.cells ≡ cells)
  instr_cells None some = some
  instr_cells (Some i) some = (placed at (Some i.now) some).1

-- one instruction more
pub instrs_push : (lines : List Line) (instrs more : List (Option Instr)) (slot : Option Instr) (at : ℕ) → length instrs ≡ at → more ≡ instrs ++ slot ∷ [] →
    ((n : ℕ) → n < at → IsInstrAt lines n (slice_index_or (map shown_instr instrs) n no_instr)) → IsInstrAt lines at (shown_instr slot) →
    (n : ℕ) → n < at + 1 → IsInstrAt lines n (slice_index_or (map shown_instr more) n no_instr)
instrs_push lines instrs more slot at count pushed before last n within =
    rw pushed (get_or_push shown_instr no_instr instrs slot (IsInstrAt lines) (λ k below. before k (omega arith)) (rw count last) n (omega arith))

pub placed_push : (cells : ℕ) (instrs more : List (Option Instr)) (slot : Option Instr) (at : ℕ) → length instrs ≡ at → more ≡ instrs ++ slot ∷ [] →
    ArePlaced cells instrs → IsPlaced cells at slot → ArePlaced cells more
placed_push cells instrs more slot at count pushed before last = rw pushed (get_push instrs slot (IsPlaced cells) before (rw count last))

-- ---- the instruction of one line

pub instr_at_line : (lines : List Line) (n : ℕ) (i : Instruction) (line : Line) → slice_get lines n ≡ Some line → IsInstrOf lines n i line → IsInstrAt lines n i
instr_at_line lines n i line here is = subst (IsInstrOf lines n i) (sym (get_or_of_get lines n Passed line here)) is

-- the lines that follow a statement
leads : (lines : List Line) (n next otherwise on off : ℕ) (s : Statement) → Arrives lines (suc n) on → Arrives lines (suc (turn_of n (levels_behind lines n))) off →
    next ≡ cond (is_last s) (suc n) on → otherwise ≡ cond (is_test s) off next → LeadsTo lines n next otherwise s
leads lines n next otherwise on off Start arrives turns e f = (subst (Arrives lines (suc n)) (sym e) arrives, f)
leads lines n next otherwise on off (Let r a) arrives turns e f = (subst (Arrives lines (suc n)) (sym e) arrives, f)
leads lines n next otherwise on off (Compute r a o b) arrives turns e f = (subst (Arrives lines (suc n)) (sym e) arrives, f)
leads lines n next otherwise on off (Load r a) arrives turns e f = (subst (Arrives lines (suc n)) (sym e) arrives, f)
leads lines n next otherwise on off (Store a b) arrives turns e f = (subst (Arrives lines (suc n)) (sym e) arrives, f)
leads lines n next otherwise on off (Print a) arrives turns e f = (subst (Arrives lines (suc n)) (sym e) arrives, f)
leads lines n next otherwise on off (Task body args items c) arrives turns e f = (subst (Arrives lines (suc n)) (sym e) arrives, f)
leads lines n next otherwise on off (Taskwait items) arrives turns e f = (subst (Arrives lines (suc n)) (sym e) arrives, f)
leads lines n next otherwise on off Taskgroup arrives turns e f = (subst (Arrives lines (suc n)) (sym e) arrives, f)
leads lines n next otherwise on off EndTaskgroup arrives turns e f = (subst (Arrives lines (suc n)) (sym e) arrives, f)
leads lines n next otherwise on off (Test c) arrives turns e f = (subst (Arrives lines (suc n)) (sym e) arrives, subst (Arrives lines (suc (turn_of n (levels_behind lines n)))) (sym f) turns)
leads lines n next otherwise on off End arrives turns e f = (e, f ∙ e)

-- the end of a body has a line after it, and no other statement is one
some_instr : (n next otherwise on : ℕ) (s : Statement) → next ≡ cond (is_last s) (suc n) on → record { statement = s; next = next; otherwise = otherwise } ≢ no_instr
some_instr n next otherwise on End e same = absurd (let q : next ≡ 0 = ap (λ (i : Instruction). i.next) same in omega (arith, e, q))
some_instr n next otherwise on Start e same = absurd (let q : Start ≡ End = ap (λ (i : Instruction). i.statement) same in cc)
some_instr n next otherwise on (Let r a) e same = absurd (let q : Let r a ≡ End = ap (λ (i : Instruction). i.statement) same in cc)
some_instr n next otherwise on (Compute r a o b) e same = absurd (let q : Compute r a o b ≡ End = ap (λ (i : Instruction). i.statement) same in cc)
some_instr n next otherwise on (Load r a) e same = absurd (let q : Load r a ≡ End = ap (λ (i : Instruction). i.statement) same in cc)
some_instr n next otherwise on (Store a b) e same = absurd (let q : Store a b ≡ End = ap (λ (i : Instruction). i.statement) same in cc)
some_instr n next otherwise on (Print a) e same = absurd (let q : Print a ≡ End = ap (λ (i : Instruction). i.statement) same in cc)
some_instr n next otherwise on (Task body args items c) e same = absurd (let q : Task body args items c ≡ End = ap (λ (i : Instruction). i.statement) same in cc)
some_instr n next otherwise on (Taskwait items) e same = absurd (let q : Taskwait items ≡ End = ap (λ (i : Instruction). i.statement) same in cc)
some_instr n next otherwise on Taskgroup e same = absurd (let q : Taskgroup ≡ End = ap (λ (i : Instruction). i.statement) same in cc)
some_instr n next otherwise on EndTaskgroup e same = absurd (let q : EndTaskgroup ≡ End = ap (λ (i : Instruction). i.statement) same in cc)
some_instr n next otherwise on (Test c) e same = absurd (let q : Test c ≡ End = ap (λ (i : Instruction). i.statement) same in cc)

-- a line at which a task can be, and its ways
module _ (lines : List Line) (ways : Ways) (are : AreWaysOf lines ways) (n next otherwise : ℕ) (s : Statement) (within : n < length lines) (here : slice_get lines n ≡ Some (Stands s))
    (e : next ≡ cond (is_last s) (suc n) (slice_index ways.arrivals.items (suc n))) (f : otherwise ≡ cond (is_test s) (slice_index ways.arrivals.items (suc (slice_index ways.turns.items n))) next) where
  pub standing_instr : IsInstrAt lines n (record { statement = s; next = next; otherwise = otherwise })
  standing_instr =
      let turn = slice_index ways.turns.items n in
      let turns = subst (λ k. Arrives lines (suc k) (slice_index ways.arrivals.items (suc turn))) (are.turns n within) (are.arrives (suc turn) (are.turns_within n within)) in
      instr_at_line lines n _ (Stands s) here (refl, leads lines n next otherwise _ _ s (are.arrives (suc n) within) turns e f)

  pub standing_other : record { statement = s; next = next; otherwise = otherwise } ≢ no_instr
  standing_other = some_instr n next otherwise _ s e
