-- Programs, and what a task does next by its own body alone.
use Rattle.std.specs.Prelude.{◌≡◌, ℕ, suc, List, [], ◌∷◌, ◌++◌, Bool, true, false, not, nat_lt, ℤ, length, Option, Some, None, slice_set, slice_index_or, take, replicate, map, ⊤, if◌then◌else◌, int_lt, int_le}
use Rattle.std.specs.Int.{int_wrapping_add, int_wrapping_sub, int_wrapping_mul, w64}
use Rattle.std.specs.Ordering.{int_eq}
use Rattle.tb_model.specs.declared.kind.Kind.{Kind}
use Rattle.tb_model.specs.declared.place.Place.{Place}
use Rattle.tb_model.specs.declared.place.Place.TheVariants.{Cell, All}
use Rattle.tb_model.specs.declared.item.Item.{Item}
use Rattle.tb_model.specs.declared.action.Action.{Action}
use Rattle.tb_model.specs.declared.action.Action.TheVariants.{Start, Let, Load, Store, Print, Spawn, Wait, Open, Close, Test, End, Fault}
use Rattle.tb_model.specs.declared.event.Event.{Event}
use Rattle.tb_model.specs.declared.operand.Operand.{Operand}
use Rattle.tb_model.specs.declared.operand.Operand.TheVariants.{Number, Register}
use Rattle.tb_model.specs.declared.operator.Operator.{Operator}
use Rattle.tb_model.specs.declared.operator.Operator.TheVariants.{Plus, Minus, Times}
use Rattle.tb_model.specs.declared.comparison.Comparison.{Comparison}
use Rattle.tb_model.specs.declared.comparison.Comparison.TheVariants.{Equal, Unequal, Less, AtMost}
use Rattle.tb_model.specs.declared.condition.Condition.{Condition}
use Rattle.tb_model.specs.declared.address.Address.{Address}
use Rattle.tb_model.specs.declared.address.Address.TheVariants.{Cell as At, All as Everywhere}
use Rattle.tb_model.specs.declared.clause.Clause.{Clause}
use Rattle.tb_model.specs.declared.statement.Statement.{Statement}
use Rattle.tb_model.specs.declared.statement.Statement.TheVariants.{Start as DoStart, Let as DoLet, Compute as DoCompute, Load as DoLoad, Store as DoStore, Print as DoPrint, Task as DoSpawn, Taskwait as DoWait, Taskgroup as DoOpen, EndTaskgroup as DoClose, Test as DoTest, End as DoEnd}
use Rattle.tb_model.specs.Names.{Name, child}
use Rattle.tb_model.specs.Facts.{History, own}
use Rattle.tb_model.specs.State.{Called, called_by, spawn_of}
use Rattle.tb_model.specs.Legal.{Cells, spawn_count, MayFollow, Legal}

-- a statement, with the lines that follow; a test that says no goes on at `otherwise`
pub record Instr : Type 0 where
  pub statement : Statement
  pub next : ℕ
  pub otherwise : ℕ

-- a body, by its name and the line that names it
pub record Body : Type 0 where
  pub name : List ℕ
  pub line : ℕ

-- the cells with their first values, the bodies, the statement at each line (index 0 is no line),
-- and the line of the root's body
pub record Program : Type 0 where
  pub cells : Cells
  pub bodies : List Body
  pub lines : List Instr
  pub root_line : ℕ

-- a task's own situation: the line of its next statement, and its registers
pub record Config : Type 0 where
  pub line : ℕ
  pub regs : List ℤ

-- the value 0
abbrev pub zero_ℤ : ℤ
zero_ℤ = ℤ.pos 0

-- the value that an operand means
abbrev pub value : List ℤ → Operand → ℤ
value regs (Number x) = x
value regs (Register r) = slice_index_or regs r zero_ℤ

-- arithmetic wraps in 64-bit two's complement
abbrev pub computed : Operator → ℤ → ℤ → ℤ
computed Plus x y = int_wrapping_add w64 x y
computed Minus x y = int_wrapping_sub w64 x y
computed Times x y = int_wrapping_mul w64 x y

-- comparisons are of signed numbers
abbrev pub compared : Comparison → ℤ → ℤ → Bool
compared Equal x y = int_eq x y
compared Unequal x y = not (int_eq x y)
compared Less x y = int_lt x y
compared AtMost x y = int_le x y

-- the test of an `if`, a `while` or an `if` clause
abbrev pub is_met : List ℤ → Condition → Bool
is_met regs c = compared c.comparison (value regs c.left) (value regs c.right)

-- a task without an `if` clause is deferred, as one whose test is met
abbrev pub is_deferred : List ℤ → Option Condition → Bool
is_deferred regs None = true
is_deferred regs (Some c) = is_met regs c

-- a cell's value, where the address is one
abbrev pub cell_at : Cells → ℤ → Option ℕ
cell_at cells (ℤ.pos n) = if nat_lt n (length cells) then Some n else None
cell_at cells (ℤ.negsuc n) = None

-- a bad address is a fault
abbrev pub or_fault : Option ℕ → (ℕ → Action) → Action
or_fault None f = Fault
or_fault (Some c) f = f c

-- the cell as a storage location
abbrev pub as_cell : Option ℕ → Option Place
as_cell None = None
as_cell (Some c) = Some (Cell c)

-- the storage location of an address; all memory is no address, and never bad
abbrev pub place_at : Cells → List ℤ → Address → Option Place
place_at cells regs (At a) = as_cell (cell_at cells (value regs a))
place_at cells regs Everywhere = Some All

-- one more item, where its address is good
abbrev pub and_item : Option Place → Kind → Option (List Item) → Option (List Item)
and_item (Some p) k (Some items) = Some (record { kind = k; place = p } ∷ items)
and_item (Some p) k None = None
and_item None k items = None

-- the items of depend clauses, where all their addresses are good
abbrev pub items_at : Cells → List ℤ → List Clause → Option (List Item)
items_at cells regs [] = Some []
items_at cells regs (i ∷ is) = and_item (place_at cells regs i.address) i.kind (items_at cells regs is)

-- one bad address is a fault
abbrev pub items_or_fault : Option (List Item) → (List Item → Action) → Action
items_or_fault None f = Fault
items_or_fault (Some items) f = f items

-- the action of a statement of t, where t's next child has the ordinal n and a load reads x
abbrev pub action_of : Cells → Name → ℕ → List ℤ → ℤ → Statement → Action
action_of cells t n regs x DoStart = Start
action_of cells t n regs x (DoLet r a) = Let r (value regs a)
action_of cells t n regs x (DoCompute r a o b) = Let r (computed o (value regs a) (value regs b))
action_of cells t n regs x (DoLoad r a) = or_fault (cell_at cells (value regs a)) (λ c. Load r c x)
action_of cells t n regs x (DoStore a b) = or_fault (cell_at cells (value regs a)) (λ c. Store c (value regs b))
action_of cells t n regs x (DoPrint a) = Print (value regs a)
action_of cells t n regs x (DoSpawn line args items c) = items_or_fault (items_at cells regs items) (λ is. Spawn (record { child = child t n; body = line; args = map (value regs) args; items = is; deferred = is_deferred regs c }))
action_of cells t n regs x (DoWait items) = items_or_fault (items_at cells regs items) Wait
action_of cells t n regs x DoOpen = Open
action_of cells t n regs x DoClose = Close
action_of cells t n regs x (DoTest c) = Test (is_met regs c)
action_of cells t n regs x DoEnd = End

-- the situation after an action that was executed at this instruction
abbrev pub moved : Instr → Config → Action → Config
moved i c (Let r x) = record { line = i.next; regs = slice_set c.regs r x }
moved i c (Load r d x) = record { line = i.next; regs = slice_set c.regs r x }
moved i c (Test true) = record { line = i.next; regs = c.regs }
moved i c (Test false) = record { line = i.otherwise; regs = c.regs }
moved i c End = c
moved i c Fault = c
moved i c _ = record { line = i.next; regs = c.regs }

-- what is at a line that the program doesn't have
abbrev pub no_instr : Instr
no_instr = record { statement = DoEnd; next = 0; otherwise = 0 }

-- the instruction of a line
abbrev pub instr_at : Program → ℕ → Instr
instr_at P line = slice_index_or P.lines line no_instr

-- where a task with this body and these arguments is after its actions
abbrev pub config : Program → ℕ → List ℤ → List Action → Config
config P line args [] = record { line = line; regs = take 16 (args ++ replicate 16 zero_ℤ) }
config P line args (a ∷ acts) =
    let c = config P line args acts in
    moved (instr_at P c.line) c a

-- the body and the arguments of t
abbrev pub called : Program → Name → History → Called
called P t H = called_by P.root_line (spawn_of t H)

-- where t is
abbrev pub situation : Program → Name → History → Config
situation P t H = config P (called P t H).line (called P t H).args (own t H)

-- the action that t would take after H, where a load reads x
abbrev pub planned : Program → History → Name → ℤ → Action
planned P H t x =
    let c = situation P t H in
    action_of P.cells t (suc (spawn_count (own t H))) c.regs x (instr_at P c.line).statement

-- the value that a load reads
abbrev pub loaded : Action → ℤ
loaded (Load r c x) = x
loaded _ = zero_ℤ

-- the event is what its task's body gives, whatever value a load reads
abbrev pub Follows : Program → History → Event → Type 0
Follows P H v = v.action ≡ planned P H v.task (loaded v.action)

-- each task's events are a beginning of a run of its body
abbrev pub AllFollow : Program → History → Type 0
AllFollow P [] = ⊤
AllFollow P (v ∷ H) = AllFollow P H × Follows P H v

-- legal, and each event what the program gives
abbrev pub LegalFor : Program → History → Type 0
LegalFor P H = Legal P.cells H × AllFollow P H

-- v is the next event of its task: at most one is
pub record IsNext (P : Program) (H : History) (v : Event) : Type 0 where
  pub may : MayFollow P.cells H v
  pub follows : Follows P H v
