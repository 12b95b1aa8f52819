-- Programs whose groups are nested, whose registers and arguments are in range, and whose bodies begin with a start.
use Rattle.std.specs.Prelude.{◌≡◌, ◌<◌, ◌≤◌, ℕ, suc, Bool, true, false, length, IsTrue, IsFalse, ⊤}
use Rattle.tb_model.specs.declared.statement.Statement.{Statement}
use Rattle.tb_model.specs.declared.statement.Statement.TheVariants.{Start as DoStart, Let as DoLet, Compute as DoCompute, Load as DoLoad, Store as DoStore, Print as DoPrint, Task as DoSpawn, Taskwait as DoWait, Taskgroup as DoOpen, EndTaskgroup as DoClose, Test as DoTest, End as DoEnd}
use Rattle.tb_model.specs.Program.{Program, instr_at}

-- the line that names a body
abbrev pub is_begin : Statement → Bool
is_begin DoStart = true
is_begin _ = false

-- a body begins at the line
abbrev pub Begins : Program → ℕ → Type 0
Begins P line = IsTrue (is_begin (instr_at P line).statement)

-- a line within a body, at which so many groups are open
pub record Inside (P : Program) (depth : ℕ → ℕ) (groups line : ℕ) : Type 0 where
  pub groups_open : depth line ≡ groups
  pub within : IsFalse (is_begin (instr_at P line).statement)

-- a statement at which so many groups are open leads to lines that fit it
abbrev pub WellAt : (P : Program) → (depth : ℕ → ℕ) → (groups next otherwise : ℕ) → Statement → Type 0
WellAt P depth groups next otherwise DoStart = Inside P depth 0 next
WellAt P depth groups next otherwise (DoLet r a) = (r < 16) × Inside P depth groups next
WellAt P depth groups next otherwise (DoCompute r a o b) = (r < 16) × Inside P depth groups next
WellAt P depth groups next otherwise (DoLoad r a) = (r < 16) × Inside P depth groups next
WellAt P depth groups next otherwise (DoStore a b) = Inside P depth groups next
WellAt P depth groups next otherwise (DoPrint a) = Inside P depth groups next
WellAt P depth groups next otherwise (DoSpawn body args items c) = Begins P body × (length args ≤ 16) × Inside P depth groups next
WellAt P depth groups next otherwise (DoWait items) = Inside P depth groups next
WellAt P depth groups next otherwise DoOpen = Inside P depth (suc groups) next
WellAt P depth groups next otherwise DoClose = (outer : ℕ) × (groups ≡ suc outer) × Inside P depth outer next
WellAt P depth groups next otherwise (DoTest c) = Inside P depth groups next × Inside P depth groups otherwise
WellAt P depth groups next otherwise DoEnd = ⊤

-- depth says how many groups are open at each line
pub record WellFormed (P : Program) : Type 0 where
  pub depth : ℕ → ℕ
  pub root : Begins P P.root_line
  pub lines : (line : ℕ) → WellAt P depth (depth line) (instr_at P line).next (instr_at P line).otherwise (instr_at P line).statement
