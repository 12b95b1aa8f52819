-- What the lines in front of a line say, and the fault of a line after them.
use Rattle.std.specs.Prelude.{ℕ, ◌==◌, Bool, true, false, not, List, [], ◌∷◌, ◌++◌, if◌then◌else◌, nat_le, nat_lt, length, slice_get, slice_set, drop, replicate, ℤ, Option, Some, None, is_some, int_lt, ◌||◌, ◌&&◌, codes, min}
use Rattle.std.specs.List.{find}
use Rattle.tb_model.specs.Program.{Body as Named}
use Rattle.tb_read.specs.Word.{Word, same_word, word_at, number_of}
use Rattle.tb_read.specs.Grammar.{head_of, places, is_miscounted, is_misplaced}
use Rattle.tb_read.specs.Clauses.{argument_count, clause_words, is_broken, item_count, is_misplaced_in_clauses, is_misplaced_behind_name}
use Rattle.tb_read.specs.declared.heading.Heading.{Heading}
use Rattle.tb_read.specs.declared.fault.FaultKind.{FaultKind}
use Rattle.tb_read.specs.declared.fault.FaultKind.TheVariants.{NoCells, BadNumber, CellRange, UnknownWord, UnknownBody, Arity, Nesting, NoMain, Duplicate, Register, TooLarge, DependType}
use Rattle.tb_read.specs.declared.head.Head.{Head}
use Rattle.tb_read.specs.declared.head.Head.TheVariants.{Cells, Cell, Body, End, Task, Taskwait, Taskgroup, If, Else, While}
use Rattle.tb_read.specs.declared.block.Block.{Block}
use Rattle.tb_read.specs.declared.block.Block.TheVariants.{Bodied, Tested, Turned, Looped, Grouped}

-- whether a line with words was there, the number that a line gave each cell, the bodies, and the open blocks, innermost first:
-- a body and a `while` by their lines, an `if` without or with its `else`, a group
pub record Context : Type 0 where
  pub begun : Bool
  pub cells : List (Option ℤ)
  pub bodies : List Named
  pub open_blocks : List Block

-- the line by its number, and the heading of each body of the whole text
pub record Setting : Type 0 where
  pub line : ℕ
  pub heading : Word → Option Heading

abbrev pub is_below : Option ℤ → ℤ → Bool
is_below None least = false
is_below (Some z) least = int_lt z least

abbrev pub is_above : Option ℤ → ℤ → Bool
is_above None most = false
is_above (Some z) most = int_lt most z

abbrev pub number_at : List Word → ℕ → Option ℤ
number_at words at = number_of (word_at words at)

abbrev pub is_open : Context → Bool
is_open context = nat_lt 0 (length context.open_blocks)

-- what a line gave a cell, where there is such a cell
abbrev pub cell_at : List (Option ℤ) → Option ℤ → Option (Option ℤ)
cell_at cells (Some (ℤ.pos n)) = slice_get cells n
cell_at cells _ = None

abbrev pub was_given : Option (Option ℤ) → Bool
was_given (Some (Some x)) = true
was_given _ = false

-- a number that is no cell
abbrev pub is_outside : List (Option ℤ) → Option ℤ → Bool
is_outside cells None = false
is_outside cells (Some z) = not (is_some (cell_at cells (Some z)))

-- the first line that begins a body of the name is before this one
abbrev pub was_headed : ℕ → Option Heading → Bool
was_headed line None = false
was_headed line (Some heading) = nat_lt heading.line line

-- a number other than 0
abbrev pub is_some_number : Option ℤ → Bool
is_some_number None = false
is_some_number (Some (ℤ.pos n)) = nat_lt 0 n
is_some_number (Some (ℤ.negsuc n)) = true

-- ---- one test for each number

abbrev pub no_cells : Context → Head → Bool
no_cells context Cells = false
no_cells context _ = not context.begun

-- the count of cells or of parameters is below 0
abbrev pub is_negative : Head → List Word → Bool
is_negative Cells words = is_below (number_at words 0) (ℤ.pos 0)
is_negative Body words = is_below (number_at words 1) (ℤ.pos 0)
is_negative _ words = false

-- words of a `task` line after its name, and of a `taskwait`, have indexes by the words in front of
-- them
abbrev pub has_misplaced_clause : FaultKind → Head → List Word → Bool
has_misplaced_clause fault Task (name ∷ words) = is_misplaced_behind_name fault words
has_misplaced_clause fault Taskwait words = is_misplaced_in_clauses fault true words
has_misplaced_clause fault _ words = false

-- some word has the fault at its index
abbrev pub has_misplaced : FaultKind → Head → List Word → Bool
has_misplaced fault head words = is_misplaced fault (places head) words || has_misplaced_clause fault head words

abbrev pub bad_number : Head → List Word → Bool
bad_number head words = has_misplaced BadNumber head words || is_negative head words

abbrev pub cell_range : Context → Head → List Word → Bool
cell_range context Cell words = is_outside context.cells (number_at words 0)
cell_range context _ words = false

abbrev pub unknown_word : Head → List Word → Bool
unknown_word head words = has_misplaced UnknownWord head words

-- no body of the text has the task's name
abbrev pub unknown_body : Setting → Head → List Word → Bool
unknown_body here Task (name ∷ words) = not (is_some (here.heading name))
unknown_body here _ words = false

-- a task has other than its body's count of arguments
abbrev pub is_miscalled : Option Heading → ℕ → Bool
is_miscalled None args = false
is_miscalled (Some heading) args = not (args == heading.params)

-- `main` has no parameters
abbrev pub arity_behind : Setting → Head → List Word → Bool
arity_behind here Body words = same_word (word_at words 0) (codes "main") && is_some_number (number_at words 1)
arity_behind here Task (name ∷ words) = is_miscalled (here.heading name) (argument_count words) || is_broken false (clause_words words)
arity_behind here Taskwait words = is_broken true words
arity_behind here _ words = false

abbrev pub arity : Setting → Head → List Word → Bool
arity here head words = is_miscounted head (length words) || arity_behind here head words

-- the innermost open block is an `if` without an `else`
abbrev pub is_turning : List Block → Bool
is_turning (Tested ∷ blocks) = true
is_turning _ = false

abbrev pub nesting : Context → Head → Bool
nesting context Cells = context.begun
nesting context Cell = is_open context || nat_lt 0 (length context.bodies)
nesting context Body = is_open context
nesting context Else = not (is_turning context.open_blocks)
nesting context _ = not (is_open context)

abbrev pub duplicate : Setting → Context → Head → List Word → Bool
duplicate here context Cell words = was_given (cell_at context.cells (number_at words 0))
duplicate here context Body words = was_headed here.line (here.heading (word_at words 0))
duplicate here context _ words = false

abbrev pub register : Head → List Word → Bool
register head words = has_misplaced Register head words

-- the limits: 65,536 cells, 16 parameters, 1,024 bodies, 64 depend items of a line
abbrev pub too_large : Context → Head → List Word → Bool
too_large context Cells words = is_above (number_at words 0) (ℤ.pos 65536)
too_large context Body words = is_above (number_at words 1) (ℤ.pos 16) || nat_le 1024 (length context.bodies)
too_large context Task (name ∷ words) = nat_lt 64 (item_count false (clause_words words))
too_large context Taskwait words = nat_lt 64 (item_count true words)
too_large context _ words = false

-- whether the line has the fault of this code
abbrev pub holds : Setting → Context → Head → List Word → FaultKind → Bool
holds here context head words NoCells = no_cells context head
holds here context head words BadNumber = bad_number head words
holds here context head words CellRange = cell_range context head words
holds here context head words UnknownWord = unknown_word head words
holds here context head words UnknownBody = unknown_body here head words
holds here context head words Arity = arity here head words
holds here context head words Nesting = nesting context head
holds here context head words Duplicate = duplicate here context head words
holds here context head words Register = register head words
holds here context head words TooLarge = too_large context head words
holds here context head words DependType = has_misplaced DependType head words
holds here context head words _ = false

-- the faults of a line by their codes
abbrev pub by_number : List FaultKind
by_number = NoCells ∷ BadNumber ∷ CellRange ∷ UnknownWord ∷ UnknownBody ∷ Arity ∷ Nesting ∷ Duplicate ∷ Register ∷ TooLarge ∷ DependType ∷ []

-- a second `cells` outside bodies has one fault alone
abbrev pub is_second_cells : Context → Head → Bool
is_second_cells context Cells = context.begun && not (is_open context)
is_second_cells context _ = false

abbrev pub fault_behind : Setting → Context → Option Head → List Word → Option FaultKind
fault_behind here context None words = Some (if context.begun then UnknownWord else NoCells)
fault_behind here context (Some head) words =
    if is_second_cells context head then Some Duplicate else find (holds here context head words) by_number

-- the fault of a line with these words
abbrev pub fault_of : Setting → Context → List Word → Option FaultKind
fault_of here context [] = None
fault_of here context (word ∷ words) = fault_behind here context (head_of word) words

-- the fault of a text, at the end of which all lines were accepted
abbrev pub last_fault : Setting → Context → Option FaultKind
last_fault here context =
    if not context.begun then Some NoCells
    else (if is_open context then Some Nesting
    else (if is_some (here.heading (codes "main")) then None
    else Some NoMain))

-- ---- what a line says

-- in front of the first line
abbrev pub start : Context
start = record { begun = false; cells = []; bodies = []; open_blocks = [] }

-- so many cells; a line that names more than the limit is faulty
abbrev pub blank_cells : Option ℤ → List (Option ℤ)
blank_cells (Some (ℤ.pos n)) = replicate (min n 65536) None
blank_cells _ = []

abbrev pub with_cell : List (Option ℤ) → Option ℤ → Option ℤ → List (Option ℤ)
with_cell cells (Some (ℤ.pos n)) first = slice_set cells n first
with_cell cells _ first = cells

-- the blocks that are open after a line with this first word, the innermost first
abbrev pub blocks_behind : ℕ → Head → List Block → List Block
blocks_behind line Body blocks = Bodied line ∷ blocks
blocks_behind line Taskgroup blocks = Grouped ∷ blocks
blocks_behind line If blocks = Tested ∷ blocks
blocks_behind line Else blocks = Turned ∷ drop 1 blocks
blocks_behind line While blocks = Looped line ∷ blocks
blocks_behind line End blocks = drop 1 blocks
blocks_behind line _ blocks = blocks

abbrev pub taken : ℕ → Context → Option Head → List Word → Context
taken line context (Some Cells) words = record context { begun = true; cells = blank_cells (number_at words 0) }
taken line context (Some Cell) words = record context { begun = true; cells = with_cell context.cells (number_at words 0) (number_at words 1) }
taken line context (Some Body) words = record context { begun = true; bodies = context.bodies ++ (record { name = word_at words 0; line = line }) ∷ []; open_blocks = blocks_behind line Body context.open_blocks }
taken line context (Some head) words = record context { begun = true; open_blocks = blocks_behind line head context.open_blocks }
taken line context None words = record context { begun = true }

-- after a line with these words
abbrev pub after : ℕ → Context → List Word → Context
after line context [] = context
after line context (word ∷ words) = taken line context (head_of word) words
