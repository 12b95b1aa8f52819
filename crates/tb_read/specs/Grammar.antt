-- The words of a line: the first, and the index of each after it.
use Rattle.std.specs.Prelude.{ℕ, Bool, true, false, not, List, [], ◌∷◌, ◌==◌, if◌then◌else◌, Option, Some, None, is_some, ◌||◌, codes}
use Rattle.tb_model.specs.declared.kind.Kind.{Kind}
use Rattle.tb_model.specs.declared.kind.Kind.TheVariants.{Mutexinoutset}
use Rattle.tb_read.specs.Word.{Word, same_word, number_of, register_of, operand_of, operator_of, comparison_of, kind_of, is_all, resembles_register, is_name}
use Rattle.tb_read.specs.declared.fault.FaultKind.{FaultKind}
use Rattle.tb_read.specs.declared.fault.FaultKind.TheVariants.{BadNumber, UnknownWord, Register, DependType}
use Rattle.tb_read.specs.declared.head.Head.{Head}
use Rattle.tb_read.specs.declared.head.Head.TheVariants.{Cells, Cell, Body, End, Let, Load, Store, Print, Task, Taskwait, Taskgroup, If, Else, While}
use Rattle.tb_read.specs.declared.place.Place.{Place}
use Rattle.tb_read.specs.declared.place.Place.TheVariants.{Number, Destination, Operand, Operator, Comparison, Name, Depend, Dependence, Address}

-- the first word of a line
abbrev pub head_of : Word → Option Head
head_of word =
    if same_word word (codes "cells") then Some Cells
    else (if same_word word (codes "cell") then Some Cell
    else (if same_word word (codes "body") then Some Body
    else (if same_word word (codes "end") then Some End
    else (if same_word word (codes "let") then Some Let
    else (if same_word word (codes "load") then Some Load
    else (if same_word word (codes "store") then Some Store
    else (if same_word word (codes "print") then Some Print
    else (if same_word word (codes "task") then Some Task
    else (if same_word word (codes "taskwait") then Some Taskwait
    else (if same_word word (codes "taskgroup") then Some Taskgroup
    else (if same_word word (codes "if") then Some If
    else (if same_word word (codes "else") then Some Else
    else (if same_word word (codes "while") then Some While
    else None)))))))))))))

-- ---- a word at its index

-- a type that the line may name; a `taskwait` excludes nothing
abbrev pub is_type : Bool → Option Kind → Bool
is_type on_wait None = false
is_type on_wait (Some Mutexinoutset) = not on_wait
is_type on_wait (Some kind) = true

-- an operand is a number or a register
abbrev pub operand_misfit : Word → Option FaultKind
operand_misfit word = if is_some (operand_of word) then None else (if resembles_register word then Some Register else Some BadNumber)

-- the fault of a word that isn't what its index is for
abbrev pub misfit : Place → Word → Option FaultKind
misfit Number word = if is_some (number_of word) then None else Some BadNumber
misfit Destination word = if is_some (register_of word) then None else Some Register
misfit Operand word = operand_misfit word
misfit Operator word = if is_some (operator_of word) then None else Some UnknownWord
misfit Comparison word = if is_some (comparison_of word) then None else Some UnknownWord
misfit Name word = if is_name word then None else Some UnknownWord
misfit Depend word = if same_word word (codes "depend") then None else Some UnknownWord
misfit (Dependence on_wait) word = if is_type on_wait (kind_of word) then None else Some DependType
misfit (Address allows_all) word = if is_all word then (if allows_all then None else Some DependType) else operand_misfit word

-- a word at its index has one of these faults
abbrev pub is_fault : FaultKind → Option FaultKind → Bool
is_fault BadNumber (Some BadNumber) = true
is_fault UnknownWord (Some UnknownWord) = true
is_fault Register (Some Register) = true
is_fault DependType (Some DependType) = true
is_fault _ _ = false

-- some word has the fault at its index; words after the last index have none
abbrev pub is_misplaced : FaultKind → List Place → List Word → Bool
is_misplaced fault [] words = false
is_misplaced fault (place ∷ places) [] = false
is_misplaced fault (place ∷ places) (word ∷ words) = is_fault fault (misfit place word) || is_misplaced fault places words

-- ---- the words of a line

-- the indexes after the first word, but for the words of a `task` line after its name, and those of
-- a `taskwait`
abbrev pub places : Head → List Place
places Cells = Number ∷ []
places Cell = Number ∷ Number ∷ []
places Body = Name ∷ Number ∷ []
places End = []
places Let = Destination ∷ Operand ∷ Operator ∷ Operand ∷ []
places Load = Destination ∷ Operand ∷ []
places Store = Operand ∷ Operand ∷ []
places Print = Operand ∷ []
places Task = Name ∷ []
places Taskwait = []
places Taskgroup = []
places If = Operand ∷ Comparison ∷ Operand ∷ []
places Else = []
places While = Operand ∷ Comparison ∷ Operand ∷ []

-- the count of words after the first isn't the line's; Clauses counts those of `task` and
-- `taskwait`
abbrev pub is_miscounted : Head → ℕ → Bool
is_miscounted Cells words = not (words == 1)
is_miscounted Cell words = not (words == 2)
is_miscounted Body words = not (words == 2)
is_miscounted End words = not (words == 0)
is_miscounted Let words = not (words == 2 || words == 4)
is_miscounted Load words = not (words == 2)
is_miscounted Store words = not (words == 2)
is_miscounted Print words = not (words == 1)
is_miscounted Task words = words == 0
is_miscounted Taskwait words = false
is_miscounted Taskgroup words = not (words == 0)
is_miscounted If words = not (words == 3)
is_miscounted Else words = not (words == 0)
is_miscounted While words = not (words == 3)
