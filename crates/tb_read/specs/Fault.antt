-- The faults of a program text by their codes.
use Rattle.std.specs.Prelude.{ℕ}
use Rattle.tb_read.specs.declared.fault.FaultKind.{FaultKind}
use Rattle.tb_read.specs.declared.fault.FaultKind.TheVariants.{Memory, NoCells, BadNumber, CellRange, UnknownWord, UnknownBody, Arity, Nesting, NoMain, Duplicate, Register, TooLarge, NotText, DependType}

abbrev pub number_of : FaultKind → ℕ
number_of Memory = 0
number_of NoCells = 1
number_of BadNumber = 2
number_of CellRange = 3
number_of UnknownWord = 4
number_of UnknownBody = 5
number_of Arity = 6
number_of Nesting = 7
number_of NoMain = 8
number_of Duplicate = 9
number_of Register = 10
number_of TooLarge = 11
number_of NotText = 12
number_of DependType = 13
