-- What a program text says.
use Rattle.std.specs.Prelude.{ℕ, List}
use Rattle.tb_model.specs.Program.{Program}
use Rattle.tb_read.specs.Text.{numbered}
use Rattle.tb_read.specs.Reading.{IsAccepted, IsFirstFault}
use Rattle.tb_read.specs.Meaning.{IsProgramOf}
use Rattle.tb_read.specs.declared.fault.ReadFault.{ReadFault}

-- the text is accepted, and this is its program
abbrev pub IsProgram : List ℕ → Program → Type 0
IsProgram text P = IsAccepted (numbered text) × IsProgramOf (numbered text) P

-- the text is refused by the smallest fault of its first faulty line
abbrev pub IsRefused : List ℕ → ReadFault → Type 0
IsRefused text fault = IsFirstFault (numbered text) fault.line fault.kind
