-- No command but `break` and `go` has two words after it.
use Rattle.std.proofs.Common.{◌≡◌, ℕ, List, ◌∷◌, refl}
use Rattle.tb_commands.specs.Commands.{asked_of, Words}
use Rattle.tb_commands.specs.declared.command.Verb.{Verb}
use Rattle.tb_commands.specs.declared.command.Verb.TheVariants.{Step, Undo, Roll, RollTask, RollCell, RollPrint, Run, Clear, Tasks, Task, Cells, Out, Ready, Waits, Deps, Hist, Why, Causes, Who, Races, Edges, Breaks}
use Rattle.tb_commands.specs.declared.asked.CommandFault.TheVariants.{Count}
use Rattle.tb_commands.specs.declared.asked.Asked.TheVariants.{Fault}

pub too_many : (verb : Verb) (word other : List ℕ) (words : Words) → asked_of verb (word ∷ other ∷ words) ≡ Fault Count
too_many Step word other words = refl
too_many Undo word other words = refl
too_many Roll word other words = refl
too_many RollTask word other words = refl
too_many RollCell word other words = refl
too_many RollPrint word other words = refl
too_many Run word other words = refl
too_many Clear word other words = refl
too_many Tasks word other words = refl
too_many Task word other words = refl
too_many Cells word other words = refl
too_many Out word other words = refl
too_many Ready word other words = refl
too_many Waits word other words = refl
too_many Deps word other words = refl
too_many Hist word other words = refl
too_many Why word other words = refl
too_many Causes word other words = refl
too_many Who word other words = refl
too_many Races word other words = refl
too_many Edges word other words = refl
too_many Breaks word other words = refl
