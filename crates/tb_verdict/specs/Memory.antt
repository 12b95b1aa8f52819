-- For which lines and refusals memory may be wanted.
use Rattle.std.specs.Prelude.{◌≡◌, ◌<◌, ◌⊎◌, ℕ, List, length, Option, Some, None, Ok, IsTrue, ⊤}
use Rattle.tb_model.specs.Names.{Name}
use Rattle.tb_runs.specs.Memory.{line_takes}
use Rattle.tb_runs.specs.declared.said.Said.{Said}
use Rattle.tb_runs.specs.declared.said.Said.TheVariants as says
use Rattle.tb_runs.specs.declared.said.Stage.{Stage}
use Rattle.tb_runs.specs.declared.said.Stage.TheVariants as stage
use Rattle.tb_verdict.specs.Refusals.{refusal_of}
use Rattle.tb_verdict.specs.Texts.{Sofar, Heading, Running, says_at}
use Rattle.tb_verdict.specs.declared.refusal.Refusal.{Refusal}
use Rattle.tb_verdict.specs.declared.refusal.Refusal.TheVariants.{NoSuchTask, Ended, Waiting, Excluded, Children, Group, Undeferred, NotStarted, Started, Reads, Child, NoGroup, Step}

-- a copy of the name may be refused: it has more than three ordinals
abbrev pub IsLongName : Name → Type 0
IsLongName t = 3 < length t

-- the refusal has such a name
abbrev pub IsLong : Refusal → Type 0
IsLong (Waiting u) = IsLongName u
IsLong (Excluded u) = IsLongName u
IsLong (Children u) = IsLongName u
IsLong (Group u) = IsLongName u
IsLong (Undeferred u) = IsLongName u
IsLong (Child u) = IsLongName u
IsLong NoSuchTask = ⊥
IsLong Ended = ⊥
IsLong NotStarted = ⊥
IsLong Started = ⊥
IsLong (Reads number) = ⊥
IsLong NoGroup = ⊥
IsLong (Step due) = ⊥

-- the event is refused by such a refusal
abbrev pub IsLongRefusal : Option Refusal → Type 0
IsLongRefusal None = ⊥
IsLongRefusal (Some r) = IsLong r

-- the event is accepted, for which memory may be wanted, or is refused by such a refusal
abbrev pub MayTake : Option Refusal → Type 0
MayTake None = ⊤
MayTake (Some r) = IsLong r

-- what a line says, for which memory may be wanted
abbrev pub SaidTakes : Sofar → Said → Type 0
SaidTakes (Heading at firsts) (says.Cells count) = ⊥
SaidTakes (Heading at firsts) (says.Cell c x) = ⊤
SaidTakes (Heading at firsts) says.Hist = ⊤
SaidTakes (Heading at firsts) (says.Event k v) = ⊤
SaidTakes (Running first H) (says.Event k v) = MayTake (refusal_of first H k v)
SaidTakes (Running first H) said = ⊥

abbrev pub stage_of : Sofar → Stage
stage_of (Heading at firsts) = at
stage_of (Running first H) = stage.Events (length first)

-- memory may be wanted for the line's words, or for what they say
abbrev pub LineTakes : Sofar → List ℕ → Type 0
LineTakes s line = IsTrue (line_takes (stage_of s) line) ⊎ ((said : Said) × (says_at s line ≡ Ok (Some said)) × SaidTakes s said)
