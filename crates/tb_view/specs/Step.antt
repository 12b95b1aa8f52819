-- The text of a step: its ordinal, a blank and what it did.
use Rattle.std.specs.Prelude.{ℕ, List, [], ◌∷◌, ◌++◌, Bool, true, false, ◌==◌, if◌then◌else◌, ℤ, codes, decimal}
use Rattle.std.specs.Fmt.{signed_decimal}
use Rattle.tb_model.specs.declared.kind.Kind.{Kind}
use Rattle.tb_model.specs.declared.kind.Kind.TheVariants.{In, Out, Inout, Mutexinoutset, Inoutset}
use Rattle.tb_model.specs.declared.place.Place.{Place}
use Rattle.tb_model.specs.declared.place.Place.TheVariants.{Cell, All}
use Rattle.tb_model.specs.declared.item.Item.{Item}
use Rattle.tb_model.specs.declared.action.Action.{Action}
use Rattle.tb_model.specs.declared.action.Action.TheVariants.{Start, Let, Load, Store, Print, Spawn, Wait, Open, Close, Test, End, Fault}
use Rattle.tb_model.specs.Names.{Name}
use Rattle.tb_model.specs.Program.{Program, Body}
use Rattle.tb_model.specs.Spelling.{name_text, step_id_text}

-- the dependence type's name
abbrev pub kind_text : Kind → List ℕ
kind_text In = codes "in"
kind_text Out = codes "out"
kind_text Inout = codes "inout"
kind_text Mutexinoutset = codes "mutexinoutset"
kind_text Inoutset = codes "inoutset"

-- a cell by its index, or all memory
abbrev pub place_text : Place → List ℕ
place_text (Cell c) = decimal c
place_text All = codes "all"

abbrev pub item_text : Item → List ℕ
item_text i = codes " depend " ++ kind_text i.kind ++ codes " " ++ place_text i.place

abbrev pub items_text : List Item → List ℕ
items_text [] = []
items_text (i ∷ items) = item_text i ++ items_text items

abbrev pub args_text : List ℤ → List ℕ
args_text [] = []
args_text (x ∷ args) = (codes " " ++ signed_decimal x) ++ args_text args

-- the last word says that a task is undeferred
abbrev pub deferred_text : Bool → List ℕ
deferred_text true = []
deferred_text false = codes " undeferred"

abbrev pub answer_text : Bool → List ℕ
answer_text true = codes "test yes"
answer_text false = codes "test no"

-- what a step did; `body` is the name of the body that a spawn names
abbrev pub action_text : List ℕ → Action → List ℕ
action_text body Start = codes "start"
action_text body (Let r x) = codes "let r" ++ decimal r ++ codes " " ++ signed_decimal x
action_text body (Load r c x) = codes "load r" ++ decimal r ++ codes " " ++ decimal c ++ codes " " ++ signed_decimal x
action_text body (Store c x) = codes "store " ++ decimal c ++ codes " " ++ signed_decimal x
action_text body (Print x) = codes "print " ++ signed_decimal x
action_text body (Spawn s) =
    codes "spawn " ++ name_text s.child ++ codes " " ++ body ++ args_text s.args ++ items_text s.items ++ deferred_text s.deferred
action_text body (Wait items) = codes "wait" ++ items_text items
action_text body Open = codes "open"
action_text body Close = codes "close"
action_text body (Test answer) = answer_text answer
action_text body End = codes "end"
action_text body Fault = codes "fault"

-- the kth step of t
abbrev pub step_text : List ℕ → Name → ℕ → Action → List ℕ
step_text body t k a = step_id_text (record { task = t; k = k }) ++ codes " " ++ action_text body a

-- ---- the body's name, from the program

-- the name of the body that a line begins
abbrev pub name_at : List Body → ℕ → List ℕ
name_at [] line = []
name_at (b ∷ bodies) line = if b.line == line then b.name else name_at bodies line

-- the name of the body of the child that an action spawns
abbrev pub spawned_name : Program → Action → List ℕ
spawned_name P (Spawn s) = name_at P.bodies s.body
spawned_name P _ = []
