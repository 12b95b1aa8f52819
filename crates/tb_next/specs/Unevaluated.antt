-- What blocks a task's step, by its statement as it is written: where memory is refused for what
-- the statement evaluates to.
use Rattle.std.specs.Prelude.{◌≡◌, List, [], ◌∷◌, ℤ, Bool, false, ◌&&◌, ◌||◌, ◌==◌, length, is_some, Option, Some, None, option_map, IsTrue, IsFalse}
use Rattle.std.specs.List.{list_any}
use Rattle.std.specs.Option.{option_or}
use Rattle.tb_model.specs.declared.kind.Kind.{Kind}
use Rattle.tb_model.specs.declared.place.Place.{Place}
use Rattle.tb_model.specs.declared.item.Item.{Item}
use Rattle.tb_model.specs.declared.clause.Clause.{Clause}
use Rattle.tb_model.specs.declared.action.Action.{Action}
use Rattle.tb_model.specs.declared.action.Action.TheVariants.{Start, Open, Close}
use Rattle.tb_model.specs.declared.statement.Statement.{Statement}
use Rattle.tb_model.specs.declared.statement.Statement.TheVariants.{Start as DoStart, Taskwait as DoWait, EndTaskgroup as DoClose}
use Rattle.tb_model.specs.Names.{Name, is_child}
use Rattle.tb_model.specs.Items.{some_meet, is_before}
use Rattle.tb_model.specs.Facts.{History, items_of}
use Rattle.tb_model.specs.State.{is_unended_covered}
use Rattle.tb_model.specs.Legal.{Cells}
use Rattle.tb_model.specs.Program.{Program, place_at, items_at}
use Rattle.tb_model.specs.Hindrances.{Hindrance, By, Children, spawned_names, least_where, can_step, in_the_way, least_ready, refusal_of}
use Rattle.tb_core.specs.declared.step_refusal.StepRefusal.{StepRefusal}
use Rattle.tb_core.specs.declared.step_refusal.StepRefusal.TheVariants.{Memory, Full}
use Rattle.tb_core.specs.Naming.{IsLong, IsNamed}
use Rattle.tb_core.specs.Seen.{Seen, history}
use Rattle.tb_next.specs.Plans.{IsRefusalTo}

-- ---- the clauses of a `taskwait`, one by one

-- an item of this kind at the index, where there is one, depends on an earlier item
abbrev pub follows_at : Option Place → Kind → List Item → Bool
follows_at None k earlier = false
follows_at (Some p) k earlier = some_meet is_before (record { kind = k; place = p } ∷ []) earlier

abbrev pub follows_some : Cells → List ℤ → List Item → Clause → Bool
follows_some cells regs earlier c = follows_at (place_at cells regs c.address) c.kind earlier

-- the clause's address is good
abbrev pub is_good : Cells → List ℤ → Clause → Bool
is_good cells regs c = is_some (place_at cells regs c.address)

-- u is a child of t with an item on which one of the clauses depends, and any child where there are no clauses
abbrev pub is_named : Cells → History → Name → List ℤ → List Clause → Name → Bool
is_named cells H t regs clauses u = is_child t u && ((length clauses == 0) || list_any (follows_some cells regs (items_of u H)) clauses)

-- ---- what blocks a task's statement

-- the least child for which a `taskwait` of t with these items waits; a bad address is a fault, which waits for none
abbrev pub waited_for : History → Name → Option (List Item) → Option Name
waited_for H t None = None
waited_for H t (Some items) = least_where (is_unended_covered H t items) (spawned_names H)

-- the least child for which the statement waits, where it is a `taskwait`
abbrev pub holding : Cells → History → Name → List ℤ → Statement → Option Name
holding cells H t regs (DoWait depends) = waited_for H t (items_at cells regs depends)
holding cells H t regs _ = None

-- an action that is blocked for its task as the statement is, but for what a `taskwait` waits for
abbrev pub stand_in : Statement → Action
stand_in DoStart = Start
stand_in DoClose = Close
stand_in _ = Open

-- what blocks t's statement: what does from its substitute, and then the child for which it waits
abbrev pub hindrance_at : Cells → History → Name → List ℤ → Statement → Option Hindrance
hindrance_at cells H t regs s = option_or (in_the_way H t (stand_in s)) (option_map Children (holding cells H t regs s))

-- the refusal names the hindrance that is found, or wants memory for its name, which is long
pub record IsNaming (o : Option Hindrance) (e : StepRefusal) : Type 0 where
  pub hindrance : Hindrance
  pub found : o ≡ Some hindrance
  pub named : IsNamed hindrance e

-- the refusal names what blocks t's step
pub record IsKeptAt (P : Program) (run : Seen) (t : Name) (e : StepRefusal) : Type 0 where
  pub hindrance : Hindrance
  pub found : refusal_of P (history run) t ≡ Some (By hindrance)
  pub named : IsNamed hindrance e

-- ---- what is answered then: what blocks a task's step comes first, and a full journal before want of memory

-- of one task
abbrev pub IsWanting : Program → Seen → Bool → Name → StepRefusal → Type 0
IsWanting P run full t Full = IsTrue full × IsTrue (can_step P (history run) t)
IsWanting P run full t Memory =
    (IsTrue (can_step P (history run) t) → IsFalse full) × ((h : Hindrance) → refusal_of P (history run) t ≡ Some (By h) → IsLong h)
IsWanting P run full t e = IsRefusalTo P run t e

-- of the least task that can step
abbrev pub IsLeastWanting : Program → Seen → Bool → StepRefusal → Type 0
IsLeastWanting P run full Full = IsTrue full × IsTrue (is_some (least_ready P (history run)))
IsLeastWanting P run full Memory = IsTrue (is_some (least_ready P (history run))) → IsFalse full
IsLeastWanting P run full _ = ⊥
