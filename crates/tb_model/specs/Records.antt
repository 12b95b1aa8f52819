-- What a step replaces: a value of a cell or of a register. By this record alone it is taken back.
use Rattle.std.specs.Prelude.{ℕ, List, [], ◌∷◌, Option, Some, None, ℤ, slice_index_or, ◌==◌, if◌then◌else◌}
use Rattle.tb_model.specs.declared.action.Action.{Action}
use Rattle.tb_model.specs.declared.action.Action.TheVariants.{Let, Load, Store, Spawn}
use Rattle.tb_model.specs.declared.event.Event.{Event}
use Rattle.tb_model.specs.Names.{Name}
use Rattle.tb_model.specs.Facts.{History, own, last}
use Rattle.tb_model.specs.State.{spawn_of}
use Rattle.tb_model.specs.Legal.{Cells, first_number}

-- the arguments that a spawn passes; the root has none
abbrev pub args_in : Option Action → List ℤ
args_in (Some (Spawn s)) = s.args
args_in _ = []

-- the value of the last `let` or `load` to the register, else the argument, else 0
abbrev pub register : ℕ → List ℤ → List Action → ℤ
register r args [] = slice_index_or args r (ℤ.pos 0)
register r args (Let k x ∷ acts) = if r == k then x else register r args acts
register r args (Load k c x ∷ acts) = if r == k then x else register r args acts
register r args (_ ∷ acts) = register r args acts

-- the value in register r of t
abbrev pub register_of : Name → ℕ → History → ℤ
register_of t r H = register r (args_in (spawn_of t H)) (own t H)

-- the value that the event replaces, after H: a store its cell's, a `let` or a `load` its
-- register's
abbrev pub replaced_by : Cells → History → Event → Option ℤ
replaced_by cells H v = at v.action
  where
    at : Action → Option ℤ
    at (Store c x) = Some (last (first_number cells c) c H)
    at (Let r x) = Some (register_of v.task r H)
    at (Load r c x) = Some (register_of v.task r H)
    at _ = None

-- the value of cell c in front of the action, by its record, where it is z after it
abbrev pub cell_back : Action → Option ℤ → ℕ → ℤ → ℤ
cell_back (Store d x) (Some y) c z = if c == d then y else z
cell_back _ _ c z = z

-- the value of register r of the action's task in front of it, by its record, where it is z after
-- it
abbrev pub register_back : Action → Option ℤ → ℕ → ℤ → ℤ
register_back (Let k x) (Some y) r z = if r == k then y else z
register_back (Load k c x) (Some y) r z = if r == k then y else z
register_back _ _ r z = z
