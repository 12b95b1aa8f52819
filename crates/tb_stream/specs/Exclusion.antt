-- Whether some tasks of a history exclude each other.
use Rattle.std.specs.Prelude.{List, Bool, true, false, Some}
use Rattle.std.specs.List.{list_any}
use Rattle.tb_model.specs.declared.kind.Kind.{Kind}
use Rattle.tb_model.specs.declared.kind.Kind.TheVariants.{Mutexinoutset}
use Rattle.tb_model.specs.declared.item.Item.{Item}
use Rattle.tb_model.specs.Facts.{History}
use Rattle.tb_model.specs.State.{items_in}

-- only items of this kind exclude each other
abbrev pub is_exclusive : Kind → Bool
is_exclusive Mutexinoutset = true
is_exclusive _ = false

abbrev pub has_exclusive : List Item → Bool
has_exclusive items = list_any (λ i. is_exclusive i.kind) items

-- some task of the history has such an item
abbrev pub excludes_some : History → Bool
excludes_some H = list_any (λ v. has_exclusive (items_in (Some v.action))) H
