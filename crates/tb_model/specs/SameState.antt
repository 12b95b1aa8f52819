-- Histories that leave the same state, part by part.
use Rattle.std.specs.Prelude.{◌≡◌, ◌↔◌, ℕ, List, ℤ, length}
use Rattle.tb_model.specs.declared.item.Item.{Item}
use Rattle.tb_model.specs.declared.event.Event.{Event}
use Rattle.tb_model.specs.Names.{Name}
use Rattle.tb_model.specs.Facts.{History, own, last, is_spawned, items_of, before, apart}
use Rattle.tb_model.specs.State.{status_of, printed, called_by, spawn_of, open_groups_of, is_unended_child, is_unended_covered, is_unended_member, is_unended_member_of, is_unended_undeferred}
use Rattle.tb_model.specs.Legal.{Cells, MayFollow}
use Rattle.tb_model.specs.Needs.{needs}
use Rattle.tb_model.specs.Records.{register_of, replaced_by}
use Rattle.tb_model.specs.Program.{Program, situation, IsNext}

pub record SameState (G H : History) : Type 0 where
  -- each cell's value, and the output
  pub cells : (first : ℤ) (c : ℕ) → last first c G ≡ last first c H
  pub output : printed G ≡ printed H
  -- the tasks, each with its body and arguments, items, state and count of events
  pub tasks : (t : Name) → is_spawned G t ≡ is_spawned H t
  pub called : (root_line : ℕ) (t : Name) → called_by root_line (spawn_of t G) ≡ called_by root_line (spawn_of t H)
  pub items : (t : Name) → items_of t G ≡ items_of t H
  pub status : (t : Name) → status_of (own t G) ≡ status_of (own t H)
  pub steps : (t : Name) → length (own t G) ≡ length (own t H)
  -- its registers, and for a program its line too
  pub registers : (t : Name) (r : ℕ) → register_of t r G ≡ register_of t r H
  pub situation : (P : Program) (t : Name) → situation P t G ≡ situation P t H
  -- its siblings that are before it, and those that exclude it
  pub before : (u t : Name) → before G u t ≡ before H u t
  pub apart : (u t : Name) → apart G u t ≡ apart H u t
  -- its open groups, and who isn't done
  pub groups : (t : Name) → open_groups_of t G ≡ open_groups_of t H
  pub children : (t u : Name) → is_unended_child G t u ≡ is_unended_child H t u
  pub covered : (t : Name) (items : List Item) (u : Name) → is_unended_covered G t items u ≡ is_unended_covered H t items u
  pub innermost : (t m : Name) → is_unended_member G t m ≡ is_unended_member H t m
  pub members : (t : Name) (k : ℕ) (m : Name) → is_unended_member_of G t k m ≡ is_unended_member_of H t k m
  pub undeferred : (t u : Name) → is_unended_undeferred G t u ≡ is_unended_undeferred H t u

-- after both histories the same events may follow, with the same needs and the same records
pub record GoOnAlike (G H : History) : Type 0 where
  pub may : (cells : Cells) (v : Event) → MayFollow cells G v ↔ MayFollow cells H v
  pub next : (P : Program) (v : Event) → IsNext P G v ↔ IsNext P H v
  pub needs : (v u : Event) → needs G v u ≡ needs H v u
  pub replaced : (cells : Cells) (v : Event) → replaced_by cells G v ≡ replaced_by cells H v
