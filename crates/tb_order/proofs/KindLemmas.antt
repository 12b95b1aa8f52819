-- Why a step needs another, kind by kind.
use Rattle.std.proofs.Common.{◌≡◌, true, false, Option, Some, None, refl}
use Rattle.tb_model.specs.declared.event.Event.{Event}
use Rattle.tb_model.specs.Facts.{History, is_end, is_of, spawns}
use Rattle.tb_races.specs.declared.conflict.Conflict.{Conflict}
use Rattle.tb_races.specs.declared.need_kind.NeedKind.{NeedKind}
use Rattle.tb_races.specs.declared.need_kind.NeedKind.TheVariants.{Task, Spawn, Conflict as Conflicts}
use Rattle.tb_races.specs.Kinds.{end_kind, need_kind, shared}

module _ (H : History) (v u : Event) where
  pub kind_task : is_of v.task u ≡ true → Some Task ≡ need_kind H v u
  kind_task a = rw a refl

  module _ (other : is_of v.task u ≡ false) where
    pub kind_spawn : spawns v.task u ≡ true → Some Spawn ≡ need_kind H v u
    kind_spawn b = rw (other, b) refl

    module _ (made : spawns v.task u ≡ false) where
      pub kind_shared : (c : Conflict) → shared v.action u.action ≡ Some c → Some (Conflicts c) ≡ need_kind H v u
      kind_shared c s = rw (other, made, s) refl

      module _ (none : shared v.action u.action ≡ None) where
        pub kind_end : is_end u.action ≡ true → end_kind H v.task v.action u.task ≡ need_kind H v u
        kind_end e = rw (other, made, none, e) refl

        pub kind_none : is_end u.action ≡ false → ◌≡◌ {A = Option NeedKind} None (need_kind H v u)
        kind_none e = rw (other, made, none, e) refl
