use Rattle.std.proofs.Common.{◌∙◌, ◌<◌, ◌-◌, ap, sym, subst, arith}
use Rattle.std.specs.Vec.{vec_capacity, vec_len}
use Rattle.tb_places.specs.Places.{HasRoomAs}
use Rattle.tb_core.specs.Seen.{Held}
use Rattle.tb_core.specs.Storing.{entries_in}
use Rattle.tb_core.proofs.NumberLemmas.{named_next, room_along}
use Rattle.tb_core.proofs.TakenLemmas.{ahead, some_reserved}
use Rattle.tb_core.proofs.HeldLemmas.{held_same, shown_run, stays, stays_so, on_err}
use Rattle.tb_core.proofs.run.Core.reserve_event.Goals as goal

pub number_in-task-requires : goal.number_in-task-requires
number_in-task-requires c =
    let i = c.self.inside in
    let is = ap (λ (h : Held). h.run) c.self.view_is in
    named_next i.first.items i.root_line i.limit (entries_in i.tables i.entries.items) i.tables c.self.invariant.0 c.args.self.now.run is c.args.event.now c.requires.may

pub reserve_apply-requires : goal.reserve_apply-requires
reserve_apply-requires c =
    let i = c.self.inside in
    let is = ap (λ (h : Held). h.run) c.self.view_is in
    ahead i.first.items i.root_line i.limit (entries_in i.tables i.entries.items) i.tables c.self.invariant.0 c.args.self.now.run is c.args.event.now c.requires.may c.requires.room

pub invariant_of-self : goal.invariant_of-self
invariant_of-self c =
    let i = c.self.inside in
    let h = stays_so i.first.items i.root_line i.limit i.entries.items i.tables i.places i.reserved (vec_capacity i.entries - vec_len i.entries) c.self.invariant.0 c.self.invariant.1 c.self.invariant.2 c.self.invariant.3 c.reserve.new.self.items (vec_capacity c.reserve.new.self - vec_len c.reserve.new.self) i.places c.reserve.ensures.items (omega (arith, c.reserve.ensures.capacity, c.reserve.ensures.len)) (λ ks es index. index) (λ n a room. room) in
    (h.sound', h.has', h.index', h.stored')

pub returns-in_err-reserve-clause-err : goal.returns-in_err-reserve-clause-err
returns-in_err-reserve-clause-err c =
    let i = c.self.inside in
    on_err _ _ ((stays_so i.first.items i.root_line i.limit i.entries.items i.tables i.places i.reserved (vec_capacity i.entries - vec_len i.entries) c.self.invariant.0 c.self.invariant.1 c.self.invariant.2 c.self.invariant.3 c.reserve.new.self.items (vec_capacity c.reserve.new.self - vec_len c.reserve.new.self) i.places c.reserve.ensures.items (omega (arith, c.reserve.ensures.capacity, c.reserve.ensures.len)) (λ ks es index. index) (λ n a room. room)).same ∙ c.self.view_is)

pub invariant_of-self-in_err-reserve-2 : goal.invariant_of-self-in_err-reserve-2
invariant_of-self-in_err-reserve-2 c =
    let i = c.self.inside in
    let h = stays_so i.first.items i.root_line i.limit i.entries.items i.tables i.places i.reserved (vec_capacity i.entries - vec_len i.entries) c.self.invariant.0 c.self.invariant.1 c.self.invariant.2 c.self.invariant.3 c.reserve.new.self.items (vec_capacity c.reserve.new.self - vec_len c.reserve.new.self) c.reserve-2.new.self c.reserve.ensures.items (omega (arith, c.reserve.ensures.capacity, c.reserve.ensures.len)) c.reserve-2.ensures.same c.reserve-2.ensures.keeps in
    (h.sound', h.has', h.index', h.stored')

pub returns-in_err-reserve-2-clause-err : goal.returns-in_err-reserve-2-clause-err
returns-in_err-reserve-2-clause-err c =
    let i = c.self.inside in
    on_err _ _ ((stays_so i.first.items i.root_line i.limit i.entries.items i.tables i.places i.reserved (vec_capacity i.entries - vec_len i.entries) c.self.invariant.0 c.self.invariant.1 c.self.invariant.2 c.self.invariant.3 c.reserve.new.self.items (vec_capacity c.reserve.new.self - vec_len c.reserve.new.self) c.reserve-2.new.self c.reserve.ensures.items (omega (arith, c.reserve.ensures.capacity, c.reserve.ensures.len)) c.reserve-2.ensures.same c.reserve-2.ensures.keeps).same ∙ c.self.view_is)

pub invariant_of-self-in_err-reserve_apply : goal.invariant_of-self-in_err-reserve_apply
invariant_of-self-in_err-reserve_apply c =
    let i = c.self.inside in
    let h = stays i.first.items i.root_line i.limit i.entries.items i.tables i.places i.reserved (vec_capacity i.entries - vec_len i.entries) c.self.invariant.0 c.self.invariant.1 c.self.invariant.2 c.self.invariant.3 c.reserve.new.self.items (vec_capacity c.reserve.new.self - vec_len c.reserve.new.self) c.reserve_apply.new.self c.reserve-2.new.self c.reserve.ensures.items (omega (arith, c.reserve.ensures.capacity, c.reserve.ensures.len)) c.reserve_apply.ensures.same c.reserve_apply.ensures.names c.in_err-reserve_apply.ensures.keeps c.reserve-2.ensures.same c.reserve-2.ensures.keeps in
    (h.sound', h.has', h.index', h.stored')

pub returns-in_err-reserve_apply-clause-err : goal.returns-in_err-reserve_apply-clause-err
returns-in_err-reserve_apply-clause-err c =
    let i = c.self.inside in
    on_err _ _ ((stays i.first.items i.root_line i.limit i.entries.items i.tables i.places i.reserved (vec_capacity i.entries - vec_len i.entries) c.self.invariant.0 c.self.invariant.1 c.self.invariant.2 c.self.invariant.3 c.reserve.new.self.items (vec_capacity c.reserve.new.self - vec_len c.reserve.new.self) c.reserve_apply.new.self c.reserve-2.new.self c.reserve.ensures.items (omega (arith, c.reserve.ensures.capacity, c.reserve.ensures.len)) c.reserve_apply.ensures.same c.reserve_apply.ensures.names c.in_err-reserve_apply.ensures.keeps c.reserve-2.ensures.same c.reserve-2.ensures.keeps).same ∙ c.self.view_is)

pub returns-in_err-reserve_apply-clause-run : goal.returns-in_err-reserve_apply-clause-run
returns-in_err-reserve_apply-clause-run c =
    let i = c.self.inside in
    ap (λ (h : Held). h.run) ((stays i.first.items i.root_line i.limit i.entries.items i.tables i.places i.reserved (vec_capacity i.entries - vec_len i.entries) c.self.invariant.0 c.self.invariant.1 c.self.invariant.2 c.self.invariant.3 c.reserve.new.self.items (vec_capacity c.reserve.new.self - vec_len c.reserve.new.self) c.reserve_apply.new.self c.reserve-2.new.self c.reserve.ensures.items (omega (arith, c.reserve.ensures.capacity, c.reserve.ensures.len)) c.reserve_apply.ensures.same c.reserve_apply.ensures.names c.in_err-reserve_apply.ensures.keeps c.reserve-2.ensures.same c.reserve-2.ensures.keeps).same ∙ c.self.view_is)

pub invariant_of-self-2 : goal.invariant_of-self-2
invariant_of-self-2 c =
    let i = c.self.inside in
    let h =
    held_same i.first.items i.root_line i.limit i.entries.items c.reserve.new.self.items i.tables c.reserve_apply.new.self i.places c.reserve-2.new.self c.reserve.ensures.items c.reserve_apply.ensures.same c.reserve_apply.ensures.names c.reserve-2.ensures.same
    c.self.invariant.0 c.self.invariant.2 c.self.invariant.3 in
    let is = ap (λ (h : Held). h.run) c.self.view_is in
    let fits = c.in_ok-reserve.ensures.ok in
    let some : 0 < vec_capacity c.reserve.new.self - vec_len c.reserve.new.self = omega (arith, fits, c.reserve.ensures.len) in
    let named = named_next i.first.items i.root_line i.limit (entries_in i.tables i.entries.items) i.tables c.self.invariant.0 c.args.self.now.run is c.args.event.now c.requires.may in
    let place = subst (λ n. HasRoomAs c.reserve-2.new.self n c.args.event.now.action) (sym c.number_in-task.ensures) c.in_ok-reserve-2.ensures.ok in (
      h.sound,
      some_reserved c.in_ok-copy.copy c.args.event.now _ _ _ c.in_ok-copy.ensures some c.in_ok-reserve_apply.ensures.ok (room_along i.tables c.reserve_apply.new.self c.reserve-2.new.self c.args.event.now c.reserve_apply.ensures.names named place),
      h.index,
      h.stored,
    )

pub returns-clause-run : goal.returns-clause-run
returns-clause-run c =
    let i = c.self.inside in
    let h =
    held_same i.first.items i.root_line i.limit i.entries.items c.reserve.new.self.items i.tables c.reserve_apply.new.self i.places c.reserve-2.new.self c.reserve.ensures.items c.reserve_apply.ensures.same c.reserve_apply.ensures.names c.reserve-2.ensures.same
    c.self.invariant.0 c.self.invariant.2 c.self.invariant.3 in
    shown_run i.first.items i.root_line i.limit c.reserve.new.self.items (entries_in i.tables i.entries.items) c.reserve_apply.new.self c.reserve-2.new.self h ∙ ap (λ (x : Held). x.run) c.self.view_is
