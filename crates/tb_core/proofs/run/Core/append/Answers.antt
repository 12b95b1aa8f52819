use Rattle.std.proofs.Common.{◌∙◌, ◌-◌, ap, arith, List, length}
use Rattle.std.specs.Vec.{vec_capacity, vec_len}
use Rattle.tb_core.specs.declared.entry.Entry.{Entry as Stored}
use Rattle.tb_core.specs.Seen.{Held}
use Rattle.tb_core.specs.Storing.{stored, entries_in}
use Rattle.tb_core.proofs.NumberLemmas.{named_next}
use Rattle.tb_core.proofs.TakenLemmas.{none_reserved, ahead}
use Rattle.tb_core.proofs.HeldLemmas.{on_err, stays, stays_so, entered}
use Rattle.tb_core.proofs.run.Core.append.Goals as goal

pub number_in-task-requires : goal.number_in-task-requires
number_in-task-requires c =
    let i = c.self.inside in
    let is = ap (λ (h : Held). h.run) c.self.view_is in
    named_next i.first.items i.root_line i.limit (entries_in i.tables i.entries.items) i.tables c.self.invariant.0 c.args.self.now.run is c.args.event c.requires.may

pub apply-requires : goal.apply-requires
apply-requires c =
    let i = c.self.inside in
    let is = ap (λ (h : Held). h.run) c.self.view_is in
    ahead i.first.items i.root_line i.limit (entries_in i.tables i.entries.items) i.tables c.self.invariant.0 c.args.self.now.run is c.args.event c.requires.may c.requires.room

pub invariant_of-self : goal.invariant_of-self
invariant_of-self c =
    let i = c.self.inside in
    let h = stays_so i.first.items i.root_line i.limit i.entries.items i.tables i.places i.reserved (vec_capacity i.entries - vec_len i.entries) c.self.invariant.0 c.self.invariant.1 c.self.invariant.2 c.self.invariant.3 c.reserve_one.new.entries.items (vec_capacity c.reserve_one.new.entries - vec_len c.reserve_one.new.entries) i.places c.reserve_one.ensures.items (omega (arith, c.reserve_one.ensures.keeps, ap (λ (l : List Stored). length l) c.reserve_one.ensures.items)) (λ ks es index. index) (λ n a room. room) in
    (h.sound', h.has', h.index', h.stored')

pub returns-in_err-reserve_one-clause-err : goal.returns-in_err-reserve_one-clause-err
returns-in_err-reserve_one-clause-err c =
    let i = c.self.inside in
    on_err _ _ ((stays_so i.first.items i.root_line i.limit i.entries.items i.tables i.places i.reserved (vec_capacity i.entries - vec_len i.entries) c.self.invariant.0 c.self.invariant.1 c.self.invariant.2 c.self.invariant.3 c.reserve_one.new.entries.items (vec_capacity c.reserve_one.new.entries - vec_len c.reserve_one.new.entries) i.places c.reserve_one.ensures.items (omega (arith, c.reserve_one.ensures.keeps, ap (λ (l : List Stored). length l) c.reserve_one.ensures.items)) (λ ks es index. index) (λ n a room. room)).same ∙ c.self.view_is)

pub invariant_of-self-in_err-reserve : goal.invariant_of-self-in_err-reserve
invariant_of-self-in_err-reserve c =
    let i = c.self.inside in
    let h = stays_so i.first.items i.root_line i.limit i.entries.items i.tables i.places i.reserved (vec_capacity i.entries - vec_len i.entries) c.self.invariant.0 c.self.invariant.1 c.self.invariant.2 c.self.invariant.3 c.reserve_one.new.entries.items (vec_capacity c.reserve_one.new.entries - vec_len c.reserve_one.new.entries) c.reserve.new.self c.reserve_one.ensures.items (omega (arith, c.reserve_one.ensures.keeps, ap (λ (l : List Stored). length l) c.reserve_one.ensures.items)) c.reserve.ensures.same c.reserve.ensures.keeps in
    (h.sound', h.has', h.index', h.stored')

pub returns-in_err-reserve-clause-err : goal.returns-in_err-reserve-clause-err
returns-in_err-reserve-clause-err c =
    let i = c.self.inside in
    on_err _ _ ((stays_so i.first.items i.root_line i.limit i.entries.items i.tables i.places i.reserved (vec_capacity i.entries - vec_len i.entries) c.self.invariant.0 c.self.invariant.1 c.self.invariant.2 c.self.invariant.3 c.reserve_one.new.entries.items (vec_capacity c.reserve_one.new.entries - vec_len c.reserve_one.new.entries) c.reserve.new.self c.reserve_one.ensures.items (omega (arith, c.reserve_one.ensures.keeps, ap (λ (l : List Stored). length l) c.reserve_one.ensures.items)) c.reserve.ensures.same c.reserve.ensures.keeps).same ∙ c.self.view_is)

pub invariant_of-self-in_err-replaced : goal.invariant_of-self-in_err-replaced
invariant_of-self-in_err-replaced c =
    let i = c.self.inside in
    let h = stays i.first.items i.root_line i.limit i.entries.items i.tables i.places i.reserved (vec_capacity i.entries - vec_len i.entries) c.self.invariant.0 c.self.invariant.1 c.self.invariant.2 c.self.invariant.3 c.reserve_one.new.entries.items (vec_capacity c.reserve_one.new.entries - vec_len c.reserve_one.new.entries) c.apply.new.self c.reserve.new.self c.reserve_one.ensures.items (omega (arith, c.reserve_one.ensures.keeps, ap (λ (l : List Stored). length l) c.reserve_one.ensures.items)) c.in_err-replaced.ensures.err c.apply.ensures.names c.in_err-replaced.ensures.keeps c.reserve.ensures.same c.reserve.ensures.keeps in
    (h.sound', h.has', h.index', h.stored')

pub returns-in_err-replaced-clause-err : goal.returns-in_err-replaced-clause-err
returns-in_err-replaced-clause-err c =
    let i = c.self.inside in
    on_err _ _ ((stays i.first.items i.root_line i.limit i.entries.items i.tables i.places i.reserved (vec_capacity i.entries - vec_len i.entries) c.self.invariant.0 c.self.invariant.1 c.self.invariant.2 c.self.invariant.3 c.reserve_one.new.entries.items (vec_capacity c.reserve_one.new.entries - vec_len c.reserve_one.new.entries) c.apply.new.self c.reserve.new.self c.reserve_one.ensures.items (omega (arith, c.reserve_one.ensures.keeps, ap (λ (l : List Stored). length l) c.reserve_one.ensures.items)) c.in_err-replaced.ensures.err c.apply.ensures.names c.in_err-replaced.ensures.keeps c.reserve.ensures.same c.reserve.ensures.keeps).same ∙ c.self.view_is)

pub invariant_of-self-2 : goal.invariant_of-self-2
invariant_of-self-2 c =
    let i = c.self.inside in
    let is = ap (λ (h : Held). h.run) c.self.view_is in
    let h =
    entered i.first.items i.root_line i.limit i.entries.items i.tables i.places c.self.invariant.0 c.self.invariant.2 c.self.invariant.3 c.args.self.now.run is c.args.event c.requires.may c.requires.room c.args.to c.in_ok-replaced.replaced c.number_in-task.result
    c.reserve_one.new.entries.items c.push_reserved-2.new.self.items c.new.result c.apply.new.self c.count-at.result c.reserve.new.self c.push_reserved.new.self c.reserve_one.ensures.items c.push_reserved-2.ensures.items (c.new.ensures ∙ ap (λ a. stored c.number_in-task.result a c.in_ok-replaced.replaced) c.action_of.ensures) c.number_in-task.ensures
    c.in_ok-replaced.ensures.applied c.in_ok-replaced.ensures.replaced c.apply.ensures.names c.reserve.ensures.same c.push_reserved.ensures.pushed c.count-at.ensures.count in
    (h.sound', none_reserved _ _ _ _ c.forget.ensures, h.index', h.stored')

pub returns-clause-ok : goal.returns-clause-ok
returns-clause-ok c =
    let i = c.self.inside in
    let is = ap (λ (h : Held). h.run) c.self.view_is in
    let h =
    entered i.first.items i.root_line i.limit i.entries.items i.tables i.places c.self.invariant.0 c.self.invariant.2 c.self.invariant.3 c.args.self.now.run is c.args.event c.requires.may c.requires.room c.args.to c.in_ok-replaced.replaced c.number_in-task.result
    c.reserve_one.new.entries.items c.push_reserved-2.new.self.items c.new.result c.apply.new.self c.count-at.result c.reserve.new.self c.push_reserved.new.self c.reserve_one.ensures.items c.push_reserved-2.ensures.items (c.new.ensures ∙ ap (λ a. stored c.number_in-task.result a c.in_ok-replaced.replaced) c.action_of.ensures) c.number_in-task.ensures
    c.in_ok-replaced.ensures.applied c.in_ok-replaced.ensures.replaced c.apply.ensures.names c.reserve.ensures.same c.push_reserved.ensures.pushed c.count-at.ensures.count in
    h.run
