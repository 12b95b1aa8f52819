use Rattle.std.proofs.Common.{◌<◌, length, subst, ap, ap₂, sym, ◌∙◌, suc, rules, arith, to_z-of_z, w64, SFits}
use Rattle.std.proofs.lemmas.List.{length-map}
use Rattle.tb_model.specs.Facts.{own, is_spawned}
use Rattle.tb_model.specs.Legal.{spawn_count}
use Rattle.tb_model.specs.Lines.{Departure, events_of}
use Rattle.tb_model.specs.Names.{child}
use Rattle.tb_verdict.specs.Memory.{IsLongRefusal}
use Rattle.tb_verdict.specs.Refusals.{misread, misnamed, unopened, unfit}
use Rattle.tb_verdict.proofs.FollowLemmas.{counted, few_children}
use Rattle.tb_verdict.proofs.RefusalLemmas.{mapped, on_err_then}
use Rattle.tb_verdict.proofs.ValueLemmas.{loaded_within}
use Rattle.tb_verdict.proofs.unfit.unfit.Goals as goal

pub misnamed-requires : goal.misnamed-requires
misnamed-requires c =
    let first = c.requires.run.0 in
    let root_line = c.requires.run.1 in
    let D = c.requires.run.2 in
    let run = c.requires.run.3 in
    let count = counted c.children.result (is_spawned (events_of D) c.args.task.now) (spawn_count (own c.args.task.now (events_of D))) (c.children.ensures root_line D run.state) (c.requires.there first root_line D run) in
    let few = few_children c.args.task.now (events_of D) 4294967295 (omega (arith, length-map D (λ (d : Departure). d.event), run.few)) in
    omega (arith, c.unwrap_or-children.ensures, count, few)

pub returns-in-Load-clause-ok : goal.returns-in-Load-clause-ok
returns-in-Load-clause-ok c first root_line D run =
    let value : SFits w64 c.in-Load.value = search rules in
    let number : SFits w64 c.value_of.result = search rules in
    let inside : c.in-Load.cell < length first = loaded_within c.args.state.now.cells c.args.action.now _ c.in-Load.cell c.in-Load.value first c.in-Load.is run.cells c.requires.allowed in
    let read = c.value_of.ensures ∙ run.values c.in-Load.cell inside in
    c.misread.ensures ∙ ap₂ misread (to_z-of_z value) (to_z-of_z number ∙ read) ∙ sym (ap (unfit first (events_of D) c.args.task.now) c.in-Load.is)

pub returns-in-Spawn-clause-ok : goal.returns-in-Spawn-clause-ok
returns-in-Spawn-clause-ok c =
    mapped c.misnamed.result c.misnamed.ensures.ok (λ r is first root_line D run.
    let count = counted c.children.result (is_spawned (events_of D) c.args.task.now) (spawn_count (own c.args.task.now (events_of D))) (c.children.ensures root_line D run.state) (c.requires.there first root_line D run) in
    is ∙ ap₂ (λ name n. misnamed name (child c.args.task.now (suc n))) (ap (λ s. s.child) c.get.ensures) (c.unwrap_or-children.ensures ∙ count)
    ∙ sym (ap (unfit first (events_of D) c.args.task.now) c.in-Spawn.is))

pub returns-in-Close-clause-ok : goal.returns-in-Close-clause-ok
returns-in-Close-clause-ok c first root_line D run =
    c.unopened.ensures ∙ ap unopened (c.groups.ensures first root_line D run.legal run.state) ∙ sym (ap (unfit first (events_of D) c.args.task.now) c.in-Close.is)

pub returns-in-Spawn-clause-memory : goal.returns-in-Spawn-clause-memory
returns-in-Spawn-clause-memory c =
    on_err_then c.misnamed.result c.misnamed.ensures.memory (λ long first root_line D run.
    let count = counted c.children.result (is_spawned (events_of D) c.args.task.now) (spawn_count (own c.args.task.now (events_of D))) (c.children.ensures root_line D run.state) (c.requires.there first root_line D run) in
    subst IsLongRefusal (ap₂ (λ name n. misnamed name (child c.args.task.now (suc n))) (ap (λ s. s.child) c.get.ensures) (c.unwrap_or-children.ensures ∙ count)
    ∙ sym (ap (unfit first (events_of D) c.args.task.now) c.in-Spawn.is)) long)
