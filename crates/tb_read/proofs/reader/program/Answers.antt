use Rattle.std.proofs.Common.{◌≡◌, ◌≤◌, ◌∙◌, sym, ap, map, arith, length, subst}
use Rattle.std.proofs.lemmas.List.{length-map}
use Rattle.tb_read.specs.Meaning.{IsProgramOf, first_number}
use Rattle.tb_read.specs.Shown.{ArePlaced}
use Rattle.tb_read.proofs.ReadLemmas.{lines_count}
use Rattle.tb_read.proofs.AcceptedLemmas.{has_of, program_means, program_kept}
use Rattle.tb_read.proofs.reader.program.Goals as goal

pub ways-requires : goal.ways-requires
ways-requires c = omega (arith, lines_count c.args.lines.now c.args.all.items c.requires.all)

pub instrs-requires-clause-few : goal.instrs-requires-clause-few
instrs-requires-clause-few c = omega (arith, lines_count c.args.lines.now c.args.all.items c.requires.all)

pub new-requires : goal.new-requires
new-requires c =
    let numbers = c.in_ok-cells.ensures ∙ ap (map first_number) (c.deref-2.ensures.value ∙ c.into_parts-given.ensures.cells) in
    let has = has_of c.args.lines.now c.args.before c.args.all.items c.in_ok-instrs.instrs.items _ _ c.args.root_line
    c.requires.accepted c.requires.told c.requires.all numbers c.into_parts-given.ensures.bodies c.requires.root_line c.in_ok-instrs.ensures.count c.in_ok-instrs.ensures.instrs in
    let shown : length (map first_number c.deref-2.result.now) ≡ length c.deref-2.result.now = simp length-map in
    let few : length c.in_ok-cells.cells.items ≤ 65536 = omega (arith, ap length c.in_ok-cells.ensures, shown, ap length c.deref-2.ensures.value, c.into_parts-given.ensures.few) in
    program_kept _ _ _ _ _ _ _ has few (omega (arith, lines_count c.args.lines.now c.args.all.items c.requires.all, c.requires.few)) (subst (λ n. ArePlaced n c.in_ok-instrs.instrs.items) (omega (arith, c.len.ensures)) c.in_ok-instrs.ensures.placed)

pub returns-clause-program : goal.returns-clause-program
returns-clause-program c =
    let numbers = c.in_ok-cells.ensures ∙ ap (map first_number) (c.deref-2.ensures.value ∙ c.into_parts-given.ensures.cells) in
    let has = has_of c.args.lines.now c.args.before c.args.all.items c.in_ok-instrs.instrs.items _ _ c.args.root_line
    c.requires.accepted c.requires.told c.requires.all numbers c.into_parts-given.ensures.bodies c.requires.root_line c.in_ok-instrs.ensures.count c.in_ok-instrs.ensures.instrs in
    subst (IsProgramOf (map (λ line. line.now) c.args.lines.now)) (sym c.new.ensures) (program_means _ _ _ _ _ _ _ has)
