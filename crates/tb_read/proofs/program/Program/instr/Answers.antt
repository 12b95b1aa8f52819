use Rattle.std.proofs.Common.{ap, length, map, ◌∙◌, subst}
use Rattle.tb_read.specs.Shown.{shown_instr, ArePlaced}
use Rattle.tb_read.proofs.ProgramLemmas.{instr_position, instr_shown, instr_line, instr_cells}
use Rattle.tb_read.proofs.program.Program.instr.Goals as goal

pub returns-clause-position : goal.returns-clause-position
returns-clause-position c =
    let same = ap (map shown_instr) c.deref.ensures.value ∙ ap (λ v. v.lines) c.self.view_is in
    instr_position c.deref.result.now c.args.self.now.lines same c.args.at (length c.self.inside.cells.items) (rw c.deref.ensures.value c.self.invariant.placed) c.slot_at.result c.slot_at.ensures.none c.slot_at.ensures.some

pub returns-clause-instr : goal.returns-clause-instr
returns-clause-instr c =
    let same = ap (map shown_instr) c.deref.ensures.value ∙ ap (λ v. v.lines) c.self.view_is in
    instr_shown c.deref.result.now c.args.self.now.lines same c.args.at (length c.self.inside.cells.items) (rw c.deref.ensures.value c.self.invariant.placed) c.slot_at.result c.slot_at.ensures.some

pub returns-clause-line : goal.returns-clause-line
returns-clause-line c =
    let same = ap (map shown_instr) c.deref.ensures.value ∙ ap (λ v. v.lines) c.self.view_is in
    instr_line c.deref.result.now c.args.self.now.lines same c.args.at (length c.self.inside.cells.items) (rw c.deref.ensures.value c.self.invariant.placed) c.slot_at.result c.slot_at.ensures.some

pub returns-clause-cells : goal.returns-clause-cells
returns-clause-cells c =
    let same = ap (map shown_instr) c.deref.ensures.value ∙ ap (λ v. v.lines) c.self.view_is in
    let placed : ArePlaced (length c.self.inside.cells.items) c.deref.result.now = rw c.deref.ensures.value c.self.invariant.placed in
    instr_cells c.deref.result.now c.args.self.now.lines same c.args.at _ (subst (λ n. ArePlaced n c.deref.result.now) (ap (λ v. length v.cells) c.self.view_is) placed) c.slot_at.result c.slot_at.ensures.some
