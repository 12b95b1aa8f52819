use Rattle.std.proofs.Common.{◌∙◌, refl, sym, ap, map, length, reverse, arith}
use Rattle.std.proofs.lemmas.List.{length-map, reverse-reverse}
use Rattle.tb_read.specs.Shown.{shown_line}
use Rattle.tb_read.proofs.ProgramLemmas.{instrs_push, placed_push}
use Rattle.tb_read.proofs.ListLemmas.{pushed_length, get_map, turned_last}
use Rattle.tb_read.proofs.build.instrs.Goals as goal

pub loop-at-init : goal.loop-at-init
loop-at-init c =
    let turned = sym (ap reverse c.reverse.ensures.items ∙ reverse-reverse c.args.lines.items) in
    grind (arith, c.reverse.ensures.len, turned)

pub loop-at-preserved : goal.loop-at-preserved
loop-at-preserved c =
    let shown = map shown_line c.args.lines.items in
    let next = turned_last c.args.lines.items c.loop-at.left.items c.take_last-line.new.lines.items c.loop-at.at c.take_last-line.result c.loop-at.invariant.left c.take_last-line.ensures in
    let here = get_map shown_line c.args.lines.items c.loop-at.at c.take_last-line.result next.0 in
    let instr = c.instr_at.ensures.instr shown c.requires.ways (simp length-map (omega arith)) here in
    record {
      left_count = omega (arith, pushed_length c.take_last-line.new.lines.items c.loop-at.left.items c.take_last-line.result (length c.take_last-line.new.lines.items) refl c.take_last-line.ensures, c.loop-at.invariant.left_count);
      left = next.1;
      count = pushed_length c.loop-at.instrs.items c.push.new.self.items c.instr_at.result c.loop-at.at c.loop-at.invariant.count c.in_ok-push.ensures.items;
      instrs = instrs_push shown c.loop-at.instrs.items c.push.new.self.items c.instr_at.result c.loop-at.at c.loop-at.invariant.count c.in_ok-push.ensures.items c.loop-at.invariant.instrs instr;
      placed = placed_push c.args.cells c.loop-at.instrs.items c.push.new.self.items c.instr_at.result c.loop-at.at c.loop-at.invariant.count c.in_ok-push.ensures.items c.loop-at.invariant.placed c.instr_at.ensures.placed;
    }
