use Rattle.std.proofs.Common.{◌∙◌, map, Some, arith, refl}
use Rattle.std.proofs.lemmas.List.{length-map}
use borrow.Author.Count.{below_more}
use Rattle.tb_read.proofs.ListLemmas.{get_map}
use Rattle.tb_read.proofs.ReadLemmas.{same_setting, fault_here, told_behind, lines_behind}
use Rattle.tb_read.proofs.reading.read_lines.Goals as goal

pub loop-at-preserved : goal.loop-at-preserved
loop-at-preserved c =
    let here = get_map (λ line. line.now) c.args.lines.now c.loop-at.at c.item-text.result c.item-text.ensures in
    let setting = same_setting (map (λ line. line.now) c.args.lines.now) c.loop-at.at c.args.headings.now c.requires in
    let lines = map (λ line. line.now) c.args.lines.now in
    record {
      few = omega (arith, c.in-Ok.ensures.within);
      told = told_behind lines c.loop-at.at (Some c.item-text.result.now) _ _ c.loop-at.invariant.told here c.in-Ok.ensures.taken;
      faultless = below_more _ c.loop-at.at c.loop-at.invariant.faultless (fault_here lines c.loop-at.at (Some c.item-text.result.now) _ _ _ setting c.loop-at.invariant.told here c.in-Ok.ensures.accepted);
      lines = c.in-Ok.ensures.line ∙ lines_behind lines c.loop-at.at (Some c.item-text.result.now) _ _ _ _ setting c.loop-at.invariant.told here c.loop-at.invariant.lines refl;
    }

pub returns-in-Err-clause-refused : goal.returns-in-Err-clause-refused
returns-in-Err-clause-refused c other =
    let here = get_map (λ line. line.now) c.args.lines.now c.loop-at.at c.item-text.result c.item-text.ensures in
    let setting = same_setting (map (λ line. line.now) c.args.lines.now) c.loop-at.at c.args.headings.now c.requires in
    record {
      within = simp length-map (omega (arith, c.loop-at-test.true));
      here = fault_here (map (λ line. line.now) c.args.lines.now) c.loop-at.at (Some c.item-text.result.now) _ _ _ setting c.loop-at.invariant.told here (c.in-Err.ensures.refused other);
      none_before = c.loop-at.invariant.faultless;
    }
