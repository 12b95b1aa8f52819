use Rattle.std.proofs.Common.{◌≡◌, ◌+◌, ap, ◌∙◌, length}
use Rattle.std.proofs.lemmas.List.{length-append}
use Rattle.tb_depend.proofs.LayoutLemmas.{pushed_rows, pushed_ends}
use Rattle.tb_depend.proofs.layout.push_row.Goals as goal

pub returns-clause-rows : goal.returns-clause-rows
returns-clause-rows c =
    let long : length c.extend.new.self.items ≡ length c.args.chain.now.items + length c.args.new.now =
    ap length c.extend.ensures.items ∙ length-append c.args.chain.now.items c.args.new.now in
    pushed_rows c.args.ends.now.items c.push_reserved.new.self.items c.args.chain.now.items c.extend.new.self.items c.requires.ends
    _ c.args.new.now (c.len.ensures ∙ long) c.push_reserved.ensures.items c.extend.ensures.items

pub returns-clause-ends : goal.returns-clause-ends
returns-clause-ends c =
    let long : length c.extend.new.self.items ≡ length c.args.chain.now.items + length c.args.new.now =
    ap length c.extend.ensures.items ∙ length-append c.args.chain.now.items c.args.new.now in
    pushed_ends c.args.ends.now.items c.push_reserved.new.self.items c.args.chain.now.items c.extend.new.self.items c.requires.ends
    _ c.args.new.now (c.len.ensures ∙ long) c.push_reserved.ensures.items c.extend.ensures.items
