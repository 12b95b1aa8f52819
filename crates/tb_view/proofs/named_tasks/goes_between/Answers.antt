use Rattle.std.proofs.Common.{◌++◌, reverse}
use Rattle.tb_view.proofs.NamedLemmas.{put_between, rises_front}
use Rattle.tb_view.proofs.named_tasks.goes_between.Goals as goal

pub comes_last-requires : goal.comes_last-requires
comes_last-requires c = rises_front (c.args.map.now.entries ++ c.args.front.now.items) (reverse c.args.back.now.items) c.requires

pub returns-then-comes_last : goal.returns-then-comes_last
returns-then-comes_last c = λ yes v.
    put_between c.args.map.now.entries c.args.front.now.items c.args.back.now.items c.args.name.now v (c.comes_last.ensures c.if-comes_last.true) (c.comes_before.ensures yes)
