use Rattle.std.proofs.Common.{◌∙◌, ap, arith}
use Rattle.std.specs.Prelude.{insert}
use Rattle.tb_ready.specs.Gapped.{joined}
use Rattle.tb_ready.proofs.GappedLemmas.{put_in}
use Rattle.tb_ready.proofs.gapped.Gapped.insert.Goals as goal

pub returns-clause-items : goal.returns-clause-items
returns-clause-items c =
    let items = ap (λ v. v.items) c.self.view_is in
    ap (joined c.turned-self-inside.result) c.push_back_reserved.ensures.items
    ∙ put_in c.turned-self-inside.result c.turned-self-inside.new.ring.items c.args.place c.args.at (omega (arith, c.turned-self-inside.ensures.behind, c.turned-self-inside.ensures.len))
    ∙ ap (λ xs. insert xs c.args.place c.args.at) (c.turned-self-inside.ensures.items ∙ items)
