use Rattle.std.proofs.Common.{◌<◌, ◌∙◌, ◌-◌, ap, arith, length}
use Rattle.std.specs.Prelude.{remove}
use Rattle.tb_ready.specs.Gapped.{joined}
use Rattle.tb_ready.proofs.GappedLemmas.{first_out, length_joined}
use Rattle.tb_ready.proofs.gapped.Gapped.remove.Goals as goal

pub returns-clause-items : goal.returns-clause-items
returns-clause-items c =
    let items = ap (λ v. v.items) c.self.view_is in
    let within : c.args.place < length c.self.inside.ring.items =
    (let n = ap length items in let same = length_joined c.self.inside.behind c.self.inside.ring.items in omega (arith, c.requires, n, same)) in
    ap (joined (c.turned.result - 1)) c.pop_front-at.ensures.rest
    ∙ first_out c.turned.result c.turned.new.ring.items c.args.place (omega (arith, c.turned.ensures.behind, c.turned.ensures.len)) (omega (arith, c.turned.ensures.len, within))
    ∙ ap (λ xs. remove xs c.args.place) (c.turned.ensures.items ∙ items)
