use Rattle.std.proofs.Common.{◌≡◌, ◌+◌, ◌-◌, ◌∙◌, ap, arith, rules, length}
use Rattle.tb_ready.specs.Gapped.{joined}
use Rattle.tb_ready.proofs.GappedLemmas.{turned_left, turned_right}
use Rattle.tb_ready.proofs.gapped.turned.Goals as goal

pub returns-then-wanted-behind-clause-items : goal.returns-then-wanted-behind-clause-items
returns-then-wanted-behind-clause-items c =
    let wanted = c.len.result - c.args.place in
    let more : c.args.behind - wanted + wanted ≡ c.args.behind = omega (arith, c.if-wanted-behind.true) in
    ap (joined wanted) c.rotate_left.ensures.items
    ∙ turned_left (c.args.behind - wanted) wanted c.args.ring.now.items (omega (arith, more, c.requires.behind))
    ∙ ap (λ k. joined k c.args.ring.now.items) more

pub returns-then-behind-wanted-clause-items : goal.returns-then-behind-wanted-clause-items
returns-then-behind-wanted-clause-items c =
    let wanted = c.len.result - c.args.place in
    let more : wanted ≡ wanted - c.args.behind + c.args.behind = omega (arith, c.if-behind-wanted.true) in
    let len : c.len.result ≡ length c.args.ring.now.items = search rules in
    ap (λ k. joined k c.rotate_right.new.self.items) more
    ∙ ap (joined (wanted - c.args.behind + c.args.behind)) c.rotate_right.ensures.items
    ∙ turned_right (wanted - c.args.behind) c.args.behind _ c.args.ring.now.items (omega (arith, more, len)) (omega (arith, more, len))
