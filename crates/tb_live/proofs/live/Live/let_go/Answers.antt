use Rattle.std.proofs.Common.{reverse, subst, sym}
use Rattle.tb_model.specs.Journal.{hist}
use Rattle.tb_control.specs.Claims.{Claims, AreLawful}
use Rattle.tb_control.proofs.ControlLemmas.{lawful_let_go}
use Rattle.tb_live.proofs.live.Live.let_go.Goals as goal

pub invariant_of-self : goal.invariant_of-self
invariant_of-self c =
    let i = c.self.inside in
    let H = hist (reverse i.journal.items) in
    (c.self.invariant.0, subst (λ (cs : Claims). AreLawful H cs) (sym c.let_go.ensures) (lawful_let_go H i.control.claims c.args.seat c.self.invariant.1), c.self.invariant.2, c.self.invariant.3)
