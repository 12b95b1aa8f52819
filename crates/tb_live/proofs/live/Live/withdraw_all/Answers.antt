use Rattle.std.proofs.Common.{reverse, subst, sym, true}
use Rattle.tb_model.specs.Journal.{hist}
use Rattle.tb_control.specs.Claims.{Claims, AreLawful}
use Rattle.tb_control.proofs.ControlLemmas.{lawful_fewer}
use Rattle.tb_live.proofs.live.Live.withdraw_all.Goals as goal

pub invariant_of-self : goal.invariant_of-self
invariant_of-self c =
    let i = c.self.inside in
    let H = hist (reverse i.journal.items) in
    (c.self.invariant.0, subst (λ (cs : Claims). AreLawful H cs) (sym c.withdraw_all.ensures) (lawful_fewer H i.control.claims (λ t. true) c.self.invariant.1), c.self.invariant.2, c.self.invariant.3)
