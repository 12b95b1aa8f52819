use Rattle.std.proofs.Common.{◌≤◌, arith, ap, length, reverse, subst}
use Rattle.tb_model.specs.Journal.{Sound}
use Rattle.tb_model.specs.Program.{LegalFor}
use Rattle.tb_live.specs.Session.{Session, Held, history}
use Rattle.tb_live.proofs.RunLemmas.{shorter}
use Rattle.tb_live.proofs.live.Live.journal_is_sound.Goals as goal

pub returns-clause-sound : goal.returns-clause-sound
returns-clause-sound c = subst (λ (s : Session). Sound s.program s.journal) (ap (λ (h : Held). h.session) c.self.view_is) c.self.invariant.0.sound

pub returns-clause-legal : goal.returns-clause-legal
returns-clause-legal c =
    let i = c.self.inside in
    subst (λ (s : Session). LegalFor s.program (history s)) (ap (λ (h : Held). h.session) c.self.view_is)
    (subst (LegalFor i.program) c.self.invariant.0.leaves c.self.invariant.0.fits.legal)

pub returns-clause-within : goal.returns-clause-within
returns-clause-within c = subst (λ (s : Session). length s.journal ≤ s.limit) (ap (λ (h : Held). h.session) c.self.view_is) c.self.invariant.0.within

pub returns-clause-bound : goal.returns-clause-bound
returns-clause-bound c = subst (λ (s : Session). s.limit ≤ 1000000) (ap (λ (h : Held). h.session) c.self.view_is) c.self.invariant.0.bound

pub returns-clause-begun : goal.returns-clause-begun
returns-clause-begun c =
    let i = c.self.inside in
    let begun = shorter i.program (reverse i.journal.items) c.self.invariant.0.sound in
    subst (λ (s : Session). 1 ≤ length s.journal) (ap (λ (h : Held). h.session) c.self.view_is) (omega (arith, begun))
