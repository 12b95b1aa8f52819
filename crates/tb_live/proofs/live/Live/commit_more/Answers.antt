use Rattle.std.proofs.Common.{ap, ◌∙◌, rules}
use Rattle.std.specs.Prelude.{Ok, Err}
use Rattle.tb_control.specs.Claims.{claim_of}
use Rattle.tb_live.specs.Moves.{coming}
use Rattle.tb_live.specs.Session.{Held}
use Rattle.tb_live.proofs.StepLemmas.{longer, same_held}
use Rattle.tb_live.proofs.CommitLemmas.{offered_native, may_open}
use Rattle.tb_live.proofs.GoingLemmas.{live_commits_more, as_ended}
use Rattle.tb_live.proofs.FloorAfterLemmas.{floor_committed}
use Rattle.tb_live.proofs.PreparedLemmas.{step_of_entry}
use Rattle.tb_live.proofs.live.Live.commit_more.Goals as goal

pub enter_on-requires-clause-shorter : goal.enter_on-requires-clause-shorter
enter_on-requires-clause-shorter c =
    let i = c.self.inside in
    longer i.program i.limit i.journal.items i.core.run c.self.invariant.0

pub returns-in-Some-clause-room : goal.returns-in-Some-clause-room
returns-in-Some-clause-room c = λ m given. absurd (c.withheld.ensures.blocked (search rules) m)

pub invariant_of-self : goal.invariant_of-self
invariant_of-self c =
    let i = c.self.inside in
    let native = offered_native i.program i.limit i.journal.items i.control i.core.run c.args.self.now.session (ap (λ (h : Held). h.session) c.self.view_is) c.self.invariant.0 c.args.seat c.args.plan c.in_default.ensures.none in
    let l = live_commits_more c.args.seat i.program i.limit i.journal.items i.control i.core.run c.args.self.now.session (ap (λ (h : Held). h.session) c.self.view_is) (c.self.invariant.0, c.self.invariant.1) c.args.plan c.in_default.ensures.none.claimed native
    c.len-place.result c.len-place.ensures c.enter_on.new.journal.items c.enter_on.new.control c.enter_on.new.core.run c.enter_on.result c.enter_on.ensures.entered in
    let e = as_ended i.limit c.args.seat i.core.run c.args.plan c.enter_on.new.core.run i.journal.items c.enter_on.new.journal.items i.control c.enter_on.new.control c.enter_on.result c.enter_on.ensures.entered in (
      l.keeps.sound,
      l.keeps.lawful,
      c.enter_on.ensures.serves,
      floor_committed i.limit c.args.seat i.program i.core.run c.enter_on.new.core.run c.args.plan i.journal.items c.enter_on.new.journal.items i.control e.0 c.enter_on.result c.self.invariant.0.fits native
          e.1 i.floor c.enter_on.new.floor c.enter_on.ensures.carried c.enter_on.ensures.stays c.self.invariant.3,
    )

pub returns-in-Ok-clause-committed : goal.returns-in-Ok-clause-committed
returns-in-Ok-clause-committed c =
    let i = c.self.inside in
    let native = offered_native i.program i.limit i.journal.items i.control i.core.run c.args.self.now.session (ap (λ (h : Held). h.session) c.self.view_is) c.self.invariant.0 c.args.seat c.args.plan c.in_default.ensures.none in
    (live_commits_more c.args.seat i.program i.limit i.journal.items i.control i.core.run c.args.self.now.session (ap (λ (h : Held). h.session) c.self.view_is) (c.self.invariant.0, c.self.invariant.1) c.args.plan c.in_default.ensures.none.claimed native
    c.len-place.result c.len-place.ensures c.enter_on.new.journal.items c.enter_on.new.control c.enter_on.new.core.run (Ok c.in-Ok.field-0) c.in-Ok.ensures.entered).answer

pub returns-clause-committed : goal.returns-clause-committed
returns-clause-committed c =
    let i = c.self.inside in
    let native = offered_native i.program i.limit i.journal.items i.control i.core.run c.args.self.now.session (ap (λ (h : Held). h.session) c.self.view_is) c.self.invariant.0 c.args.seat c.args.plan c.in_default.ensures.none in
    (live_commits_more c.args.seat i.program i.limit i.journal.items i.control i.core.run c.args.self.now.session (ap (λ (h : Held). h.session) c.self.view_is) (c.self.invariant.0, c.self.invariant.1) c.args.plan c.in_default.ensures.none.claimed native
    c.len-place.result c.len-place.ensures c.enter_on.new.journal.items c.enter_on.new.control c.enter_on.new.core.run (Err c.in-Err.refusal) c.in-Err.ensures.entered).answer

pub returns-clause-kept : goal.returns-clause-kept
returns-clause-kept c =
    let i = c.self.inside in
    let e = c.in-Err.ensures.entered in
    same_held i.program i.limit i.journal.items c.enter_on.new.journal.items i.control c.enter_on.new.control i.prepared c.enter_on.new.prepared c.args.self.now c.self.view_is e.1 e.2 c.in-Err.ensures.kept

-- what is prepared serves, so nothing is refused
pub returns-clause-room : goal.returns-clause-room
returns-clause-room c =
    let i = c.self.inside in
    let v = coming c.args.self.now.session c.args.plan.config.task in
    let native = offered_native i.program i.limit i.journal.items i.control i.core.run c.args.self.now.session (ap (λ (h : Held). h.session) c.self.view_is) c.self.invariant.0 c.args.seat c.args.plan c.in_default.ensures.none in
    λ m given.
    c.in-Err.ensures.succeeds (step_of_entry i.prepared c.args.seat v (ap (λ (h : Held). h.prepared) c.self.view_is ∙ given))
    (may_open i.program i.limit i.journal.items i.control i.core.run c.args.self.now.session (ap (λ (h : Held). h.session) c.self.view_is) c.self.invariant.0 c.args.seat c.args.plan native m)

pub enter_on-requires-clause-claimed : goal.enter_on-requires-clause-claimed
enter_on-requires-clause-claimed c =
    ap (λ (h : Held). claim_of h.session.control.claims c.args.seat) c.self.view_is ∙ c.in_default.ensures.none.claimed.claims
