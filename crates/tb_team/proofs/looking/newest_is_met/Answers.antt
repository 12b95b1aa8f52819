use Rattle.std.proofs.Common.{◌-◌, ap, sym, ◌∙◌, reverse, arith}
use Rattle.tb_model.specs.Lines.{events_of}
use Rattle.tb_core.proofs.RenumberLemmas.{some_entry}
use Rattle.tb_live.specs.Session.{history}
use Rattle.tb_team.specs.Looking.{meets_newest}
use Rattle.tb_team.proofs.Records.{run_of, newest_at, no_newest}
use Rattle.tb_team.proofs.looking.newest_is_met.Goals as goal

pub returns-then-all-eq0 : goal.returns-then-all-eq0
returns-then-all-eq0 c =
    let s = c.args.live.now.session in
    let steps = c.legal_entries-steps.result in
    no_newest s.program s.control.breakpoints.standing steps (history s) (sym c.len-all.ensures ∙ c.if-all-eq0.true) (ap events_of c.legal_entries-steps.ensures.steps ∙ c.core.ensures.history)

pub returns : goal.returns
returns c =
    let s = c.args.live.now.session in
    let points = c.breakpoints.result.now in
    let steps = c.legal_entries-steps.result in
    let e = c.legal_entries-steps.ensures in
    let run = run_of s.program c.core.result.now.run (reverse steps) c.core.ensures.fits e.steps e.records in
    let H = history s in
    let w = some_entry steps (c.len-all.result - 1) (omega arith) in
    c.is_met.ensures w.0 w.1 ∙ (newest_at s.program points steps c.len-all.result w.0 H c.len-all.ensures (omega arith) w.1 run (ap events_of e.steps ∙ c.core.ensures.history)
    ∙ ap (λ points. meets_newest s.program points H) c.breakpoints.ensures.standing)
