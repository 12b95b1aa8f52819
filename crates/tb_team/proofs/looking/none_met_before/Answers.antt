use Rattle.std.proofs.Common.{◌≡◌, ◌≤◌, ◌-◌, ap, ap₂, drop, length, reverse, sym, subst, ◌∙◌, arith}
use Rattle.tb_model.specs.Lines.{events_of}
use Rattle.tb_model.specs.Facts.{History}
use Rattle.tb_control.specs.declared.breakpoint.Breakpoint.{Breakpoint}
use Rattle.std.proofs.Common.{List}
use Rattle.tb_live.specs.Session.{history}
use Rattle.tb_team.specs.Looking.{none_met}
use Rattle.tb_team.proofs.Records.{as_many, run_of, none_before}
use Rattle.tb_team.proofs.looking.none_met_before.Goals as goal

pub returns-then-count-lt2 : goal.returns-then-count-lt2
returns-then-count-lt2 c =
    let s = c.args.live.now.session in
    let none : 0 ≡ c.args.count - 1 = omega arith in
    ap (λ k. none_met s.program s.control.breakpoints.standing k (drop 1 (history s))) none

pub returns : goal.returns
returns c =
    let s = c.args.live.now.session in
    let steps = c.legal_entries-steps.result in
    let e = c.legal_entries-steps.ensures in
    let run = run_of s.program c.core.result.now.run (reverse steps) c.core.ensures.fits e.steps e.records in
    let same = ap events_of e.steps ∙ c.core.ensures.history in
    let many = as_many steps (history s) c.len-all.result c.len-all.ensures same in
    let enough : c.args.count ≤ c.len-all.result = subst (λ n. c.args.count ≤ n) (sym many) c.requires in
    let done = none_before s.program c.breakpoints.result.now steps c.args.count c.len-all.result c.len-all.ensures c.if-count-lt2.false enough run in
    c.none_met.ensures ∙ sym done
    ∙ ap₂ (λ (points : List Breakpoint) (H : History). none_met s.program points (c.args.count - 1) (drop 1 H)) c.breakpoints.ensures.standing same
