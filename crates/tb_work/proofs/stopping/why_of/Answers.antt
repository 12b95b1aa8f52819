use Rattle.std.proofs.Common.{rules, ◌≡◌, Some}
use Rattle.tb_work.specs.Going.{paused_for}
use Rattle.tb_work.proofs.Whys.{why_paused}
use Rattle.tb_work.proofs.stopping.why_of.Goals as goal

pub returns-in-Some : goal.returns-in-Some
returns-in-Some c =
    let is : paused_for c.args.live.now.session.control.mode ≡ Some c.in-Some.why = search rules in
    why_paused c.args.live.now.session c.in-Some.why is
