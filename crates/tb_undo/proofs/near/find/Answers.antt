use Rattle.std.proofs.Common.{sym, ap, ◌∙◌}
use Rattle.tb_wait.specs.Kin.{place}
use Rattle.tb_undo.proofs.near.find.Goals as goal

pub returns-then-stands_at : goal.returns-then-stands_at
returns-then-stands_at c =
    let at = c.stands_at.ensures c.if-stands_at.true in
    sym (ap (place c.args.waits.now.tasks) (sym at.2) ∙ c.requires.placed c.args.near at.0 at.1)
