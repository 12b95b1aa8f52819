use Rattle.tb_clocks.proofs.StepLemmas.{advances, get_at, stays, on_ok_then, on_err_then}
use Rattle.tb_clocks.proofs.rows.advance.Goals as goal

pub returns-clause-ok : goal.returns-clause-ok
returns-clause-ok c =
    let item = c.in-Some.ensures.item in
    let was = get_at c.args.rows.now.items c.args.task c.in-Some.row.now item.3.0 item.1 in
    on_ok_then c.advance.result c.advance.ensures.ok (advances c.args.task c.args.at c.args.action.now c.args.rows.now.items c.in-Some.row.now c.advance.new.self was c.advance.ensures.parent c.advance.ensures.ordinal)

pub returns-clause-err : goal.returns-clause-err
returns-clause-err c =
    let item = c.in-Some.ensures.item in
    let was = get_at c.args.rows.now.items c.args.task c.in-Some.row.now item.3.0 item.1 in
    on_err_then c.advance.result c.advance.ensures.err (stays c.args.task c.args.rows.now.items c.in-Some.row.now c.advance.new.self was c.advance.ensures.parent c.advance.ensures.ordinal)
