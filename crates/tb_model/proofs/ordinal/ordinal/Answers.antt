use Rattle.std.proofs.Common.{arith}
use Rattle.tb_model.proofs.OrdinalLemmas.{no_text, small, unread}
use Rattle.tb_model.proofs.ordinal.ordinal.Goals as goal

pub returns-in_default : goal.returns-in_default
returns-in_default c = no_text c.args.digits.now c.in_default.ensures.cases.0

pub returns-then-n-le1000000 : goal.returns-then-n-le1000000
returns-then-n-le1000000 c =
    let given = rw c.in-Ok.ensures.cases.0 at c.parse.ensures.value.0 in
    small c.args.digits.now c.parse.result c.in-Ok-parse.n given c.in-Ok-parse.is (omega arith) (omega arith) c.if-n-le1000000.true

pub returns-in-Err : goal.returns-in-Err
returns-in-Err c =
    let given = rw c.in-Ok.ensures.cases.0 at c.parse.ensures.value.0 in
    unread c.args.digits.now c.parse.result c.in-Err.field-0 given c.in-Err.is (omega arith)
