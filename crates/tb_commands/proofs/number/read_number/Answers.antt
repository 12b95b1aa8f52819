use Rattle.std.proofs.Common.{arith}
use Rattle.tb_commands.proofs.NumberLemmas.{no_text, small, unread}
use Rattle.tb_commands.proofs.number.read_number.Goals as goal

pub returns-in_default : goal.returns-in_default
returns-in_default c = no_text c.args.most c.args.word.now c.in_default.ensures.cases.0

pub returns-then-number-most : goal.returns-then-number-most
returns-then-number-most c =
    let given = rw c.in-Ok.ensures.cases.0 at c.parse.ensures.value.0 in
    small c.args.most c.args.word.now c.parse.result c.in-Ok-parse.number given c.in-Ok-parse.is (omega arith) c.if-number-most.true

pub returns-in-Err : goal.returns-in-Err
returns-in-Err c =
    let given = rw c.in-Ok.ensures.cases.0 at c.parse.ensures.value.0 in
    unread c.args.most c.args.word.now c.parse.result c.in-Err.field-0 given c.in-Err.is (omega arith) (omega arith)
