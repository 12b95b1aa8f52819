use Rattle.tb_next.proofs.NativeLemmas.{told_result}
use Rattle.tb_next.proofs.ComingLemmas.{is_there, goes_on, kept_of, clear_of}
use Rattle.tb_next.proofs.ready.refusal_of.Goals as goal

pub hindrance-requires-clause-there : goal.hindrance-requires-clause-there
hindrance-requires-clause-there c = is_there c.args.program.now c.args.core.now.run c.args.task.now c.in_ok-coming.coming c.in_ok-coming.ensures

pub hindrance-requires-clause-going : goal.hindrance-requires-clause-going
hindrance-requires-clause-going c = goes_on c.args.program.now c.args.core.now.run c.args.task.now c.in_ok-coming.coming c.in_ok-coming.ensures

pub returns-in-Some-hindrance : goal.returns-in-Some-hindrance
returns-in-Some-hindrance c =
    let k = c.in_ok-coming.ensures in
    told_result c.args.program.now c.args.core.now.run c.args.task.now k.plan c.in-Some-hindrance.refusal c.told.result c.requires k.of_task
    (kept_of c.args.core.now.run c.args.task.now c.in_ok-coming.coming k.plan c.in-Some-hindrance.refusal k.says k.of_task.current c.in-Some-hindrance.ensures.some) c.told.ensures

pub returns : goal.returns
returns c = clear_of c.args.program.now c.args.core.now.run c.args.task.now c.in_ok-coming.coming c.in_ok-coming.ensures c.requires c.in-None.ensures.none
