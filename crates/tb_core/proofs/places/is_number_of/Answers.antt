use Rattle.std.proofs.Common.{arith, sym}
use Rattle.tb_steps.proofs.ScanLemmas.{has_numbered, has_none, has_not_so_many}
use Rattle.tb_core.proofs.places.is_number_of.Goals as goal

pub returns-then-id-eq0 : goal.returns-then-id-eq0
returns-then-id-eq0 c = λ H counted. has_none c.args.id.now H c.if-id-eq0.true

pub returns-then-steps-id : goal.returns-then-steps-id
returns-then-steps-id c = λ H counted. has_not_so_many c.args.id.now H c.args.steps counted c.if-steps-id.true

pub returns : goal.returns
returns c = λ H counted. sym (has_numbered c.args.id.now H (omega (arith, c.if-id-eq0.false)) (omega (arith, counted, c.if-steps-id.false)))
