use Rattle.std.proofs.Common.{◌≡◌, []}
use Rattle.tb_session.specs.declared.halt.Halt.TheVariants.{Read}
use Rattle.tb_session.proofs.EndLemmas.{ran_no_command, ran_not_begun, ran_commands}
use Rattle.tb_session.proofs.session.run.Goals as goal

pub returns-in-Err-clause-ran : goal.returns-in-Err-clause-ran
returns-in-Err-clause-ran g c =
    let emptied : c.in-Err.halt ≡ Read → c.begin.new.reader ≡ [] = λ e. c.in-Err.ensures.emptied (cc) in
    ran_not_begun c.args.settings.workers c.args.settings.limit _ _ _ _ _ c.in-Err.halt c.new-reader.ensures c.in-Err.ensures.begun emptied c.in-Err.ensures.ahead

pub returns-in-Feed-clause-ran : goal.returns-in-Feed-clause-ran
returns-in-Feed-clause-ran g c =
    let begun = rw (c.new-reader.ensures, c.in-Feed.is) at c.in-Ok.ensures.begun in
    let served = rw c.new-workers.ensures at c.serve.ensures.served in
    ran_commands c.args.settings.workers c.args.settings.limit _ _ c.in-Ok.begun.0.session begun _ _ _ _ c.serve.result served c.serve.ensures.emptied c.serve.ensures.ahead

pub returns-in-Feed-clause-read : goal.returns-in-Feed-clause-read
returns-in-Feed-clause-read g c = rw (← c.in-Ok.ensures.ok) c.serve.ensures.read

pub returns-in-Input-clause-ran : goal.returns-in-Input-clause-ran
returns-in-Input-clause-ran g c =
    let begun = rw (c.new-reader.ensures, c.in-Input.is) at c.in-Ok.ensures.begun in
    ran_no_command c.args.settings.workers c.args.settings.limit _ _ _ _ begun
