use Rattle.std.proofs.Common.{sym, ◌∙◌}
use Rattle.tb_taskcheck.proofs.FoundLemmas.{found_one, four_ok}
use Rattle.tb_taskcheck.proofs.found.Found.push.Goals as goal

pub returns-in-Some : goal.returns-in-Some
returns-in-Some c =
    four_ok c.list.result
    (λ kept line one kind H is.
    found_one H c.args.event.now c.args.self.now c.push.new.self (λ cells. c.in_ok-race.ensures.more cells H) is c.in-Some.race c.list.new.self kept line one kind
    (λ cells held legal. sym c.in-Some.is ∙ c.in_ok-race.ensures.race cells H held legal))
    c.list.ensures.races c.list.ensures.lines c.list.ensures.count c.list.ensures.unordered
