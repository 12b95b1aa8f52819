use Rattle.tb_stream.proofs.races.Races.push.Goals as goal

pub returns-clause-race : goal.returns-clause-race
returns-clause-race c = c.push_action.ensures.race

pub returns-clause-more : goal.returns-clause-more
returns-clause-more c = c.push_action.ensures.more
