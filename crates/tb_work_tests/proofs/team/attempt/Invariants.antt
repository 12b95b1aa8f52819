use Rattle.tb_work.specs.Changes.{entries}
use Rattle.tb_work_tests.proofs.team.attempt.Given as goal

abbrev pub ghosts-play_named-N-Team : goal.ghosts-play_named-N-Team
ghosts-play_named-N-Team g a = record {
  seats = a.blank.parts;
  slots = a.places;
  program = a.live.session.program;
  limit = a.live.session.limit;
  breakpoints = a.live.session.control.breakpoints;
  begun = entries a.live.session;
}

abbrev pub ghosts-play_named-N-Ledger : goal.ghosts-play_named-N-Ledger
ghosts-play_named-N-Ledger g a = record { name = a.blank.name; parts = a.blank.parts }
