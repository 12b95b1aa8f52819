use Rattle.std.proofs.Common.{length}
use Rattle.tb_work.specs.Changes.{entries}
use Rattle.tb_team.proofs.lending.lend.Given as goal

-- the team is named by what it is handed
abbrev pub ghosts-lend_as-N-Team : goal.ghosts-lend_as-N-Team
ghosts-lend_as-N-Team g a = record {
  seats = length a.live.session.control.claims;
  slots = a.places;
  program = a.live.session.program;
  limit = a.live.session.limit;
  breakpoints = a.live.session.control.breakpoints;
  begun = entries a.live.session;
}

abbrev pub ghosts-lend_as-N-Ledger : goal.ghosts-lend_as-N-Ledger
ghosts-lend_as-N-Ledger g a = record { name = a.blank.name; parts = a.blank.parts }
