use Rattle.std.proofs.Common.{◌≤◌, length, reverse, subst, arith}
use Rattle.std.proofs.lemmas.List.{length-map}
use Rattle.tb_model.specs.Legal.{Legal}
use Rattle.tb_steps.specs.Entries.{departure}
use Rattle.tb_core.specs.Seen.{Held, history}
use Rattle.tb_core.specs.Storing.{entries_in}
use Rattle.tb_core.proofs.run.Core.history_is_legal.Goals as goal

pub returns-clause-legal : goal.returns-clause-legal
returns-clause-legal c = subst (λ (h : Held). Legal h.run.cells (history h.run)) c.self.view_is c.self.invariant.0.legal

pub returns-clause-within : goal.returns-clause-within
returns-clause-within c = subst (λ (h : Held). length h.run.steps ≤ h.run.limit) c.self.view_is (omega (arith, c.self.invariant.0.within, length-map (reverse (entries_in c.self.inside.tables c.self.inside.entries.items)) departure))

pub returns-clause-bound : goal.returns-clause-bound
returns-clause-bound c = subst (λ (h : Held). h.run.limit ≤ 1000000) c.self.view_is c.self.invariant.0.bound
