use Rattle.std.proofs.Common.{sym, subst, Option}
use Rattle.tb_model.specs.Names.{Name}
use Rattle.tb_core.specs.Seen.{history}
use Rattle.tb_next.specs.declared.coming.Coming.{Coming}
use Rattle.tb_next.specs.Floor.{IsFloor}
use Rattle.tb_next.specs.Plans.{IsLeastComing}
use Rattle.tb_next.proofs.FloorStepLemmas.{floor_raised}
use Rattle.tb_next.proofs.ready.least_behind.Goals as goal
use Rattle.tb_next.proofs.ready.least_behind.Goals.{in-Some, in_default}

pub returns-clause-floor : goal.returns-clause-floor
returns-clause-floor c =
    let P = c.args.program.now in
    let run = c.args.core.now.run in
    elim c.match-found.branch [
      | in-Some w ↦
          let ready = subst (λ (o : Option (Name × Coming)). IsLeastComing P run o) w.in-Some.is c.in_ok-found.ensures in
          subst (IsFloor P (history run)) (sym w.floor-is) (floor_raised P (history run) w.in-Some.found.0 w.raise.new.self ready.1 w.raise.ensures)
      | in_default w ↦ subst (IsFloor P (history run)) (sym w.floor-is) c.requires.floor
    ]
