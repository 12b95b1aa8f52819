use Rattle.std.proofs.Common.{◌∷◌, false, true, subst, sym}
use Rattle.tb_stream.specs.Halves.{IsLoose}
use Rattle.tb_stream.proofs.ExclusionLemmas.{found_same, loose_half, loose_none, none_more}
use Rattle.tb_stream.proofs.halves.Halves.take.Goals as goal

pub returns-in_ok-loose-in-Some-clause-strict : goal.returns-in_ok-loose-in-Some-clause-strict
returns-in_ok-loose-in-Some-clause-strict c H v are takes = c.in_ok-strict.ensures.newest true H v (c.in_ok-part.ensures.halves H are).strict takes

pub returns-in-None-clause-strict : goal.returns-in-None-clause-strict
returns-in-None-clause-strict c H v are takes = c.in_ok-strict.ensures.newest true H v (c.in_ok-part.ensures.halves H are).strict takes

pub returns-in_ok-loose-in-Some-clause-loose : goal.returns-in_ok-loose-in-Some-clause-loose
returns-in_ok-loose-in-Some-clause-loose c H v are takes =
    let parted = c.in_ok-part.ensures.halves H are in
    c.in_ok-loose-in-Some.ensures.newest false H v (loose_half H c.part.new.self.loose c.in-Some.half parted.loose c.in-Some.is) takes

pub returns-in-None-clause-loose : goal.returns-in-None-clause-loose
returns-in-None-clause-loose c H v are takes =
    let parted = c.in_ok-part.ensures.halves H are in
    found_same H v c.in_ok-strict.strict (loose_none H c.part.new.self.loose parted.loose c.in-None.is) (c.in_ok-strict.ensures.newest true H v parted.strict takes)

pub returns-in_ok-loose-in-Some-clause-halves : goal.returns-in_ok-loose-in-Some-clause-halves
returns-in_ok-loose-in-Some-clause-halves c H v are takes =
    let parted = c.in_ok-part.ensures.halves H are in record {
      strict = c.in_ok-strict.ensures.half true H v parted.strict takes;
      loose = c.in_ok-loose-in-Some.ensures.half false H v (loose_half H c.part.new.self.loose c.in-Some.half parted.loose c.in-Some.is) takes;
    }

pub returns-in-None-clause-halves : goal.returns-in-None-clause-halves
returns-in-None-clause-halves c H v are takes =
    let parted = c.in_ok-part.ensures.halves H are in record {
      strict = c.in_ok-strict.ensures.half true H v parted.strict takes;
      loose = subst (IsLoose (v ∷ H)) (sym c.in-None.is)
          (none_more H v c.args.action.now takes.action_is (c.in_ok-part.ensures.parted c.in-None.is) (loose_none H c.part.new.self.loose parted.loose c.in-None.is));
    }
