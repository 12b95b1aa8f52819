use Rattle.std.proofs.Common.{◌≡◌, length, arith, sym, ap, ◌∙◌}
use Rattle.std.proofs.lemmas.List.{length-reverse}
use Rattle.std.proofs.lemmas.Result.{IfOk-weaker}
use Rattle.tb_team.specs.Lending.{IsBack}
use Rattle.tb_team.specs.Losing.{HasGap, IsLostBy}
use Rattle.tb_team.proofs.Counting.{seats_enough}
use Rattle.tb_team.proofs.Losses.{as_refused, unadopted}
use Rattle.tb_team.proofs.Returned.{begins_as, back_as}
use Rattle.tb_team.proofs.lending.lend_as.Goals as goal

pub returns-in-Ok-close-clause-back : goal.returns-in-Ok-close-clause-back
returns-in-Ok-close-clause-back g c =
    let old = c.args.live.session in
    let new = c.in-Ok-close.closed.live.session in
    let is : IsBack old new = record {
      program = c.in-Ok-close.ensures.program ∙ sym c.requires.live.0;
      limit = c.in-Ok-close.ensures.limit ∙ sym c.requires.live.1;
      breakpoints = c.in-Ok-close.ensures.breakpoints ∙ sym c.requires.live.2;
      seats = c.in-Ok-close.ensures.seats ∙ sym c.requires.live.3;
      begins = begins_as old new g.N.Team.begun c.requires.begun c.in-Ok-close.ensures.begins;
    } in
    IfOk-weaker c.unless_refused.result (λ back. back.session ≡ c.run_of.result.session) (λ back. IsBack old back.session)
    (λ back same. back_as old new back.session is (same ∙ ap (λ l. l.session) c.run_of.ensures)) c.unless_refused.ensures.kept

pub returns-in-Ok-close-clause-lost : goal.returns-in-Ok-close-clause-lost
returns-in-Ok-close-clause-lost g c =
    as_refused (IsLostBy g.N.Team.program g.N.Team.limit g.N.Team.breakpoints g.N.Team.seats g.N.Team.begun c.args.workers) c.unless_refused.result c.work-worked.result
    c.unless_refused.ensures.refused c.work-worked.ensures.lost

pub adopt-requires : goal.adopt-requires
adopt-requires g c = record {
  name = c.requires.name;
  one_each = c.requires.one_each;
  places = c.requires.places;
  from = omega (arith, c.requires.from, ap length c.requires.begun, length-reverse c.args.live.session.journal);
  live = c.requires.live;
  begun = c.requires.begun;
  own = c.requires.own;
}

pub work-worked-requires-clause-seats : goal.work-worked-requires-clause-seats
work-worked-requires-clause-seats g c = λ κs within. seats_enough c.args.workers _ _ _ c.requires.few c.requires.seats c.requires.live.3 c.in-Ok.ensures.seats.0

pub work-worked-requires-clause-numbers : goal.work-worked-requires-clause-numbers
work-worked-requires-clause-numbers g c = λ κs within. c.in-Ok.ensures.seats.1

pub close-requires : goal.close-requires
close-requires g c = record {
  all = c.work-worked.ensures.len ∙ c.in-Ok.ensures.seats.0;
  parts = sym c.requires.one_each ∙ c.requires.name.1;
}
