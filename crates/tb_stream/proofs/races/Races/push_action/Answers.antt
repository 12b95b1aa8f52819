use Rattle.std.proofs.Common.{◌≡◌, ◌<◌, ◌∷◌, ◌^◌, ◌+◌, suc, length, true, false, refl, arith}
use Rattle.tb_model.specs.Facts.{own}
use Rattle.tb_stream.specs.Halves.{event_of}
use Rattle.tb_stream.proofs.RunLemmas.{a_run}
use Rattle.tb_stream.proofs.races.Races.push_action.Goals as goal

pub returns-clause-race : goal.returns-clause-race
returns-clause-race c cells H a l =
    let v = event_of c.args.name.now c.args.action.now in
    let id = c.id.ensures.some cells H c.in-Some.task a.ids c.in-Some.is in
    let number : c.steps-steps.result + 1 ≡ suc (length (own v.task H)) = omega (arith, c.steps-steps.ensures cells H v.task a.tasks id) in
    let small : length (v ∷ H) < 2 ^ 63 = omega (arith, a.count, (c.is_full.ensures c.if-is_full.false).0) in
    let strict = a_run c.args.self.now.halves.strict.order.clocks.lasts cells (v ∷ H) l small true in
    let loose = a_run c.args.self.now.halves.strict.order.clocks.lasts cells (v ∷ H) l small false in
    c.in_ok-race.ensures cells H strict.0 loose.0 a.ids strict.1 loose.1 number
    (c.in_ok-strict.ensures.strict H v a.halves (record { cells = cells; facts = a.tasks; legal = l; action_is = refl; at_is = a.count; id = id; number = number }))
    (c.in_ok-strict.ensures.loose H v a.halves (record { cells = cells; facts = a.tasks; legal = l; action_is = refl; at_is = a.count; id = id; number = number }))

pub returns-clause-more : goal.returns-clause-more
returns-clause-more c cells H a l =
    let v = event_of c.args.name.now c.args.action.now in
    let id = c.id.ensures.some cells H c.in-Some.task a.ids c.in-Some.is in
    let number : c.steps-steps.result + 1 ≡ suc (length (own v.task H)) = omega (arith, c.steps-steps.ensures cells H v.task a.tasks id) in
    record {
      legal = l;
      ids = c.in_ok-push-2.ensures.ok cells H v a.ids refl l;
      tasks = c.in_ok-push.ensures.ok cells H v a.tasks refl l id;
      count = omega (arith, a.count);
      halves = c.in_ok-strict.ensures.halves H v a.halves (record { cells = cells; facts = a.tasks; legal = l; action_is = refl; at_is = a.count; id = id; number = number });
    }
