use Rattle.std.proofs.Common.{arith, length, reverse, ap}
use Rattle.std.proofs.lemmas.List.{length-map}
use Rattle.tb_core.specs.Seen.{Held, with_limit}
use Rattle.tb_steps.specs.Entries.{departure}
use Rattle.tb_core.specs.Storing.{entries_in}
use Rattle.tb_core.proofs.run.Core.set_limit.Goals as goal

pub invariant_of-self : goal.invariant_of-self
invariant_of-self c =
    let i = c.self.inside in
    let sound = c.self.invariant.0 in
    let steps = length-map (reverse (entries_in i.tables i.entries.items)) departure in (
      record {
        legal = sound.legal;
        records = sound.records;
        state = sound.state;
        within = omega (arith, steps, ap (λ (h : Held). length h.run.steps) c.self.view_is, c.requires.within);
        bound = c.requires.bound;
      },
      c.self.invariant.1,
      c.self.invariant.2,
      c.self.invariant.3,
    )

pub returns-clause-run : goal.returns-clause-run
returns-clause-run c = ap (λ (h : Held). with_limit c.args.limit h.run) c.self.view_is
