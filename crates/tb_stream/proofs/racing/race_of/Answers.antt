use Rattle.std.proofs.Common.{Option, ap₂, false, true, rules}
use Rattle.std.specs.Option.{option_or}
use Rattle.tb_races.specs.declared.race.Race.{Race}
use Rattle.tb_stream.specs.Halves.{event_of}
use Rattle.tb_stream.proofs.HalfLemmas.{none_found}
use Rattle.tb_stream.proofs.racing.race_of.Goals as goal

pub returns-then-is_none-2 : goal.returns-then-is_none-2
returns-then-is_none-2 c cells H strict loose ids begins begun number newest excluded =
    let v = event_of c.args.name.now c.args.action.now in
    ap₂ (λ (a b : Option Race). option_or a b) (none_found true H v strict begins c.args.newest (search rules) newest)
    (none_found false H v loose begun c.args.excluded (search rules) excluded)
