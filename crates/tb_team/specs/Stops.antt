-- How a reply says why a run of steps stops.
use Rattle.std.specs.Prelude.{ℕ, List, codes}
use Rattle.tb_team.specs.declared.stop.Stop.{Stop}
use Rattle.tb_team.specs.declared.stop.Stop.TheVariants.{Break, Limit, Done, Full}

abbrev pub stop_word : Stop → List ℕ
stop_word Break = codes "break"
stop_word Limit = codes "limit"
stop_word Done = codes "done"
stop_word Full = codes "full"
