use Rattle.std.proofs.Common.{◌≡◌, length}
use Rattle.tb_model.specs.Spelling.{spells_name}
use Rattle.tb_model.specs.Spelling.{IsLastPart}
use Rattle.tb_model.proofs.name_text.spells_name.Given as goal

abbrev pub invariant-parts : goal.invariant-parts
invariant-parts l = record {
  last : IsLastPart l.rest l.at;
  same : spells_name l.rest ≡ spells_name l.text;
}

abbrev pub decreases-parts : goal.decreases-parts
decreases-parts l = length l.rest
