use Rattle.std.proofs.Common.{◌≡◌, ◌++◌, true, length, ◌≤◌}
use Rattle.tb_model.specs.Names.{AreFromOne}
use Rattle.tb_model.specs.Spelling.{spells_name, spelled_name, IsLastPart}
use Rattle.tb_model.proofs.name.TaskName.parse.Given as goal

-- the ordinals so far, then those of the parts that are left, are the name
abbrev pub invariant-parts : goal.invariant-parts
invariant-parts l = record {
  last : IsLastPart l.rest l.at;
  whole : spells_name l.text ≡ true;
  left : spells_name l.rest ≡ true;
  name : l.numbers.items ++ spelled_name l.rest ≡ spelled_name l.text;
  from_one : AreFromOne l.numbers.items;
  room : 8 ≤ l.numbers.capacity;
}

abbrev pub decreases-parts : goal.decreases-parts
decreases-parts l = length l.rest
