use Rattle.std.proofs.Common.{◌≡◌, length, take}
use Rattle.indexmap.specs.IndexMap.{get}
use Rattle.tb_model.specs.Names.{Name, same_name}
use Rattle.tb_model.specs.Facts.{own}
use Rattle.tb_steps.specs.Scans.{history_of}
use Rattle.tb_cause.specs.Indexes.{AreNumbers, count_in}
use Rattle.tb_cause.proofs.names.numbers_of.Given as goal

abbrev pub invariant-loop-at : goal.invariant-loop-at
invariant-loop-at l = record {
  counted : (t : Name) → count_in (get same_name l.counts) t ≡ length (own t (history_of (take l.at l.entries)));
  numbered : AreNumbers l.entries l.at l.numbers.items;
}
