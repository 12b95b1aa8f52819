use Rattle.std.proofs.Common.{string_bytes}
use Rattle.tb_model.proofs.NumberTextLemmas.{levels_more, named_begins}
use Rattle.tb_model.proofs.name_text.append_levels.Goals as goal

pub levels-preserved-in-Some : goal.levels-preserved-in-Some
levels-preserved-in-Some c =
    let named = levels_more (string_bytes c.args.text.now) c.args.numbers.now c.levels.rest.now (string_bytes c.levels.text) (string_bytes c.append_digits.new.text) c.in-Some.at
    c.levels.invariant.named c.in_ok-append_digits-in-Some.ensures.ok
    in record {
      named = named;
      begins = named_begins _ _ _ _ named;
    }
