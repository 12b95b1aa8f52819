use Rattle.std.proofs.Common.{◌∙◌, ◌-◌, ◌<◌, ◌*◌, ap, sym, refl, length-set, arith}
use Rattle.std.proofs.lemmas.List.{drop_all}
use Rattle.std.specs.Prelude.{slice_index_or, slice_set, ◌+◌}
use Rattle.tb_model.specs.Spelling.{levels_text}
use Rattle.tb_model.proofs.NumberTextLemmas.{level_set, one_of_digits, levels_done}
use Rattle.tb_model.proofs.name_text.digit_levels.Goals as goal

pub loop-i-init : goal.loop-i-init
loop-i-init c = record {
  long = refl;
  named = sym (ap levels_text (drop_all 16 c.args.numbers.now (omega (arith, c.requires.sixteen))));
}

pub loop-i-preserved : goal.loop-i-preserved
loop-i-preserved c =
    let i = c.loop-i.i in
    let digit : slice_index_or c.args.numbers.now (15 - i) 0 < 10 = one_of_digits c.args.numbers.now (15 - i) 0 c.requires.digits (omega (arith, c.loop-i-test.true, c.requires.sixteen)) in
    record {
      long = length-set (slice_set c.loop-i.levels (2 * i) 46) (2 * i + 1) _ ∙ length-set c.loop-i.levels (2 * i) 46 ∙ c.loop-i.invariant.long;
      named = level_set c.loop-i.levels c.args.numbers.now i _ 0 c.loop-i-test.true c.requires.sixteen c.loop-i.invariant.long refl digit c.loop-i.invariant.named;
    }

pub returns : goal.returns
returns c = levels_done c.loop-i.levels c.args.numbers.now c.loop-i.i c.loop-i-test.false c.requires.sixteen c.loop-i.invariant.long c.loop-i.invariant.named
