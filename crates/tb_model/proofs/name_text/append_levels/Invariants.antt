use Rattle.std.proofs.Common.{length, string_bytes}
use Rattle.tb_model.proofs.NumberTextLemmas.{IsNamed}
use Rattle.tb_model.specs.Texts.{Begins}
use Rattle.tb_model.proofs.name_text.append_levels.Given as goal

abbrev pub invariant-levels : goal.invariant-levels
invariant-levels l = record {
  named : IsNamed (string_bytes l.fn.text) l.numbers l.rest (string_bytes l.text);
  begins : Begins (string_bytes l.fn.text) (string_bytes l.text);
}

abbrev pub decreases-levels : goal.decreases-levels
decreases-levels l = length l.rest
