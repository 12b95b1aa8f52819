use Rattle.std.proofs.Common.{length, string_bytes}
use Rattle.tb_model.specs.Texts.{Begins}
use Rattle.tb_model.proofs.NumberTextLemmas.{AreNamed}
use Rattle.tb_model.proofs.name_text.append_name.Given as goal

-- the blocks so far are named
abbrev pub invariant-blocks-2 : goal.invariant-blocks-2
invariant-blocks-2 l = record {
  named : AreNamed (string_bytes l.fn.text) l.initial.rest l.rest (string_bytes l.text);
  begins : Begins (string_bytes l.fn.text) (string_bytes l.text);
}

abbrev pub decreases-blocks-2 : goal.decreases-blocks-2
decreases-blocks-2 l = length l.rest
