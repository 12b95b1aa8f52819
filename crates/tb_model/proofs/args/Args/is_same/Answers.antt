use Rattle.std.proofs.Common.{ap₂, ◌∙◌, int_eq}
use Rattle.std.specs.Cmp.Lexicographic.{pointwise}
use Rattle.std.proofs.lemmas.Bool.Decides.{Decides-int_eq}
use Rattle.std.proofs.lemmas.Slice.Eq.{slice_eq-Decides}
use Rattle.tb_model.proofs.args.Args.is_same.Goals as goal

pub returns : goal.returns
returns c =
    slice_eq-Decides Decides-int_eq c.args.self.now c.args.other.now c.eq.result (c.eq.ensures ∙ ap₂ (pointwise int_eq) c.as_slice.ensures c.as_slice-2.ensures)
