use Rattle.std.proofs.Common.{◌∙◌}
use Rattle.tb_stream.proofs.CopyLemmas.{zipped, zipped_rows}
use Rattle.tb_stream.proofs.copying.copy_clocks.Goals as goal

pub returns : goal.returns
returns c = record {
  newest = c.in_ok-copy_marks.ensures ∙ c.deref.ensures.value;
  origins = c.in_ok-copy_marks-2.ensures ∙ c.deref-2.ensures.value;
  rows = zipped_rows _ (λ v w h. zipped _ (λ x y e. e) _ _ h.0) _ _ c.in_ok-clone.ensures.cases.0;
  lasts = zipped _ (λ x y e. e) _ _ c.in_ok-clone-2.ensures.cases.0;
}
