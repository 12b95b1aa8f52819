-- What the passages of a draft say.
use Rattle.std.specs.Prelude.{ℕ, List, [], ◌∷◌, ◌++◌, string_bytes}
use Rattle.tb_model.specs.Spelling.{name_text}
use Rattle.tb_draft.specs.declared.passage.Passage.{Passage}

abbrev pub passage_text : Passage → List ℕ
passage_text p = string_bytes p.text ++ name_text p.name

abbrev pub passages_text : List Passage → List ℕ
passages_text [] = []
passages_text (p ∷ ps) = passage_text p ++ passages_text ps
