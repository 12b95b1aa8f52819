-- A line that doesn't begin as `---` does is no divider.
use Rattle.std.proofs.Common.{◌≡◌, ℕ, false, List, [], ◌∷◌, refl, sym, codes}
use Rattle.tb_read.specs.Text.{line_words, begins_with}
use Rattle.tb_read.specs.Word.{Word, same_word, word_at}
use Rattle.tb_read.proofs.BeginningLemmas.{not_begun}
use Rattle.tb_session.specs.Divider.{are_dashes, is_divider}

not_dashes : (words : List Word) → same_word (word_at words 0) (codes "---") ≡ false → false ≡ are_dashes words
not_dashes [] h = refl
not_dashes (word ∷ []) h = sym h
not_dashes (word ∷ other ∷ words) h = refl

pub no_divider : (line : List ℕ) → begins_with 45 line ≡ false → false ≡ is_divider line
no_divider line h = not_dashes (line_words line) (not_begun 45 (45 ∷ 45 ∷ []) line h)
