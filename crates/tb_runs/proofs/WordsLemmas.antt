-- The next word of a line.
use Rattle.std.proofs.Common.{◌≡◌, ℕ, suc, ◌<◌, ◌≤◌, List, [], ◌∷◌, take, drop, sym, false}
use Rattle.std.specs.List.{position_or_len}
use Rattle.tb_read.specs.Text.{is_blank, begins_comment, line_words}
use Rattle.tb_read.proofs.PieceLemmas.{word_found, blank_found}

pub next_word : (rest : List ℕ) (all : List (List ℕ)) (at : ℕ) → 0 < at → begins_comment rest ≡ false → at ≡ position_or_len is_blank rest →
    line_words rest ≡ all → all ≡ take at rest ∷ line_words (drop (suc at) rest)
next_word rest all at some code e h = sym (word_found [] rest all at some code e h)

pub past_blank : (rest : List ℕ) (all : List (List ℕ)) (at : ℕ) → at ≤ 0 → begins_comment rest ≡ false → at ≡ position_or_len is_blank rest →
    line_words rest ≡ all → line_words (drop (suc at) rest) ≡ all
past_blank rest all at none code e h = blank_found [] rest all at none code e h
