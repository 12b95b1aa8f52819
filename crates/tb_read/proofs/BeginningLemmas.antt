-- The first word of a line, by its first byte.
use Rattle.std.proofs.Common.{◌≡◌, ℕ, Bool, true, false, List, [], ◌∷◌, ◌++◌, None, cond, arith, refl, ap, sym, ◌∙◌, append-nil, ◌&&◌, ◌==◌}
use Rattle.std.specs.List.{position_or_len, filter}
use Rattle.std.specs.Option.{option_to_list}
use Rattle.std.proofs.lemmas.Bool.Decides.{nat_tests}
use Rattle.tb_read.specs.Text.{is_blank, is_word, pieces, onto_first, uncommented, words_of, line_words, begins_with}
use Rattle.tb_read.specs.Word.{Word, same_word, word_at}
use Rattle.tb_read.specs.Headings.{heading_of, heading_in, is_heading}
use Rattle.tb_read.specs.declared.heading.Heading.{Heading}
use Rattle.tb_read.proofs.PieceLemmas.{blank_found}

blank_is_code : (b : ℕ) → is_blank b ≡ true → (b == 35) ≡ false
blank_is_code b h = grind (arith, nat_tests)

-- a blank before a line changes none of its words
after_blank : (b : ℕ) (bytes : List ℕ) → is_blank b ≡ true → line_words bytes ≡ line_words (b ∷ bytes)
after_blank b bytes h =
    let none : 0 ≡ position_or_len is_blank (b ∷ bytes) = rw h refl in
    blank_found [] (b ∷ bytes) (line_words (b ∷ bytes)) 0 (omega arith) (blank_is_code b h) none refl

first_of : (b first : ℕ) (rest : List ℕ) (pieces : List (List ℕ)) → (b == first) ≡ false →
    same_word (word_at (filter is_word (onto_first b pieces)) 0) (first ∷ rest) ≡ false
first_of b first rest [] h = rw h refl
first_of b first rest (piece ∷ pieces) h = rw h refl

first_by : (comment : Bool) (b first : ℕ) (rest bytes : List ℕ) → is_blank b ≡ false → (b == first) ≡ false →
    same_word (word_at (words_of (cond comment [] (b ∷ uncommented (is_blank b) bytes))) 0) (first ∷ rest) ≡ false
first_by true b first rest bytes h other = refl
first_by false b first rest bytes h other = rw h (first_of b first rest (pieces is_blank (uncommented false bytes)) other)

begun_by : (blank : Bool) (b first : ℕ) (rest bytes : List ℕ) → is_blank b ≡ blank → cond blank (begins_with first bytes) (b == first) ≡ false →
    (begins_with first bytes ≡ false → same_word (word_at (line_words bytes) 0) (first ∷ rest) ≡ false) →
    same_word (word_at (line_words (b ∷ bytes)) 0) (first ∷ rest) ≡ false
begun_by true b first rest bytes h other on = ap (λ words. same_word (word_at words 0) (first ∷ rest)) (sym (after_blank b bytes h)) ∙ on other
begun_by false b first rest bytes h other on = first_by (b == 35) b first rest bytes h other

-- a line that doesn't begin with a word's first byte doesn't begin with the word
pub not_begun : (first : ℕ) (rest line : List ℕ) → begins_with first line ≡ false → same_word (word_at (line_words line) 0) (first ∷ rest) ≡ false
not_begun first rest [] h = refl
not_begun first rest (b ∷ bytes) h = begun_by (is_blank b) b first rest bytes refl h (not_begun first rest bytes)

no_heading_by : (three body name : Bool) → body ≡ false → (three && (body && name)) ≡ false
no_heading_by true false name h = refl
no_heading_by false false name h = refl
no_heading_by three true name h = absurd (let e : true ≡ false = h in cc)

no_heading : (line : ℕ) (text : List ℕ) → begins_with 98 text ≡ false → heading_in line (line_words text) ≡ None
no_heading line text h =
    let none : is_heading (line_words text) ≡ false = no_heading_by _ _ _ (not_begun 98 (111 ∷ 100 ∷ 121 ∷ []) text h) in
    rw none refl

-- a line that doesn't begin with a b adds no heading
pub nothing_added : (seen : List (Word × Heading)) (line : ℕ) (text : List ℕ) → begins_with 98 text ≡ false →
    (other : Word) → heading_of seen other ≡ heading_of (seen ++ option_to_list (heading_in line (line_words text))) other
nothing_added seen line text h other = ap (λ headings. heading_of headings other) (sym (append-nil seen) ∙ ap (λ found. seen ++ option_to_list found) (sym (no_heading line text h)))
