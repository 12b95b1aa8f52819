-- A first piece, and the pieces after it.
use Rattle.std.proofs.Common.{◌≡◌, ℕ, suc, Bool, true, false, List, [], ◌∷◌, ◌++◌, take, drop, refl, ap, sym, ◌∙◌, append_assoc, not, cond, ◌<◌, ◌≤◌, ◌+◌, ◌==◌, arith, zero, length, get_or, ◌⊎◌, inl, inr}
use Rattle.std.proofs.lemmas.Bool.Decides.{nat_tests}
use Rattle.std.specs.List.{position_or_len, filter}
use Rattle.tb_read.specs.Text.{pieces, onto_first, is_word, is_blank, uncommented, begins_comment, words_of, line_words, is_printed, is_text, is_text_byte}

one_more : (n : ℕ) → 1 + n ≡ suc n
one_more n = omega arith

-- the pieces from a byte on that isn't an end, from the pieces of the bytes after it
pieces_on : (ends : ℕ → Bool) (b c : ℕ) (bytes : List ℕ) →
    pieces ends (c ∷ bytes) ≡ take (position_or_len ends (c ∷ bytes)) (c ∷ bytes) ∷ pieces ends (drop (suc (position_or_len ends (c ∷ bytes))) (c ∷ bytes)) →
    onto_first b (pieces ends (c ∷ bytes)) ≡ take (1 + position_or_len ends (c ∷ bytes)) (b ∷ c ∷ bytes) ∷ pieces ends (drop (suc (1 + position_or_len ends (c ∷ bytes))) (b ∷ c ∷ bytes))
pieces_on ends b c bytes h = rw one_more (ap (onto_first b) h)

pieces_by : (ends : ℕ → Bool) (b : ℕ) (bytes : List ℕ) →
    onto_first b (pieces ends bytes) ≡ take (1 + position_or_len ends bytes) (b ∷ bytes) ∷ pieces ends (drop (suc (1 + position_or_len ends bytes)) (b ∷ bytes)) →
    pieces ends (b ∷ bytes) ≡ take (position_or_len ends (b ∷ bytes)) (b ∷ bytes) ∷ pieces ends (drop (suc (position_or_len ends (b ∷ bytes))) (b ∷ bytes))
pieces_by ends b bytes on =
    elim (ends b) as (λ t. cond t ([] ∷ pieces ends bytes) (onto_first b (pieces ends bytes))
    ≡ take (cond (not t) (1 + position_or_len ends bytes) 0) (b ∷ bytes) ∷ pieces ends (drop (suc (cond (not t) (1 + position_or_len ends bytes) 0)) (b ∷ bytes)))
    [ true ↦ refl | false ↦ on ]

pub pieces_front : (ends : ℕ → Bool) (b : ℕ) (bytes : List ℕ) →
    pieces ends (b ∷ bytes) ≡ take (position_or_len ends (b ∷ bytes)) (b ∷ bytes) ∷ pieces ends (drop (suc (position_or_len ends (b ∷ bytes))) (b ∷ bytes))
pieces_front ends b [] = pieces_by ends b [] refl
pieces_front ends b (c ∷ bytes) = pieces_by ends b (c ∷ bytes) (pieces_on ends b c bytes (pieces_front ends c bytes))

-- the pieces that were found before, the next one and those after it are all pieces
pub piece_found : (ends : ℕ → Bool) (before : List (List ℕ)) (rest : List ℕ) (all : List (List ℕ)) (at : ℕ) → (rest ≡ [] → ⊥) →
    at ≡ position_or_len ends rest → before ++ pieces ends rest ≡ all →
    (before ++ take at rest ∷ []) ++ pieces ends (drop (suc at) rest) ≡ all
piece_found ends before [] all at some e h = absurd (some refl)
piece_found ends before (b ∷ bytes) all at some e h =
    let found : pieces ends (b ∷ bytes) ≡ take at (b ∷ bytes) ∷ pieces ends (drop (suc at) (b ∷ bytes)) = rw e (pieces_front ends b bytes) in
    append_assoc before (take at (b ∷ bytes) ∷ []) (pieces ends (drop (suc at) (b ∷ bytes))) ∙ ap (λ more. before ++ more) (sym found) ∙ h

-- the words of a line whose first byte doesn't begin a comment: its first piece, and what comes after that, where a comment may begin
cut_by : (b : ℕ) (bytes : List ℕ) →
    onto_first b (pieces is_blank (uncommented false bytes)) ≡ take (1 + position_or_len is_blank bytes) (b ∷ bytes) ∷ pieces is_blank (uncommented true (drop (suc (1 + position_or_len is_blank bytes)) (b ∷ bytes))) →
    pieces is_blank (b ∷ uncommented (is_blank b) bytes) ≡ take (position_or_len is_blank (b ∷ bytes)) (b ∷ bytes) ∷ pieces is_blank (uncommented true (drop (suc (position_or_len is_blank (b ∷ bytes))) (b ∷ bytes)))
cut_by b bytes on =
    elim (is_blank b) as (λ t. cond t ([] ∷ pieces is_blank (uncommented t bytes)) (onto_first b (pieces is_blank (uncommented t bytes)))
    ≡ take (cond (not t) (1 + position_or_len is_blank bytes) 0) (b ∷ bytes) ∷ pieces is_blank (uncommented true (drop (suc (cond (not t) (1 + position_or_len is_blank bytes) 0)) (b ∷ bytes))))
    [ true ↦ refl | false ↦ on ]

cut_inside : (b : ℕ) (bytes : List ℕ) →
    pieces is_blank (b ∷ uncommented (is_blank b) bytes) ≡ take (position_or_len is_blank (b ∷ bytes)) (b ∷ bytes) ∷ pieces is_blank (uncommented true (drop (suc (position_or_len is_blank (b ∷ bytes))) (b ∷ bytes)))
cut_inside b [] = cut_by b [] refl
cut_inside b (c ∷ bytes) = cut_by b (c ∷ bytes) (rw one_more (ap (onto_first b) (cut_inside c bytes)))

cut_front : (b : ℕ) (bytes : List ℕ) (at : ℕ) → (b == 35) ≡ false → at ≡ position_or_len is_blank (b ∷ bytes) →
    pieces is_blank (uncommented true (b ∷ bytes)) ≡ take at (b ∷ bytes) ∷ pieces is_blank (uncommented true (drop (suc at) (b ∷ bytes)))
cut_front b bytes at code e = rw e (ap (λ t. pieces is_blank (cond t [] (b ∷ uncommented (is_blank b) bytes))) code ∙ cut_inside b bytes)

-- a word, after the words that were found before
pub word_found : (before : List (List ℕ)) (rest : List ℕ) (all : List (List ℕ)) (at : ℕ) → 0 < at →
    begins_comment rest ≡ false → at ≡ position_or_len is_blank rest → before ++ line_words rest ≡ all →
    (before ++ take at rest ∷ []) ++ line_words (drop (suc at) rest) ≡ all
word_found before [] all at some code e h = absurd (omega arith)
word_found before (b ∷ bytes) all zero some code e h = absurd (omega arith)
word_found before (b ∷ bytes) all (suc n) some code e h =
    let found : line_words (b ∷ bytes) ≡ take (suc n) (b ∷ bytes) ∷ line_words (drop (suc (suc n)) (b ∷ bytes)) = ap (filter is_word) (cut_front b bytes _ code e) in
    append_assoc before (take (suc n) (b ∷ bytes) ∷ []) (line_words (drop (suc (suc n)) (b ∷ bytes))) ∙ ap (λ more. before ++ more) (sym found) ∙ h

-- a blank, after the words that were found before
pub blank_found : (before : List (List ℕ)) (rest : List ℕ) (all : List (List ℕ)) (at : ℕ) → at ≤ 0 →
    begins_comment rest ≡ false → at ≡ position_or_len is_blank rest → before ++ line_words rest ≡ all →
    before ++ line_words (drop (suc at) rest) ≡ all
blank_found before [] all at none code e h = h
blank_found before (b ∷ bytes) all (suc n) none code e h = absurd (omega arith)
blank_found before (b ∷ bytes) all zero none code e h =
    let found : line_words (b ∷ bytes) ≡ line_words bytes = ap (filter is_word) (cut_front b bytes _ code e) in
    ap (λ more. before ++ more) (sym found) ∙ h

comment_by : (b : ℕ) (bytes : List ℕ) → (b == 35) ≡ true → line_words (b ∷ bytes) ≡ []
comment_by b bytes e = ap (λ t. words_of (cond t [] (b ∷ uncommented (is_blank b) bytes))) e

-- a comment has no words
pub comment_words : (rest : List ℕ) → begins_comment rest ≡ true → line_words rest ≡ []
comment_words [] comment = refl
comment_words (b ∷ bytes) comment = comment_by b bytes comment

printed_on : (b : ℕ) (bytes : List ℕ) (n : ℕ) → is_printed b ≡ true → (n ≡ position_or_len is_blank bytes) × (is_text (take n bytes) ≡ true) →
    (suc n ≡ position_or_len is_blank (b ∷ bytes)) × (is_text (take (suc n) (b ∷ bytes)) ≡ true)
printed_on b bytes n h more =
    let unblank : is_blank b ≡ false = grind (arith, nat_tests) in
    let text : is_text_byte b ≡ true = grind (arith, nat_tests) in
    (rw unblank (omega (arith, more.0)), rw (text, more.1) refl)

printed_by : (printed : Bool) (b : ℕ) (bytes : List ℕ) (at : ℕ) → is_printed b ≡ printed → at ≡ cond (not (not printed)) (1 + position_or_len (λ b. not (is_printed b)) bytes) 0 →
    (at ≡ length (b ∷ bytes)) ⊎ (is_blank (get_or (b ∷ bytes) at 0) ≡ true) →
    ((at : ℕ) → at ≡ position_or_len (λ b. not (is_printed b)) bytes → (at ≡ length bytes) ⊎ (is_blank (get_or bytes at 0) ≡ true) →
    (at ≡ position_or_len is_blank bytes) × (is_text (take at bytes) ≡ true)) →
    (at ≡ position_or_len is_blank (b ∷ bytes)) × (is_text (take at (b ∷ bytes)) ≡ true)
printed_by false b bytes zero h e (inl whole) on = absurd (omega arith)
printed_by false b bytes zero h e (inr blank) on = (rw blank refl, refl)
printed_by false b bytes (suc n) h e ends on = absurd (omega arith)
printed_by true b bytes zero h e ends on = absurd (omega arith)
printed_by true b bytes (suc n) h e (inl whole) on = printed_on b bytes n h (on n (omega arith) (inl (omega arith)))
printed_by true b bytes (suc n) h e (inr blank) on = printed_on b bytes n h (on n (omega arith) (inr blank))

-- printed bytes up to a blank or the end are a piece that is text
pub printed_front : (bytes : List ℕ) (at : ℕ) → at ≡ position_or_len (λ b. not (is_printed b)) bytes → (at ≡ length bytes) ⊎ (is_blank (get_or bytes at 0) ≡ true) →
    (at ≡ position_or_len is_blank bytes) × (is_text (take at bytes) ≡ true)
printed_front [] zero e ends = (refl, refl)
printed_front [] (suc n) e ends = absurd (omega arith)
printed_front (b ∷ bytes) at e ends = printed_by (is_printed b) b bytes at refl e ends (printed_front bytes)
