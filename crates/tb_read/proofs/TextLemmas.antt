-- The words of a line that is text are text, and text is UTF-8.
use Rattle.std.proofs.Common.{◌≡◌, ◌<◌, ℕ, List, [], ◌∷◌, Bool, true, false, cond, refl, arith, Bor, map, take, drop, length, ◌-◌, subst, ◌&&◌, ap, ◌∙◌, sym, ◌++◌, append-nil, nat_eq, eqb-true}
use Rattle.std.proofs.Math.Seq.{take-length}
use Rattle.std.specs.Prelude.{filter}
use Rattle.std.specs.List.{list_all}
use Rattle.std.specs.Str.{IsAscii, IsUtf8}
use Rattle.std.proofs.lemmas.Str.{IsUtf8-from_ascii}
use Rattle.std.proofs.lemmas.Str.Ascii.{IsAscii-nil, IsAscii-cons}
use Rattle.std.proofs.lemmas.Bool.{and_parts}
use Rattle.tb_read.specs.Text.{is_blank, onto_first, pieces, is_word, is_text_byte, is_text, before_comment, line_words}

and_on : (s t u : Bool) → ((s && t) && u) ≡ (s && (t && u))
and_on true t u = refl
and_on false t u = refl

onto_first_text : (b : ℕ) (pieces : List (List ℕ)) → list_all is_text (onto_first b pieces) ≡ (is_text_byte b && list_all is_text pieces)
onto_first_text b [] = and_true (is_text_byte b)
  where
    and_true : (s : Bool) → ((s && true) && true) ≡ (s && true)
    and_true true = refl
    and_true false = refl
onto_first_text b (piece ∷ pieces) = and_on (is_text_byte b) (is_text piece) (list_all is_text pieces)

blank_is_text : (b : ℕ) → is_blank b ≡ true → is_text_byte b ≡ true
blank_is_text b h = rw h refl

-- pieces are text where the line is
pieces_by : (found : Bool) (b : ℕ) (rest : List (List ℕ)) → is_blank b ≡ found →
    list_all is_text (cond found ([] ∷ rest) (onto_first b rest)) ≡ (is_text_byte b && list_all is_text rest)
pieces_by true b rest h = rw (blank_is_text b h) refl
pieces_by false b rest h = onto_first_text b rest

pieces_text : (bytes : List ℕ) → list_all is_text (pieces is_blank bytes) ≡ is_text bytes
pieces_text [] = refl
pieces_text (b ∷ bytes) = pieces_by (is_blank b) b (pieces is_blank bytes) refl ∙ ap (λ t. is_text_byte b && t) (pieces_text bytes)

filter_text : (pieces : List (List ℕ)) → list_all is_text (filter is_word pieces) ≡ list_all is_text pieces
filter_text [] = refl
filter_text ([] ∷ pieces) = filter_text pieces
filter_text ((b ∷ piece) ∷ pieces) = ap (λ t. is_text (b ∷ piece) && t) (filter_text pieces)

text_pushed : (words : List (List ℕ)) (word : List ℕ) → list_all is_text (words ++ word ∷ []) ≡ (list_all is_text words && is_text word)
text_pushed [] word = last (is_text word)
  where
    last : (t : Bool) → (t && true) ≡ (true && t)
    last true = refl
    last false = refl
text_pushed (first ∷ words) word = ap (λ t. is_text first && t) (text_pushed words word) ∙ sym (and_on (is_text first) (list_all is_text words) (is_text word))

-- one more word
pub text_more : (all text piece : Bool) (words : List (List ℕ)) (word : List ℕ) → all ≡ (text && piece) → text ≡ list_all is_text words → piece ≡ is_text word →
    all ≡ list_all is_text (words ++ word ∷ [])
text_more all text piece words word e before here = e ∙ ap (λ t. t && piece) before ∙ ap (λ t. list_all is_text words && t) here ∙ sym (text_pushed words word)

-- the words of a line are text just where its bytes before the comment are
pub words_text : (line : List ℕ) → list_all is_text (line_words line) ≡ is_text (before_comment line)
words_text line = filter_text (pieces is_blank (before_comment line)) ∙ pieces_text (before_comment line)

-- a line is text just where the words that were found are, once no words are left
pub all_found : (text : Bool) (words : List (List ℕ)) (rest line : List ℕ) → text ≡ list_all is_text words → words ++ line_words rest ≡ line_words line →
    line_words rest ≡ [] → text ≡ is_text (before_comment line)
all_found text words rest line e found none =
    e ∙ ap (list_all is_text) (sym (append-nil words) ∙ ap (λ more. words ++ more) (sym none) ∙ found) ∙ words_text line

pub no_words : (rest : List ℕ) → true ≡ nat_eq (length rest) 0 → line_words rest ≡ []
no_words [] h = refl
no_words (b ∷ bytes) h = absurd (let none : length (b ∷ bytes) ≡ 0 = eqb-true _ 0 (sym h) in omega arith)

-- the words after the first, of words that are text
pub rest_is_text : (words : List (Bor (List ℕ))) → list_all is_text (map (λ word. word.now) words) ≡ true →
    list_all is_text (map (λ word. word.now) (take (length words - 1) (drop 1 words))) ≡ true
rest_is_text [] h = refl
rest_is_text (word ∷ words) h =
    let count : length words ≡ length (word ∷ words) - 1 = omega arith in
    subst (λ n. list_all is_text (map (λ word. word.now) (take n words)) ≡ true) count
    (rw (take-length words) (and_parts (is_text word.now) (list_all is_text (map (λ word. word.now) words)) h).1)

byte_is_ascii : (b : ℕ) → is_text_byte b ≡ true → b < 128
byte_is_ascii b h = grind arith

text_is_ascii : (bytes : List ℕ) → is_text bytes ≡ true → IsAscii bytes
text_is_ascii [] h = IsAscii-nil
text_is_ascii (b ∷ bytes) h =
    let parts = and_parts (is_text_byte b) (is_text bytes) h in
    IsAscii-cons b bytes (byte_is_ascii b parts.0) (text_is_ascii bytes parts.1)

pub text_is_utf8 : (bytes : List ℕ) → is_text bytes ≡ true → IsUtf8 bytes
text_is_utf8 bytes h = IsUtf8-from_ascii bytes (text_is_ascii bytes h)
