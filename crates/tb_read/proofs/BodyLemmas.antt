-- The lines of an accepted text, one by one; the lines that begin bodies.
use Rattle.std.proofs.Common.{◌≡◌, ℕ, zero, suc, ◌<◌, ◌≤◌, ◌+◌, ◌==◌, ◌⊎◌, inl, inr, List, [], ◌∷◌, ◌++◌, Bool, true, false, not, cond, length, slice_get, drop, Some, None, Option, arith, refl, ap, sym, ◌∙◌, subst, is_some, codes}
use Rattle.std.specs.Map.{lookup}
use Rattle.std.specs.Option.{option_to_list}
use Rattle.std.specs.Cmp.Lexicographic.{bytes_decides}
use Rattle.std.proofs.lemmas.Bool.{and_parts, le-leb, false≢true, cases_lt}
use Rattle.std.proofs.lemmas.Option.{slice_get_within, slice_get_past}
use Rattle.tb_model.specs.declared.statement.Statement.TheVariants.{Start as DoStart}
use Rattle.tb_read.specs.Text.{line_words}
use Rattle.tb_read.specs.Word.{Word, same_word, word_at, number_of}
use Rattle.tb_read.specs.Grammar.{head_of}
use Rattle.tb_read.specs.Headings.{heading_by, heading_in, headings_from, heading_of, is_heading, params_of}
use Rattle.tb_read.specs.Context.{Context, Setting, is_open, last_fault}
use Rattle.tb_read.specs.Reading.{setting_at, context_at, behind, line_fault, IsAccepted}
use Rattle.tb_read.specs.Flow.{Line}
use Rattle.tb_read.specs.Flow.Line.{Stands}
use Rattle.tb_read.specs.Meaning.{line_of, line_by, line_in, line_with, line_at, lines_until, lines_in}
use Rattle.tb_read.specs.declared.heading.Heading.{Heading}
use Rattle.tb_read.specs.declared.fault.FaultKind.TheVariants.{NoCells, Nesting, NoMain}
use Rattle.tb_read.specs.declared.block.Block.{Block}
use Rattle.tb_read.proofs.NestingLemmas.{Fits, none_open, line_fits, line_below}
use Rattle.tb_read.proofs.ReadLemmas.{lines_length}

-- ---- lines by index

-- the indexes of a list with one more at its end
get_front : {A : Type 0} (xs : List A) (x : A) (n : ℕ) → n < length xs → slice_get (xs ++ x ∷ []) n ≡ slice_get xs n
get_front [] x n within = absurd (omega arith)
get_front (y ∷ xs) x zero within = refl
get_front (y ∷ xs) x (suc n) within = get_front xs x n (omega arith)

get_pushed : {A : Type 0} (xs : List A) (x : A) → slice_get (xs ++ x ∷ []) (length xs) ≡ Some x
get_pushed [] x = refl
get_pushed (y ∷ xs) x = get_pushed xs x

-- what is after an index, with what is there
pub drop_at : {A : Type 0} (xs : List A) (n : ℕ) (x : A) → slice_get xs n ≡ Some x → drop n xs ≡ x ∷ drop (suc n) xs
drop_at [] n x e = absurd cc
drop_at (y ∷ xs) zero x e = cc
drop_at (y ∷ xs) (suc n) x e = drop_at xs n x e

-- a line among the first `count`
pub until_at : (texts : List (List ℕ)) (count n : ℕ) → n < count → slice_get (lines_until texts count) n ≡ Some (line_at texts n)
until_at texts zero n within = absurd (omega arith)
until_at texts (suc count) n within = by_order (until_at texts count n) (cases_lt n count)
  where
    by_order : (n < count → slice_get (lines_until texts count) n ≡ Some (line_at texts n)) → (n < count) ⊎ (count ≤ n) → slice_get (lines_until texts count ++ line_at texts count ∷ []) n ≡ Some (line_at texts n)
    by_order before (inl below) = get_front (lines_until texts count) (line_at texts count) n (omega (arith, lines_length texts count)) ∙ before below
    by_order before (inr high) =
        let same : n ≡ count = omega arith in
        rw same (ap (slice_get (lines_until texts count ++ line_at texts count ∷ [])) (sym (lines_length texts count)) ∙ get_pushed (lines_until texts count) (line_at texts count))

-- an index in the list of lines is the line
pub listed : (texts : List (List ℕ)) (n : ℕ) (line : Line) → slice_get (lines_in texts) n ≡ Some line → (n < length texts) × (line_at texts n ≡ line)
listed texts n line e =
    let within : n < length texts = omega (arith, slice_get_within (lines_in texts) n line e, lines_length texts (length texts)) in
    (within, let here = until_at texts (length texts) n within in cc)

-- ---- headings

-- a line among these that begins a body
pub record IsHeadingLine (texts : List (List ℕ)) (first line : ℕ) : Type 0 where
  pub at : ℕ
  pub text : List ℕ
  pub placed : line ≡ first + at
  pub here : slice_get texts at ≡ Some text
  pub words : is_heading (line_words text) ≡ true

-- a line's own heading, where it has one
heading_words : (t : Bool) (name : Word) (line : ℕ) (params : Option ℕ) (f : Word × Heading) → heading_by t name line params ≡ Some f → (t ≡ true) × (f.1.line ≡ line)
heading_words true name line (Some params) f e = let own : f.1 ≡ record { line = line; params = params } = cc in (refl, ap (λ h. h.line) own)
heading_words true name line None f e = absurd cc
heading_words false name line (Some params) f e = absurd cc
heading_words false name line None f e = absurd cc

-- a line of those after the first
one_further : (text : List ℕ) (texts : List (List ℕ)) (first line : ℕ) → IsHeadingLine texts (suc first) line → IsHeadingLine (text ∷ texts) first line
one_further text texts first line r = record { at = suc r.at; text = r.text; placed = omega (arith, r.placed); here = r.here; words = r.words }

-- what holds of the first line's heading and of those after it holds of the one that is found
found_here : (found : Option (Word × Heading)) (test : Word → Bool) (h : Heading) (others : List (Word × Heading)) (P : ℕ → Type 0) →
    ((f : Word × Heading) → found ≡ Some f → P f.1.line) → (lookup test others ≡ Some h → P h.line) → lookup test (option_to_list found ++ others) ≡ Some h → P h.line
found_here None test h others P own more e = more e
found_here (Some f) test h others P own more e = by_test (test f.0) e
  where
    by_test : (t : Bool) → cond t (Some f.1) (lookup test others) ≡ Some h → P h.line
    by_test true q = let same : f.1 ≡ h = cc in subst (λ (x : Heading). P x.line) same (own f refl)
    by_test false q = more q

-- the first line has the words of its heading
first_heading : (text : List ℕ) (texts : List (List ℕ)) (first : ℕ) (f : Word × Heading) → heading_in first (line_words text) ≡ Some f → IsHeadingLine (text ∷ texts) first f.1.line
first_heading text texts first f e =
    let own = heading_words (is_heading (line_words text)) (word_at (line_words text) 1) first (params_of (number_of (word_at (line_words text) 2))) f e in
    record { at = 0; text = text; placed = omega (arith, own.1); here = refl; words = own.0 }

-- the line of a heading that is found begins a body
heading_line : (texts : List (List ℕ)) (first : ℕ) (name : Word) (h : Heading) → lookup (same_word name) (headings_from first texts) ≡ Some h → IsHeadingLine texts first h.line
heading_line [] first name h e = absurd cc
heading_line (text ∷ texts) first name h e =
    let further = λ (q : lookup (same_word name) (headings_from (suc first) texts) ≡ Some h). one_further text texts first h.line (heading_line texts (suc first) name h q) in
    found_here (heading_in first (line_words text)) (same_word name) h (headings_from (suc first) texts) (IsHeadingLine (text ∷ texts) first) (first_heading text texts first) further e

-- a task that is there has yet to start
body_word : (here : Setting) (context : Context) (words : List Word) → is_heading words ≡ true → line_in here context words ≡ Stands DoStart
body_word here context [] e = absurd (false≢true e)
body_word here context (word ∷ words) e =
    let first = (and_parts _ _ (and_parts (length (word ∷ words) == 3) _ e).1).0 in
    let same : word ≡ codes "body" = (bytes_decides word (codes "body")).0 first in
    ap (λ w. line_by here context (head_of w) words) same

-- ---- accepted lines

-- the last tests of a text
last_tests : (begun nested main : Bool) → cond (not begun) (Some NoCells) (cond nested (Some Nesting) (cond main None (Some NoMain))) ≡ None → (nested ≡ false) × (main ≡ true)
last_tests false nested main e = absurd cc
last_tests true true main e = absurd cc
last_tests true false false e = absurd cc
last_tests true false true e = (refl, refl)

-- the blocks that are open in front of line n
abbrev pub blocks_at : List (List ℕ) → ℕ → List Block
blocks_at texts n = (context_at texts n).open_blocks

-- a line that is this, of the text
pub record IsLine (texts : List (List ℕ)) (n : ℕ) (line : Line) : Type 0 where
  pub within : n < length texts
  pub here : line_at texts n ≡ line

-- a line that begins a body
abbrev pub Begun : List (List ℕ) → ℕ → Type 0
Begun texts n = IsLine texts n (Stands DoStart)

module _ (texts : List (List ℕ)) (accepted : IsAccepted texts) where
  -- at the end of the text no block is open, and there is a main body
  at_end : (is_open (context_at texts (length texts)) ≡ false) × (is_some (heading_of (headings_from 0 texts) (codes "main")) ≡ true)
  at_end =
      let here = setting_at texts (length texts) in
      let context = context_at texts (length texts) in
      let passes : last_fault here context ≡ None = ap (line_fault here context) (sym (slice_get_past texts (length texts) (omega arith))) ∙ accepted (length texts) (omega arith) in
      last_tests context.begun (is_open context) (is_some (here.heading (codes "main"))) passes

  -- nor is one after it
  pub none_past : (n : ℕ) → length texts ≤ n → blocks_at texts n ≡ []
  none_past zero past =
      let same : length texts ≡ 0 = omega arith in
      ap (blocks_at texts) (sym same) ∙ none_open (blocks_at texts (length texts)) at_end.0
  none_past (suc n) past = by_order (none_past n) (cases_lt n (length texts))
    where
      by_order : (length texts ≤ n → blocks_at texts n ≡ []) → (n < length texts) ⊎ (length texts ≤ n) → blocks_at texts (suc n) ≡ []
      by_order before (inl last) =
          let same : length texts ≡ suc n = omega arith in
          ap (blocks_at texts) (sym same) ∙ none_open (blocks_at texts (length texts)) at_end.0
      by_order before (inr further) = ap (λ text. (behind n text (context_at texts n)).open_blocks) (slice_get_past texts n further) ∙ before further

  -- a line of an accepted text has a number that a task can name
  line_named : (n : ℕ) (text : List ℕ) → slice_get texts n ≡ Some text → n ≤ 65536
  line_named n text here =
      let within = slice_get_within texts n text here in
      line_below (setting_at texts n) (context_at texts n) text (ap (line_fault (setting_at texts n) (context_at texts n)) (sym here) ∙ accepted n (omega arith))

  -- the line of a heading that is found begins a body
  pub heading_begun : (name : Word) (h : Heading) → heading_of (headings_from 0 texts) name ≡ Some h → Begun texts (line_of (Some h))
  heading_begun name h e =
      let found = heading_line texts 0 name h e in
      let same : h.line ≡ found.at = omega (arith, found.placed) in
      let low = line_named found.at found.text found.here in
      let own : line_of (Some h) ≡ found.at = ap (λ t. cond t h.line 0) (le-leb h.line 65536 (omega arith)) ∙ same in
      let start = ap (line_with (setting_at texts found.at) (context_at texts found.at)) found.here ∙ body_word (setting_at texts found.at) (context_at texts found.at) (line_words found.text) found.words in
      rw own (record { within = slice_get_within texts found.at found.text found.here; here = start })

  -- the line of `main` begins a body
  pub main_begun : Begun texts (line_of (heading_of (headings_from 0 texts) (codes "main")))
  main_begun = by_heading (heading_of (headings_from 0 texts) (codes "main")) (heading_begun (codes "main")) at_end.1
    where
      by_heading : (found : Option Heading) → ((h : Heading) → found ≡ Some h → Begun texts (line_of (Some h))) → is_some found ≡ true → Begun texts (line_of found)
      by_heading None begins there = absurd (false≢true there)
      by_heading (Some h) begins there = begins h refl

  -- what each line does to the open blocks, and what its statement names
  fits_at : (n : ℕ) → n < length texts → Fits (Begun texts) n (blocks_at texts n) (blocks_at texts (suc n)) (line_at texts n)
  fits_at n within = line_fits (Begun texts) (setting_at texts n) (context_at texts n) heading_begun (slice_get texts n) (accepted n (omega arith))

  pub line_is : (n : ℕ) (line : Line) → IsLine texts n line → Fits (Begun texts) n (blocks_at texts n) (blocks_at texts (suc n)) line
  line_is n line is = subst (Fits (Begun texts) n (blocks_at texts n) (blocks_at texts (suc n))) is.here (fits_at n is.within)
