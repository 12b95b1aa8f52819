-- Look-ups among headings.
use Rattle.std.proofs.Common.{◌≡◌, ℕ, suc, ◌+◌, Bool, true, false, cond, List, [], ◌∷◌, ◌++◌, map, Bor, Option, Some, None, refl, ap, sym, ◌∙◌, append_assoc, is_some, ◌<◌, length, drop, get_or, add-one, drop-cons, ◌≤◌, arith, IfSome}
use Rattle.std.specs.Map.{lookup}
use Rattle.std.specs.Option.{option_to_list}
use Rattle.std.specs.Cmp.Lexicographic.{bytes_decides, nat_list_eq_equiv}
use Rattle.tb_read.specs.Word.{same_word}
use Rattle.tb_read.specs.Headings.{heading_of, heading_by, heading_in, headings_from}
use Rattle.tb_read.specs.Text.{line_words}
use Rattle.tb_read.specs.declared.heading.Heading.{Heading}

-- a look-up by a name's bytes, among names that are references
pub lookup_named : (test : List ℕ → Bool) (entries : List (Bor (List ℕ) × Heading)) →
    lookup test (map (λ e. (e.0.now, e.1)) entries) ≡ lookup (λ k. test k.now) entries
lookup_named test [] = refl
lookup_named test (e ∷ entries) = ap (cond (test e.0.now) (Some e.1)) (lookup_named test entries)

abbrev pub or_else : Option Heading → Option Heading → Option Heading
or_else None other = other
or_else (Some h) other = Some h

pub lookup_append : (test : List ℕ → Bool) (a b : List (List ℕ × Heading)) → lookup test (a ++ b) ≡ or_else (lookup test a) (lookup test b)
lookup_append test [] b = refl
lookup_append test (e ∷ a) b = ap (cond (test e.0) (Some e.1)) (lookup_append test a b) ∙ by_test (test e.0)
  where
    by_test : (t : Bool) → cond t (Some e.1) (or_else (lookup test a) (lookup test b)) ≡ or_else (cond t (Some e.1) (lookup test a)) (lookup test b)
    by_test true = refl
    by_test false = refl

-- the heading of a word among entries is that among what the entries show
pub lookup_seen : (entries : List (Bor (List ℕ) × Heading)) (seen : List (List ℕ × Heading)) → map (λ e. (e.0.now, e.1)) entries ≡ seen →
    (word : List ℕ) → lookup (λ k. same_word word k.now) entries ≡ heading_of seen word
lookup_seen entries seen same word = sym (lookup_named (same_word word) entries) ∙ ap (lookup (same_word word)) same

pub none_of : (o : Option Heading) → is_some o ≡ false → o ≡ None
none_of None e = refl
none_of (Some x) e = absurd (let f : true ≡ false = e in cc)

or_none : (o : Option Heading) → o ≡ or_else o None
or_none None = refl
or_none (Some x) = refl

-- a name that has no heading gets one
pub heading_inserted : (old new : List (Bor (List ℕ) × Heading)) (name : Bor (List ℕ)) (h : Heading) (seen : List (List ℕ × Heading)) →
    map (λ e. (e.0.now, e.1)) old ≡ seen →
    ((q : Bor (List ℕ)) → lookup (λ k. same_word q.now k.now) new ≡ cond (same_word name.now q.now) (Some h) (lookup (λ k. same_word q.now k.now) old)) →
    lookup (λ k. same_word name.now k.now) old ≡ None →
    (other : List ℕ) → heading_of (map (λ e. (e.0.now, e.1)) new) other ≡ heading_of (seen ++ (name.now, h) ∷ []) other
heading_inserted old new name h seen same updates absent other =
    let q : Bor (List ℕ) = record { ref_ptr = (0, 0); now = other } in
    lookup_named (same_word other) new ∙ updates q ∙ by_test (same_word other name.now) refl ∙ sym (lookup_append (same_word other) seen ((name.now, h) ∷ []))
  where
    found : (word : List ℕ) → lookup (λ k. same_word word k.now) old ≡ lookup (same_word word) seen
    found = lookup_seen old seen same

    by_test : (t : Bool) → same_word other name.now ≡ t →
        cond (same_word name.now other) (Some h) (lookup (λ k. same_word other k.now) old) ≡ or_else (lookup (same_word other) seen) (cond (same_word other name.now) (Some h) None)
    by_test true e =
        let none : lookup (same_word other) seen ≡ None = ap (λ w. lookup (same_word w) seen) ((bytes_decides other name.now).0 e) ∙ sym (found name.now) ∙ absent in
        rw (nat_list_eq_equiv.symm name.now other, e, none) refl
    by_test false e = rw (nat_list_eq_equiv.symm name.now other, e) (found other ∙ or_none (lookup (same_word other) seen))

-- one that has its heading retains it
pub heading_kept : (seen : List (List ℕ × Heading)) (name : List ℕ) (h : Heading) → is_some (heading_of seen name) ≡ true →
    (other : List ℕ) → heading_of seen other ≡ heading_of (seen ++ (name, h) ∷ []) other
heading_kept seen name h there other = by_test (same_word other name) refl ∙ sym (lookup_append (same_word other) seen ((name, h) ∷ []))
  where
    or_any : (o x : Option Heading) → is_some o ≡ true → o ≡ or_else o x
    or_any (Some y) x e = refl
    or_any None x e = absurd (let f : false ≡ true = e in cc)

    by_test : (t : Bool) → same_word other name ≡ t → lookup (same_word other) seen ≡ or_else (lookup (same_word other) seen) (cond (same_word other name) (Some h) None)
    by_test true e = or_any _ _ (ap (λ w. is_some (lookup (same_word w) seen)) ((bytes_decides other name).0 e) ∙ there)
    by_test false e = rw e (or_none (lookup (same_word other) seen))

-- one line further
pub heading_next : (seen more : List (List ℕ × Heading)) (line : ℕ) (text : List ℕ) (rest : List (List ℕ)) (all : List ℕ → Option Heading) →
    ((name : List ℕ) → heading_of more name ≡ heading_of (seen ++ option_to_list (heading_in line (line_words text))) name) →
    ((name : List ℕ) → heading_of (seen ++ headings_from line (text ∷ rest)) name ≡ all name) →
    (name : List ℕ) → heading_of (more ++ headings_from (suc line) rest) name ≡ all name
heading_next seen more line text rest all added before name =
    lookup_append (same_word name) more (headings_from (suc line) rest)
    ∙ ap (λ o. or_else o (lookup (same_word name) (headings_from (suc line) rest))) (added name)
    ∙ sym (lookup_append (same_word name) (seen ++ option_to_list (heading_in line (line_words text))) (headings_from (suc line) rest))
    ∙ ap (lookup (same_word name)) (append_assoc seen (option_to_list (heading_in line (line_words text))) (headings_from (suc line) rest))
    ∙ before name

-- the headings so far and those from the next line on are all, by the line's index
pub heading_step : (lines : List (Bor (List ℕ))) (seen more : List (List ℕ × Heading)) (line : ℕ) (d : Bor (List ℕ)) (all : List ℕ → Option Heading) → line < length lines →
    ((name : List ℕ) → heading_of more name ≡ heading_of (seen ++ option_to_list (heading_in line (line_words (get_or lines line d).now))) name) →
    ((name : List ℕ) → heading_of (seen ++ headings_from line (map (λ line. line.now) (drop line lines))) name ≡ all name) →
    (name : List ℕ) → heading_of (more ++ headings_from (line + 1) (map (λ line. line.now) (drop (line + 1) lines))) name ≡ all name
heading_step lines seen more line d all within added before =
    rw add-one (heading_next seen more line (get_or lines line d).now (map (λ line. line.now) (drop (suc line) lines)) all added (rw (drop-cons lines line d) at before))

heading_by_line : (t : Bool) (name : List ℕ) (line : ℕ) (params : Option ℕ) → IfSome (heading_by t name line params) (λ e. e.1.line ≡ line)
heading_by_line true name line (Some params) = refl
heading_by_line true name line None = tt
heading_by_line false name line (Some params) = tt
heading_by_line false name line None = tt

abbrev line_in : Option Heading → ℕ
line_in None = 0
line_in (Some x) = x.line

-- the line of what one heading and those after it find
within_by : (t : Bool) (heading h : Heading) (others : Option Heading) (first count : ℕ) → heading.line ≡ first →
    (others ≡ Some h → (h.line < suc first + count) × (suc first ≤ h.line)) → cond t (Some heading) others ≡ Some h → (h.line < first + suc count) × (first ≤ h.line)
within_by true heading h others first count here more e = let same : heading.line ≡ h.line = ap line_in e in (omega arith, omega arith)
within_by false heading h others first count here more e = let m = more e in (omega (arith, m.0), omega (arith, m.1))

within_with : (found : Option (List ℕ × Heading)) (test : List ℕ → Bool) (h : Heading) (others : List (List ℕ × Heading)) (first count : ℕ) → IfSome found (λ e. e.1.line ≡ first) →
    (lookup test others ≡ Some h → (h.line < suc first + count) × (suc first ≤ h.line)) →
    lookup test (option_to_list found ++ others) ≡ Some h → (h.line < first + suc count) × (first ≤ h.line)
within_with None test h others first count here more e = let m = more e in (omega (arith, m.0), omega (arith, m.1))
within_with (Some f) test h others first count here more e = within_by (test f.0) f.1 h (lookup test others) first count here more e

-- a heading's line is one of the lines
pub heading_within : (lines : List (List ℕ)) (first : ℕ) (name : List ℕ) (h : Heading) → lookup (same_word name) (headings_from first lines) ≡ Some h →
    (h.line < first + length lines) × (first ≤ h.line)
heading_within [] first name h e = absurd cc
heading_within (text ∷ lines) first name h e =
    within_with (heading_in first (line_words text)) (same_word name) h (headings_from (suc first) lines) first (length lines) (heading_by_line _ _ first _) (heading_within lines (suc first) name h) e
