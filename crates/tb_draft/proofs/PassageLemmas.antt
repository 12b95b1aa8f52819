-- How the passages of a draft are made and spelled.
use Rattle.std.proofs.Common.{◌≡◌, ◌<◌, ◌≤◌, ◌+◌, ◌-◌, ℕ, zero, suc, List, [], ◌∷◌, ◌++◌, length, take, drop, refl, sym, ap, ap₂, ◌∙◌, arith, get_or, append_assoc, append-nil, drop-cons, subst, Option, Bool, true, eqb-true, ◌==◌, decimal, string_bytes}
use Rattle.std.proofs.lemmas.List.{drop_all, nil_from_length, take-append-drop, take_rest}
use Rattle.tb_model.specs.Spelling.{levels_text, name_text}
use Rattle.tb_model.proofs.NumberTextLemmas.{levels_both, name_of_levels}
use Rattle.tb_draft.specs.declared.passage.Passage.{Passage}
use Rattle.tb_draft.specs.Passages.{passage_text, passages_text}
use Rattle.tb_draft.specs.Written.{Told, WroteFront}
use Rattle.tb_draft.proofs.WrittenLemmas.{told_nothing, told_more, front_told, front_held, first_cut, second_cut, both_told}

-- one passage more
passages_pushed : (ps : List Passage) (p : Passage) → passages_text (ps ++ p ∷ []) ≡ passages_text ps ++ passage_text p
passages_pushed [] p = append-nil (passage_text p)
passages_pushed (q ∷ ps) p = ap (λ l. passage_text q ++ l) (passages_pushed ps p) ∙ sym (append_assoc (passage_text q) (passages_text ps) (passage_text p))

passages_both : (ps qs : List Passage) → passages_text (ps ++ qs) ≡ passages_text ps ++ passages_text qs
passages_both [] qs = refl
passages_both (p ∷ ps) qs = ap (λ l. passage_text p ++ l) (passages_both ps qs) ∙ sym (append_assoc (passage_text p) (passages_text ps) (passages_text qs))

-- a draft's last text is put in front of another, and then its passages
pub draft_first : (ps qs all : List Passage) (last text front old new : List ℕ) → all ≡ ps ++ qs → passages_text ps ++ last ≡ front → new ≡ last ++ old → passages_text qs ++ text ≡ new
    → passages_text all ++ text ≡ front ++ old
draft_first ps qs all last text front old new both in_front put seen =
    ap (λ l. passages_text l ++ text) both
    ∙ ap (λ l. l ++ text) (passages_both ps qs)
    ∙ append_assoc (passages_text ps) (passages_text qs) text
    ∙ ap (λ l. passages_text ps ++ l) (seen ∙ put)
    ∙ sym (append_assoc (passages_text ps) last old)
    ∙ ap (λ l. l ++ old) in_front

-- the last text of a draft, and a name after it, become one
pub deep_pushed : (ps new : List Passage) (p : Passage) (text name last : List ℕ) → new ≡ ps ++ p ∷ [] → string_bytes p.text ≡ text → p.name ≡ name → last ≡ []
    → passages_text new ++ last ≡ (passages_text ps ++ text) ++ name_text name
deep_pushed ps new p text name last pushed is_text is_name none =
    ap₂ (λ n l. passages_text n ++ l) pushed none ∙ append-nil (passages_text (ps ++ p ∷ [])) ∙ passages_pushed ps p
    ∙ ap₂ (λ t n. passages_text ps ++ (t ++ name_text n)) is_text is_name ∙ sym (append_assoc (passages_text ps) text (name_text name))

-- ---- spelled one after another

-- all but the rest of the numbers are spelled
abbrev pub Spelled : (a b : Option (List ℕ)) (held start numbers rest : List ℕ) → Type 0
Spelled a b held start numbers rest = (t : List ℕ) × (numbers ≡ rest ++ t) × Told a b held (λ all. all ≡ start ++ levels_text t)

-- the last numbers of the rest
module _ (a b : Option (List ℕ)) (held start numbers rest front last bytes : List ℕ) (s : Spelled a b held start numbers rest) (cut : rest ≡ front ++ last) (is : bytes ≡ levels_text last) where
  next : (start ++ levels_text s.0) ++ bytes ≡ start ++ levels_text (last ++ s.0)
  next = ap (λ l. (start ++ levels_text s.0) ++ l) is ∙ append_assoc start (levels_text s.0) (levels_text last) ∙ ap (λ l. start ++ l) (sym (levels_both last s.0))

  left : numbers ≡ front ++ (last ++ s.0)
  left = s.1 ∙ ap (λ l. l ++ s.0) cut ∙ append_assoc front last s.0

  pub spelled_more : (c : Option (List ℕ)) (more : List ℕ) → Told b c more (λ all. all ≡ held ++ bytes) → Spelled a c more start numbers front
  spelled_more c more t =
      (last ++ s.0, left, subst (λ whole. Told a c more (λ all. all ≡ whole)) next (told_more a b c held more (start ++ levels_text s.0) bytes s.2 t))

  pub spelled_cut : (c : Option (List ℕ)) → WroteFront b c (held ++ bytes) → WroteFront a c (start ++ levels_text numbers)
  spelled_cut c w =
      front_told a b c held (start ++ levels_text s.0) bytes (start ++ levels_text numbers) (levels_text front) s.2 w
      (ap (λ l. start ++ levels_text l) left ∙ ap (λ l. start ++ l) (levels_both front (last ++ s.0)) ∙ sym (append_assoc start (levels_text (last ++ s.0)) (levels_text front))
      ∙ ap (λ l. l ++ levels_text front) (sym next))

-- a list from an index on, as a slice shows it
cut_at : (rest : List ℕ) (at : ℕ) → rest ≡ take at rest ++ take (length rest - at) (drop at rest)
cut_at rest at = sym (ap (λ l. take at rest ++ l) (take_rest rest at) ∙ take-append-drop at rest)

cut_last_at : (rest : List ℕ) (k d : ℕ) → suc k ≡ length rest → rest ≡ take k rest ++ get_or rest k d ∷ []
cut_last_at [] k d is = absurd (omega (arith, is))
cut_last_at (x ∷ []) zero d is = refl
cut_last_at (x ∷ []) (suc k) d is = absurd (omega (arith, is))
cut_last_at (x ∷ y ∷ rest) zero d is = absurd (omega (arith, is))
cut_last_at (x ∷ y ∷ rest) (suc k) d is = ap (λ l. x ∷ l) (cut_last_at (y ∷ rest) k d (omega (arith, is)))

-- the numbers of the rest from an index on, or its last one
module _ (a b : Option (List ℕ)) (held start numbers rest : List ℕ) (s : Spelled a b held start numbers rest) where
  module _ (at : ℕ) (bytes : List ℕ) (is : bytes ≡ levels_text (take (length rest - at) (drop at rest))) where
    pub some_more : (c : Option (List ℕ)) (more : List ℕ) → Told b c more (λ all. all ≡ held ++ bytes) → Spelled a c more start numbers (take at rest)
    some_more = spelled_more a b held start numbers rest (take at rest) (take (length rest - at) (drop at rest)) bytes s (cut_at rest at) is

    pub some_cut : (c : Option (List ℕ)) → WroteFront b c (held ++ bytes) → WroteFront a c (start ++ levels_text numbers)
    some_cut = spelled_cut a b held start numbers rest (take at rest) (take (length rest - at) (drop at rest)) bytes s (cut_at rest at) is

  module _ (some : 0 < length rest) where
    abbrev front : List ℕ
    front = take (length rest - 1) rest

    abbrev last : ℕ
    last = get_or rest (length rest - 1) 0

    cut : rest ≡ front ++ last ∷ []
    cut = cut_last_at rest (length rest - 1) 0 (omega (arith, some))

    pub one_more : (c : Option (List ℕ)) (more : List ℕ) → Told b c more (λ all. all ≡ held ++ 46 ∷ decimal (get_or rest (length rest - 1) 0)) → Spelled a c more start numbers (take (length rest - 1) rest)
    one_more = spelled_more a b held start numbers rest front (last ∷ []) (46 ∷ decimal last) s cut refl

    pub one_cut : (c : Option (List ℕ)) → WroteFront b c (held ++ 46 ∷ decimal (get_or rest (length rest - 1) 0)) → WroteFront a c (start ++ levels_text numbers)
    one_cut = spelled_cut a b held start numbers rest front (last ∷ []) (46 ∷ decimal last) s cut refl

-- all of them
spelled_all : (a b : Option (List ℕ)) (held start numbers rest : List ℕ) → rest ≡ [] → Spelled a b held start numbers rest → Told a b held (λ all. all ≡ start ++ levels_text numbers)
spelled_all a b held start numbers rest none s =
    subst (λ l. Told a b held (λ all. all ≡ start ++ levels_text l)) (sym (s.1 ∙ ap (λ l. l ++ s.0) none)) s.2

-- ---- a name

-- a name is the root's, and its levels
pub named : (t : List ℕ) → name_text t ≡ (48 ∷ []) ++ levels_text t
named t = ap name_text (sym (append-nil t)) ∙ name_of_levels t []

pub none_left : (xs ys : List ℕ) → xs ++ ys ≡ [] → xs ≡ []
none_left [] ys e = refl
none_left (x ∷ xs) ys e = absurd (omega (arith, ap length e))

-- an empty run is the last one
pub last_run : (parts run : List ℕ) (empty : Bool) → empty ≡ (length run == 0) → empty ≡ true → (run ≡ [] → parts ≡ []) → parts ++ run ≡ []
last_run parts run empty is so no_parts =
    let none = nil_from_length run (eqb-true (length run) 0 (sym is ∙ so)) in
    ap₂ (λ p r. p ++ r) (no_parts none) none

-- nothing but what was there is put
pub none_spelled : (a b : Option (List ℕ)) (held start numbers rest : List ℕ) → numbers ≡ rest → Told a b held (λ all. all ≡ start) → Spelled a b held start numbers rest
none_spelled a b held start numbers rest is t =
    ([], is ∙ sym (append-nil rest), subst (λ l. Told a b held (λ all. all ≡ l)) (sym (append-nil start)) t)

pub spelled_as : (a b : Option (List ℕ)) (held start numbers rest parts : List ℕ) → rest ≡ parts → Spelled a b held start numbers rest → Spelled a b held start numbers parts
spelled_as a b held start numbers rest parts is s = subst (Spelled a b held start numbers) is s

-- the run was spelled, and the next one taken off the parts
module _ (a b : Option (List ℕ)) (held start numbers parts run bytes : List ℕ) (s : Spelled a b held start numbers (parts ++ run)) (is : bytes ≡ levels_text run) where
  pub run_more : (c : Option (List ℕ)) (more next_parts next_run : List ℕ) → Told b c more (λ all. all ≡ held ++ bytes) → parts ≡ next_parts ++ next_run → Spelled a c more start numbers (next_parts ++ next_run)
  run_more c more next_parts next_run t split =
      subst (λ rest. Spelled a c more start numbers rest) split (spelled_more a b held start numbers (parts ++ run) parts run bytes s refl is c more t)

  pub run_cut : (c : Option (List ℕ)) → WroteFront b c (held ++ bytes) → WroteFront a c (start ++ levels_text numbers)
  run_cut = spelled_cut a b held start numbers (parts ++ run) parts run bytes s refl is

name_whole : (waiting numbers : List ℕ) → (waiting ++ 48 ∷ []) ++ levels_text numbers ≡ waiting ++ name_text numbers
name_whole waiting numbers = append_assoc waiting (48 ∷ []) (levels_text numbers) ∙ ap (λ l. waiting ++ l) (sym (named numbers))

pub name_put : (a b : Option (List ℕ)) (held waiting numbers rest : List ℕ) → rest ≡ [] → Spelled a b held (waiting ++ 48 ∷ []) numbers rest → Told a b held (λ all. all ≡ waiting ++ name_text numbers)
name_put a b held waiting numbers rest none s =
    subst (λ whole. Told a b held (λ all. all ≡ whole)) (name_whole waiting numbers) (spelled_all a b held (waiting ++ 48 ∷ []) numbers rest none s)

pub name_cut : (a b : Option (List ℕ)) (waiting numbers : List ℕ) → WroteFront a b ((waiting ++ 48 ∷ []) ++ levels_text numbers) → WroteFront a b (waiting ++ name_text numbers)
name_cut a b waiting numbers w = subst (WroteFront a b) (name_whole waiting numbers) w

-- ---- passages

-- the passages in front of the rest are put
abbrev pub Passed : (a b : Option (List ℕ)) (held start : List ℕ) (ps rest : List Passage) → Type 0
Passed a b held start ps rest = (done : List ℕ) × (done ++ passages_text rest ≡ start ++ passages_text ps) × Told a b held (λ all. all ≡ done)

pub none_passed : (a : Option (List ℕ)) (start : List ℕ) (ps : List Passage) → Passed a a start start ps ps
none_passed a start ps = (start, refl, told_nothing a start _ refl)

module _ (a b : Option (List ℕ)) (held start : List ℕ) (ps : List Passage) (i : ℕ) (p : Passage) (within : i < length ps) (here : p ≡ get_or ps i p) (s : Passed a b held start ps (drop i ps)) where
  rest : passages_text (drop i ps) ≡ passage_text p ++ passages_text (drop (i + 1) ps)
  rest = ap passages_text (drop-cons ps i p within ∙ ap₂ (λ y k. y ∷ drop k ps) (sym here) on)
    where
      on : suc i ≡ i + 1
      on = omega arith

  whole : (s.0 ++ passage_text p) ++ passages_text (drop (i + 1) ps) ≡ start ++ passages_text ps
  whole = append_assoc s.0 (passage_text p) (passages_text (drop (i + 1) ps)) ∙ ap (λ l. s.0 ++ l) (sym rest) ∙ s.1

  pub passed_more : (c : Option (List ℕ)) (more : List ℕ) → Told b c more (λ all. all ≡ held ++ passage_text p) → Passed a c more start ps (drop (i + 1) ps)
  passed_more c more t = (s.0 ++ passage_text p, whole, told_more a b c held more s.0 (passage_text p) s.2 t)

  pub passed_cut : (c : Option (List ℕ)) → WroteFront b c (held ++ passage_text p) → WroteFront a c (start ++ passages_text ps)
  passed_cut c w = front_told a b c held s.0 (passage_text p) (start ++ passages_text ps) (passages_text (drop (i + 1) ps)) s.2 w (sym whole)

pub all_passed : (a b : Option (List ℕ)) (held start : List ℕ) (ps : List Passage) (i : ℕ) → length ps ≤ i → Passed a b held start ps (drop i ps) → Told a b held (λ all. all ≡ start ++ passages_text ps)
all_passed a b held start ps i past s =
    let none : s.0 ≡ start ++ passages_text ps = sym (append-nil s.0) ∙ ap (λ l. s.0 ++ passages_text l) (sym (drop_all i ps past)) ∙ s.1 in
    subst (λ l. Told a b held (λ all. all ≡ l)) none s.2

-- ---- a whole draft

module _ (a b : Option (List ℕ)) (waiting passages text view : List ℕ) (none : waiting ≡ []) (seen : passages ++ text ≡ view) where
  pub draft_cut_first : WroteFront a b (waiting ++ passages) → WroteFront a b view
  draft_cut_first w = subst (λ l. WroteFront a b (l ++ view)) none (first_cut a b waiting passages text view (sym seen) w)

  module _ (c : Option (List ℕ)) (held : List ℕ) (t : Told a b held (λ all. all ≡ waiting ++ passages)) where
    pub draft_cut_second : WroteFront b c (held ++ text) → WroteFront a c view
    draft_cut_second w = subst (λ l. WroteFront a c (l ++ view)) none (second_cut a b waiting passages text view (sym seen) c held t w)

    module _ (left : List ℕ) (p : Told b c left (λ all. all ≡ held ++ text)) where
      waits : Told a c left (λ all. all ≡ view)
      waits = subst (λ l. Told a c left (λ all. all ≡ l ++ view)) none (both_told a b waiting passages text view (sym seen) c held left t p)

      pub draft_cut_last : (d : Option (List ℕ)) (last : List ℕ) → last ≡ left → WroteFront c d last → WroteFront a d view
      draft_cut_last d last same w = front_held a c d left view view [] waits (subst (WroteFront c d) same w) (sym (append-nil view))
