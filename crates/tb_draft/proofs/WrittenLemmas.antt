-- What was written and what waits, one piece after another.
use Rattle.std.proofs.Common.{◌≡◌, ℕ, List, [], ◌++◌, take, drop, length, sym, ap, ◌∙◌, append_assoc, append-nil, subst, Option, Result, Ok, Err}
use Rattle.std.specs.Prelude.{OnErr}
use Rattle.std.proofs.Math.Seq.{take-append_seam}
use Rattle.std.proofs.lemmas.List.{take-append-drop}
use Rattle.std.specs.Io.KnownBytes.{Appends}
use Rattle.tb_lines.proofs.KnownLemmas.{appends_nil, appends_trans}
use Rattle.tb_draft.specs.Written.{Told, WroteFront}

-- nothing was written
pub told_nothing : (a : Option (List ℕ)) (rest : List ℕ) (IsText : List ℕ → Type 0) → IsText rest → Told a a rest IsText
told_nothing a rest IsText h = record { front = []; wrote = appends_nil a; whole = h }

-- more waits
pub told_on : (a b : Option (List ℕ)) (rest more : List ℕ) (IsText IsMore : List ℕ → Type 0) → Told a b rest IsText → ((front : List ℕ) → IsText (front ++ rest) → IsMore (front ++ more)) → Told a b more IsMore
told_on a b rest more IsText IsMore t f = record { front = t.front; wrote = t.wrote; whole = f t.front t.whole }

-- a line that is added to a text is added to the text after a front
pub longer : (front text line more : List ℕ) → more ≡ text ++ line → front ++ more ≡ (front ++ text) ++ line
longer front text line more e = ap (λ l. front ++ l) e ∙ sym (append_assoc front text line)

-- a part of what waits was written
pub told_passed : (a b c : Option (List ℕ)) (held left : List ℕ) (IsText : List ℕ → Type 0) → Told a b held IsText → Told b c left (λ all. all ≡ held) → Told a c left IsText
told_passed a b c held left IsText t p = record {
  front = t.front ++ p.front;
  wrote = appends_trans a b c t.front p.front t.wrote p.wrote;
  whole = subst IsText (sym (append_assoc t.front p.front left ∙ ap (λ l. t.front ++ l) p.whole)) t.whole;
}

-- more came after what waits
pub told_more : (a b c : Option (List ℕ)) (held left done more : List ℕ) → Told a b held (λ all. all ≡ done) → Told b c left (λ all. all ≡ held ++ more) → Told a c left (λ all. all ≡ done ++ more)
told_more a b c held left done more t p = record {
  front = t.front ++ p.front;
  wrote = appends_trans a b c t.front p.front t.wrote p.wrote;
  whole = append_assoc t.front p.front left ∙ ap (λ l. t.front ++ l) p.whole ∙ sym (append_assoc t.front held more) ∙ ap (λ l. l ++ more) t.whole;
}

-- ---- a front

-- of a text that is longer
pub front_more : (a b : Option (List ℕ)) (text more : List ℕ) → WroteFront a b text → WroteFront a b (text ++ more)
front_more a b text more w =
    let cut : List ℕ = take w.0 text in
    let whole : text ++ more ≡ cut ++ (drop w.0 text ++ more) = ap (λ l. l ++ more) (sym (take-append-drop w.0 text)) ∙ append_assoc cut (drop w.0 text) more in
    (length cut, subst (Appends a b) (sym (ap (take (length cut)) whole ∙ take-append_seam cut (drop w.0 text ++ more))) w.1)

-- after a front that was written whole
front_after : (a b c : Option (List ℕ)) (front text : List ℕ) → Appends a b front → WroteFront b c text → WroteFront a c (front ++ text)
front_after a b c front text wrote w =
    let cut : List ℕ = front ++ take w.0 text in
    let whole : front ++ text ≡ cut ++ drop w.0 text = ap (λ l. front ++ l) (sym (take-append-drop w.0 text)) ∙ sym (append_assoc front (take w.0 text) (drop w.0 text)) in
    (length cut, subst (Appends a c) (sym (ap (take (length cut)) whole ∙ take-append_seam cut (drop w.0 text))) (appends_trans a b c front (take w.0 text) wrote w.1))

-- after a front that was written, of what waits and more
pub front_told : (a b c : Option (List ℕ)) (held done more whole rest : List ℕ) → Told a b held (λ all. all ≡ done) → WroteFront b c (held ++ more) → whole ≡ (done ++ more) ++ rest → WroteFront a c whole
front_told a b c held done more whole rest t w is =
    let all : t.front ++ (held ++ more) ≡ done ++ more = sym (append_assoc t.front held more) ∙ ap (λ l. l ++ more) t.whole in
    subst (WroteFront a c) (sym is) (front_more a c (done ++ more) rest (subst (WroteFront a c) all (front_after a b c t.front (held ++ more) t.wrote w)))

-- of what waits
pub front_held : (a b c : Option (List ℕ)) (held done whole rest : List ℕ) → Told a b held (λ all. all ≡ done) → WroteFront b c held → whole ≡ done ++ rest → WroteFront a c whole
front_held a b c held done whole rest t w is =
    subst (WroteFront a c) (sym is) (front_more a c done rest (subst (WroteFront a c) t.whole (front_after a b c t.front held t.wrote w)))

-- ---- what holds of an error, where there is one

pub on_err : {A E : Type 0} (r : Result A E) (X : Type 0) → X → OnErr r X
on_err (Ok x) X h = tt
on_err (Err e) X h = h

-- ---- bytes put after those that wait

module _ (a b : Option (List ℕ)) (waiting held bytes : List ℕ) (same : held ≡ waiting) where
  pub put_cut : WroteFront a b held → WroteFront a b (waiting ++ bytes)
  put_cut w = front_more a b waiting bytes (subst (WroteFront a b) same w)

  pub put_cut_later : (c : Option (List ℕ)) → Appends a b held → WroteFront b c bytes → WroteFront a c (waiting ++ bytes)
  put_cut_later c wrote w = front_after a b c waiting bytes (subst (Appends a b) same wrote) w

  pub put_whole : (c : Option (List ℕ)) (left : List ℕ) → left ≡ [] → Appends a b held → Appends b c bytes → Told a c left (λ all. all ≡ waiting ++ bytes)
  put_whole c left none wrote more = record {
    front = waiting ++ bytes;
    wrote = appends_trans a b c waiting bytes (subst (Appends a b) same wrote) more;
    whole = ap (λ l. (waiting ++ bytes) ++ l) none ∙ append-nil (waiting ++ bytes);
  }

-- ---- two pieces put after those that wait

module _ (a b : Option (List ℕ)) (waiting first second whole : List ℕ) (is : whole ≡ first ++ second) where
  both : (waiting ++ first) ++ second ≡ waiting ++ whole
  both = append_assoc waiting first second ∙ ap (λ l. waiting ++ l) (sym is)

  pub first_cut : WroteFront a b (waiting ++ first) → WroteFront a b (waiting ++ whole)
  first_cut w = subst (WroteFront a b) both (front_more a b (waiting ++ first) second w)

  pub second_cut : (c : Option (List ℕ)) (held : List ℕ) → Told a b held (λ all. all ≡ waiting ++ first) → WroteFront b c (held ++ second) → WroteFront a c (waiting ++ whole)
  second_cut c held t w = front_told a b c held (waiting ++ first) second (waiting ++ whole) [] t w (sym both ∙ sym (append-nil ((waiting ++ first) ++ second)))

  pub both_told : (c : Option (List ℕ)) (held left : List ℕ) → Told a b held (λ all. all ≡ waiting ++ first) → Told b c left (λ all. all ≡ held ++ second) → Told a c left (λ all. all ≡ waiting ++ whole)
  both_told c held left t p = subst (λ w. Told a c left (λ all. all ≡ w)) both (told_more a b c held left (waiting ++ first) second t p)
