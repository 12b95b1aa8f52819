-- The steps that are there, written in pieces.
use Rattle.std.proofs.Common.{◌≡◌, ◌≤◌, ◌+◌, ℕ, suc, List, [], ◌∷◌, ◌++◌, map, reverse, take, drop, length, refl, sym, ap, ap₂, ◌∙◌, append_assoc, append-nil, subst, Option}
use Rattle.std.proofs.lemmas.List.{take_all, take-append-drop, length-map, length-reverse}
use Rattle.std.specs.Fmt.{decimal}
use Rattle.std.specs.Prelude.{codes}
use Rattle.tb_lines.proofs.KnownLemmas.{appends_nil}
use Rattle.tb_model.specs.declared.event.Event.{Event}
use Rattle.tb_model.specs.Facts.{History}
use Rattle.tb_model.specs.Lines.{Departure}
use Rattle.tb_model.specs.Program.{Program}
use Rattle.tb_steps.specs.Entries.{Entry, departure}
use Rattle.tb_steps.specs.Scans.{history_of}
use Rattle.tb_steps.proofs.ScanLemmas.{history_of-append}
use Rattle.tb_live.specs.Session.{Session, history}
use Rattle.tb_commands.specs.declared.command.Command.TheVariants.{Show}
use Rattle.tb_draft.specs.Written.{Told, WroteFront}
use Rattle.tb_draft.proofs.WrittenLemmas.{told_on, front_held, longer}
use Rattle.tb_view.specs.declared.view.View.TheVariants.{Hist}
use Rattle.tb_view.specs.Lines.{line, event_line, step_line}
use Rattle.tb_view.specs.Steps.{Counts, AreCounts, count_of, history_lines, history_text}
use Rattle.tb_view.proofs.CountLemmas.{IsReadAt}
use Rattle.tb_view.proofs.WalkLemmas.{told_more}
use Rattle.tb_replies.specs.Replies.{Reply, shown}
use Rattle.tb_replies.specs.Told.{Begins}

-- ---- the lines of the first steps begin those of all

lines_begin : (P : Program) (F H : History) → (rest : List ℕ) × (history_lines P (F ++ H) ≡ history_lines P H ++ rest)
lines_begin P [] H = ([], sym (append-nil (history_lines P H)))
lines_begin P (v ∷ F) H =
    let more = lines_begin P F H in
    let last = step_line P (F ++ H) v in
    (more.0 ++ last, ap (λ l. l ++ last) more.1 ∙ append_assoc (history_lines P H) more.0 last)

text_begins : (P : Program) (entries : List Entry) (start : List ℕ) (i : ℕ)
    → (rest : List ℕ) × (start ++ history_lines P (history_of entries) ≡ (start ++ history_lines P (history_of (take i entries))) ++ rest)
text_begins P entries start i =
    let front = history_of (take i entries) in
    let later = history_of (drop i entries) in
    let cut : history_of entries ≡ later ++ front = ap history_of (sym (take-append-drop i entries)) ∙ history_of-append (take i entries) (drop i entries) in
    let more = lines_begin P later front in
    (more.0, ap (λ H. start ++ history_lines P H) cut ∙ ap (λ l. start ++ l) more.1 ∙ sym (append_assoc start (history_lines P front) more.0))

-- ---- step by step, after a text

module _ (P : Program) (entries : List Entry) (start : List ℕ) where
  -- with the lines of so many steps
  abbrev pub so_far : ℕ → List ℕ
  so_far i = start ++ history_lines P (history_of (take i entries))

  abbrev pub all_told : List ℕ
  all_told = start ++ history_lines P (history_of entries)

  -- the line of one more waits
  pub line_waits : (a b : Option (List ℕ)) (i : ℕ) (v : Event) (counts : Counts) (text more : List ℕ) → IsReadAt entries i v → AreCounts (history_of (take i entries)) counts
      → Told a b text (λ told. told ≡ so_far i) → more ≡ text ++ event_line P (record { task = v.task; k = suc (count_of counts v.task) }) v → Told a b more (λ told. told ≡ so_far (i + 1))
  line_waits a b i v counts text more read are t grows =
      told_on a b text more _ _ t (λ front is. told_more P entries i v counts start (front ++ text) (front ++ more) read are is (longer front text _ more grows))

  -- no more are written
  pub lines_begun : (a b : Option (List ℕ)) (i : ℕ) (text : List ℕ) → Told a b text (λ told. told ≡ so_far i) → WroteFront a b all_told
  lines_begun a b i text t =
      let more = text_begins P entries start i in
      front_held a b b text (so_far i) all_told more.0 t (0, appends_nil b) more.1

  pub lines_cut : (a b c : Option (List ℕ)) (i : ℕ) (text : List ℕ) → Told a b text (λ told. told ≡ so_far i) → WroteFront b c text → WroteFront a c all_told
  lines_cut a b c i text t w =
      let more = text_begins P entries start i in
      front_held a b c text (so_far i) all_told more.0 t w more.1

  -- none is left
  pub lines_told : (a b : Option (List ℕ)) (i : ℕ) (text : List ℕ) → length entries ≤ i → Told a b text (λ told. told ≡ so_far i) → Told a b text (λ told. told ≡ all_told)
  lines_told a b i text over t = subst (λ (es : List Entry). Told a b text (λ told. told ≡ start ++ history_lines P (history_of es))) (take_all i entries over) t

-- ---- the reply

as_many : (entries : List Entry) → length entries ≡ length (history_of entries)
as_many entries =
    sym (length-map (map departure (reverse entries)) (λ (d : Departure). d.event) ∙ length-map (reverse entries) departure ∙ length-reverse entries)

module _ (s : Session) (P : Program) (entries : List Entry) (head : List ℕ) (begins : head ≡ line (codes "hist " ++ decimal (length entries))) (program : P ≡ s.program) (same : history_of entries ≡ history s) where
  is_shown : head ++ history_lines P (history_of entries) ≡ shown s Hist
  is_shown =
      ap₂ (λ (l : List ℕ) (Q : Program). l ++ history_lines Q (history_of entries)) (begins ∙ ap (λ n. line (codes "hist " ++ decimal n)) (as_many entries)) program
      ∙ ap (λ H. history_text s.program H) same

  -- all of it is written
  pub history_told : (a b : Option (List ℕ)) (text : List ℕ) → Told a b text (λ told. told ≡ head ++ history_lines P (history_of entries)) → Told a b text (λ out. Reply s (Show Hist) out s)
  history_told a b text t = told_on a b text text _ _ t (λ front is. (is ∙ is_shown, refl))

  -- a front of it is a beginning of the reply
  pub history_begins : (a b : Option (List ℕ)) → WroteFront a b (head ++ history_lines P (history_of entries)) → Begins (Reply s (Show Hist)) a b
  history_begins a b w = (head ++ history_lines P (history_of entries), s, w.0, (is_shown, refl), w.1)
