-- The event that a line says is in range.
use Rattle.std.proofs.Common.{◌≡◌, ℕ, ℤ, List, [], ◌∷◌, Bool, true, false, not, cond, length, drop, codes, sym, ap, ◌∙◌, Option, Some, None, Result, Ok, Err, nat_lt}
use Rattle.tb_model.specs.declared.event.Event.{Event}
use Rattle.tb_plan.specs.Plans.{names_allowed}
use Rattle.tb_read.specs.Text.{line_words, before_comment, is_text}
use Rattle.tb_read.specs.Word.{Word}
use Rattle.tb_runs.specs.Reading.{Reading, and_then, ended, begins, number_in, id_in}
use Rattle.tb_runs.specs.Actions.{action_in}
use Rattle.tb_runs.specs.Lines.{Firsts, count_in, cells_said, fresh_in, cell_said, hist_by, hist_said, event_said, said_in, some_said, said_by, longest, line_said, cells_at}
use Rattle.tb_runs.specs.declared.fault.Fault.{Fault}
use Rattle.tb_runs.specs.declared.fault.Fault.TheVariants.{NoCells, BadNumber, TooLarge, NotText, Arity}
use Rattle.tb_runs.specs.declared.said.Said.{Said}
use Rattle.tb_runs.specs.declared.said.Said.TheVariants.{Cells, Cell, Hist, Event as AnEvent}
use Rattle.tb_runs.specs.declared.said.Stage.{Stage}
use Rattle.tb_runs.specs.declared.said.Stage.TheVariants as stage
use Rattle.tb_runs.proofs.RangeLemmas.{both, not_ok, same_first, action_allowed}

module _ (k : Option ℕ) (v : Event) (rest : List Word) where
  event_allowed : (cells : ℕ) (words : List Word) → event_said cells words ≡ Ok (AnEvent k v, rest) → names_allowed cells v.action ≡ true
  event_allowed cells words e =
      let b = both (id_in words) (λ id words. and_then (action_in cells words) (λ action words. Ok (AnEvent id.step (record { task = id.task; action = action }), words))) (AnEvent k v, rest) e in
      let c = both (action_in cells b.words) (λ action words. Ok (AnEvent b.x.step (record { task = b.x.task; action = action }), words)) (AnEvent k v, rest) b.other in
      let said = same_first (AnEvent b.x.step (record { task = b.x.task; action = c.x })) (AnEvent k v) c.words rest c.other in
      let same : ◌≡◌ {A = Event} (record { task = b.x.task; action = c.x }) v = cc in
      ap (λ (w : Event). names_allowed cells w.action) (sym same) ∙ action_allowed cells b.words c.words c.x c.one

  no_cell : (firsts : Firsts) (cells : ℕ) (words : List Word) → cell_said firsts cells words ≡ Ok (AnEvent k v, rest) → ⊥
  no_cell firsts cells words e =
      let b = both (fresh_in firsts cells words) (λ c words. and_then (number_in words) (λ x words. Ok (Cell c x, words))) (AnEvent k v, rest) e in
      let c = both (number_in b.words) (λ x words. Ok (Cell b.x x, words)) (AnEvent k v, rest) b.other in
      let said = same_first (Cell b.x c.x) (AnEvent k v) c.words rest c.other in
      cc

  no_hist_by : (z : ℤ) (words : List Word) → hist_by z words ≡ Ok (AnEvent k v, rest) → ⊥
  no_hist_by (ℤ.pos n) words e = (let said = same_first Hist (AnEvent k v) words rest e in cc)
  no_hist_by (ℤ.negsuc n) words e = not_ok BadNumber (AnEvent k v, rest) e

  no_hist : (words : List Word) → hist_said words ≡ Ok (AnEvent k v, rest) → ⊥
  no_hist words e =
      let b = both (number_in words) hist_by (AnEvent k v, rest) e in
      no_hist_by b.x b.words b.other

  no_cells : (words : List Word) → cells_said words ≡ Ok (AnEvent k v, rest) → ⊥
  no_cells words e =
      let b = both (count_in words) (λ n words. Ok (Cells n, words)) (AnEvent k v, rest) e in
      let said = same_first (Cells b.x) (AnEvent k v) b.words rest b.other in
      cc

  headed_by : (firsts : Firsts) (cells : ℕ) (words behind : List Word) (c h : Bool) →
      cond c (cell_said firsts cells behind) (cond h (hist_said behind) (event_said cells words)) ≡ Ok (AnEvent k v, rest) → names_allowed cells v.action ≡ true
  headed_by firsts cells words behind true h e = absurd (no_cell firsts cells behind e)
  headed_by firsts cells words behind false true e = absurd (no_hist behind e)
  headed_by firsts cells words behind false false e = event_allowed cells words e

  begun_by : (words : List Word) (b : Bool) → cond b (cells_said words) (Err NoCells) ≡ Ok (AnEvent k v, rest) → ⊥
  begun_by words true e = no_cells words e
  begun_by words false e = not_ok NoCells (AnEvent k v, rest) e

  said_allowed : (firsts : Firsts) (at : Stage) (words : List Word) → said_in firsts at words ≡ Ok (AnEvent k v, rest) → names_allowed (cells_at at) v.action ≡ true
  said_allowed firsts stage.Begin words e = absurd (begun_by (drop 1 words) (begins (codes "cells") words) e)
  said_allowed firsts (stage.Cells count) words e = headed_by firsts count words (drop 1 words) (begins (codes "cell") words) (begins (codes "hist") words) e
  said_allowed firsts (stage.Events count) words e = event_allowed count words e

whole : (r : Reading Said) (said : Said) → some_said (ended r) ≡ Ok (Some said) → r ≡ Ok (said, [])
whole (Err fault) said e = absurd (not_ok fault (Some said) e)
whole (Ok (x, (word ∷ words))) said e = absurd (not_ok Arity (Some said) e)
whole (Ok (x, [])) said e = (let same : x ≡ said = cc in ap (λ y. Ok (y, [])) same)

by_words : (firsts : Firsts) (at : Stage) (words : List Word) (k : Option ℕ) (v : Event) → said_by firsts at words ≡ Ok (Some (AnEvent k v)) → names_allowed (cells_at at) v.action ≡ true
by_words firsts at [] k v e = absurd (let n : ◌≡◌ {A = Result (Option Said) Fault} (Ok None) (Ok (Some (AnEvent k v))) = e in cc)
by_words firsts at (word ∷ words) k v e = said_allowed k v [] firsts at (word ∷ words) (whole (said_in firsts at (word ∷ words)) (AnEvent k v) e)

said_where : (long text : Bool) (r : Result (Option Said) Fault) (o : Option Said) → cond long (Err TooLarge) (cond (not text) (Err NotText) r) ≡ Ok o → r ≡ Ok o
said_where true text r o e = absurd (not_ok TooLarge o e)
said_where false false r o e = absurd (not_ok NotText o e)
said_where false true r o e = e

pub line_allowed : (firsts : Firsts) (at : Stage) (line : List ℕ) (k : Option ℕ) (v : Event) → line_said firsts at line ≡ Ok (Some (AnEvent k v)) → names_allowed (cells_at at) v.action ≡ true
line_allowed firsts at line k v e =
    by_words firsts at (line_words line) k v
    (said_where (nat_lt longest (length line)) (is_text (before_comment line)) (said_by firsts at (line_words line)) (Some (AnEvent k v)) e)
