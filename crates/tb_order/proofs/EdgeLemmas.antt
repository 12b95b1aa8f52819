-- The immediate needs of one stored step more.
use Rattle.std.proofs.Common.{◌≡◌, ◌<◌, ◌≤◌, ◌+◌, ℕ, suc, List, [], ◌∷◌, ◌++◌, length, take, reverse, map, sym, ap, ◌∙◌, arith, Some, get_or}
use Rattle.std.proofs.lemmas.List.{length-append, length-map, length-reverse, reverse-append}
use Rattle.indexmap.proofs.ReorderLemmas.{map-reverse}
use Rattle.tb_model.specs.declared.step_id.StepId.{StepId}
use Rattle.tb_model.specs.Facts.{History}
use Rattle.tb_model.specs.Needs.{step_of}
use Rattle.tb_steps.specs.Entries.{Entry}
use Rattle.tb_steps.specs.Scans.{history_of, step_at}
use Rattle.tb_steps.proofs.FirstLemmas.{some_same, step_read}
use Rattle.tb_steps.proofs.ScanLemmas.{history_more}
use Rattle.tb_races.specs.declared.cause.Cause.{Cause}
use Rattle.tb_races.specs.Immediate.{immediate}
use Rattle.tb_lanes.specs.Needing.{place_at}
use Rattle.tb_order.specs.declared.edge.Edge.{Edge}
use Rattle.tb_order.specs.Edges.{as_edge, edges}
use Rattle.tb_order.specs.Told.{told}

-- indexes that fall, all of them below n, are at most n
pub falling_few : (n : ℕ) (xs : List ℕ) → ((i j : ℕ) → i < j → j < length xs → place_at xs j < place_at xs i) → ((i : ℕ) → i < length xs → place_at xs i < n) → length xs ≤ n
falling_few n [] falls low = omega arith
falling_few n (x ∷ xs) falls low =
    let rest : length xs ≤ x = falling_few x xs (λ i j l m. falls (suc i) (suc j) (omega (arith, l)) (omega (arith, m))) (λ i l. falls 0 (suc i) (omega arith) (omega (arith, l))) in
    let first : x < n = low 0 (omega arith) in
    omega (arith, rest, first)

module _ (entries : List Entry) (at : ℕ) (x : Entry) (within : at < length entries) (here : x ≡ get_or entries at x) where
  abbrev F : History
  F = history_of (take at entries)

  abbrev needed : List Cause
  needed = immediate F x.event F

  pub edges_more : (id : StepId) → step_at entries at ≡ Some id → (causes : List Cause) → causes ≡ reverse needed → (found : List Edge) → found ≡ map (as_edge id) causes
      → reverse (edges (history_of (take (at + 1) entries))) ≡ reverse (edges F) ++ found
  edges_more id named causes listed found are =
      let e = step_of F x.event in
      let same : id ≡ e = some_same _ _ (sym named ∙ step_read entries at x within here) in
      let its : found ≡ reverse (map (as_edge e) needed) =
      are ∙ ap (λ (i : StepId). map (as_edge i) causes) same ∙ ap (map (as_edge e)) listed ∙ map-reverse (as_edge e) needed in
      ap (λ K. reverse (edges K)) (history_more entries at x within here)
      ∙ reverse-append (map (as_edge e) needed) (edges F)
      ∙ ap (λ (es : List Edge). reverse (edges F) ++ es) (sym its)

  -- as many as the places of the steps that are needed
  pub count_more : (places : List ℕ) → map (told (take at entries) x.event) (reverse places) ≡ map (λ (c : Cause). Some c) (reverse needed)
      → length (edges (history_of (take (at + 1) entries))) ≡ length (edges F) + length places
  count_more places h =
      let e = step_of F x.event in
      let many : length places ≡ length needed =
      sym (length-reverse places) ∙ sym (length-map (reverse places) (told (take at entries) x.event)) ∙ ap length h
      ∙ length-map (reverse needed) (λ (c : Cause). Some c) ∙ length-reverse needed in
      let all : length (edges (history_of (take (at + 1) entries))) ≡ length needed + length (edges F) =
      ap (λ K. length (edges K)) (history_more entries at x within here)
      ∙ length-append (map (as_edge e) needed) (edges F)
      ∙ ap (λ n. n + length (edges F)) (length-map needed (as_edge e)) in
      omega (arith, many, all)
