-- Whole runs, whatever a step is.
use Rattle.std.proofs.Common.{ℕ, List, [], ◌∷◌, ◌++◌, refl, sym, ap, ◌∙◌, append_assoc, append-nil, subst}
use Rattle.tb_session.specs.Answer.{RunOf}

-- one run after another
pub run_append : {S : Type 0} (step : S → List ℕ → List ℕ → S → Type 0) (old mid new : S) (lines others : List (List ℕ)) (out more : List ℕ)
    → RunOf step old lines out mid → RunOf step mid others more new → RunOf step old (lines ++ others) (out ++ more) new
run_append {S} step old mid new [] others out more (e, m) h =
    let P : S → Type 0 = λ s. RunOf step s others more new in
    let Q : List ℕ → Type 0 = λ l. RunOf step old others (l ++ more) new in
    subst Q (sym e) (subst P m h)
run_append {S} step old mid new (first ∷ lines) others out more r h =
    (r.0, r.1, r.2 ++ more, r.3, run_append step r.1 mid new lines others r.2 more r.4 h, ap (λ l. l ++ more) r.5 ∙ append_assoc r.0 r.2 more)

-- a run of one step
pub run_one : {S : Type 0} (step : S → List ℕ → List ℕ → S → Type 0) (old new : S) (line reply : List ℕ) → step old line reply new → RunOf step old (line ∷ []) reply new
run_one {S} step old new line reply h = (reply, new, [], h, (refl, refl), sym (append-nil reply))

-- ---- where each line has some step

module _ {S : Type 0} (step : S → List ℕ → List ℕ → S → Type 0) (Fits : S → Type 0) where
  -- what each step retains, a run retains
  pub run_fits : ((old new : S) (line reply : List ℕ) → Fits old → step old line reply new → Fits new) → (old new : S) (lines : List (List ℕ)) (out : List ℕ) → Fits old → RunOf step old lines out new → Fits new
  run_fits keeps old new [] out h r = subst Fits (sym r.1) h
  run_fits keeps old new (line ∷ lines) out h r = run_fits keeps r.1 new lines r.2 (keeps old r.1 line r.0 h r.3) r.4

  pub some_run : ((old : S) (line : List ℕ) → Fits old → (reply : List ℕ) × (new : S) × step old line reply new × Fits new)
      → (old : S) (lines : List (List ℕ)) → Fits old → (out : List ℕ) × (new : S) × RunOf step old lines out new
  some_run some old [] h = ([], old, (refl, refl))
  some_run some old (line ∷ lines) h =
      let first = some old line h in
      let rest = some_run some first.1 lines first.3 in
      (first.0 ++ rest.0, rest.1, (first.0, first.1, rest.0, first.2, rest.2, refl))

  -- a run of some lines goes on to a run of more
  pub run_extends : ((old : S) (line : List ℕ) → Fits old → (reply : List ℕ) × (new : S) × step old line reply new × Fits new)
      → (old mid : S) (lines more : List (List ℕ)) (out : List ℕ) → RunOf step old lines out mid → Fits mid → (rest : List ℕ) × (new : S) × RunOf step old (lines ++ more) (out ++ rest) new
  run_extends some old mid lines more out r h =
      let rest = some_run some mid more h in
      (rest.0, rest.1, run_append step old mid rest.1 lines more out rest.0 r rest.2)
