-- The pass that finds what a step needs.
use Rattle.std.proofs.Common.{◌≡◌, ◌<◌, ◌+◌, ℕ, List, [], ◌∷◌, ◌++◌, Bool, true, false, ◌||◌, cond, length, map, take, drop, reverse, refl, sym, ap, ap₂, ◌∙◌, subst, arith, Some, Option, get_or, slice_get, append_assoc, append-nil, suc}
use Rattle.std.specs.List.{All}
use Rattle.std.proofs.lemmas.List.{map-append, reverse-append, length-take-le, get_or-take, take-take}
use Rattle.std.proofs.lemmas.List.Elements.{All-push}
use Rattle.indexmap.proofs.ReorderLemmas.{map-reverse}
use Rattle.std.specs.Option.{option_to_list}
use Rattle.std.proofs.lemmas.List.Folds.{list_any-append}
use Rattle.std.proofs.lemmas.Option.{slice_get_read}
use Rattle.tb_model.specs.declared.event.Event.{Event}
use Rattle.tb_model.specs.declared.step_id.StepId.{StepId}
use Rattle.tb_model.specs.Causes.{Placed, some_needs, causes, causes_by_pass}
use Rattle.tb_model.specs.Facts.{History}
use Rattle.tb_model.specs.Needs.{needs, step_of}
use Rattle.tb_laws.proofs.CausesLemmas.{one_pass}
use Rattle.tb_model.proofs.LeastLemmas.{later_not_step}
use Rattle.tb_model.proofs.RemovalLemmas.{its_step}
use Rattle.tb_steps.specs.Entries.{Entry}
use Rattle.tb_steps.specs.Scans.{history_of, step_at}
use Rattle.tb_steps.proofs.FirstLemmas.{some_same, step_read, there}
use Rattle.tb_steps.proofs.ScanLemmas.{history_cut, history_more}
use Rattle.tb_cause.specs.Asked.{AreCausesAt}
use Rattle.tb_cause.specs.Chains.{causes_of, placed_at}
use Rattle.tb_cause.proofs.ConeLemmas.{somes_same}

-- ---- the pass asks only whether one of those found needs the next

same_pass : (K : History) (S T : List Placed) → ((u : Event) → some_needs S u ≡ some_needs T u) → causes_by_pass S K ≡ causes_by_pass T K
same_pass [] S T h = refl
same_pass (u ∷ K) S T h =
    let r : Placed = record { event = u; front = K } in
    ap (λ b. cond b (step_of K u ∷ causes_by_pass (r ∷ S) K) (causes_by_pass S K)) (h u)
    ∙ ap₂ (λ x y. cond (some_needs T u) (step_of K u ∷ x) y) (same_pass K (r ∷ S) (r ∷ T) (λ x. ap (λ c. needs K u x || c) (h x))) (same_pass K S T h)

abbrev placed : List Entry → ℕ → Entry → Placed
placed entries p e = record { event = e.event; front = history_of (take p entries) }

pub placed_pushed : (entries : List Entry) (places : List ℕ) (p : ℕ) (e : Entry) → p < length entries → e ≡ get_or entries p e → placed_at entries (places ++ p ∷ []) ≡ placed_at entries places ++ placed entries p e ∷ []
placed_pushed entries [] p e within here =
    ap (λ (o : Option Entry). map (placed entries p) (option_to_list o) ++ []) (slice_get_read entries (length entries) p e refl within here)
placed_pushed entries (q ∷ places) p e within here =
    let before = map (placed entries q) (option_to_list (slice_get entries q)) in
    ap (λ S. before ++ S) (placed_pushed entries places p e within here) ∙ sym (append_assoc before (placed_at entries places) (placed entries p e ∷ []))

or_turned : (b c : Bool) → (b || (c || false)) ≡ (c || b)
or_turned true true = refl
or_turned true false = refl
or_turned false true = refl
or_turned false false = refl

abbrev somes : List StepId → List (Option StepId)
somes = map (λ (s : StepId). Some s)

-- what is found, with what the pass finds in the rest, is all
abbrev pub IsFound : List Entry → ℕ → ℕ → List ℕ → Type 0
IsFound entries at left places =
    map (step_at entries) places ++ somes (causes_by_pass (placed_at entries (at ∷ places)) (history_of (take left entries)))
    ≡ somes (causes_by_pass (placed_at entries (at ∷ [])) (history_of (take at entries)))

-- one stored step more
module _ (entries : List Entry) (at p left : ℕ) (next : left ≡ p + 1) (places : List ℕ) (e : Entry) (within : p < length entries) (here : e ≡ get_or entries p e) (found : IsFound entries at left places) where
  abbrev S : List Placed
  S = placed_at entries (at ∷ places)

  abbrev K : History
  K = history_of (take p entries)

  abbrev all : List (Option StepId)
  all = somes (causes_by_pass (placed_at entries (at ∷ [])) (history_of (take at entries)))

  abbrev names : List (Option StepId)
  names = map (step_at entries) places

  so_far : names ++ somes (causes_by_pass S (e.event ∷ K)) ≡ all
  so_far = ap (λ H. names ++ somes (causes_by_pass S H)) (sym (ap (λ n. history_of (take n entries)) next ∙ history_more entries p e within here)) ∙ found

  passed : (b : Bool) → some_needs S e.event ≡ b → causes_by_pass S (e.event ∷ K) ≡ cond b (step_of K e.event ∷ causes_by_pass (placed entries p e ∷ S) K) (causes_by_pass S K)
  passed b h = ap (λ c. cond c (step_of K e.event ∷ causes_by_pass (placed entries p e ∷ S) K) (causes_by_pass S K)) h

  pub passed_by : some_needs S e.event ≡ false → IsFound entries at p places
  passed_by h = ap (λ x. names ++ somes x) (sym (passed false h)) ∙ so_far

  pub one_more : some_needs S e.event ≡ true → (places' : List ℕ) → places' ≡ places ++ p ∷ [] → IsFound entries at p places'
  one_more h places' with_place =
      let now : placed_at entries (at ∷ places') ≡ S ++ placed entries p e ∷ [] = ap (λ ps. placed_at entries (at ∷ ps)) with_place ∙ placed_pushed entries (at ∷ places) p e within here in
      let named : map (step_at entries) places' ≡ names ++ Some (step_of K e.event) ∷ [] =
      ap (map (step_at entries)) with_place ∙ map-append (step_at entries) places (p ∷ []) ∙ ap (λ (o : Option StepId). names ++ o ∷ []) (step_read entries p e within here) in
      ap₂ (λ n T. n ++ somes (causes_by_pass T K)) named now
      ∙ append_assoc names (Some (step_of K e.event) ∷ []) (somes (causes_by_pass (S ++ placed entries p e ∷ []) K))
      ∙ ap (λ x. names ++ Some (step_of K e.event) ∷ somes x)
      (same_pass K (S ++ placed entries p e ∷ []) (placed entries p e ∷ S)
      (λ u. list_any-append (λ (r : Placed). needs r.front r.event u) S (placed entries p e ∷ []) ∙ or_turned (some_needs S u) (needs K e.event u)))
      ∙ ap (λ x. names ++ somes x) (sym (passed true h)) ∙ so_far

-- ---- the step whose needs they are

causes_here : (v : Event) (later front : History) → causes_of (step_of front v) (later ++ v ∷ front) ≡ causes front v front
causes_here v [] front = ap (λ b. cond b (causes front v front) (causes_of (step_of front v) front)) (its_step front v)
causes_here v (w ∷ later) front =
    ap (λ b. cond b (causes (later ++ v ∷ front) w (later ++ v ∷ front)) (causes_of (step_of front v) (later ++ v ∷ front))) (later_not_step v front later w)
    ∙ causes_here v later front

-- the pass ends with all
pub all_causes : (entries : List Entry) (at left : ℕ) (places : List ℕ) → left ≡ 0 → at < length entries → IsFound entries at left places
    → (step : StepId) → step_at entries at ≡ Some step → map (step_at entries) places ≡ somes (causes_of step (history_of entries))
all_causes entries at left places none within found step is =
    let u = there entries at within in
    let F = history_of (take at entries) in
    let names = map (step_at entries) places in
    let same = some_same _ _ (sym (step_read entries at u.0 within u.1) ∙ is) in
    sym (append-nil names) ∙ sym (ap (λ n. names ++ somes (causes_by_pass (placed_at entries (at ∷ places)) (history_of (take n entries)))) none)
    ∙ found ∙ ap (λ S. somes (causes_by_pass S F)) (placed_pushed entries [] at u.0 within u.1)
    ∙ ap somes (one_pass F u.0.event ∙ sym (causes_here u.0.event (history_of (drop (suc at) entries)) F)
    ∙ ap₂ causes_of same (sym (history_cut entries at u.0 within u.1)))

all_reversed : (P : ℕ → Type 0) (xs : List ℕ) → All P xs → All P (reverse xs)
all_reversed P [] h = h
all_reversed P (x ∷ xs) h =
    subst (All P) (sym (reverse-append (x ∷ []) xs)) (All-push P (reverse xs) x (all_reversed P xs (λ i d l. h (suc i) d (omega (arith, l)))) (h 0 x (omega arith)))

-- the pass says the causes in the order of the history
pub causes_told : (entries : List Entry) (at left : ℕ) (places places' : List ℕ) → left ≡ 0 → at < length entries → IsFound entries at left places → All (λ p. p < length entries) places
    → places' ≡ reverse places → AreCausesAt entries at places'
causes_told entries at left places places' none within found inside turned = record {
  names = λ step is.
      ap (map (step_at entries)) turned ∙ map-reverse (step_at entries) places ∙ ap reverse (all_causes entries at left places none within found step is)
      ∙ sym (map-reverse (λ (s : StepId). Some s) (causes_of step (history_of entries)));
  inside = subst (All (λ p. p < length entries)) (sym turned) (all_reversed (λ p. p < length entries) places inside);
}

-- the names are those of the indexes
pub causes_named : (entries : List Entry) (at : ℕ) (places : List ℕ) (steps : List StepId) → AreCausesAt entries at places → somes steps ≡ map (step_at entries) places
    → (step : StepId) → step_at entries at ≡ Some step → steps ≡ reverse (causes_of step (history_of entries))
causes_named entries at places steps found named step is = somes_same steps (reverse (causes_of step (history_of entries))) (named ∙ found.names step is)

-- what is after the step makes no difference
pub causes_in_front : (entries : List Entry) (at : ℕ) (steps : List StepId) → at < length entries
    → ((step : StepId) → step_at (take (at + 1) entries) at ≡ Some step → steps ≡ reverse (causes_of step (history_of (take (at + 1) entries))))
    → (step : StepId) → step_at entries at ≡ Some step → steps ≡ reverse (causes_of step (history_of entries))
causes_in_front entries at steps within told step is =
    let u = there entries at within in
    let F = history_of (take at entries) in
    let same : step_of F u.0.event ≡ step = some_same _ _ (sym (step_read entries at u.0 within u.1) ∙ is) in
    let lower : at < length (take (at + 1) entries) = omega (arith, length-take-le (at + 1) entries (omega (arith, within))) in
    let front : take at (take (at + 1) entries) ≡ take at entries = take-take at (at + 1) entries (omega arith) in
    let here : u.0 ≡ get_or (take (at + 1) entries) at u.0 = u.1 ∙ sym (get_or-take (at + 1) entries at u.0 (omega arith)) in
    let there_too : step_at (take (at + 1) entries) at ≡ Some step = step_read (take (at + 1) entries) at u.0 lower here ∙ ap (λ (es : List Entry). Some (step_of (history_of es) u.0.event)) front ∙ ap (λ (i : StepId). Some i) same in
    told step there_too
    ∙ ap reverse
    (ap₂ causes_of (sym same) (history_more entries at u.0 within u.1) ∙ causes_here u.0.event [] F
    ∙ sym (causes_here u.0.event (history_of (drop (suc at) entries)) F) ∙ ap₂ causes_of same (sym (history_cut entries at u.0 within u.1)))
