-- Whose the entries of a journal are: when a turn goes on or begins, and one by one.
use Rattle.std.proofs.Common.{◌&&◌, ◌≡◌, ◌≤◌, ◌<◌, ◌+◌, ◌-◌, ℕ, zero, suc, List, [], ◌∷◌, ◌++◌, Bool, cond, nat_lt, length, drop, slice_get, get_or, Some, Result, Ok, Err, refl, sym, ap, ap₂, ◌∙◌, subst, arith, rules, le-ltb, lt-ltb, add-suc}
use Rattle.std.specs.Prelude.{IfOk}
use Rattle.std.specs.List.{AllByRecursion, list_all}
use Rattle.std.proofs.lemmas.List.{get_or_at}
use Rattle.tb_model.specs.Names.{Name}
use Rattle.tb_model.specs.declared.entry.Entry.{Entry}
use Rattle.tb_model.specs.declared.entry.Entry.TheVariants.{Opened}
use Rattle.tb_journal.specs.declared.compact.Compact.{Compact}
use Rattle.tb_journal.specs.declared.compact.Compact.TheVariants.{Apart}
use Rattle.tb_journal.specs.declared.turn.Turn.{Turn}
use Rattle.tb_journal.specs.Compact.{entry_of, IsThere}
use Rattle.tb_journal.specs.Turns.{Begins, Rises, task_at, entries}
use Rattle.tb_journal.proofs.CompactLemmas.{one_kept}

-- ---- turns

-- the end isn't in front of the beginning
ordered : (low : ℕ) (ts : List Turn) (high : ℕ) → Rises low ts high → low ≤ high
ordered low [] high r = r
ordered low (x ∷ xs) high r = let rest = ordered (suc x.from) xs high r.1 in omega (arith, r.0, rest)

-- each turn begins after the beginning
above : (low : ℕ) (ts : List Turn) (high j : ℕ) (d : Turn) → Rises low ts high → j < length ts → low ≤ (get_or ts j d).from
above low [] high j d r h = absurd (omega (arith, h))
above low (x ∷ xs) high zero d r h = r.0
above low (x ∷ xs) high (suc j) d r h = let a = above (suc x.from) xs high j d r.1 (omega (arith, h)) in omega (arith, r.0, a)

-- the entries go on
pub rises_on : (low : ℕ) (ts : List Turn) (high : ℕ) → Rises low ts high → Rises low ts (suc high)
rises_on low [] high r = omega (arith, r)
rises_on low (x ∷ xs) high r = (r.0, rises_on (suc x.from) xs high r.1)

-- a further turn begins
pub rises_added : (low : ℕ) (ts : List Turn) (x : Turn) → Rises low ts x.from → Rises low (ts ++ x ∷ []) (suc x.from)
rises_added low [] x r = (r, omega arith)
rises_added low (y ∷ ys) x r = (r.0, rises_added (suc y.from) ys x r.1)

-- the slots in front of a further turn are whose they were
pub turn_kept : (t : Name) (ts : List Turn) (x : Turn) (i : ℕ) → i < x.from → task_at t (ts ++ x ∷ []) i ≡ task_at t ts i
turn_kept t [] x i h = ap (λ b. cond b t x.task) (lt-ltb i x.from h)
turn_kept t (y ∷ ys) x i h = ap (λ u. cond (nat_lt i y.from) t u) (turn_kept y.task ys x i h)

-- where a further turn begins, the slot is its own
pub turn_own : (t : Name) (ts : List Turn) (x : Turn) (low : ℕ) → Rises low ts x.from → task_at t (ts ++ x ∷ []) x.from ≡ x.task
turn_own t [] x low r = ap (λ b. cond b t x.task) (le-ltb x.from x.from (omega arith))
turn_own t (y ∷ ys) x low r =
    let within = ordered (suc y.from) ys x.from r.1 in
    ap (λ b. cond b t (task_at y.task (ys ++ x ∷ []) x.from)) (le-ltb x.from y.from (omega (arith, within)))
    ∙ turn_own y.task ys x (suc y.from) r.1

-- after all turns the slot is the last one's
pub last_goes_on : (t : Name) (ts : List Turn) (low high : ℕ) (x : Turn) → Rises low ts high → slice_get ts (length ts - 1) ≡ Some x → task_at t ts high ≡ x.task
last_goes_on t [] low high x r h = absurd (search (h, rules))
last_goes_on t (y ∷ []) low high x r h =
    let within = ordered (suc y.from) [] high r.1 in
    ap (λ b. cond b t y.task) (le-ltb high y.from (omega (arith, within))) ∙ search (h, rules)
last_goes_on t (y ∷ z ∷ zs) low high x r h =
    let within = ordered (suc y.from) (z ∷ zs) high r.1 in
    ap (λ b. cond b t (task_at y.task (z ∷ zs) high)) (le-ltb high y.from (omega (arith, within)))
    ∙ last_goes_on y.task (z ∷ zs) (suc y.from) high x r.1 (search (h, rules))

-- the newest turn goes on
pub stays : (ts : List Turn) (at : ℕ) → Rises 0 ts at → Begins at (task_at [] ts at) ts ts
stays ts at r = record { rises = rises_on 0 ts at r; own = refl; others = λ i l. refl }

-- a turn begins
pub begun : (ts : List Turn) (at : ℕ) (t : Name) → Rises 0 ts at → Begins at t ts (ts ++ record { from = at; task = t } ∷ [])
begun ts at t r =
    let x : Turn = record { from = at; task = t } in
    record { rises = rises_added 0 ts x r; own = turn_own [] ts x 0 r; others = λ i l. turn_kept [] ts x i l }

-- no turn has begun at the slot
pub none_begun : (t : Name) (ts : List Turn) (at : ℕ) → ((i : ℕ) (d : Turn) → i < length ts → at < (get_or ts i d).from) → task_at t ts at ≡ t
none_begun t [] at high = refl
none_begun t (x ∷ xs) at high = ap (λ b. cond b t (task_at x.task xs at)) (lt-ltb at x.from (high 0 x (omega arith)))

-- the turn that has begun last
pub turn_found : (t : Name) (ts : List Turn) (at r : ℕ) (d : Turn) → r < length ts → ((i : ℕ) (d : Turn) → i ≤ r → (get_or ts i d).from ≤ at) → ((i : ℕ) (d : Turn) → r < i → i < length ts → at < (get_or ts i d).from)
    → task_at t ts at ≡ (get_or ts r d).task
turn_found t [] at r d l low high = absurd (omega (arith, l))
turn_found t (x ∷ xs) at zero d l low high =
    ap (λ b. cond b t (task_at x.task xs at)) (le-ltb at x.from (low 0 x (omega arith)))
    ∙ none_begun x.task xs at (λ i c h. high (suc i) c (omega arith) (omega (arith, h)))
turn_found t (x ∷ xs) at (suc r) d l low high =
    ap (λ b. cond b t (task_at x.task xs at)) (le-ltb at x.from (low 0 x (omega arith)))
    ∙ turn_found x.task xs at r d (omega (arith, l)) (λ i c h. low (suc i) c (omega (arith, h))) (λ i c h k. high (suc i) c (omega (arith, h)) (omega (arith, k)))

-- the slots at which turns begin rise
pub turns_rise : (low : ℕ) (ts : List Turn) (high : ℕ) → Rises low ts high → (i j : ℕ) (d : Turn) → i ≤ j → j < length ts → (get_or ts i d).from ≤ (get_or ts j d).from
turns_rise low [] high r i j d h l = absurd (omega (arith, l))
turns_rise low (x ∷ xs) high r zero zero d h l = omega arith
turns_rise low (x ∷ xs) high r zero (suc j) d h l = let a = above (suc x.from) xs high j d r.1 (omega (arith, l)) in omega (arith, a)
turns_rise low (x ∷ xs) high r (suc i) zero d h l = absurd (omega (arith, h))
turns_rise low (x ∷ xs) high r (suc i) (suc j) d h l = turns_rise (suc x.from) xs high r.1 i j d (omega (arith, h)) (omega (arith, l))

-- ---- entries

pub entries_length : (apart : List Entry) (ts : List Turn) (at : ℕ) (ks : List Compact) → length (entries apart ts at ks) ≡ length ks
entries_length apart ts at [] = refl
entries_length apart ts at (k ∷ ks) = ap suc (entries_length apart ts (suc at) ks)

-- one more is after them
pub entries_push : (apart : List Entry) (ts : List Turn) (at : ℕ) (ks : List Compact) (k : Compact)
    → entries apart ts at (ks ++ k ∷ []) ≡ entries apart ts at ks ++ entry_of apart (task_at [] ts (at + length ks)) k ∷ []
entries_push apart ts at [] k = ap (λ i. entry_of apart (task_at [] ts i) k ∷ []) (omega arith)
entries_push apart ts at (x ∷ ks) k =
    ap (λ es. entry_of apart (task_at [] ts at) x ∷ es)
    (entries_push apart ts (suc at) ks k ∙ ap (λ i. entries apart ts (suc at) ks ++ entry_of apart (task_at [] ts i) k ∷ []) (omega arith))

-- a turn begins or goes on after them
entries_kept : (apart : List Entry) (old new : List Turn) (at : ℕ) (ks : List Compact)
    → ((i : ℕ) → i < at + length ks → task_at [] new i ≡ task_at [] old i) → entries apart new at ks ≡ entries apart old at ks
entries_kept apart old new at [] same = refl
entries_kept apart old new at (k ∷ ks) same =
    ap₂ (λ t xs. entry_of apart t k ∷ xs) (same at (omega arith)) (entries_kept apart old new (suc at) ks (λ i h. same i (omega (arith, h))))

-- one more means the task's entry
pub entry_pushed : (apart : List Entry) (old new : List Turn) (ks : List Compact) (t : Name) (k : Compact) → Begins (length ks) t old new
    → entries apart new 0 (ks ++ k ∷ []) ≡ entries apart old 0 ks ++ entry_of apart t k ∷ []
entry_pushed apart old new ks t k b =
    entries_push apart new 0 ks k
    ∙ ap₂ (λ es u. es ++ entry_of apart u k ∷ []) (entries_kept apart old new 0 ks (λ i h. b.others i (omega (arith, h)))) (ap (task_at [] new) (omega arith) ∙ b.own)

-- the entries stay the same when one more is stored out of line
apart_kept : (apart : List Entry) (e : Entry) (ts : List Turn) (at : ℕ) (ks : List Compact) → AllByRecursion (IsThere (length apart)) ks
    → entries (apart ++ e ∷ []) ts at ks ≡ entries apart ts at ks
apart_kept apart e ts at [] there = refl
apart_kept apart e ts at (k ∷ ks) there = ap₂ (λ x xs. x ∷ xs) (one_kept apart e (task_at [] ts at) k there.0) (apart_kept apart e ts (suc at) ks there.1)

pub apart_pushed : (apart : List Entry) (e : Entry) (ts : List Turn) (ks : List Compact) → AllByRecursion (IsThere (length apart)) ks
    → entries (apart ++ e ∷ []) ts 0 (ks ++ Apart (length apart) ∷ []) ≡ entries apart ts 0 ks ++ e ∷ []
apart_pushed apart e ts ks there =
    entries_push (apart ++ e ∷ []) ts 0 ks (Apart (length apart))
    ∙ ap₂ (λ old new. old ++ new ∷ []) (apart_kept apart e ts 0 ks there) (get_or_at apart e [] Opened (length apart) refl)

-- the one at a slot
entry_behind : (apart : List Entry) (ts : List Turn) (at : ℕ) (ks : List Compact) (i : ℕ) (d : Entry) (c : Compact) → i < length ks
    → get_or (entries apart ts at ks) i d ≡ entry_of apart (task_at [] ts (at + i)) (get_or ks i c)
entry_behind apart ts at [] i d c h = absurd (omega (arith, h))
entry_behind apart ts at (k ∷ ks) zero d c h = ap (λ j. entry_of apart (task_at [] ts j) k) (omega arith)
entry_behind apart ts at (k ∷ ks) (suc i) d c h =
    entry_behind apart ts (suc at) ks i d c (omega (arith, h)) ∙ ap (λ j. entry_of apart (task_at [] ts j) (get_or ks i c)) (omega arith)

pub entry_at : (apart : List Entry) (ts : List Turn) (ks : List Compact) (i : ℕ) (d : Entry) (c : Compact) → i < length ks
    → get_or (entries apart ts 0 ks) i d ≡ entry_of apart (task_at [] ts i) (get_or ks i c)
entry_at apart ts ks i d c h = entry_behind apart ts 0 ks i d c h ∙ ap (λ j. entry_of apart (task_at [] ts j) (get_or ks i c)) (omega arith)

-- what isn't asked of the tasks holds of all from a slot on where it holds of these, whoever their
-- tasks are
pub entries_all : (p : Entry → Bool) (apart : List Entry) (ts : List Turn) → ((t : Name) (k : Compact) → p (entry_of apart t k) ≡ p (entry_of apart [] k))
    → (from at : ℕ) (ks : List Compact) → list_all p (drop from (entries apart ts at ks)) ≡ list_all (λ k. p (entry_of apart [] k)) (drop from ks)
entries_all p apart ts same zero at [] = refl
entries_all p apart ts same zero at (k ∷ ks) = ap₂ (λ b c. b && c) (same (task_at [] ts at) k) (entries_all p apart ts same zero (suc at) ks)
entries_all p apart ts same (suc from) at [] = refl
entries_all p apart ts same (suc from) at (k ∷ ks) = entries_all p apart ts same from (suc at) ks

-- what is said of an answer is said of what the answer is
pub ok_is : {X E : Type 0} → (r : Result X E) (x : X) (P : X → Type 0) → IfOk r (λ y. y ≡ x) → P x → IfOk r P
ok_is (Ok y) x P same p = subst P (sym same) p
ok_is (Err e) x P same p = search rules
