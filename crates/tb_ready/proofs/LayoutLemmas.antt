-- Names and marks in a map and a slab.
use Rattle.std.proofs.Common.{◌≡◌, ◌≢◌, ◌<◌, ℕ, zero, suc, Bool, true, false, List, [], ◌∷◌, ◌++◌, length, Option, Some, None, is_some, arith, refl, rules, nat_eq, ap, ap₂, sym, ◌∙◌, subst, cond, inl, inr, IsSome, slice_get, get_or}
use Rattle.std.specs.Prelude.{unwrap_or, slice_index_or, option_map, IfSome, remove}
use Rattle.std.specs.List.{IsDistinct, position, AllByRecursion}
use Rattle.std.specs.Map.{lookup, keys_of}
use Rattle.std.proofs.lemmas.Bool.{cases_eq, both_ways, eqb-true, eq-eqb}
use Rattle.std.proofs.lemmas.Bool.Decides.{nat_tests}
use Rattle.std.proofs.lemmas.List.Quantifiers.{position-Some}
use Rattle.std.proofs.lemmas.Map.Entries.{length-keys_of}
use Rattle.std.proofs.lemmas.Option.{slice_get_within}
use Rattle.std.proofs.lemmas.Map.Keys.{IsDistinct-head, IsDistinct-tail}
use Rattle.indexmap.specs.IndexMap.{insert_entry}
use Rattle.tb_model.specs.Names.{Name, same_name}
use Rattle.tb_model.proofs.TestLemmas.{same_true, same_refl}
use Rattle.tb_ready.specs.Tasks.{mark_of}
use Rattle.tb_ready.specs.Layout.{tasks_of, mark_in, has_key, are_kept, name_at, mark_at, set_at, AreUnique, StandsAt}

abbrev Slots : Type 0
Slots = List (Option Bool)

abbrev Entries : Type 0
Entries = List (Name × ℕ)

pub length_tasks : (es : Entries) (slots : Slots) → length (tasks_of es slots) ≡ length es
length_tasks [] slots = refl
length_tasks (e ∷ es) slots = ap suc (length_tasks es slots)

-- ---- the entry at an index

same_entry : (e : Name × ℕ) (n : Name) (k : ℕ) → Some e ≡ Some (n, k) → e ≡ (n, k)
same_entry e n k h = ap (λ o. unwrap_or o e) h

pub entry_name : (es : Entries) (slots : Slots) (i : ℕ) (n : Name) (k : ℕ) → slice_get es i ≡ Some (n, k) → name_at (tasks_of es slots) i ≡ n
entry_name [] slots i n k h = absurd (cc)
entry_name (e ∷ es) slots zero n k h = ap (λ p. p.0) (same_entry e n k h)
entry_name (e ∷ es) slots (suc i) n k h = entry_name es slots i n k h

pub entry_mark : (es : Entries) (slots : Slots) (i : ℕ) (n : Name) (k : ℕ) → slice_get es i ≡ Some (n, k) → mark_at (tasks_of es slots) i ≡ mark_in slots k
entry_mark [] slots i n k h = absurd (cc)
entry_mark (e ∷ es) slots zero n k h = ap (λ (p : Name × ℕ). mark_in slots p.1) (same_entry e n k h)
entry_mark (e ∷ es) slots (suc i) n k h = entry_mark es slots i n k h

entry_key : (es : Entries) (i : ℕ) (n : Name) (k : ℕ) → slice_get es i ≡ Some (n, k) → has_key es k ≡ true
entry_key [] i n k h = absurd (cc)
entry_key (e ∷ es) zero n k h =
    let same : e.1 ≡ k = ap (λ (p : Name × ℕ). p.1) (same_entry e n k h) in
    ap (λ b. cond b true (has_key es k)) (eq-eqb e.1 k same)
entry_key (e ∷ es) (suc i) n k h = at (nat_eq e.1 k) (entry_key es i n k h)
  where
    at : (b : Bool) → has_key es k ≡ true → cond b true (has_key es k) ≡ true
    at true r = refl
    at false r = r

kept_has : (es : Entries) (slots : Slots) (key : ℕ) → are_kept es slots ≡ true → has_key es key ≡ true → is_some (slice_index_or slots key None) ≡ true
kept_has [] slots key h p = cc
kept_has (e ∷ es) slots key h p = grind (arith, nat_tests, kept_has es slots key)

some_is : (o : Option Bool) → is_some o ≡ true → IsSome o
some_is None h = absurd (cc)
some_is (Some x) h = search rules

-- an entry's record is there
pub entry_there : (es : Entries) (slots : Slots) (i : ℕ) (n : Name) (k : ℕ) → are_kept es slots ≡ true → slice_get es i ≡ Some (n, k) → IsSome (slice_index_or slots k None)
entry_there es slots i n k kept h = some_is _ (kept_has es slots k kept (entry_key es i n k h))

-- ---- the marks of a table whose slab changed elsewhere

tasks_same : (es : Entries) (old new : Slots) → ((k : ℕ) → has_key es k ≡ true → slice_index_or new k None ≡ slice_index_or old k None) → tasks_of es new ≡ tasks_of es old
tasks_same [] old new h = refl
tasks_same (e ∷ es) old new h = grind (arith, nat_tests, h e.1, tasks_same es old new (λ k there. h k (grind (arith, nat_tests))))

kept_same : (es : Entries) (old new : Slots) → ((k : ℕ) → has_key es k ≡ true → slice_index_or new k None ≡ slice_index_or old k None) → are_kept es old ≡ true → are_kept es new ≡ true
kept_same [] old new h p = refl
kept_same (e ∷ es) old new h p = grind (arith, nat_tests, h e.1, kept_same es old new (λ k there. h k (grind (arith, nat_tests))))

-- a key that is no entry's is another than each entry's
others_same : (es : Entries) (slots slots2 : Slots) (key : ℕ) → has_key es key ≡ false
    → ((k : ℕ) → k ≢ key → slice_index_or slots2 k None ≡ slice_index_or slots k None)
    → (k : ℕ) → has_key es k ≡ true → slice_index_or slots2 k None ≡ slice_index_or slots k None
others_same es slots slots2 key absent others k there =
    others k (λ e. let bad : has_key es key ≡ true = rw (← e) there in let no : true ≡ false = sym bad ∙ absent in cc)

-- ---- setting a mark

head_key : (e : Name × ℕ) (es : Entries) (slots : Slots) → are_kept (e ∷ es) slots ≡ true → has_key es e.1 ≡ false
head_key e es slots kept = grind (arith, nat_tests)

tail_kept : (e : Name × ℕ) (es : Entries) (slots : Slots) → are_kept (e ∷ es) slots ≡ true → are_kept es slots ≡ true
tail_kept e es slots kept = grind (arith, nat_tests)

other_key : (e : Name × ℕ) (es : Entries) (slots : Slots) (k : ℕ) → are_kept (e ∷ es) slots ≡ true → has_key es k ≡ true → e.1 ≢ k
other_key e es slots k kept there same =
    let h : has_key es k ≡ false = subst (λ j. has_key es j ≡ false) same (head_key e es slots kept) in
    both_ways (has_key es k) h there

module _ (slots slots2 : Slots) (key : ℕ) (mark : Bool) (changed : slice_index_or slots2 key None ≡ Some mark)
    (others : (k : ℕ) → k ≢ key → slice_index_or slots2 k None ≡ slice_index_or slots k None) where
  pub set_tasks : (es : Entries) (i : ℕ) (n : Name) → are_kept es slots ≡ true → slice_get es i ≡ Some (n, key) → tasks_of es slots2 ≡ set_at (tasks_of es slots) i mark
  set_tasks [] i n kept h = absurd (cc)
  set_tasks (e ∷ es) zero n kept h =
      let same : e.1 ≡ key = ap (λ (p : Name × ℕ). p.1) (same_entry e n key h) in
      let own : mark_in slots2 e.1 ≡ mark = ap (mark_in slots2) same ∙ ap (λ o. unwrap_or o false) changed in
      let absent : has_key es key ≡ false = subst (λ j. has_key es j ≡ false) same (head_key e es slots kept) in
      ap₂ (λ b ts. (e.0, b) ∷ ts) own (tasks_same es slots slots2 (others_same es slots slots2 key absent others))
  set_tasks (e ∷ es) (suc i) n kept h =
      let differs = other_key e es slots key kept (entry_key es i n key h) in
      ap₂ (λ o ts. (e.0, unwrap_or o false) ∷ ts) (others e.1 differs) (set_tasks es i n (tail_kept e es slots kept) h)

  still : (k : ℕ) → is_some (slice_index_or slots k None) ≡ true → is_some (slice_index_or slots2 k None) ≡ true
  still k some = elim (cases_eq k key) [
    | inl same ↦ ap (λ j. is_some (slice_index_or slots2 j None)) same ∙ ap is_some changed
    | inr differs ↦ ap is_some (others k differs) ∙ some
  ]

  pub set_kept : (es : Entries) → are_kept es slots ≡ true → are_kept es slots2 ≡ true
  set_kept [] kept = refl
  set_kept (e ∷ es) kept = grind (arith, nat_tests, still e.1, set_kept es)

-- ---- one name more

has_key_vacant : (es : Entries) (slots : Slots) (key : ℕ) → are_kept es slots ≡ true → slice_index_or slots key None ≡ None → has_key es key ≡ false
has_key_vacant [] slots key h v = refl
has_key_vacant (e ∷ es) slots key h v = grind (arith, nat_tests, has_key_vacant es slots key)

tasks_append : (es : Entries) (name : Name) (key : ℕ) (slots : Slots) → tasks_of (es ++ (name, key) ∷ []) slots ≡ tasks_of es slots ++ (name, mark_in slots key) ∷ []
tasks_append [] name key slots = refl
tasks_append (e ∷ es) name key slots = grind (arith, tasks_append es name key slots)

has_key_append : (es : Entries) (name : Name) (key k : ℕ) → has_key es k ≡ false → nat_eq key k ≡ false → has_key (es ++ (name, key) ∷ []) k ≡ false
has_key_append [] name key k h d = grind (arith, nat_tests)
has_key_append (e ∷ es) name key k h d = grind (arith, nat_tests, has_key_append es name key k)

kept_append : (es : Entries) (name : Name) (key : ℕ) (slots : Slots) → are_kept es slots ≡ true → has_key es key ≡ false → is_some (slice_index_or slots key None) ≡ true → are_kept (es ++ (name, key) ∷ []) slots ≡ true
kept_append [] name key slots h f s = grind (arith, nat_tests)
kept_append (e ∷ es) name key slots h f s = grind (arith, nat_tests, kept_append es name key slots, has_key_append es name key e.1)

insert_new : (es : Entries) (name : Name) (key : ℕ) → lookup (same_name name) es ≡ None → insert_entry same_name es name key ≡ es ++ (name, key) ∷ []
insert_new [] name key h = refl
insert_new (e ∷ es) name key h = grind (arith, insert_new es name key)

-- the table has a name's mark where the map has its key
pub mark_lookup : (test : Name → Bool) (es : Entries) (slots : Slots) → lookup test (tasks_of es slots) ≡ option_map (mark_in slots) (lookup test es)
mark_lookup test [] slots = refl
mark_lookup test (e ∷ es) slots =
    let rest = mark_lookup test es slots in
    elim (test e.0) as (λ b. cond b (Some (mark_in slots e.1)) (lookup test (tasks_of es slots)) ≡ option_map (mark_in slots) (cond b (Some e.1) (lookup test es))) [
      | true ↦ refl
      | false ↦ rest
    ]

none_mapped : (f : ℕ → Bool) (o : Option ℕ) → option_map f o ≡ None → o ≡ None
none_mapped f None h = refl
none_mapped f (Some k) h = absurd (cc)

module _ (es es2 : Entries) (slots slots2 : Slots) (name : Name) (key : ℕ) (kept : are_kept es slots ≡ true)
    (absent : mark_of (tasks_of es slots) name ≡ None) (vacant : slice_index_or slots key None ≡ None)
    (changed : slice_index_or slots2 key None ≡ Some false)
    (others : (k : ℕ) → k ≢ key → slice_index_or slots2 k None ≡ slice_index_or slots k None)
    (put : es2 ≡ insert_entry same_name es name key) where
  entries : es2 ≡ es ++ (name, key) ∷ []
  entries = put ∙ insert_new es name key (none_mapped (mark_in slots) (lookup (same_name name) es) (sym (mark_lookup (same_name name) es slots) ∙ absent))

  fresh : has_key es key ≡ false
  fresh = has_key_vacant es slots key kept vacant

  same : (k : ℕ) → has_key es k ≡ true → slice_index_or slots2 k None ≡ slice_index_or slots k None
  same = others_same es slots slots2 key fresh others

  pub push_kept : are_kept es2 slots2 ≡ true
  push_kept = rw entries (kept_append es name key slots2 (kept_same es slots slots2 same kept) fresh (rw changed refl))

  pub push_tasks : tasks_of es2 slots2 ≡ tasks_of es slots ++ (name, false) ∷ []
  push_tasks = rw (entries, tasks_append es name key slots2, tasks_same es slots slots2 same, changed) refl

-- ---- one name less

tasks_remove : (es : Entries) (slots : Slots) (i : ℕ) → tasks_of (remove es i) slots ≡ remove (tasks_of es slots) i
tasks_remove [] slots zero = refl
tasks_remove [] slots (suc i) = refl
tasks_remove (e ∷ es) slots zero = refl
tasks_remove (e ∷ es) slots (suc i) = ap (λ ts. (e.0, mark_in slots e.1) ∷ ts) (tasks_remove es slots i)

has_key_remove : (es : Entries) (i k : ℕ) → has_key es k ≡ false → has_key (remove es i) k ≡ false
has_key_remove [] zero k h = refl
has_key_remove [] (suc i) k h = refl
has_key_remove (e ∷ es) zero k h = grind (arith, nat_tests)
has_key_remove (e ∷ es) (suc i) k h = grind (arith, nat_tests, has_key_remove es i k)

kept_remove : (es : Entries) (slots : Slots) (i : ℕ) → are_kept es slots ≡ true → are_kept (remove es i) slots ≡ true
kept_remove [] slots zero h = refl
kept_remove [] slots (suc i) h = refl
kept_remove (e ∷ es) slots zero h = tail_kept e es slots h
kept_remove (e ∷ es) slots (suc i) h = grind (arith, nat_tests, kept_remove es slots i, has_key_remove es i e.1)

gone_key : (es : Entries) (slots : Slots) (i : ℕ) (n : Name) (k : ℕ) → are_kept es slots ≡ true → slice_get es i ≡ Some (n, k) → has_key (remove es i) k ≡ false
gone_key [] slots i n k kept h = absurd (cc)
gone_key (e ∷ es) slots zero n k kept h =
    let same : e.1 ≡ k = ap (λ (p : Name × ℕ). p.1) (same_entry e n k h) in
    subst (λ j. has_key es j ≡ false) same (head_key e es slots kept)
gone_key (e ∷ es) slots (suc i) n k kept h =
    at (nat_eq e.1 k) refl (gone_key es slots i n k (tail_kept e es slots kept) h) (other_key e es slots k kept (entry_key es i n k h))
  where
    at : (b : Bool) → nat_eq e.1 k ≡ b → has_key (remove es i) k ≡ false → e.1 ≢ k → cond b true (has_key (remove es i) k) ≡ false
    at true q r d = absurd (d (eqb-true e.1 k q))
    at false q r d = r

module _ (es es2 : Entries) (slots slots2 : Slots) (i : ℕ) (name : Name) (key : ℕ) (kept : are_kept es slots ≡ true)
    (at : slice_get es i ≡ Some (name, key)) (rest : es2 ≡ remove es i)
    (others : (k : ℕ) → k ≢ key → slice_index_or slots2 k None ≡ slice_index_or slots k None) where
  left : (k : ℕ) → has_key (remove es i) k ≡ true → slice_index_or slots2 k None ≡ slice_index_or slots k None
  left = others_same (remove es i) slots slots2 key (gone_key es slots i name key kept at) others

  pub remove_kept : are_kept es2 slots2 ≡ true
  remove_kept = rw rest (kept_same (remove es i) slots slots2 left (kept_remove es slots i kept))

  pub remove_tasks : tasks_of es2 slots2 ≡ remove (tasks_of es slots) i
  remove_tasks = rw rest (tasks_same (remove es i) slots slots2 left ∙ tasks_remove es slots i)

-- ---- finding a name

key_name : (es : Entries) (slots : Slots) (i : ℕ) → i < length es → get_or (keys_of es) i [] ≡ name_at (tasks_of es slots) i
key_name [] slots i h = absurd (omega arith)
key_name (e ∷ es) slots zero h = refl
key_name (e ∷ es) slots (suc i) h = key_name es slots i (omega arith)

pub found : (es : Entries) (slots : Slots) (name : Name) (o : Option ℕ) → o ≡ position (same_name name) (keys_of es) → IfSome o (StandsAt (tasks_of es slots) name)
found es slots name None h = tt
found es slots name (Some i) h =
    let p = position-Some (same_name name) (keys_of es) i [] (sym h) in
    let within : i < length es = omega (arith, p.0, length-keys_of es) in
    record {
      within = omega (arith, length_tasks es slots, within);
      is = sym (same_true name (name_at (tasks_of es slots) i) (ap (same_name name) (sym (key_name es slots i within)) ∙ p.1));
    }

pub not_found : (es : Entries) (slots : Slots) (name : Name) (o : Option ℕ) → is_some o ≡ is_some (lookup (same_name name) es) → o ≡ None → mark_of (tasks_of es slots) name ≡ None
not_found es slots name o h n = mark_lookup (same_name name) es slots ∙ ap (option_map (mark_in slots)) (none (lookup (same_name name) es) (sym h ∙ ap is_some n))
  where
    none : (l : Option ℕ) → is_some l ≡ false → l ≡ None
    none None e = refl
    none (Some k) e = absurd (cc)

-- ---- names are there once

other_name : (es : Entries) (slots : Slots) (n : Name) (j : ℕ) → AllByRecursion (λ m. same_name n m ≡ false) (keys_of es) → j < length (tasks_of es slots) → n ≢ name_at (tasks_of es slots) j
other_name [] slots n j all h same = absurd (omega arith)
other_name (e ∷ es) slots n zero all h same = both_ways (same_name n e.0) all.0 (ap (same_name n) (sym same) ∙ same_refl n)
other_name (e ∷ es) slots n (suc j) all h same = other_name es slots n j all.1 (omega arith) same

pub unique : (es : Entries) (slots : Slots) → IsDistinct same_name (keys_of es) → AreUnique (tasks_of es slots)
unique [] slots d i j hi hj e = absurd (omega arith)
unique (t ∷ es) slots d zero zero hi hj e = refl
unique (t ∷ es) slots d zero (suc j) hi hj e =
    absurd (other_name es slots t.0 j (IsDistinct-head same_name t.0 (keys_of es) d) (omega arith) e)
unique (t ∷ es) slots d (suc i) zero hi hj e =
    absurd (other_name es slots t.0 i (IsDistinct-head same_name t.0 (keys_of es) d) (omega arith) (sym e))
unique (t ∷ es) slots d (suc i) (suc j) hi hj e =
    ap suc (unique es slots (IsDistinct-tail same_name t.0 (keys_of es) d) i j (omega arith) (omega arith) e)

-- the name of an entry is at its index
pub stands_there : (es : Entries) (slots : Slots) (i : ℕ) (n : Name) (k : ℕ) (name : Name) → slice_get es i ≡ Some (n, k) → same_name n name ≡ true → StandsAt (tasks_of es slots) name i
stands_there es slots i n k name h same = record {
  within = omega (arith, length_tasks es slots, slice_get_within es i (n, k) h);
  is = entry_name es slots i n k h ∙ same_true n name same;
}
