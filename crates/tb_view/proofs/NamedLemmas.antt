-- Named tasks of which some come after all others.
use Rattle.std.proofs.Common.{◌≡◌, ◌-◌, ℕ, List, [], ◌∷◌, ◌++◌, true, length, slice_get, Some, None, Result, Ok, Err, OnOk, OnErr, refl, sym, ap, ap₂, ◌∙◌, subst, rules, append-nil, append_assoc, reverse, is_lt}
use Rattle.std.proofs.lemmas.Bool.{false≢true}
use Rattle.std.proofs.lemmas.List.{reverse-append, reverse-reverse}
use Rattle.std.specs.List.{AllByRecursion}
use Rattle.std.specs.BTreeMap.{insert_entry}
use Rattle.std.specs.Ordering.{ordering_reverse, match_ordering}
use Rattle.std.specs.declared.cmp.Ordering.{Ordering}
use Rattle.std.specs.declared.cmp.Ordering.TheVariants.{Less, Equal, Greater}
use Rattle.tb_model.specs.Names.{Name, name_cmp}
use Rattle.tb_model.specs.NameLaws.{name_cmp_total}
use Rattle.tb_core.specs.Listed.{Rises}
use Rattle.tb_view.specs.Tasks.{Named, Precede, names_of}
use Rattle.tb_view.proofs.UnendedLemmas.{Follows, rises_insert}

-- what comes after some and before the others goes between them
pub insert_between : (xs ys : List Named) (k : Name) (v : ℕ) → Precede k (names_of xs) → ((y : Named) (zs : List Named) → ys ≡ y ∷ zs → name_cmp k y.0 ≡ Less) → insert_entry name_cmp (xs ++ ys) k v ≡ xs ++ (k, v) ∷ ys
insert_between [] [] k v before after = refl
insert_between [] (y ∷ ys) k v before after = ap (λ o. match_ordering o ((k, v) ∷ y ∷ ys) ((y.0, v) ∷ ys) (y ∷ insert_entry name_cmp ys k v)) (after y ys refl)
insert_between (x ∷ xs) ys k v before after =
    let greater : name_cmp k x.0 ≡ Greater = cc (name_cmp_total.antisymm k x.0, ap ordering_reverse before.0) in
    ap (λ o. match_ordering o ((k, v) ∷ x ∷ xs ++ ys) ((x.0, v) ∷ xs ++ ys) (x ∷ insert_entry name_cmp (xs ++ ys) k v)) greater ∙ ap (λ r. x ∷ r) (insert_between xs ys k v before.1 after)

-- what comes after all goes to the end
pub insert_behind : (es : List Named) (k : Name) (v : ℕ) → Precede k (names_of es) → insert_entry name_cmp es k v ≡ es ++ (k, v) ∷ []
insert_behind es k v all = ap (λ xs. insert_entry name_cmp xs k v) (sym (append-nil es)) ∙ insert_between es [] k v all (λ y zs none. absurd (search (none, rules)))

-- where the last comes before k, all do
pub below_last : (es : List Named) (x : Named) (k : Name) → Rises (names_of es) → slice_get es (length es - 1) ≡ Some x → name_cmp x.0 k ≡ Less → Precede k (names_of es)
below_last [] x k r h l = tt
below_last (e ∷ []) x k r h l = let is : e ≡ x = search (h, rules) in (subst (λ y. name_cmp y.0 k ≡ Less) (sym is) l, tt)
below_last (e ∷ f ∷ es) x k r h l =
    let rest = below_last (f ∷ es) x k r.1 (search (h, rules)) l in
    (name_cmp_total.trans e.0 f.0 k r.0.0 rest.0, rest)

-- the last of two lists one after the other
pub last_of_both : (xs ys : List Named) (x : Named) → slice_get ys (length ys - 1) ≡ Some x → slice_get (xs ++ ys) (length (xs ++ ys) - 1) ≡ Some x
last_of_both [] ys x h = h
last_of_both (e ∷ xs) ys x h = one_more (xs ++ ys) (last_of_both xs ys x h)
  where
    one_more : (zs : List Named) → slice_get zs (length zs - 1) ≡ Some x → slice_get (e ∷ zs) (length (e ∷ zs) - 1) ≡ Some x
    one_more [] g = absurd (search (g, rules))
    one_more (z ∷ zs) g = search (g, rules)

-- ---- where some of them are before the others

module _ (P : Name → Type 0) where
  all_front : (xs ys : List Named) → AllByRecursion P (names_of (xs ++ ys)) → AllByRecursion P (names_of xs)
  all_front [] ys all = tt
  all_front (x ∷ xs) ys all = (all.0, all_front xs ys all.1)

  next_too : (xs : List Named) (y : Named) (ys : List Named) → AllByRecursion P (names_of (xs ++ y ∷ ys)) → P y.0
  next_too [] y ys all = all.0
  next_too (x ∷ xs) y ys all = next_too xs y ys all.1

pub rises_front : (xs ys : List Named) → Rises (names_of (xs ++ ys)) → Rises (names_of xs)
rises_front [] ys r = tt
rises_front (x ∷ xs) ys r = (all_front (Follows x.0) xs ys r.0, rises_front xs ys r.1)

pub precede_next : (xs : List Named) (y : Named) (ys : List Named) → Rises (names_of (xs ++ y ∷ ys)) → Precede y.0 (names_of xs)
precede_next [] y ys r = tt
precede_next (x ∷ xs) y ys r = (next_too (Follows x.0) xs y ys r.0, precede_next xs y ys r.1)

-- ---- what the code asks

pub less_by : (o : Ordering) → is_lt o ≡ true → o ≡ Less
less_by Less h = refl
less_by Equal h = absurd (false≢true h)
less_by Greater h = absurd (false≢true h)

none_last : (ys : List Named) → slice_get ys (length ys - 1) ≡ None → ys ≡ []
none_last [] h = refl
none_last (y ∷ []) h = absurd (search (h, rules))
none_last (y ∷ z ∷ zs) h = let clash : z ∷ zs ≡ [] = none_last (z ∷ zs) (search (h, rules)) in cc

-- where no list has a last one, none precede
pub none_precede : (xs ys : List Named) (k : Name) → slice_get ys (length ys - 1) ≡ None → slice_get xs (length xs - 1) ≡ None → Precede k (names_of (xs ++ ys))
none_precede xs ys k no_ys no_xs = subst (λ es. Precede k (names_of es)) (sym (ap₂ (λ us ws. us ++ ws) (none_last xs no_xs) (none_last ys no_ys))) tt

-- the last of some comes before k, and none are after them
pub below_front : (xs ys : List Named) (x : Named) (k : Name) → Rises (names_of (xs ++ ys)) → slice_get ys (length ys - 1) ≡ None → slice_get xs (length xs - 1) ≡ Some x → name_cmp x.0 k ≡ Less
    → Precede k (names_of (xs ++ ys))
below_front xs ys x k r none h l =
    let all : xs ++ ys ≡ xs = ap (λ zs. xs ++ zs) (none_last ys none) ∙ append-nil xs in
    subst (λ es. Precede k (names_of es)) (sym all) (below_last xs x k (subst (λ es. Rises (names_of es)) all r) h l)

-- one more was put in, or nothing changed
pub rises_either : {X E : Type 0} (r : Result X E) (old new : List Named) (k : Name) (v : ℕ) → OnOk r (new ≡ insert_entry name_cmp old k v) → OnErr r (new ≡ old)
    → Rises (names_of old) → Rises (names_of new)
rises_either (Ok x) old new k v put same r = subst (λ es. Rises (names_of es)) (sym put) (rises_insert k v old r)
rises_either (Err x) old new k v put same r = subst (λ es. Rises (names_of es)) (sym same) r

-- ---- on both sides of a gap

-- the first of those after it, which are stored last first
pub next_is : (ys : List Named) (y : Named) (zs : List Named) → reverse ys ≡ y ∷ zs → slice_get ys (length ys - 1) ≡ Some y
next_is ys y zs h =
    let is : ys ≡ reverse zs ++ y ∷ [] = sym (reverse-reverse ys) ∙ ap reverse h ∙ reverse-append (y ∷ []) zs in
    subst (λ l. slice_get l (length l - 1) ≡ Some y) (sym is) (last_of_both (reverse zs) (y ∷ []) y refl)

-- one passes
pub passed : (from to : List Named) (t : Named) → from ++ reverse (to ++ t ∷ []) ≡ (from ++ t ∷ []) ++ reverse to
passed from to t = ap (λ r. from ++ r) (reverse-append to (t ∷ [])) ∙ sym (append_assoc from (t ∷ []) (reverse to))

-- two pairs of lists that join to one list do so from the other side
pub turned : (a b c d : List Named) → a ++ reverse b ≡ c ++ reverse d → b ++ reverse a ≡ d ++ reverse c
turned a b c d h = sym (other b a) ∙ ap reverse h ∙ other d c
  where
    other : (x y : List Named) → reverse (y ++ reverse x) ≡ x ++ reverse y
    other x y = reverse-append y (reverse x) ∙ ap (λ r. r ++ reverse y) (reverse-reverse x)

-- the gap moves
pub gap_moved : (xs ys zs us ws : List Named) → us ++ reverse ws ≡ ys ++ reverse zs → xs ++ us ++ reverse ws ≡ xs ++ ys ++ reverse zs
gap_moved xs ys zs us ws h = append_assoc xs us (reverse ws) ∙ ap (λ r. xs ++ r) h ∙ sym (append_assoc xs ys (reverse zs))

-- one goes into the gap
pub put_between : (xs ys zs : List Named) (k : Name) (v : ℕ) → Precede k (names_of (xs ++ ys)) → ((x : Named) → slice_get zs (length zs - 1) ≡ Some x → name_cmp k x.0 ≡ Less)
    → insert_entry name_cmp (xs ++ ys ++ reverse zs) k v ≡ xs ++ (ys ++ (k, v) ∷ []) ++ reverse zs
put_between xs ys zs k v before after =
    insert_between (xs ++ ys) (reverse zs) k v before (λ y rest is. after y (next_is zs y rest is))
    ∙ sym (append_assoc (xs ++ ys) ((k, v) ∷ []) (reverse zs))
    ∙ ap (λ es. es ++ reverse zs) (append_assoc xs ys ((k, v) ∷ []))
