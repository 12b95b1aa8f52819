-- Children of whom none has an item.
use Rattle.std.proofs.Common.{◌≡◌, ◌<◌, ◌≤◌, ◌-◌, ◌&&◌, ℕ, zero, suc, List, [], ◌∷◌, Bool, true, false, length, take, replicate, nat_lt, refl, ap, sym, ◌∙◌, arith, append-nil}
use Rattle.std.proofs.lemmas.Bool.{false≢true}
use Rattle.std.proofs.lemmas.List.{length-replicate, take-replicate}
use Rattle.tb_model.specs.declared.item.Item.{Item}
use Rattle.tb_model.specs.Items.{is_before, some_meet}
use Rattle.tb_model.proofs.SiblingsLemmas.{meets_none}
use Rattle.tb_depend.specs.Layout.{AreEnds, rows_from, bare_table}
use Rattle.tb_depend.specs.Table.{FreesRoom}
use Rattle.tb_depend.specs.Nearness.{AreOver, AreOverFor}
use Rattle.tb_depend.specs.Numbers.{numbers_where}
use Rattle.tb_depend.specs.Relations.{items_at, depends, preds_of}

-- ---- their lists

pub ends_bare : (count : ℕ) → AreEnds 0 (replicate count 0) 0
ends_bare zero = refl
ends_bare (suc k) = (omega arith, ends_bare k)

pub rows_bare : (count : ℕ) → rows_from 0 (replicate count 0) [] ≡ replicate count []
rows_bare zero = refl
rows_bare (suc k) = ap (λ rows. [] ∷ rows) (rows_bare k)

-- ---- how they relate to each other

pub items_bare : (count n : ℕ) → items_at (replicate count []) n ≡ []
items_bare count zero = refl
items_bare zero (suc k) = refl
items_bare (suc count) (suc zero) = refl
items_bare (suc count) (suc (suc k)) = items_bare count (suc k)

pub take_bare : (count less : ℕ) → less ≡ count - 1 → replicate {A = List Item} less [] ≡ take (length (replicate {A = List Item} count []) - 1) (replicate {A = List Item} count [])
take_bare count less e =
    sym (ap (λ k. take (k - 1) (replicate {A = List Item} count [])) (length-replicate count [])
    ∙ take-replicate (count - 1) count [] (omega arith)
    ∙ ap (λ k. replicate k []) (sym e))

pub frees_bare : (count less room : ℕ) → less ≡ count - 1 → count ≤ room → 0 < length (replicate {A = List Item} count []) →
    FreesRoom (bare_table count room) (bare_table less room) (length (items_at (replicate count []) (length (replicate {A = List Item} count []))))
frees_bare count less room e fits some =
    let n = length-replicate {A = List Item} count [] in
    let none : length (items_at (replicate count []) (length (replicate {A = List Item} count []))) ≡ 0 =
    ap length (items_bare count (length (replicate {A = List Item} count []))) in
    record {
      places = omega (arith, e, n, some, fits);
      items = omega (arith, none);
      links = omega (arith, none);
      heads = λ p h. h;
      numbers = refl;
    }

pub apart_bare : (count m : ℕ) (items : List Item) → some_meet is_before items (items_at (replicate count []) m) ≡ false
apart_bare count m items = ap (some_meet is_before items) (items_bare count m) ∙ meets_none is_before items

pub depends_bare : (count n m : ℕ) → depends (replicate count []) n m ≡ false
depends_bare count n m = at (nat_lt m n) (apart_bare count m (items_at (replicate count []) n))
  where
    at : (b : Bool) {c : Bool} → c ≡ false → (b && c) ≡ false
    at true e = e
    at false e = refl

none_where : (test : ℕ → Bool) (k : ℕ) → ((m : ℕ) → test m ≡ false) → numbers_where test k ≡ []
none_where test zero none = refl
none_where test (suc k) none = rw (none (suc k), append-nil (numbers_where test k)) (none_where test k none)

pub preds_bare : (count n : ℕ) → preds_of (replicate count []) n ≡ []
preds_bare count n = none_where (depends (replicate count []) n) (length (replicate {A = List Item} count [])) (depends_bare count n)

pub over_bare : (count n : ℕ) (over : ℕ → Bool) → AreOver (replicate count []) over n
over_bare count n over m d = absurd (false≢true (sym (depends_bare count n m) ∙ d))

pub over_for_bare : (count : ℕ) (items : List Item) (over : ℕ → Bool) → AreOverFor (replicate count []) over items
over_for_bare count items over m d = absurd (false≢true (sym (apart_bare count m items) ∙ d))
