-- The stored steps in front of an index.
use Rattle.std.proofs.Common.{◌≡◌, ◌<◌, ◌≤◌, ◌+◌, ℕ, suc, List, ◌∷◌, ◌++◌, length, take, drop, refl, sym, ap, ap₂, ◌∙◌, arith, Some, get_or, slice_get}
use Rattle.std.proofs.lemmas.List.{get_or-take, length-take, take-take}
use Rattle.std.proofs.lemmas.Option.{slice_get_read}
use Rattle.tb_steps.specs.Entries.{Entry}
use Rattle.tb_steps.specs.Scans.{history_of, step_at, step_behind}
use Rattle.tb_steps.proofs.ScanLemmas.{history_more, history_cut}

-- what is before an index, cut at an earlier one
pub front_cut : (entries : List Entry) (m n : ℕ) (y : Entry) → n < m → m ≤ length entries → y ≡ get_or entries n y → history_of (take m entries) ≡ history_of (drop (suc n) (take m entries)) ++ y.event ∷ history_of (take n entries)
front_cut entries m n y low high here =
    history_cut (take m entries) n y (omega (arith, low, high, length-take m entries)) (here ∙ sym (get_or-take m entries n y low))
    ∙ ap (λ (es : List Entry). history_of (drop (suc n) (take m entries)) ++ y.event ∷ history_of es) (take-take n m entries (omega (arith, low)))

pub one_more : (entries : List Entry) (n : ℕ) (y : Entry) → n < length entries → y ≡ get_or entries n y → history_of (take (suc n) entries) ≡ y.event ∷ history_of (take n entries)
one_more entries n y low here =
    let next : suc n ≡ n + 1 = omega arith in
    ap (λ (m : ℕ). history_of (take m entries)) next ∙ history_more entries n y low here

pub entry_read : (entries : List Entry) (n : ℕ) (y : Entry) → n < length entries → y ≡ get_or entries n y → slice_get entries n ≡ Some y
entry_read entries n y low here = slice_get_read entries (length entries) n y refl low here

-- ---- what is read of the stored steps in front of an index

pub front_length : (entries : List Entry) (n q : ℕ) → q < n → n < length entries → q < length (take n entries)
front_length entries n q l w = omega (arith, l, w, length-take n entries)

pub front_read : (entries : List Entry) (n q : ℕ) (y : Entry) → q < n → y ≡ get_or entries q y → y ≡ get_or (take n entries) q y
front_read entries n q y l e = e ∙ sym (get_or-take n entries q y l)

pub front_step : (entries : List Entry) (n q : ℕ) (y : Entry) → q < n → n < length entries → y ≡ get_or entries q y → step_at (take n entries) q ≡ step_at entries q
front_step entries n q y l w e =
    ap₂ step_behind (take-take q n entries (omega (arith, l)))
    (entry_read (take n entries) q y (front_length entries n q l w) (front_read entries n q y l e) ∙ sym (entry_read entries q y (omega (arith, l, w)) e))
