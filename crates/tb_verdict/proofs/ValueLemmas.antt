-- The last values of the cells, where only those are stored that were given one.
use Rattle.std.proofs.Common.{◌≡◌, ◌≢◌, ◌<◌, ℕ, ℤ, List, [], ◌∷◌, Bool, true, false, cond, length, replicate, get_or, set, refl, sym, ap, ◌∙◌, subst, arith, Option, Some, unwrap_or, nat_eq, nat_lt, Result, Ok, Err, IsOk, OnOk}
use Rattle.std.specs.Map.{lookup}
use Rattle.std.proofs.lemmas.Bool.{and_parts, false≢true}
use Rattle.std.proofs.lemmas.Bool.Decides.{nat_tests}
use Rattle.std.proofs.lemmas.Grind.{get_or-set_at}
use Rattle.std.proofs.lemmas.List.{length-set, length-replicate, get_or-replicate, get_or-set_other}
use Rattle.std.proofs.lemmas.Option.{unwrap_or-slice_get}
use Rattle.tb_model.specs.declared.action.Action.{Action}
use Rattle.tb_model.specs.declared.action.Action.TheVariants.{Load, Store}
use Rattle.tb_model.specs.declared.event.Event.{Event}
use Rattle.tb_model.specs.Facts.{History, last, stored_or}
use Rattle.tb_model.specs.Legal.{Cells, first_number}
use Rattle.tb_model.specs.Program.{zero_ℤ}
use Rattle.tb_plan.specs.Plans.{names_allowed}
use Rattle.tb_runs.specs.Lines.{Firsts}
use Rattle.tb_verdict.specs.Texts.{with_firsts, first_numbers}
use Rattle.tb_verdict.specs.Values.{AreValues, Stores, value_in}

-- ---- the first values

firsts_length : (es : Firsts) (cells : Cells) → length (with_firsts es cells) ≡ length cells
firsts_length [] cells = refl
firsts_length (e ∷ es) cells = length-set (with_firsts es cells) e.0 e.1 ∙ firsts_length es cells

pub firsts_count : (es : Firsts) (count : ℕ) → length (first_numbers count es) ≡ count
firsts_count es count = firsts_length es (replicate count zero_ℤ) ∙ length-replicate count zero_ℤ

first_by : (b : Bool) (cells : Cells) (c d : ℕ) (x : ℤ) (o : Option ℤ) → nat_eq c d ≡ b → c < length cells → unwrap_or o zero_ℤ ≡ get_or cells c zero_ℤ
    → unwrap_or (cond b (Some x) o) zero_ℤ ≡ get_or (set cells d x) c zero_ℤ
first_by true cells c d x o e h ih =
    let same : c ≡ d = grind (arith, nat_tests, e) in
    sym (get_or-set_at cells d c x zero_ℤ same (omega (arith, same, h)))
first_by false cells c d x o e h ih = ih ∙ sym (get_or-set_other cells d c x zero_ℤ (λ s. let same : nat_eq c d ≡ true = grind (arith, nat_tests, s) in false≢true (sym e ∙ same)))

value_at : (count : ℕ) (es : Firsts) (c : ℕ) → c < count → value_in es c ≡ get_or (first_numbers count es) c zero_ℤ
value_at count [] c h = sym (get_or-replicate count c zero_ℤ zero_ℤ h)
value_at count (e ∷ es) c h =
    first_by (nat_eq c e.0) (first_numbers count es) c e.0 e.1 (lookup (nat_eq c) es) refl (omega (arith, h, firsts_count es count)) (value_at count es c h)

pub first_value : (count : ℕ) (es : Firsts) (c : ℕ) → c < count → value_in es c ≡ first_number (first_numbers count es) c
first_value count es c h = value_at count es c h ∙ sym (unwrap_or-slice_get (first_numbers count es) c zero_ℤ)

pub first_values : (count : ℕ) (es : Firsts) → AreValues (first_numbers count es) [] es
first_values count es c h = first_value count es c (omega (arith, h, firsts_count es count))

-- ---- one event more

agree : (p q : Bool) → (p ≡ true → q ≡ true) → (q ≡ true → p ≡ true) → p ≡ q
agree true true f g = refl
agree true false f g = absurd (false≢true (f refl))
agree false true f g = absurd (false≢true (g refl))
agree false false f g = refl

same_cell : (c d : ℕ) → nat_eq c d ≡ true → nat_eq d c ≡ true
same_cell c d e =
    let is : c ≡ d = grind (arith, nat_tests, e) in
    grind (arith, nat_tests, is)

by_cell : (p q : Bool) (x : ℤ) (o : Option ℤ) → p ≡ q → unwrap_or (cond p (Some x) o) zero_ℤ ≡ cond q x (unwrap_or o zero_ℤ)
by_cell true q x o e = ap (λ b. cond b x (unwrap_or o zero_ℤ)) e
by_cell false q x o e = ap (λ b. cond b x (unwrap_or o zero_ℤ)) e

-- a store
pub stored : (old new : Firsts) (a : Action) (d : ℕ) (x y : ℤ) → a ≡ Store d x → y ≡ x →
    ((c : ℕ) → lookup (nat_eq c) new ≡ cond (nat_eq d c) (Some y) (lookup (nat_eq c) old)) → Stores a old new
stored old new a d x y is same updates = subst (λ a. Stores a old new) (sym is) (λ c.
    ap (λ o. unwrap_or o zero_ℤ) (updates c)
    ∙ by_cell (nat_eq d c) (nat_eq c d) y (lookup (nat_eq c) old) (agree (nat_eq d c) (nat_eq c d) (same_cell d c) (same_cell c d))
    ∙ ap (λ z. cond (nat_eq c d) z (unwrap_or (lookup (nat_eq c) old) zero_ℤ)) same)

-- another action
pub unstored : (values : Firsts) (a : Action) → ((d : ℕ) (x : ℤ) → a ≢ Store d x) → Stores a values values
unstored values (Store d x) other c = absurd (other d x refl)
unstored values _ other c = refl

pub values_more : (first : Cells) (H : History) (v : Event) (old new : Firsts) → Stores v.action old new → AreValues first H old → AreValues first (v ∷ H) new
values_more first H v old new stores are c h = stores c ∙ ap (stored_or c v.action) (are c h)

-- the value of what can't be an error
pub on_ok : {A E : Type 0} (r : Result A E) (P : Type 0) → IsOk r → OnOk r P → P
on_ok (Ok x) P ok h = h
on_ok (Err e) P ok h = absurd (false≢true ok)

-- ---- what a load reads

pub loaded_within : (cells : ℕ) (a : Action) (r c : ℕ) (x : ℤ) (first : Cells) → a ≡ Load r c x → cells ≡ length first → names_allowed cells a ≡ true → c < length first
loaded_within cells a r c x first is count allowed =
    let parts = and_parts (nat_lt r 16) (nat_lt c cells) (sym (ap (names_allowed cells) is) ∙ allowed) in
    let within : c < cells = grind (arith, nat_tests, parts.1) in
    omega (arith, within, count)
