-- The lines of a strip.
use Rattle.std.proofs.Common.{◌≡◌, ℕ, zero, suc, ◌+◌, ◌-◌, ◌<◌, ◌≤◌, List, true, false, Option, None, length, nat_lt, nat_le, ◌&&◌, slice_index_or, slice_set, replicate, if◌then◌else◌, ap, subst, arith}
use Rattle.std.proofs.lemmas.List.{get_or-set_same, get_or-set_other, get_or_past, length-replicate}
use Rattle.std.specs.Option.{option_map}
use Rattle.tb_model.specs.Program.{Program, Instr as Instruction}
use Rattle.tb_plan.specs.declared.private_line.PrivateLine.{PrivateLine}
use Rattle.tb_plan.specs.Strips.{instruction_of}
use Rattle.tb_read.specs.Strips.{begins_body, first_line, last_line}

pub first_none : (P : Program) (n most : ℕ) → most ≡ 0 → n ≡ first_line P n most
unfolding first_line
first_none P n zero e = cc
first_none P n (suc most) e = absurd (omega (arith, e))

pub first_here : (P : Program) (n most : ℕ) → begins_body P n ≡ true → n ≡ first_line P n most
unfolding first_line
first_here P n zero e = cc
first_here P n (suc most) e = cc

pub first_back : (P : Program) (n before most less : ℕ) → begins_body P n ≡ false → before ≡ n - 1 → less + 1 ≡ most → first_line P before less ≡ first_line P n most
unfolding first_line
first_back P n before zero less e at fewer = absurd (omega (arith, fewer))
first_back P n before (suc most) less e at fewer =
    let same : less ≡ most = omega (arith, fewer) in
    cc

pub last_none : (P : Program) (n most : ℕ) → most ≡ 0 → n ≡ last_line P n most
unfolding last_line
last_none P n zero e = cc
last_none P n (suc most) e = absurd (omega (arith, e))

pub last_here : (P : Program) (n most : ℕ) → begins_body P (n + 1) ≡ true → n ≡ last_line P n most
unfolding last_line
last_here P n zero e = cc
last_here P n (suc most) e =
    let here : begins_body P (suc n) ≡ true = subst (λ m. begins_body P m ≡ true) (omega arith) e in
    cc

pub last_on : (P : Program) (n most less : ℕ) → begins_body P (n + 1) ≡ false → less + 1 ≡ most → last_line P (n + 1) less ≡ last_line P n most
unfolding last_line
last_on P n zero less e fewer = absurd (omega (arith, fewer))
last_on P n (suc most) less e fewer =
    let behind : n + 1 ≡ suc n = omega arith in
    let here : begins_body P (suc n) ≡ false = subst (λ m. begins_body P m ≡ false) behind e in
    let same : less ≡ most = omega (arith, fewer) in
    cc

-- an array without a statement
abbrev no_line : Option PrivateLine
no_line = None

pub none_count : (count : ℕ) → length (replicate count no_line) ≡ count
none_count count = length-replicate count no_line

pub lines_none : (count k : ℕ) → option_map instruction_of (slice_index_or (replicate count None) k None) ≡ None
lines_none zero k = grind (arith, get_or_past)
lines_none (suc count) zero = cc
lines_none (suc count) (suc k) = lines_none count k

pub lines_start : (f : ℕ → Option Instruction) (count k : ℕ) → option_map instruction_of (slice_index_or (replicate count None) k None) ≡ (if nat_lt k 0 then f k else None)
lines_start f count k = grind (arith, lines_none count k)

-- one line more
pub lines_more : (f : ℕ → Option Instruction) (lines : List (Option PrivateLine)) (at : ℕ) (x : Option PrivateLine) → at < length lines → option_map instruction_of x ≡ f at →
    ((k : ℕ) → option_map instruction_of (slice_index_or lines k None) ≡ (if nat_lt k at then f k else None)) →
    (k : ℕ) → option_map instruction_of (slice_index_or (slice_set lines at x) k None) ≡ (if nat_lt k (at + 1) then f k else None)
lines_more f lines at x within e so k = grind (arith, get_or-set_same, get_or-set_other, within, e, so k)

-- the lines from the first to the last, by their numbers
pub near_lines : (f : ℕ → Option Instruction) (lines : List (Option PrivateLine)) (first last count m : ℕ) → first ≤ last → count ≡ last - first + 1 →
    ((k : ℕ) → option_map instruction_of (slice_index_or lines k None) ≡ (if nat_lt k count then f (first + k) else None)) →
    (if nat_le first m then option_map instruction_of (slice_index_or lines (m - first) None) else None) ≡ (if nat_le first m && nat_le m last then f m else None)
near_lines f lines first last count m ordered counted so =
    let there : first ≤ m → f (first + (m - first)) ≡ f m = λ below. ap f (omega (arith, below)) in
    grind (arith, ordered, counted, so (m - first), there)
