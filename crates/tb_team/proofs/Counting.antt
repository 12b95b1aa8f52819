-- Numbers alone.
use Rattle.std.proofs.Common.{◌≡◌, ◌<◌, ◌≤◌, ◌+◌, ◌-◌, ℕ, suc, true, false, nat_le, nat_eq, arith, Fits, w32}
use Rattle.std.proofs.lemmas.Bool.Decides.{nat_tests}

pub at_most : (a b : ℕ) → nat_le a b ≡ true → a ≤ b
at_most a b e = grind (arith, nat_tests)

pub equal_by : (a b : ℕ) → nat_eq a b ≡ true → a ≡ b
equal_by a b e = grind (arith, nat_tests)

pub not_equal : (a b : ℕ) → nat_eq a b ≡ false → a ≤ b → 0 < b - a
not_equal a b e within = grind (arith, nat_tests)

pub above_none : (n : ℕ) → 0 < suc n
above_none n = omega arith

pub not_none : (n : ℕ) → 0 < n → n ≡ 0 → ⊥
not_none n some none = omega (arith, some, none)

pub full_is_not_room : (limit n : ℕ) → nat_le limit n ≡ true → n < limit → ⊥
full_is_not_room limit n e room = let h = at_most limit n e in omega (arith, h, room)

pub room_left : (n m k l : ℕ) → n ≡ m → k ≡ l → suc m ≤ l → n < k
room_left n m k l a b c = omega (arith, a, b, c)

pub some_left : (n most : ℕ) → n < most → 0 < most - n
some_left n most more = omega (arith, more)

pub one_fewer : (n most : ℕ) → (most - n) - 1 ≡ most - suc n
one_fewer n most = omega arith

pub one_more_left : (n most : ℕ) → suc n ≤ most → most - n ≡ suc (most - suc n)
one_more_left n most few = omega (arith, few)

pub less : (n m : ℕ) → suc n ≤ m → n ≤ m
less n m h = omega (arith, h)

pub plus_one : (n : ℕ) → n + 1 ≡ suc n
plus_one n = omega arith

pub minus_one : (n : ℕ) → suc n - 1 ≡ n
minus_one n = omega arith

pub all_of_it : (n : ℕ) → n ≡ n - 0
all_of_it n = omega arith

pub all_taken : (a b : ℕ) → a ≡ b → b - a ≡ 0
all_taken a b e = omega (arith, e)

-- so many are new
pub new_count : (whole new old count from : ℕ) → whole ≡ new + old → count + from ≡ whole → from ≡ old → new ≡ count
new_count whole new old count from a b c = omega (arith, a, b, c)

pub new_left : (whole new old from : ℕ) → whole ≡ new + old → from ≡ old → whole - from - 1 ≡ new - 1
new_left whole new old from a b = omega (arith, a, b)

pub within_both : (whole limit bound new : ℕ) → whole ≡ new → limit ≡ bound → whole ≤ limit → new ≤ bound
within_both whole limit bound new a b c = omega (arith, a, b, c)

pub few_of : (new count most : ℕ) → new ≡ count → count ≤ most → new ≤ most
few_of new count most a b = omega (arith, a, b)

pub small_count : (n m limit from : ℕ) → n ≡ m → m ≤ limit → limit ≤ 1000000 → Fits w32 (n - from)
small_count n m limit from a b c = omega (arith, a, b, c)

pub some_of : (n : ℕ) → 1 < n → 1 ≤ n
some_of n several = omega (arith, several)

pub seats_enough : (workers claims seats count : ℕ) → workers ≤ 64 → 64 < claims → claims ≡ seats → count ≡ seats → workers < count
seats_enough workers claims seats count a b c d = omega (arith, a, b, c, d)

pub counted_back : (n m from : ℕ) → n ≡ m → from ≤ m → (n - from) + from ≡ m
counted_back n m from a b = omega (arith, a, b)

-- ---- a slice of all but the newest

pub taken_long : (n count : ℕ) → 1 < count → count ≤ n → n - 1 - (n - count) ≤ n - (n - count)
taken_long n count some enough = omega (arith, some, enough)

pub taken_count : (n count : ℕ) → 1 < count → count ≤ n → n - 1 - (n - count) ≡ count - 1
taken_count n count some enough = omega (arith, some, enough)

pub last_one : (n count : ℕ) → 1 < count → count ≤ n → n - (n - count) - (n - 1 - (n - count)) ≡ 1
last_one n count some enough = omega (arith, some, enough)

pub long_take : (old new taken : ℕ) → taken ≡ old → taken ≤ new → old ≤ new
long_take old new taken a b = omega (arith, a, b)

pub last_within : (n : ℕ) → 1 ≤ n → n - 1 < n
last_within n some = omega (arith, some)

pub all_dropped : (n : ℕ) → 1 ≤ n → n ≤ suc (n - 1)
all_dropped n some = omega (arith, some)
