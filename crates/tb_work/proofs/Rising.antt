-- Receipts that grow at the end.
use Rattle.std.proofs.Common.{ℕ, ◌<◌, ◌≡◌, List, [], ◌∷◌, ◌++◌, true, nat_lt, nat_eq, map, refl, ap, sym, ◌∙◌, arith}
use Rattle.std.proofs.lemmas.Bool.Decides.{nat_tests}
use Rattle.std.proofs.lemmas.List.{map-append}
use Rattle.tb_work.specs.declared.receipt.Receipt.{Receipt}
use Rattle.tb_journal.specs.Journals.{seat_of}
use Rattle.tb_work.specs.Receipts.{last_from, rises_from, all_of}

pub last_more : (n : ℕ) (rs : List Receipt) (r : Receipt) → last_from n (rs ++ r ∷ []) ≡ r.place
last_more n [] r = refl
last_more n (x ∷ rs) r = last_more x.place rs r

pub rises_more : (n : ℕ) (rs : List Receipt) (r : Receipt) → last_from n rs < r.place → rises_from n rs ≡ true → rises_from n (rs ++ r ∷ []) ≡ true
rises_more n [] r lt is = grind (arith, nat_tests)
rises_more n (x ∷ rs) r lt is =
    let first : nat_lt n x.place ≡ true = grind arith in
    let rest : rises_from x.place rs ≡ true = grind arith in
    let more = rises_more x.place rs r lt rest in
    grind arith

pub all_more : (seat : ℕ) (rs : List Receipt) (r : Receipt) → seat_of r.entry ≡ seat → all_of seat rs ≡ true → all_of seat (rs ++ r ∷ []) ≡ true
all_more seat [] r of is = grind (arith, nat_tests)
all_more seat (x ∷ rs) r of is =
    let first : nat_eq (seat_of x.entry) seat ≡ true = grind arith in
    let rest : all_of seat rs ≡ true = grind arith in
    let more = all_more seat rs r of rest in
    grind arith

-- one more receipt, above the last
pub seat_more : {K : Type 0} (f : K → Receipt) (seat last : ℕ) (ks mid xs : List K) (k : K) → mid ≡ ks → xs ≡ mid ++ k ∷ []
    → last ≡ last_from 0 (map f ks) → rises_from 0 (map f ks) ≡ true → all_of seat (map f ks) ≡ true
    → last < (f k).place → seat_of (f k).entry ≡ seat
    → ((f k).place ≡ last_from 0 (map f xs)) × (rises_from 0 (map f xs) ≡ true) × (all_of seat (map f xs) ≡ true)
seat_more f seat last ks mid xs k same is at up own lt of =
    let all : map f xs ≡ map f ks ++ f k ∷ [] = ap (map f) is ∙ map-append f mid (k ∷ []) ∙ ap (λ l. map f l ++ f k ∷ []) same in
    let above : last_from 0 (map f ks) < (f k).place = omega (arith, at, lt) in
    rw all (sym (last_more 0 (map f ks) (f k)), rises_more 0 (map f ks) (f k) above up, all_more seat (map f ks) (f k) of own)
