-- One entry more is noted.
use Rattle.std.proofs.Common.{◌≡◌, ◌+◌, ◌<◌, ◌≤◌, ℕ, zero, suc, List, [], ◌∷◌, ◌++◌, map, take, drop, length, get_or, Some, refl, sym, ap, ◌∙◌, arith}
use Rattle.std.specs.Prelude.{slice_index}
use Rattle.std.proofs.lemmas.List.{drop-append-le, length-take, map-append}
use Rattle.std.proofs.Math.Seq.{take-suc}
use Rattle.tb_model.specs.declared.entry.Entry.{Entry}

-- of a part that begins after the first ones
one_more : {X : Type 0} (f : ℕ) (xs : List X) (n : ℕ) (d : X) → f ≤ n → n < length xs → drop f (take n xs) ++ get_or xs n d ∷ [] ≡ drop f (take (n + 1) xs)
one_more f xs n d from lt =
    let on : suc n ≡ n + 1 = omega arith in
    let long : f ≤ length (take n xs) = omega (arith, from, lt, length-take n xs) in
    sym (drop-append-le f (take n xs) (get_or xs n d ∷ []) long) ∙ ap (drop f) (sym (take-suc xs n d lt) ∙ ap (λ k. take k xs) on)

-- none is noted at first
pub none_yet : {X : Type 0} (f n : ℕ) (xs : List X) → n ≤ f → drop f (take n xs) ≡ []
none_yet zero zero xs le = refl
none_yet zero (suc n) xs le = absurd (omega (arith, le))
none_yet (suc f) zero xs le = refl
none_yet (suc f) (suc n) [] le = refl
none_yet (suc f) (suc n) (x ∷ xs) le = none_yet f n xs (omega (arith, le))

pub told_more : (f : ℕ) (es : List Entry) (n : ℕ) (e : Entry) → f ≤ n → n < length es → ((d : Entry) → get_or es n d ≡ e)
    → map (λ x. Some x) (drop f (take n es)) ++ Some e ∷ [] ≡ map (λ x. Some x) (drop f (take (n + 1) es))
told_more f es n e from lt is =
    sym (map-append (λ x. Some x) (drop f (take n es)) (e ∷ []))
    ∙ ap (map (λ x. Some x)) (ap (λ x. drop f (take n es) ++ x ∷ []) (sym (is e)) ∙ one_more f es n e from lt)

pub cells_more : (f : ℕ) (cs : List ℕ) (n : ℕ) → f ≤ n → n < length cs → drop f (take n cs) ++ slice_index cs n ∷ [] ≡ drop f (take (n + 1) cs)
cells_more f cs n from lt = one_more f cs n 0 from lt
