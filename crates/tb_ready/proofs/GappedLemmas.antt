-- A list with a gap, and its gap moved.
use Rattle.std.proofs.Common.{◌≡◌, ◌<◌, ◌≤◌, ◌+◌, ◌-◌, ℕ, suc, List, [], ◌∷◌, ◌++◌, length, arith, refl, ap, ap₂, sym, ◌∙◌, get_or, drop, take, map}
use Rattle.std.specs.Prelude.{insert, remove}
use Rattle.std.proofs.Math.Seq.{take-append_seam, drop-append_seam, take-append-add, drop-append-add}
use Rattle.std.proofs.lemmas.List.{length-append, length-drop, length-take-le, length-map, get_or-map, ext_get_or, append_assoc, take-append-drop, take-append-le, drop-append-le, take-map, drop-map, map-append}
use Rattle.tb_ready.specs.Gapped.{joined}
use Rattle.tb_ready.specs.Order.{moved_up}

pub length_joined : (b : ℕ) (xs : List ℕ) → length (joined b xs) ≡ length xs
length_joined b xs =
    let one = length-append (drop b xs) (take b xs) in
    let other = length-append (take b xs) (drop b xs) in
    let whole = ap length (take-append-drop b xs) in
    omega (arith, one, other, whole)

-- the front of a list put after the rest
round : (p q : List ℕ) (b : ℕ) → b ≤ length p → joined (length q + b) (q ++ p) ≡ joined b (p ++ q)
round p q b h =
    ap₂ (λ xs ys. xs ++ ys) (drop-append-add q p b) (take-append-add q p b)
    ∙ sym (append_assoc (drop b p) q (take b p))
    ∙ ap₂ (λ xs ys. xs ++ ys) (sym (drop-append-le b p q h)) (sym (take-append-le b p q h))

pub turned_left : (c b : ℕ) (xs : List ℕ) → b + c ≤ length xs → joined b (drop c xs ++ take c xs) ≡ joined (c + b) xs
turned_left c b xs h =
    let n = length-drop c xs in
    let m = length-take-le c xs (omega (arith, h)) in
    sym (round (drop c xs) (take c xs) b (omega (arith, n, h)))
    ∙ ap₂ joined (ap (λ k. k + b) m) (take-append-drop c xs)

pub turned_right : (c b k : ℕ) (xs : List ℕ) → k + c ≡ length xs → b ≤ k → joined (c + b) (drop k xs ++ take k xs) ≡ joined b xs
turned_right c b k xs e h =
    let n = length-drop k xs in
    let m = length-take-le k xs (omega (arith, e)) in
    let d : length (drop k xs) ≡ c = omega (arith, n, e) in
    ap (λ j. joined (j + b) (drop k xs ++ take k xs)) (sym d)
    ∙ round (take k xs) (drop k xs) b (omega (arith, m, h))
    ∙ ap (joined b) (take-append-drop k xs)

-- one is put into the gap, or taken out after it
drop_one_more : (xs : List ℕ) (y : ℕ) (ys : List ℕ) → drop (suc (length xs)) (xs ++ y ∷ ys) ≡ ys
drop_one_more [] y ys = refl
drop_one_more (x ∷ xs) y ys = drop_one_more xs y ys

pub put_in : (b : ℕ) (xs : List ℕ) (place at : ℕ) → b + place ≡ length xs → joined b (xs ++ at ∷ []) ≡ insert (joined b xs) place at
put_in b xs place at h =
    let n : length (drop b xs) ≡ place = (let l = length-drop b xs in omega (arith, l, h)) in
    ap₂ (λ ys zs. ys ++ zs) (drop-append-le b xs (at ∷ []) (omega (arith, h))) (take-append-le b xs (at ∷ []) (omega (arith, h)))
    ∙ append_assoc (drop b xs) (at ∷ []) (take b xs)
    ∙ ap₂ (λ ys zs. ys ++ at ∷ zs) (sym (take-append_seam (drop b xs) (take b xs))) (sym (drop-append_seam (drop b xs) (take b xs)))
    ∙ ap (λ k. insert (joined b xs) k at) n

pub taken_out : (b : ℕ) (x : ℕ) (xs : List ℕ) (place : ℕ) → b + place ≡ length xs → joined b xs ≡ remove (joined (suc b) (x ∷ xs)) place
taken_out b x xs place h =
    let n : length (drop b xs) ≡ place = (let l = length-drop b xs in omega (arith, l, h)) in
    ap₂ (λ ys zs. ys ++ zs) (sym (take-append_seam (drop b xs) (x ∷ take b xs))) (sym (drop_one_more (drop b xs) x (take b xs)))
    ∙ ap (remove (joined (suc b) (x ∷ xs))) n

-- each moved up
pub moved : (f : ℕ → ℕ) (b : ℕ) (xs : List ℕ) → joined b (map f xs) ≡ map f (joined b xs)
moved f b xs =
    ap₂ (λ ys zs. ys ++ zs) (drop-map f b xs) (take-map f b xs) ∙ sym (map-append f (drop b xs) (take b xs))

pub mapped : (gone : ℕ) (xs ys : List ℕ) → length ys ≡ length xs → ((a : ℕ) → a < length ys → get_or ys a 0 ≡ moved_up gone (get_or xs a 0)) → ys ≡ map (moved_up gone) xs
mapped gone xs ys n each =
    ext_get_or 0 ys (map (moved_up gone) xs) (n ∙ sym (length-map xs (moved_up gone)))
    (λ a h. each a h ∙ sym (get_or-map (moved_up gone) xs a 0 0 (omega (arith, n, h))))

-- the list without the number at an index, where the ring's first goes
pub first_out : (b : ℕ) (xs : List ℕ) (place : ℕ) → b + place ≡ length xs → place < length xs → joined (b - 1) (drop 1 xs) ≡ remove (joined b xs) place
first_out b [] place h l = absurd (omega (arith, l))
first_out b (x ∷ xs) place h l =
    let one : b ≡ suc (b - 1) = omega (arith, h, l) in
    taken_out (b - 1) x xs place (omega (arith, h, one)) ∙ ap (λ k. remove (joined k (x ∷ xs)) place) (sym one)
