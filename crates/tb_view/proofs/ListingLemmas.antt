-- Lines written one after another, along a list.
use Rattle.std.proofs.Common.{◌≡◌, ◌<◌, ◌≤◌, ◌+◌, ℕ, suc, List, [], ◌∷◌, ◌++◌, length, drop, refl, sym, ap, ap₂, ◌∙◌, arith, get_or, append_assoc, append-nil, length-append, drop-cons}
use Rattle.std.specs.Prelude.{Result, Ok, Err, IfOk, codes, decimal}
use Rattle.std.proofs.lemmas.List.{drop_all}
use Rattle.tb_view.specs.Lines.{line}
use Rattle.tb_view.specs.Listing.{joined, lines_of, listed}

pub joined-append : (a b : List (List ℕ)) → joined (a ++ b) ≡ joined a ++ joined b
joined-append [] b = refl
joined-append (text ∷ lines) b = ap (λ rest. line text ++ rest) (joined-append lines b) ∙ sym (append_assoc (line text) (joined lines) (joined b))

module _ {A : Type 0} (f : A → List (List ℕ)) where
  -- where each has one line, there are as many lines as elements
  pub one_each : ((x : A) → length (f x) ≡ 1) → (xs : List A) → length (lines_of f xs) ≡ length xs
  one_each one [] = refl
  one_each one (x ∷ xs) = omega (arith, length-append (f x) (lines_of f xs), one x, one_each one xs)

  module _ (xs : List A) (i : ℕ) (x : A) (within : i < length xs) (here : x ≡ get_or xs i x) where
    first : lines_of f (drop i xs) ≡ f x ++ lines_of f (drop (i + 1) xs)
    first = ap (lines_of f) (drop-cons xs i x within ∙ ap₂ (λ y k. y ∷ drop k xs) (sym here) one_more)
      where
        one_more : suc i ≡ i + 1
        one_more = omega arith

    -- the lines of one element more
    pub told_more : (text more whole : List ℕ) → text ++ joined (lines_of f (drop i xs)) ≡ whole → more ≡ text ++ joined (f x) → more ++ joined (lines_of f (drop (i + 1) xs)) ≡ whole
    told_more text more whole so_far grows =
        let rest = lines_of f (drop (i + 1) xs) in
        ap (λ t. t ++ joined rest) grows ∙ append_assoc text (joined (f x)) (joined rest) ∙ ap (λ t. text ++ t) (sym (joined-append (f x) rest) ∙ ap joined (sym first)) ∙ so_far

    -- and their number
    pub counted_more : (count n total : ℕ) → count + length (lines_of f (drop i xs)) ≡ total → n ≡ length (f x) → (count + n) + length (lines_of f (drop (i + 1) xs)) ≡ total
    counted_more count n total so_far is = omega (arith, so_far, is, ap length first, length-append (f x) (lines_of f (drop (i + 1) xs)))

  -- after the last element all is written
  pub told_all : (xs : List A) (i : ℕ) (text whole : List ℕ) → length xs ≤ i → text ++ joined (lines_of f (drop i xs)) ≡ whole → text ≡ whole
  told_all xs i text whole past so_far = sym (append-nil text) ∙ ap (λ rest. text ++ joined (lines_of f rest)) (sym (drop_all i xs past)) ∙ so_far

  pub counted_all : (xs : List A) (i : ℕ) (count total : ℕ) → length xs ≤ i → count + length (lines_of f (drop i xs)) ≡ total → count ≡ total
  counted_all xs i count total past so_far = omega (arith, so_far, ap (λ rest. length (lines_of f rest)) (drop_all i xs past))

-- the lines are those of some, which are as many and as given
pub listed_so : {E : Type 0} (word : List ℕ) (all some : List (List ℕ)) (count : ℕ) (text : List ℕ) (r : Result (List ℕ) E) → all ≡ some → count ≡ length some → text ≡ joined some
    → IfOk r (λ t. t ≡ line (word ++ codes " " ++ decimal count) ++ text) → IfOk r (λ t. t ≡ listed word all)
listed_so word all some count text (Ok t) a n e h = h ∙ ap₂ (λ m l. line (word ++ codes " " ++ decimal m) ++ l) (n ∙ ap length (sym a)) (e ∙ ap joined (sym a))
listed_so word all some count text (Err x) a n e h = tt
