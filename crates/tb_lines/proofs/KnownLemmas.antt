-- Reads and writes one after another.
use Rattle.std.proofs.Common.{ℕ, ◌+◌, ◌-◌, List, [], ◌++◌, None, Some, Option, take, drop, length, refl, sym, ap, ◌∙◌, append_assoc, append-nil, subst}
use Rattle.std.proofs.lemmas.List.{take_rest}
use Rattle.std.proofs.Math.Seq.{take-add}
use Rattle.std.specs.Io.KnownBytes.{Appends, Consumes, Keeps}

pub appends_nil : (a : Option (List ℕ)) → Appends a a []
appends_nil None = tt
appends_nil (Some x) = sym (append-nil x)

pub consumes_nil : (a : Option (List ℕ)) → Consumes a a []
consumes_nil None = tt
consumes_nil (Some x) = refl

pub appends_trans : (a b c : Option (List ℕ)) (bs cs : List ℕ) → Appends a b bs → Appends b c cs → Appends a c (bs ++ cs)
appends_trans None b c bs cs p q = tt
appends_trans (Some x) None c bs cs p q = absurd p
appends_trans (Some x) (Some y) None bs cs p q = absurd q
appends_trans (Some x) (Some y) (Some z) bs cs p q = q ∙ ap (λ l. l ++ cs) p ∙ append_assoc x bs cs

pub consumes_trans : (a b c : Option (List ℕ)) (bs cs : List ℕ) → Consumes a b bs → Consumes b c cs → Consumes a c (bs ++ cs)
consumes_trans None b c bs cs p q = tt
consumes_trans (Some x) None c bs cs p q = absurd p
consumes_trans (Some x) (Some y) None bs cs p q = absurd q
consumes_trans (Some x) (Some y) (Some z) bs cs p q = p ∙ ap (λ l. bs ++ l) q ∙ sym (append_assoc bs cs z)

-- retained bytes are bytes of which nothing was taken, and to which nothing was added
pub consumes_kept : (a b c : Option (List ℕ)) (bs : List ℕ) → Consumes a b bs → Keeps b c → Consumes a c bs
consumes_kept None b c bs p q = tt
consumes_kept (Some x) None c bs p q = absurd p
consumes_kept (Some x) (Some y) None bs p q = absurd q
consumes_kept (Some x) (Some y) (Some z) bs p q = p ∙ ap (λ l. bs ++ l) (sym q)

pub appends_kept : (a b c : Option (List ℕ)) (bs : List ℕ) → Appends a b bs → Keeps b c → Appends a c bs
appends_kept None b c bs p q = tt
appends_kept (Some x) None c bs p q = absurd p
appends_kept (Some x) (Some y) None bs p q = absurd q
appends_kept (Some x) (Some y) (Some z) bs p q = q ∙ p

-- the first n bytes were written, and then m of the rest, which a slice `&all[n..]` shows
pub appends_more : (a b c : Option (List ℕ)) (n m : ℕ) (all : List ℕ) → Appends a b (take n all)
    → Appends b c (take m (take (length all - n) (drop n all))) → Appends a c (take (n + m) all)
appends_more a b c n m all p q =
    let rest = subst (λ l. Appends b c (take m l)) (take_rest all n) q in
    subst (Appends a c) (sym (take-add n m all)) (appends_trans a b c _ _ p rest)
