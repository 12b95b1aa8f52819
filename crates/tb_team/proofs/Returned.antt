-- What comes back has new entries on the journal that was handed over.
use Rattle.std.proofs.Common.{◌≡◌, ◌≤◌, ℕ, List, subst, ◌++◌, length, take, drop, reverse, sym, ap, ◌∙◌, arith}
use Rattle.std.proofs.lemmas.List.{reverse-append, reverse-reverse, length-reverse, length-take, take-append-drop}
use Rattle.tb_team.proofs.Counting.{long_take}
use Rattle.tb_model.specs.declared.entry.Entry.{Entry}
use Rattle.tb_live.specs.Session.{Session}
use Rattle.tb_team.specs.Lending.{IsBack}
use Rattle.tb_work.specs.Changes.{entries}

-- a list whose reverse begins with that of another ends with the other
pub ends_with : {X : Type 0} (new old : List X) (n : ℕ) → take n (reverse new) ≡ reverse old → new ≡ reverse (drop n (reverse new)) ++ old
ends_with new old n begins =
    sym (reverse-reverse new) ∙ ap reverse (sym (take-append-drop n (reverse new))) ∙ reverse-append (take n (reverse new)) (drop n (reverse new))
    ∙ ap (λ l. reverse (drop n (reverse new)) ++ l) (ap reverse begins ∙ reverse-reverse old)

pub longer : {X : Type 0} (new old : List X) → take (length old) (reverse new) ≡ reverse old → length old ≤ length new
longer {X = X} new old begins =
    long_take (length old) (length new) (length (take (length old) (reverse new))) (ap length begins ∙ length-reverse old) (subst (λ k. length (take (length old) (reverse new)) ≤ k) (length-reverse new) (shorter (length old) (reverse new)))
  where
    shorter : (n : ℕ) (xs : List X) → length (take n xs) ≤ length xs
    shorter n xs = let e = length-take n xs in omega (arith, e)

pub begins_as : (old new : Session) (begun : List Entry) → entries old ≡ begun → take (length begun) (entries new) ≡ begun → take (length old.journal) (entries new) ≡ entries old
begins_as old new begun is begins =
    let n : length old.journal ≡ length begun = sym (length-reverse old.journal) ∙ ap length is in
    ap (λ k. take k (entries new)) n ∙ begins ∙ sym is

pub back_as : (old new same : Session) → IsBack old new → same ≡ new → IsBack old same
back_as old new same is e = subst (λ (z : Session). IsBack old z) (sym e) is
