-- New entries that are turns leave a history of as many steps at least.
use Rattle.std.proofs.Common.{◌≡◌, ◌≤◌, ◌-◌, ℕ, List, [], ◌∷◌, ◌++◌, Bool, true, false, ◌&&◌, length, take, drop, reverse, sym, ap, ◌∙◌, subst, arith, length-drop}
use Rattle.std.specs.List.{list_all}
use Rattle.std.proofs.lemmas.Bool.{false≢true}
use Rattle.std.proofs.lemmas.List.{reverse-append, reverse-reverse, length-reverse, take-append-drop}
use Rattle.tb_model.specs.declared.entry.Entry.{Entry}
use Rattle.tb_model.specs.declared.entry.Entry.TheVariants.{Opened, Stepped, Rolled}
use Rattle.tb_model.specs.Journal.{hist}
use Rattle.tb_journal.specs.Journals.{is_turn}
use Rattle.tb_team.proofs.Records.{all_reversed}

rest_of : (a b : Bool) → (a && b) ≡ true → b ≡ true
rest_of true b e = e
rest_of false b e = cc

stand : (workers : ℕ) (new old : List Entry) → list_all (is_turn workers) new ≡ true → length new ≤ length (hist (new ++ old))
stand workers [] old turns = omega arith
stand workers (Opened ∷ es) old turns = absurd (false≢true turns)
stand workers (Rolled seat i ∷ es) old turns = absurd (false≢true turns)
stand workers (Stepped seat v ∷ es) old turns =
    let rest = stand workers es old (rest_of (is_turn workers (Stepped seat v)) (list_all (is_turn workers) es) turns) in
    omega (arith, rest)

pub turns_stand : (workers from count : ℕ) (J : List Entry) → list_all (is_turn workers) (drop from (reverse J)) ≡ true → count ≡ length J → count - from ≤ length (hist J)
turns_stand workers from count J turns counted =
    let new = drop from (reverse J) in
    let whole : J ≡ reverse new ++ reverse (take from (reverse J)) =
    sym (reverse-reverse J) ∙ ap reverse (sym (take-append-drop from (reverse J))) ∙ reverse-append (take from (reverse J)) new in
    let s = stand workers (reverse new) (reverse (take from (reverse J))) (all_reversed (is_turn workers) new turns) in
    let s' : length (reverse new) ≤ length (hist J) = subst (λ (K : List Entry). length (reverse new) ≤ length (hist K)) (sym whole) s in
    omega (arith, s', length-reverse new, length-drop from (reverse J), length-reverse J, counted)
