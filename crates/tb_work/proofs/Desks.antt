-- What a desk retains, and what an entry more leaves of it.
use Rattle.std.proofs.Common.{ℕ, ◌+◌, ◌<◌, ◌≤◌, ◌≡◌, suc, List, [], ◌∷◌, ◌++◌, Some, Option, map, take, drop, length, get_or, refl, ap, sym, subst, ◌∙◌, arith, length-set}
use Rattle.std.specs.Prelude.{slice_index}
use Rattle.std.proofs.lemmas.List.{map-append, reverse-append, length-map, length-reverse, length-take, take-append-le, drop-append-le}
use Rattle.std.proofs.Math.Seq.{take-suc, take-length}
use Rattle.tb_model.specs.declared.entry.Entry.{Entry}
use Rattle.tb_model.specs.declared.entry.Entry.TheVariants.{Opened, Stepped, Rolled}
use Rattle.tb_model.specs.Names.{Name}
use Rattle.tb_model.specs.Program.{Program}
use Rattle.tb_live.specs.Breaks.{Points}
use Rattle.tb_control.specs.declared.control.Control.{Control}
use Rattle.tb_live.specs.Session.{Session, with_entry, with_seat, control_behind}
use Rattle.tb_work.specs.Changes.{entries}
use Rattle.tb_work.specs.Slots.{Slots}

-- an entry leaves the breakpoints, and as many seats as there were
pub points_stay : (P : Program) (J : List Entry) (c : Control) (e : Entry) → (control_behind P J c e).breakpoints ≡ c.breakpoints
points_stay P J c Opened = refl
points_stay P J c (Stepped seat v) = refl
points_stay P J c (Rolled seat i) = refl

pub seats_stay : (P : Program) (J : List Entry) (c : Control) (e : Entry) → length (control_behind P J c e).claims ≡ length c.claims
seats_stay P J c Opened = refl
seats_stay P J c (Stepped seat v) = length-map c.claims _
seats_stay P J c (Rolled seat i) = length-map c.claims _

-- the whole is a beginning
pub all_begun : (es begun : List Entry) → es ≡ begun → take (length begun) es ≡ begun
all_begun es begun is = ap (take (length begun)) is ∙ take-length begun

-- a beginning stays one
begins_more : (es begun : List Entry) (e : Entry) → take (length begun) es ≡ begun → take (length begun) (es ++ e ∷ []) ≡ begun
begins_more es begun e begins =
    let within : length begun ≤ length es = omega (arith, ap length begins, length-take (length begun) es) in
    rw take-append-le begins

-- what is said of the run, its notes and its book
pub record Agrees (P : Program) (limit : ℕ) (points : Points) (seats : ℕ) (slots : Slots) (begun : List Entry) (s : Session) (total : ℕ) (cells : List ℕ) (known : List (Option Entry)) : Type 0 where
  pub program : s.program ≡ P
  pub limited : s.limit ≡ limit
  pub breakpoints : s.control.breakpoints ≡ points
  pub seated : length s.control.claims ≡ seats
  pub begins : take (length begun) (entries s) ≡ begun
  pub counted : total + slots.first ≡ length s.journal
  pub named : cells ≡ drop slots.first (take (length s.journal) slots.cells)
  pub noted : known ≡ map (λ e. Some e) (drop slots.first (entries s))

-- one entry more
pub agrees_more : (P : Program) (limit : ℕ) (points : Points) (seats : ℕ) (slots : Slots) (begun : List Entry) (old mid new : Session) (e : Entry)
    (total later : ℕ) (cells more : List ℕ) (known told : List (Option Entry)) (place : ℕ)
    → Agrees P limit points seats slots begun old total cells known
    → mid ≡ old → new ≡ with_entry mid e → place ≡ length old.journal → place < length slots.cells
    → later ≡ total + 1 → more ≡ cells ++ slice_index slots.cells place ∷ [] → told ≡ known ++ Some e ∷ []
    → Agrees P limit points seats slots begun new later more told
agrees_more P limit points seats slots begun old mid new e total later cells more known told place a same now at lt one cell note =
    let is : new ≡ with_entry old e = now ∙ ap (λ s. with_entry s e) same in
    let J = old.journal in
    let longer : length new.journal ≡ suc (length J) = ap (λ s. length s.journal) is in
    let f = slots.first in
    let all = slots.cells in
    let within : length J < length all = omega (arith, at, lt) in
    let taken : take (suc (length J)) all ≡ take (length J) all ++ get_or all (length J) 0 ∷ [] = take-suc all (length J) 0 within in
    let first : f ≤ length J = omega (arith, a.counted) in
    let before : f ≤ length (take (length J) all) = omega (arith, first, within, length-take (length J) all) in
    let behind : f ≤ length (entries old) = omega (arith, first, length-reverse J) in
    let listed : entries new ≡ entries old ++ e ∷ [] = ap entries is ∙ reverse-append (e ∷ []) J in
    record {
      program = ap (λ s. s.program) is ∙ a.program;
      limited = ap (λ s. s.limit) is ∙ a.limited;
      breakpoints = ap (λ s. s.control.breakpoints) is ∙ points_stay old.program J old.control e ∙ a.breakpoints;
      seated = ap (λ s. length s.control.claims) is ∙ seats_stay old.program J old.control e ∙ a.seated;
      begins = ap (take (length begun)) listed ∙ begins_more (entries old) begun e a.begins;
      counted = omega (arith, a.counted, one, longer);
      named = cell ∙ ap (λ l. l ++ get_or all place 0 ∷ []) a.named ∙ ap (λ k. drop f (take (length J) all) ++ get_or all k 0 ∷ []) at
          ∙ sym (drop-append-le f (take (length J) all) (get_or all (length J) 0 ∷ []) before) ∙ ap (drop f) (sym taken) ∙ ap (λ n. drop f (take n all)) (sym longer);
      noted = note ∙ ap (λ l. l ++ Some e ∷ []) a.noted ∙ sym (map-append (λ x. Some x) (drop f (entries old)) (e ∷ []))
          ∙ ap (map (λ x. Some x)) (sym (drop-append-le f (entries old) (e ∷ []) behind) ∙ ap (drop f) (sym listed));
    }

-- a claim changes nothing of it
pub agrees_claimed : (P : Program) (limit : ℕ) (points : Points) (seats : ℕ) (slots : Slots) (begun : List Entry) (s new : Session)
    (total seat : ℕ) (o : Option Name) (cells : List ℕ) (known : List (Option Entry))
    → Agrees P limit points seats slots begun s total cells known → new ≡ with_seat s seat o → Agrees P limit points seats slots begun new total cells known
agrees_claimed P limit points seats slots begun s new total seat o cells known a is =
    subst (λ (z : Session). Agrees P limit points seats slots begun z total cells known) (sym is) (record {
      program = a.program;
      limited = a.limited;
      breakpoints = a.breakpoints;
      seated = length-set s.control.claims seat o ∙ a.seated;
      begins = a.begins;
      counted = a.counted;
      named = a.named;
      noted = a.noted;
    })
