-- Stored steps that stay are moved over those that go.
use Rattle.std.proofs.Common.{◌≡◌, ◌<◌, ◌≤◌, ◌+◌, ℕ, List, [], ◌∷◌, ◌++◌, Bool, true, false, length, take, drop, set, get_or, ltb, refl, sym, ap, ◌∙◌, arith, append_assoc, append-nil}
use Rattle.std.proofs.Math.ListN.{drop_of_length-le}
use Rattle.std.proofs.lemmas.Bool.{ltb-true, ltb-false}
use Rattle.std.proofs.lemmas.List.{drop-set-lt, drop_more, length-set, take-set, take-set-le, take_more_set}
use Rattle.tb_places.specs.Renumbering.{goes_at, left_from}
use Rattle.tb_core.specs.declared.entry.Entry.{Entry as Stored}
use Rattle.tb_core.proofs.RenumberLemmas.{drop_one, left_gone, left_kept, left_whole, some_entry}

-- the stored steps in front of the one index are done, and so many of these that stay come first
pub record Closes (going : List ℕ) (old now : List Stored) (at stay next : ℕ) : Type 0 where
  pub len : length now ≡ length old
  pub order : stay ≤ at
  pub rest : drop at now ≡ drop at old
  pub done : take stay now ++ left_from at (drop next going) (drop at old) ≡ left_from 0 going old

pub closes_first : (going : List ℕ) (old : List Stored) (first : ℕ) → ((at : ℕ) → at < first → goes_at at going ≡ false) → Closes going old old first first 0
closes_first going old first none = record { len = refl; order = omega arith; rest = refl; done = left_whole first going old none }

module _ (going : List ℕ) (old now : List Stored) (at stay next : ℕ) (l : Closes going old now at stay next) (within : at < length old) where
  abbrev one : (x : Stored) × (x ≡ get_or old at x)
  one = some_entry old at within

  old_is : drop at old ≡ one.0 ∷ drop (at + 1) old
  old_is = drop_more old at one.0 within ∙ ap (λ y. y ∷ drop (at + 1) old) (sym one.1)

  now_is : drop at now ≡ get_or now at one.0 ∷ drop (at + 1) now
  now_is = drop_more now at one.0 (omega (arith, l.len, within))

  past : drop (at + 1) now ≡ drop (at + 1) old
  past =
      let a = now_is in
      let b = old_is in
      let c = l.rest in
      cc

  read : get_or now at one.0 ≡ one.0
  read =
      let a = now_is in
      let b = old_is in
      let c = l.rest in
      cc

  pub closes_gone : goes_at at (drop next going) ≡ true → Closes going old now (at + 1) stay (next + 1)
  closes_gone goes = record {
    len = l.len;
    order = omega (arith, l.order);
    rest = past;
    done =
        ap (λ r. take stay now ++ r)
        (ap (λ g. left_from (at + 1) g (drop (at + 1) old)) (sym (drop_one next going)) ∙ sym (ap (left_from at (drop next going)) old_is ∙ left_gone at (drop next going) one.0 (drop (at + 1) old) goes))
        ∙ l.done;
  }

  module _ (new : List Stored) (swapped : (d : Stored) → new ≡ set (set now stay (get_or now at d)) at (get_or now stay d)) where
    abbrev d : Stored
    d = one.0

    abbrev half : List Stored
    half = set now stay (get_or now at d)

    moved : take (stay + 1) new ≡ take stay now ++ d ∷ []
    moved = ap (take (stay + 1)) (swapped d) ∙ by (ltb stay at) refl ∙ ap (λ x. take stay now ++ x ∷ []) read
      where
        inside : stay < length now
        inside = omega (arith, l.order, l.len, within)

        by : (b : Bool) → ltb stay at ≡ b → take (stay + 1) (set half at (get_or now stay d)) ≡ take stay now ++ get_or now at d ∷ []
        by true t =
            let less = ltb-true stay at t in
            take-set-le (stay + 1) half at (get_or now stay d) (omega (arith, less)) ∙ take_more_set now stay (get_or now at d) inside
        by false f =
            let same : at ≡ stay = omega (arith, l.order, ltb-false stay at f) in
            ap (λ n. take (stay + 1) (set half n (get_or now stay d))) same
            ∙ take_more_set half stay (get_or now stay d) (omega (arith, inside, length-set now stay (get_or now at d)))
            ∙ ap (λ r. r ++ get_or now stay d ∷ []) (take-set now stay (get_or now at d))
            ∙ ap (λ n. take stay now ++ get_or now n d ∷ []) (sym same)

    pub closes_kept : goes_at at (drop next going) ≡ false → Closes going old new (at + 1) (stay + 1) next
    closes_kept stays = record {
      len = ap length (swapped d) ∙ length-set half at (get_or now stay d) ∙ length-set now stay (get_or now at d) ∙ l.len;
      order = omega (arith, l.order);
      rest =
          ap (drop (at + 1)) (swapped d) ∙ drop-set-lt (at + 1) half at (get_or now stay d) (omega arith)
          ∙ drop-set-lt (at + 1) now stay (get_or now at d) (omega (arith, l.order)) ∙ past;
      done =
          ap (λ r. r ++ left_from (at + 1) (drop next going) (drop (at + 1) old)) moved
          ∙ append_assoc (take stay now) (d ∷ []) (left_from (at + 1) (drop next going) (drop (at + 1) old))
          ∙ ap (λ r. take stay now ++ r) (sym (ap (left_from at (drop next going)) old_is ∙ left_kept at (drop next going) d (drop (at + 1) old) stays))
          ∙ l.done;
    }

pub closes_last : (going : List ℕ) (old now : List Stored) (at stay next : ℕ) → length old ≤ at → Closes going old now at stay next
    → take stay now ≡ left_from 0 going old
closes_last going old now at stay next past l =
    sym (append-nil (take stay now)) ∙ ap (λ r. take stay now ++ left_from at (drop next going) r) (sym (drop_of_length-le old past)) ∙ l.done
