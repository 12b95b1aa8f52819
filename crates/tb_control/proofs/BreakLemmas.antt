-- The numbers of breakpoints.
use Rattle.std.proofs.Common.{◌≡◌, ◌<◌, ◌≤◌, ◌+◌, ℕ, suc, List, [], ◌∷◌, ◌++◌, Bool, true, false, length, filter, arith, cond, refl, ap, not, subst, sym}
use Rattle.tb_control.specs.declared.breaks.Break.{Break}
use Rattle.tb_control.specs.declared.breakpoint.Breakpoint.{Breakpoint}
use Rattle.tb_control.specs.Breaks.{AreRising, AreNumbered, has_number}

loosened : (low above high : ℕ) (bs : List Breakpoint) → low ≤ above → AreRising above high bs → AreRising low high bs
loosened low above high [] l r = tt
loosened low above high (b ∷ bs) l r = (omega (arith, l, r.0), r.1, r.2)

one_more : (low high : ℕ) (bs : List Breakpoint) (at : Break) → low ≤ high → AreRising low high bs → AreRising low (suc high) (bs ++ record { number = suc high; at = at } ∷ [])
one_more low high [] at l r = (omega (arith, l), omega arith, tt)
one_more low high (b ∷ bs) at l r = (r.0, omega (arith, r.1), one_more b.number high bs at r.1 r.2)

fewer : (p : Breakpoint → Bool) (low high : ℕ) (bs : List Breakpoint) → AreRising low high bs → AreRising low high (filter p bs)
fewer p low high [] r = tt
fewer p low high (b ∷ bs) r = at (p b) (fewer p b.number high bs r.2)
  where
    at : (x : Bool) → AreRising b.number high (filter p bs) → AreRising low high (cond x (b ∷ filter p bs) (filter p bs))
    at true f = (r.0, r.1, f)
    at false f = loosened low b.number high (filter p bs) (omega (arith, r.0)) f

not_longer : (p : Breakpoint → Bool) (bs : List Breakpoint) → length (filter p bs) ≤ length bs
not_longer p [] = omega arith
not_longer p (b ∷ bs) = at (p b) (not_longer p bs)
  where
    at : (x : Bool) → length (filter p bs) ≤ length bs → length (cond x (b ∷ filter p bs) (filter p bs)) ≤ suc (length bs)
    at true f = omega (arith, f)
    at false f = omega (arith, f)

longer_by_one : (bs : List Breakpoint) (b : Breakpoint) → length (bs ++ b ∷ []) ≡ suc (length bs)
longer_by_one [] b = refl
longer_by_one (x ∷ bs) b = ap suc (longer_by_one bs b)

pub add_numbered : (standing pushed : List Breakpoint) (given : ℕ) (at : Break) → AreNumbered (record { standing = standing; given = given }) → length standing < 64 → given < 1000000
    → pushed ≡ standing ++ record { number = suc given; at = at } ∷ [] → AreNumbered (record { standing = pushed; given = given + 1 })
add_numbered standing pushed given at n few last grows =
    let more : AreNumbered (record { standing = standing ++ record { number = suc given; at = at } ∷ []; given = suc given }) =
    record {
      few = omega (arith, few, longer_by_one standing (record { number = suc given; at = at }));
      last = omega (arith, last);
      rising = one_more 0 given standing at (omega arith) n.rising;
    }
    in
    let one : suc given ≡ given + 1 = omega arith in
    subst (λ n. AreNumbered (record { standing = pushed; given = n })) one (subst (λ bs. AreNumbered (record { standing = bs; given = suc given })) (sym grows) more)

pub clear_numbered : (standing left : List Breakpoint) (given number : ℕ) → AreNumbered (record { standing = standing; given = given }) → left ≡ filter (λ b. not (has_number number b)) standing → AreNumbered (record { standing = left; given = given })
clear_numbered standing left given number n fewer_left =
    let less : AreNumbered (record { standing = filter (λ b. not (has_number number b)) standing; given = given }) =
    record {
      few = omega (arith, n.few, not_longer (λ b. not (has_number number b)) standing);
      last = n.last;
      rising = fewer (λ b. not (has_number number b)) 0 given standing n.rising;
    }
    in
    subst (λ bs. AreNumbered (record { standing = bs; given = given })) (sym fewer_left) less
