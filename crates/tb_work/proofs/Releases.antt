-- Claims that end one by one.
use Rattle.std.proofs.Common.{ℕ, ◌+◌, ◌<◌, ◌≡◌, zero, suc, [], ◌∷◌, None, length, refl, ap, ◌∙◌, arith, length-set}
use Rattle.tb_live.specs.Claims.{Claims, claim_of, with_claim}
use Rattle.tb_live.specs.Session.{Session, with_seat}
use Rattle.tb_work.specs.Closing.{IsReleasedTo}

-- one seat more claims nothing
pub free_more : (claims : Claims) (n : ℕ) → ((seat : ℕ) → seat < n → claim_of claims seat ≡ None) → (seat : ℕ) → seat < suc n → claim_of (with_claim claims n None) seat ≡ None
free_more [] n free seat lt = refl
free_more (c ∷ claims) zero free zero lt = refl
free_more (c ∷ claims) zero free (suc seat) lt = absurd (omega (arith, lt))
free_more (c ∷ claims) (suc n) free zero lt = free 0 (omega arith)
free_more (c ∷ claims) (suc n) free (suc seat) lt = free_more claims n (λ s l. free (suc s) (omega (arith, l))) seat (omega (arith, lt))

pub released_more : (n : ℕ) (old mid new : Session) → IsReleasedTo n old mid → new ≡ with_seat mid n None → IsReleasedTo (n + 1) old new
released_more n old mid new r is =
    record {
      program = ap (λ s. s.program) is ∙ r.program;
      limit = ap (λ s. s.limit) is ∙ r.limit;
      journal = ap (λ s. s.journal) is ∙ r.journal;
      breakpoints = ap (λ s. s.control.breakpoints) is ∙ r.breakpoints;
      mode = ap (λ s. s.control.mode) is ∙ r.mode;
      seats = ap (λ s. length s.control.claims) is ∙ length-set mid.control.claims n None ∙ r.seats;
      free = λ seat lt. ap (λ s. claim_of s.control.claims seat) is ∙ free_more mid.control.claims n r.free seat (omega (arith, lt));
    }
