-- Why a run that was lent is lost, from what each call said.
use Rattle.std.proofs.Common.{◌≡◌, ◌<◌, ◌≤◌, ◌+◌, ◌-◌, ℕ, List, length, take, drop, ap, sym, ◌∙◌, subst, inr, arith, get_or, Result, Ok, length-drop}
use Rattle.std.specs.Prelude.{IsTrue, Err, IfErr}
use Rattle.std.specs.List.{Any}
use Rattle.std.proofs.lemmas.Grind.{get_or_after_one}
use Rattle.std.proofs.lemmas.List.{get_or-take, length-take}
use Rattle.tb_model.specs.declared.entry.Entry.{Entry}
use Rattle.tb_model.specs.Journal.{Sound}
use Rattle.tb_model.specs.Program.{Program}
use Rattle.tb_live.specs.Breaks.{Points}
use Rattle.tb_live.specs.Runs.{unclaimed}
use Rattle.tb_live.specs.Session.{Session, with_limit}
use Rattle.tb_work.specs.declared.adopt_refusal.AdoptRefusal.{AdoptRefusal}
use Rattle.tb_work.specs.declared.adopt_refusal.AdoptRefusal.TheVariants.{Memory as NoMemory, CellTaken}
use Rattle.tb_work.specs.declared.ended.Ended.TheVariants.{CellTaken as MetTakenCell}
use Rattle.tb_work.specs.Answering.{IsAnswer}
use Rattle.tb_work.specs.Changes.{entries}
use Rattle.tb_work.specs.Ending.{IsEnding}
use Rattle.tb_work.specs.Growing.{AllGrew}
use Rattle.tb_work.specs.Receipts.{Seated, HaveNumbers}
use Rattle.tb_team.specs.declared.lost.Lost.{Lost}
use Rattle.tb_team.specs.declared.lost.Lost.TheVariants.{Memory, Unseated, Written, Taken, Gap, Course, Many, Unstopped}
use Rattle.tb_team.specs.Losing.{lost_by, HasMet, IsAstray, IsLost, IsLostBy, IsUnlent, IsUnstopped, is_seated}
use Rattle.tb_team.specs.Looking.{IsCourse}
use Rattle.tb_team.specs.Lending.{IsBack}

module _ (P : Program) (limit : ℕ) (points : Points) (seats : ℕ) (begun : List Entry) where
  -- what `adopt` refuses
  pub unadopted : (workers : ℕ) (e : AdoptRefusal) (why : Lost) → why ≡ lost_by e → IsLostBy P limit points seats begun workers why
  unadopted workers NoMemory why is = subst (IsLostBy P limit points seats begun workers) (sym is) tt
  unadopted workers CellTaken why is = subst (IsLostBy P limit points seats begun workers) (sym is) tt

  -- one of the lent seats, which count from 1, met a cell that was taken
  pub has_met : (old new : List Seated) → ((i : ℕ) (d : Seated) → i < length old → (get_or old i d).number ≡ i + 1) → AllGrew old new → length new ≡ length old
      → Any (λ s. IsAnswer P limit points seats begun (IsEnding s.number MetTakenCell)) new → HasMet P limit points seats begun (length old)
  has_met old new numbers grew long any =
      let i = any.0 in
      let within : i < length old = omega (arith, any.2, long) in
      let number : any.1.number ≡ i + 1 =
      ap (λ (s : Seated). s.number) (sym any.3) ∙ ((grew i any.1 within).number ∙ numbers i any.1 within) in
      record {
        seat = i + 1;
        first = omega arith;
        last = omega (arith, within);
        ended = subst (λ n. IsAnswer P limit points seats begun (IsEnding n MetTakenCell)) number any.4;
      }

-- whose the entries are was asked first, and it was lent under this limit
pub unlent : (workers : ℕ) (s given : Session) (limit : ℕ) (why : Lost) → given ≡ with_limit limit s → IsTrue (is_seated s) → limit ≤ s.limit
    → IsLostBy given.program given.limit given.control.breakpoints (length given.control.claims) (entries given) workers why → IsUnlent workers s why
unlent workers s given limit why is seated less lost =
    by why (subst (λ (z : Session). IsLostBy z.program z.limit z.control.breakpoints (length z.control.claims) (entries z) workers why) is lost)
  where
    by : (why : Lost) → IsLostBy s.program limit s.control.breakpoints (length s.control.claims) (entries s) workers why → IsUnlent workers s why
    by Memory lost = (seated, (limit, less, lost))
    by Unseated lost = absurd lost
    by Written lost = (seated, (limit, less, lost))
    by Taken lost = (seated, (limit, less, lost))
    by Gap lost = (seated, (limit, less, lost))
    by Course lost = (seated, (limit, less, lost))
    by Many lost = (seated, (limit, less, lost))
    by Unstopped lost = (seated, (limit, less, lost))

-- the seats from 1 on count from 1
pub numbers_on : (seats : List Seated) (n : ℕ) → HaveNumbers seats → (i : ℕ) (d : Seated) → i < length (take n (drop 1 seats)) → (get_or (take n (drop 1 seats)) i d).number ≡ i + 1
numbers_on seats n numbers i d lt =
    let below : i < n = omega (arith, lt, length-take n (drop 1 seats)) in
    let within : 1 + i < length seats = omega (arith, lt, length-take n (drop 1 seats), length-drop 1 seats) in
    ap (λ (s : Seated). s.number) (get_or-take n (drop 1 seats) i d below ∙ get_or_after_one seats i d) ∙ (numbers (1 + i) d within ∙ omega arith)

-- the workers' refusal is returned
pub as_refused : {A B : Type 0} (Q : Lost → Type 0) (r : Result A Lost) (worked : Result B Lost) → IfErr r (λ why. worked ≡ Err why) → IfErr worked Q → IfErr r Q
as_refused Q (Ok a) worked is lost = tt
as_refused {B = B} Q (Err why) worked is lost = subst (λ (w : Result B Lost). IfErr w Q) is lost

-- the run that came back went astray
pub astray : {A : Type 0} (workers most from : ℕ) (s mid back : Session) (r : Result A Lost) → mid ≡ unclaimed s → from ≡ length s.journal → IsBack mid back → Sound back.program back.journal
    → length back.journal ≤ back.limit → IfErr r (IsAstray workers most from back) → IfErr r (IsLost workers most s)
astray workers most from s mid back (Ok a) free at is sound within wrong = tt
astray workers most from s mid back (Err why) free at is sound within wrong =
    inr (back, record { is = subst (λ (z : Session). IsBack z back) free is; sound = sound; within = within }, subst (λ n. IsAstray workers most n back why) at wrong)

-- a course after which no stop is returned
pub unstopped : (workers most from : ℕ) (s : Session) (why : Lost) → IsCourse workers from s → length s.journal ≤ most + from → IsUnstopped (length s.journal - from) most s why → IsAstray workers most from s why
unstopped workers most from s Memory course within why = (course, within, why)
unstopped workers most from s Unseated course within why = absurd why
unstopped workers most from s Written course within why = absurd why
unstopped workers most from s Taken course within why = absurd why
unstopped workers most from s Gap course within why = absurd why
unstopped workers most from s Course course within why = absurd why
unstopped workers most from s Many course within why = absurd why
unstopped workers most from s Unstopped course within why = (course, within, why)
