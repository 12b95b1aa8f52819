-- One worker, turn by turn.
use Rattle.std.proofs.Common.{◌≡◌, ◌≢◌, ◌<◌, ◌≤◌, ◌-◌, ◌+◌, ◌==◌, ℕ, zero, suc, List, [], ◌∷◌, ◌++◌, length, Bool, true, false, cond, Option, Some, None, Ok, Err, refl, sym, ap, ap₂, ◌∙◌, subst, arith}
use Rattle.std.proofs.lemmas.Bool.{eqb-true}
use Rattle.std.proofs.lemmas.List.{length-map, length-set}
use Rattle.std.specs.Option.{option_or}
use Rattle.std.specs.Prelude.{⊤}
use Rattle.tb_model.specs.declared.step_id.StepId.{StepId}
use Rattle.tb_model.specs.Names.{Name, same_name}
use Rattle.tb_model.proofs.TestLemmas.{same_refl}
use Rattle.tb_core.specs.declared.step_refusal.StepRefusal.TheVariants.{Full}
use Rattle.tb_control.specs.declared.mode.Mode.{Mode}
use Rattle.tb_control.specs.declared.mode.Mode.TheVariants.{Resumed, Counting, Paused}
use Rattle.tb_control.specs.declared.paused_by.PausedBy.TheVariants.{Break as ByBreak, Count as ByCount, Pause as ByPause}
use Rattle.tb_live.specs.Claims.{Claims, AreFreeFrom, claim_of, with_claim, withdrawn, unless}
use Rattle.tb_live.specs.Modes.{counting, is_paused}
use Rattle.tb_live.specs.Modes as modes
use Rattle.tb_live.specs.Pauses.{with_mode}
use Rattle.tb_live.specs.Runs.{unclaimed}
use Rattle.tb_live.specs.Session.{Session, is_full}
use Rattle.tb_live.specs.Moves.{LeastStepsFor, least_task}
use Rattle.tb_control.proofs.ClaimLemmas.{free_withdrawn}
use Rattle.tb_team.specs.declared.stop.Stop.{Stop}
use Rattle.tb_replies.specs.Alone.{HasNoClaims, IsUnderWay, TakesTurn, Stops, IsWhole}
use Rattle.tb_replies.specs.Course.{Course, stopped, behind}
use Rattle.tb_replies.specs.Laws.{met_by}
use Rattle.tb_replies.specs.Texts.{told_step, newest_line}
use Rattle.tb_replies.specs.Turns.{Goes}
use Rattle.tb_team.specs.Gone.{HasSeats}
use Rattle.tb_team.specs.Turns.{IsTurn, stepped_by, why_paused, why_idle, stop_of, turned, started, settled}
use Rattle.tb_replies.specs.declared.running.Taken.{Taken}
use Rattle.tb_replies.proofs.CourseLemmas.{behind_both, behind_nothing, behind_stopped}

-- ---- how many turns may follow

abbrev pub MayFollow : ℕ → Mode → Type 0
MayFollow n (Counting left) = (left ≡ n) × (0 < n)
MayFollow n (Paused (ByBreak number)) = ⊤
MayFollow n (Paused ByCount) = n ≡ 0
MayFollow n _ = ⊥

pub counting_follows : (n : ℕ) → MayFollow n (counting n)
counting_follows n = at (n == 0) refl
  where
    at : (b : Bool) → (n == 0) ≡ b → MayFollow n (cond b (Paused ByCount) (Counting n))
    at true e = eqb-true n 0 e
    at false e = (refl, grind (arith, e))

-- one fewer after a turn
pub one_fewer : (n : ℕ) (m : Mode) (met : Option ℕ) → MayFollow n m → is_paused m ≡ false → MayFollow (n - 1) (modes.behind met m)
one_fewer n (Counting left) (Some number) h going = tt
one_fewer n (Counting left) None h going = subst (λ k. MayFollow (k - 1) (counting (left - 1))) h.0 (counting_follows (left - 1))
one_fewer n (Paused by) met h going = cc
one_fewer n Resumed met h going = absurd h

pub under_way : (n : ℕ) (m : Mode) → MayFollow n m → IsUnderWay m
under_way n (Counting left) h = λ paused e. cc paused
under_way n (Paused (ByBreak number)) h = λ paused e. cc e
under_way n (Paused ByCount) h = λ paused e. cc e
under_way n (Paused ByPause) h = absurd h
under_way n Resumed h = absurd h

none_follows : (m : Mode) → MayFollow 0 m → why_paused m ≢ None
none_follows (Counting left) h = λ e. absurd (omega (arith, h.1))
none_follows (Paused (ByBreak number)) h = λ e. cc e
none_follows (Paused ByCount) h = λ e. cc e
none_follows (Paused ByPause) h = absurd h
none_follows Resumed h = absurd h

-- ---- why none follows

paused_or : (o p : Option Stop) → o ≢ None → option_or o p ≢ None
paused_or None p h = absurd (h refl)
paused_or (Some why) p h = λ e. cc e

idle_or : (o p : Option Stop) → p ≢ None → option_or o p ≢ None
idle_or None p h = h
idle_or (Some why) p h = λ e. cc e

full_stops : (o : Option Name) (full : Bool) → full ≡ true → why_idle o full ≢ None
full_stops None full e = λ h. cc h
full_stops (Some t) true e = λ h. cc h
full_stops (Some t) false e = λ h. cc e

done_stops : (o : Option Name) (full : Bool) → o ≡ None → why_idle o full ≢ None
done_stops None full e = λ h. cc h
done_stops (Some t) full e = cc

pub all_stop : (s : Session) → MayFollow 0 s.control.mode → stop_of s ≢ None
all_stop s h = paused_or (why_paused s.control.mode) (why_idle (least_task s) (is_full s)) (none_follows s.control.mode h)

goes_on : (m : Mode) → is_paused m ≡ false → why_paused m ≡ None
goes_on Resumed e = refl
goes_on (Counting left) e = refl
goes_on (Paused by) e = cc

-- ---- no claims

none_stays : (o : Option Name) → unless (λ t. true) o ≡ None
none_stays None = refl
none_stays (Some t) = refl

none_left : (claims : Claims) (seat : ℕ) → claim_of (withdrawn (λ t. true) claims) seat ≡ None
none_left [] seat = refl
none_left (o ∷ claims) zero = none_stays o
none_left (o ∷ claims) (suc seat) = none_left claims seat

-- a claim on a task whose claims are withdrawn next makes no difference
withdrawn_again : (p : Name → Bool) (claims : Claims) (seat : ℕ) (t : Name) → AreFreeFrom 0 claims → p t ≡ true → withdrawn p (with_claim claims seat (Some t)) ≡ withdrawn p claims
withdrawn_again p [] seat t free e = refl
withdrawn_again p (o ∷ claims) zero t free e = ap (λ x. x ∷ withdrawn p claims) (ap (λ b. cond b None (Some t)) e ∙ sym (ap (unless p) (free 0 (omega arith))))
withdrawn_again p (o ∷ claims) (suc seat) t free e = ap (λ xs. unless p o ∷ xs) (withdrawn_again p claims seat t (λ other h. free (suc other) (omega arith)) e)

-- a step of the least task is a turn
pub stepped_turned : (s : Session) (t : Name) → HasNoClaims s → stepped_by 1 s t ≡ turned 1 s t
stepped_turned s t free =
    let new = stepped_by 1 s t in
    ap (λ claims. record { program = new.program; limit = new.limit; journal = new.journal; control = record { claims = claims; breakpoints = new.control.breakpoints; mode = new.control.mode } })
    (sym (withdrawn_again (same_name t) s.control.claims 1 t free (same_refl t)))

-- ---- a turn of the worker

module _ (s : Session) where
  pub pauses : IsUnderWay s.control.mode → is_paused s.control.mode ≡ true → stop_of s ≢ None
  pauses under e = paused_or (why_paused s.control.mode) (why_idle (least_task s) (is_full s)) (under e)

  pub none_steps : (new : Session) → LeastStepsFor 1 s new (Ok None) → (stop_of s ≢ None) × (new ≡ s)
  none_steps new h = (idle_or (why_paused s.control.mode) (why_idle (least_task s) (is_full s)) (done_stops (least_task s) (is_full s) h.1), h.0)

  pub none_fits : (new : Session) → LeastStepsFor 1 s new (Err Full) → (stop_of s ≢ None) × (new ≡ s)
  none_fits new h = (idle_or (why_paused s.control.mode) (why_idle (least_task s) (is_full s)) (full_stops (least_task s) (is_full s) h.2), h.0)

  -- the turn is executed and written
  pub turn_taken : HasNoClaims s → is_paused s.control.mode ≡ false → (new : Session) (id : StepId) (before after : List ℕ) → LeastStepsFor 1 s new (Ok (Some id)) → after ≡ before ++ newest_line new id → TakesTurn s before after new true
  turn_taken free on new id before after h told =
      let t = h.0 in
      let steps = h.2 in
      let now : new ≡ turned 1 s t = steps.now ∙ stepped_turned s t free in
      let turn : IsTurn 1 s 1 t = record { first = omega arith; last = omega arith; going = on; may = steps.may; alone = λ one. h.1 } in
      (ap₂ option_or (goes_on s.control.mode on) (ap₂ why_idle h.1 steps.may.room), (t, turn, told ∙ ap (λ l. before ++ l) (ap₂ newest_line now steps.id), now))

-- ---- nobody claims a task between turns

pub unclaimed_free : (s : Session) → HasNoClaims (unclaimed s)
unclaimed_free s seat h = none_left s.control.claims seat

pub turned_free : (s : Session) (t : Name) → HasNoClaims s → HasNoClaims (turned 1 s t)
turned_free s t free = subst HasNoClaims (stepped_turned s t free) (free_withdrawn (same_name t) 0 s.control.claims free)

pub unclaimed_seats : (s : Session) → length (unclaimed s).control.claims ≡ length s.control.claims
unclaimed_seats s = length-map s.control.claims (unless (λ t. true))

pub turned_seats : (seat : ℕ) (s : Session) (t : Name) → length (turned seat s t).control.claims ≡ length s.control.claims
turned_seats seat s t = length-map (with_claim s.control.claims seat (Some t)) (unless (same_name t)) ∙ length-set s.control.claims seat (Some t)

-- ---- the turns so far

-- whatever follows, the course begins with the turns so far
abbrev pub Going : Session → List ℕ → ℕ → Session → Type 0
Going first text count s = (turns : List (ℕ × Name)) (rest : Course) → Goes 1 turns s rest → (all : List (ℕ × Name)) × Goes 1 all first (behind text count rest)

pub going_starts : (first s : Session) (text : List ℕ) → text ≡ [] → s ≡ first → Going first text 0 s
going_starts first s text none same turns rest g =
    let e : behind text 0 rest ≡ rest = ap (λ l. behind l 0 rest) none ∙ behind_nothing rest in
    (turns, subst (λ z. Goes 1 turns z (behind text 0 rest)) same (subst (Goes 1 turns s) (sym e) g))

pub going_on : (first s new : Session) (before after : List ℕ) (count : ℕ) → Going first before count s → TakesTurn s before after new true → Going first after (count + 1) new
going_on first s new before after count going h turns rest g =
    let t = h.1.0 in
    let here : Goes 1 turns (turned 1 s t) rest = subst (λ z. Goes 1 turns z rest) h.1.3 g in
    let whole = going ((1, t) ∷ turns) (behind (told_step s t) 1 rest) (h.0, h.1.1, (rest, here, refl)) in
    let e : behind before count (behind (told_step s t) 1 rest) ≡ behind after (count + 1) rest =
    behind_both before (told_step s t) count 1 rest ∙ ap (λ l. behind l (count + 1) rest) (sym h.1.2) in
    (whole.0, subst (Goes 1 whole.0 first) e whole.1)

pub going_ends : (most : ℕ) (old first s at new : Session) (text last : List ℕ) (count : ℕ) (taken : Taken) → first ≡ started most old → Going first text count s → last ≡ text → stop_of at ≡ stop_of s → settled at ≡ settled s → Stops at count new taken → IsWhole most old last new taken
going_ends most old first s at new text last count taken begins going same stops settles h =
    let whole = going [] (stopped taken.stop (settled s)) (taken.stop, sym stops ∙ h.why, refl) in
    let e : behind text count (stopped taken.stop (settled s)) ≡ record { lines = last; count = taken.count; stop = taken.stop; session = new } =
    behind_stopped text count taken.stop (settled s)
    ∙ (ap (λ z. record { lines = text; count = count; stop = taken.stop; session = z }) (sym settles ∙ sym h.now)
    ∙ (ap (λ n. record { lines = text; count = n; stop = taken.stop; session = new }) (sym h.counted)
    ∙ ap (λ l. record { lines = l; count = taken.count; stop = taken.stop; session = new }) (sym same))) in
    (whole.0, subst (λ z. Goes 1 whole.0 z (record { lines = last; count = taken.count; stop = taken.stop; session = new })) begins (subst (Goes 1 whole.0 first) e whole.1))

-- ---- under way

pub record UnderWay (first : Session) (most count : ℕ) (text : List ℕ) (s : Session) : Type 0 where
  pub within : count ≤ most
  pub seats : HasSeats s
  pub free : HasNoClaims s
  pub left : MayFollow (most - count) s.control.mode
  pub going : Going first text count s

pub begun : (most : ℕ) (old mid first : Session) → mid ≡ unclaimed old → first ≡ with_mode mid (counting most) → first ≡ started most old
begun most old mid first m f = f ∙ ap (λ z. with_mode z (counting most)) m

pub starts : (most : ℕ) (old first : Session) (text : List ℕ) → first ≡ started most old → HasSeats old → text ≡ [] → UnderWay first most 0 text first
starts most old first text e seats none =
    subst (λ z. UnderWay z most 0 text z) (sym e) (record {
      within = omega arith;
      seats = subst (λ n. 64 < n) (sym (unclaimed_seats old)) seats;
      free = unclaimed_free old;
      left = subst (λ n. MayFollow n (counting most)) (omega arith) (counting_follows most);
      going = going_starts (started most old) (started most old) text none refl;
    })

pub turns_on : (first s new : Session) (most count : ℕ) (before after : List ℕ) → count < most → UnderWay first most count before s → TakesTurn s before after new true → UnderWay first most (count + 1) after new
turns_on first s new most count before after within u h =
    let t = h.1.0 in
    let now : new ≡ turned 1 s t = h.1.3 in
    let fewer : (most - count) - 1 ≡ most - (count + 1) = omega (arith, within) in
    record {
      within = omega (arith, within);
      seats = subst HasSeats (sym now) (subst (λ n. 64 < n) (sym (turned_seats 1 s t)) u.seats);
      free = subst HasNoClaims (sym now) (turned_free s t u.free);
      left =
          subst (λ (z : Session). MayFollow (most - (count + 1)) z.control.mode) (sym now)
          (subst (λ n. MayFollow n (turned 1 s t).control.mode) fewer (one_fewer (most - count) s.control.mode (met_by s t) u.left h.1.1.going));
      going = going_on first s new before after count u.going h;
    }

-- no turn follows
pub ends : (most : ℕ) (old first s at new : Session) (text last : List ℕ) (count : ℕ) (taken : Taken) → first ≡ started most old → UnderWay first most count text s → last ≡ text → at ≡ s → Stops at count new taken → IsWhole most old last new taken
ends most old first s at new text last count taken begins u same claim h =
    going_ends most old first s at new text last count taken begins u.going same (ap stop_of claim) (ap settled claim) h

pub none_more : (first s : Session) (most count : ℕ) (text : List ℕ) → UnderWay first most count text s → (count < most → ⊥) → stop_of s ≢ None
none_more first s most count text u over =
    let none : most - count ≡ 0 = omega (arith, over, u.within) in
    all_stop s (subst (λ n. MayFollow n s.control.mode) none u.left)
