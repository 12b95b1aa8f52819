-- Turns lead to each journal that grows by steps of workers.
use Rattle.std.proofs.Common.{◌≡◌, ◌<◌, ◌≤◌, ◌-◌, ◌+◌, ◌==◌, ℕ, zero, suc, List, [], ◌∷◌, ◌++◌, length, Bool, true, false, ◌&&◌, not, cond, nat_le, Option, Some, None, is_none, refl, sym, ap, ap₂, ◌∙◌, subst, arith}
use Rattle.std.specs.Prelude.{is_some}
use Rattle.std.specs.List.{list_all}
use Rattle.std.specs.Option.{option_or}
use Rattle.std.proofs.lemmas.Bool.{false≢true, ne_eqb, cond-false}
use Rattle.std.proofs.lemmas.List.{length_push}
use Rattle.tb_model.specs.declared.entry.Entry.{Entry}
use Rattle.tb_model.specs.declared.entry.Entry.TheVariants.{Opened, Stepped, Rolled}
use Rattle.tb_model.specs.declared.event.Event.{Event}
use Rattle.tb_model.specs.Hindrances.{Refusal, can_step}
use Rattle.tb_model.specs.Journal.{hist, Sound}
use Rattle.tb_model.specs.Names.{Name, same_name}
use Rattle.tb_model.specs.Program.{Program, situation}
use Rattle.tb_model.specs.WellFormed.{WellFormed}
use Rattle.tb_laws.proofs.JournalLemmas.{journal_legal}
use Rattle.tb_model.proofs.LeastNameLemmas.{least_found}
use Rattle.tb_laws.proofs.NextStepLemmas.{next_computed, next_isnt_refused}
use Rattle.tb_model.proofs.TestLemmas.{same_refl}
use Rattle.tb_control.specs.declared.mode.Mode.TheVariants.{Counting, Paused}
use Rattle.tb_control.specs.declared.paused_by.PausedBy.TheVariants.{Count as ByCount}
use Rattle.tb_live.specs.Breaks.{met}
use Rattle.tb_live.specs.Claims.{Claims, withdrawn, with_claim, unless}
use Rattle.tb_live.specs.Modes.{counting, counted, is_paused}
use Rattle.tb_live.specs.Modes as modes
use Rattle.tb_live.specs.Moves.{coming, refusal_for}
use Rattle.tb_live.specs.Session.{Session, history, is_full}
use Rattle.tb_next.proofs.ReadyLemmas.{can_spawned}
use Rattle.tb_team.proofs.Counting.{above_none, at_most, full_is_not_room, not_none, room_left, some_left, one_fewer, less, plus_one, all_of_it}
use Rattle.tb_team.specs.Turns.{AreTurns, IsTurn, started, stop_of, turned, why_idle, why_paused}
use Rattle.tb_journal.specs.Journals.{is_turn}
use Rattle.tb_team.specs.Looking.{none_met}

-- ---- claims

none_again : (p : Name → Bool) (o : Option Name) → unless p (unless (λ t. true) o) ≡ unless (λ t. true) o
none_again p None = refl
none_again p (Some t) = refl

none_left : (o : Option Name) → unless (λ t. true) o ≡ None
none_left None = refl
none_left (Some t) = refl

all_again : (p : Name → Bool) (claims : Claims) → withdrawn p (withdrawn (λ t. true) claims) ≡ withdrawn (λ t. true) claims
all_again p [] = refl
all_again p (o ∷ claims) = ap₂ ◌∷◌ (none_again p o) (all_again p claims)

own_gone : (t : Name) → unless (same_name t) (Some t) ≡ None
own_gone t = at (same_name t t) (same_refl t)
  where
    at : (b : Bool) → b ≡ true → cond b None (Some t) ≡ None
    at true e = refl
    at false e = cc

-- a claim that its step ends leaves none
pub claims_back : (claims : Claims) (seat : ℕ) (t : Name) → withdrawn (same_name t) (with_claim (withdrawn (λ u. true) claims) seat (Some t)) ≡ withdrawn (λ u. true) claims
claims_back [] seat t = refl
claims_back (o ∷ claims) zero t = ap₂ ◌∷◌ (own_gone t ∙ sym (none_left o)) (all_again (same_name t) claims)
claims_back (o ∷ claims) (suc seat) t = ap₂ ◌∷◌ (none_again (same_name t) o) (claims_back claims seat t)

pub all_withdrawn : (claims others : Claims) → length claims ≡ length others → withdrawn (λ t. true) claims ≡ withdrawn (λ t. true) others
all_withdrawn [] [] e = refl
all_withdrawn [] (o ∷ others) e = cc
all_withdrawn (o ∷ claims) [] e = cc
all_withdrawn (o ∷ claims) (p ∷ others) e = ap₂ ◌∷◌ (none_left o ∙ sym (none_left p)) (all_withdrawn claims others (cc))

-- ---- one turn

pub counting_some : (left : ℕ) → 0 < left → counting left ≡ Counting left
counting_some left some = cond-false (left == 0) (Paused ByCount) (Counting left) (ne_eqb left 0 (not_none left some))

never_full : (s : Session) → length s.journal < s.limit → is_full s ≡ false
never_full s room = at (nat_le s.limit (length s.journal)) refl
  where
    at : (b : Bool) → nat_le s.limit (length s.journal) ≡ b → b ≡ false
    at false e = refl
    at true e = absurd (full_is_not_room s.limit (length s.journal) e room)

may_step : (o : Option Refusal) → o ≡ None → is_none o ≡ true
may_step None e = refl
may_step (Some r) e = cc

not_alone : (n : ℕ) → n ≡ 1 → 1 < n → ⊥
not_alone n one several = omega (arith, one, several)

-- what is known of a turn that was executed
pub record CanTurn (workers : ℕ) (s : Session) (seat : ℕ) (v : Event) : Type 0 where
  pub unstopped : stop_of s ≡ None
  pub turn : IsTurn workers s seat v.task
  pub coming : coming s v.task ≡ v

pub can_turn : (workers : ℕ) (s : Session) (seat : ℕ) (v : Event) (left : ℕ) → 1 < workers → WellFormed s.program → Sound s.program (Stepped seat v ∷ s.journal)
    → length s.journal < s.limit → s.control.mode ≡ counting left → 0 < left → 1 ≤ seat → seat ≤ workers → CanTurn workers s seat v
can_turn workers s seat v left several well_formed sound room mode some first last =
    let P = s.program in
    let H = history s in
    let unrefused : refusal_for s v.task ≡ None = next_isnt_refused P H v well_formed (journal_legal P s.journal sound.0) sound.1 in
    let full = never_full s room in
    let goes : s.control.mode ≡ Counting left = mode ∙ counting_some left some in
    let least = (least_found H (can_step P H) (λ u h. can_spawned P H u h)).least v.task (may_step (refusal_for s v.task) unrefused) in
    record {
      unstopped = ap₂ option_or (ap why_paused goes) (ap₂ why_idle least.1 full);
      turn = record {
        first = first;
        last = last;
        going = ap is_paused goes;
        may = record { unrefused = unrefused; room = full };
        alone = λ one. absurd (not_alone workers one several);
      };
      coming = sym (next_computed P H v sound.1);
    }

-- one turn more
pub turns_more : (workers : ℕ) (turns : List (ℕ × Name)) (first s : Session) (seat : ℕ) (t : Name) → AreTurns workers turns first s → stop_of s ≡ None → IsTurn workers s seat t
    → AreTurns workers (turns ++ (seat, t) ∷ []) first (turned seat s t)
turns_more workers [] first s seat t are unstopped turn =
    subst (λ z. AreTurns workers ((seat, t) ∷ []) z (turned seat s t)) are (unstopped, turn, refl)
turns_more workers (x ∷ turns) first s seat t are unstopped turn = (are.0, are.1, turns_more workers turns (turned x.0 first x.1) s seat t are.2 unstopped turn)

-- ---- turn by turn

-- turns, as many as are counted, lead from the first session to this one, with this journal and no claims
pub record Reached (workers : ℕ) (first : Session) (J : List Entry) (count : ℕ) : Type 0 where
  pub at : Session
  pub turns : List (ℕ × Name)
  pub are : AreTurns workers turns first at
  pub counted : length turns ≡ count
  pub program : at.program ≡ first.program
  pub limit : at.limit ≡ first.limit
  pub journal : at.journal ≡ J
  pub breakpoints : at.control.breakpoints ≡ first.control.breakpoints
  pub claims : at.control.claims ≡ first.control.claims

both : (a b : Bool) → (a && b) ≡ true → (a ≡ true) × (b ≡ true)
both true b e = (refl, e)
both false b e = cc

module _ (workers most : ℕ) (several : 1 < workers) (s : Session) (well_formed : WellFormed s.program) where
  abbrev pub begun : Session
  begun = started most s

  abbrev pub IsTaken : List Entry → Type 0
  IsTaken J = Sound s.program J × (length J ≤ s.limit)

  -- the mode once as many steps were executed
  abbrev pub Goes : (J : List Entry) (count : ℕ) → Reached workers begun J count → Type 0
  Goes J count r = r.at.control.mode ≡ counting (most - count)

  -- after one turn more
  abbrev pub Turned : (seat : ℕ) (v : Event) (J : List Entry) (count : ℕ) → Type 0
  Turned seat v J count =
      (r : Reached workers begun (Stepped seat v ∷ J) (count + 1))
      × (r.at.control.mode ≡ modes.behind (met (situation s.program v.task (hist J)).line v s.control.breakpoints.standing) (counting (most - count)))

  pub turn_more : (seat : ℕ) (v : Event) (J : List Entry) (count : ℕ) (r : Reached workers begun J count) → Goes J count r → IsTaken (Stepped seat v ∷ J) → count < most → is_turn workers (Stepped seat v) ≡ true → Turned seat v J count
  turn_more seat v J count r goes taken more turn =
      let at = r.at in
      let seats = both _ _ turn in
      let first : 1 ≤ seat = at_most 1 seat seats.0 in
      let last : seat ≤ workers = at_most seat workers seats.1 in
      let sound : Sound at.program (Stepped seat v ∷ at.journal) = subst (λ P. Sound P (Stepped seat v ∷ at.journal)) (sym r.program) (subst (λ (K : List Entry). Sound s.program (Stepped seat v ∷ K)) (sym r.journal) taken.0) in
      let room : length at.journal < at.limit = room_left (length at.journal) (length J) at.limit s.limit (ap length r.journal) r.limit taken.1 in
      let can = can_turn workers at seat v (most - count) several (subst WellFormed (sym r.program) well_formed) sound room goes (some_left count most more) first last in
      let event : coming at v.task ≡ v = can.coming in
      let line : (situation at.program v.task (history at)).line ≡ (situation s.program v.task (hist J)).line = ap₂ (λ (P : Program) (K : List Entry). (situation P v.task (hist K)).line) r.program r.journal in
      let points : at.control.breakpoints.standing ≡ s.control.breakpoints.standing = ap (λ b. b.standing) r.breakpoints in
      let met_there : met (situation at.program v.task (history at)).line (coming at v.task) at.control.breakpoints.standing ≡ met (situation s.program v.task (hist J)).line v s.control.breakpoints.standing =
      ap₂ (λ n w. met n w at.control.breakpoints.standing) line event ∙ ap (met (situation s.program v.task (hist J)).line v) points in (
        record {
          at = turned seat at v.task;
          turns = r.turns ++ (seat, v.task) ∷ [];
          are = turns_more workers r.turns begun at seat v.task r.are can.unstopped can.turn;
          counted = length_push r.turns (seat, v.task) ∙ ap (λ n. n + 1) r.counted;
          program = r.program;
          limit = r.limit;
          journal = ap₂ (λ w (K : List Entry). Stepped seat w ∷ K) event r.journal;
          breakpoints = r.breakpoints;
          claims = ap (λ cs. withdrawn (same_name v.task) (with_claim cs seat (Some v.task))) r.claims ∙ claims_back s.control.claims seat v.task;
        },
        ap₂ modes.behind met_there goes,
      )

  none_counts : (o : Option ℕ) (n : ℕ) → is_some o ≡ false → modes.behind o (counting n) ≡ counting (n - 1)
  none_counts (Some k) n e = cc
  none_counts None zero e = refl
  none_counts None (suc n) e = ap counted (counting_some (suc n) (above_none n))

  -- steps of workers that met no breakpoint
  pub reach : (es J0 : List Entry) → s.journal ≡ J0 → list_all (is_turn workers) es ≡ true → IsTaken (es ++ J0) → length es ≤ most
      → none_met s.program s.control.breakpoints.standing (length es) (hist (es ++ J0)) ≡ true
      → (r : Reached workers begun (es ++ J0) (length es)) × Goes (es ++ J0) (length es) r
  reach [] J0 old turns taken few unmet =
      (record { at = begun; turns = []; are = refl; counted = refl; program = refl; limit = refl; journal = old; breakpoints = refl; claims = refl }, ap counting (all_of_it most))
  reach (Opened ∷ es) J0 old turns taken few unmet = absurd (false≢true turns)
  reach (Rolled seat i ∷ es) J0 old turns taken few unmet = absurd (false≢true turns)
  reach (Stepped seat v ∷ es) J0 old turns taken few unmet =
      let parts = both (is_turn workers (Stepped seat v)) (list_all (is_turn workers) es) turns in
      let none = both _ _ unmet in
      let before = reach es J0 old parts.1 (taken.0.0, less (length (es ++ J0)) s.limit taken.1) (less (length es) most few) none.1 in
      let turn = turn_more seat v (es ++ J0) (length es) before.0 before.1 taken few parts.0 in
      let unmet_here : is_some (met (situation s.program v.task (hist (es ++ J0))).line v s.control.breakpoints.standing) ≡ false = isnt _ none.0 in
      let n : length es + 1 ≡ length (Stepped seat v ∷ es) = plus_one (length es) in
      subst (λ k. (r : Reached workers begun (Stepped seat v ∷ (es ++ J0)) k) × Goes (Stepped seat v ∷ (es ++ J0)) k r) n
      (turn.0, turn.1 ∙ none_counts _ (most - length es) unmet_here ∙ ap counting (one_fewer (length es) most ∙ ap (λ k. most - k) (sym n)))
    where
      isnt : (b : Bool) → not b ≡ true → b ≡ false
      isnt false e = refl
      isnt true e = cc
