-- What was looked at is a course of turns, and stops where it has to.
use Rattle.std.proofs.Common.{◌≡◌, ◌<◌, ◌≤◌, ◌-◌, ◌+◌, ℕ, suc, List, [], ◌∷◌, ◌++◌, length, drop, reverse, Bool, true, false, ◌&&◌, nat_eq, nat_lt, Option, Some, None, refl, sym, ap, ap₂, ◌∙◌, subst, length-append}
use Rattle.std.specs.Prelude.{is_some}
use Rattle.std.specs.List.{list_all}
use Rattle.std.specs.Option.{option_or}
use Rattle.std.proofs.lemmas.Bool.{false≢true, lt-ltb}
use Rattle.tb_model.specs.declared.entry.Entry.{Entry}
use Rattle.tb_model.specs.declared.entry.Entry.TheVariants.{Opened, Stepped, Rolled}
use Rattle.tb_model.specs.Journal.{hist, Sound}
use Rattle.tb_model.specs.Program.{Program, situation}
use Rattle.tb_model.specs.WellFormed.{WellFormed}
use Rattle.tb_control.specs.declared.mode.Mode.{Mode}
use Rattle.tb_control.specs.declared.mode.Mode.TheVariants.{Resumed, Paused}
use Rattle.tb_control.specs.declared.paused_by.PausedBy.TheVariants.{Break as ByBreak}
use Rattle.tb_live.specs.Breaks.{Points, met}
use Rattle.tb_live.specs.Claims.{Claims, withdrawn}
use Rattle.tb_live.specs.Modes.{counting, counted}
use Rattle.tb_live.specs.Modes as modes
use Rattle.tb_live.specs.Moves.{least_task}
use Rattle.tb_live.specs.Runs.{unclaimed}
use Rattle.tb_live.specs.Session.{Session, history, is_full}
use Rattle.tb_team.specs.declared.gone.Gone.{Gone}
use Rattle.tb_team.specs.declared.stop.Stop.{Stop}
use Rattle.tb_team.specs.Gone.{IsGone}
use Rattle.tb_team.specs.Lending.{IsBack}
use Rattle.tb_journal.specs.Journals.{is_turn}
use Rattle.tb_team.specs.Looking.{meets_newest, none_met, reason, IsLooked}
use Rattle.tb_team.specs.Turns.{started, stop_of, why_idle, why_paused}
use Rattle.tb_team.proofs.Counting.{above_none, equal_by, not_equal, all_taken, less, plus_one, minus_one, one_more_left, new_count, new_left, within_both, few_of}
use Rattle.tb_team.proofs.Records.{all_reversed}
use Rattle.tb_team.proofs.Reached.{Reached, counting_some, reach, turn_more, all_withdrawn}
use Rattle.tb_team.proofs.Returned.{ends_with}

-- ---- why it stops

-- paused by a breakpoint that the newest step met, or so many steps are left
abbrev pub IsMode : Bool → ℕ → Mode → Type 0
IsMode true left m = (number : ℕ) × (m ≡ Paused (ByBreak number))
IsMode false left m = m ≡ counting left

-- the steps are all taken exactly where none is left
pub record IsAll (all : Bool) (left : ℕ) : Type 0 where
  pub yes_all : all ≡ true → left ≡ 0
  pub not_all : all ≡ false → 0 < left

pub all_if : (count most : ℕ) → count ≤ most → IsAll (nat_eq count most) (most - count)
all_if count most within = record {
  yes_all = λ e. all_taken count most (equal_by count most e);
  not_all = λ e. not_equal count most e within;
}

same_idle : (s t : Session) → s.program ≡ t.program → s.limit ≡ t.limit → s.journal ≡ t.journal → why_idle (least_task s) (is_full s) ≡ why_idle (least_task t) (is_full t)
same_idle s t program limit journal =
    ap₂ (λ (P : Program) (J : List Entry). why_idle (least_task (record { program = P; limit = s.limit; journal = J; control = s.control })) (is_full (record { program = P; limit = s.limit; journal = J; control = s.control }))) program journal
    ∙ ap (λ l. why_idle (least_task t) (is_full (record { program = t.program; limit = l; journal = t.journal; control = t.control }))) limit

pub stop_by : (s t : Session) (met all : Bool) (left : ℕ) (why : Stop) → s.program ≡ t.program → s.limit ≡ t.limit → s.journal ≡ t.journal
    → IsMode met left s.control.mode → IsAll all left → reason met all t ≡ Some why → stop_of s ≡ Some why
stop_by s t true all left why program limit journal mode is h =
    ap (λ m. option_or (why_paused m) (why_idle (least_task s) (is_full s))) mode.1 ∙ h
stop_by s t false true left why program limit journal mode is h =
    ap (λ m. option_or (why_paused m) (why_idle (least_task s) (is_full s))) (mode ∙ ap counting (is.yes_all refl)) ∙ h
stop_by s t false false left why program limit journal mode is h =
    ap (λ m. option_or (why_paused m) (why_idle (least_task s) (is_full s))) (mode ∙ counting_some left (is.not_all refl)) ∙ (same_idle s t program limit journal ∙ h)

-- ---- the whole course

both : (a b : Bool) → (a && b) ≡ true → (a ≡ true) × (b ≡ true)
both true b e = (refl, e)
both false b e = cc

mode_of : (o : Option ℕ) (n : ℕ) → IsMode (is_some o) n (modes.behind o (counting (suc n)))
mode_of (Some number) n = (number, refl)
mode_of None n = ap counted (counting_some (suc n) (above_none n)) ∙ ap counting (minus_one n)

-- some steps are new, so the newest one counts
newest_counts : (n : ℕ) (b : Bool) → 0 < n → (nat_lt 0 n && b) ≡ b
newest_counts n b some = ap (λ c. c && b) (lt-ltb 0 n some)

module _ (workers most : ℕ) (several : 1 < workers) (s : Session) (well_formed : WellFormed s.program) where
  abbrev pub Ends : List Entry → Type 0
  Ends new =
      (r : Reached workers (started most s) (new ++ s.journal) (length new))
      × IsMode (nat_lt 0 (length new) && meets_newest s.program s.control.breakpoints.standing (hist (new ++ s.journal))) (most - length new) r.at.control.mode

  pub ends : (new : List Entry) → list_all (is_turn workers) new ≡ true → Sound s.program (new ++ s.journal) → length (new ++ s.journal) ≤ s.limit → length new ≤ most
      → none_met s.program s.control.breakpoints.standing (length new - 1) (drop 1 (hist (new ++ s.journal))) ≡ true → Ends new
  ends [] turns sound within few unmet =
      let r = reach workers most several s well_formed [] s.journal refl refl (sound, within) few refl in
      (r.0, r.1)
  ends (Opened ∷ es) turns sound within few unmet = absurd (false≢true turns)
  ends (Rolled seat i ∷ es) turns sound within few unmet = absurd (false≢true turns)
  ends (Stepped seat v ∷ es) turns sound within few unmet =
      let parts = both (is_turn workers (Stepped seat v)) (list_all (is_turn workers) es) turns in
      let J = es ++ s.journal in
      let n : length (Stepped seat v ∷ es) - 1 ≡ length es = minus_one (length es) in
      let quiet = subst (λ k. none_met s.program s.control.breakpoints.standing k (hist J) ≡ true) n unmet in
      let r = reach workers most several s well_formed es s.journal refl parts.1 (sound.0, less (length J) s.limit within) (less (length es) most few) quiet in
      let turn = turn_more workers most several s well_formed seat v J (length es) r.0 r.1 (sound, within) few parts.0 in
      let o = met (situation s.program v.task (hist J)).line v s.control.breakpoints.standing in
      let left = most - length (Stepped seat v ∷ es) in
      let counted : most - length es ≡ suc left = one_more_left (length es) most few in
      let mode : IsMode (is_some o) left turn.0.at.control.mode = subst (IsMode (is_some o) left) (sym (turn.1 ∙ ap (λ k. modes.behind o (counting k)) counted)) (mode_of o left) in
      let more : length es + 1 ≡ length (Stepped seat v ∷ es) = plus_one (length es) in
      let newest : is_some o ≡ (nat_lt 0 (length (Stepped seat v ∷ es)) && is_some o) = sym (newest_counts (length (Stepped seat v ∷ es)) (is_some o) (above_none (length es))) in
      moved (Stepped seat v ∷ J) (length es + 1) (length (Stepped seat v ∷ es)) (is_some o) (nat_lt 0 (length (Stepped seat v ∷ es)) && is_some o) left more newest turn.0 mode
    where
      moved : (J : List Entry) (k n : ℕ) (met met' : Bool) (left : ℕ) → k ≡ n → met ≡ met' → (r : Reached workers (started most s) J k) → IsMode met left r.at.control.mode
          → (r : Reached workers (started most s) J n) × IsMode met' left r.at.control.mode
      moved J k n met met' left e f r mode =
          subst (λ m. (r : Reached workers (started most s) J n) × IsMode m left r.at.control.mode) f (subst (λ i. (r : Reached workers (started most s) J i) × IsMode met left r.at.control.mode) e (r, mode))

-- ---- as it comes back

abbrev made : Program → ℕ → List Entry → Claims → Points → Session
made P l J claims points = record { program = P; limit = l; journal = J; control = record { claims = claims; breakpoints = points; mode = Resumed } }

same_made : (P Q : Program) (l m : ℕ) (J K : List Entry) (c d : Claims) (p q : Points) → P ≡ Q → l ≡ m → J ≡ K → c ≡ d → p ≡ q → made P l J c p ≡ made Q m K d q
same_made P Q l m J K c d p q a b e f g =
    ap₂ (λ (x : Program) y. made x y J c p) a b ∙ (ap₂ (λ (x : List Entry) (y : Claims). made Q m x y p) e f ∙ ap (λ (x : Points). made Q m K d x) g)

pub gone_of : (workers most from : ℕ) (old back : Session) (gone : Gone) → 1 < workers → from ≡ length old.journal → IsBack (unclaimed old) back → IsLooked workers most from back gone → IsGone workers most old gone
gone_of workers most from old back gone several at is_back looked =
    let J0 = old.journal in
    let J1 = back.journal in
    let begins = is_back.begins in
    let new = reverse (drop (length J0) (reverse J1)) in
    let split : J1 ≡ new ++ J0 = ends_with J1 J0 (length J0) begins in
    let count : length new ≡ gone.count = new_count (length J1) (length new) (length J0) gone.count from (ap length split ∙ length-append new J0) looked.counted at in
    let points : back.control.breakpoints ≡ old.control.breakpoints = is_back.breakpoints in
    let turns = all_reversed (is_turn workers) (drop (length J0) (reverse J1)) (subst (λ n. list_all (is_turn workers) (drop n (reverse J1)) ≡ true) at looked.course.turns) in
    let sound : Sound old.program (new ++ J0) = subst (λ (J : List Entry). Sound old.program J) split (subst (λ P. Sound P J1) is_back.program looked.sound) in
    let within : length (new ++ J0) ≤ old.limit = within_both (length J1) back.limit old.limit (length (new ++ J0)) (ap length split) is_back.limit looked.within in
    let few : length new ≤ most = few_of (length new) gone.count most count looked.few in
    let left : length J1 - from - 1 ≡ length new - 1 = new_left (length J1) (length new) (length J0) from (ap length split ∙ length-append new J0) at in
    let quiet = looked.course.unmet in
    let unmet : none_met old.program old.control.breakpoints.standing (length new - 1) (drop 1 (hist (new ++ J0))) ≡ true =
    sym (ap₂ (λ (P : Program) (b : Points). none_met P b.standing (length J1 - from - 1) (drop 1 (hist J1))) is_back.program points
    ∙ ap₂ (λ k (J : List Entry). none_met old.program old.control.breakpoints.standing k (drop 1 (hist J))) left split) ∙ quiet in
    let end = ends workers most several old (subst WellFormed is_back.program looked.well_formed) new turns sound within few unmet in
    let r = end.0 in
    let newest : (nat_lt 0 gone.count && meets_newest back.program back.control.breakpoints.standing (history back)) ≡ (nat_lt 0 (length new) && meets_newest old.program old.control.breakpoints.standing (hist (new ++ J0))) =
    ap₂ (λ (P : Program) (b : Points). nat_lt 0 gone.count && meets_newest P b.standing (hist J1)) is_back.program points
    ∙ ap₂ (λ k (J : List Entry). nat_lt 0 k && meets_newest old.program old.control.breakpoints.standing (hist J)) (sym count) split in
    let program : r.at.program ≡ back.program = r.program ∙ sym is_back.program in
    let limit : r.at.limit ≡ back.limit = r.limit ∙ sym is_back.limit in
    let journal : r.at.journal ≡ back.journal = r.journal ∙ sym split in
    let all = subst (λ n. IsAll (nat_eq gone.count most) (most - n)) (sym count) (all_if gone.count most looked.few) in
    let stops = subst (λ b. reason b (nat_eq gone.count most) back ≡ Some gone.stop) newest looked.stops in
    let claims : withdrawn (λ t. true) looked.claims ≡ withdrawn (λ t. true) r.at.control.claims =
    all_withdrawn looked.claims r.at.control.claims (looked.seats ∙ (is_back.seats ∙ sym (ap length r.claims))) in
    record {
      turns = r.turns;
      at = r.at;
      are = r.are;
      stops = stop_by r.at back _ _ (most - length new) gone.stop program limit journal end.1 all stops;
      counted = r.counted ∙ count;
      now = looked.now ∙ same_made _ _ _ _ _ _ _ _ _ _ (sym program) (sym limit) (sym journal) claims (points ∙ sym r.breakpoints);
    }
