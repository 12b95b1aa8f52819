-- What a Live leaves after a rollback.
use Rattle.std.proofs.Common.{◌≡◌, ℕ, List, [], ◌∷◌, true, false, nat_le, length, reverse, sym, ap, ap₂, ◌∙◌, subst}
use Rattle.std.proofs.lemmas.List.{reverse-append, length-reverse}
use Rattle.tb_model.specs.declared.entry.Entry.{Entry}
use Rattle.tb_model.specs.declared.entry.Entry.TheVariants.{Rolled}
use Rattle.tb_model.specs.declared.step_id.StepId.{StepId}
use Rattle.tb_model.specs.Equivalent.{stands}
use Rattle.tb_model.specs.Needs.{without}
use Rattle.tb_model.specs.Journal.{hist}
use Rattle.tb_model.specs.Program.{Program}
use Rattle.tb_core.specs.declared.removed.Removed.{Removed}
use Rattle.tb_core.specs.Rolled.{removals}
use Rattle.tb_core.specs.Seen.{Seen}
use Rattle.tb_control.specs.declared.control.Control.{Control}
use Rattle.tb_control.specs.Claims.{Claims, hits, is_hit, AreLawful}
use Rattle.tb_control.specs.Controls.{behind_removal}
use Rattle.tb_live.specs.Session.{Session, is_full}
use Rattle.tb_live.specs.Moves.{RollsFor, KeepsAll}
use Rattle.tb_live.specs.Rollbacks.{EntersRollback, RefusesRollback}
use Rattle.tb_live.specs.Soundness.{IsSound, IsLawful}
use Rattle.tb_roll.specs.declared.roll_refusal.RollRefusal.{RollRefusal}
use Rattle.tb_roll.specs.declared.roll_refusal.RollRefusal.TheVariants.{NoSuchStep, Full, Memory}
use Rattle.tb_control.proofs.ControlLemmas.{withdrawn_alike, any_reverse, lawful_rolled}
use Rattle.tb_live.proofs.RunLemmas.{shown, rolled}
use Rattle.tb_live.proofs.StepLemmas.{Keeps}

pub record LiveRolls (seat : ℕ) (P : Program) (limit : ℕ) (s : Session) (i : StepId) (pushed : List Entry) (after : Control) (new : Seen) (removed : List Removed) : Type 0 where
  pub keeps : Keeps P limit pushed after new
  pub rolls : RollsFor seat s i (shown P limit pushed after) removed

pub live_rolls : (seat : ℕ) (P : Program) (limit : ℕ) (entries pushed : List Entry) (before after : Control) (run new : Seen) (s : Session) (i : StepId) (removed seen : List Removed)
    → shown P limit entries before ≡ s → IsSound P limit (reverse entries) run × IsLawful (reverse entries) before
    → EntersRollback limit seat run i new entries pushed removed → seen ≡ removed → after ≡ behind_removal seen before → LiveRolls seat P limit s i pushed after new removed
live_rolls seat P limit entries pushed before after run new s i removed seen shows both e same withdraws =
    let sound = both.0 in
    let J = reverse entries in
    let room : nat_le limit (length J) ≡ false = ap (nat_le limit) (length-reverse entries) ∙ e.room in
    let all : reverse pushed ≡ Rolled seat i ∷ J = ap reverse e.grows ∙ reverse-append entries (Rolled seat i ∷ []) in
    let gone : removed ≡ reverse (removals i (hist J)) = e.rolls.gone ∙ ap (λ H. reverse (removals i H)) sound.leaves in
    let hits : after ≡ behind_removal (removals i (hist J)) before =
    withdraws ∙ ap (λ rs. behind_removal rs before) (same ∙ gone)
    ∙ ap (λ (cs : Claims). record { claims = cs; breakpoints = before.breakpoints; mode = before.mode })
    (withdrawn_alike (is_hit (reverse (removals i (hist J)))) (is_hit (removals i (hist J))) (λ t. any_reverse (hits t) (removals i (hist J))) before.claims)
    in
    record {
      keeps = record {
        sound = subst (λ (K : List Entry). IsSound P limit K new) (sym all) (rolled seat P limit J run new i removed sound room e.stood e.rolls);
        lawful = subst (λ (K : List Entry). IsLawful K after) (sym all) (subst (λ (c : Control). AreLawful (without i (hist J)) c.claims) (sym hits) (lawful_rolled i (hist J) before.claims both.1));
      };
      rolls = subst (λ (z : Session). RollsFor seat z i (shown P limit pushed after) removed) shows (record {
        stands = ap (stands i) (sym sound.leaves) ∙ e.stood;
        room = room;
        now = ap₂ (λ (K : List Entry) (c : Control). record { program = P; limit = limit; journal = K; control = c }) all hits;
        gone = gone;
      });
    }

-- a refusal, said of the session
pub live_keeps_all : (P : Program) (limit : ℕ) (entries : List Entry) (before : Control) (run : Seen) (s : Session) (i : StepId) (e : RollRefusal)
    → shown P limit entries before ≡ s → IsSound P limit (reverse entries) run → RefusesRollback limit run i entries e → KeepsAll s i e
live_keeps_all P limit entries before run s i NoSuchStep shows sound r = subst (λ (z : Session). stands i (hist z.journal) ≡ false) shows (ap (stands i) (sym sound.leaves) ∙ r)
live_keeps_all P limit entries before run s i Full shows sound r = (
  subst (λ (z : Session). stands i (hist z.journal) ≡ true) shows (ap (stands i) (sym sound.leaves) ∙ r.0),
  ap is_full (sym shows) ∙ ap (nat_le limit) (length-reverse entries) ∙ r.1,
)
live_keeps_all P limit entries before run s i Memory shows sound r = (
  subst (λ (z : Session). stands i (hist z.journal) ≡ true) shows (ap (stands i) (sym sound.leaves) ∙ r.0),
  ap is_full (sym shows) ∙ ap (nat_le limit) (length-reverse entries) ∙ r.1,
)
