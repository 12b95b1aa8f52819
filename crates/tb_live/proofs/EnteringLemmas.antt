-- What a task does next is taken and entered, or refused.
use Rattle.std.proofs.Common.{◌≡◌, ◌<◌, ◌≤◌, ◌+◌, ◌++◌, ℕ, List, [], ◌∷◌, Bool, true, false, length, refl, sym, ap, ap₂, ◌∙◌, subst, arith, Option, Some, None, unwrap_or}
use Rattle.std.specs.Prelude.{Ok, Err}
use Rattle.std.proofs.lemmas.Bool.Decides.{nat_tests}
use Rattle.tb_model.specs.declared.entry.Entry.{Entry}
use Rattle.tb_model.specs.declared.entry.Entry.TheVariants.{Stepped}
use Rattle.tb_model.specs.declared.event.Event.{Event}
use Rattle.tb_model.specs.Names.{Name}
use Rattle.tb_model.specs.Hindrances.{By, Hindrance, in_the_way}
use Rattle.tb_plan.specs.declared.planned.Plan.{Plan}
use Rattle.tb_core.specs.declared.step_refusal.StepRefusal.{StepRefusal}
use Rattle.tb_core.specs.declared.step_refusal.StepRefusal.TheVariants.{Memory, Full}
use Rattle.tb_core.specs.Seen.{Seen, history}
use Rattle.tb_core.specs.Refusals.{told_by}
use Rattle.tb_core.specs.Naming.{IsLong}
use Rattle.tb_core.specs.Outcomes.{IsCurrent, IsKeptBy, Takes, event_of}
use Rattle.tb_core.proofs.ShownLemmas.{takes_steps}
use Rattle.tb_next.specs.declared.coming.Coming.{Coming}
use Rattle.tb_control.specs.declared.control.Control.{Control}
use Rattle.tb_control.specs.Controls.{behind_step}
use Rattle.tb_live.specs.Entering.{Enters, IsKeptFrom, has_no_place}
use Rattle.tb_next.specs.Plans.{IsStepOf}
use Rattle.tb_next.proofs.ComingLemmas.{kept_of, way_so}

-- ---- whether the journal has a slot

pub no_place : (limit : ℕ) (entries : List Entry) → limit ≤ length entries → has_no_place limit entries ≡ true
no_place limit entries h = grind (arith, nat_tests)

pub some_place : (limit : ℕ) (entries : List Entry) → length entries < limit → has_no_place limit entries ≡ false
some_place limit entries h = grind (arith, nat_tests)

pub taken_enters : (limit seat : ℕ) (run : Seen) (t : Name) (m : Coming) (p : Plan) (new : Seen) (v : Event) (entries pushed : List Entry) (before after : Control) (n : ℕ) → IsStepOf t m p → IsCurrent run p → length run.steps < run.limit
    → Takes run t m.action m.to new v → pushed ≡ entries ++ Stepped seat v ∷ [] → has_no_place limit entries ≡ false → after ≡ behind_step m.at v before → n ≡ m.steps + 1
    → Enters limit seat run p new entries pushed before after (Ok (record { task = t; k = n }))
taken_enters limit seat run t m p new v entries pushed before after n says current room k more place counts number =
    let mine : Takes run p.config.task p.action m.to new v = subst (λ u. Takes run u p.action m.to new v) (sym says.task) (subst (λ a. Takes run t a m.to new v) (sym says.action) k) in
    let same : v ≡ event_of run p = mine.event in (
      record {
        steps = takes_steps run p m.to new v (record { task = t; k = n }) current room mine says.to (sym says.task) (number ∙ ap (λ x. x + 1) (sym says.steps));
        grows = more ∙ ap (λ (w : Event). entries ++ Stepped seat w ∷ []) same;
      },
      place,
      counts ∙ ap₂ (λ (at : ℕ) (w : Event). behind_step at w before) (sym says.at) same,
    )

-- ---- it is refused

pub full_enters : (limit seat : ℕ) (run : Seen) (t : Name) (m : Coming) (p : Plan) (entries : List Entry) (control : Control) → IsStepOf t m p → IsCurrent run p → in_the_way (history run) t m.action ≡ None → has_no_place limit entries ≡ true
    → Enters limit seat run p run entries entries control control (Err Full)
full_enters limit seat run t m p entries control says current clear full = (refl, refl, refl, (current, way_so run t m p says ∙ clear, full))

pub memory_enters : (limit seat : ℕ) (run new : Seen) (t : Name) (m : Coming) (p : Plan) (entries pushed : List Entry) (before after : Control) → IsStepOf t m p → in_the_way (history run) t m.action ≡ None → new ≡ run → pushed ≡ entries → after ≡ before → has_no_place limit entries ≡ false
    → Enters limit seat run p new entries pushed before after (Err Memory)
memory_enters limit seat run new t m p entries pushed before after says clear same kept left place = (same, kept, left, ((λ c h. place), (λ h hindered. absurd (clash h (sym clear ∙ sym (way_so run t m p says) ∙ hindered.hindrance)))))
  where
    clash : (h : Hindrance) → ◌≡◌ {A = Option Hindrance} None (Some h) → ⊥
    clash h z = cc

-- what blocks the task comes before a full journal
pub kept_from : (run : Seen) (t : Name) (m : Coming) (p : Plan) (full : Bool) (e : StepRefusal) → IsStepOf t m p → IsCurrent run p → IsKeptBy run t m.action e → IsKeptFrom run p full e
kept_from run t m p full Full says current k = absurd (none k.named)
  where
    none : told_by Full ≡ Some (By k.hindrance) → ⊥
    none z = cc
kept_from run t m p full Memory says current k = (
  λ c h. absurd (none (sym h ∙ way_so run t m p says ∙ k.found)),
  λ h hindered. subst IsLong (ap (λ o. unwrap_or o h) (sym k.found ∙ sym (way_so run t m p says) ∙ hindered.hindrance)) k.named,
)
  where
    none : ◌≡◌ {A = Option Hindrance} None (Some k.hindrance) → ⊥
    none z = cc
kept_from run t m p full e says current k = kept_of run t m p e says current k

pub kept_enters : (limit seat : ℕ) (run : Seen) (t : Name) (m : Coming) (p : Plan) (entries : List Entry) (control : Control) (e : StepRefusal) → IsStepOf t m p → IsCurrent run p → IsKeptBy run t m.action e
    → Enters limit seat run p run entries entries control control (Err e)
kept_enters limit seat run t m p entries control e says current k = (refl, refl, refl, kept_from run t m p (has_no_place limit entries) e says current k)
