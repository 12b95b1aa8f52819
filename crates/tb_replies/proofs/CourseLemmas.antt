-- One course of steps, taken from its front.
use Rattle.std.proofs.Common.{◌≡◌, ◌<◌, ◌-◌, ◌+◌, ℕ, suc, List, [], ◌++◌, true, refl, sym, ap, ap₂, ◌∙◌, append_assoc, append-nil, arith, Some, Ok, Err, subst}
use Rattle.tb_model.specs.declared.step_id.StepId.{StepId}
use Rattle.tb_model.specs.Names.{Name}
use Rattle.tb_core.specs.declared.step_refusal.StepRefusal.TheVariants.{Full as NoPlace}
use Rattle.tb_live.specs.Runs.{resumed}
use Rattle.tb_live.specs.Session.{Session, is_full}
use Rattle.tb_live.specs.Moves.{StepsFor, LeastStepsFor, least_task}
use Rattle.tb_team.specs.declared.stop.Stop.{Stop}
use Rattle.tb_team.specs.declared.stop.Stop.TheVariants.{Full}
use Rattle.tb_replies.specs.Texts.{newest_line, told_step}
use Rattle.tb_replies.specs.Course.{Course, stopped, behind, course}

-- the line of a step that was executed is that of the task's next step
pub step_told : (seat : ℕ) (s new : Session) (t : Name) (i : StepId) → StepsFor seat s t new i → newest_line new i ≡ told_step s t
step_told seat s new t i h = ap₂ newest_line h.now h.id

-- a course after two others
pub behind_both : (text more : List ℕ) (n m : ℕ) (c : Course) → behind text n (behind more m c) ≡ behind (text ++ more) (n + m) c
behind_both text more n m c =
    let lines : text ++ (more ++ c.lines) ≡ (text ++ more) ++ c.lines = sym (append_assoc text more c.lines) in
    let count : n + (m + c.count) ≡ (n + m) + c.count = omega arith in
    rw (lines, count) refl

-- a course after none
pub behind_nothing : (c : Course) → behind [] 0 c ≡ c
behind_nothing c = ap (λ n. record { lines = c.lines; count = n; stop = c.stop; session = c.session }) (omega arith)

-- after some steps, no more are executed
pub behind_stopped : (text : List ℕ) (n : ℕ) (why : Stop) (s : Session) → behind text n (stopped why s) ≡ record { lines = text; count = n; stop = why; session = s }
behind_stopped text n why s =
    let count : n + 0 ≡ n = omega arith in
    rw (append-nil text, count) refl

-- a course of some steps begins with that of the least task
course_steps : (most left : ℕ) (s new : Session) (t : Name) (i : StepId) → most ≡ suc left → least_task s ≡ Some t → StepsFor 0 (resumed s) t new i
    → course most s ≡ behind (newest_line new i) 1 (course left new)
course_steps most left s new t i e least h =
    rw (e, least, h.may.room, step_told 0 (resumed s) new t i h, h.now) refl

-- in a full journal it is over
course_full : (most left : ℕ) (s : Session) (t : Name) → most ≡ suc left → least_task s ≡ Some t → is_full (resumed s) ≡ true → course most s ≡ stopped Full (resumed s)
course_full most left s t e least full = rw (e, least, full) refl

-- ---- a course that goes on

-- the rest of the course is after the steps so far
abbrev pub Going : Course → List ℕ → ℕ → ℕ → Session → Type 0
Going all text count left s = all ≡ behind text count (course left s)

-- a step was executed, of the least task, and this is its identity
abbrev pub IsTaken : Session → Session → StepId → Type 0
IsTaken s new i = (t : Name) × (least_task s ≡ Some t) × StepsFor 0 (resumed s) t new i

pub taken_after : (s r new : Session) (i : StepId) → r ≡ resumed s → LeastStepsFor 0 r new (Ok (Some i)) → IsTaken s new i
taken_after s r new i e h = subst (λ z. LeastStepsFor 0 z new (Ok (Some i))) e h

pub course_goes_on : (all : Course) (most count : ℕ) (s new : Session) (text more : List ℕ) (i : StepId)
    → count < most → Going all text count (most - count) s → IsTaken s new i → more ≡ text ++ newest_line new i
    → Going all more (count + 1) (most - (count + 1)) new
course_goes_on all most count s new text more i within going h e =
    let left : most - count ≡ suc (most - (count + 1)) = omega (arith, within) in
    let rest : Course = course (most - (count + 1)) new in
    going ∙ (ap (behind text count) (course_steps (most - count) (most - (count + 1)) s new h.0 i left h.1 h.2)
    ∙ (behind_both text (newest_line new i) count 1 rest ∙ ap (λ l. behind l (count + 1) rest) (sym e)))

pub course_ends_full : (all : Course) (most count : ℕ) (s r new : Session) (text : List ℕ) → count < most → r ≡ resumed s → LeastStepsFor 0 r new (Err NoPlace) → Going all text count (most - count) s
    → all ≡ record { lines = text; count = count; stop = Full; session = new }
course_ends_full all most count s r new text within e h going =
    let left : most - count ≡ suc (most - (count + 1)) = omega (arith, within) in
    let over = subst (λ z. LeastStepsFor 0 z new (Err NoPlace)) e h in
    going ∙ (ap (behind text count) (course_full (most - count) (most - (count + 1)) s over.1.0 left over.1.1 over.2)
    ∙ (behind_stopped text count Full (resumed s) ∙ ap (λ z. record { lines = text; count = count; stop = Full; session = z }) (sym over.0)))
