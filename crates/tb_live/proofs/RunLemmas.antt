-- A Live's journal and run after a move.
use Rattle.std.proofs.Common.{◌≡◌, ◌<◌, ◌≤◌, ◌+◌, ℕ, zero, suc, List, [], ◌∷◌, ◌++◌, Bool, true, false, nat_le, not, length, reverse, refl, sym, ap, ap₂, ◌∙◌, subst, ℤ, arith, get_or, None}
use Rattle.std.proofs.lemmas.List.{reverse-append, ext_get_or, length-map}
use Rattle.std.proofs.lemmas.Bool.Decides.{nat_tests}
use Rattle.tb_model.specs.declared.entry.Entry.{Entry}
use Rattle.tb_model.specs.declared.entry.Entry.TheVariants.{Opened, Stepped, Rolled}
use Rattle.tb_model.specs.declared.event.Event.{Event}
use Rattle.tb_model.specs.declared.step_id.StepId.{StepId}
use Rattle.tb_model.specs.declared.action.Action.{Action}
use Rattle.tb_model.specs.Names.{Name}
use Rattle.tb_model.specs.Facts.{History, last, prepend_if, own, is_of}
use Rattle.tb_model.specs.Legal.{Cells, first_number}
use Rattle.tb_model.specs.Reordering.{IsUnneeded}
use Rattle.tb_model.specs.State.{called_by}
use Rattle.tb_model.specs.Needs.{is_removed, without, step_of}
use Rattle.tb_model.specs.Equivalent.{Equivalent, stands}
use Rattle.tb_model.specs.Needers.{first_needer}
use Rattle.tb_model.specs.Journal.{hist, Sound}
use Rattle.tb_model.specs.Lines.{Departure, LinesFit, without_lines}
use Rattle.tb_model.specs.Program.{Program, config, IsNext, LegalFor, situation}
use Rattle.tb_model.proofs.LinesLemmas.{lines_left}
use Rattle.tb_model.proofs.NextLemmas.{removal_for}
use Rattle.tb_model.proofs.TestLemmas.{same_refl}
use Rattle.tb_model.proofs.FactsLemmas.{own_mine}
use Rattle.tb_laws.proofs.NeedersLemmas.{standing, unneeded}
use Rattle.tb_model.proofs.ReorderingLemmas as reordering
use Rattle.tb_plan.specs.declared.planned.Plan.{Plan}
use Rattle.tb_core.specs.declared.removed.Removed.{Removed}
use Rattle.tb_core.specs.Seen.{Seen}
use Rattle.tb_core.specs.Seen as core
use Rattle.tb_core.specs.Outcomes.{event_of, TakesBack}
use Rattle.tb_core.specs.Outcomes as outcomes
use Rattle.tb_core.specs.Rolled.{RollsBack, removals}
use Rattle.tb_undo.specs.State.{AreLast}
use Rattle.tb_model.specs.Alike.{Alike}
use Rattle.tb_control.specs.declared.control.Control.{Control}
use Rattle.tb_control.specs.Claims.{Claims, is_hit, AreLawful}
use Rattle.tb_control.specs.Controls.{behind_removal}
use Rattle.tb_live.specs.Session.{Session, history, is_full, with_entry, numbers_from, cell_numbers}
use Rattle.tb_live.specs.Moves.{UndoesFor}
use Rattle.tb_live.specs.Rollbacks.{EntersUndo}
use Rattle.tb_live.specs.Soundness.{IsSound, IsLawful}
use Rattle.tb_control.proofs.ControlLemmas.{withdrawn_alike, undo_hits, lawful_rolled}
use Rattle.tb_next.proofs.NativeLemmas.{next_so, line_fits}
use Rattle.tb_next.proofs.PlanLemmas.{IsPlan}

-- ---- a journal has more entries than its history has events

left_shorter : (e : StepId) (H : History) → length (without e H) ≤ length H
left_shorter e [] = omega arith
left_shorter e (v ∷ H) = at (not (is_removed e H v)) (left_shorter e H)
  where
    at : (b : Bool) → length (without e H) ≤ length H → length (prepend_if b v (without e H)) ≤ suc (length H)
    at true h = omega arith
    at false h = omega arith

pub shorter : (P : Program) (J : List Entry) → Sound P J → length (hist J) < length J
shorter P [] s = absurd s
shorter P (Opened ∷ J) s = omega arith
shorter P (Stepped seat v ∷ J) s = let r = shorter P J s.0 in omega arith
shorter P (Rolled seat e ∷ J) s = let r = shorter P J s.0 in omega (arith, left_shorter e (hist J))

-- where the journal has a slot, so has the core
pub has_place : (P : Program) (limit : ℕ) (J : List Entry) (run : Seen) → IsSound P limit J run → nat_le limit (length J) ≡ false → length run.steps < run.limit
has_place P limit J run s h =
    let room : length J < limit = grind (arith, nat_tests) in
    omega (arith, shorter P J s.sound, ap length s.leaves, length-map run.steps (λ (d : Departure). d.event), s.limits, room)

-- ---- where the journal may have another number of entries

pub steps_within : (P : Program) (limit more : ℕ) (J : List Entry) (run : Seen) → IsSound P limit J run → length J ≤ more → length run.steps ≤ more
steps_within P limit more J run s within =
    omega (arith, shorter P J s.sound, ap length s.leaves, length-map run.steps (λ (d : Departure). d.event), within)

pub limited : (P : Program) (limit more : ℕ) (J : List Entry) (run new : Seen) → IsSound P limit J run → length J ≤ more → more ≤ 1000000 → new ≡ core.with_limit more run → IsSound P more J new
limited P limit more J run new s within bound is =
    let f = s.fits in
    subst (λ (z : Seen). IsSound P more J z) (sym is) (record {
      fits = record { well_formed = f.well_formed; followed = f.followed; cells = f.cells; root_line = f.root_line; lines = f.lines; legal = f.legal };
      sound = s.sound;
      leaves = s.leaves;
      limits = refl;
      within = within;
      bound = bound;
    })

-- ---- after a step

pub record Stepped' (seat : ℕ) (P : Program) (limit : ℕ) (J : List Entry) (run : Seen) (p : Plan) (new : Seen) (i : StepId) : Type 0 where
  pub sound : IsSound P limit (Stepped seat (event_of run p) ∷ J) new
  pub next : IsNext P (hist J) (event_of run p)
  pub id : i ≡ step_of (hist J) (event_of run p)

pub stepped : (seat : ℕ) (P : Program) (limit : ℕ) (J : List Entry) (run new : Seen) (p : Plan) (i : StepId) → IsSound P limit J run → nat_le limit (length J) ≡ false
    → IsPlan P run p → outcomes.Fits run p → outcomes.Steps run p new i → Stepped' seat P limit J run p new i
stepped seat P limit J run new p i s room plan fitting k =
    let f = s.fits in
    let H = core.history run in
    let v = event_of run p in
    let n : p.instr.cells ≡ length P.cells = fitting.cells ∙ ap length f.cells in
    let next = next_so P run p f plan n k.may in
    let legal : LegalFor P (v ∷ H) = ((f.legal.0, next.may), (f.legal.1, next.follows)) in
    record {
      sound = subst (λ (z : Seen). IsSound P limit (Stepped seat v ∷ J) z) (sym k.now) (record {
        fits = record {
          well_formed = f.well_formed;
          followed = f.followed;
          cells = f.cells;
          root_line = f.root_line;
          lines = (f.lines, line_fits P run p f plan legal);
          legal = legal;
        };
        sound = (s.sound, subst (λ K. IsNext P K v) s.leaves next);
        leaves = ap (λ K. v ∷ K) s.leaves;
        limits = s.limits;
        within = grind (arith, nat_tests);
        bound = s.bound;
      });
      next = subst (λ K. IsNext P K v) s.leaves next;
      id = k.id ∙ ap (λ K. step_of K v) s.leaves;
    }

-- ---- after an undo

-- steps that are gone with the entry of the one that was chosen
taken_back : (seat : ℕ) (P : Program) (limit : ℕ) (J : List Entry) (run new : Seen) (i : StepId) → IsSound P limit J run → nat_le limit (length J) ≡ false
    → stands i (core.history run) ≡ true → new.cells ≡ run.cells → new.root_line ≡ run.root_line → new.limit ≡ run.limit
    → new.steps ≡ without_lines i run.steps → core.history new ≡ without i (core.history run) → IsSound P limit (Rolled seat i ∷ J) new
taken_back seat P limit J run new i s room stood cells root_line limits steps rest =
    let f = s.fits in record {
      fits = record {
        well_formed = f.well_formed;
        followed = f.followed;
        cells = cells ∙ f.cells;
        root_line = root_line ∙ f.root_line;
        lines = subst (LinesFit P) (sym steps) (lines_left P i run.steps f.lines);
        legal = subst (LegalFor P) (sym rest) (removal_for P i (core.history run) f.legal);
      };
      sound = (s.sound, ap (stands i) (sym s.leaves) ∙ stood);
      leaves = rest ∙ ap (without i) s.leaves;
      limits = limits ∙ s.limits;
      within = grind (arith, nat_tests);
      bound = s.bound;
    }

-- a step that nothing needs is the next one of its task, once it is taken back
next_back : (P : Program) (H : History) (i : StepId) (a : Action) → LegalFor P H → stands i H ≡ true → first_needer i H ≡ None
    → Alike H (record { task = i.task; action = a } ∷ without i H) → IsNext P (without i H) (record { task = i.task; action = a })
next_back P H i a legal stood free alike =
    let s = standing i H stood in
    let v = s.event in
    let w : Event = record { task = i.task; action = a } in
    let u : IsUnneeded (step_of s.front v) (s.later ++ v ∷ s.front) = subst (IsUnneeded (step_of s.front v)) s.split (subst (λ j. IsUnneeded j H) (sym s.step) ((unneeded i H stood).1 free)) in
    let l : LegalFor P (s.later ++ v ∷ s.front) = subst (LegalFor P) s.split legal in
    let left : without i H ≡ s.later ++ s.front = ap₂ without (sym s.step) s.split ∙ reordering.undone s.later s.front v u in
    let mine : v.task ≡ i.task = ap (λ (j : StepId). j.task) s.step in
    let acts : own i.task (w ∷ without i H) ≡ own i.task (v ∷ without i H) =
    sym (alike.acts i.task) ∙ ap (own i.task) s.split ∙ (reordering.again_for s.later s.front v u P l).alike.acts i.task ∙ ap (λ K. own i.task (v ∷ K)) (sym left)
    in
    let heads : a ∷ own i.task (without i H) ≡ v.action ∷ own i.task (without i H) =
    sym (own_mine i.task w (without i H) (same_refl i.task)) ∙ acts
    ∙ own_mine i.task v (without i H) (subst (λ (t : Name). is_of i.task (record { task = t; action = v.action }) ≡ true) (sym mine) (same_refl i.task))
    in
    let same : v.action ≡ a = cc in
    subst (λ x. IsNext P (without i H) x) (ap₂ (λ (t : Name) (act : Action). record { task = t; action = act }) mine same)
    (subst (λ K. IsNext P K v) (sym left) (reordering.next_again s.later s.front v u P l))

-- alike histories leave each task in the same situation
situation_alike : (P : Program) {G H : History} → Alike G H → (t : Name) → situation P t G ≡ situation P t H
situation_alike P a t = ap₂ (λ acts k. config P k.line k.args acts) (a.acts t) (ap (called_by P.root_line) (a.spawn t))

pub undone : (seat : ℕ) (P : Program) (limit : ℕ) (J : List Entry) (run new : Seen) (i : StepId) (removed : Removed) → IsSound P limit J run → nat_le limit (length J) ≡ false
    → TakesBack run i new removed → IsSound P limit (Rolled seat i ∷ J) new
undone seat P limit J run new i removed s room b = taken_back seat P limit J run new i s room b.free.stands b.cells b.root_line b.limit b.steps b.rest

pub rolled : (seat : ℕ) (P : Program) (limit : ℕ) (J : List Entry) (run new : Seen) (i : StepId) (removed : List Removed) → IsSound P limit J run → nat_le limit (length J) ≡ false
    → stands i (core.history run) ≡ true → RollsBack run i new removed → IsSound P limit (Rolled seat i ∷ J) new
rolled seat P limit J run new i removed s room stood b = taken_back seat P limit J run new i s room stood b.cells b.root_line b.limit b.steps b.rest

-- ---- the cells

number_from : (k : ℕ) (cells : Cells) (H : History) (c : ℕ) → c < length cells → get_or (numbers_from k cells H) c (ℤ.pos 0) ≡ last (first_number cells c) (k + c) H
number_from k [] H c h = absurd (omega arith)
number_from k (x ∷ cells) H zero h = ap (λ n. last x n H) (omega arith)
number_from k (x ∷ cells) H (suc c) h = number_from (suc k) cells H c (omega arith) ∙ ap (λ n. last (first_number cells c) n H) (omega arith)

count_from : (k : ℕ) (cells : Cells) (H : History) → length (numbers_from k cells H) ≡ length cells
count_from k [] H = refl
count_from k (x ∷ cells) H = ap suc (count_from (suc k) cells H)

pub cells_shown : (first : Cells) (H : History) (numbers : List ℤ) → AreLast first H numbers → numbers ≡ numbers_from 0 first H
cells_shown first H numbers l =
    ext_get_or (ℤ.pos 0) numbers (numbers_from 0 first H) (l.count ∙ sym (count_from 0 first H))
    (λ c b.
    let within : c < length first = omega (arith, l.count, b) in
    l.number c within ∙ ap (λ n. last (first_number first c) n H) (omega arith) ∙ sym (number_from 0 first H c within))

-- ---- the answers of a Live

abbrev pub shown : Program → ℕ → List Entry → Control → Session
shown P limit entries control = record { program = P; limit = limit; journal = reverse entries; control = control }

pub record LiveUndoes (seat : ℕ) (P : Program) (limit : ℕ) (s : Session) (i : StepId) (pushed : List Entry) (after : Control) (new : Seen) (removed : Removed) : Type 0 where
  pub sound : IsSound P limit (reverse pushed) new
  pub lawful : IsLawful (reverse pushed) after
  pub undoes : UndoesFor seat s i (shown P limit pushed after) removed

pub live_undoes : (seat : ℕ) (P : Program) (limit : ℕ) (entries pushed : List Entry) (before after : Control) (run new : Seen) (s : Session) (i : StepId) (removed : Removed)
    → shown P limit entries before ≡ s → IsSound P limit (reverse entries) run × IsLawful (reverse entries) before → is_full s ≡ false
    → EntersUndo seat run i new entries pushed removed → after ≡ behind_removal (removed ∷ []) before
    → LiveUndoes seat P limit s i pushed after new removed
live_undoes seat P limit entries pushed before after run new s i removed shows both room e withdraws =
    let b = e.takes in
    let sound = both.0 in
    let J = reverse entries in
    let room' : nat_le limit (length J) ≡ false = ap is_full shows ∙ room in
    let all : reverse pushed ≡ Rolled seat i ∷ J = ap reverse e.grows ∙ reverse-append entries (Rolled seat i ∷ []) in
    let legal : LegalFor P (hist J) = subst (LegalFor P) sound.leaves sound.fits.legal in
    let stood : stands i (hist J) ≡ true = ap (stands i) (sym sound.leaves) ∙ b.free.stands in
    let free : first_needer i (hist J) ≡ None = ap (first_needer i) (sym sound.leaves) ∙ b.free.unneeded in
    let back : Event = record { task = i.task; action = removed.action } in
    let left : core.history new ≡ without i (hist J) = b.rest ∙ ap (without i) sound.leaves in
    let equivalent : Equivalent (hist J) (back ∷ without i (hist J)) = subst (λ (H : History). Equivalent H (back ∷ without i (hist J))) sound.leaves (subst (λ (H : History). Equivalent (core.history run) (back ∷ H)) left b.equivalent) in
    let alike : Alike (hist J) (back ∷ without i (hist J)) = subst (λ (H : History). Alike H (back ∷ without i (hist J))) sound.leaves (subst (λ (H : History). Alike (core.history run) (back ∷ H)) left b.alike) in
    let hits : after ≡ behind_removal (removals i (hist J)) before =
    withdraws
    ∙ ap (λ (cs : Claims). record { claims = cs; breakpoints = before.breakpoints; mode = before.mode })
    (sym (withdrawn_alike (is_hit (removals i (hist J))) (is_hit (removed ∷ [])) (undo_hits P.cells (hist J) i removed legal.0 stood free b.id alike) before.claims))
    in
    let now : shown P limit pushed after ≡ with_entry (shown P limit entries before) (Rolled seat i) =
    ap₂ (λ (K : List Entry) (c : Control). record { program = P; limit = limit; journal = K; control = c }) all hits
    in
    record {
      sound = subst (λ (K : List Entry). IsSound P limit K new) (sym all) (undone seat P limit J run new i removed sound room' b);
      lawful = subst (λ (K : List Entry). IsLawful K after) (sym all) (subst (λ (c : Control). AreLawful (without i (hist J)) c.claims) (sym hits) (lawful_rolled i (hist J) before.claims both.1));
      undoes = subst (λ (z : Session). UndoesFor seat z i (shown P limit pushed after) removed) shows (record {
        may = record {
          stands = stood;
          unneeded = free;
          room = room';
        };
        id = b.id;
        now = now;
        next = subst (λ (z : Session). IsNext P (history z) back) (sym now) (next_back P (hist J) i removed.action legal stood free alike);
        equivalent = subst (λ (z : Session). Equivalent (hist J) (back ∷ history z)) (sym now) equivalent;
        alike = subst (λ (z : Session). Alike (hist J) (back ∷ history z)) (sym now) alike;
        situations = λ t. subst (λ (z : Session). situation P t (hist J) ≡ situation P t (back ∷ history z)) (sym now) (situation_alike P alike t);
      });
    }

-- what a Live shows of its cells
pub live_cells : (P : Program) (limit : ℕ) (entries : List Entry) (control : Control) (run : Seen) (s : Session) (numbers : List ℤ) → shown P limit entries control ≡ s → IsSound P limit (reverse entries) run → AreLast run.cells (core.history run) numbers → numbers ≡ cell_numbers s
live_cells P limit entries control run s numbers shows sound l =
    cells_shown run.cells (core.history run) numbers l ∙ ap₂ (λ (cells : Cells) (H : History). numbers_from 0 cells H) sound.fits.cells sound.leaves ∙ ap cell_numbers shows
