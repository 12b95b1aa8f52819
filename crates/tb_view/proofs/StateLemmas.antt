-- How far a task is, known by its count of steps, whether it has ended, and the line that it
-- retains.
use Rattle.std.proofs.Common.{◌≡◌, ◌≢◌, ℕ, suc, List, [], ◌∷◌, ◌&&◌, ◌||◌, Bool, true, false, cond, length, map, refl, sym, ap, ◌∙◌, subst, arith, ℤ, Option, Some, None, codes, ◌++◌}
use Rattle.std.specs.Fmt.{decimal}
use Rattle.std.specs.List.{list_any}
use Rattle.std.proofs.lemmas.Bool.{false≢true}
use Rattle.tb_model.specs.declared.item.Item.{Item}
use Rattle.tb_model.specs.declared.action.Action.{Action}
use Rattle.tb_model.specs.declared.action.Action.TheVariants.{Start, Let, Load, Store, Print, Spawn, Wait, Open, Close, Test, End, Fault}
use Rattle.tb_model.specs.declared.statement.Statement.{Statement}
use Rattle.tb_model.specs.declared.statement.Statement.TheVariants.{Start as DoStart, Let as DoLet, Compute as DoCompute, Load as DoLoad, Store as DoStore, Print as DoPrint, Task as DoTask, Taskwait as DoTaskwait, Taskgroup as DoTaskgroup, EndTaskgroup as DoEndTaskgroup, Test as DoTest, End as DoEnd}
use Rattle.tb_model.specs.Names.{Name}
use Rattle.tb_model.specs.Facts.{History, is_of, own, is_end, ends, is_spawned}
use Rattle.tb_model.specs.Legal.{Cells, spawn_count}
use Rattle.tb_model.specs.State.{Running, Ended, Faulted, status_of, is_over, open_groups}
use Rattle.tb_model.specs.Program.{Program, Config as Place, Instr, instr_at, action_of, or_fault, items_or_fault, cell_at, items_at, value, is_deferred, situation, planned, loaded, moved, LegalFor}
use Rattle.tb_model.proofs.FactsLemmas.{own_mine, own_other, acted_spawned, not_again}
use Rattle.tb_model.proofs.LinesLemmas.{situation_other}
use Rattle.tb_model.proofs.StateLemmas.{over_ended}
use Rattle.tb_model.proofs.TestLemmas.{same_true}
use Rattle.tb_read.specs.Followed.{is_last}
use Rattle.tb_core.specs.Seen.{Seen, history}
use Rattle.tb_core.specs.Situation.{config_of}
use Rattle.tb_live.specs.Soundness.{Fits}
use Rattle.tb_next.proofs.PlanLemmas.{own_moves, stands_at, holds_registers}
use Rattle.tb_view.specs.Tasks.{status_text, state_text, numbers_text, own_text}

-- ---- the statement at which a task was ended

-- an end comes from the end of a body alone, and a fault from any other statement
module _ (cells : Cells) (t : Name) (n : ℕ) (regs : List ℤ) (x : ℤ) where
  abbrev EndsAt : Statement → Action → Type 0
  EndsAt s a = is_end a ≡ true → status_of (a ∷ []) ≡ cond (is_last s) Ended Faulted

  cell_ends : (s : Statement) (g : ℕ → Action) (o : Option ℕ) → is_last s ≡ false → ((c : ℕ) → is_end (g c) ≡ false) → EndsAt s (or_fault o g)
  cell_ends s g None l z h = ap (λ b. cond b Ended Faulted) (sym l)
  cell_ends s g (Some c) l z h = absurd (false≢true (sym (z c) ∙ h))

  items_end : (s : Statement) (g : List Item → Action) (o : Option (List Item)) → is_last s ≡ false → ((is : List Item) → is_end (g is) ≡ false) → EndsAt s (items_or_fault o g)
  items_end s g None l z h = ap (λ b. cond b Ended Faulted) (sym l)
  items_end s g (Some is) l z h = absurd (false≢true (sym (z is) ∙ h))

  ends_at : (s : Statement) → EndsAt s (action_of cells t n regs x s)
  ends_at DoStart h = absurd (false≢true h)
  ends_at (DoLet r a) h = absurd (false≢true h)
  ends_at (DoCompute r a o b) h = absurd (false≢true h)
  ends_at (DoLoad r a) h = cell_ends (DoLoad r a) (λ c. Load r c x) (cell_at cells (value regs a)) refl (λ c. refl) h
  ends_at (DoStore a b) h = cell_ends (DoStore a b) (λ c. Store c (value regs b)) (cell_at cells (value regs a)) refl (λ c. refl) h
  ends_at (DoPrint a) h = absurd (false≢true h)
  ends_at (DoTask body args depends k) h =
      items_end (DoTask body args depends k) (λ is. Spawn (record { child = n ∷ t; body = body; args = map (value regs) args; items = is; deferred = is_deferred regs k })) (items_at cells regs depends) refl (λ is. refl) h
  ends_at (DoTaskwait depends) h = items_end (DoTaskwait depends) Wait (items_at cells regs depends) refl (λ is. refl) h
  ends_at DoTaskgroup h = absurd (false≢true h)
  ends_at DoEndTaskgroup h = absurd (false≢true h)
  ends_at (DoTest k) h = absurd (false≢true h)
  ends_at DoEnd h = refl

-- ---- the newest of a task's own actions

over_last : (a : Action) (acts : List Action) → is_over (status_of (a ∷ acts)) ≡ is_end a
over_last End acts = refl
over_last Fault acts = refl
over_last _ acts = refl

newest_alone : (a : Action) (acts : List Action) → status_of (a ∷ acts) ≡ status_of (a ∷ [])
newest_alone End acts = refl
newest_alone Fault acts = refl
newest_alone _ acts = refl

-- who has acted and isn't over is under way
under_way : (a : Action) (acts : List Action) → is_over (status_of (a ∷ acts)) ≡ false → status_of (a ∷ acts) ≡ Running
under_way Start acts o = refl
under_way (Let r x) acts o = refl
under_way (Load r c x) acts o = refl
under_way (Store c x) acts o = refl
under_way (Print x) acts o = refl
under_way (Spawn s) acts o = refl
under_way (Wait items) acts o = refl
under_way Open acts o = refl
under_way Close acts o = refl
under_way (Test b) acts o = refl
under_way End acts o = absurd (false≢true (sym o))
under_way Fault acts o = absurd (false≢true (sym o))

-- an end and a fault leave the task where it is
stays : (i : Instr) (k : Place) (a : Action) → is_end a ≡ true → moved i k a ≡ k
stays i k Start h = absurd (false≢true h)
stays i k (Let r x) h = absurd (false≢true h)
stays i k (Load r c x) h = absurd (false≢true h)
stays i k (Store c x) h = absurd (false≢true h)
stays i k (Print x) h = absurd (false≢true h)
stays i k (Spawn s) h = absurd (false≢true h)
stays i k (Wait items) h = absurd (false≢true h)
stays i k Open h = absurd (false≢true h)
stays i k Close h = absurd (false≢true h)
stays i k (Test b) h = absurd (false≢true h)
stays i k End h = refl
stays i k Fault h = refl

-- ---- a task that is over

-- what a core says of a task that is there
pub is_known : {A : Type 0} (b : Bool) (x y : A) (o : Option A) → o ≡ cond b (Some x) None → o ≡ Some y → y ≡ x
is_known true x y o e h = cc
is_known false x y o e h = cc

pub is_absent : {A : Type 0} (b : Bool) (x : A) (o : Option A) → o ≡ cond b (Some x) None → o ≡ None → b ≡ false
is_absent true x o e h = cc
is_absent false x o e h = refl

-- a task's state, by the statement at which it is
abbrev IsTold : Program → Name → History → Type 0
IsTold P t H = status_of (own t H) ≡ cond (is_last (instr_at P (situation P t H).line).statement) Ended Faulted

ended_status : (P : Program) (t : Name) (H : History) → LegalFor P H → list_any (ends t) H ≡ true → IsTold P t H
ended_status P t [] l e = absurd (false≢true e)
ended_status P t (v ∷ H) l e = at (is_of t v) refl (λ h. ended_status P t H (l.0.0, l.1.0) h)
  where
    other : is_of t v ≡ false → list_any (ends t) H ≡ true → IsTold P t H → IsTold P t (v ∷ H)
    other o h rest =
        let acted : own t H ≢ [] = λ z. false≢true (ap (λ acts. is_over (status_of acts)) (sym z) ∙ sym (over_ended P.cells H t l.0.0) ∙ h) in
        let unspawned = not_again P.cells H l.0.0 v l.0.1 t (acted_spawned P.cells H t l.0.0 acted) in
        ap status_of (own_other t v H o) ∙ rest ∙ ap (λ (c : Place). cond (is_last (instr_at P c.line).statement) Ended Faulted) (sym (situation_other P t v H o unspawned))

    at : (b : Bool) → is_of t v ≡ b → (list_any (ends t) H ≡ true → IsTold P t H) → IsTold P t (v ∷ H)
    at false o rest =
        let h : list_any (ends t) H ≡ true = ap (λ b. b && is_end v.action || list_any (ends t) H) (sym o) ∙ e in
        other o h (rest h)
    at true o rest =
        let c = situation P t H in
        let i = instr_at P c.line in
        let a = v.action in
        let mine = own_mine t v H o in
        let over : is_end a ≡ true = sym (over_last a (own t H)) ∙ ap (λ acts. is_over (status_of acts)) (sym mine) ∙ sym (over_ended P.cells (v ∷ H) t l.0) ∙ e in
        let follows : a ≡ planned P H t (loaded a) = subst (λ u. a ≡ planned P H u (loaded a)) (same_true v.task t o) l.1.1 in
        let told : status_of (a ∷ []) ≡ cond (is_last i.statement) Ended Faulted =
        subst (λ b. is_end b ≡ true → status_of (b ∷ []) ≡ cond (is_last i.statement) Ended Faulted) (sym follows) (ends_at P.cells t (suc (spawn_count (own t H))) c.regs (loaded a) i.statement) over
        in
        let line : (situation P t (v ∷ H)).line ≡ c.line = ap (λ (k : Place). k.line) (own_moves P t v H l o ∙ stays i c a over) in
        ap status_of mine ∙ newest_alone a (own t H) ∙ told ∙ ap (λ n. cond (is_last (instr_at P n).statement) Ended Faulted) (sym line)

-- ---- as text

text_over : (n : ℕ) (b : Bool) → status_text n (cond b Ended Faulted) ≡ cond b (codes "ended") (codes "faulted")
text_over n true = refl
text_over n false = refl

module _ (P : Program) (run : Seen) (t : Name) (f : Fits P run) where
  abbrev acts : List Action
  acts = own t (history run)

  abbrev at : ℕ
  at = (situation P t (history run)).line

  pending_by : (own_acts : List Action) → acts ≡ own_acts → length own_acts ≡ 0 → state_text P (history run) t ≡ codes "pending"
  pending_by [] e z = ap (λ own_acts. status_text at (status_of own_acts)) e
  pending_by (a ∷ own_acts) e z = absurd (omega arith)

  -- who has executed no step
  pub no_step : length acts ≡ 0 → state_text P (history run) t ≡ codes "pending"
  no_step z = pending_by acts refl z

  -- who isn't there has taken none
  pub not_there : is_spawned (history run) t ≡ false → state_text P (history run) t ≡ codes "pending"
  not_there n = by acts refl
    where
      by : (own_acts : List Action) → acts ≡ own_acts → state_text P (history run) t ≡ codes "pending"
      by [] e = pending_by [] e refl
      by (a ∷ own_acts) e = absurd (false≢true (sym n ∙ acted_spawned P.cells (history run) t f.legal.0 (λ z. cc (sym e ∙ z))))

  pub still_going : length acts ≢ 0 → list_any (ends t) (history run) ≡ false → state_text P (history run) t ≡ codes "running " ++ decimal (config_of run t).at
  still_going some going = by acts refl
    where
      by : (own_acts : List Action) → acts ≡ own_acts → state_text P (history run) t ≡ codes "running " ++ decimal (config_of run t).at
      by [] e = absurd (some (ap length e))
      by (a ∷ own_acts) e =
          let on : is_over (status_of (a ∷ own_acts)) ≡ false = ap (λ x. is_over (status_of x)) (sym e) ∙ sym (over_ended P.cells (history run) t f.legal.0) ∙ going in
          ap (status_text at) (ap status_of e ∙ under_way a own_acts on) ∙ ap (λ n. codes "running " ++ decimal n) (sym (stands_at P run t f))

  pub is_done : (b : Bool) → b ≡ is_last (instr_at P (config_of run t).at).statement → list_any (ends t) (history run) ≡ true → state_text P (history run) t ≡ cond b (codes "ended") (codes "faulted")
  is_done b e done =
      ap (status_text at) (ended_status P t (history run) f.legal done ∙ ap (λ n. cond (is_last (instr_at P n).statement) Ended Faulted) (sym (stands_at P run t f)) ∙ ap (λ x. cond x Ended Faulted) (sym e))
      ∙ text_over at b

-- the numbers of a task that are shown are those of the definitions
pub own_numbers : (P : Program) (run : Seen) (t : Name) → numbers_text (config_of run t).steps (config_of run t).regs (length (open_groups (own t (history run)))) ≡ own_text P (history run) t
own_numbers P run t = ap (λ regs. numbers_text (length (own t (history run))) regs (length (open_groups (own t (history run))))) (holds_registers P run t)
