-- Turns of workers: what each leaves, that a worker alone has one course, and that a journal stays sound.
use Rattle.std.proofs.Common.{◌≡◌, ◌<◌, ◌≤◌, ◌-◌, ◌==◌, ℕ, zero, suc, cond, List, [], ◌∷◌, Bool, true, false, is_none, is_some, IsFalse, Option, Some, None, refl, sym, ap, ap₂, ◌∙◌, subst, arith}
use Rattle.std.specs.Option.{option_or}
use Rattle.tb_model.specs.declared.entry.Entry.TheVariants.{Stepped}
use Rattle.tb_model.specs.Names.{Name}
use Rattle.tb_model.specs.Hindrances.{Refusal, can_step}
use Rattle.tb_laws.proofs.JournalLemmas.{journal_legal}
use Rattle.tb_model.proofs.LeastNameLemmas.{least_found}
use Rattle.tb_laws.proofs.NextStepLemmas.{refused_next}
use Rattle.tb_control.specs.declared.mode.Mode.{Mode}
use Rattle.tb_control.specs.declared.mode.Mode.TheVariants.{Resumed, Counting, Paused}
use Rattle.tb_control.specs.declared.paused_by.PausedBy.TheVariants.{Break as ByBreak, Count as ByCount, Pause as ByPause}
use Rattle.tb_live.specs.Modes.{counting, counted, is_paused}
use Rattle.tb_live.specs.Modes as modes
use Rattle.tb_live.specs.Session.{Session, history, is_full}
use Rattle.tb_live.specs.Moves.{coming, least_task, refusal_for}
use Rattle.tb_next.proofs.ReadyLemmas.{can_spawned}
use Rattle.tb_team.specs.declared.stop.Stop.{Stop}
use Rattle.tb_team.specs.declared.stop.Stop.TheVariants.{Break, Limit}
use Rattle.tb_replies.specs.Course.{Course, stopped, behind}
use Rattle.tb_replies.specs.Laws.{IsSound, is_break, met_by}
use Rattle.tb_replies.specs.Texts.{told_step}
use Rattle.tb_replies.specs.Turns.{Goes, IsGo}
use Rattle.tb_team.specs.Turns.{IsTurn, why_paused, why_idle, stop_of, turned, started, settled}
use Rattle.tb_replies.proofs.AloneLemmas.{MayFollow, counting_follows, one_fewer}

-- ---- what a turn leaves

break_if_met : (o : Option ℕ) (m : Mode) → is_paused m ≡ false → is_break (modes.behind o m) ≡ is_some o
break_if_met (Some number) m going = refl
break_if_met None (Paused by) going = cc
break_if_met None Resumed going = refl
break_if_met None (Counting left) going = at (left - 1 == 0)
  where
    at : (b : Bool) → is_break (cond b (Paused ByCount) (Counting (left - 1))) ≡ false
    at true = refl
    at false = refl

pub stops_where_met : (s : Session) (seat : ℕ) (t : Name) → IsFalse (is_paused s.control.mode) → is_break (turned seat s t).control.mode ≡ is_some (met_by s t)
stops_where_met s seat t going = break_if_met (met_by s t) s.control.mode going

counted_if_unmet : (o : Option ℕ) (m : Mode) → is_some o ≡ false → modes.behind o m ≡ counted m
counted_if_unmet None m e = refl
counted_if_unmet (Some number) m e = cc

pub goes_on_unmet : (s : Session) (seat : ℕ) (t : Name) → is_some (met_by s t) ≡ false → (turned seat s t).control.mode ≡ counted s.control.mode
goes_on_unmet s seat t unmet = counted_if_unmet (met_by s t) s.control.mode unmet

pub turn_enters : (s : Session) (seat : ℕ) (t : Name) → (turned seat s t).journal ≡ Stepped seat (coming s t) ∷ s.journal
turn_enters s seat t = refl

why_break : (m : Mode) → is_break m ≡ true → why_paused m ≡ Some Break
why_break (Paused (ByBreak number)) e = refl
why_break (Paused ByCount) e = cc
why_break (Paused ByPause) e = cc
why_break Resumed e = cc
why_break (Counting left) e = cc

pub break_ends : (s : Session) → is_break s.control.mode ≡ true → stop_of s ≡ Some Break
break_ends s e = ap (λ o. option_or o (why_idle (least_task s) (is_full s))) (why_break s.control.mode e)

pub limit_ends : (s : Session) → s.control.mode ≡ counting 0 → stop_of s ≡ Some Limit
limit_ends s e = ap (λ m. option_or (why_paused m) (why_idle (least_task s) (is_full s))) e

-- ---- a sound journal

turned_sound : (workers seat : ℕ) (s : Session) (t : Name) → IsSound s → IsTurn workers s seat t → IsSound (turned seat s t)
turned_sound workers seat s t h turn =
    let legal = journal_legal s.program s.journal h.sound in
    let next = (refused_next s.program (history s) t h.well_formed legal).0 turn.may.unrefused in
    record { well_formed = h.well_formed; sound = (h.sound, next) }

goes_sound : (workers : ℕ) (turns : List (ℕ × Name)) (s : Session) (c : Course) → IsSound s → Goes workers turns s c → IsSound c.session
goes_sound workers [] s c h g = subst (λ (d : Course). IsSound d.session) (sym g.2) (record { well_formed = h.well_formed; sound = h.sound })
goes_sound workers (turn ∷ turns) s c h g =
    let rest = goes_sound workers turns (turned turn.0 s turn.1) g.2.0 (turned_sound workers turn.0 s turn.1 h g.1) g.2.1 in
    subst (λ (d : Course). IsSound d.session) (sym g.2.2) rest

pub go_sound : (workers most : ℕ) (s : Session) (c : Course) → IsSound s → IsGo workers most s c → IsSound c.session
go_sound workers most s c h g = goes_sound workers g.0 (started most s) c (record { well_formed = h.well_formed; sound = h.sound }) g.1

-- ---- a worker alone has a course

none_refused : (o : Option Refusal) → is_none o ≡ true → o ≡ None
none_refused None e = refl
none_refused (Some r) e = cc

least_may : (s : Session) (t : Name) → least_task s ≡ Some t → refusal_for s t ≡ None
least_may s t e =
    let P = s.program in
    let H = history s in
    none_refused (refusal_for s t) ((least_found H (can_step P H) (λ u h. can_spawned P H u h)).found t e)

-- where nothing stops the worker, so many turns are left, one at least, and this task is the next one's
record IsOpen (n : ℕ) (s : Session) : Type 0 where
  some : 0 < n
  going : is_paused s.control.mode ≡ false
  task : Name
  least : least_task s ≡ Some task
  room : is_full s ≡ false

open_by : (s : Session) (n : ℕ) (m : Mode) (o : Option Name) (full : Bool) → s.control.mode ≡ m → least_task s ≡ o → is_full s ≡ full → MayFollow n m → option_or (why_paused m) (why_idle o full) ≡ None → IsOpen n s
open_by s n (Counting left) (Some t) false m least room h e = record { some = h.1; going = ap is_paused m; task = t; least = least; room = room }
open_by s n (Counting left) (Some t) true m least room h e = cc
open_by s n (Counting left) None full m least room h e = cc
open_by s n (Paused (ByBreak number)) o full m least room h e = cc
open_by s n (Paused ByCount) o full m least room h e = cc
open_by s n (Paused ByPause) o full m least room h e = absurd h
open_by s n Resumed o full m least room h e = absurd h

after_turn : (s : Session) (n : ℕ) (o : IsOpen n s) → MayFollow n s.control.mode → MayFollow (n - 1) (turned 1 s o.task).control.mode
after_turn s n o h = one_fewer n s.control.mode (met_by s o.task) h o.going

open_turn : (s : Session) (n : ℕ) (o : IsOpen n s) → IsTurn 1 s 1 o.task
open_turn s n o = record {
  first = omega arith;
  last = omega arith;
  going = o.going;
  may = record { unrefused = least_may s o.task o.least; room = o.room };
  alone = λ one. o.least;
}

abbrev pub HasCourse : Session → Type 0
HasCourse s = (turns : List (ℕ × Name)) × ((c : Course) × Goes 1 turns s c)

one_turn : (n : ℕ) (s : Session) → MayFollow n s.control.mode → ((k : ℕ) → n ≡ suc k → (u : Session) → MayFollow k u.control.mode → HasCourse u) → HasCourse s
one_turn n s h further = at (stop_of s) refl
  where
    at : (o : Option Stop) → stop_of s ≡ o → HasCourse s
    at (Some why) e = ([], (stopped why (settled s), (why, e, refl)))
    at None e =
        let o = open_by s n s.control.mode (least_task s) (is_full s) refl refl refl h e in
        let left : n ≡ suc (n - 1) = omega (arith, o.some) in
        let rest = further (n - 1) left (turned 1 s o.task) (after_turn s n o h) in
        ((1, o.task) ∷ rest.0, (behind (told_step s o.task) 1 rest.1.0, (e, open_turn s n o, (rest.1.0, rest.1.1, refl))))

pub some_goes : (n : ℕ) (s : Session) → MayFollow n s.control.mode → HasCourse s
some_goes zero s h = one_turn zero s h (λ j e u f. absurd (omega (arith, e)))
some_goes (suc k) s h =
    one_turn (suc k) s h (λ j e u f. let same : j ≡ k = omega (arith, e) in some_goes k u (subst (λ i. MayFollow i u.control.mode) same f))

pub some_go : (most : ℕ) (s : Session) → (c : Course) × IsGo 1 most s c
some_go most s =
    let g = some_goes most (started most s) (counting_follows most) in
    (g.1.0, (g.0, g.1.1))

-- ---- and one alone

one_goes : (turns others : List (ℕ × Name)) (s : Session) (c d : Course) → Goes 1 turns s c → Goes 1 others s d → c ≡ d
one_goes [] [] s c d g h =
    let same : g.0 ≡ h.0 = some_same g.0 h.0 (sym g.1 ∙ h.1) in
    g.2 ∙ ap (λ why. stopped why (settled s)) same ∙ sym h.2
  where
    some_same : (a b : Stop) → Some a ≡ Some b → a ≡ b
    some_same a b e = cc
one_goes [] (turn ∷ others) s c d g h = let e = sym g.1 ∙ h.0 in cc
one_goes (turn ∷ turns) [] s c d g h = let e = sym h.1 ∙ g.0 in cc
one_goes (turn ∷ turns) (other ∷ others) s c d g h =
    let seat : turn.0 ≡ other.0 = (let a = g.1.first in let b = g.1.last in let x = h.1.first in let y = h.1.last in omega (arith, a, b, x, y)) in
    let task : turn.1 ≡ other.1 = some_same turn.1 other.1 (sym (g.1.alone refl) ∙ h.1.alone refl) in
    let next : turned other.0 s other.1 ≡ turned turn.0 s turn.1 = ap₂ (λ n t. turned n s t) (sym seat) (sym task) in
    let rest : g.2.0 ≡ h.2.0 = one_goes turns others (turned turn.0 s turn.1) g.2.0 h.2.0 g.2.1 (subst (λ z. Goes 1 others z h.2.0) next h.2.1) in
    g.2.2 ∙ (ap₂ (λ t r. behind (told_step s t) 1 r) task rest ∙ sym h.2.2)
  where
    some_same : (a b : Name) → Some a ≡ Some b → a ≡ b
    some_same a b e = cc

pub one_go : (most : ℕ) (s : Session) (c d : Course) → IsGo 1 most s c → IsGo 1 most s d → c ≡ d
one_go most s c d g h = one_goes g.0 h.0 (started most s) c d g.1 h.1

-- ---- and so have more

-- what a worker alone does, several may do
beside : (workers : ℕ) (s : Session) (seat : ℕ) (t : Name) → 1 ≤ workers → IsTurn 1 s seat t → IsTurn workers s seat t
beside workers s seat t some turn = record {
  first = turn.first;
  last = (let h = turn.last in omega (arith, h, some));
  going = turn.going;
  may = turn.may;
  alone = λ one. turn.alone refl;
}

goes_beside : (workers : ℕ) (turns : List (ℕ × Name)) (s : Session) (c : Course) → 1 ≤ workers → Goes 1 turns s c → Goes workers turns s c
goes_beside workers [] s c some g = g
goes_beside workers (turn ∷ turns) s c some g =
    (g.0, beside workers s turn.0 turn.1 some g.1, (g.2.0, goes_beside workers turns (turned turn.0 s turn.1) g.2.0 some g.2.1, g.2.2))

pub some_go_of : (workers most : ℕ) (s : Session) → 1 ≤ workers → (c : Course) × IsGo workers most s c
some_go_of workers most s some =
    let g = some_go most s in
    (g.0, (g.1.0, goes_beside workers g.1.0 (started most s) g.0 some g.1.1))

pub one_go_of : (workers most : ℕ) (s : Session) (c d : Course) → workers ≡ 1 → IsGo workers most s c → IsGo workers most s d → c ≡ d
one_go_of workers most s c d alone g h =
    one_go most s c d (subst (λ n. IsGo n most s c) alone g) (subst (λ n. IsGo n most s d) alone h)
