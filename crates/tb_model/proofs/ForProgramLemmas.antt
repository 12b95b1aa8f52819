-- The laws of changes of places, for a program.
use Rattle.std.proofs.Common.{◌≡◌, suc, [], ◌∷◌, false, cond, ◌↔◌, refl, sym, ap, ap₂, ◌∙◌, subst, ℤ, Some, map}
use Rattle.std.proofs.lemmas.Bool.{or_parts}
use Rattle.tb_model.specs.declared.event.Event.{Event}
use Rattle.tb_model.specs.Names.{Name}
use Rattle.tb_model.specs.Facts.{History, is_of, spawns}
use Rattle.tb_model.specs.State.{spawn_of, called_by}
use Rattle.tb_model.specs.Legal.{spawn_count, Legal}
use Rattle.tb_model.specs.Needs.{needs}
use Rattle.tb_model.specs.Alike.{Alike}
use Rattle.tb_model.specs.Equivalent.{Equivalent}
use Rattle.tb_model.specs.Program.{Program, config, instr_at, action_of, planned, loaded, AllFollow, LegalFor, IsNext}
use Rattle.tb_model.proofs.AlikeLemmas.{follows_alike, alike_sym}
use Rattle.tb_model.proofs.FactsLemmas.{own_other}
use Rattle.tb_model.proofs.NeighboursLemmas.{same_sym, swapped}
use Rattle.tb_model.proofs.RunLemmas as runs
use Rattle.tb_model.proofs.RunLemmas.{Run, moved_run}
use Rattle.tb_model.proofs.NeedsLemmas.{run_same, may_spawned, equivalent_state}
use Rattle.tb_model.proofs.NextLemmas.{one_next}
use Rattle.tb_model.proofs.FactsLemmas.{not_again}

planned_alike : (P : Program) {G H : History} → Alike G H → (t : Name) (x : ℤ) → planned P G t x ≡ planned P H t x
planned_alike P a t x =
    ap₂ (λ acts k. action_of P.cells t (suc (spawn_count acts)) (config P k.line k.args acts).regs x (instr_at P (config P k.line k.args acts).line).statement)
    (a.acts t) (ap (called_by P.root_line) (a.spawn t))

planned_other : (P : Program) (g : Event) (H : History) (t : Name) (x : ℤ) → is_of t g ≡ false → spawns t g ≡ false → planned P (g ∷ H) t x ≡ planned P H t x
planned_other P g H t x o s =
    ap₂ (λ acts k. action_of P.cells t (suc (spawn_count acts)) (config P k.line k.args acts).regs x (instr_at P (config P k.line k.args acts).line).statement)
    (own_other t g H o) (ap (λ b. called_by P.root_line (cond b (Some g.action) (spawn_of t H))) s)

-- alike histories have the same next events
pub next_alike : (P : Program) {G H : History} → Alike G H → (v : Event) → IsNext P G v → IsNext P H v
next_alike P a v n = record {
  may = follows_alike P.cells a v n.may;
  follows = n.follows ∙ planned_alike P a v.task (loaded v.action);
}

swap_follow : (P : Program) (e f : Event) (H : History) → LegalFor P (f ∷ e ∷ H) → needs (e ∷ H) f e ≡ false → AllFollow P (e ∷ f ∷ H)
swap_follow P e f H l n =
    let not_e = (or_parts (is_of f.task e) _ n).0 in
    let not_f = same_sym e.task f.task not_e in
    let mf = (swapped P.cells H e f l.0 n).0.0.1 in (
      (l.1.0.0, l.1.1 ∙ planned_other P e H f.task (loaded f.action) not_e (or_parts (spawns f.task e) _ (or_parts (is_of f.task e) _ n).1).0),
      l.1.0.1 ∙ sym (planned_other P f H e.task (loaded e.action) not_f (not_again P.cells H l.0.0.0 f mf e.task (may_spawned P.cells H e l.0.0.0 l.0.0.1))),
    )

-- changes of places retain a program's runs
pub run_for : (P : Program) {G H : History} → LegalFor P G → Run G H → LegalFor P H
run_for P l r = ((run_same P.cells l.0 r).legal, at r l)
  where
    at : {G H : History} → Run G H → LegalFor P G → AllFollow P H
    at (runs.same H) l = l.1
    at (runs.more v {G} {H} r) l =
        (at r (l.0.0, l.1.0), l.1.1 ∙ planned_alike P (run_same P.cells l.0.0 r).alike v.task (loaded v.action))
    at (runs.swap e f H n) l = swap_follow P e f H l n
    at (runs.by_way r q) l = at q ((run_same P.cells l.0 r).legal, at r l)

-- equivalent ones have
pub equivalent_next : (P : Program) (G H : History) (v : Event) → Legal P.cells G → Equivalent G H → IsNext P G v ↔ IsNext P H v
equivalent_next P G H v l q =
    let a = (equivalent_state P.cells G H l q).0 in (next_alike P a v, next_alike P (alike_sym a) v)

-- a run is settled by who executes its steps
pub one_run : (P : Program) (G H : History) → LegalFor P G → LegalFor P H → map (λ (v : Event). v.task) G ≡ map (λ (v : Event). v.task) H → G ≡ H
one_run P [] [] l m e = refl
one_run P [] (w ∷ H) l m e = cc
one_run P (v ∷ G) [] l m e = cc
one_run P (v ∷ G) (w ∷ H) l m e =
    let rest : map (λ (v : Event). v.task) G ≡ map (λ (v : Event). v.task) H = cc in
    let t : v.task ≡ w.task = cc in
    let p = one_run P G H (l.0.0, l.1.0) (m.0.0, m.1.0) rest in
    let n : IsNext P H v = subst (λ K. IsNext P K v) p (record { may = l.0.1; follows = l.1.1 }) in
    ap₂ (λ x K. x ∷ K) (one_next P H v w n (record { may = m.0.1; follows = m.1.1 }) t) p
