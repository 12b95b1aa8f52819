-- Two events of different tasks that may both come next: each may still come after the other.
use Rattle.std.proofs.Common.{◌≡◌, ◌≢◌, ℕ, suc, [], ◌∷◌, true, false, ◌&&◌, ◌||◌, ◌==◌, ⊎_elim, refl, sym, ap, ap₂, ◌∙◌, subst, cond, Some, ℤ, ne_eqb, eq-eqb}
use Rattle.std.specs.List.{list_any}
use Rattle.std.proofs.lemmas.Bool.{or_cases, or_left, or_right, or_parts, and_parts, and_from, both_ways, false≢true, false_from_ne_true}
use Rattle.tb_model.specs.declared.action.Action.{Action}
use Rattle.tb_model.specs.declared.action.Action.TheVariants.{Start, Load, Store, Wait, Close}
use Rattle.tb_model.specs.declared.event.Event.{Event}
use Rattle.tb_model.specs.Names.{Name, is_child, is_elder}
use Rattle.tb_model.specs.Items.{some_meet, is_before, is_apart, has_no_items}
use Rattle.tb_model.specs.Facts.{History, is_of, own, is_start, is_end, is_spawn_of, is_store_to, last, items_of, before, apart, spawns, ends, starts, is_member, covers, holds, HasEnded, HasStarted, IsSpawned}
use Rattle.tb_model.specs.State.{spawn_of, called_by}
use Rattle.tb_model.specs.Legal.{Cells, first_number, spawn_count, Continues, IsTimely, MayStart, MayFollow, Legal}
use Rattle.tb_model.specs.Needs.{conflicts, needs}
use Rattle.tb_model.specs.Program.{Program, LegalFor, IsNext, config, instr_at, action_of, planned, loaded}
use Rattle.tb_model.proofs.TestLemmas.{same_true, same_refl}
use Rattle.tb_model.proofs.PartsLemmas.{not_stored}
use Rattle.tb_model.proofs.NeighboursLemmas.{start_only}
use Rattle.tb_model.proofs.FactsLemmas.{grown, running_acts, cons_tail, own_other, spawn_names, acted_spawned, begun, not_started, ends_own, not_running, member_up, elder_not, items_stay, not_again}
use Rattle.tb_causal.specs.Runs.{exclude}

conflict_load : (b : Action) (r c : ℕ) (x : ℤ) → conflicts b (Load r c x) ≡ false → is_store_to c b ≡ false
conflict_load (Store d y) r c x h = ne_eqb c d (λ e. both_ways (d == c) h (eq-eqb d c (sym e)))
conflict_load _ r c x h = refl

-- f comes first; t, another task, was to do a
module _ (cells : Cells) (H : History) (l : Legal cells H) (t : Name) (f : Event) (other : is_of t f ≡ false) (mf : MayFollow cells H f) where
  apart_kept : (u : Name) → spawns u f ≡ false → spawns t f ≡ false → apart (f ∷ H) u t ≡ apart H u t
  apart_kept u h k =
      ap₂ (λ i j. (is_elder u t && some_meet is_apart i j) || (is_elder t u && some_meet is_apart j i)) (items_stay cells H l f mf t k) (items_stay cells H l f mf u h)

  timely_beside : (a : Action) → conflicts f.action a ≡ false → exclude H f (record { task = t; action = a }) ≡ false → IsTimely cells H t a → IsTimely cells (f ∷ H) t a
  timely_beside Start c x m = record {
    spawned = grown t f H m.spawned;
    behind =
        λ u b.
        let o = and_parts (is_elder u t) (some_meet is_before (items_of t (f ∷ H)) (items_of u (f ∷ H))) b in
        let b' : before H u t ≡ true =
        and_from (is_elder u t) (some_meet is_before (items_of t H) (items_of u H)) o.0
        (sym (ap₂ (some_meet is_before) (items_stay cells H l f mf t (not_again cells H l f mf t m.spawned)) (items_stay cells H l f mf u (elder_not cells H l f mf u t o.0 m.spawned))) ∙ o.1)
        in or_right (ends u f) _ (m.behind u b');
    alone =
        λ u b s.
        ⊎_elim
        (λ h.
        let o = and_parts (is_of u f) (is_start f.action) h in
        let no : (w : Name) → spawns w f ≡ false = λ w. ap (is_spawn_of w) (start_only f.action o.1) in
        let b' : apart H f.task t ≡ true = sym (apart_kept f.task (no f.task) (no t)) ∙ subst (λ w. apart (f ∷ H) w t ≡ true) (sym (same_true f.task u o.0)) b in
        absurd (both_ways _ x (and_from (is_start f.action && true) (apart H f.task t) (and_from (is_start f.action) true o.1 refl) b')))
        (λ h.
        let was : own u H ≢ [] = λ z. not_started u H (starts u) (λ v q. (and_parts (is_of u v) (is_start v.action) q).0) z h in
        let sp = acted_spawned cells H u l was in
        or_right (ends u f) _ (m.alone u (sym (apart_kept u (not_again cells H l f mf u sp) (not_again cells H l f mf t m.spawned)) ∙ b) h))
        (or_cases (starts u f) (list_any (starts u) H) s);
  }
  timely_beside (Load r k n) c x m =
      m ∙ sym (not_stored k f.action (last (first_number cells k) k H) (conflict_load f.action r k n c))
  timely_beside (Wait items) c x m =
      λ u b s.
      let o = and_parts (is_child t u) (has_no_items items || some_meet is_before items (items_of u (f ∷ H))) b in
      let sp = at u o.0 s in
      let b' : covers H t items u ≡ true = sym (ap (λ i. is_child t u && (has_no_items items || some_meet is_before items i)) (items_stay cells H l f mf u (not_again cells H l f mf u sp))) ∙ b in
      or_right (ends u f) _ (m u b' sp)
    where
      at : (u : Name) → is_child t u ≡ true → IsSpawned (f ∷ H) u → IsSpawned H u
      at [] b s = refl
      at (k ∷ p) b s =
          ⊎_elim
          (λ h.
          let e = cons_tail (spawn_names cells f.task (k ∷ p) (own f.task H) f.action mf.own h) in
          absurd (both_ways (is_of t f) other (subst (λ w. is_child t (k ∷ w) ≡ true) e b)))
          (λ h. h)
          (or_cases (spawns (k ∷ p) f) (list_any (spawns (k ∷ p)) H) s)
  timely_beside Close c x m = λ u b s. or_right (ends u f) _ (at u (subst (λ acts. is_member acts u ≡ true) (own_other t f H other) b) s)
    where
      parent_ended : (k : ℕ) (p : Name) → spawns (k ∷ p) f ≡ true → p ≡ f.task → is_member (own t H) p ≡ true → ⊥
      parent_ended k p h e b =
          ⊎_elim
          (λ st. false≢true (sym (ap (is_spawn_of (k ∷ p)) st) ∙ h))
          (λ r.
          let sp = acted_spawned cells H f.task l (running_acts (own f.task H) r) in
          not_running cells H f.task l (m f.task (subst (λ w. is_member (own t H) w ≡ true) e b) sp) r)
          (begun cells f.task (own f.task H) f.action mf.own)

      at : (u : Name) → is_member (own t H) u ≡ true → IsSpawned (f ∷ H) u → HasEnded H u
      at [] b s = m [] b refl
      at (k ∷ p) b s =
          ⊎_elim
          (λ h.
          let e = cons_tail (spawn_names cells f.task (k ∷ p) (own f.task H) f.action mf.own h) in
          absurd (⊎_elim (λ d. both_ways (is_of t f) other (subst (λ w. is_child t (k ∷ w) ≡ true) e d)) (parent_ended k p h e) (member_up cells H t k p l b)))
          (λ h. m (k ∷ p) b h)
          (or_cases (spawns (k ∷ p) f) (list_any (spawns (k ∷ p)) H) s)
  timely_beside _ c x m = tt

planned_other : (P : Program) (g : Event) (H : History) (t : Name) (x : ℤ) → is_of t g ≡ false → spawns t g ≡ false → planned P (g ∷ H) t x ≡ planned P H t x
planned_other P g H t x o s =
    ap₂ (λ acts k. action_of P.cells t (suc (spawn_count acts)) (config P k.line k.args acts).regs x (instr_at P (config P k.line k.args acts).line).statement)
    (own_other t g H o) (ap (λ b. called_by P.root_line (cond b (Some g.action) (spawn_of t H))) s)

-- two next events, where neither needs the other and they don't exclude each other
pub next_beside : (P : Program) (H : History) (f e : Event) → LegalFor P H → IsNext P H f → IsNext P H e → needs (f ∷ H) e f ≡ false → needs (e ∷ H) f e ≡ false → exclude H f e ≡ false → IsNext P (f ∷ H) e
next_beside P H f e l m n x y z =
    let o = or_parts (is_of e.task f) _ x in
    let q = or_parts (spawns e.task f) _ o.1 in
    let b = or_parts (spawns f.task e) _ (or_parts (is_of f.task e) _ y).1 in
    let c = (or_parts (conflicts f.action e.action) _ b.1).0 in record {
      may = record {
        own = subst (λ acts. Continues P.cells e.task acts e.action) (sym (own_other e.task f H o.0)) n.may.own;
        resumed = λ u h. or_right (ends u f) _ (n.may.resumed u (subst (λ acts. holds acts u ≡ true) (own_other e.task f H o.0) h));
        timely = timely_beside P.cells H l.0 e.task f o.0 m.may e.action c z n.may.timely;
      };
      follows = n.follows ∙ sym (planned_other P f H e.task (loaded e.action) o.0 q.0);
    }

-- where the second start still comes after the first, the two don't exclude each other
pub not_excluded : (cells : Cells) (H : History) (f e : Event) → Legal cells H → MayFollow cells H f → MayFollow cells (f ∷ H) e → is_of e.task f ≡ false → exclude H f e ≡ false
not_excluded cells H f e l m n o =
    false_from_ne_true (exclude H f e) (λ h.
    let x = and_parts (is_start f.action && is_start e.action) (apart H f.task e.task) h in
    let y = and_parts (is_start f.action) (is_start e.action) x.0 in
    let st = start_only f.action y.0 in
    let no : (w : Name) → spawns w f ≡ false = λ w. ap (is_spawn_of w) st in
    let may : MayStart (f ∷ H) e.task = subst (IsTimely cells (f ∷ H) e.task) (start_only e.action y.1) n.timely in
    let fresh : own f.task H ≡ [] = subst (Continues cells f.task (own f.task H)) st m.own in
    let apart_then = apart_kept cells H l e.task f o m f.task (no f.task) (no e.task) ∙ x.1 in
    let started : HasStarted (f ∷ H) f.task = or_left (starts f.task f) _ (and_from (is_of f.task f) (is_start f.action) (same_refl f.task) y.0) in
    ⊎_elim (λ z. false≢true (sym (ap is_end st) ∙ (and_parts (is_of f.task f) (is_end f.action) z).1)) (λ z. not_started f.task H (ends f.task) (ends_own f.task) fresh z)
    (or_cases (ends f.task f) (list_any (ends f.task) H) (may.alone f.task apart_then started)))
