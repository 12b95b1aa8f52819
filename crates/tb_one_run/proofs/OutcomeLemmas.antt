-- A finished run without a race has one outcome.
use Rattle.std.proofs.Common.{◌≡◌, ◌≤◌, ◌<◌, suc, [], ◌∷◌, ◌++◌, length, Bool, true, false, refl, sym, ap, ap₂, ◌∙◌, subst, arith, nat_lt, append_assoc}
use Rattle.std.proofs.lemmas.Bool.{ltb-true, ltb-false, lt-ltb, le-ltb}
use Rattle.tb_model.specs.declared.event.Event.{Event}
use Rattle.tb_model.specs.Names.{Name}
use Rattle.tb_model.specs.Facts.{History, own, prepend_if, IsSpawned}
use Rattle.tb_model.specs.State.{status_of, is_over}
use Rattle.tb_model.specs.Legal.{Legal}
use Rattle.tb_model.specs.Alike.{Alike}
use Rattle.tb_model.specs.SameState.{SameState}
use Rattle.tb_model.proofs.TestLemmas.{same_refl}
use Rattle.tb_model.proofs.FactsLemmas.{own_mine}
use Rattle.tb_model.proofs.NeighboursLemmas.{legal_below}
use Rattle.tb_model.proofs.SettledLemmas.{spawned_later}
use Rattle.tb_model.proofs.StateLemmas.{over_ended}
use Rattle.tb_model.proofs.NeedsLemmas.{may_spawned}
use Rattle.tb_model.proofs.AlikeLemmas.{alike_refl}
use Rattle.tb_laws.proofs.SameStateLemmas.{same_state}
use Rattle.tb_races.specs.Orders.{Synchronised}
use Rattle.tb_one_run.specs.Outcomes.{HasRace}
use Rattle.tb_one_run.specs.Behaviours.{Behaviour, IsRunOf, IsNextOf, IsOver}
use Rattle.tb_one_run.proofs.SharedLemmas.{has, part, place, older_all, own_longer}
use Rattle.tb_one_run.proofs.OnceLemmas.{no_more}
use Rattle.tb_one_run.proofs.AgreeLemmas.{spawned_too, child_back}
use Rattle.tb_one_run.proofs.PlaceLemmas.{reaches, complete, parent_spawned}
use Rattle.tb_one_run.proofs.WalkLemmas.{Walked}
use Rattle.tb_one_run.proofs.StepLemmas.{walked_at}

-- nothing is in the empty history
none_there : (H : History) → part [] H ≡ []
none_there [] = refl
none_there (x ∷ H) =
    ap₂ (λ c G. prepend_if c x G) (le-ltb (length (own x.task H)) 0 (omega arith)) (none_there H)

part_short : (K H : History) → length (part K H) ≤ length H
part_short K [] = omega arith
part_short K (x ∷ H) = at (has K (x ∷ H)) (part_short K H)
  where
    at : (c : Bool) → length (part K H) ≤ length H → length (prepend_if c x (part K H)) ≤ suc (length H)
    at true h = omega (arith, h)
    at false h = omega (arith, h)

module _ (B : Behaviour) (H : History) (lh : IsRunOf B H) (done : IsOver H) (free : HasRace Synchronised H → ⊥) where
  -- what goes on in K hasn't all been in K that H has of it
  goes_on : (K : History) → IsRunOf B K → Walked H K → (v : Event) → IsNextOf B K v → length (own v.task K) < length (own v.task H)
  goes_on K lk s v nk = at (nat_lt (length (own v.task K)) (length (own v.task H))) refl
    where
      at : (c : Bool) → nat_lt (length (own v.task K)) (length (own v.task H)) ≡ c → length (own v.task K) < length (own v.task H)
      at true l = ltb-true (length (own v.task K)) (length (own v.task H)) l
      at false l =
          let r = reaches B.cells H K lh.0 lk.0 s.alike in
          let all = older_all (r v.task) (ltb-false (length (own v.task K)) (length (own v.task H)) l) in
          let e = done v.task (spawned_too B.cells K H lk.0 lh.0 r v.task (may_spawned B.cells K v lk.0 nk.may)) in
          let over = over_ended B.cells K v.task lk.0 ∙ ap (λ acts. is_over (status_of acts)) all ∙ sym (over_ended B.cells H v.task lh.0) ∙ e in
          absurd (no_more B.cells K v v.task lk.0 nk.may (same_refl v.task) over)

  -- each run is a part of H in another order
  pub walked : (K : History) → IsRunOf B K → Walked H K
  walked [] lk = record {
    closed = λ b x X e h m u F e' l. absurd (omega (arith, ltb-true (length (own x.task X)) 0 h));
    alike = subst (λ G. Alike G []) (sym (none_there H)) (alike_refl []);
    size = ap length (none_there H);
  }
  walked (v ∷ K) lk =
      let below : IsRunOf B K = (lk.0.0, lk.1.0) in
      let s = walked K below in
      let nk : IsNextOf B K v = record { may = lk.0.1; behaves = lk.1.1 } in
      let p = place v.task (length (own v.task K)) H (goes_on K below s v nk) in
      walked_at B H K lh below free s v nk p.later p.event p.front p.split p.mine p.number

  -- so it is no longer
  pub no_longer : (K : History) → IsRunOf B K → length K ≤ length H
  no_longer K lk = omega (arith, (walked K lk).size, part_short K H)

  module _ (K : History) (lk : IsRunOf B K) (done_k : IsOver K) where
    abbrev alike_part : Alike (part K H) K
    alike_part = (walked K lk).alike

    -- all that was generated in H was in K, and has ended there
    all_spawned : (t : Name) → IsSpawned H t → IsSpawned K t
    all_spawned [] s = refl
    all_spawned (k ∷ p) s =
        let e = done_k p (all_spawned p (parent_spawned B.cells H k p lh.0 s)) in
        child_back B.cells K H lk.0 lh.0 (reaches B.cells H K lh.0 lk.0 alike_part) p (k ∷ p)
        (complete B.cells H K lh.0 lk.0 alike_part p e) (same_refl p) s

    -- so all is in K
    all_there : (b F : History) → H ≡ b ++ F → part K F ≡ F
    all_there b [] e = refl
    all_there b (x ∷ F) e =
        let lx = legal_below B.cells b (x ∷ F) (subst (Legal B.cells) e lh.0) in
        let sx : IsSpawned H x.task = subst (λ G. IsSpawned G x.task) (sym (e ∙ sym (append_assoc b (x ∷ []) F))) (spawned_later x.task (b ++ x ∷ []) F (may_spawned B.cells F x lx.0 lx.1)) in
        let all = complete B.cells H K lh.0 lk.0 alike_part x.task (done_k x.task (all_spawned x.task sx)) in
        let l : length (own x.task F) < length (own x.task K) =
        omega (arith, ap length all, ap (λ G. length (own x.task G)) e, own_longer x.task b (x ∷ F), ap length (own_mine x.task x F (same_refl x.task)))
        in
        ap₂ (λ c G. prepend_if c x G) (lt-ltb (length (own x.task F)) (length (own x.task K)) l) (all_there (b ++ x ∷ []) F (e ∙ sym (append_assoc b (x ∷ []) F)))

    -- and the two are alike
    pub alike_outcome : Alike H K
    alike_outcome = subst (λ G. Alike G K) (all_there [] H refl) alike_part

    -- so they leave one state
    pub same_outcome : SameState H K
    same_outcome = same_state B.cells H K lh.0 lk.0 alike_outcome
