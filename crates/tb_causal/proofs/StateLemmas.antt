-- Equivalence of runs, and what it retains.
use Rattle.std.proofs.Common.{◌≡◌, ◌+◌, suc, List, ◌∷◌, length, refl, sym, ap, ◌∙◌, arith}
use Rattle.tb_model.specs.declared.event.Event.{Event}
use Rattle.tb_model.specs.declared.step_id.StepId.{StepId}
use Rattle.tb_model.specs.Facts.{History}
use Rattle.tb_model.specs.Legal.{Cells, Legal}
use Rattle.tb_model.specs.Needs.{removed, without}
use Rattle.tb_model.specs.Equivalent.{Equivalent}
use Rattle.tb_model.specs.Reordering.{IsUnneeded}
use Rattle.tb_model.proofs.PartsLemmas as parts
use Rattle.tb_model.proofs.PartsLemmas.{Parts}
use Rattle.tb_model.proofs.RemovalLemmas.{in_parts}
use Rattle.tb_model.proofs.RunLemmas as runs
use Rattle.tb_model.proofs.RunLemmas.{Run}
use Rattle.tb_model.proofs.EquivalenceLemmas.{equivalent_run}
use Rattle.tb_model.proofs.NeedsLemmas.{run_equivalent, equivalent_state, left}

-- ---- an equivalence

pub equivalent_refl : (cells : Cells) (H : History) → Legal cells H → Equivalent H H
equivalent_refl cells H l = run_equivalent cells l (runs.same H)

pub equivalent_sym : {G H : History} → Equivalent G H → Equivalent H G
equivalent_sym q = record { acts = λ t. sym (q.acts t); there = q.back; back = q.there }

pub equivalent_trans : (cells : Cells) (F G H : History) → Legal cells F → Legal cells G → Equivalent F G → Equivalent G H → Equivalent F H
equivalent_trans cells F G H l m p q = record {
  acts = λ t. p.acts t ∙ q.acts t;
  there = λ i j h. q.there i j (sym ((equivalent_state cells F G l p).1 i j) ∙ h);
  back = λ i j h. p.back i j ((equivalent_state cells G H m q).1 i j ∙ h);
}

-- ---- what it retains

-- one more event
pub equivalent_more : (cells : Cells) (v : Event) (G H : History) → Legal cells (v ∷ H) → Equivalent G H → Equivalent (v ∷ G) (v ∷ H)
equivalent_more cells v G H l q =
    equivalent_sym (run_equivalent cells l (runs.more v (equivalent_run cells G H l.0 q)))

run_length : {G H : History} → Run G H → length G ≡ length H
run_length (runs.same H) = refl
run_length (runs.more v r) = ap suc (run_length r)
run_length (runs.swap e f H n) = refl
run_length (runs.by_way r q) = run_length r ∙ run_length q

-- the count of events
pub equivalent_length : (cells : Cells) (G H : History) → Legal cells H → Equivalent G H → length G ≡ length H
equivalent_length cells G H l q = sym (run_length (equivalent_run cells G H l q))

parts_length : {A : Type 0} {xs ks rs : List A} → Parts xs ks rs → length xs ≡ length ks + length rs
parts_length parts.none = refl
parts_length (parts.stays s) = omega (arith, parts_length s)
parts_length (parts.goes s) = omega (arith, parts_length s)

-- what goes and what stays are the whole
pub in_two : (e : StepId) (H : History) → length H ≡ length (without e H) + length (removed e H)
in_two e H = parts_length (in_parts e H)

-- whether nothing needs a step
pub equivalent_unneeded : (cells : Cells) (e : StepId) (G H : History) → Legal cells H → Equivalent G H → IsUnneeded e G → IsUnneeded e H
equivalent_unneeded cells e G H l q h =
    let r = equivalent_run cells G H l q in
    omega (arith, in_two e G, in_two e H, run_length r, run_length (left cells e l r).run, h)
