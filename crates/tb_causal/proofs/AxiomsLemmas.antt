-- The runs of a program meet the axioms.
use Rattle.std.proofs.Common.{◌≡◌, ◌⊎◌, inl, inr, suc, [], ◌∷◌, length, Bool, true, false, ◌&&◌, not, refl, subst, ap, ◌∙◌, sym, arith, Some, ◌==◌, eqb-true, eq-eqb}
use Rattle.std.proofs.lemmas.Bool.{false≢true, and_parts, and_from, both_ways}
use Rattle.tb_model.specs.declared.step_id.StepId.{StepId}
use Rattle.tb_model.specs.declared.action.Action.{Action}
use Rattle.tb_model.specs.Names.{same_name}
use Rattle.tb_model.specs.Facts.{History, own}
use Rattle.tb_model.specs.Needs.{step_of}
use Rattle.tb_model.specs.Program.{Program}
use Rattle.tb_model.proofs.TestLemmas.{same_true, same_refl}
use Rattle.tb_causal.specs.Axioms.{Axioms, Back}
use Rattle.tb_causal.specs.Runs.{Label, Step, Undo, Enabled, target, inverse, is_undo, kth, Independent, runs}
use Rattle.tb_causal.proofs.StateLemmas.{equivalent_refl, equivalent_sym, equivalent_trans, equivalent_length, in_two}
use Rattle.tb_causal.proofs.StandingLemmas.{unneeded_none}
use Rattle.tb_causal.proofs.TransitionLemmas.{kept, congruent, loop, square, back_at}

pub inverse_twice : (l : Label) → inverse (inverse l) ≡ l
inverse_twice (Step i a) = refl
inverse_twice (Undo i a) = refl

turns : (l : Label) → is_undo (inverse l) ≡ not (is_undo l)
turns (Step i a) = refl
turns (Undo i a) = refl

same_id : (i j : StepId) → (same_name i.task j.task && (i.k == j.k)) ≡ true → i ≡ j
same_id i j h =
    let o = and_parts (same_name i.task j.task) (i.k == j.k) h in
    let t = same_true i.task j.task o.0 in
    let n = eqb-true i.k j.k o.1 in λ x. record { task = t x; k = n x }

same_undo : (P : Program) (H : History) (i : StepId) (a : Action) (j : StepId) (b : Action) → i ≡ j → kth i.k (own i.task H) ≡ Some a → kth j.k (own j.task H) ≡ Some b → Undo i a ≡ Undo j b
same_undo P H i a j b q s t =
    let c : a ≡ b = cc (sym s ∙ ap (λ y. kth y.k (own y.task H)) q ∙ t) in λ x. Undo (q x) (c x)

-- two undos from one state are one, or independent
pub one_or_independent : (P : Program) (H : History) (l m : Label) → Enabled P H l → Enabled P H m → is_undo l ≡ true → is_undo m ≡ true → (l ≡ m) ⊎ Independent H l m
one_or_independent P H (Step i a) m s t u w = absurd (false≢true u)
one_or_independent P H (Undo i a) (Step j b) s t u w = absurd (false≢true w)
one_or_independent P H (Undo i a) (Undo j b) s t u w = at (same_name i.task j.task && (i.k == j.k)) refl
  where
    at : (x : Bool) → (same_name i.task j.task && (i.k == j.k)) ≡ x → (Undo i a ≡ Undo j b) ⊎ Independent H (Undo i a) (Undo j b)
    at true e = let q = same_id i j e in inl (same_undo P H i a j b q s.1 t.1)
    at false e =
        inr (λ q. both_ways _ e (and_from (same_name i.task j.task) (i.k == j.k) (subst (λ y. same_name i.task y.task ≡ true) q (same_refl i.task)) (eq-eqb i.k j.k (ap (λ y. y.k) q))), unneeded_none j H t.0 i, unneeded_none i H s.0 j)

-- an undo makes the run shorter by one
pub shrinks : (P : Program) (H : History) (l : Label) → Enabled P H l → is_undo l ≡ true → suc (length (target H l)) ≡ length H
shrinks P H (Step i a) s u = absurd (false≢true u)
shrinks P H (Undo i a) s u = omega (arith, in_two i H, s.0)

grows : (H : History) (l : Label) → is_undo l ≡ false → length (target H l) ≡ suc (length H)
grows H (Step i a) u = refl
grows H (Undo i a) u = absurd (false≢true (sym u))

ground : (P : Program) (H : History) → (length H ≡ 0) ⊎ Back (runs P) H
ground P [] = inl refl
ground P (v ∷ H) = inr (record { label = Undo (step_of H v) v.action; enabled = back_at P H v; backward = refl })

pub axioms : (P : Program) → Axioms (runs P)
axioms P = record {
  refl = λ H s. equivalent_refl P.cells H s.0;
  sym = λ G H q. equivalent_sym q;
  trans = λ F G H s t p q. equivalent_trans P.cells F G H s.0 t.0 p q;
  kept = λ H l s e. kept P H l s e;
  congruent = λ G H l s t q e. congruent P G H l s t q e;
  twice = inverse_twice;
  turns = turns;
  loop = λ H l s e. loop P H l s e;
  square = λ H l m s a b i. square P H l m s a b i;
  backward = λ H l m s a b u w. one_or_independent P H l m a b u w;
  size = λ H. length H;
  same_size = λ G H s t q. equivalent_length P.cells G H t.0 q;
  shrinks = λ H l s e u. shrinks P H l e u;
  grows = λ H l s e u. grows H l u;
  ground = λ H s. ground P H;
}
