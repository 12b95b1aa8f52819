-- One pass over the events finds whether all direct needs come in order.
use Rattle.std.proofs.Common.{◌≡◌, suc, [], ◌∷◌, Bool, true, false, ◌&&◌, ◌||◌, not, ⊎_elim, refl, sym, ap, ◌∙◌, subst, length, ◌==◌, eqb-true}
use Rattle.std.proofs.lemmas.Bool.{or_cases, or_left, or_right, and_parts, and_from, false≢true}
use Rattle.tb_model.specs.declared.event.Event.{Event}
use Rattle.tb_model.specs.Facts.{History, own, is_of}
use Rattle.tb_model.specs.declared.step_id.StepId.{StepId}
use Rattle.tb_model.specs.Needs.{needs, is_step, step_of}
use Rattle.tb_model.specs.Equivalent.{comes_first, needs_step, needs_in}
use Rattle.tb_model.specs.Ordered.{all_first, ordered}
use Rattle.tb_model.proofs.TestLemmas.{same_true}
use Rattle.tb_model.proofs.RemovalLemmas.{its_step}

-- an event that is a step has its id
pub the_step : (i : StepId) (K : History) (u : Event) → is_step i K u ≡ true → step_of K u ≡ i
the_step i K u h =
    let o = and_parts (is_of i.task u) (i.k == suc (length (own i.task K))) h in
    let t = same_true u.task i.task o.0 in
    let k : suc (length (own u.task K)) ≡ i.k = ap (λ w. suc (length (own w K))) t ∙ sym (eqb-true i.k _ o.1) in
    λ x. record { task = t x; k = k x }

-- what passes not (a) || b, where a holds
then_holds : (a b : Bool) → (not a || b) ≡ true → a ≡ true → b ≡ true
then_holds true b h e = h
then_holds false b h e = absurd (false≢true e)

holds_if : (a b : Bool) → (a ≡ true → b ≡ true) → (not a || b) ≡ true
holds_if true b f = f refl
holds_if false b f = refl

one_first : (H : History) (i : StepId) (F : History) (v : Event) (K : History) → all_first H i F v K ≡ true → (j : StepId) → needs_step F v j K ≡ true → comes_first j i H ≡ true
one_first H i F v [] a j h = absurd (false≢true h)
one_first H i F v (u ∷ K) a j h =
    let o = and_parts (not (needs F v u) || comes_first (step_of K u) i H) (all_first H i F v K) a in
    ⊎_elim
    (λ q.
    let p = and_parts (is_step j K u) (needs F v u) q in
    subst (λ s. comes_first s i H ≡ true) (the_step j K u p.0) (then_holds (needs F v u) _ o.0 p.1))
    (λ q. one_first H i F v K o.1 j q)
    (or_cases (is_step j K u && needs F v u) _ h)

all_of : (H : History) (i : StepId) (F : History) (v : Event) (K : History) → ((j : StepId) → needs_step F v j K ≡ true → comes_first j i H ≡ true) → all_first H i F v K ≡ true
all_of H i F v [] f = refl
all_of H i F v (u ∷ K) f =
    and_from (not (needs F v u) || comes_first (step_of K u) i H) (all_first H i F v K)
    (holds_if (needs F v u) _ (λ n. f (step_of K u) (or_left (is_step (step_of K u) K u && needs F v u) _ (and_from (is_step (step_of K u) K u) (needs F v u) (its_step K u) n))))
    (all_of H i F v K (λ j h. f j (or_right (is_step j K u && needs F v u) _ h)))

-- what the pass accepts is ordered
pub in_order : (H G : History) → ordered H G ≡ true → (i j : StepId) → needs_in i j G ≡ true → comes_first j i H ≡ true
in_order H [] o i j h = absurd (false≢true h)
in_order H (v ∷ G) o i j h =
    let p = and_parts (all_first H (step_of G v) G v G) (ordered H G) o in
    ⊎_elim
    (λ q.
    let r = and_parts (is_step i G v) (needs_step G v j G) q in
    subst (λ s. comes_first j s H ≡ true) (the_step i G v r.0) (one_first H (step_of G v) G v G p.0 j r.1))
    (λ q. in_order H G p.1 i j q)
    (or_cases (is_step i G v && needs_step G v j G) _ h)

-- what is ordered it accepts
pub from_order : (H G : History) → ((i j : StepId) → needs_in i j G ≡ true → comes_first j i H ≡ true) → ordered H G ≡ true
from_order H [] f = refl
from_order H (v ∷ G) f =
    and_from (all_first H (step_of G v) G v G) (ordered H G)
    (all_of H (step_of G v) G v G (λ j h. f (step_of G v) j (or_left (is_step (step_of G v) G v && needs_step G v j G) _ (and_from (is_step (step_of G v) G v) (needs_step G v j G) (its_step G v) h))))
    (from_order H G (λ i j h. f i j (or_right (is_step i G v && needs_step G v j G) _ h)))
