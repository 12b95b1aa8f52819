-- Plans that follow one another.
use Rattle.std.proofs.Common.{◌≡◌, ◌∙◌, ℕ, zero, suc, ◌+◌, ◌-◌, ◌<◌, List, [], ◌∷◌, ◌++◌, Some, None, ap, sym, subst, arith}
use Rattle.tb_plan.specs.declared.instr.Instr.{Instr}
use Rattle.tb_plan.specs.declared.config.Config.{Config}
use Rattle.tb_plan.specs.declared.planned.Plan.{Plan}
use Rattle.tb_plan.specs.declared.strip.Strip.{Strip}
use Rattle.tb_plan.specs.Bursts.{Follow, IsBurst, IsFollower}

pub pushed_before : {A : Type 0} (xs : List A) (x : A) (ys : List A) → xs ++ x ∷ ys ≡ (xs ++ x ∷ []) ++ ys
pushed_before [] x ys = cc
pushed_before (z ∷ xs) x ys = ap (λ more. z ∷ more) (pushed_before xs x ys)

-- a plan without more than so many that follow it is the burst's last
pub burst_all : (most at : ℕ) (s : Strip) (i : Instr) (c : Config) (p : Plan) (ps qs : List Plan) → qs ≡ ps ++ p ∷ [] →
    Follow (most - at) s p [] →
    ((rest : List Plan) → Follow (most - at) s p rest → IsBurst most s i c (ps ++ p ∷ rest)) →
    IsBurst most s i c qs
burst_all most at s i c p ps qs e last so = subst (IsBurst most s i c) (sym e) (so [] last)

pub none_follows : (n : ℕ) (s : Strip) (p : Plan) → IsFollower s p None → Follow n s p []
none_follows zero s p h = cc
none_follows (suc n) s p h = h

pub none_left : (n : ℕ) (s : Strip) (p : Plan) → n ≡ 0 → Follow n s p []
none_left zero s p e = cc
none_left (suc n) s p e = absurd (omega (arith, e))

-- one plan more
pub burst_more : (most at : ℕ) (s : Strip) (i : Instr) (c : Config) (p q : Plan) (ps qs : List Plan) → at < most → qs ≡ ps ++ p ∷ [] → IsFollower s p (Some q) →
    ((rest : List Plan) → Follow (most - at) s p rest → IsBurst most s i c (ps ++ p ∷ rest)) →
    (rest : List Plan) → Follow (most - (at + 1)) s q rest → IsBurst most s i c (qs ++ q ∷ rest)
burst_more most at s i c p q ps qs within e follows so rest more =
    let left : suc (most - (at + 1)) ≡ most - at = omega (arith, within) in
    let whole : IsBurst most s i c (ps ++ p ∷ q ∷ rest) = so (q ∷ rest) (subst (λ n. Follow n s p (q ∷ rest)) left (follows, more)) in
    subst (IsBurst most s i c) (pushed_before ps p (q ∷ rest) ∙ ap (λ (done : List Plan). done ++ q ∷ rest) (sym e)) whole
