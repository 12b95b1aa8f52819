-- What ends a worker.
use Rattle.std.proofs.Common.{ℕ, ◌≡◌, ◌<◌, ◌+◌, List, length, get_or, ⊎_elim, inr, Some, sym, subst, ◌∙◌, arith}
use Rattle.std.proofs.lemmas.Bool.{cases_lt}
use Rattle.std.proofs.lemmas.List.{get_or_default}
use Rattle.tb_model.specs.declared.entry.Entry.{Entry}
use Rattle.tb_model.specs.Program.{Program}
use Rattle.tb_plan.specs.declared.planned.Plan.{Plan}
use Rattle.tb_live.specs.declared.commit_refusal.CommitRefusal.{CommitRefusal}
use Rattle.tb_live.specs.Breaks.{Points}
use Rattle.tb_work.specs.declared.burst.Burst.{Burst}
use Rattle.tb_work.specs.declared.ended.Ended.TheVariants.{Well, CellTaken, Memory}
use Rattle.tb_work.specs.declared.refused.Refused.{Refused}
use Rattle.tb_work.specs.declared.turn.Turn.{Turn}
use Rattle.tb_work.specs.declared.turn.Turn.TheVariants.{On, Later, Over}
use Rattle.tb_work.specs.Answering.{IsAnswer}
use Rattle.tb_work.specs.Bursts.{TakesBurst}
use Rattle.tb_work.specs.Ending.{IsTurn}
use Rattle.tb_work.specs.Going.{turn_behind}

module _ (P : Program) (limit : ℕ) (points : Points) (seats : ℕ) (begun : List Entry) (seat : ℕ) where
  -- after the refusal of a burst
  pub ends_behind : (ps : List Plan) (b : Burst) (r : Refused CommitRefusal) (t : Turn) → IsAnswer P limit points seats begun (TakesBurst seat ps b)
      → b.refusal ≡ Some r → turn_behind r ≡ t → IsTurn P limit points seats begun seat t
  ends_behind ps b r On a refused behind = tt
  ends_behind ps b r Later a refused behind = tt
  ends_behind ps b r (Over Well) a refused behind =
      record { old = a.old; new = a.new; team = a.team; right = inr (inr (record { plans = ps; burst = b; refusal = r; refused = refused; behind = behind; takes = a.right })) }
  ends_behind ps b r (Over CellTaken) a refused behind =
      record { old = a.old; new = a.new; team = a.team; right = record { plans = ps; burst = b; refusal = r; refused = refused; behind = behind; takes = a.right } }
  ends_behind ps b r (Over Memory) a refused behind = record { old = a.old; new = a.new; team = a.team; right = tt }

-- of one more
pub each_more : {X : Type 0} (P : X → Type 0) (xs : List X) (n : ℕ) (x : X) → n < length xs → x ≡ get_or xs n x → ((k : ℕ) (d : X) → k < n → P (get_or xs k d)) → P x
    → (k : ℕ) (d : X) → k < n + 1 → P (get_or xs k d)
each_more P xs n x within here before one k d lt =
    ⊎_elim
    (λ less. before k d less)
    (λ least.
    let same : k ≡ n = omega (arith, lt, least) in
    subst (λ j. P (get_or xs j d)) (sym same) (subst P (here ∙ get_or_default xs n x d within) one))
    (cases_lt k n)
