-- Which task each seat claims, and when a claim is withdrawn.
use Rattle.std.specs.Prelude.{◌≡◌, ◌≢◌, ◌<◌, ◌≤◌, ℕ, List, Bool, ◌||◌, map, length, Option, Some, None, slice_index_or, slice_set, if◌then◌else◌}
use Rattle.std.specs.List.{list_any}
use Rattle.tb_model.specs.Names.{Name, same_name}
use Rattle.tb_model.specs.Facts.{History, IsSpawned, is_spawn_of}
use Rattle.tb_core.specs.declared.removed.Removed.{Removed}

-- the claim of each seat
abbrev pub Claims : Type 0
Claims = List (Option Name)

abbrev pub claim_of : Claims → ℕ → Option Name
claim_of claims seat = slice_index_or claims seat None

-- the seat has this claim in place of its former one
abbrev pub with_claim : Claims → ℕ → Option Name → Claims
with_claim claims seat claim = slice_set claims seat claim

-- no seat from this one on claims a task
abbrev pub AreFreeFrom : ℕ → Claims → Type 0
AreFreeFrom end claims = (seat : ℕ) → end ≤ seat → claim_of claims seat ≡ None

-- another seat claims the task, this one
pub record IsHeldBeside (claims : Claims) (seat : ℕ) (t : Name) (other : ℕ) : Type 0 where
  pub within : other < length claims
  pub other_than : other ≢ seat
  pub claims_it : claim_of claims other ≡ Some t

-- no other seat claims the task
abbrev pub IsFreeBeside : Claims → ℕ → Name → Type 0
IsFreeBeside claims seat t = (other : ℕ) → claim_of claims other ≡ Some t → other ≡ seat

-- a claim, unless its task passes the test
abbrev pub unless : (Name → Bool) → Option Name → Option Name
unless p None = None
unless p (Some t) = if p t then None else Some t

-- the claims on tasks that pass are withdrawn
abbrev pub withdrawn : (Name → Bool) → Claims → Claims
withdrawn p claims = map (unless p) claims

-- the removed step is one of the task, or generated it
abbrev pub hits : Name → Removed → Bool
hits t r = same_name r.id.task t || is_spawn_of t r.action

abbrev pub is_hit : List Removed → Name → Bool
is_hit removed t = list_any (hits t) removed

-- each claim is on a task that is there, and no task is claimed by two
pub record AreLawful (H : History) (claims : Claims) : Type 0 where
  pub there : (seat : ℕ) (t : Name) → claim_of claims seat ≡ Some t → IsSpawned H t
  pub apart : (seat other : ℕ) (t : Name) → claim_of claims seat ≡ Some t → claim_of claims other ≡ Some t → seat ≡ other
