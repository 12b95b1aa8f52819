-- The number that a name gives a hasher, by which tables of tasks look it up.
use Rattle.std.specs.Prelude.{◌+◌, ◌-◌, ◌*◌, ◌%◌, ◌^◌, ℕ, List, [], ◌∷◌, length, take, drop, nat_le, if◌then◌else◌}
use Rattle.tb_model.specs.Names.{Name}

-- the number with these mixed in, one after the other
abbrev pub mixed : ℕ → List ℕ → ℕ
mixed digest [] = digest
mixed digest (n ∷ ns) = mixed (((digest * 2654435769) % 2 ^ 32 + n) % 2 ^ 32) ns

-- of a deep name the sixteen ordinals nearest to the task, and the eight nearest to the root
abbrev pub digest_of : ℕ → Name → ℕ
digest_of depth t =
    if nat_le (length t) 24 then mixed depth t
    else mixed (mixed depth (take 16 t)) (drop (length t - 8) t)

abbrev pub digest : Name → ℕ
digest t = digest_of (length t % 2 ^ 32) t
