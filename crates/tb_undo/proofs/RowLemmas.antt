-- The registers of a task that was just generated.
use Rattle.std.proofs.Common.{◌≡◌, ◌≤◌, ◌-◌, ◌+◌, List, ◌++◌, length, sym, ap, ◌∙◌, ℤ, arith, replicate, take, drop}
use Rattle.std.proofs.Math.Seq.{take-append-add}
use Rattle.std.proofs.lemmas.List.{drop-replicate, take-replicate}
use Rattle.tb_model.specs.Program.{zero_ℤ}

-- what is left of sixteen zeros after the arguments
pub padded : (args : List ℤ) → length args ≤ 16 → args ++ drop (length args) (replicate 16 zero_ℤ) ≡ take 16 (args ++ replicate 16 zero_ℤ)
padded args h =
    let zeros = replicate 16 zero_ℤ in
    let less : 16 - length args ≤ 16 = omega arith in
    let all : length args + (16 - length args) ≡ 16 = omega (arith, h) in
    ap (λ zs. args ++ zs) (drop-replicate (length args) 16 zero_ℤ ∙ sym (take-replicate (16 - length args) 16 zero_ℤ less))
    ∙ sym (take-append-add args zeros (16 - length args))
    ∙ ap (λ n. take n (args ++ zeros)) all
