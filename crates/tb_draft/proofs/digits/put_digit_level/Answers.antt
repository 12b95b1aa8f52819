use Rattle.std.proofs.Common.{◌≡◌, ◌+◌, ◌-◌, ◌∷◌, ◌++◌, set, drop, arith, subst}
use Rattle.std.specs.Fmt.{decimal}
use Rattle.std.proofs.lemmas.Fmt.{decimal_digit}
use Rattle.std.proofs.lemmas.List.{drop-set, length-set}
use Rattle.tb_draft.proofs.ShortTextLemmas.{dot_put}
use Rattle.tb_draft.proofs.digits.put_digit_level.Goals as goal

pub returns : goal.returns
returns c =
    let e : c.args.end - 1 + 1 ≡ c.args.end = omega arith in
    let digit : drop (c.args.end - 1) (set c.args.bytes.now (c.args.end - 1) (48 + c.args.n)) ≡ decimal c.args.n ++ drop c.args.end c.args.bytes.now =
    rw (drop-set c.args.bytes.now (c.args.end - 1) _ (omega arith), e, decimal_digit c.args.n c.requires.0) in
    let dotted = dot_put (c.args.end - 1) (set c.args.bytes.now (c.args.end - 1) (48 + c.args.n)) (drop c.args.end c.args.bytes.now) c.args.n (omega arith) (omega (arith, length-set c.args.bytes.now (c.args.end - 1) (48 + c.args.n))) digit in
    let two : c.args.end - 1 - 1 ≡ c.args.end - 2 = omega arith in
    subst (λ k. drop k (set (set c.args.bytes.now (c.args.end - 1) (48 + c.args.n)) k 46) ≡ 46 ∷ decimal c.args.n ++ drop c.args.end c.args.bytes.now) two dotted
