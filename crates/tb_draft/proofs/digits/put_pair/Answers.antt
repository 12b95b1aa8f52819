use Rattle.std.proofs.Common.{◌≡◌, ◌+◌, ◌%◌, set, arith, length-set}
use Rattle.std.proofs.lemmas.List.{set_comm, drop-set}
use Rattle.tb_draft.proofs.DigitLemmas.{pair_at}
use Rattle.tb_draft.proofs.digits.put_pair.Goals as goal

pub returns : goal.returns
returns c =
    let p = pair_at c.args.pair c.requires.0 in
    let at = c.args.at in
    let bytes = c.args.bytes.now in
    let ones = 48 + c.args.pair % 10 in
    let e : at + 1 + 1 ≡ at + 2 = omega arith in
    rw (p.0, p.1, set_comm bytes at (at + 1) _ _ (λ x. omega arith), drop-set (set bytes (at + 1) ones) at _ (omega (arith, length-set bytes (at + 1) ones)), drop-set bytes (at + 1) _ (omega arith), e)
