use Rattle.std.proofs.Common.{◌≡◌, ◌∙◌, ◌+◌, ◌*◌, ◌%◌, ◌^◌, ◌-◌, ◌++◌, take, drop, refl, ap, length, arith, length-append}
use Rattle.std.specs.Prelude.{slice_index_or}
use Rattle.tb_model.specs.NameHash.{digest_of, mixed}
use Rattle.tb_model.specs.Blocks.{far_numbers}
use Rattle.tb_model.proofs.BlockLemmas.{far_length}
use Rattle.tb_model.proofs.BlockHashLemmas.{deep_digest}
use Rattle.tb_model.proofs.name_hash.of_parts.Goals as goal

pub returns-in-len1-up : goal.returns-in-len1-up
returns-in-len1-up c =
    let near = c.numbers.inside.near in
    let far = c.numbers.inside.far.now in
    let long : length near + length far * 128 ≡ length c.args.numbers.now =
    omega (arith, far_length far c.numbers.invariant.full, length-append near (far_numbers far), ap length c.numbers.view_is) in
    c.of_blocks.ensures
    ∙ ap (λ n. mixed (mixed ((length n + length far * 128) % 2 ^ 32) (take 16 (n ++ c.as_slice.result.now))) (drop 120 c.as_slice-in-len1-up.result.now)) c.as_slice-near.ensures
    ∙ deep_digest near far (slice_index_or far (length far - 1) c.index-numbers-numbers.result) c.root-item.result c.as_slice.result.now c.as_slice-in-len1-up.result.now _
    ((length near + length far * 128) % 2 ^ 32) c.args.numbers.now c.numbers.invariant c.numbers.view_is c.in-len1-up.len_at_least
    refl c.root-item.is c.as_slice.ensures.is c.as_slice.ensures.full c.as_slice-in-len1-up.ensures.is c.as_slice-in-len1-up.ensures.full
    ∙ ap (λ n. digest_of (n % 2 ^ 32) c.args.numbers.now) long
