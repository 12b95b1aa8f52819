use Rattle.std.proofs.Common.{◌∙◌, ◌++◌, ap, string_bytes}
use Rattle.tb_model.specs.Spelling.{levels_text}
use Rattle.tb_model.proofs.BlockLemmas.{others}
use Rattle.tb_model.proofs.NumberTextLemmas.{block_more, blocks_begin, blocks_all, begins_too, on_ok}
use Rattle.tb_model.proofs.name_text.append_name.Goals as goal

pub blocks-2-preserved : goal.blocks-2-preserved
blocks-2-preserved c =
    let named = block_more (string_bytes c.args.text.now) c.numbers.inside.far.now c.blocks-2.rest.now (string_bytes c.blocks-2.text) (string_bytes c.append_levels.new.text) c.as_slice.result.now c.block-item.result
    c.in-len1-up.len_at_least c.block-item.is c.as_slice.ensures.is c.blocks-2.invariant.named c.in_ok-append_levels.ensures.ok
    in record {
      named = named;
      begins = blocks_begin (string_bytes c.args.text.now) c.numbers.inside.far.now (others c.blocks-2.rest.now) (string_bytes c.append_levels.new.text) named;
    }

pub returns-clause-ok : goal.returns-clause-ok
returns-clause-ok c =
    on_ok c.append_levels-2.result
    (blocks_all (string_bytes c.args.text.now) c.numbers.inside.near c.numbers.inside.far.now c.blocks-2.rest.now c.args.numbers.now (string_bytes c.blocks-2.text) (string_bytes c.append_levels-2.new.text)
    c.numbers.view_is c.in_default.len_below c.blocks-2.invariant.named)
    (on_ok c.append_levels-2.result (λ told. told ∙ ap (λ n. string_bytes c.blocks-2.text ++ levels_text n) c.as_slice-2.ensures) c.append_levels-2.ensures.ok)

pub returns-clause-begins : goal.returns-clause-begins
returns-clause-begins c = begins_too _ _ _ c.blocks-2.invariant.begins c.append_levels-2.ensures.begins
