use Rattle.std.proofs.Common.{refl}
use Rattle.tb_stream.proofs.NewLemmas.{half_none}
use Rattle.tb_stream.proofs.half.Half.new.Goals as goal

pub returns : goal.returns
returns c r begins =
    half_none c.args.exclusion _ refl c.in_ok-no_clocks.ensures.newest c.in_ok-no_clocks.ensures.origins c.in_ok-no_clocks.ensures.lasts c.new.ensures.items c.new-2.ensures.empty c.new-3.ensures.empty r begins
