use Rattle.std.proofs.Common.{◌∙◌, sym, ap, map, take}
use Rattle.std.proofs.lemmas.List.{take-map}
use Rattle.tb_read.proofs.clauses.arguments.Goals as goal

pub returns : goal.returns
returns c = sym (take-map (λ word. word.now) c.argument_count.result c.args.words.now) ∙ ap (λ n. take n (map (λ word. word.now) c.args.words.now)) c.argument_count.ensures.count
