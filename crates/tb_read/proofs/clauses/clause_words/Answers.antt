use Rattle.std.proofs.Common.{◌≡◌, ◌∙◌, sym, ap, map, take, drop, length, ◌-◌}
use Rattle.std.proofs.Math.Seq.{take-length}
use Rattle.std.proofs.lemmas.List.{drop-map, length-drop}
use Rattle.tb_read.proofs.clauses.clause_words.Goals as goal

pub returns : goal.returns
returns c =
    let behind = drop c.argument_count.result c.args.words.now in
    let whole : take (length c.args.words.now - c.argument_count.result) behind ≡ behind = ap (λ n. take n behind) (sym (length-drop c.argument_count.result c.args.words.now)) ∙ take-length behind in
    ap (map (λ word. word.now)) whole ∙ sym (drop-map (λ word. word.now) c.argument_count.result c.args.words.now) ∙ ap (λ n. drop n (map (λ word. word.now) c.args.words.now)) c.argument_count.ensures.count
