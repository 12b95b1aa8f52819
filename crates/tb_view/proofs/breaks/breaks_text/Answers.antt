use Rattle.std.proofs.Common.{◌++◌, ◌∙◌, ap, sym, refl, codes, ℕ, List}
use Rattle.std.specs.Fmt.{decimal}
use Rattle.tb_view.specs.Lines.{line}
use Rattle.tb_view.specs.Listing.{joined, lines_of}
use Rattle.tb_view.specs.Breaks.{break_line}
use Rattle.tb_view.proofs.ListingLemmas.{one_each}
use Rattle.tb_view.proofs.breaks.breaks_text.Goals as goal

pub breakpoints-init : goal.breakpoints-init
breakpoints-init c =
    let points = c.args.breakpoints.now in
    let f = break_line c.args.program.now in
    ap (λ (text : List ℕ). text ++ joined (lines_of f points)) (c.in_ok-text.ensures.ok ∙ ap (λ n. line (codes "breaks " ++ decimal n)) (sym (one_each f (λ b. refl) points)))
