use Rattle.std.proofs.Common.{◌∙◌, sym, ap}
use Rattle.tb_read.specs.Headings.{heading_of}
use Rattle.tb_read.specs.Word.{same_word}
use Rattle.tb_read.proofs.HeadingLemmas.{lookup_named}
use Rattle.tb_read.proofs.heading.Headings.get.Goals as goal

pub returns : goal.returns
returns c =
    let name = c.args.name.now in
    c.copied.ensures ∙ c.get.ensures.value ∙ sym (lookup_named (same_word name) c.self.inside.by_name.entries) ∙ ap (λ h. heading_of h name) c.self.view_is
