use Rattle.std.proofs.Common.{◌≡◌, ◌∙◌, ◌==◌, ap₂, sym, false, ne_eqb}
use Rattle.tb_model.specs.Names.{same_name}
use Rattle.tb_model.proofs.FewLemmas.{by_bytes, by_count}
use Rattle.tb_model.proofs.few.Few.is_same.Goals as goal

pub returns-then-self-other : goal.returns-then-self-other
returns-then-self-other c =
    c.are_all_same.ensures ∙ by_bytes c.self.invariant c.other.invariant c.self.told c.other.told c.if-self-other.true
    ∙ ap₂ same_name c.self.view_is c.other.view_is

pub returns-else-self-other : goal.returns-else-self-other
returns-else-self-other c =
    let unlike : (c.self.inside.count == c.other.inside.count) ≡ false = ne_eqb _ _ c.if-self-other.false in
    unlike ∙ sym (by_count c.self.invariant c.other.invariant c.self.told c.other.told c.if-self-other.false)
    ∙ ap₂ same_name c.self.view_is c.other.view_is
