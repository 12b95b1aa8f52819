-- A start without depend items waits for nobody.
use Rattle.std.proofs.Common.{◌≡◌, List, [], Bool, true, false, not, ◌==◌, ◌&&◌, ◌||◌, length, refl, ap, sym, ◌∙◌, None, eqb-true}
use Rattle.std.proofs.lemmas.Bool.{false≢true}
use Rattle.std.proofs.lemmas.List.{nil_from_length}
use Rattle.std.specs.Option.{option_or}
use Rattle.tb_model.specs.declared.action.Action.TheVariants.{Start}
use Rattle.tb_model.specs.declared.item.Item.{Item}
use Rattle.tb_model.specs.Facts.{History, items_of}
use Rattle.tb_model.specs.Items.{is_before, is_apart, some_meet}
use Rattle.tb_model.specs.Names.{Name, is_elder}
use Rattle.tb_model.proofs.SiblingsLemmas.{meets_none}
use Rattle.tb_races.specs.declared.need_kind.NeedKind.TheVariants.{Before, Apart}
use Rattle.tb_races.specs.Kinds.{some_if, wait_kind}

pub none_listed : (items : List Item) (empty : Bool) → empty ≡ (length items == 0) → not empty ≡ false → items ≡ []
none_listed items true is e = nil_from_length items (eqb-true (length items) 0 (sym is))
none_listed items false is e = absurd (false≢true (sym e))

no_kind : (a b p q r : Bool) → p ≡ false → q ≡ false → r ≡ false → option_or (some_if (a && p) Before) (some_if ((a && q) || (b && r)) Apart) ≡ None
no_kind true true p q r x y z = rw (x, y, z) refl
no_kind true false p q r x y z = rw (x, y) refl
no_kind false true p q r x y z = rw z refl
no_kind false false p q r x y z = refl

pub waits_for_none : (H : History) (t u : Name) (items : List Item) → items ≡ [] → items ≡ items_of t H → wait_kind H t Start u ≡ None
waits_for_none H t u items e is =
    let none : items_of t H ≡ [] = sym is ∙ e in
    no_kind (is_elder u t) (is_elder t u) _ _ _
    (ap (λ (own : List Item). some_meet is_before own (items_of u H)) none)
    (ap (λ (own : List Item). some_meet is_apart own (items_of u H)) none)
    (ap (some_meet is_apart (items_of u H)) none ∙ meets_none is_apart (items_of u H))
