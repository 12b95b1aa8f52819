-- What is in a line after a piece was put in front of it.
use Rattle.std.proofs.Common.{◌≡◌, ℕ, ◌+◌, ◌-◌, ◌≤◌, List, [], ◌∷◌, ◌++◌, ℤ, length, take, drop, get_or, refl, ap, sym, ◌∙◌, arith, append_assoc, append-nil, take-append-drop, codes}
use Rattle.std.proofs.lemmas.List.{drop_more, drop_all}
use Rattle.std.specs.Fmt.{signed_decimal}
use Rattle.tb_model.specs.declared.item.Item.{Item}
use Rattle.tb_view.specs.Step.{item_text, items_text, args_text}

last_more : {X : Type 0} → (xs : List X) (d : X) → 1 ≤ length xs → take (length xs - 1) xs ++ (get_or xs (length xs - 1) d ∷ []) ≡ xs
last_more xs d some =
    let at = length xs - 1 in
    let last : drop at xs ≡ get_or xs at d ∷ [] =
    drop_more xs at d (omega (arith, some)) ∙ ap (λ x. get_or xs at d ∷ x) (drop_all (at + 1) xs (omega (arith, some))) in
    ap (λ x. take at xs ++ x) (sym last) ∙ take-append-drop at xs

items_both : (a b : List Item) → items_text (a ++ b) ≡ items_text a ++ items_text b
items_both [] b = refl
items_both (i ∷ a) b = ap (λ x. item_text i ++ x) (items_both a b) ∙ sym (append_assoc (item_text i) (items_text a) (items_text b))

args_both : (a b : List ℤ) → args_text (a ++ b) ≡ args_text a ++ args_text b
args_both [] b = refl
args_both (x ∷ a) b = ap (λ t. (codes " " ++ signed_decimal x) ++ t) (args_both a b) ∙ sym (append_assoc (codes " " ++ signed_decimal x) (args_text a) (args_text b))

-- the last item was put in front of the text so far
pub item_put : (items : List Item) (d : Item) (text new whole : List ℕ) → 1 ≤ length items → new ≡ item_text (get_or items (length items - 1) d) ++ text
    → items_text items ++ text ≡ whole → items_text (take (length items - 1) items) ++ new ≡ whole
item_put items d text new whole some put is =
    let front = take (length items - 1) items in
    let last = get_or items (length items - 1) d in
    let both : items_text items ≡ items_text front ++ item_text last =
    ap items_text (sym (last_more items d some)) ∙ items_both front (last ∷ []) ∙ ap (λ x. items_text front ++ x) (append-nil (item_text last)) in
    ap (λ x. items_text front ++ x) put ∙ sym (append_assoc (items_text front) (item_text last) text) ∙ ap (λ x. x ++ text) (sym both) ∙ is

-- the last argument was put in front of the text so far
pub arg_put : (args : List ℤ) (d : ℤ) (text new whole : List ℕ) → 1 ≤ length args → new ≡ (codes " " ++ signed_decimal (get_or args (length args - 1) d)) ++ text
    → args_text args ++ text ≡ whole → args_text (take (length args - 1) args) ++ new ≡ whole
arg_put args d text new whole some put is =
    let front = take (length args - 1) args in
    let last = codes " " ++ signed_decimal (get_or args (length args - 1) d) in
    let both : args_text args ≡ args_text front ++ last =
    ap args_text (sym (last_more args d some)) ∙ args_both front (get_or args (length args - 1) d ∷ []) ∙ ap (λ x. args_text front ++ x) (append-nil last) in
    ap (λ x. args_text front ++ x) put ∙ sym (append_assoc (args_text front) last text) ∙ ap (λ x. x ++ text) (sym both) ∙ is
