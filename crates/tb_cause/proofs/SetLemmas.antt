-- What a set has after a key is put into it.
use Rattle.std.proofs.Common.{◌≡◌, List, [], ◌∷◌, Bool, true, false, ◌||◌, cond, length, slice_get, Some, unwrap_or, refl, sym, ap, ◌∙◌, arith}
use Rattle.std.specs.List.{list_any}
use Rattle.tb_model.specs.Names.{Name, same_name}
use Rattle.tb_cause.proofs.KeyLemmas.{or_none, same_turned}

cond_or : (b c : Bool) → cond b true c ≡ (b || c)
cond_or true c = refl
cond_or false c = refl

pub put_in : (b c new : Bool) → new ≡ cond b true c → new ≡ (b || c)
put_in b c new h = h ∙ cond_or b c

-- a set of one name has that one
pub one_name : (ks : List Name) (one t : Name) → length ks ≡ 1 → Some one ≡ slice_get ks 0 → same_name one t ≡ list_any (same_name t) ks
one_name [] one t n first = absurd (omega (arith, n))
one_name (k ∷ []) one t n first = same_turned one t ∙ ap (same_name t) (ap (λ o. unwrap_or o one) first) ∙ sym (or_none (same_name t k))
one_name (k ∷ l ∷ ks) one t n first = absurd (omega (arith, n))
