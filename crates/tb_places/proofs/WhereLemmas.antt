-- How the indexes change where an event is added at the end.
use Rattle.std.proofs.Common.{◌≡◌, ◌+◌, ℕ, List, [], ◌∷◌, ◌++◌, append-nil, Bool, true, false, cond, map, filter, length, refl, sym, ap, ◌∙◌, arith}
use Rattle.std.specs.List.{enumerate_from}
use Rattle.tb_model.specs.declared.event.Event.{Event}
use Rattle.tb_places.specs.Where.{places_from, places_where}

map_cond : (b : Bool) (n : ℕ) (x : Event) (rest : List (ℕ × Event)) → map (λ s. s.0) (cond b ((n, x) ∷ rest) rest) ≡ cond b (n ∷ map (λ s. s.0) rest) (map (λ s. s.0) rest)
map_cond true n x rest = refl
map_cond false n x rest = refl

pub places_cons : (n : ℕ) (p : Event → Bool) (x : Event) (es : List Event) → places_from n p (x ∷ es) ≡ cond (p x) (n ∷ places_from (n + 1) p es) (places_from (n + 1) p es)
places_cons n p x es = map_cond (p x) n x (filter (λ s. p s.1) (enumerate_from (n + 1) es))

cond_append : (b : Bool) (n : ℕ) (rest last : List ℕ) → cond b (n ∷ (rest ++ last)) (rest ++ last) ≡ cond b (n ∷ rest) rest ++ last
cond_append true n rest last = refl
cond_append false n rest last = refl

-- the index of the event after the others, if it passes
abbrev last_place : (Event → Bool) → Event → ℕ → List ℕ
last_place p e k = cond (p e) (k ∷ []) []

pub places_push : (n : ℕ) (p : Event → Bool) (es : List Event) (e : Event) (k : ℕ) → k ≡ n + length es → places_from n p (es ++ e ∷ []) ≡ places_from n p es ++ last_place p e k
places_push n p [] e k h =
    let same : n ≡ k = omega (arith, h) in
    places_cons n p e [] ∙ ap (last_place p e) same
places_push n p (x ∷ es) e k h =
    places_cons n p x (es ++ e ∷ [])
    ∙ ap (λ r. cond (p x) (n ∷ r) r) (places_push (n + 1) p es e k (omega (arith, h)))
    ∙ cond_append (p x) n (places_from (n + 1) p es) (last_place p e k)
    ∙ ap (λ l. l ++ last_place p e k) (sym (places_cons n p x es))

pub places_push_yes : (p : Event → Bool) (es : List Event) (e : Event) → p e ≡ true → places_where p (es ++ e ∷ []) ≡ places_where p es ++ length es ∷ []
places_push_yes p es e h = places_push 0 p es e (length es) (omega arith) ∙ ap (λ b. places_where p es ++ cond b (length es ∷ []) []) h

pub places_push_no : (p : Event → Bool) (es : List Event) (e : Event) → p e ≡ false → places_where p (es ++ e ∷ []) ≡ places_where p es
places_push_no p es e h = places_push 0 p es e (length es) (omega arith) ∙ ap (λ b. places_where p es ++ cond b (length es ∷ []) []) h ∙ append-nil (places_where p es)
