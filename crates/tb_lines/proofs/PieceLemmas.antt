-- What is held of a source, cut at its first line feed.
use Rattle.std.proofs.Common.{◌≡◌, ℕ, suc, ◌+◌, ◌-◌, ◌<◌, ◌≤◌, Bool, true, false, not, cond, List, [], ◌∷◌, ◌++◌, take, drop, length, refl, sym, ap, ◌∙◌, subst, arith}
use Rattle.std.specs.List.{position_or_len}
use Rattle.std.proofs.lemmas.List.{drop-take, length-take, length-drop, append-nil, drop-drop}
use Rattle.std.proofs.Math.Nat.{min-le_left}
use Rattle.std.proofs.Math.Seq.{take-length}
use Rattle.std.proofs.Math.ListN.{drop_of_length-le}
use Rattle.std.proofs.lemmas.Bool.{eqb-true}
use Rattle.tb_read.specs.Text.{is_line_feed}
use Rattle.tb_lines.specs.Lines.{IsUnbroken, TakesPiece}

one_more : (n : ℕ) → 1 + n ≡ suc n
one_more n = omega arith

less_one : (m n : ℕ) → 1 + m < suc n → m < n
less_one m n h = omega arith

unbroken_by : (t : Bool) (b n : ℕ) (bytes : List ℕ) → is_line_feed b ≡ t → IsUnbroken (take n bytes) → IsUnbroken (take (cond (not t) (1 + n) 0) (b ∷ bytes))
unbroken_by true b n bytes e more = tt
unbroken_by false b n bytes e more = rw one_more (e, more)

-- nothing in front of the first line feed is one
pub unbroken_front : (bytes : List ℕ) → IsUnbroken (take (position_or_len is_line_feed bytes) bytes)
unbroken_front [] = tt
unbroken_front (b ∷ bytes) = unbroken_by (is_line_feed b) b (position_or_len is_line_feed bytes) bytes refl (unbroken_front bytes)

split_by : (t : Bool) (b n : ℕ) (bytes : List ℕ) → is_line_feed b ≡ t → (n < length bytes → bytes ≡ take n bytes ++ 10 ∷ drop (suc n) bytes) → cond (not t) (1 + n) 0 < suc (length bytes)
    → b ∷ bytes ≡ take (cond (not t) (1 + n) 0) (b ∷ bytes) ++ 10 ∷ drop (suc (cond (not t) (1 + n) 0)) (b ∷ bytes)
split_by true b n bytes e more less = ap (λ c. c ∷ bytes) (eqb-true b 10 e)
split_by false b n bytes e more less = rw one_more (ap (λ l. b ∷ l) (more (less_one n (length bytes) less)))

-- where the front isn't all, it ends at a line feed
pub split_at_feed : (bytes : List ℕ) → position_or_len is_line_feed bytes < length bytes
    → bytes ≡ take (position_or_len is_line_feed bytes) bytes ++ 10 ∷ drop (suc (position_or_len is_line_feed bytes)) bytes
split_at_feed [] h = absurd (omega arith)
split_at_feed (b ∷ bytes) h = split_by (is_line_feed b) b (position_or_len is_line_feed bytes) bytes refl (split_at_feed bytes) h

-- the bytes from s to e of a buffer
abbrev between : ℕ → ℕ → List ℕ → List ℕ
between s e buffer = take (e - s) (drop s buffer)

between_is : (s e : ℕ) (buffer : List ℕ) → s ≤ e → drop s (take e buffer) ≡ between s e buffer
between_is s e buffer h =
    let whole : s + (e - s) ≡ e = omega arith in
    ap (λ n. drop s (take n buffer)) (sym whole) ∙ drop-take s (e - s) buffer

-- a piece and its line feed are taken off the front
pub takes_with_feed : (s e n : ℕ) (buffer line line' : List ℕ) → s ≤ e → n ≡ position_or_len is_line_feed (between s e buffer) → n < length (between s e buffer)
    → line' ≡ line ++ take n (between s e buffer) → TakesPiece (drop s (take e buffer)) (drop (s + (n + 1)) (take e buffer)) line line' true
takes_with_feed s e n buffer line line' h at less grown =
    let held = between s e buffer in
    let rest : drop (s + (n + 1)) (take e buffer) ≡ drop (suc n) held =
    ap (λ k. drop (s + k) (take e buffer)) (omega arith) ∙ (sym (drop-drop (suc n) s (take e buffer)) ∙ ap (λ l. drop (suc n) l) (between_is s e buffer h)) in
    record {
      piece = take n held;
      unbroken = subst (λ k. IsUnbroken (take k held)) (sym at) (unbroken_front held);
      split = between_is s e buffer h ∙ (subst (λ k. held ≡ take k held ++ 10 ∷ drop (suc k) held) (sym at) (split_at_feed held (subst (λ k. k < length held) at less)) ∙ ap (λ l. take n held ++ 10 ∷ l) (sym rest));
      whole = λ no. cc;
      grown = grown;
    }

-- all that is held is one piece
pub takes_all : (s e n : ℕ) (buffer line line' : List ℕ) → s ≤ e → n ≡ position_or_len is_line_feed (between s e buffer) → length (between s e buffer) ≤ n → n ≤ length (between s e buffer)
    → line' ≡ line ++ take n (between s e buffer) → TakesPiece (drop s (take e buffer)) (drop e (take e buffer)) line line' false
takes_all s e n buffer line line' h at most least grown =
    let held = between s e buffer in
    let all : n ≡ length held = omega arith in
    let none : drop e (take e buffer) ≡ [] = drop_of_length-le (take e buffer) (front_len e buffer) in
    record {
      piece = take n held;
      unbroken = subst (λ k. IsUnbroken (take k held)) (sym at) (unbroken_front held);
      split = between_is s e buffer h ∙ (sym (ap (λ k. take k held) all ∙ take-length held) ∙ (sym (append_none (take n held)) ∙ ap (λ l. take n held ++ l) (sym none)));
      whole = λ yes. none;
      grown = grown;
    }
  where
    front_len : (n : ℕ) (l : List ℕ) → length (take n l) ≤ n
    front_len n l = omega (arith, length-take n l)

    append_none : (l : List ℕ) → l ++ [] ≡ l
    append_none l = append-nil l

-- a buffer of 8,192 bytes holds no more
pub few_held : (s e : ℕ) (buffer : List ℕ) → e ≤ 8192 → length (drop s (take e buffer)) ≤ 8192
few_held s e buffer h = rw (length-drop s (take e buffer), length-take e buffer) (few (min-le_left e (length buffer)))
  where
    few : {n : ℕ} → n ≤ e → n - s ≤ 8192
    few {n} k = omega arith
