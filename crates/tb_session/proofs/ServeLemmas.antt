-- Commands, answered line by line.
use Rattle.std.proofs.Common.{◌≡◌, ◌⊎◌, inl, inr, ℕ, ◌+◌, List, [], ◌∷◌, ◌++◌, refl, sym, ap, ◌∙◌, subst, append-nil, take, length, Option, Ok, Err}
use Rattle.std.proofs.Math.Seq.{take-append-add}
use Rattle.std.specs.Io.KnownBytes.{Consumes, Appends}
use Rattle.tb_read.specs.Text.{lines_of}
use Rattle.tb_lines.specs.Lines.{IsUnbroken, AreUnbroken, spelled, GaveLine}
use Rattle.tb_live.specs.Session.{Session, Held}
use Rattle.tb_commands.specs.Commands.{AsksSeveral}
use Rattle.tb_replies.specs.Replies.{Answers}
use Rattle.tb_replies.specs.Told.{AsksSteps, Begins}
use Rattle.tb_draft.specs.Written.{Told, WroteFront}
use Rattle.tb_session.specs.Answer.{RunOf}
use Rattle.tb_session.specs.Stages.{Answered, Served, line_at}
use Rattle.tb_session.specs.declared.halt.Halt.{Halt}
use Rattle.tb_session.specs.declared.halt.Halt.TheVariants.{Refused, Read, Write, Memory, Journal}
use Rattle.tb_lines.specs.declared.line_reader.LineEnd.{LineEnd}
use Rattle.tb_lines.specs.declared.line_reader.LineEnd.TheVariants.{Feed, Input}
use Rattle.tb_lines.specs.declared.line_reader.LineFault.{LineFault}
use Rattle.tb_lines.proofs.KnownLemmas.{consumes_nil, consumes_trans, appends_nil, appends_trans}
use Rattle.tb_replies.proofs.ToldLemmas.{begins_cut, reply_extends}
use Rattle.tb_session.proofs.LineLemmas.{lines_of_spelled, lines_of_whole, lines_of_last, spelled_append, all_more}
use Rattle.tb_session.proofs.RunLemmas.{run_append, run_one}
use Rattle.tb_session.proofs.StopLemmas.{stopped_at, stopped_within}

module _ (workers : ℕ) where
  -- what waits of a reply was written
  pub answer_whole : (s new : Session) (line rest : List ℕ) (a b c : Option (List ℕ)) → Told a b rest (λ out. Answers workers s line out new) → Appends b c rest → (reply : List ℕ) × Answers workers s line reply new × Appends a c reply
  answer_whole s new line rest a b c t w = (t.front ++ rest, t.whole, appends_trans a b c t.front rest t.wrote w)

  -- of what waits of a reply, a front was written
  pub answer_cut : (s new : Session) (line rest : List ℕ) (a b c : Option (List ℕ)) → Told a b rest (λ out. Answers workers s line out new) → WroteFront b c rest → Begins (Answers workers s line) a c
  answer_cut s new line rest a b c t w =
      begins_cut a b c rest _ _ t w (reply_extends (Answers workers s line) new)

  -- whole lines were taken and answered
  pub record Serving (s : Session) (start now before after : Option (List ℕ)) (new : Session) : Type 0 where
    pub lines : List (List ℕ)
    pub out : List ℕ
    pub bytes : Consumes start now (spelled lines)
    pub unbroken : AreUnbroken lines
    pub ran : RunOf (Answers workers) s lines out new
    pub wrote : Appends before after out

  pub serve_starts : (s : Session) (start before : Option (List ℕ)) → Serving s start start before before s
  serve_starts s start before = record { lines = []; out = []; bytes = consumes_nil start; unbroken = tt; ran = (refl, refl); wrote = appends_nil before }

  pub serve_read : (s new : Session) (start now next before after : Option (List ℕ)) (line : List ℕ) (fault : LineFault) → Serving s start now before after new → GaveLine now next line (Err fault) → Served workers s start next before after (Err Read)
  serve_read s new start now next before after line fault g t =
      (g.lines, line, g.out, consumes_trans start now next _ line g.bytes t.0, g.unbroken, t.1, (new, g.ran), g.wrote)

  pub serve_memory : (s new : Session) (start now next before after : Option (List ℕ)) (line : List ℕ) (fault : LineFault) → Serving s start now before after new → GaveLine now next line (Err fault) → Served workers s start next before after (Err Memory)
  serve_memory s new start now next before after line fault g t =
      inl (record { stopped = stopped_within start now next g.lines line fault g.bytes g.unbroken t; out = g.out; replies = (new, g.ran); wrote = g.wrote })

  -- the bytes of a line, with its line feed where it has one
  bytes_at : LineEnd → List ℕ → List ℕ
  bytes_at Feed line = line ++ 10 ∷ []
  bytes_at Input line = line

  taken_at : (now next : Option (List ℕ)) (line : List ℕ) (end : LineEnd) → GaveLine now next line (Ok end) → Consumes now next (bytes_at end line)
  unfolding bytes_at
  taken_at now next line Feed t = t.0
  taken_at now next line Input t = t.0

  lines_at : (now next : Option (List ℕ)) (lines : List (List ℕ)) (line : List ℕ) (end : LineEnd) → AreUnbroken lines → GaveLine now next line (Ok end) → lines_of (spelled lines ++ bytes_at end line) ≡ lines ++ line_at end line
  unfolding bytes_at
  lines_at now next lines line Feed u t =
      ap lines_of (sym (spelled_append lines (line ∷ []))) ∙ lines_of_whole (lines ++ line ∷ []) (all_more IsUnbroken lines line u t.1)
  lines_at now next lines line Input u t = lines_of_spelled lines line u ∙ ap (λ l. lines ++ l) (lines_of_last line t.1)

  -- an empty last piece asks for nothing
  run_at : (s new : Session) (line reply : List ℕ) (end : LineEnd) → Answers workers s line reply new → RunOf (Answers workers) s (line_at end line) reply new
  run_at s new line reply Feed a = run_one (Answers workers) s new line reply a
  run_at s new [] reply Input a = a
  run_at s new (b ∷ line) reply Input a = run_one (Answers workers) s new (b ∷ line) reply a

  -- the run with the line
  run_with : (s mid new : Session) (start now before after next : Option (List ℕ)) (line reply : List ℕ) (end : LineEnd) (g : Serving s start now before after mid) → GaveLine now next line (Ok end) → Answers workers mid line reply new
      → RunOf (Answers workers) s (lines_of (spelled g.lines ++ bytes_at end line)) (g.out ++ reply) new
  run_with s mid new start now before after next line reply end g t a =
      let R : List (List ℕ) → Type 0 = λ ls. RunOf (Answers workers) s ls (g.out ++ reply) new in
      subst R (sym (lines_at now next g.lines line end g.unbroken t)) (run_append (Answers workers) s mid new g.lines (line_at end line) g.out reply g.ran (run_at mid new line reply end a))

  -- where memory fails, nothing of a reply was written, or a beginning
  breaks_off : (s mid : Session) (start now next before after last : Option (List ℕ)) (line seen : List ℕ) (end : LineEnd) → Serving s start now before after mid → GaveLine now next line (Ok end) → seen ≡ line
      → Appends after last [] ⊎ (AsksSteps workers seen × Begins (Answers workers mid seen) after last) → Served workers s start next before last (Err Memory)
  breaks_off s mid start now next before after last line seen end g t same (inl a) =
      let W : List ℕ → Type 0 = λ l. Appends before last l in
      inl (record {
        stopped = stopped_at start now next g.lines line end g.bytes g.unbroken t;
        out = g.out;
        replies = (mid, g.ran);
        wrote = subst W (append-nil g.out) (appends_trans before after last g.out [] g.wrote a);
      })
  breaks_off s mid start now next before after last line seen end g t same (inr a) =
      let A : List ℕ → Type 0 = λ l. Answers workers mid l a.1.0 a.1.1 in
      inr (record {
        stopped = stopped_at start now next g.lines line end g.bytes g.unbroken t;
        out = g.out;
        reply = a.1.0;
        n = a.1.2;
        asks = subst (AsksSteps workers) same a.0;
        replies = (mid, a.1.1, g.ran, subst A same a.1.3);
        wrote = appends_trans before after last g.out (take a.1.2 a.1.0) g.wrote a.1.4;
      })

  pub serve_halts : (s mid : Session) (start now next before after last : Option (List ℕ)) (line seen : List ℕ) (end : LineEnd) (halt : Halt) → Serving s start now before after mid → GaveLine now next line (Ok end) → seen ≡ line
      → Answered workers mid seen after last (Err halt) → Served workers s start next before last (Err halt)
  serve_halts s mid start now next before after last line seen end (Refused fault) g t same a = absurd a
  serve_halts s mid start now next before after last line seen end Read g t same a = absurd a
  serve_halts s mid start now next before after last line seen end Journal g t same a =
      let W : List ℕ → Type 0 = λ l. Appends before last l in record {
        halts = record {
          stopped = stopped_at start now next g.lines line end g.bytes g.unbroken t;
          out = g.out;
          replies = (mid, g.ran);
          wrote = subst W (append-nil g.out) (appends_trans before after last g.out [] g.wrote a.1);
        };
        asks = subst (AsksSeveral workers) same a.0;
      }
  serve_halts s mid start now next before after last line seen end Memory g t same a = breaks_off s mid start now next before after last line seen end g t same a
  serve_halts s mid start now next before after last line seen end Write g t same a =
      let A : List ℕ → Type 0 = λ l. Answers workers mid l a.0 a.1 in
      let W : List ℕ → Type 0 = λ l. Appends before last l in (
        spelled g.lines ++ bytes_at end line,
        g.out ++ a.0,
        length g.out + a.2,
        consumes_trans start now next _ _ g.bytes (taken_at now next line end t),
        (a.1, run_with s mid a.1 start now before after next line a.0 end g t (subst A same a.3)),
        subst W (sym (take-append-add g.out a.0 a.2)) (appends_trans before after last g.out (take a.2 a.0) g.wrote a.4),
      )

  pub serve_ends : (s mid : Session) (new : Held) (start now next before after last : Option (List ℕ)) (line seen : List ℕ) (end : LineEnd) → Serving s start now before after mid → GaveLine now next line (Ok end) → seen ≡ line
      → Answered workers mid seen after last (Ok new) → end ≡ Input → Served workers s start next before last (Ok tt)
  serve_ends s mid new start now next before after last line seen Feed g t same a e = cc
  serve_ends s mid new start now next before after last line seen Input g t same a e =
      let A : List ℕ → Type 0 = λ l. Answers workers mid l a.0 new.session in (
        spelled g.lines ++ bytes_at Input line,
        g.out ++ a.0,
        consumes_trans start now next _ _ g.bytes (taken_at now next line Input t),
        t.2,
        (new.session, run_with s mid new.session start now before after next line a.0 Input g t (subst A same a.1)),
        appends_trans before after last g.out a.0 g.wrote a.2,
      )

  pub serve_more : (s mid : Session) (new : Held) (start now next before after last : Option (List ℕ)) (line seen : List ℕ) (end : LineEnd) → Serving s start now before after mid → GaveLine now next line (Ok end) → seen ≡ line
      → Answered workers mid seen after last (Ok new) → end ≡ Feed → Serving s start next before last new.session
  serve_more s mid new start now next before after last line seen Input g t same a e = cc
  serve_more s mid new start now next before after last line seen Feed g t same a e =
      let A : List ℕ → Type 0 = λ l. Answers workers mid l a.0 new.session in
      let B : List ℕ → Type 0 = λ l. Consumes start next l in record {
        lines = g.lines ++ line ∷ [];
        out = g.out ++ a.0;
        bytes = subst B (sym (spelled_append g.lines (line ∷ []))) (consumes_trans start now next _ _ g.bytes t.0);
        unbroken = all_more IsUnbroken g.lines line g.unbroken t.1;
        ran = run_append (Answers workers) s mid new.session g.lines (line ∷ []) g.out a.0 g.ran (run_one (Answers workers) mid new.session line a.0 (subst A same a.1));
        wrote = appends_trans before after last g.out a.0 g.wrote a.2;
      }
