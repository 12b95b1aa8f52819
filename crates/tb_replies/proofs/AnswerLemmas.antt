-- A line's reply, written or cut off.
use Rattle.std.proofs.Common.{◌≡◌, ◌<◌, ℕ, List, sym, subst, inl, inr, Option}
use Rattle.std.specs.Prelude.{⊤}
use Rattle.tb_live.specs.Session.{Session}
use Rattle.tb_commands.specs.Commands.{asked}
use Rattle.tb_commands.specs.declared.asked.Asked.{Asked}
use Rattle.tb_replies.specs.declared.unanswered.Unanswered.{Unanswered}
use Rattle.tb_replies.specs.declared.unanswered.Unanswered.TheVariants.{Memory, Write, Journal}
use Rattle.tb_replies.specs.Replies.{Answers, GoReply, ReplyTo}
use Rattle.tb_replies.specs.Told.{Begins, Fails}
use Rattle.tb_draft.specs.Written.{Told}
use Rattle.tb_draft.proofs.WrittenLemmas.{told_nothing}

-- all of the reply to a line waits
pub answers_waiting : (limit : ℕ) (s new : Session) (line rest : List ℕ) (a : Option (List ℕ)) (asks : Asked) → asked limit line ≡ asks → ReplyTo s asks rest new → Told a a rest (λ out. Answers limit s line out new)
answers_waiting limit s new line rest a asks seen h = told_nothing a rest _ (subst (λ x. ReplyTo s x rest new) (sym seen) h)

-- of several workers, too
pub go_waiting : (asks workers most : ℕ) (s new : Session) (text rest : List ℕ) (a : Option (List ℕ)) → asks ≡ workers → rest ≡ text → GoReply asks most s text new → Told a a rest (λ out. GoReply workers most s out new)
go_waiting asks workers most s new text rest a same e h =
    told_nothing a rest _ (subst (λ n. GoReply n most s rest new) same (subst (λ l. GoReply asks most s l new) (sym e) h))

-- a `go` of one worker was cut off
pub fails_alone : (a b : Option (List ℕ)) (s : Session) (workers most : ℕ) (why : Unanswered) → workers ≡ 1 → Fails ⊤ ⊥ (GoReply 1 most s) a b why → Fails (workers ≡ 1) (1 < workers) (GoReply workers most s) a b why
fails_alone a b s workers most Memory one (inl h) = inl h
fails_alone a b s workers most Memory one (inr h) = inr (one, subst (λ n. Begins (GoReply n most s) a b) (sym one) h.1)
fails_alone a b s workers most Write one h = subst (λ n. Begins (GoReply n most s) a b) (sym one) h
fails_alone a b s workers most Journal one h = absurd h.0
