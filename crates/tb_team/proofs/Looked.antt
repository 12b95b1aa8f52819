-- What a look through a run shows, from what each call in it showed.
use Rattle.std.proofs.Common.{◌≡◌, ◌<◌, ◌≤◌, ◌+◌, ℕ, List, length, reverse, true, ◌&&◌, nat_lt, nat_eq, Some, sym, ap, ap₂, ◌∙◌, subst}
use Rattle.std.proofs.lemmas.List.{length-map, length-reverse}
use Rattle.tb_model.specs.declared.entry.Entry.{Entry}
use Rattle.tb_model.specs.Journal.{Sound}
use Rattle.tb_model.specs.Program.{Program}
use Rattle.tb_model.specs.WellFormed.{WellFormed}
use Rattle.tb_control.specs.declared.mode.Mode.{Mode}
use Rattle.tb_control.specs.declared.mode.Mode.TheVariants.{Resumed}
use Rattle.tb_live.specs.Breaks.{Points}
use Rattle.tb_live.specs.Claims.{Claims, withdrawn, unless}
use Rattle.tb_live.specs.Pauses.{with_mode}
use Rattle.tb_live.specs.Runs.{unclaimed}
use Rattle.tb_live.specs.Session.{Session, history}
use Rattle.tb_team.specs.declared.gone.Gone.{Gone}
use Rattle.tb_team.specs.Gone.{HasSeats, IsGone}
use Rattle.tb_team.specs.Lending.{IsBack}
use Rattle.tb_team.specs.Looking.{meets_newest, reason, IsCourse, IsLooked, KeepsButClaims}
use Rattle.tb_team.proofs.Courses.{gone_of}
use Rattle.tb_team.proofs.Returned.{longer}

-- ---- the journal's length

pub same_length : (es J : List Entry) → reverse es ≡ J → length es ≡ length J
same_length es J e = sym (length-reverse es) ∙ ap length e

-- ---- what is looked at

abbrev whole : Claims → Program → ℕ → List Entry → Points → Mode → Session
whole claims P limit J points mode = record {
  program = P;
  limit = limit;
  journal = J;
  control = record { claims = withdrawn (λ t. true) claims; breakpoints = points; mode = mode };
}

same_whole : (claims : Claims) (P Q : Program) (l m : ℕ) (J K : List Entry) (p q : Points) (a b : Mode) → P ≡ Q → l ≡ m → J ≡ K → p ≡ q → a ≡ b → whole claims P l J p a ≡ whole claims Q m K q b
same_whole claims P Q l m J K p q a b e f g h i =
    ap₂ (λ (x : Program) y. whole claims x y J p a) e f ∙ (ap₂ (λ (x : List Entry) (y : Points). whole claims Q m x y a) g h ∙ ap (λ (x : Mode). whole claims Q m K q x) i)

-- resumed, asked why it stops, and left without claims
pub looked_of : (workers most from : ℕ) (s r t : Session) (gone : Gone) → WellFormed s.program → Sound s.program s.journal → length s.journal ≤ s.limit
    → IsCourse workers from s → gone.count + from ≡ length s.journal → gone.count ≤ most → r ≡ with_mode s Resumed
    → reason (nat_lt 0 gone.count && meets_newest r.program r.control.breakpoints.standing (history r)) (nat_eq gone.count most) r ≡ Some gone.stop
    → KeepsButClaims r t → gone.live.session ≡ unclaimed t → IsLooked workers most from s gone
looked_of workers most from s r t gone well_formed sound within course counted few resumed why kept now = record {
  well_formed = well_formed;
  sound = sound;
  within = within;
  course = course;
  counted = counted;
  few = few;
  stops = subst (λ (z : Session). reason (nat_lt 0 gone.count && meets_newest z.program z.control.breakpoints.standing (history z)) (nat_eq gone.count most) z ≡ Some gone.stop) resumed why;
  claims = t.control.claims;
  seats = kept.seats ∙ ap (λ (z : Session). length z.control.claims) resumed;
  now =
      now
      ∙ same_whole t.control.claims t.program s.program t.limit s.limit t.journal s.journal t.control.breakpoints s.control.breakpoints t.control.mode Resumed
      (kept.program ∙ ap (λ (z : Session). z.program) resumed) (kept.limit ∙ ap (λ (z : Session). z.limit) resumed) (kept.journal ∙ ap (λ (z : Session). z.journal) resumed)
      (kept.breakpoints ∙ ap (λ (z : Session). z.control.breakpoints) resumed) (kept.mode ∙ ap (λ (z : Session). z.control.mode) resumed);
}

-- ---- lent and looked at

pub seats_stay : (s t : Session) → HasSeats s → t ≡ unclaimed s → HasSeats t
seats_stay s t seats e = subst (λ n. 64 < n) (sym (ap (λ (z : Session). length z.control.claims) e ∙ length-map s.control.claims (unless (λ u. true)))) seats

pub seats_back : (s t : Session) → HasSeats s → IsBack s t → HasSeats t
seats_back s t seats back = subst (λ n. 64 < n) (sym back.seats) seats

pub still_there : (s t back : Session) (from : ℕ) → t ≡ unclaimed s → from ≡ length s.journal → IsBack t back → from ≤ length back.journal
still_there s t back from e has is_back =
    subst (λ n. n ≤ length back.journal) (ap (λ (z : Session). length z.journal) e ∙ sym has) (longer back.journal t.journal is_back.begins)

pub gone_from : (workers most : ℕ) (s t back : Session) (from : ℕ) (gone : Gone) → 1 < workers → t ≡ unclaimed s → from ≡ length s.journal → IsBack t back
    → IsLooked workers most from back gone → IsGone workers most s gone
gone_from workers most s t back from gone several e has is_back looked =
    gone_of workers most from s back gone several has (subst (λ (z : Session). IsBack z back) e is_back) looked
