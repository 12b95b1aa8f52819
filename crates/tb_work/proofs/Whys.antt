-- Why a run executes no more steps.
use Rattle.std.proofs.Common.{◌≡◌, subst, Some}
use Rattle.std.specs.Prelude.{⊤}
use Rattle.std.proofs.lemmas.Option.{none-some, same_Some}
use Rattle.tb_control.specs.declared.mode.Mode.{Mode}
use Rattle.tb_control.specs.declared.mode.Mode.TheVariants.{Resumed, Counting, Paused}
use Rattle.tb_control.specs.declared.paused_by.PausedBy.TheVariants.{Break as ByBreak, Count as ByCount, Pause as ByPause}
use Rattle.tb_live.specs.Session.{Session}
use Rattle.tb_work.specs.declared.why.Why.{Why}
use Rattle.tb_work.specs.declared.why.Why.TheVariants.{Break, Limit, Done, Full, Asked}
use Rattle.tb_work.specs.Going.{IsWhy, paused_for}

-- a pause is reported as one
abbrev IsPausing : Why → Type 0
IsPausing Break = ⊤
IsPausing Limit = ⊤
IsPausing _ = ⊥

pausing : (m : Mode) (w : Why) → paused_for m ≡ Some w → IsPausing w
pausing Resumed w is = absurd (none-some w is)
pausing (Counting left) w is = absurd (none-some w is)
pausing (Paused (ByBreak number)) w is = subst IsPausing (same_Some _ w is) tt
pausing (Paused ByCount) w is = subst IsPausing (same_Some _ w is) tt
pausing (Paused ByPause) w is = absurd (none-some w is)

pub why_paused : (s : Session) (w : Why) → paused_for s.control.mode ≡ Some w → IsWhy s w
why_paused s Break is = is
why_paused s Limit is = is
why_paused s Done is = absurd (pausing s.control.mode Done is)
why_paused s Full is = absurd (pausing s.control.mode Full is)
why_paused s Asked is = absurd (pausing s.control.mode Asked is)
