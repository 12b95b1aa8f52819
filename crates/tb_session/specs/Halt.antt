-- The exit status of a session that ended before its input.
use Rattle.std.specs.Prelude.{ℕ}
use Rattle.tb_session.specs.declared.halt.Halt.{Halt}
use Rattle.tb_session.specs.declared.halt.Halt.TheVariants.{Refused, Read, Write, Memory, Journal}

abbrev pub status_of : Halt → ℕ
status_of (Refused fault) = 1
status_of Read = 3
status_of Write = 3
status_of Memory = 3
status_of Journal = 3
