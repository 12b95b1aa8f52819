-- How far a task is, as the definitions name it.
use Rattle.tb_model.specs.State as State
use Rattle.tb_plain.specs.declared.status.Status.{Status}
use Rattle.tb_plain.specs.declared.status.Status.TheVariants.{Pending, Running, Ended, Faulted}

abbrev pub named : Status → State.Status
named Pending = State.Pending
named Running = State.Running
named Ended = State.Ended
named Faulted = State.Faulted
