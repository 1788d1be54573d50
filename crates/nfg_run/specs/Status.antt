-- The exit status of the process (this project's own).
use Rattle.std.specs.Prelude.{ℕ}
use Rattle.nfg_run.specs.declared.status.Status.{Status}
use Rattle.nfg_run.specs.declared.status.Status.TheVariants.{Done, Refused, Bad, ReadFault, OutOfMemory, WriteFault}

abbrev pub status_code : Status → ℕ
status_code Done = 0
status_code Refused = 1
status_code Bad = 2
status_code ReadFault = 3
status_code OutOfMemory = 4
status_code WriteFault = 5
