-- The faults of reading.
use Rattle.std.specs.Prelude.{ℕ}
use Rattle.model.specs.declared.fault.Cause.{Cause}
use Rattle.model.specs.declared.fault.Fault.{Fault}
use Rattle.model.specs.declared.fault.Layer.{Layer}
use Rattle.model.specs.Faults.{fault}

-- a fault at this line
abbrev pub reading : Cause → ℕ → Fault
reading cause line = fault cause line Layer.Reading
