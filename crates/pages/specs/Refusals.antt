-- The refusal line.
use Rattle.std.specs.Prelude.{ℕ, List, ◌++◌, codes, decimal}
use Rattle.model.specs.declared.fault.Fault.{Fault}
use Rattle.model.specs.Faults.{cause_number}

unfoldable pub refusal_text : Fault → List ℕ
refusal_text f = codes "(refused " ++ decimal (cause_number f.cause) ++ codes " " ++ decimal f.place ++ codes ")\n"
