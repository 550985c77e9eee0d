use Rattle.std.proofs.Common.{◌≡◌, ◌≤◌, take}
use Rattle.sheet.specs.Forms.{value}
use Rattle.sheet.proofs.Values.{cap}
use Rattle.sheet.proofs.forms.number.Given as goal

abbrev pub invariant-loop-digit : goal.invariant-loop-digit
invariant-loop-digit l = (l.value ≡ value (take l.digit-index l.digits)) × (l.value ≤ cap l.digit-index)
