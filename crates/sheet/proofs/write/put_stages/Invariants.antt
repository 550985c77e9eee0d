use Rattle.std.proofs.Common.{◌≡◌, ◌++◌, take}
use Rattle.std.specs.List.{flat_map}
use Rattle.writing.specs.Room.{cut}
use Rattle.writing.specs.Texts.{text_of}
use Rattle.sheet.specs.Printed.{stage_text}
use Rattle.sheet.proofs.write.put_stages.Given as goal

abbrev pub invariant-loop-stage : goal.invariant-loop-stage
invariant-loop-stage l = text_of l.text ≡ cut (text_of l.initial.text ++ flat_map stage_text (take l.stage-index l.table))
