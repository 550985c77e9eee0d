use Rattle.std.proofs.Common.{◌≡◌, ◌+◌, ◌-◌, ◌≤◌, [], length}
use Rattle.model.specs.Limits.{review_box}
use Rattle.sheet.specs.Tokens.{rest_of}
use Rattle.sheet.specs.Sheets.{stages_from}
use Rattle.sheet.proofs.read.stage_lines.Given as goal

abbrev pub invariant-loop-stages : goal.invariant-loop-stages
invariant-loop-stages l =
    (length l.stages.items ≤ review_box.stages)
    × (stages_from (review_box.stages - length l.stages.items) (length l.stages.items + 2) l.stages.items (rest_of l.cursor) ≡ stages_from review_box.stages 2 [] (rest_of l.initial.cursor))

abbrev pub decreases-loop-stages : goal.decreases-loop-stages
decreases-loop-stages l = review_box.stages + 1 - length l.stages.items
