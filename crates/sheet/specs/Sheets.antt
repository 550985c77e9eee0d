-- Reading a sheet.
use Rattle.std.specs.Prelude.{ℕ, zero, suc, cond, List, [], ◌∷◌, ◌++◌, length, drop, Some, None, Ok, Err, Option, Result, nat_le}
use Rattle.model.specs.declared.fault.Cause.{Cause}
use Rattle.model.specs.declared.fault.Fault.{Fault}
use Rattle.model.specs.Faults.{answered}
use Rattle.model.specs.declared.stage.Stage.{Stage}
use Rattle.model.specs.Limits.{review_box, cores_allowed}
use Rattle.model.specs.Tables.{breach_of}
use Rattle.arrayvec.specs.ArrayVec.{ArrayVec}
use Rattle.sheet.specs.declared.read.Counts.{Counts}
use Rattle.sheet.specs.Faults.{reading}
use Rattle.sheet.specs.Forms.{cores_of, stage_of, formed}

-- a stage line, by what the rules of a table say of its stage
abbrev pub judged : ℕ → Stage × List ℕ → Option Cause → Result (Stage × List ℕ) Fault
judged line p None = Ok p
judged line p (Some cause) = Err (reading cause line)

-- a stage line behind the stages before, by what its form says
abbrev pub ruled : ℕ → List Stage → Result (Stage × List ℕ) Fault → Result (Stage × List ℕ) Fault
ruled line before (Ok p) = judged line p (breach_of review_box p.0 before)
ruled line before (Err f) = Err f

-- the next stage line, and what is left
unfoldable pub line_of : ℕ → List Stage → List ℕ → Result (Stage × List ℕ) Fault
line_of line before bs = ruled line before (formed line (stage_of bs))

-- the stages of the lines from this line on, behind those before; room is how many more lines there may be
unfoldable pub stages_from : ℕ → ℕ → List Stage → List ℕ → Result (List Stage) Fault
stages_from zero line before [] = Ok before
stages_from zero line before (b ∷ bs) = Err (reading Cause.TooManyLines line)
stages_from (suc room) line before [] = Ok before
stages_from (suc room) line before (b ∷ bs) =
    elim (line_of line before (b ∷ bs)) [
      | Err f ↦ Err f
      | Ok p ↦ stages_from room (suc line) (before ++ (p.0 ∷ [])) p.1
    ]

-- a sheet has a stage line
abbrev pub some_stage : ℕ → List Stage → Result (ℕ × List Stage) Fault
some_stage m [] = Err (reading Cause.NoStageLine 1)
some_stage m (s ∷ ss) = Ok (m, s ∷ ss)

-- a sheet of m cores, by what its stage lines give
abbrev pub finished : ℕ → Result (List Stage) Fault → Result (ℕ × List Stage) Fault
finished m (Ok ss) = some_stage m ss
finished m (Err f) = Err f

-- a sheet, by what its first line says
abbrev pub headed : Result (ℕ × List ℕ) Fault → Result (ℕ × List Stage) Fault
headed (Ok p) =
    cond (cores_allowed review_box p.0)
    (finished p.0 (stages_from review_box.stages 2 [] p.1))
    (Err (reading Cause.OutsideLimits 1))
headed (Err f) = Err f

-- the core count and the stages of a sheet, or why it is refused
unfoldable pub read_of : List ℕ → Result (ℕ × List Stage) Fault
read_of text = headed (formed 1 (cores_of text))

-- what is answered of them
abbrev pub counted : Result (ℕ × List Stage) Fault → Result Counts Fault
counted (Ok p) = Ok (record { cores = p.0; stages = length p.1 })
counted (Err f) = Err f

-- a table with the stages in front: the records beyond them stay
abbrev pub stored : Result (ℕ × List Stage) Fault → List Stage → List Stage
stored (Ok p) table = p.1 ++ drop (length p.1) table
stored (Err f) table = table

-- what reading answers, for a table of this many records
abbrev pub answer_of : ℕ → List ℕ → Result Counts Fault
answer_of records text = cond (nat_le review_box.stages records) (counted (read_of text)) (Err (reading Cause.ShortTable 0))

-- the table after reading
abbrev pub table_of : List Stage → List ℕ → List Stage
table_of table text = cond (nat_le review_box.stages (length table)) (stored (read_of text) table) table

-- gathered stages as a list, or why they are not
abbrev pub listed : Result (Unit {0}) Fault → ArrayVec Stage → Result (List Stage) Fault
listed r stages = answered (λ (z : Unit {0}). stages.items) r

-- the contents of a sheet as its core count and the list of its stages, or why there are none
abbrev pub told : Result ℕ Fault → ArrayVec Stage → Result (ℕ × List Stage) Fault
told r stages = answered (λ (cores : ℕ). (cores, stages.items)) r
