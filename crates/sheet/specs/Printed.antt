-- The printed form of a sheet.
use Rattle.std.specs.Prelude.{ℕ, List, ◌++◌, Ok, Err, codes, decimal, Result}
use Rattle.std.specs.List.{flat_map}
use Rattle.model.specs.declared.fault.Fault.{Fault}
use Rattle.model.specs.declared.fault.Layer.{Layer}
use Rattle.model.specs.declared.stage.Stage.{Stage}
use Rattle.model.specs.Limits.{review_box}
use Rattle.model.specs.Names.{letters_of}
use Rattle.model.specs.Tables.{check_of}

-- the line of the core count
unfoldable pub cores_text : ℕ → List ℕ
cores_text m = codes "(cores " ++ decimal m ++ codes ")\n"

-- the line of a stage
unfoldable pub stage_text : Stage → List ℕ
stage_text s =
    codes "(stage " ++ letters_of s.name ++ codes " (cost " ++ decimal s.cost ++ codes ") (period " ++ decimal s.period ++ codes "))\n"

-- the sheet of a core count and a table
unfoldable pub sheet_of : ℕ → List Stage → List ℕ
sheet_of m ss = cores_text m ++ flat_map stage_text ss

-- the bytes to write, or why there are none
unfoldable pub page_of : ℕ → List Stage → Result (List ℕ) Fault
page_of m ss = elim (check_of review_box m ss Layer.Writing) [ Ok u ↦ Ok (sheet_of m ss) | Err f ↦ Err f ]
