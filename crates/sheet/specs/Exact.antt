-- What reading and writing say of lawful core counts and tables.
use Rattle.std.specs.Prelude.{◌≡◌, ℕ, ◌≤◌, ◌↔◌, List, length, take, Ok, Err, Result, ◌≢◌}
use Rattle.model.specs.declared.fault.Cause.{Cause}
use Rattle.model.specs.declared.fault.Fault.{Fault}
use Rattle.model.specs.declared.fault.Layer.{Layer}
use Rattle.model.specs.Faults.{fault}
use Rattle.model.specs.declared.stage.Stage.{Stage}
use Rattle.model.specs.Limits.{review_box}
use Rattle.model.specs.Lawful.{Lawful}
use Rattle.sheet.specs.declared.read.Counts.{Counts}
use Rattle.sheet.specs.Sheets.{read_of}
use Rattle.sheet.specs.Printed.{sheet_of}

-- a text is the sheet of m cores and of n stages that a table begins with
pub record SheetOf (text : List ℕ) (table : List Stage) (m n : ℕ) : Type 0 where
  pub stages : List Stage
  pub lawful : Lawful review_box m stages
  pub count : length stages ≡ n
  pub printed : text ≡ sheet_of m stages
  pub stored : take n table ≡ stages

-- reading accepts a text exactly if it is the sheet of a lawful core count and table
abbrev pub ReadsExactly : List ℕ → Result Counts Fault → List Stage → Type 0
ReadsExactly text r table = (m n : ℕ) → (r ≡ Ok (record { cores = m; stages = n })) ↔ SheetOf text table m n

-- what is written is read back
abbrev pub WritesBack : ℕ → List Stage → Result ℕ Fault → List ℕ → Type 0
WritesBack m ss r page = (n : ℕ) → r ≡ Ok n → read_of (take n page) ≡ Ok (m, ss)

-- an answer that refuses neither the counts nor a record
abbrev pub Accepted : Result ℕ Fault → Type 0
Accepted r =
    (place : ℕ) → (r ≢ Err (fault Cause.CountOutside place Layer.Writing)) × (r ≢ Err (fault Cause.BadRecord place Layer.Writing))

-- a lawful core count and table whose sheet has this many bytes
pub record SheetOfSize (size : ℕ) : Type 0 where
  pub cores : ℕ
  pub stages : List Stage
  pub lawful : Lawful review_box cores stages
  pub long : length (sheet_of cores stages) ≡ size

-- no answer counts more bytes, and some sheet has so many
pub record Longest (size : ℕ) (r : Result ℕ Fault) : Type 0 where
  pub most : (n : ℕ) → r ≡ Ok n → n ≤ size
  pub reached : SheetOfSize size
