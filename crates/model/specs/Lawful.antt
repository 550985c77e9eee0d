-- What a lawful core count and table are, said without the check.
use Rattle.std.specs.Prelude.{◌≡◌, ℕ, ◌+◌, ◌-◌, ◌<◌, ◌≤◌, true, List, [], ◌++◌, length, replicate, ◌≢◌, slice_index_or}
use Rattle.std.specs.List.{AllByRecursion}
use Rattle.model.specs.declared.limits.Limits.{Limits}
use Rattle.model.specs.declared.stage.Stage.{Stage}
use Rattle.model.specs.Limits.{name_bytes}
use Rattle.model.specs.Names.{letter}

-- letters from a to z, at least one, and zeros behind them up to twelve bytes
pub record Name (n : List ℕ) : Type 0 where
  pub word : List ℕ
  pub letters : AllByRecursion (λ b. letter b ≡ true) word
  pub some : 1 ≤ length word
  pub most : length word ≤ name_bytes
  pub padded : n ≡ word ++ replicate (name_bytes - length word) 0

abbrev pub no_stage : Stage
no_stage = record { name = []; cost = 0; period = 0 }

abbrev pub stage : List Stage → ℕ → Stage
stage ss i = slice_index_or ss i no_stage

pub record LawfulStage (limits : Limits) (s : Stage) : Type 0 where
  pub period_least : limits.shortest ≤ s.period
  pub period_most : s.period ≤ limits.longest
  pub cost_least : 1 ≤ s.cost
  pub cost_most : s.cost ≤ s.period
  pub named : Name s.name

pub record LawfulTable (limits : Limits) (ss : List Stage) : Type 0 where
  pub each : (i : ℕ) → i < length ss → LawfulStage limits (stage ss i)
  -- periods never fall along the table
  pub rising : (i : ℕ) → i + 1 < length ss → (stage ss i).period ≤ (stage ss (i + 1)).period
  -- no two stages share a name
  pub apart : (i j : ℕ) → i < j → j < length ss → (stage ss i).name ≢ (stage ss j).name

pub record Lawful (limits : Limits) (m : ℕ) (ss : List Stage) : Type 0 where
  pub cores_least : 1 ≤ m
  pub cores_most : m ≤ limits.cores
  pub some : 1 ≤ length ss
  pub most : length ss ≤ limits.stages
  pub table : LawfulTable limits ss
