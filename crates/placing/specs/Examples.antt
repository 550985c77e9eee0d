-- Small tables, and what placing makes of them; with the shares that the rules leave.
use Rattle.std.specs.Prelude.{◌≡◌, ℕ, ◌-◌, List, [], ◌∷◌, ◌++◌, length, replicate, Ok, Err, codes}
use Rattle.model.specs.declared.fault.Cause.{Cause}
use Rattle.model.specs.declared.fault.Layer.{Layer}
use Rattle.model.specs.declared.stage.Stage.{Stage}
use Rattle.model.specs.Faults.{fault}
use Rattle.model.specs.Limits.{name_bytes}
use Rattle.rules.specs.Examples.{WorkedShares}
use Rattle.rules.specs.Rules.{response, harmonic, use_cap, count_cap}
use Rattle.placing.specs.declared.placement.Placement.{Placement}
use Rattle.placing.specs.Placements.{seat}
use Rattle.placing.specs.Placing.{place_of}

-- a stage by its letters, cost and period
abbrev pub stage_by : List ℕ → ℕ → ℕ → Stage
stage_by word cost period = record { name = word ++ replicate (name_bytes - length word) 0; cost = cost; period = period }

abbrev pub audio : ℕ → ℕ → Stage
audio cost period = stage_by (codes "audio") cost period

abbrev pub decode : ℕ → ℕ → Stage
decode cost period = stage_by (codes "decode") cost period

abbrev pub grain : ℕ → ℕ → Stage
grain cost period = stage_by (codes "grain") cost period

abbrev pub scope : ℕ → ℕ → Stage
scope cost period = stage_by (codes "scope") cost period

-- the worked session, and its plan
abbrev pub session_table : List Stage
session_table = audio 1 4 ∷ decode 2 6 ∷ grain 4 8 ∷ scope 5 12 ∷ []

abbrev pub session_plan : List Placement
session_plan = seat (audio 1 4) 1 1 0 ∷ seat (decode 2 6) 1 2 0 ∷ seat (grain 4 8) 1 2 2 ∷ seat (scope 5 12) 2 5 0 ∷ []

pub record WorkedPlacings : Type 0 where
  pub shares : WorkedShares
  -- the harmonic rule splits the second stage into 1 and 2, where response has no room for the third
  pub harmonic_splits :
      place_of harmonic 2 (audio 3 4 ∷ decode 3 4 ∷ grain 4 8 ∷ [])
      ≡ Ok (seat (audio 3 4) 1 3 0 ∷ seat (decode 3 4) 1 1 2 ∷ seat (grain 4 8) 2 4 0 ∷ [])
  pub response_refuses : place_of response 2 (audio 3 4 ∷ decode 3 4 ∷ grain 4 8 ∷ []) ≡ Err (fault Cause.NoRoom 3 Layer.Placing)
  -- one tick more than two cores have
  pub harmonic_refuses : place_of harmonic 2 (audio 3 4 ∷ decode 3 4 ∷ grain 5 8 ∷ []) ≡ Err (fault Cause.NoRoom 3 Layer.Placing)
  -- the second share uses more than the cap
  pub not_alone : place_of (use_cap 400000 response) 2 (audio 9 10 ∷ []) ≡ Err (fault Cause.NotAlone 1 Layer.Placing)
  pub session :
      place_of (count_cap 12 (use_cap 900000 response)) 2 session_table ≡ Ok session_plan
