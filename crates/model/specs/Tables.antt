-- The rules of a table of stages, and its check.
use Rattle.std.specs.Prelude.{ℕ, ◌+◌, Bool, cond, not, ◌&&◌, List, [], ◌∷◌, ◌++◌, length, is_some, Some, None, Ok, Err, Option, Result, nat_le}
use Rattle.std.specs.List.{list_any}
use Rattle.std.specs.Str.{bytes_eq}
use Rattle.model.specs.declared.fault.Fault.{Fault}
use Rattle.model.specs.declared.fault.Cause.{Cause}
use Rattle.model.specs.declared.fault.Layer.{Layer}
use Rattle.model.specs.Faults.{fault}
use Rattle.model.specs.declared.limits.Limits.{Limits}
use Rattle.model.specs.declared.stage.Stage.{Stage}
use Rattle.model.specs.Limits.{cores_allowed, stages_allowed, times_allowed}
use Rattle.model.specs.Names.{lawful_name}

-- whether one of the stages has the name
abbrev pub used : List ℕ → List Stage → Bool
used n ss = list_any (λ (s : Stage). bytes_eq s.name n) ss

abbrev pub last_period : List Stage → ℕ
last_period [] = 0
last_period (s ∷ []) = s.period
last_period (s ∷ t ∷ ss) = last_period (t ∷ ss)

-- what keeps a stage from standing right behind these, if anything does, its name's bytes apart
unfoldable pub breach_of : Limits → Stage → List Stage → Option Cause
breach_of limits s before =
    cond (times_allowed limits s.cost s.period)
    (cond (nat_le (last_period before) s.period) (cond (used s.name before) (Some Cause.NameUsed) None) (Some Cause.PeriodFalls))
    (Some Cause.OutsideLimits)

-- whether a record can stand right behind these
unfoldable pub follows : Limits → Stage → List Stage → Bool
follows limits s before = lawful_name s.name && not (is_some (breach_of limits s before))

-- the number of the first record that cannot stand behind those before it
unfoldable pub first_bad : Limits → List Stage → List Stage → Option ℕ
first_bad limits before [] = None
first_bad limits before (s ∷ ss) =
    cond (follows limits s before) (first_bad limits (before ++ s ∷ []) ss) (Some (length before + 1))

-- what the check of a core count and a table answers
unfoldable pub check_of : Limits → ℕ → List Stage → Layer → Result (Unit {0}) Fault
check_of limits cores table layer =
    cond (cores_allowed limits cores && stages_allowed limits (length table))
    (elim (first_bad limits [] table) [ None ↦ Ok tt | Some i ↦ Err (fault Cause.BadRecord i layer) ])
    (Err (fault Cause.CountOutside 0 layer))
