-- When a table whose periods each divide the next fits on so many cores.
use Rattle.std.specs.Prelude.{◌≡◌, ℕ, ◌*◌, ◌≤◌, Bool, true, cond, ◌↔◌, List, map, Ok, Err, Result, nat_le}
use Rattle.model.specs.declared.fault.Fault.{Fault}
use Rattle.model.specs.declared.fault.Layer.{Layer}
use Rattle.model.specs.declared.stage.Stage.{Stage}
use Rattle.model.specs.Limits.{review_box}
use Rattle.model.specs.Lawful.{Lawful}
use Rattle.model.specs.Tables.{check_of}
use Rattle.rules.specs.declared.load.Member.{Member}
use Rattle.rules.specs.Loads.{whole_member}
use Rattle.rules.specs.Rules.{last_period, chained, work_in, harmonic}
use Rattle.placing.specs.declared.placement.Placement.{Placement}
use Rattle.placing.specs.declared.fit.Fit.{Fit}
use Rattle.placing.specs.Placing.{place_of}

-- the stages as members, whole
abbrev pub whole_load : List Stage → List Member
whole_load ss = map whole_member ss

abbrev pub in_chain : List Stage → Bool
in_chain ss = chained (whole_load ss)

-- The exact sum of cost ÷ period over all stages, as a fraction: its denominator is the last period, which in a
-- chain is a multiple of every period, and so its numerator is the sum of cost × (last period ÷ period).
abbrev pub denominator : List Stage → ℕ
denominator ss = last_period (whole_load ss)

abbrev pub numerator : List Stage → ℕ
numerator ss = work_in (denominator ss) (whole_load ss)

-- whether that sum is at most the core count
abbrev pub sum_fits : ℕ → List Stage → Bool
sum_fits cores ss = nat_le (numerator ss) (cores * denominator ss)

abbrev pub fit_by : ℕ → List Stage → Fit
fit_by cores ss = cond (in_chain ss) (cond (sum_fits cores ss) Fit.Fits Fit.TooMuch) Fit.NoChain

abbrev pub if_checked : Result (Unit {0}) Fault → Fit → Result Fit Fault
if_checked (Ok u) fit = Ok fit
if_checked (Err f) fit = Err f

-- what the call answers
abbrev pub fit_of : ℕ → List Stage → Result Fit Fault
fit_of cores ss = if_checked (check_of review_box cores ss Layer.Placing) (fit_by cores ss)

-- for a lawful core count and a table in a chain: the exact sum is at most the core count if and only if placing
-- under the harmonic rule succeeds
abbrev pub HarmonicIsExact : ℕ → List Stage → Type 0
HarmonicIsExact cores ss =
    Lawful review_box cores ss → in_chain ss ≡ true →
    (numerator ss ≤ cores * denominator ss) ↔ ((plan : List Placement) × (place_of harmonic cores ss ≡ Ok plan))
