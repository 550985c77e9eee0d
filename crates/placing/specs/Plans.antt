-- A plan by what it keeps, and what placing answers and leaves.
use Rattle.std.specs.Prelude.{ℕ, List, Ok, Err, Result}
use Rattle.arrayvec.specs.ArrayVec.{ArrayVec}
use Rattle.model.specs.declared.fault.Fault.{Fault}
use Rattle.model.specs.Faults.{answered}
use Rattle.placing.specs.declared.placement.Placement.{Placement}
use Rattle.placing.specs.declared.plan.Plan.{Plan}

abbrev pub placements_of : Plan → List Placement
placements_of p = p.placements.items

-- the core count and the placements in the order of the table
pub record Layout : Type 0 where
  pub cores : ℕ
  pub placements : List Placement

abbrev pub layout_of : Plan → Layout
layout_of p = record { cores = p.cores; placements = placements_of p }

-- gathered placements as a list, or why they are not
abbrev pub seated : Result (ArrayVec Placement) Fault → Result (List Placement) Fault
seated r = answered (λ (ps : ArrayVec Placement). ps.items) r

-- a plan that may have been refused, by what it keeps
abbrev pub kept : Result Plan Fault → Result Layout Fault
kept r = answered layout_of r

-- the layout of so many cores, unless placing refuses
abbrev pub laid_out : ℕ → Result (List Placement) Fault → Result Layout Fault
laid_out cores (Ok ps) = Ok (record { cores = cores; placements = ps })
laid_out cores (Err f) = Err f

abbrev pub place_answer : Result (List Placement) Fault → Result (Unit {0}) Fault
place_answer (Ok ps) = Ok tt
place_answer (Err f) = Err f

-- what a plan keeps after placing: the new layout, or at a refusal the one that it had
abbrev pub place_layout : Result (List Placement) Fault → ℕ → Layout → Layout
place_layout (Ok ps) cores before = record { cores = cores; placements = ps }
place_layout (Err f) cores before = before
