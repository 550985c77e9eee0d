-- What every plan guarantees: shares and cores fit together, and each core's load is lawful and timely.
use Rattle.std.specs.Prelude.{◌≡◌, ℕ, suc, ◌+◌, ◌<◌, ◌≤◌, true, List, length, slice_index_or}
use Rattle.model.specs.Limits.{review_box}
use Rattle.model.specs.Names.{lawful_name}
use Rattle.rules.specs.Loads.{lawful}
use Rattle.rules.specs.Timing.{Timely}
use Rattle.placing.specs.declared.placement.Placement.{Placement}
use Rattle.placing.specs.Placements.{no_placement, load_on}

pub record SoundPlacement (cores : ℕ) (p : Placement) : Type 0 where
  pub named : lawful_name p.name ≡ true
  pub period_least : review_box.shortest ≤ p.period
  pub period_most : p.period ≤ review_box.longest
  pub some : 1 ≤ p.first
  pub parts : p.first + p.second ≡ p.cost
  pub cost_most : p.cost ≤ p.period
  pub from_one : 1 ≤ p.core
  pub on_a_core : p.core ≤ cores
  -- a second share has a core
  pub next_too : 1 ≤ p.second → suc p.core ≤ cores

pub record Sound (cores : ℕ) (plan : List Placement) : Type 0 where
  pub each : (i : ℕ) → i < length plan → SoundPlacement cores (slice_index_or plan i no_placement)
  pub legal : (j : ℕ) → 0 < length (load_on plan j) → lawful (load_on plan j) ≡ true
  pub timely : (j : ℕ) → 0 < length (load_on plan j) → Timely (load_on plan j)
