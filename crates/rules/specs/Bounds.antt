-- How large the numbers of a load can be, where it is lawful or the front of a lawful one.
use Rattle.std.specs.Prelude.{ℕ, ◌<◌, ◌≤◌, List, length}
use Rattle.model.specs.Limits.{review_box}
use Rattle.rules.specs.declared.load.Member.{Member}
use Rattle.rules.specs.Loads.{member}

-- a member within the limits
pub record Kept (m : Member) : Type 0 where
  pub least : review_box.shortest ≤ m.period
  pub most : m.period ≤ review_box.longest
  pub some_cost : 1 ≤ m.cost
  pub fits : m.cost ≤ m.period

-- and held no longer than its period
pub record Modest (m : Member) : Type 0 where
  pub kept : Kept m
  pub held : m.hold ≤ m.period

-- and no more of them than a box has stages
pub record AllModest (l : List Member) : Type 0 where
  pub few : length l ≤ review_box.stages
  pub each : (i : ℕ) → i < length l → Modest (member l i)
