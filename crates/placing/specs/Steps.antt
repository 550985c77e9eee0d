-- Which of the four steps placing takes with a stage.
use Rattle.std.specs.Prelude.{ℕ, Bool, cond, ◌==◌}
use Rattle.placing.specs.declared.plan.place.Step.{Step}

-- by the rule's share, the stage's cost, and whether the core is the last
abbrev pub step_of : ℕ → ℕ → Bool → Step
step_of share cost is_last =
    cond (share == cost) Step.Whole (cond is_last Step.NoRoom (cond (share == 0) Step.NextCore Step.Split))
