-- When a stage wants a tick of a core.
use Rattle.std.proofs.Common.{◌≡◌, ℕ, suc, ◌<◌, true, ◌⊎◌, arith}
use Rattle.std.proofs.lemmas.Bool.Decides.{nat_tests}
use Rattle.placing.specs.declared.placement.Placement.{Placement}
use Rattle.dispatch.specs.declared.state.State.{State}
use Rattle.dispatch.specs.Ticks.{wants, share_on, given_on}

pub share_first : (p : Placement) → share_on p p.core ≡ p.first
share_first p = grind (arith, nat_tests)

pub share_second : (p : Placement) → share_on p (suc p.core) ≡ p.second
share_second p = grind (arith, nat_tests)

module _ (p : Placement) (s : State) where
  pub given_first : given_on p s p.core ≡ s.first
  given_first = grind (arith, nat_tests)

  pub given_second : given_on p s (suc p.core) ≡ s.second
  given_second = grind (arith, nat_tests)

  pub wants_first : wants p s p.core ≡ true → s.first < p.first
  wants_first h = grind (arith, nat_tests)

  pub wants_second : wants p s (suc p.core) ≡ true → s.second < p.second
  wants_second h = grind (arith, nat_tests)

  pub wants_where : (j : ℕ) → wants p s j ≡ true → (j ≡ p.core) ⊎ (j ≡ suc p.core)
  wants_where j h = grind (arith, nat_tests)
