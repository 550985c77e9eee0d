-- Plans that are sound.
use Rattle.std.proofs.Common.{ℕ, ◌≤◌, List, length}
use mathlib.Core.Bool.{Bool-set}
use mathlib.Core.HLevel.{Π_prop}
use mathlib.Core.Logic.{∥∥₁_elim}
use native.Mathlib.Bridge.{le_prop}
use native.Mathlib.Nat.{ℕ_set}
use Rattle.rules.specs.declared.load.Member.{Member}
use Rattle.rules.specs.Timing.{Timely}
use Rattle.placing.specs.declared.plan.Plan.{Plan}
use Rattle.placing.specs.Plans.{placements_of}
use Rattle.placing.specs.declared.placement.Placement.{Placement}
use Rattle.placing.specs.Sound.{SoundPlacement, Sound}

timely_prop : (l : List Member) → IsProp (Timely l)
timely_prop l = Π_prop λ r. Π_prop λ periodic. Π_prop λ i. Π_prop λ h. Π_prop λ t. Π_prop λ fresh. Π_prop λ o. ℕ_set _ _

placement_prop : (cores : ℕ) (p : Placement) → IsProp (SoundPlacement cores p)
placement_prop cores p x y = λ i. record {
  named = Bool-set _ _ x.named y.named i;
  period_least = le_prop x.period_least y.period_least i;
  period_most = le_prop x.period_most y.period_most i;
  some = le_prop x.some y.some i;
  parts = ℕ_set _ _ x.parts y.parts i;
  cost_most = le_prop x.cost_most y.cost_most i;
  from_one = le_prop x.from_one y.from_one i;
  on_a_core = le_prop x.on_a_core y.on_a_core i;
  next_too = Π_prop (λ h. le_prop) x.next_too y.next_too i;
}

pub sound_prop : (cores : ℕ) (plan : List Placement) → IsProp (Sound cores plan)
sound_prop cores plan x y = λ i. record {
  each = Π_prop (λ k. Π_prop λ h. placement_prop cores _) x.each y.each i;
  legal = Π_prop (λ j. Π_prop λ h. Bool-set _ _) x.legal y.legal i;
  timely = Π_prop (λ j. Π_prop λ h. timely_prop _) x.timely y.timely i;
}

-- out of a ghost field
pub sound_out : (cores : ℕ) (plan : List Placement) → ∥ Sound cores plan ∥₁ → Sound cores plan
sound_out cores plan t = ∥∥₁_elim t (sound_prop cores plan) (λ s. s)

-- what a plan's type says of it
pub plan_sound : (p : Plan) → Sound p.cores (placements_of p)
plan_sound p = sound_out p.cores (placements_of p) p.sound

pub plan_few : (p : Plan) → length (placements_of p) ≤ 64
plan_few p = p.few
