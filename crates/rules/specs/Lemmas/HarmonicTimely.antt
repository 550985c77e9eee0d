-- Loads that the harmonic rule passes are timely, if released with their periods.
use Rattle.std.specs.Prelude.{◌≡◌, ℕ, zero, suc, ◌+◌, ◌*◌, ◌/◌, ◌<◌, ◌≤◌, Bool, true, List, length, take, refl}
use Rattle.std.specs.Int.{◌∣◌}
use Rattle.std.proofs.Math.Nat.{div-mul_cancel, dvd_trans}
use Rattle.std.proofs.Common.{arith}
use Rattle.rules.specs.declared.load.Member.{Member}
use Rattle.rules.specs.Loads.{member}
use Rattle.rules.specs.Timing.{count, serves, CoreRun, Periodic, Timely}
use Rattle.rules.specs.Rules.{work, work_in, harmonic}
use Rattle.rules.specs.Lemmas.Counts.{count_all, count_none}
use Rattle.rules.specs.Lemmas.Since.{Lasts}
use Rattle.rules.specs.Lemmas.Track.{in_periods, closes_by}
use Rattle.rules.specs.Lemmas.Lawful.{first_fits}
use Rattle.rules.specs.Lemmas.Ticks.{busy, busy_count, busy_open, track}
use Rattle.rules.specs.Lemmas.Spacing.{periodic_spaced, at_multiple, released_at}
use Rattle.rules.specs.Lemmas.Sums.{sum_suc}
use Rattle.rules.specs.Lemmas.Chain.{Harmony, harmony, divides, fits_period}
use Rattle.rules.specs.Lemmas.ResponseTimely.{first_late}

module _ (l : List Member) (y : Harmony l) (r : CoreRun l) (periodic : Periodic l r) where
  abbrev σ : ℕ → ℕ → Bool
  σ i = serves r.opened r.kept i

  abbrev below : ℕ → ℕ → Bool
  below i = busy r.opened r.kept i

  -- in p ticks from t on, all of the members' periods dividing both, each is served at most its cost in each period
  below_most : (t p h : ℕ) → h ≤ length l → ((k : ℕ) → k < h → ((member l k).period ∣ t) × ((member l k).period ∣ p)) → count (below h) t p ≤ work_in p (take h l)
  below_most t p zero inside d = omega (arith, count_none (below 0) t p (λ k lt. refl))
  below_most t p (suc h) inside d =
      let m = member l h in
      let both = d h (omega arith) in
      let whole : p / m.period * m.period ≡ p = div-mul_cancel m.period both.1 in
      let ih = below_most t p h (omega arith) (λ k lt. d k (omega arith)) in
      let one = in_periods (track l r (periodic_spaced l r periodic) h inside) (p / m.period) t p (released_at l r periodic h t inside both.0) (omega arith) in
      omega (arith, busy_count r.opened r.kept h t p, sum_suc (work p) l h inside)

  has_cost : (i : ℕ) → i < length l → (t : ℕ) → Lasts (r.released i) (r.opened i) t (member l i).period → (member l i).cost ≤ count (σ i) t (member l i).period
  has_cost zero inside t w = omega (arith, first_late l r t (member l 0).period w, first_fits l y.good)
  has_cost (suc i) inside t w =
      let p = (member l (suc i)).period in
      let from = at_multiple l r periodic (suc i) t inside w.fresh in
      let full = count_all (below (suc (suc i))) t p (λ k lt. busy_open r.opened r.kept i (t + k) (w.stays k lt)) in
      let div : (k : ℕ) → k < suc i → (member l k).period ∣ p = λ k lt. divides l y.chain k (suc i) (omega arith) inside in
      let most = below_most t p (suc i) (omega arith) (λ k lt. (dvd_trans (member l k).period (div k lt) from, div k lt)) in
      omega (arith, busy_count r.opened r.kept (suc i) t p, fits_period l y (suc i) inside)

pub timely_harmonic : (l : List Member) → harmonic l ≡ true → Timely l
timely_harmonic l passed r periodic i inside =
    closes_by (track l r (periodic_spaced l r periodic) i inside) (member l i).period (omega arith) (has_cost l (harmony l passed) r periodic i inside)
