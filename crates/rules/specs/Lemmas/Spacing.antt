-- Releases that are at least a period apart.
use Rattle.std.specs.Prelude.{◌≡◌, ℕ, suc, ◌+◌, ◌%◌, ◌<◌, ◌≤◌, true, List, length}
use Rattle.std.proofs.Common.{sym, ◌∙◌, arith}
use Rattle.std.specs.Int.{◌∣◌}
use Rattle.std.proofs.Math.Nat.{dvd_of_mod-eq-zero, mod-eq-zero_of_dvd, dvd-add_iff_right, le_of_dvd}
use Rattle.std.proofs.lemmas.Bool.{eqb-true, eq-eqb}
use Rattle.rules.specs.declared.load.Member.{Member}
use Rattle.rules.specs.Loads.{member}
use Rattle.rules.specs.Timing.{CoreRun, Periodic}

-- a member's releases begin at any moment, and each is at least a period after the one before
abbrev pub Spaced : (l : List Member) → CoreRun l → Type 0
Spaced l r = (i t d : ℕ) → i < length l → r.released i t ≡ true → r.released i (t + suc d) ≡ true → (member l i).period ≤ suc d

module _ (l : List Member) (r : CoreRun l) (periodic : Periodic l r) (i t : ℕ) (inside : i < length l) where
  -- the releases are the multiples of the period
  pub at_multiple : r.released i t ≡ true → (member l i).period ∣ t
  at_multiple h = dvd_of_mod-eq-zero (member l i).period (eqb-true (t % (member l i).period) 0 (sym (periodic i t inside) ∙ h))

  pub released_at : (member l i).period ∣ t → r.released i t ≡ true
  released_at d = periodic i t inside ∙ eq-eqb (t % (member l i).period) 0 (mod-eq-zero_of_dvd (member l i).period d)

-- releases as each period begins are so
pub periodic_spaced : (l : List Member) (r : CoreRun l) → Periodic l r → Spaced l r
periodic_spaced l r periodic i t d inside first second =
    let P = (member l i).period in
    le_of_dvd (omega arith) ((dvd-add_iff_right P (at_multiple l r periodic i t inside first)).1 (at_multiple l r periodic i (t + suc d) inside second))
