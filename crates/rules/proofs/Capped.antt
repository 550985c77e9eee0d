-- The share under a cap, from the share of the rule below.
use Rattle.std.proofs.Common.{◌≡◌, ℕ, ◌-◌, ◌*◌, ◌/◌, ◌<◌, ◌≤◌, min, Bool, true, false, ◌&&◌, leb, List, length, sym, ap, subst, ⊎_elim, le-div_iff_mul-le, arith}
use Rattle.std.proofs.lemmas.List.{length_push}
use Rattle.std.proofs.lemmas.List.Sums.{sum_by_push}
use Rattle.std.proofs.lemmas.Bool.{and_from, and_left, and_right, leb-true, le-leb, lt-leb, cases_lt}
use Rattle.rules.specs.declared.load.Member.{Member}
use Rattle.rules.specs.Loads.{lawful, joined, newcomer}
use Rattle.rules.specs.Bounds.{Kept, AllModest}
use Rattle.rules.specs.Rules.{greatest, share_of, use_of, uses, use_cap, count_cap}
use Rattle.rules.specs.Laws.{LoweringKeeps}
use Rattle.rules.specs.Lemmas.Tests.{refuted}
use Rattle.rules.specs.Lemmas.Rounding.{ceil_from, ceil_to}
use Rattle.rules.proofs.Greatest.{Greatest, greatest_of, greatest_is, greatest_same, greatest_none}
use Rattle.rules.proofs.Small.{front_modest, joined_kept}

module _ (below : List Member → Bool) (l : List Member) (cost period : ℕ) where
  pub count_share : (k : ℕ) → length l < k → share_of below l cost period ≡ share_of (count_cap k below) l cost period
  count_share k h =
      greatest_same (λ c. below (joined l c period)) (λ c. count_cap k below (joined l c period))
      (λ c. ap (λ b. b && below (joined l c period)) (sym (le-leb (length (joined l c period)) k (omega (arith, length_push l (newcomer c period))))))
      cost

  pub count_none : (k : ℕ) → k ≤ length l → 0 ≡ share_of (count_cap k below) l cost period
  count_none k h =
      greatest_none (λ c. count_cap k below (joined l c period)) cost
      (λ c _. and_left (leb (length (joined l c period)) k) (below (joined l c period)) (lt-leb (length (joined l c period)) k (omega (arith, length_push l (newcomer c period)))))

  pub none_below : (test : List Member → Bool) → 0 ≡ share_of below l cost period → 0 ≡ greatest (λ c. test (joined l c period) && below (joined l c period)) cost
  none_below test e =
      let less = greatest_of (λ c. below (joined l c period)) cost in
      greatest_is (λ c. test (joined l c period) && below (joined l c period)) cost 0 (record {
        within = omega arith;
        passed = λ h. absurd (omega arith);
        above = λ c h k. and_right (test (joined l c period)) (below (joined l c period)) (less.above c (omega arith) k);
      })

module _ (below : List Member → Bool) (keeps : LoweringKeeps below) (only : (l : List Member) → below l ≡ true → lawful l ≡ true) (l : List Member) (cost period g : ℕ) (is : g ≡ share_of below l cost period) (some : 0 < g) where
  abbrev share_below : Greatest (λ c. below (joined l c period)) cost (share_of below l cost period)
  share_below = greatest_of (λ c. below (joined l c period)) cost

  pub passed_below : below (joined l g period) ≡ true
  passed_below = subst (λ c. 0 < c → below (joined l c period) ≡ true) (sym is) share_below.passed some

  pub load_modest : AllModest l
  load_modest = front_modest l (newcomer g period) (only (joined l g period) passed_below)

  joined_below : Kept (newcomer g period)
  joined_below = joined_kept l g period (only (joined l g period) passed_below)

  pub use_full : (u : ℕ) → u < uses l → 0 ≡ share_of (use_cap u below) l cost period
  use_full u h =
      greatest_none (λ c. use_cap u below (joined l c period)) cost
      (λ c _. and_left (leb (uses (joined l c period)) u) (below (joined l c period)) (lt-leb (uses (joined l c period)) u (omega (arith, sum_by_push use_of l (newcomer c period)))))

  pub use_share : (u : ℕ) → uses l ≤ u → min ((u - uses l) * period / 1000000) g ≡ share_of (use_cap u below) l cost period
  use_share u room =
      let q = (u - uses l) * period / 1000000 in
      let pos : 0 < period = omega (arith, joined_below.least) in
      let million : 0 < 1000000 = omega arith in
      greatest_is (λ c. use_cap u below (joined l c period)) cost (min q g) (record {
        within = omega (arith, share_below.within);
        passed = λ h.
            let c = min q g in
            let fits = (le-div_iff_mul-le {k = 1000000} {x = c} {y = (u - uses l) * period} million).0 (omega arith) in
            let few = ceil_from (1000000 * c) period (u - uses l) pos (omega arith) in
            and_from (leb (uses (joined l c period)) u) (below (joined l c period))
            (le-leb (uses (joined l c period)) u (omega (arith, sum_by_push use_of l (newcomer c period))))
            (keeps l (newcomer g period) c (omega arith) (omega arith) passed_below);
        above = λ c h k.
            ⊎_elim {C = use_cap u below (joined l c period) ≡ false}
            (λ lt. and_right (leb (uses (joined l c period)) u) (below (joined l c period)) (share_below.above c (omega arith) k))
            (λ le. and_left (leb (uses (joined l c period)) u) (below (joined l c period)) (refuted (leb (uses (joined l c period)) u) (λ e.
            let total = sum_by_push use_of l (newcomer c period) in
            let fits = ceil_to (1000000 * c) period (u - uses l) pos (omega (arith, leb-true (uses (joined l c period)) u e)) in
            let more = (le-div_iff_mul-le {k = 1000000} {x = c} {y = (u - uses l) * period} million).1 (omega arith) in
            omega arith)))
            (cases_lt g c);
      })
