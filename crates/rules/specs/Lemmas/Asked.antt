-- What members can ask for, and when it is covered.
use Rattle.std.specs.Prelude.{◌≡◌, ℕ, ◌+◌, ◌-◌, ◌*◌, ◌<◌, ◌≤◌, true, false, List, length}
use Rattle.std.proofs.Common.{mul-le-mul_left, mul-le-mul_right, arith}
use Rattle.std.proofs.Math.Nat.{mul-div-le}
use Rattle.std.proofs.ByRecursion.{All-from_get_or, sum_by_le}
use Rattle.std.proofs.lemmas.Bool.{leb-true, le-leb, lt-leb, both_ways}
use Rattle.rules.specs.declared.load.Member.{Member}
use Rattle.rules.specs.Loads.{member, nobody}
use Rattle.rules.specs.Bounds.{Modest, AllModest}
use Rattle.rules.specs.Rules.{rounded_up, asked, interference, covers, covered_to}
use Rattle.rules.specs.Lemmas.Tests.{refuted}
use Rattle.rules.specs.Lemmas.Rounding.{div_more}
use Rattle.rules.specs.Lemmas.Sums.{sum_mono}
use Rattle.rules.specs.Lemmas.Moments.{some_more}

-- what is asked for never falls
pub interference_later : (l : List Member) (s t : ℕ) → s ≤ t → interference l s ≤ interference l t
interference_later l s t h =
    sum_mono (asked s) (asked t) (λ m. mul-le-mul_left m.cost (div_more (s + m.hold + (m.period - 1)) (t + m.hold + (m.period - 1)) m.period (omega arith))) l

-- no moment from one that is too early up to what is asked for there will do
pub between_none : (l : List Member) (own t s : ℕ) → t ≤ s → s < own + interference l t → covers l own s ≡ false
between_none l own t s later early = lt-leb (own + interference l s) s (omega (arith, interference_later l t s later))

pub asked_small : (m : Member) (t : ℕ) → Modest m → t ≤ 60000 → asked t m ≤ 180000
asked_small m t k h =
    let grows = mul-le-mul_right (rounded_up (t + m.hold) m.period) k.kept.fits in
    let all = mul-div-le (t + m.hold + (m.period - 1)) m.period in
    omega (arith, k.kept.most, k.held)

pub interference_small : (l : List Member) (t : ℕ) → AllModest l → t ≤ 60000 → interference l t ≤ length l * 180000
interference_small l t y h =
    sum_by_le (asked t) 180000 l (All-from_get_or (λ m. asked t m ≤ 180000) l nobody (λ i lt. asked_small (member l i) t (y.each i lt) h))

-- a lower cost is covered too
pub covered_less : (l : List Member) (c d limit : ℕ) → c ≤ d → covered_to l d limit ≡ true → covered_to l c limit ≡ true
covered_less l c d limit h e =
    some_more (covers l d) (covers l c) (λ t x. le-leb (c + interference l t) t (omega (arith, leb-true (d + interference l t) t x))) limit e

-- where a cost is not covered, a greater one is not
pub uncovered_more : (before : List Member) (c d limit : ℕ) → c ≤ d → covered_to before c limit ≡ false → covered_to before d limit ≡ false
uncovered_more before c d limit h e =
    refuted (covered_to before d limit) (λ y. both_ways (covered_to before c limit) e (covered_less before c d limit h y))
