-- The greatest number that passes a test.
use Rattle.std.proofs.Common.{◌≡◌, ℕ, zero, suc, ◌<◌, ◌≤◌, Bool, true, false, sym, ap, ◌∙◌, ⊎_elim, arith}
use Rattle.std.proofs.lemmas.Bool.{cases_Bool, cases_eq, cases_lt, cond-true, cond-false, both_ways}
use Rattle.rules.specs.Rules.{greatest}

pub record Greatest (p : ℕ → Bool) (n r : ℕ) : Type 0 where
  pub within : r ≤ n
  pub passed : 0 < r → p r ≡ true
  pub above : (c : ℕ) → r < c → c ≤ n → p c ≡ false

pub greatest_of : (p : ℕ → Bool) (n : ℕ) → Greatest p n (greatest p n)
greatest_of p zero = record { within = omega arith; passed = λ h. absurd (omega arith); above = λ c h k. absurd (omega arith) }
greatest_of p (suc n) =
    ⊎_elim {C = Greatest p (suc n) (greatest p (suc n))}
    (λ y.
    let is : greatest p (suc n) ≡ suc n = cond-true (p (suc n)) (suc n) (greatest p n) y in
    record { within = omega arith; passed = λ h. ap p is ∙ y; above = λ c h k. absurd (omega arith) })
    (λ y.
    let is : greatest p (suc n) ≡ greatest p n = cond-false (p (suc n)) (suc n) (greatest p n) y in
    let less = greatest_of p n in
    record {
      within = omega (arith, less.within);
      passed = λ h. ap p is ∙ less.passed (omega arith);
      above = λ c h k. ⊎_elim (λ e. ap p e ∙ y) (λ ne. less.above c (omega arith) (omega arith)) (cases_eq c (suc n));
    })
    (cases_Bool (p (suc n)))

pub same_greatest : (p : ℕ → Bool) (n r s : ℕ) → Greatest p n r → Greatest p n s → r ≡ s
same_greatest p n r s x y =
    ⊎_elim (λ e. e)
    (λ ne. ⊎_elim {C = r ≡ s}
    (λ lt. absurd (both_ways (p s) (x.above s lt y.within) (y.passed (omega arith))))
    (λ ge. absurd (both_ways (p r) (y.above r (omega arith) x.within) (x.passed (omega arith))))
    (cases_lt r s))
    (cases_eq r s)

pub greatest_is : (p : ℕ → Bool) (n r : ℕ) → Greatest p n r → r ≡ greatest p n
greatest_is p n r x = same_greatest p n r (greatest p n) x (greatest_of p n)

pub greatest_same : (p q : ℕ → Bool) → ((c : ℕ) → p c ≡ q c) → (n : ℕ) → greatest p n ≡ greatest q n
greatest_same p q e n =
    let x = greatest_of p n in
    greatest_is q n (greatest p n) (record { within = x.within; passed = λ h. sym (e (greatest p n)) ∙ x.passed h; above = λ c h k. sym (e c) ∙ x.above c h k })

pub greatest_none : (p : ℕ → Bool) (n : ℕ) → ((c : ℕ) → 1 ≤ c → p c ≡ false) → 0 ≡ greatest p n
greatest_none p n e = greatest_is p n 0 (record { within = omega arith; passed = λ h. absurd (omega arith); above = λ c h k. e c h })
