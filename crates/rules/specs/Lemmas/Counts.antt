-- Laws of `count`: ticks of a window that pass a test.
use Rattle.std.specs.Prelude.{◌≡◌, ℕ, zero, suc, ◌+◌, ◌-◌, ◌<◌, ◌≤◌, Bool, true, false, cond, refl}
use Rattle.std.proofs.Common.{sym, ap, ap₂, subst, add-zero, add-suc, arith}
use Rattle.std.proofs.lemmas.Bool.{cond-true, cond-false}
use Rattle.rules.specs.Timing.{count}

pub one_or_none : (b : Bool) → cond b 1 0 ≤ 1
one_or_none true = omega arith
one_or_none false = omega arith

-- a window of m + n ticks is one of m and then one of n
pub count_split : (p : ℕ → Bool) (a m n : ℕ) → count p a (m + n) ≡ count p a m + count p (a + m) n
count_split p a m zero = omega (arith, ap (count p a) (add-zero m))
count_split p a m (suc n) =
    let e : a + (m + n) ≡ a + m + n = omega arith in
    let h = count_split p a m n in
    rw add-suc (subst (λ k. count p a (m + n) + cond (p k) 1 0 ≡ count p a m + (count p (a + m) n + cond (p (a + m + n)) 1 0)) (sym e) (omega arith))

pub count_most : (p : ℕ → Bool) (a n : ℕ) → count p a n ≤ n
count_most p a zero = omega arith
count_most p a (suc n) =
    let h = count_most p a n in
    omega (arith, one_or_none (p (a + n)))

-- a longer window holds no fewer
pub count_longer : (p : ℕ → Bool) (a m n : ℕ) → m ≤ n → count p a m ≤ count p a n
count_longer p a m n h =
    let e : m + (n - m) ≡ n = omega arith in
    let s = subst (λ k. count p a k ≡ count p a m + count p (a + m) (n - m)) e (count_split p a m (n - m)) in
    omega arith

-- a test that passes throughout
pub count_all : (p : ℕ → Bool) (a n : ℕ) → ((k : ℕ) → k < n → p (a + k) ≡ true) → count p a n ≡ n
count_all p a zero h = refl
count_all p a (suc n) h =
    let e = count_all p a n (λ k l. h k (omega arith)) in
    omega (arith, cond-true {A = ℕ} (p (a + n)) 1 0 (h n (omega arith)))

-- a test that passes nowhere
pub count_none : (p : ℕ → Bool) (a n : ℕ) → ((k : ℕ) → k < n → p (a + k) ≡ false) → count p a n ≡ 0
count_none p a zero h = refl
count_none p a (suc n) h =
    let e = count_none p a n (λ k l. h k (omega arith)) in
    omega (arith, cond-false {A = ℕ} (p (a + n)) 1 0 (h n (omega arith)))

-- each tick passes the one test or the other
pub count_either : (p q : ℕ → Bool) (a n : ℕ) → ((k : ℕ) → k < n → 1 ≤ cond (p (a + k)) 1 0 + cond (q (a + k)) 1 0) → n ≤ count p a n + count q a n
count_either p q a zero h = omega arith
count_either p q a (suc n) h =
    let e = count_either p q a n (λ k l. h k (omega arith)) in
    omega (arith, h n (omega arith))

-- a test that is the sum of two
pub count_sum : (p q r : ℕ → Bool) → ((t : ℕ) → cond (r t) 1 0 ≡ cond (p t) 1 0 + cond (q t) 1 0) → (a n : ℕ) → count r a n ≡ count p a n + count q a n
count_sum p q r h a zero = refl
count_sum p q r h a (suc n) =
    let e = count_sum p q r h a n in
    omega (arith, h (a + n))

-- tests that agree in a window
pub count_same : (p q : ℕ → Bool) (a n : ℕ) → ((k : ℕ) → k < n → p (a + k) ≡ q (a + k)) → count p a n ≡ count q a n
count_same p q a zero h = refl
count_same p q a (suc n) h =
    let e = count_same p q a n (λ k l. h k (omega arith)) in
    ap₂ (λ x (b : Bool). x + cond b 1 0) e (h n (omega arith))
