-- Counts since the last release, and where releases are.
use Rattle.std.specs.Prelude.{◌≡◌, ℕ, zero, suc, ◌+◌, ◌-◌, ◌*◌, ◌%◌, ◌<◌, ◌≤◌, Bool, true, false, cond, ◌⊎◌, refl}
use Rattle.std.proofs.Common.{sym, ap, subst, ◌∙◌, inl, inr, ⊎_elim, add-zero, add-suc, mod-eq_of_lt, arith}
use Rattle.std.proofs.Math.Nat.{mul-mod_left, mul-add-mod_self_right}
use Rattle.std.proofs.lemmas.Bool.{cases_Bool, cases_eq, cond-true, cond-false, eq-eqb, ne_eqb}
use Rattle.rules.specs.Timing.{count, since, starts}

-- of the n ticks from tick a on, none but the first has a release
abbrev pub Quiet : (ℕ → Bool) → ℕ → ℕ → Type 0
Quiet rel a n = (x : ℕ) → suc x < n → rel (suc (a + x)) ≡ false

since_none : (rel p : ℕ → Bool) (a : ℕ) → rel a ≡ true → since rel p a ≡ 0
since_none rel p zero h = refl
since_none rel p (suc a) h = cond-true {A = ℕ} (rel (suc a)) 0 (since rel p a + cond (p a) 1 0) h

-- up to the next release, what is counted since the last is the count from it on
pub since_count : (rel p : ℕ → Bool) (a k : ℕ) → rel a ≡ true → Quiet rel a (suc k) → since rel p (a + k) ≡ count p a k
since_count rel p a zero h quiet = ap (since rel p) (add-zero a) ∙ since_none rel p a h
since_count rel p a (suc k) h quiet =
    let ih = since_count rel p a k h (λ x lt. quiet x (omega arith)) in
    let one = cond-false {A = ℕ} (rel (suc (a + k))) 0 (since rel p (a + k) + cond (p (a + k)) 1 0) (quiet k (omega arith)) in
    ap (since rel p) (add-suc a k) ∙ one ∙ ap (λ x. x + cond (p (a + k)) 1 0) ih

-- what happens only after fewer than c times since the release happens at most c times up to the next
pub at_most : (rel p : ℕ → Bool) (c : ℕ) → ((t : ℕ) → p t ≡ true → since rel p t < c) → (a n : ℕ) → rel a ≡ true → Quiet rel a n → count p a n ≤ c
at_most rel p c few a zero h quiet = omega arith
at_most rel p c few a (suc k) h quiet =
    let same = since_count rel p a k h quiet in
    ⊎_elim
    (λ e. omega (arith, few (a + k) e, cond-true {A = ℕ} (p (a + k)) 1 0 e))
    (λ e. omega (arith, at_most rel p c few a k h (λ x lt. quiet x (omega arith)), cond-false {A = ℕ} (p (a + k)) 1 0 e))
    (cases_Bool (p (a + k)))

pub quiet_more : (rel : ℕ → Bool) (a n : ℕ) → Quiet rel a (suc n) → rel (suc (a + n)) ≡ false → Quiet rel a (suc (suc n))
quiet_more rel a n quiet e x lt =
    ⊎_elim (λ same. subst (λ y. rel (suc (a + y)) ≡ false) (sym same) e) (λ other. quiet x (omega arith)) (cases_eq x n)

-- whether and where the n ticks from tick a on have a release after tick a
abbrev pub Next : (ℕ → Bool) → ℕ → ℕ → Type 0
Next rel a n = Quiet rel a n ⊎ ((g : ℕ) × (suc g < n) × (rel (suc (a + g)) ≡ true) × Quiet rel a (suc g))

pub next : (rel : ℕ → Bool) (a n : ℕ) → Next rel a n
next rel a zero = inl (λ x lt. absurd (omega arith))
next rel a (suc zero) = inl (λ x lt. absurd (omega arith))
next rel a (suc (suc n)) =
    let C = Next rel a (suc (suc n)) in
    ⊎_elim {C = C}
    (λ quiet. ⊎_elim {C = C} (λ e. inr (n, omega arith, e, quiet)) (λ e. inl (quiet_more rel a n quiet e)) (cases_Bool (rel (suc (a + n)))))
    (λ f. inr (f.0, omega (arith, f.1), f.2, f.3))
    (next rel a (suc n))

-- a job that is released at tick a and open as each of the d ticks from then on begins
pub record Lasts (rel opened : ℕ → Bool) (a d : ℕ) : Type 0 where
  pub fresh : rel a ≡ true
  pub quiet : Quiet rel a d
  pub stays : (x : ℕ) → x < d → opened (a + x) ≡ true

-- the job that is open at tick t: its release, and how long ago that was
pub record Job (rel opened : ℕ → Bool) (t : ℕ) : Type 0 where
  pub from : ℕ
  pub age : ℕ
  pub at : from + age ≡ t
  pub lasts : Lasts rel opened from (suc age)

-- releases with a period P: the n-th is at tick n * P
pub starts_at : (P n : ℕ) → starts P (n * P) ≡ true
starts_at P n = eq-eqb (n * P % P) 0 (mul-mod_left n P)

pub quiet_at : (P n d : ℕ) → d ≤ P → Quiet (starts P) (n * P) d
quiet_at P n d le x lt =
    let e : n * P + suc x ≡ suc (n * P + x) = omega arith in
    let low : suc x < P = omega arith in
    ne_eqb (suc (n * P + x) % P) 0 (λ z. omega (arith, ap (λ y. y % P) e, mul-add-mod_self_right n P (suc x), mod-eq_of_lt low))

pub since_at : (P : ℕ) (p : ℕ → Bool) (n k : ℕ) → k < P → since (starts P) p (n * P + k) ≡ count p (n * P) k
since_at P p n k lt = since_count (starts P) p (n * P) k (starts_at P n) (quiet_at P n (suc k) lt)

-- as a period's last tick ends
pub since_end : (P : ℕ) (p : ℕ → Bool) (n : ℕ) → 0 < P → count p (n * P) P ≡ since (starts P) p (n * P + (P - 1)) + cond (p (n * P + (P - 1))) 1 0
since_end P p n pos =
    let last : suc (P - 1) ≡ P = omega arith in
    let same = since_at P p n (P - 1) (omega arith) in
    subst (λ x. count p (n * P) x ≡ since (starts P) p (n * P + (P - 1)) + cond (p (n * P + (P - 1))) 1 0) last (ap (λ x. x + cond (p (n * P + (P - 1))) 1 0) (sym same))
