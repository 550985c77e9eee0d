-- The first moment that passes a test.
use Rattle.std.specs.Prelude.{◌≡◌, ℕ, zero, suc, ◌<◌, ◌≤◌, Bool, true, false, cond, is_some, Some, None, Option, refl}
use Rattle.std.proofs.Common.{sym, ap, ◌∙◌, ⊎_elim, arith}
use Rattle.std.proofs.lemmas.Bool.{cases_eq, cases_Bool, cond-true, cond-false, both_ways, false≢true}
use Rattle.rules.specs.Rules.{or_at, least_moment}

pub least_none : (p : ℕ → Bool) (n : ℕ) → ((s : ℕ) → 1 ≤ s → s ≤ n → p s ≡ false) → None ≡ least_moment p n
least_none p zero h = refl
least_none p (suc n) h =
    ap (λ o. or_at o false (suc n)) (least_none p n (λ s a b. h s a (omega arith)))
    ∙ ap (λ b. or_at (least_moment p n) b (suc n)) (sym (h (suc n) (omega arith) (omega arith)))

pub least_found : (p : ℕ → Bool) (n t : ℕ) → 1 ≤ t → t ≤ n → p t ≡ true → ((s : ℕ) → 1 ≤ s → s < t → p s ≡ false) → Some t ≡ least_moment p n
least_found p zero t some le yes' h = absurd (omega arith)
least_found p (suc n) t some le yes' h =
    ⊎_elim {C = Some t ≡ least_moment p (suc n)}
    (λ e.
    ap {B = Option ℕ} Some e
    ∙ ap (λ o. or_at o true (suc n)) (least_none p n (λ s a b. h s a (omega arith)))
    ∙ ap (λ b. or_at (least_moment p n) b (suc n)) (sym (ap p (sym e) ∙ yes')))
    (λ ne. ap (λ o. or_at o (p (suc n)) (suc n)) (least_found p n t some (omega arith) yes' h))
    (cases_eq t (suc n))

some_or : (o : Option ℕ) (b : Bool) (n : ℕ) → is_some (or_at o b n) ≡ cond (is_some o) true b
some_or None true n = refl
some_or None false n = refl
some_or (Some t) b n = refl

-- whether some moment passes
abbrev pub some_moment : (ℕ → Bool) → ℕ → Bool
some_moment p n = is_some (least_moment p n)

some_suc : (p : ℕ → Bool) (n : ℕ) → some_moment p (suc n) ≡ cond (some_moment p n) true (p (suc n))
some_suc p n = some_or (least_moment p n) (p (suc n)) (suc n)

pub found : (p : ℕ → Bool) (n : ℕ) → some_moment p n ≡ true → (t : ℕ) × (1 ≤ t) × (t ≤ n) × (p t ≡ true)
found p zero h = absurd (false≢true h)
found p (suc n) h =
    ⊎_elim {C = (t : ℕ) × (1 ≤ t) × (t ≤ suc n) × (p t ≡ true)}
    (λ e. let f = found p n e in (f.0, f.1, omega (arith, f.2), f.3))
    (λ e. (suc n, omega arith, omega arith, sym (some_suc p n ∙ cond-false (some_moment p n) true (p (suc n)) e) ∙ h))
    (cases_Bool (some_moment p n))

pub some_at : (p : ℕ → Bool) (n t : ℕ) → 1 ≤ t → t ≤ n → p t ≡ true → some_moment p n ≡ true
some_at p zero t some le h = absurd (omega arith)
some_at p (suc n) t some le h =
    some_suc p n ∙ ⊎_elim {C = cond (some_moment p n) true (p (suc n)) ≡ true}
    (λ early. cond-true (some_moment p n) true (p (suc n)) early)
    (λ none. cond-false (some_moment p n) true (p (suc n)) none ∙ ⊎_elim {C = p (suc n) ≡ true}
    (λ e. ap p (sym e) ∙ h)
    (λ ne. absurd (both_ways (some_moment p n) none (some_at p n t some (omega arith) h)))
    (cases_eq t (suc n)))
    (cases_Bool (some_moment p n))

-- a test that passes where another does
pub some_more : (p q : ℕ → Bool) → ((t : ℕ) → p t ≡ true → q t ≡ true) → (n : ℕ) → some_moment p n ≡ true → some_moment q n ≡ true
some_more p q h n e = let f = found p n e in some_at q n f.0 f.1 f.2 (h f.0 f.3)
