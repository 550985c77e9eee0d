-- Where the unbroken stretch of busy ticks before a moment begins.
use Rattle.std.specs.Prelude.{◌≡◌, ℕ, zero, suc, ◌<◌, ◌≤◌, Bool, true, false, ◌⊎◌, refl}
use Rattle.std.proofs.Common.{sym, subst, inl, inr, ⊎_elim, arith}
use Rattle.std.proofs.lemmas.Bool.{cases_Bool, cases_eq}

-- s is the first tick, or the tick before it is not busy
abbrev pub Edge : (ℕ → Bool) → ℕ → Type 0
Edge b s = (s ≡ 0) ⊎ ((u : ℕ) × (s ≡ suc u) × (b u ≡ false))

pub record Stretch (b : ℕ → Bool) (end : ℕ) : Type 0 where
  pub start : ℕ
  pub upto : start ≤ end
  pub full : (t : ℕ) → start ≤ t → t < end → b t ≡ true
  pub edge : Edge b start

pub stretch : (b : ℕ → Bool) (end : ℕ) → Stretch b end
stretch b zero = record { start = 0; upto = omega arith; full = λ t le lt. absurd (omega arith); edge = inl refl }
stretch b (suc n) =
    let s = stretch b n in
    ⊎_elim {C = Stretch b (suc n)}
    (λ e. record {
      start = s.start;
      upto = omega (arith, s.upto);
      full = λ t le lt. ⊎_elim (λ same. subst (λ x. b x ≡ true) (sym same) e) (λ other. s.full t le (omega arith)) (cases_eq t n);
      edge = s.edge;
    })
    (λ e. record { start = suc n; upto = omega arith; full = λ t le lt. absurd (omega arith); edge = inr (n, refl, e) })
    (cases_Bool (b n))
