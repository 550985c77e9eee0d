-- Who is served in a tick, and what a run says of each member.
use Rattle.std.specs.Prelude.{◌≡◌, ℕ, zero, suc, ◌+◌, ◌<◌, ◌≤◌, Bool, true, false, cond, not, ◌&&◌, List, length, refl}
use Rattle.std.proofs.Common.{sym, subst, ⊎_elim, arith}
use Rattle.std.proofs.lemmas.Bool.{and_parts, both_ways, cases_eq, false≢true}
use Rattle.rules.specs.declared.load.Member.{Member}
use Rattle.rules.specs.Loads.{member}
use Rattle.rules.specs.Timing.{count, some_before, ready, serves, CoreRun}
use Rattle.rules.specs.Lemmas.Spacing.{Spaced}
use Rattle.rules.specs.Lemmas.Counts.{count_sum}
use Rattle.rules.specs.Lemmas.Track.{Track}

one_more : (a b : Bool) → ◌≡◌ {A = ℕ} (cond (cond a true b) 1 0) (cond b 1 0 + cond (a && not b) 1 0)
one_more true true = refl
one_more true false = refl
one_more false true = refl
one_more false false = refl

either_way : (a b : Bool) → a ≡ true → 1 ≤ cond ((a && not b) && not false) 1 0 + cond b 1 0
either_way true true h = omega arith
either_way true false h = omega arith
either_way false b h = absurd (false≢true h)

first_true : (a b : Bool) → a ≡ true → cond a true b ≡ true
first_true true b h = refl
first_true false b h = absurd (false≢true h)

second_true : (a b : Bool) → b ≡ true → cond a true b ≡ true
second_true true b h = refl
second_true false b h = h

none_true : (a b : Bool) → cond a true b ≡ false → (a ≡ false) × (b ≡ false)
none_true true b h = absurd (both_ways true h refl)
none_true false b h = (refl, h)

taken : (a b : Bool) → b ≡ true → (a && not b) ≡ false
taken true true h = refl
taken true false h = absurd (false≢true h)
taken false b h = refl

module _ (o : ℕ → ℕ → Bool) (kept : ℕ → Bool) where
  -- whether the tick is served to a member below i
  abbrev pub busy : ℕ → ℕ → Bool
  busy i t = some_before (ready o kept t) i

  pub busy_count : (i a n : ℕ) → count (busy (suc i)) a n ≡ count (busy i) a n + count (serves o kept i) a n
  busy_count i a n = count_sum (busy i) (serves o kept i) (busy (suc i)) (λ t. one_more (ready o kept t i) (busy i t)) a n

  -- an open member, or one above it, is served, but for the first
  pub busy_open : (i t : ℕ) → o (suc i) t ≡ true → busy (suc (suc i)) t ≡ true
  busy_open i t h = first_true (o (suc i) t) (busy (suc i) t) h

  pub busy_more : (i t : ℕ) → busy i t ≡ true → busy (suc i) t ≡ true
  busy_more i t h = second_true (ready o kept t i) (busy i t) h

  pub not_served : (i t : ℕ) → busy i t ≡ true → serves o kept i t ≡ false
  not_served i t h = taken (ready o kept t i) (busy i t) h

  pub idle : (i t h : ℕ) → busy i t ≡ false → h < i → ready o kept t h ≡ false
  idle zero t h e lt = absurd (omega arith)
  idle (suc i) t h e lt =
      let both = none_true (ready o kept t i) (busy i t) e in
      ⊎_elim
      (λ same. subst (λ x. ready o kept t x ≡ false) (sym same) both.0)
      (λ other. idle i t h both.1 (omega arith))
      (cases_eq h i)

  -- the first member, when open, is served or kept back
  pub first_open : (t : ℕ) → o 0 t ≡ true → 1 ≤ cond (serves o kept 0 t) 1 0 + cond (kept t) 1 0
  first_open t h = either_way (o 0 t) (kept t) h

  pub served_ready : (i t : ℕ) → serves o kept i t ≡ true → ready o kept t i ≡ true
  served_ready i t h = (and_parts (ready o kept t i) (not (busy i t)) h).0

  pub served_open : (i t : ℕ) → serves o kept i t ≡ true → o i t ≡ true
  served_open zero t h = (and_parts (o 0 t) (not (kept t)) (served_ready 0 t h)).0
  served_open (suc i) t h = served_ready (suc i) t h

abbrev pub track : (l : List Member) (r : CoreRun l) → Spaced l r → (i : ℕ) → i < length l → Track
track l r spaced i inside = record {
  period = (member l i).period;
  cost = (member l i).cost;
  released = r.released i;
  opened = r.opened i;
  served = serves r.opened r.kept i;
  spaced = λ t d. spaced i t d inside;
  starts = r.starts_closed i inside;
  stays = λ t. r.stays_closed i t inside;
  only_open = served_open r.opened r.kept i;
  left = λ t. r.cost_left i t inside;
}
