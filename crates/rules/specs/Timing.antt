-- One core serving a load, tick by tick, and what it is for a load to be timely.
use Rattle.std.specs.Prelude.{◌≡◌, ℕ, zero, suc, ◌+◌, ◌-◌, ◌%◌, ◌<◌, Bool, true, false, cond, not, ◌&&◌, List, length, ◌==◌}
use Rattle.rules.specs.declared.load.Member.{Member}
use Rattle.rules.specs.Loads.{member}

-- how many of the n ticks from, from + 1, .. pass a test
abbrev pub count : (ℕ → Bool) → ℕ → ℕ → ℕ
count p from zero = 0
count p from (suc n) = count p from n + cond (p (from + n)) 1 0

-- how many of the ticks before t, from the last release on, pass a test
abbrev pub since : (ℕ → Bool) → (ℕ → Bool) → ℕ → ℕ
since released p zero = 0
since released p (suc t) = cond (released (suc t)) 0 (since released p t + cond (p t) 1 0)

-- whether a period begins with tick t, the first one having begun with tick 0
abbrev pub starts : ℕ → ℕ → Bool
starts period t = t % period == 0

-- whether one of the members before place i is ready
abbrev pub some_before : (ℕ → Bool) → ℕ → Bool
some_before ready zero = false
some_before ready (suc i) = cond (ready i) true (some_before ready i)

-- In what follows `opened i t` says that member i has an open job as tick t begins, and `kept t` that the
-- core before keeps the first member back in tick t.

-- whether member i can have tick t: its job is open, and it is not kept back
abbrev pub ready : (ℕ → ℕ → Bool) → (ℕ → Bool) → ℕ → ℕ → Bool
ready opened kept t zero = opened 0 t && not (kept t)
ready opened kept t (suc i) = opened (suc i) t

-- whether tick t goes to member i: the first in order that can have it
abbrev pub serves : (ℕ → ℕ → Bool) → (ℕ → Bool) → ℕ → ℕ → Bool
serves opened kept i t = ready opened kept t i && not (some_before (ready opened kept t) i)

-- A run of one core that serves a load. Besides what the fields ask, a job can close at any moment between
-- ticks, its cost had or not, and nothing opens it again before the next release.
pub record CoreRun (l : List Member) : Type 0 where
  -- a job of member i is released as tick t begins
  pub released : ℕ → ℕ → Bool
  pub opened : ℕ → ℕ → Bool
  pub kept : ℕ → Bool
  -- a job is open only from its release on
  pub starts_closed : (i : ℕ) → i < length l → released i 0 ≡ false → opened i 0 ≡ false
  pub stays_closed : (i t : ℕ) → i < length l → released i (suc t) ≡ false → opened i (suc t) ≡ true → opened i t ≡ true
  -- a job that has had its cost since its release is closed
  pub cost_left : (i t : ℕ) → i < length l → opened i t ≡ true → since (released i) (serves opened kept i) t < (member l i).cost
  -- the first member is kept back in at most hold ticks since its release
  pub kept_little : (t : ℕ) → kept t ≡ true → since (released 0) kept t < (member l 0).hold

-- each member is released at the start, and then as each of its periods begins
abbrev pub Periodic : (l : List Member) → CoreRun l → Type 0
Periodic l r = (i t : ℕ) → i < length l → r.released i t ≡ starts (member l i).period t

-- a job of member i that is still open as the d-th tick from its release begins has had its cost as that
-- tick ends, so that it is closed after d ticks at the latest
abbrev pub ClosesWithin : (l : List Member) → CoreRun l → ℕ → ℕ → Type 0
ClosesWithin l r i d = (t : ℕ) → r.released i t ≡ true → r.opened i (t + (d - 1)) ≡ true → count (serves r.opened r.kept i) t d ≡ (member l i).cost

-- each job closes within its member's period, and so before the next release
abbrev pub InTime : (l : List Member) → CoreRun l → Type 0
InTime l r = (i : ℕ) → i < length l → ClosesWithin l r i (member l i).period

-- so it is in every run of the load
abbrev pub Timely : List Member → Type 0
Timely l = (r : CoreRun l) → Periodic l r → InTime l r
