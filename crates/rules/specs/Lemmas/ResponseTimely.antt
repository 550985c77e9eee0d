-- A member that is covered by a moment d closes its jobs within d, however late the jobs are released.
use Rattle.std.specs.Prelude.{◌≡◌, ℕ, zero, suc, ◌+◌, ◌-◌, ◌<◌, ◌≤◌, Bool, true, List, length, take, refl}
use Rattle.std.proofs.Common.{subst, ⊎_elim, arith}
use Rattle.std.proofs.lemmas.Bool.{both_ways, cases_lt}
use Rattle.rules.specs.declared.load.Member.{Member}
use Rattle.rules.specs.Loads.{lawful, member}
use Rattle.rules.specs.Timing.{count, serves, CoreRun, ClosesWithin}
use Rattle.rules.specs.Rules.{rounded_up, asked, interference}
use Rattle.rules.specs.Lemmas.Spacing.{Spaced}
use Rattle.rules.specs.Lemmas.Counts.{count_split, count_longer, count_all, count_none, count_either}
use Rattle.rules.specs.Lemmas.Since.{at_most, Lasts, Job}
use Rattle.rules.specs.Lemmas.Track.{in_window, closes_by}
use Rattle.rules.specs.Lemmas.Rounding.{rounded_reaches}
use Rattle.rules.specs.Lemmas.Lawful.{member_kept}
use Rattle.rules.specs.Lemmas.Ticks.{busy, busy_count, busy_open, busy_more, not_served, idle, first_open, track}
use Rattle.rules.specs.Lemmas.Sums.{sum_suc}
use Rattle.rules.specs.Lemmas.Start.{Edge, Stretch, stretch}

-- the first member's job has had all its ticks but hold
pub first_late : (l : List Member) (r : CoreRun l) (a d : ℕ) → Lasts (r.released 0) (r.opened 0) a d → d ≤ count (serves r.opened r.kept 0) a d + (member l 0).hold
first_late l r a d w =
    let either = count_either (serves r.opened r.kept 0) r.kept a d (λ x lt. first_open r.opened r.kept (a + x) (w.stays x lt)) in
    omega (arith, at_most (r.released 0) r.kept (member l 0).hold r.kept_little a d w.fresh w.quiet)

module _ (l : List Member) (good : lawful l ≡ true) (r : CoreRun l) (spaced : Spaced l r) where
  abbrev σ : ℕ → ℕ → Bool
  σ i = serves r.opened r.kept i

  abbrev below : ℕ → ℕ → Bool
  below i = busy r.opened r.kept i

  -- a job of a later member that is open as the stretch begins is fresh
  later_job : (i s : ℕ) → Edge (below i) s → (h : ℕ) → suc h < i → (j : Job (r.released (suc h)) (r.opened (suc h)) s) → j.age ≤ 0
  later_job i s edge h low j =
      ⊎_elim
      (λ z. omega (arith, j.at))
      (λ u.
      ⊎_elim
      (λ old.
      let w : j.from + (j.age - 1) ≡ u.0 = omega (arith, j.at, u.1) in
      let off = idle r.opened r.kept i u.0 (suc h) u.2 low in
      let on = subst (λ x. r.opened (suc h) x ≡ true) w (j.lasts.stays (j.age - 1) (omega arith)) in
      absurd (both_ways (r.opened (suc h) u.0) off on))
      (λ young. young)
      (cases_lt 0 j.age))
      edge

  -- a job that is open as the stretch begins has had all its ticks but hold
  late_at : (i s : ℕ) → Edge (below i) s → (h : ℕ) → h < i → (j : Job (r.released h) (r.opened h) s) → j.age ≤ count (σ h) j.from j.age + (member l h).hold
  late_at i s edge zero low j = first_late l r j.from j.age (record { fresh = j.lasts.fresh; quiet = λ x lt. j.lasts.quiet x (omega arith); stays = λ x lt. j.lasts.stays x (omega arith) })
  late_at i s edge (suc h) low j = omega (arith, later_job i s edge h low j)

  -- in d ticks from the start of the stretch the members are served no more than their interference
  below_most : (i s d : ℕ) → Edge (below i) s → (h : ℕ) → h ≤ i → h ≤ length l → count (below h) s d ≤ interference (take h l) d
  below_most i s d edge zero le inside = omega (arith, count_none (below 0) s d (λ k lt. refl))
  below_most i s d edge (suc h) le inside =
      let m = member l h in
      let pos : 0 < m.period = omega (arith, (member_kept l good h inside).least) in
      let ih = below_most i s d edge h (omega arith) (omega arith) in
      let one = in_window (track l r spaced h inside) s d (rounded_up (d + m.hold) m.period) m.hold (late_at i s edge h le) (rounded_reaches (d + m.hold) m.period pos) in
      omega (arith, busy_count r.opened r.kept h s d, sum_suc (asked d) l h inside)

  -- from the start of the stretch on, no tick goes below the member that stays open
  stays_busy : (i d e : ℕ) (w : Stretch (below (suc i)) e) → ((x : ℕ) → x < d → r.opened (suc i) (e + x) ≡ true) → (k : ℕ) → k < d → below (suc (suc i)) (w.start + k) ≡ true
  stays_busy i d e w h k lt =
      ⊎_elim
      (λ early. busy_more r.opened r.kept (suc i) (w.start + k) (w.full (w.start + k) (omega arith) early))
      (λ late.
      let x = w.start + k - e in
      let at : e + x ≡ w.start + k = omega arith in
      busy_open r.opened r.kept i (w.start + k) (subst (λ t. r.opened (suc i) t ≡ true) at (h x (omega (arith, w.upto)))))
      (cases_lt (w.start + k) e)

  -- a job that is open for d ticks from its release has its cost in them: the members but the first
  later_has : (i : ℕ) → suc i < length l → (d : ℕ) → (member l (suc i)).cost + interference (take (suc i) l) d ≤ d → (e : ℕ) → ((x : ℕ) → x < d → r.opened (suc i) (e + x) ≡ true) → (member l (suc i)).cost ≤ count (σ (suc i)) e d
  later_has i inside d fits e h =
      let w = stretch (below (suc i)) e in
      let s = w.start in
      let gap = e - s in
      let upto : s + gap ≡ e = omega (arith, w.upto) in
      let all_d : count (below (suc (suc i))) s d ≡ d = count_all (below (suc (suc i))) s d (stays_busy i d e w h) in
      let most = below_most (suc i) s d w.edge (suc i) (omega arith) (omega arith) in
      let none : count (σ (suc i)) s gap ≡ 0 = count_none (σ (suc i)) s gap (λ k lt. not_served r.opened r.kept (suc i) (s + k) (w.full (s + k) (omega arith) (omega arith))) in
      let split = subst (λ x. count (σ (suc i)) s (gap + d) ≡ count (σ (suc i)) s gap + count (σ (suc i)) x d) upto (count_split (σ (suc i)) s gap d) in
      omega (arith, count_longer (σ (suc i)) s d (gap + d) (omega arith), busy_count r.opened r.kept (suc i) s d)

  has_cost : (i : ℕ) → i < length l → (d : ℕ) → (member l i).cost + (member l i).hold + interference (take i l) d ≤ d → (a : ℕ) → Lasts (r.released i) (r.opened i) a d → (member l i).cost ≤ count (σ i) a d
  has_cost zero inside d fits a w = omega (arith, first_late l r a d w)
  has_cost (suc i) inside d fits a w = later_has i inside d (omega arith) a w.stays

  pub covered_closes : (i : ℕ) → i < length l → (d : ℕ) → d ≤ (member l i).period → (member l i).cost + (member l i).hold + interference (take i l) d ≤ d → ClosesWithin l r i d
  covered_closes i inside d le fits = closes_by (track l r spaced i inside) d le (has_cost i inside d fits)
