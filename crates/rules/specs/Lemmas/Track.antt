-- One member's ticks: how much it is served in a window.
use Rattle.std.specs.Prelude.{◌≡◌, ℕ, zero, suc, ◌+◌, ◌-◌, ◌*◌, ◌<◌, ◌≤◌, Bool, true, false}
use Rattle.std.proofs.Common.{sym, subst, ⊎_elim, add-zero, add-suc, mul-suc, suc-mul, zero-mul, le_antisymm, arith}
use Rattle.std.proofs.lemmas.Bool.{cases_Bool, cases_eq, both_ways}
use Rattle.rules.specs.Timing.{count, since}
use Rattle.rules.specs.Lemmas.Tests.{refuted}
use Rattle.rules.specs.Lemmas.Counts.{count_split, count_most, count_longer, count_none}
use Rattle.rules.specs.Lemmas.Since.{Quiet, at_most, quiet_more, next, Lasts, Job}

-- what a run says of one member
pub record Track : Type 0 where
  pub period : ℕ
  pub cost : ℕ
  pub released : ℕ → Bool
  pub opened : ℕ → Bool
  pub served : ℕ → Bool
  pub spaced : (t d : ℕ) → released t ≡ true → released (t + suc d) ≡ true → period ≤ suc d
  pub starts : released 0 ≡ false → opened 0 ≡ false
  pub stays : (t : ℕ) → released (suc t) ≡ false → opened (suc t) ≡ true → opened t ≡ true
  pub only_open : (t : ℕ) → served t ≡ true → opened t ≡ true
  pub left : (t : ℕ) → opened t ≡ true → since released served t < cost

module _ (m : Track) where
  open m use {period as P, cost as C, released as rel, opened as o, served as σ}

  -- a job that is open has been open since its release
  open_back : (a j : ℕ) → Quiet rel a (suc j) → o (a + j) ≡ true → (k : ℕ) → k ≤ j → o (a + k) ≡ true
  open_back a zero quiet h k le =
      let e : ◌≡◌ {A = ℕ} 0 k = omega arith in
      subst (λ x. o (a + x) ≡ true) e h
  open_back a (suc j) quiet h k le =
      let earlier = m.stays (a + j) (quiet j (omega arith)) (subst (λ t. o t ≡ true) (add-suc a j) h) in
      ⊎_elim
      (λ same. subst (λ x. o (a + x) ≡ true) (sym same) h)
      (λ other. open_back a j (λ x lt. quiet x (omega arith)) earlier k (omega arith))
      (cases_eq k (suc j))

  new_job : (t : ℕ) → o t ≡ true → rel t ≡ true → Job rel o t
  new_job t h e =
      let at : t ≡ t + 0 = omega arith in
      let quiet : Quiet rel t 1 = λ x lt. absurd (omega arith) in
      let stays = open_back t 0 quiet (subst (λ x. o x ≡ true) at h) in
      record { from = t; age = 0; at = sym at; lasts = record { fresh = e; quiet = quiet; stays = λ x lt. stays x (omega arith) } }

  old_job : (t : ℕ) → o (suc t) ≡ true → rel (suc t) ≡ false → Job rel o t → Job rel o (suc t)
  old_job t h e j =
      let a = j.from in
      let age = suc j.age in
      let same : suc t ≡ suc (a + j.age) = omega (arith, j.at) in
      let at : suc t ≡ a + age = omega (arith, j.at) in
      let quiet = quiet_more rel a j.age j.lasts.quiet (subst (λ x. rel x ≡ false) same e) in
      let stays = open_back a age quiet (subst (λ x. o x ≡ true) at h) in
      record { from = a; age = age; at = sym at; lasts = record { fresh = j.lasts.fresh; quiet = quiet; stays = λ x lt. stays x (omega arith) } }

  job : (t : ℕ) → o t ≡ true → Job rel o t
  job zero h = ⊎_elim {C = Job rel o 0} (λ e. new_job 0 h e) (λ e. absurd (both_ways (o 0) (m.starts e) h)) (cases_Bool (rel 0))
  job (suc t) h = ⊎_elim {C = Job rel o (suc t)} (λ e. new_job (suc t) h e) (λ e. old_job t h e (job t (m.stays t e h))) (cases_Bool (rel (suc t)))

  -- from a release up to the next it is served at most its cost
  in_job : (a n : ℕ) → rel a ≡ true → Quiet rel a n → count σ a n ≤ C
  in_job = at_most rel σ C (λ t s. m.left t (m.only_open t s))

  -- from a release on, within q periods, it is served at most q times its cost
  pub in_periods : (q a k : ℕ) → rel a ≡ true → k ≤ q * P → count σ a k ≤ C * q
  in_periods zero a k h fits = omega (arith, count_most σ a k, zero-mul P)
  in_periods (suc q) a k h fits =
      ⊎_elim
      (λ quiet. omega (arith, in_job a k h quiet, mul-suc C q))
      (λ f.
      let g = suc f.0 in
      let again = subst (λ t. rel t ≡ true) (sym (add-suc a f.0)) f.2 in
      let e : g + (k - g) ≡ k = omega (arith, f.1) in
      let s = subst (λ x. count σ a x ≡ count σ a g + count σ (a + g) (k - g)) e (count_split σ a g (k - g)) in
      let rest = in_periods q (a + g) (k - g) again (omega (arith, m.spaced a f.0 h again, suc-mul q P)) in
      omega (arith, in_job a g h f.3, mul-suc C q))
      (next rel a k)

  -- without an open job it is not served up to the next release
  closed_on : (s n : ℕ) → o s ≡ false → Quiet rel s n → count σ s n ≡ 0
  closed_on s n e quiet = count_none σ s n (λ k lt.
      refuted (σ (s + k)) (λ h. both_ways (o s) e (subst (λ t. o t ≡ true) (add-zero s) (open_back s k (λ x less. quiet x (omega arith)) (m.only_open (s + k) h) 0 (omega arith)))))

  -- from any tick on: a job that is open there has had all its ticks since its release but H
  pub in_window : (s d q H : ℕ) → ((j : Job rel o s) → j.age ≤ count σ j.from j.age + H) → d + H ≤ q * P → count σ s d ≤ C * q
  in_window s d q H late fits =
      ⊎_elim
      (λ e.
      let w = job s e in
      let a = w.from in
      let j = w.age in
      let x = count σ a j in
      let whole = subst (λ t. count σ a (j + d) ≡ count σ a j + count σ t d) w.at (count_split σ a j d) in
      let more = count_longer σ a (j + d) (q * P + x) (omega (arith, late w)) in
      let parts = count_split σ a (q * P) x in
      omega (arith, in_periods q a (q * P) w.lasts.fresh (omega arith), count_most σ (a + q * P) x))
      (λ e.
      ⊎_elim
      (λ quiet. omega (arith, closed_on s d e quiet))
      (λ f.
      let g = suc f.0 in
      let split : g + (d - g) ≡ d = omega (arith, f.1) in
      let sum = subst (λ x. count σ s x ≡ count σ s g + count σ (s + g) (d - g)) split (count_split σ s g (d - g)) in
      let rest = in_periods q (s + g) (d - g) (subst (λ t. rel t ≡ true) (sym (add-suc s f.0)) f.2) (omega arith) in
      omega (arith, closed_on s g e f.3))
      (next rel s d))
      (cases_Bool (o s))

  -- no release for a period after a release
  quiet_period : (a : ℕ) → rel a ≡ true → Quiet rel a P
  quiet_period a h x lt =
      refuted (rel (suc (a + x))) (λ e. let far = m.spaced a x h (subst (λ t. rel t ≡ true) (sym (add-suc a x)) e) in omega arith)

  -- a job closes within d ticks if it has its cost in them whenever it is open in them all
  pub closes_by : (d : ℕ) → d ≤ P → ((a : ℕ) → Lasts rel o a d → C ≤ count σ a d) → (a : ℕ) → rel a ≡ true → o (a + (d - 1)) ≡ true → count σ a d ≡ C
  closes_by d le enough a fresh h =
      let quiet : Quiet rel a d = λ x lt. quiet_period a fresh x (omega arith) in
      let stays = λ (x : ℕ) (lt : x < d). open_back a (d - 1) (λ y less. quiet y (omega arith)) h x (omega arith) in
      le_antisymm (in_job a d fresh quiet) (enough a (record { fresh = fresh; quiet = quiet; stays = stays }))
