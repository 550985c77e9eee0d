-- One walk along the stages takes for each core what the core takes.
use Rattle.std.proofs.Common.{◌≡◌, ℕ, suc, ◌+◌, ◌-◌, ◌<◌, ◌≤◌, Bool, true, false, cond, not, ◌&&◌, eqb, ltb, leb, List, length, get_or, set, sym, refl, ap, ◌∙◌, subst, ap₂, ⊎_elim, add-one, arith}
use Rattle.std.proofs.lemmas.List.{ext_get_or, length-set, get_or-set_same, get_or-set_other}
use Rattle.std.proofs.lemmas.Bool.{false_from_ne_true, eqb-true, both_ways, cond-true, cond-false, cases_eq, cases_lt, le-ltb}
use Rattle.std.proofs.lemmas.Bool.Decides.{nat_tests}
use Rattle.placing.specs.declared.placement.Placement.{Placement}
use Rattle.placing.specs.Sound.{SoundPlacement}
use Rattle.dispatch.specs.declared.state.State.{State}
use Rattle.dispatch.specs.Jobs.{is_open}
use Rattle.dispatch.specs.Ticks.{wants, served, grown, answer_of, step}
use Rattle.dispatch.specs.Walk.{takes_first, takes_second, state_after, row_after}
use Rattle.dispatch.proofs.Wants.{share_first, share_second, given_first, given_second, wants_where}
use Rattle.dispatch.proofs.Choice.{at, state_of, took, free, took_range, took_free, took_wants, took_once, took_none, took_most, answer_length}

-- a choice t as it shows once the first i stages had their turn
abbrev up_to : ℕ → ℕ → ℕ
up_to i t = cond (leb t i) t 0

up_to_more : (i t : ℕ) → up_to (suc i) t ≡ cond (eqb t (suc i)) (suc i) (up_to i t)
up_to_more i t = grind (arith, nat_tests)

-- the row once the first i stages had their turn
pub record RowAt (ps : List Placement) (ss : List State) (i : ℕ) (row : List ℕ) : Type 0 where
  pub eight : length row ≡ 8
  pub each : (j : ℕ) → get_or row j 0 ≡ up_to i (took 8 ps ss (suc j))

pub row_all : (ps : List Placement) (ss : List State) (i : ℕ) (row : List ℕ) → length ps ≤ i → RowAt ps ss i row → row ≡ answer_of 8 ps ss
row_all ps ss i row le h =
    ext_get_or 0 row (answer_of 8 ps ss) (h.eight ∙ sym (answer_length 8 ps ss (omega arith)))
    (λ j lt. h.each j ∙ shown (took 8 ps ss (suc j)) (omega (arith, took_most 8 ps ss (suc j))))
  where
    shown : (t : ℕ) → t ≤ i → up_to i t ≡ t
    shown t few = grind (arith, nat_tests)

-- a core takes stage suc i if it can, and took none before
by_turn : (f : Bool) (i t : ℕ) → (f ≡ true → (1 ≤ t) × (t ≤ suc i)) → (eqb t (suc i) ≡ true → f ≡ true) → (f && eqb (up_to i t) 0) ≡ eqb t (suc i)
by_turn true i t range back = let h = range refl in grind (arith, nat_tests)
by_turn false i t range back = sym (false_from_ne_true (eqb t (suc i)) (λ h. both_ways false refl (back h)))

and_not_so : (a b : Bool) → b ≡ false → a ≡ (a && not b)
and_not_so true b h = sym (ap not h)
and_not_so false b h = refl

module _ (ps : List Placement) (ss : List State) (i : ℕ) (row : List ℕ) (sound : SoundPlacement 8 (at ps i)) (now : RowAt ps ss i row) where
  abbrev p : Placement
  p = at ps i

  abbrev s : State
  s = state_of ss i

  -- core j takes this stage
  abbrev by : ℕ → Bool
  by j = eqb (took 8 ps ss j) (suc i)

  turn : (k : ℕ) → k < 8 → (free 8 ps ss k i && eqb (get_or row k 0) 0) ≡ by (suc k)
  turn k lt = ap (λ x. free 8 ps ss k i && eqb x 0) (now.each k) ∙ by_turn (free 8 ps ss k i) i (took 8 ps ss (suc k)) (took_range 8 ps ss k i lt) (took_free 8 ps ss k i)

  first_is : takes_first p s row ≡ by p.core
  first_is =
      let from = sound.from_one in
      let to = sound.on_a_core in
      let k = p.core - 1 in
      let e : p.core ≡ suc k = omega arith in
      let before : by k ≡ false = false_from_ne_true (by k) (λ h. ⊎_elim (λ q. omega arith) (λ q. omega arith) (wants_where p s k (took_wants 8 ps ss k i h))) in
      let wanted : (is_open s.job && ltb s.first p.first) ≡ free 8 ps ss k i = ap₂ (λ a b. is_open s.job && ltb a b) (sym (given_first p s)) (sym (share_first p)) ∙ ap (wants p s) e ∙ and_not_so (wants p s (suc k)) (by k) before in
      ap (λ b. b && eqb (get_or row k 0) 0) wanted ∙ turn k (omega arith) ∙ ap by (sym e)

  second_is : takes_second p s row ≡ by (suc p.core)
  second_is = ⊎_elim inside beyond (cases_lt p.core 8)
    where
      inside : p.core < 8 → takes_second p s row ≡ by (suc p.core)
      inside lt =
          let wanted : (is_open s.job && ltb s.second p.second) ≡ wants p s (suc p.core) = ap₂ (λ a b. is_open s.job && ltb a b) (sym (given_second p s)) (sym (share_second p)) in
          ap₂ (λ a b. a && not b && eqb (get_or row p.core 0) 0) wanted first_is ∙ turn p.core lt

      beyond : 8 ≤ p.core → takes_second p s row ≡ by (suc p.core)
      beyond le =
          let none : p.second ≤ s.second = ⊎_elim (λ some. omega (arith, sound.next_too some)) (λ no. omega arith) (cases_lt 0 p.second) in
          let idle = took_none 8 ps ss p.core le in
          let off = le-ltb s.second p.second none in
          grind (arith, nat_tests)

  -- a core that does not take this stage keeps what it has
  kept : (j : ℕ) → (suc j ≡ p.core → takes_first p s row ≡ false) → (j ≡ p.core → takes_second p s row ≡ false) → get_or row j 0 ≡ up_to (suc i) (took 8 ps ss (suc j))
  kept j one two =
      let not_here : by (suc j) ≡ false = false_from_ne_true (by (suc j)) (λ h. ⊎_elim (λ q. both_ways (by (suc j)) (ap by q ∙ sym first_is ∙ one q) h) (λ q. both_ways (by (suc j)) (ap by q ∙ sym second_is ∙ two (omega arith)) h) (wants_where p s (suc j) (took_wants 8 ps ss (suc j) i h))) in
      now.each j ∙ sym (up_to_more i (took 8 ps ss (suc j)) ∙ cond-false (by (suc j)) (suc i) (up_to i (took 8 ps ss (suc j))) not_here)

  -- one that does has this stage
  noted : (j k : ℕ) → k ≡ suc j → by k ≡ true → suc i ≡ up_to (suc i) (took 8 ps ss (suc j))
  noted j k e h = sym (up_to_more i (took 8 ps ss (suc j)) ∙ cond-true (by (suc j)) (suc i) (up_to i (took 8 ps ss (suc j))) (ap by (sym e) ∙ h))

  written : (k : ℕ) → k < 8 → by (suc k) ≡ true → ((j : ℕ) → (j ≡ k → ⊥) → get_or row j 0 ≡ up_to (suc i) (took 8 ps ss (suc j))) → RowAt ps ss (suc i) (set row k (suc i))
  written k lt h others =
      let eight = now.eight in
      record {
        eight = length-set row k (suc i) ∙ now.eight;
        each = λ j. ⊎_elim
            (λ q. ap (λ x. get_or (set row k (suc i)) x 0) q ∙ get_or-set_same row k (suc i) 0 (omega arith) ∙ noted j (suc k) (omega arith) h)
            (λ q. get_or-set_other row k j (suc i) 0 q ∙ others j q)
            (cases_eq j k);
      }

  row_more : RowAt ps ss (suc i) (row_after (suc i) p s row)
  row_more = go (takes_first p s row) (takes_second p s row) refl refl
    where
      go : (one two : Bool) → takes_first p s row ≡ one → takes_second p s row ≡ two → RowAt ps ss (suc i) (cond one (set row (p.core - 1) (suc i)) (cond two (set row p.core (suc i)) row))
      go true two e f =
          let from = sound.from_one in
          let to = sound.on_a_core in
          let c : p.core ≡ suc (p.core - 1) = omega arith in
          let taken : by (suc (p.core - 1)) ≡ true = ap by (sym c) ∙ sym first_is ∙ e in
          written (p.core - 1) (omega arith) taken
          (λ j q. kept j (λ r. absurd (q (omega arith))) (λ r. second_is ∙ false_from_ne_true (by (suc p.core)) (λ h. took_once 8 ps ss p.core i h (sym first_is ∙ e))))
      go false true e f =
          let taken = sym second_is ∙ f in
          let here : p.core < 8 = ⊎_elim (λ lt. lt) (λ le. let none = took_none 8 ps ss p.core le in let t = eqb-true (took 8 ps ss (suc p.core)) (suc i) taken in absurd (omega arith)) (cases_lt p.core 8) in
          written p.core here taken (λ j q. kept j (λ r. e) (λ r. absurd (q r)))
      go false false e f = record { eight = now.eight; each = λ j. kept j (λ r. e) (λ r. f) }

  step_is : state_after p s row ≡ step (answer_of 8 ps ss) (suc i) p s
  step_is = ap₂ (λ a b. grown p (served a b p s)) first_is second_is

  -- the stage's turn, with the state that it has
  pub turned : (have x : State) (r : List ℕ) → have ≡ s → x ≡ state_after p have row → r ≡ row_after (i + 1) p have row → RowAt ps ss (i + 1) r × (x ≡ step (answer_of 8 ps ss) (i + 1) p have)
  turned have x r e is noted = (
    subst (λ n. RowAt ps ss n r) (sym (add-one i)) (subst (λ q. RowAt ps ss (suc i) q) (sym (noted ∙ ap₂ (λ k h. row_after k p h row) (add-one i) e)) row_more),
    is ∙ ap (λ h. state_after p h row) e ∙ step_is ∙ ap₂ (λ k h. step (answer_of 8 ps ss) k p h) (sym (add-one i)) (sym e),
  )
