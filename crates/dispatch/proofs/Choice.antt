-- Whom each core takes in a tick.
use Rattle.std.proofs.Common.{◌≡◌, ℕ, zero, suc, ◌+◌, ◌-◌, ◌<◌, ◌≤◌, Bool, true, false, cond, not, ◌&&◌, eqb, List, [], ◌∷◌, ◌++◌, length, get_or, replicate, sym, refl, ap, ◌∙◌, subst, ⊎_elim, arith, length-append}
use Rattle.std.proofs.lemmas.List.{length-replicate, get_or_past}
use Rattle.std.proofs.lemmas.Bool.{eqb-true, and_parts, false≢true, cases_lt}
use Rattle.std.proofs.lemmas.Bool.Decides.{nat_tests}
use Rattle.placing.specs.declared.placement.Placement.{Placement}
use Rattle.dispatch.specs.declared.state.State.{State}
use Rattle.placing.specs.Placements.{no_placement}
use Rattle.dispatch.specs.Ticks.{no_state, wants, pick, picks, answer_of, taken_on}

abbrev pub at : List Placement → ℕ → Placement
at ps i = get_or ps i no_placement

abbrev pub state_of : List State → ℕ → State
state_of ss i = get_or ss i no_state

-- stage i qualifies for core j, stages being numbered from n
abbrev pub fits : ℕ → ℕ → ℕ → List Placement → List State → ℕ → Bool
fits j prev n ps ss i = wants (at ps i) (state_of ss i) j && not (eqb (n + i) prev)

pick_low : (j prev n : ℕ) (ps : List Placement) (ss : List State) → 0 < pick j prev n ps ss → n ≤ pick j prev n ps ss
pick_low j prev n [] ss some = absurd (omega arith)
pick_low j prev n (p ∷ ps) [] some = absurd (omega arith)
pick_low j prev n (p ∷ ps) (s ∷ ss) some = let later = pick_low j prev (suc n) ps ss in grind (arith, nat_tests)

-- a stage that is picked qualifies
pick_fits : (j prev n : ℕ) (ps : List Placement) (ss : List State) → 0 < n → (i : ℕ) → pick j prev n ps ss ≡ n + i → fits j prev n ps ss i ≡ true
pick_fits j prev n [] ss pos i is = absurd (omega arith)
pick_fits j prev n (p ∷ ps) [] pos i is = absurd (omega arith)
pick_fits j prev n (p ∷ ps) (s ∷ ss) pos zero is = go (wants p s j && not (eqb n prev)) refl is
  where
    go : (b : Bool) → (wants p s j && not (eqb n prev)) ≡ b → cond b n (pick j prev (suc n) ps ss) ≡ n + 0 → (wants p s j && not (eqb (n + 0) prev)) ≡ true
    go true e h = subst (λ x. (wants p s j && not (eqb x prev)) ≡ true) {x = n} {y = n + 0} (omega arith) e
    go false e h = absurd (omega (arith, pick_low j prev (suc n) ps ss (omega arith)))
pick_fits j prev n (p ∷ ps) (s ∷ ss) pos (suc i) is =
    let later = pick_fits j prev (suc n) ps ss (omega arith) i in
    let on : pick j prev (suc n) ps ss ≡ suc n + i = go (wants p s j && not (eqb n prev)) is in
    subst (λ x. (wants (at ps i) (state_of ss i) j && not (eqb x prev)) ≡ true) {x = suc n + i} {y = n + suc i} (omega arith) (later on)
  where
    go : (b : Bool) → cond b n (pick j prev (suc n) ps ss) ≡ n + suc i → pick j prev (suc n) ps ss ≡ suc n + i
    go true h = absurd (omega arith)
    go false h = omega arith

-- the pick is among the stages that are there, and no later than a stage that qualifies
pick_most : (j prev n : ℕ) (ps : List Placement) (ss : List State) → pick j prev (suc n) ps ss ≤ n + length ps
pick_most j prev n [] ss = omega arith
pick_most j prev n (p ∷ ps) [] = omega arith
pick_most j prev n (p ∷ ps) (s ∷ ss) = let later = pick_most j prev (suc n) ps ss in grind (arith, nat_tests)

pick_range : (j prev n : ℕ) (ps : List Placement) (ss : List State) (i : ℕ) → fits j prev n ps ss i ≡ true → (n ≤ pick j prev n ps ss) × (pick j prev n ps ss ≤ n + i)
pick_range j prev n [] ss i h = absurd (grind (arith, nat_tests))
pick_range j prev n (p ∷ ps) [] i h = absurd (false≢true h)
pick_range j prev n (p ∷ ps) (s ∷ ss) zero h = (grind (arith, nat_tests), grind (arith, nat_tests))
pick_range j prev n (p ∷ ps) (s ∷ ss) (suc i) h =
    let later = pick_range j prev (suc n) ps ss i in
    (grind (arith, nat_tests), grind (arith, nat_tests))

picks_length : (n j prev : ℕ) (ps : List Placement) (ss : List State) → length (picks n j prev ps ss) ≡ n
picks_length zero j prev ps ss = refl
picks_length (suc n) j prev ps ss = ap suc (picks_length n (suc j) (pick j prev 1 ps ss) ps ss)

picks_next : (n j prev : ℕ) (ps : List Placement) (ss : List State) (k : ℕ) → suc k < n → get_or (picks n j prev ps ss) (suc k) 0 ≡ pick (suc (j + k)) (get_or (picks n j prev ps ss) k 0) 1 ps ss
picks_next zero j prev ps ss k lt = absurd (omega arith)
picks_next (suc zero) j prev ps ss k lt = absurd (omega arith)
picks_next (suc (suc n)) j prev ps ss zero lt = ap (λ x. pick x (pick j prev 1 ps ss) 1 ps ss) {x = suc j} {y = suc (j + 0)} (omega arith)
picks_next (suc (suc n)) j prev ps ss (suc k) lt =
    picks_next (suc n) (suc j) (pick j prev 1 ps ss) ps ss k (omega arith) ∙ ap (λ x. pick x (get_or (picks (suc n) (suc j) (pick j prev 1 ps ss) ps ss) k 0) 1 ps ss) {x = suc (suc j + k)} {y = suc (j + suc k)} (omega arith)

-- zeros behind a list do not show
zeros : (n k : ℕ) → ◌≡◌ {A = ℕ} (get_or (replicate n 0) k 0) 0
zeros zero k = refl
zeros (suc n) zero = refl
zeros (suc n) (suc k) = zeros n k

padded : (a : List ℕ) (n k : ℕ) → get_or (a ++ replicate n 0) k 0 ≡ get_or a k 0
padded [] n k = zeros n k
padded (x ∷ a) n zero = refl
padded (x ∷ a) n (suc k) = padded a n k

-- the stage that core j takes, or 0
abbrev pub took : ℕ → List Placement → List State → ℕ → ℕ
took cores ps ss j = taken_on (answer_of cores ps ss) j

took_bare : (cores : ℕ) (ps : List Placement) (ss : List State) (j : ℕ) → took cores ps ss j ≡ taken_on (picks cores 1 0 ps ss) j
took_bare cores ps ss zero = refl
took_bare cores ps ss (suc k) = padded (picks cores 1 0 ps ss) (8 - cores) k

bare_pick : (cores : ℕ) (ps : List Placement) (ss : List State) (k : ℕ) → k < cores → taken_on (picks cores 1 0 ps ss) (suc k) ≡ pick (suc k) (taken_on (picks cores 1 0 ps ss) k) 1 ps ss
bare_pick zero ps ss k lt = absurd (omega arith)
bare_pick (suc n) ps ss zero lt = refl
bare_pick (suc n) ps ss (suc k) lt = picks_next (suc n) 1 0 ps ss k lt ∙ ap (λ x. pick x (taken_on (picks (suc n) 1 0 ps ss) (suc k)) 1 ps ss) {x = suc (1 + k)} {y = suc (suc k)} (omega arith)

pub took_pick : (cores : ℕ) (ps : List Placement) (ss : List State) (k : ℕ) → k < cores → took cores ps ss (suc k) ≡ pick (suc k) (took cores ps ss k) 1 ps ss
took_pick cores ps ss k lt = took_bare cores ps ss (suc k) ∙ bare_pick cores ps ss k lt ∙ ap (λ x. pick (suc k) x 1 ps ss) (sym (took_bare cores ps ss k))

pub took_none : (cores : ℕ) (ps : List Placement) (ss : List State) (k : ℕ) → cores ≤ k → took cores ps ss (suc k) ≡ 0
took_none cores ps ss k le = took_bare cores ps ss (suc k) ∙ get_or_past (picks cores 1 0 ps ss) k 0 (omega (arith, picks_length cores 1 0 ps ss))

pub answer_length : (cores : ℕ) (ps : List Placement) (ss : List State) → cores ≤ 8 → length (answer_of cores ps ss) ≡ 8
answer_length cores ps ss le = omega (arith, length-append (picks cores 1 0 ps ss) (replicate (8 - cores) 0), picks_length cores 1 0 ps ss, length-replicate {A = ℕ} (8 - cores) 0)

pub took_most : (cores : ℕ) (ps : List Placement) (ss : List State) (j : ℕ) → took cores ps ss j ≤ length ps
took_most cores ps ss zero = omega arith
took_most cores ps ss (suc k) =
    ⊎_elim (λ lt. omega (arith, took_pick cores ps ss k lt, pick_most (suc k) (took cores ps ss k) 0 ps ss)) (λ le. omega (arith, took_none cores ps ss k le)) (cases_lt k cores)

-- stage number suc i qualifies for core suc k
abbrev pub free : ℕ → List Placement → List State → ℕ → ℕ → Bool
free cores ps ss k i = wants (at ps i) (state_of ss i) (suc k) && not (eqb (took cores ps ss k) (suc i))

qualifies : (cores : ℕ) (ps : List Placement) (ss : List State) (k i : ℕ) → fits (suc k) (took cores ps ss k) 1 ps ss i ≡ free cores ps ss k i
qualifies cores ps ss k i = grind (arith, nat_tests)

-- a core takes no later stage than one that qualifies
pub took_range : (cores : ℕ) (ps : List Placement) (ss : List State) (k i : ℕ) → k < cores → free cores ps ss k i ≡ true → (1 ≤ took cores ps ss (suc k)) × (took cores ps ss (suc k) ≤ suc i)
took_range cores ps ss k i lt h =
    let r = pick_range (suc k) (took cores ps ss k) 1 ps ss i (qualifies cores ps ss k i ∙ h) in
    let e = took_pick cores ps ss k lt in
    (omega arith, omega arith)

-- and it takes none that does not
pub took_free : (cores : ℕ) (ps : List Placement) (ss : List State) (k i : ℕ) → eqb (took cores ps ss (suc k)) (suc i) ≡ true → free cores ps ss k i ≡ true
took_free cores ps ss k i h =
    let t = eqb-true (took cores ps ss (suc k)) (suc i) h in
    ⊎_elim
    (λ lt. let e = took_pick cores ps ss k lt in sym (qualifies cores ps ss k i) ∙ pick_fits (suc k) (took cores ps ss k) 1 ps ss (omega arith) i (omega arith))
    (λ le. let e = took_none cores ps ss k le in absurd (omega arith))
    (cases_lt k cores)

pub took_wants : (cores : ℕ) (ps : List Placement) (ss : List State) (j i : ℕ) → eqb (took cores ps ss j) (suc i) ≡ true → wants (at ps i) (state_of ss i) j ≡ true
took_wants cores ps ss zero i h = let e = eqb-true 0 (suc i) h in absurd (omega arith)
took_wants cores ps ss (suc k) i h = (and_parts (wants (at ps i) (state_of ss i) (suc k)) (not (eqb (took cores ps ss k) (suc i))) (took_free cores ps ss k i h)).0

-- no stage is taken by two cores that follow one another
pub took_once : (cores : ℕ) (ps : List Placement) (ss : List State) (k i : ℕ) → eqb (took cores ps ss (suc k)) (suc i) ≡ true → eqb (took cores ps ss k) (suc i) ≡ true → ⊥
took_once cores ps ss k i h g = let alone = took_free cores ps ss k i h in grind (arith, nat_tests)
