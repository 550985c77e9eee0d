-- The steps of placing, by the share that the rule answers.
use Rattle.std.proofs.Common.{◌≡◌, ℕ, suc, ◌+◌, ◌-◌, ◌<◌, ◌≤◌, Bool, true, cond, eqb, List, [], ◌∷◌, ◌++◌, length, Ok, Err, ⊎_elim, arith}
use Rattle.std.proofs.lemmas.List.{length_push}
use Rattle.std.proofs.lemmas.Bool.{cases_eq, eq-eqb, ne_eqb, leb-true}
use Rattle.rules.specs.declared.load.Member.{Member}
use Rattle.rules.specs.Loads.{joined, lawful, newcomer}
use Rattle.rules.specs.Lemmas.Lawful.{lawful_parts}
use Rattle.rules.specs.Rules.{share_of}
use Rattle.rules.proofs.Greatest.{Greatest, greatest_of}
use Rattle.model.specs.declared.fault.Cause.{Cause}
use Rattle.model.specs.declared.stage.Stage.{Stage}
use Rattle.placing.specs.Placing.{place_stage, whole, second_part, split}

-- the share is the greatest that is passed
pub share_is : (passes : List Member → Bool) (load : List Member) (c period : ℕ) → Greatest (λ x. passes (joined load x period)) c (share_of passes load c period)
share_is passes load c period = greatest_of (λ x. passes (joined load x period)) c

-- one turn of the four steps
pub turn : (passes : List Member → Bool) (cores core : ℕ) (load : List Member) (s : Stage) → core ≤ cores →
    let g = share_of passes load s.cost s.period in
    place_stage passes (cores - core) core load s
    ≡ cond (eqb g s.cost) (Ok (whole core load s))
    (cond (eqb core cores) (Err Cause.NoRoom)
    (cond (eqb g 0) (place_stage passes (cores - (core + 1)) (core + 1) [] s)
    (cond (passes (second_part g s)) (Ok (split core g s)) (Err Cause.NotAlone))))
turn passes cores core load s le =
    ⊎_elim
    (λ e. let n : cores - core ≡ 0 = omega arith in rw (n, eq-eqb core cores e))
    (λ e. let n : cores - core ≡ suc (cores - (core + 1)) = omega arith in rw (n, ne_eqb core cores e))
    (cases_eq core cores)

-- a lawful load has no more members than a box has stages
room_left : (load : List Member) (cost period : ℕ) → lawful (joined load cost period) ≡ true → length load < 64
room_left [] cost period h = omega arith
room_left (m ∷ l) cost period h =
    let few = leb-true _ 64 (lawful_parts m (l ++ (newcomer cost period ∷ [])) h).few in
    omega (arith, few, length_push l (newcomer cost period))

-- so a whole stage that the rule lets join finds room
pub whole_fits : (passes : List Member → Bool) → ((l : List Member) → passes l ≡ true → lawful l ≡ true) → (load : List Member) (s : Stage) → 1 ≤ s.cost → share_of passes load s.cost s.period ≡ s.cost → length load < 64
whole_fits passes lawful-only load s some is =
    room_left load _ s.period (lawful-only _ ((share_is passes load s.cost s.period).passed (omega arith)))

-- the share is never more than the cost
pub share_within : (passes : List Member → Bool) (load : List Member) (c period : ℕ) → share_of passes load c period ≤ c
share_within passes load c period = (share_is passes load c period).within

-- for one turn of the four steps
pub ruleset one_turn = (turn, share_within)
