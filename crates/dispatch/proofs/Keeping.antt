-- A run's bounds hold as it is opened, and a tick keeps them.
use Rattle.std.proofs.Common.{◌≡◌, ℕ, suc, ◌<◌, ◌≤◌, Bool, true, eqb, List, length, get_or, replicate, sym, subst, arith}
use Rattle.std.proofs.lemmas.List.{get_or-replicate}
use Rattle.std.proofs.lemmas.Bool.Decides.{nat_tests}
use Rattle.placing.specs.declared.placement.Placement.{Placement}
use Rattle.dispatch.specs.declared.state.State.{State}
use Rattle.dispatch.specs.Ticks.{no_state, served, grown, after_tick, fresh_state}
use Rattle.placing.specs.Sound.{Sound}
use Rattle.dispatch.specs.Bounds.{InBounds, Within, Small}
use Rattle.dispatch.proofs.Choice.{at, state_of, took, took_wants}
use Rattle.dispatch.proofs.Tables.{AsBefore, as_before}
use Rattle.dispatch.proofs.Rows.{ticked_row}
use Rattle.dispatch.proofs.Wants.{wants_first, wants_second}

-- as many states as there can be stages, with nothing but zeros
pub within_zeros : (cores : ℕ) (plan : List Placement) (s : State) → Sound cores plan → length plan ≤ 64 → (s.age ≡ 0) × (s.first ≡ 0) × (s.second ≡ 0) → Within plan (replicate 64 s)
within_zeros cores plan s sound few zeros i lt =
    let low = (sound.each i lt).period_least in
    subst (λ s. InBounds (at plan i) s) (sym (get_or-replicate 64 i s no_state (omega arith))) (omega arith, omega arith, omega arith)

-- what is within its bounds can grow by one, so no number of a run overflows
pub within_small : (cores : ℕ) (plan : List Placement) (ss : List State) → Sound cores plan → Within plan ss → (i : ℕ) → i < length plan → Small (state_of ss i)
within_small cores plan ss sound within i lt =
    let p = sound.each i lt in
    let w = within i lt in
    record { age = omega (arith, w.0, p.period_most); first = omega (arith, w.1, p.parts, p.cost_most, p.period_most); second = omega (arith, w.2, p.parts, p.cost_most, p.period_most) }

bounded : (p : Placement) (s : State) (f g : Bool) → (f ≡ true → s.first < p.first) → (g ≡ true → s.second < p.second) → InBounds p s → InBounds p (grown p (served f g p s))
bounded p s f g hf hg w = (grind (arith, nat_tests), grind (arith, nat_tests), grind (arith, nat_tests))

pub within_ticked : (cores : ℕ) (plan : List Placement) (ss : List State) → length plan ≤ length ss → Within plan ss → Within plan (after_tick cores plan ss)
within_ticked cores plan ss le within i lt =
    let p = at plan i in
    let s = state_of ss i in
    subst (λ x. InBounds p x) (sym (ticked_row cores plan ss i lt (omega arith)))
    (bounded p s (eqb (took cores plan ss p.core) (suc i)) (eqb (took cores plan ss (suc p.core)) (suc i)) (λ h. wants_first p s (took_wants cores plan ss p.core i h)) (λ h. wants_second p s (took_wants cores plan ss (suc p.core) i h)) (within i lt))

-- a stage whose turn is to come is within its bounds as before
pub still_within : (ps : List Placement) (before ss : List State) (i : ℕ) → Within ps before → AsBefore before ss i → i < length ps → i < length ss → InBounds (at ps i) (get_or ss i fresh_state)
still_within ps before ss i within same lt there = subst (λ s. InBounds (at ps i) s) (sym (as_before before ss i fresh_state there same)) (within i lt)
