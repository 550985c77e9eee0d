-- Loads that the response rule passes are timely.
use Rattle.std.specs.Prelude.{◌≡◌, ℕ, zero, suc, ◌+◌, ◌-◌, ◌<◌, true, List, [], ◌∷◌, ◌++◌, length, take}
use Rattle.std.proofs.Common.{sym, subst, arith}
use Rattle.std.proofs.lemmas.List.{append-nil, append_assoc}
use Rattle.std.proofs.lemmas.Bool.{and_parts, leb-true}
use Rattle.rules.specs.declared.load.Member.{Member}
use Rattle.rules.specs.Loads.{lawful, member}
use Rattle.rules.specs.Timing.{serves, CoreRun, InTime, Timely}
use Rattle.rules.specs.Rules.{interference, covers, covered, all_covered, response}
use Rattle.rules.specs.Lemmas.Counts.{count_longer}
use Rattle.rules.specs.Lemmas.Track.{closes_by}
use Rattle.rules.specs.Lemmas.Ticks.{track}
use Rattle.rules.specs.Lemmas.Spacing.{Spaced, periodic_spaced}
use Rattle.rules.specs.Lemmas.Moments.{found}
use Rattle.rules.specs.Lemmas.ResponseTimely.{covered_closes}

pub covered_at : (before l : List Member) → all_covered before l ≡ true → (i : ℕ) → i < length l → covered (before ++ take i l) (member l i) ≡ true
covered_at before [] h i lt = absurd (omega arith)
covered_at before (m ∷ l) h zero lt =
    subst (λ b. covered b m ≡ true) (sym (append-nil before)) (and_parts (covered before m) (all_covered (before ++ (m ∷ [])) l) h).0
covered_at before (m ∷ l) h (suc i) lt =
    let ih = covered_at (before ++ (m ∷ [])) l (and_parts (covered before m) (all_covered (before ++ (m ∷ [])) l) h).1 i (omega arith) in
    subst (λ b. covered b (member l i) ≡ true) (append_assoc before (m ∷ []) (take i l)) ih

-- however late the jobs are released
pub spaced_response : (l : List Member) → response l ≡ true → (r : CoreRun l) → Spaced l r → InTime l r
spaced_response l passed r spaced i inside =
    let m = member l i in
    let parts = and_parts (lawful l) (all_covered [] l) passed in
    let f = found (covers (take i l) (m.cost + m.hold)) m.period (covered_at [] l parts.1 i inside) in
    let d = f.0 in
    let fits = leb-true (m.cost + m.hold + interference (take i l) d) d f.3 in
    closes_by (track l r spaced i inside) m.period (omega arith) (λ a w.
    let closed = covered_closes l parts.0 r spaced i inside d f.2 fits a w.fresh (w.stays (d - 1) (omega (arith, f.1, f.2))) in
    omega (arith, count_longer (serves r.opened r.kept i) a d m.period f.2))

pub timely_response : (l : List Member) → response l ≡ true → Timely l
timely_response l passed r periodic = spaced_response l passed r (periodic_spaced l r periodic)
