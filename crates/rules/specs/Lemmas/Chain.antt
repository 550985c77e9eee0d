-- What the harmonic rule says of each member.
use Rattle.std.specs.Prelude.{◌≡◌, ℕ, zero, suc, ◌+◌, ◌*◌, ◌/◌, ◌%◌, ◌<◌, ◌≤◌, true, ◌&&◌, List, [], ◌∷◌, length, take, ◌==◌, nat_le, refl}
use Rattle.std.proofs.Common.{sym, ap, subst, ◌∙◌, ⊎_elim, mul_comm, mul_left_comm, mul-add, mul-zero, mul-one, eq-zero-or-pos, arith}
use Rattle.std.specs.Int.{◌∣◌}
use Rattle.std.proofs.Math.Nat.{dvd_refl, dvd_trans, dvd_of_mod-eq-zero, mul-div_assoc, mul-div_cancel', div_self, le_of_mul-le-mul_left}
use Rattle.std.proofs.lemmas.List.{length-take, get_or-take}
use Rattle.std.proofs.lemmas.List.Sums.{sum_by-cons, sum_by-take-le}
use Rattle.std.proofs.lemmas.Bool.{and_parts, leb-true, eqb-true, false≢true}
use Rattle.rules.specs.declared.load.Member.{Member}
use Rattle.rules.specs.Loads.{all, within_limits, lawful, member, nobody}
use Rattle.rules.specs.Rules.{last_period, chained, work, work_in, harmonic}
use Rattle.rules.specs.Lemmas.Lawful.{limits_kept, lawful_parts, member_kept}
use Rattle.rules.specs.Lemmas.Sums.{sum_suc}

pub step : (m k : Member) (l : List Member) → chained (m ∷ k ∷ l) ≡ true → (m.period ∣ k.period) × (chained (k ∷ l) ≡ true)
step m k l h =
    let both = and_parts (k.period % m.period == 0) (chained (k ∷ l)) h in
    (dvd_of_mod-eq-zero m.period (eqb-true (k.period % m.period) 0 both.0), both.1)

-- the first period divides every one
first_divides : (m : Member) (l : List Member) → chained (m ∷ l) ≡ true → (i : ℕ) → i < length (m ∷ l) → m.period ∣ (member (m ∷ l) i).period
first_divides m l h zero lt = dvd_refl m.period
first_divides m [] h (suc i) lt = absurd (omega arith)
first_divides m (k ∷ l) h (suc i) lt =
    let s = step m k l h in
    dvd_trans m.period s.0 (first_divides k l s.1 i (omega arith))

tail_chained : (m : Member) (l : List Member) → chained (m ∷ l) ≡ true → chained l ≡ true
tail_chained m [] h = refl
tail_chained m (k ∷ l) h = (step m k l h).1

-- each period divides every later one
pub divides : (l : List Member) → chained l ≡ true → (h i : ℕ) → h ≤ i → i < length l → (member l h).period ∣ (member l i).period
divides [] c h i le lt = absurd (omega arith)
divides (m ∷ l) c zero i le lt = first_divides m l c i lt
divides (m ∷ l) c (suc h) zero le lt = absurd (omega arith)
divides (m ∷ l) c (suc h) (suc i) le lt = divides l (tail_chained m l c) h i (omega arith) (omega arith)

pub first_divides_last : (m : Member) (l : List Member) → chained (m ∷ l) ≡ true → m.period ∣ last_period (m ∷ l)
first_divides_last m [] h = dvd_refl m.period
first_divides_last m (k ∷ l) h =
    let s = step m k l h in
    dvd_trans m.period s.0 (first_divides_last k l s.1)

pub divides_last : (l : List Member) → chained l ≡ true → (i : ℕ) → i < length l → (member l i).period ∣ last_period l
divides_last [] c i lt = absurd (omega arith)
divides_last (m ∷ l) c zero lt = first_divides_last m l c
divides_last (m ∷ []) c (suc i) lt = absurd (omega arith)
divides_last (m ∷ k ∷ l) c (suc i) lt = divides_last (k ∷ l) (step m k l c).1 i (omega arith)

last_positive : (m : Member) (l : List Member) → all within_limits (m ∷ l) ≡ true → 0 < last_period (m ∷ l)
last_positive m [] h = omega (arith, (limits_kept m (and_parts (within_limits m) true h).0).least)
last_positive m (k ∷ l) h = last_positive k l (and_parts (within_limits m) (all within_limits (k ∷ l)) h).1

pub lawful_last : (l : List Member) → lawful l ≡ true → 0 < last_period l
lawful_last [] h = absurd (false≢true h)
lawful_last (m ∷ l) h = last_positive m l (lawful_parts m l h).limits

-- the work in g times a common multiple of the periods is g times the work
pub work_scales : (l : List Member) (g p : ℕ) → ((i : ℕ) → i < length l → (member l i).period ∣ p) → work_in (g * p) l ≡ g * work_in p l
work_scales [] g p d = sym (mul-zero g)
work_scales (m ∷ l) g p d =
    let ih = work_scales l g p (λ i lt. d (suc i) (omega arith)) in
    let one = ap (λ x. m.cost * x) (mul-div_assoc m.period g (d 0 (omega arith))) ∙ mul_left_comm m.cost g (p / m.period) in
    let right = ap (λ x. g * x) (sum_by-cons (work p) m l) ∙ mul-add g (work p m) (work_in p l) in
    omega (arith, sum_by-cons (work (g * p)) m l)

pub record Harmony (l : List Member) : Type 0 where
  pub good : lawful l ≡ true
  pub chain : chained l ≡ true
  pub work : work_in (last_period l) l ≤ last_period l

pub harmony : (l : List Member) → harmonic l ≡ true → Harmony l
harmony l h =
    let both = and_parts (lawful l && chained l) (nat_le (work_in (last_period l) l) (last_period l)) h in
    let front = and_parts (lawful l) (chained l) both.0 in
    record { good = front.0; chain = front.1; work = leb-true (work_in (last_period l) l) (last_period l) both.1 }

-- a member and those above it fit its period
pub fits_period : (l : List Member) → Harmony l → (i : ℕ) → i < length l → (member l i).cost + work_in (member l i).period (take i l) ≤ (member l i).period
fits_period l y i inside =
    let p = (member l i).period in
    let pos : 0 < p = omega (arith, (member_kept l y.good i inside).least) in
    let g = last_period l / p in
    let whole : g * p ≡ last_period l = mul_comm g p ∙ mul-div_cancel' p (divides_last l y.chain i inside) in
    let some : 0 < g = ⊎_elim (λ z. absurd (omega (arith, lawful_last l y.good, ap (λ x. x * p) z, mul_comm 0 p, mul-zero p))) (λ k. k) (eq-zero-or-pos g) in
    let front = take (suc i) l in
    let short = length-take (suc i) l in
    let scaled = work_scales front g p (λ h lt. subst (λ (m : Member). m.period ∣ p) (sym (get_or-take (suc i) l h nobody (omega arith))) (divides l y.chain h i (omega arith) inside)) in
    let part = subst (λ x. work_in x front ≤ work_in x l) (sym whole) (sum_by-take-le (work (last_period l)) l (suc i)) in
    let total = subst (λ x. work_in x l ≤ x) (sym whole) y.work in
    let less : work_in p front ≤ p = le_of_mul-le-mul_left {k = g} (omega arith) some in
    omega (arith, sum_suc (work p) l i inside, ap (λ x. (member l i).cost * x) (div_self pos), mul-one (member l i).cost)
