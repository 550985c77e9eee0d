-- A passed load stays passed when the cost of its last member is lowered.
use Rattle.std.specs.Prelude.{◌≡◌, ℕ, suc, ◌+◌, ◌-◌, ◌*◌, ◌/◌, ◌%◌, ◌≤◌, Bool, true, ◌&&◌, List, [], ◌∷◌, ◌++◌, length, ◌==◌, nat_le, refl}
use Rattle.std.proofs.Common.{sym, ap, subst, ◌∙◌, mul-le-mul_right, arith}
use Rattle.std.proofs.lemmas.List.{length_push}
use Rattle.std.proofs.lemmas.List.Sums.{sum_by_push}
use Rattle.std.proofs.lemmas.Bool.{and_parts, and_from, leb-true, le-leb}
use Rattle.rules.specs.declared.load.Member.{Member}
use Rattle.rules.specs.Loads.{all, within_limits, unheld, rising, lawful}
use Rattle.rules.specs.Rules.{covered, all_covered, response, last_period, chained, work, work_in, harmonic, use_of, uses, use_cap, count_cap}
use Rattle.rules.specs.Laws.{at_cost, LoweringKeeps}
use Rattle.rules.specs.Lemmas.Lawful.{lawful_parts, lawful_from, limits_kept, limits_from}
use Rattle.rules.specs.Lemmas.Rounding.{div_more}
use Rattle.rules.specs.Lemmas.Asked.{covered_less}

module _ (m : Member) (c : ℕ) (some : 1 ≤ c) (less : c ≤ m.cost) where
  abbrev m' : Member
  m' = at_cost m c

  pub limits_lowered : within_limits m ≡ true → within_limits m' ≡ true
  limits_lowered h =
      let k = limits_kept m h in
      limits_from m' (record { least = k.least; most = k.most; some_cost = some; fits = omega (arith, k.fits) })

  all_lowered : (p : Member → Bool) → (p m ≡ true → p m' ≡ true) → (l : List Member) → all p (l ++ (m ∷ [])) ≡ true → all p (l ++ (m' ∷ [])) ≡ true
  all_lowered p k [] h = and_from (p m') true (k (and_parts (p m) true h).0) refl
  all_lowered p k (x ∷ l) h =
      let both = and_parts (p x) (all p (l ++ (m ∷ []))) h in
      and_from (p x) (all p (l ++ (m' ∷ []))) both.0 (all_lowered p k l both.1)

  length_same : (l : List Member) → length (l ++ (m ∷ [])) ≡ length (l ++ (m' ∷ []))
  length_same l = length_push l m ∙ sym (length_push l m')

  rising_same : (q : ℕ) (l : List Member) → rising q (l ++ (m ∷ [])) ≡ rising q (l ++ (m' ∷ []))
  rising_same q [] = refl
  rising_same q (x ∷ l) = ap (λ b. nat_le q x.period && b) (rising_same x.period l)

  pub lawful_lowered : (l : List Member) → lawful (l ++ (m ∷ [])) ≡ true → lawful (l ++ (m' ∷ [])) ≡ true
  lawful_lowered [] h =
      let y = lawful_parts m [] h in
      lawful_from m' [] (record {
        few = y.few;
        limits = all_lowered within_limits limits_lowered [] y.limits;
        first = le-leb (c + m.hold) m.period (omega (arith, leb-true (m.cost + m.hold) m.period y.first));
        later = refl;
        order = y.order;
      })
  lawful_lowered (x ∷ l) h =
      let y = lawful_parts x (l ++ (m ∷ [])) h in
      lawful_from x (l ++ (m' ∷ [])) (record {
        few = subst (λ n. nat_le (suc n) 64 ≡ true) (length_same l) y.few;
        limits = all_lowered within_limits limits_lowered (x ∷ l) y.limits;
        first = y.first;
        later = all_lowered unheld (λ e. e) l y.later;
        order = sym (rising_same 0 (x ∷ l)) ∙ y.order;
      })

  pub covered_lowered : (before : List Member) → covered before m ≡ true → covered before m' ≡ true
  covered_lowered before = covered_less before (c + m.hold) (m.cost + m.hold) m.period (omega arith)

  all_covered_lowered : (before l : List Member) → all_covered before (l ++ (m ∷ [])) ≡ true → all_covered before (l ++ (m' ∷ [])) ≡ true
  all_covered_lowered before [] h = and_from (covered before m') true (covered_lowered before (and_parts (covered before m) true h).0) refl
  all_covered_lowered before (x ∷ l) h =
      let next = before ++ (x ∷ []) in
      let both = and_parts (covered before x) (all_covered next (l ++ (m ∷ []))) h in
      and_from (covered before x) (all_covered next (l ++ (m' ∷ []))) both.0 (all_covered_lowered next l both.1)

  pub chained_same : (l : List Member) → chained (l ++ (m ∷ [])) ≡ chained (l ++ (m' ∷ []))
  chained_same [] = refl
  chained_same (x ∷ []) = refl
  chained_same (x ∷ y ∷ l) = ap (λ b. (y.period % x.period == 0) && b) (chained_same (y ∷ l))

  last_same : (l : List Member) → last_period (l ++ (m ∷ [])) ≡ last_period (l ++ (m' ∷ []))
  last_same [] = refl
  last_same (x ∷ []) = refl
  last_same (x ∷ y ∷ l) = last_same (y ∷ l)

  work_lowered : (p : ℕ) (l : List Member) → work_in p (l ++ (m' ∷ [])) ≤ work_in p (l ++ (m ∷ []))
  work_lowered p l = omega (arith, sum_by_push (work p) l m, sum_by_push (work p) l m', mul-le-mul_right (p / m.period) less)

  uses_lowered : (l : List Member) → uses (l ++ (m' ∷ [])) ≤ uses (l ++ (m ∷ []))
  uses_lowered l =
      omega (arith, sum_by_push use_of l m, sum_by_push use_of l m', div_more (1000000 * c + (m.period - 1)) (1000000 * m.cost + (m.period - 1)) m.period (omega arith))

pub response_keeps : LoweringKeeps response
response_keeps l m c some less h =
    let both = and_parts (lawful (l ++ (m ∷ []))) (all_covered [] (l ++ (m ∷ []))) h in
    let low = l ++ (at_cost m c ∷ []) in
    and_from (lawful low) (all_covered [] low) (lawful_lowered m c some less l both.0) (all_covered_lowered m c some less [] l both.1)

pub harmonic_keeps : LoweringKeeps harmonic
harmonic_keeps l m c some less h =
    let high = l ++ (m ∷ []) in
    let low = l ++ (at_cost m c ∷ []) in
    let both = and_parts (lawful high && chained high) (nat_le (work_in (last_period high) high) (last_period high)) h in
    let front = and_parts (lawful high) (chained high) both.0 in
    let work = leb-true (work_in (last_period high) high) (last_period high) both.1 in
    let work' : work_in (last_period high) low ≤ last_period high = omega (arith, work_lowered m c some less (last_period high) l) in
    let work'' = subst (λ p. work_in p low ≤ p) (last_same m c some less l) work' in
    and_from (lawful low && chained low) (nat_le (work_in (last_period low) low) (last_period low))
    (and_from (lawful low) (chained low) (lawful_lowered m c some less l front.0) (sym (chained_same m c some less l) ∙ front.1))
    (le-leb (work_in (last_period low) low) (last_period low) work'')

pub use_cap_keeps : (u : ℕ) (below : List Member → Bool) → LoweringKeeps below → LoweringKeeps (use_cap u below)
use_cap_keeps u below keeps l m c some less h =
    let high = l ++ (m ∷ []) in
    let low = l ++ (at_cost m c ∷ []) in
    let both = and_parts (nat_le (uses high) u) (below high) h in
    let room = leb-true (uses high) u both.0 in
    and_from (nat_le (uses low) u) (below low) (le-leb (uses low) u (omega (arith, uses_lowered m c some less l))) (keeps l m c some less both.1)

pub count_cap_keeps : (k : ℕ) (below : List Member → Bool) → LoweringKeeps below → LoweringKeeps (count_cap k below)
count_cap_keeps k below keeps l m c some less h =
    let high = l ++ (m ∷ []) in
    let low = l ++ (at_cost m c ∷ []) in
    let both = and_parts (nat_le (length high) k) (below high) h in
    and_from (nat_le (length low) k) (below low) (subst (λ n. nat_le n k ≡ true) (length_same m c some less l) both.0) (keeps l m c some less both.1)
