-- Placing under the harmonic rule succeeds just when the uses add up to at most the cores.
use Rattle.std.proofs.Common.{◌≡◌, ℕ, zero, suc, ◌+◌, ◌-◌, ◌*◌, ◌/◌, ◌<◌, ◌≤◌, min, Bool, true, eqb, leb, List, [], ◌∷◌, length, is_ok, Ok, Err, Result, sym, refl, ap, ◌∙◌, subst, ⊎_elim, suc-mul, mul_comm, add-mul, eq-zero-or-pos, mul-le-mul_left, one-mul, zero-add, zero-mul, mul-add, arith}
use Prim.Native.Nat.{◌∣◌}
use native.Mathlib.Nat.{div-mul_cancel, le_of_mul-le-mul_left, mul-lt-mul_of_pos_left}
use Rattle.std.proofs.lemmas.List.{length_push, get_or_push}
use Rattle.std.proofs.lemmas.List.Sums.{sum_by-cons, sum_by_push}
use Rattle.std.proofs.lemmas.Bool.{and_from, leb-true, le-leb, lt-leb, eqb-true, eqb-false, cases_Bool, cases_lt, cond-true, cond-false, false≢true}
use Rattle.model.specs.declared.fault.Cause.{Cause}
use Rattle.model.specs.declared.fault.Fault.{Fault}
use Rattle.model.specs.declared.stage.Stage.{Stage}
use Rattle.model.specs.declared.fault.Layer.{Layer}
use Rattle.model.specs.Limits.{review_box}
use Rattle.model.specs.Lawful.{Lawful}
use Rattle.model.specs.Tables.{check_of}
use Rattle.model.proofs.Checks.{answers_exactly}
use Rattle.rules.specs.declared.load.Member.{Member}
use Rattle.rules.specs.Loads.{nobody, member, joined, lawful}
use Rattle.rules.specs.Rules.{last_period, chained, work, work_in, harmonic, share_of}
use Rattle.rules.specs.Lemmas.Chain.{step, first_divides_last, work_scales}
use Rattle.rules.proofs.HarmonicShare.{last_push, harmonic_single, harmonic_share, chain_cost}
use Rattle.rules.specs.Lemmas.Lawful.{limits_from}
use Rattle.rules.proofs.Orderly.{room_cost, walked_lawful}
use Rattle.placing.specs.declared.placement.Placement.{Placement}
use Rattle.placing.specs.Placing.{Placed, whole, second_part, split, place_stage, behind, and_then, place_stages, once_checked, place_of}
use Rattle.placing.specs.Fits.{whole_load, in_chain, denominator, numerator, sum_fits, HarmonicIsExact}
use Rattle.placing.proofs.Soundness.{Lawfuls}
use Rattle.placing.proofs.Behind.{Open, open_none, open_behind, divides_next}

ok_behind : (ps : List Placement) (x : Result (List Placement) Fault) → is_ok (behind ps x) ≡ is_ok x
ok_behind ps (Ok qs) = refl
ok_behind ps (Err f) = refl

-- what the next stage finds
abbrev Next : List Member → List Stage → Type 0
Next load [] = Unit {0}
Next load (s ∷ rest) = Open load s.period

abbrev AllDivide : ℕ → List Stage → Type 0
AllDivide L [] = Unit {0}
AllDivide L (s ∷ rest) = (s.period ∣ L) × AllDivide L rest

chain_rest : (s : Stage) (rest : List Stage) → in_chain (s ∷ rest) ≡ true → in_chain rest ≡ true
chain_rest s [] h = refl
chain_rest s (t ∷ rest) h = (step (record { cost = s.cost; period = s.period; hold = 0 }) (record { cost = t.cost; period = t.period; hold = 0 }) (whole_load rest) h).1

-- the load of a core, and the stages that are still to come; L is a multiple of every period
record Ready (L : ℕ) (load : List Member) (ss : List Stage) : Type 0 where
  few : length load + length ss ≤ 64
  lawfuls : Lawfuls ss
  chain : in_chain ss ≡ true
  divs : AllDivide L ss
  next : Next load ss
  fits : work_in L load ≤ L

-- the stage after, behind a load that ends with this stage's period
next_behind : (s : Stage) (rest : List Stage) (l : List Member) → in_chain (s ∷ rest) ≡ true → Lawfuls (s ∷ rest) → lawful l ≡ true → chained l ≡ true → 1 ≤ length l → length l + length rest ≤ 64 → (member l (length l - 1)).period ≡ s.period → last_period l ≡ s.period → Next l rest
next_behind s [] l chain lim good linked some few here last = tt
next_behind s (t ∷ rest) l chain lim good linked some few here last =
    let div = (step (record { cost = s.cost; period = s.period; hold = 0 }) (record { cost = t.cost; period = t.period; hold = 0 }) (whole_load rest) chain).0 in
    let k = lim 1 (omega arith) in
    open_behind l t.period good linked some (omega arith) (here ∙ sym last) (subst (λ x. x ∣ t.period) (sym last) div) (record { least = k.period_least; most = k.period_most })

leb_shift : (k a b c d : ℕ) → a ≡ k + c → b ≡ k + d → leb c d ≡ leb a b
leb_shift k a b c d e f =
    ⊎_elim
    (λ lt. lt-leb c d lt ∙ sym (lt-leb a b (omega arith)))
    (λ le. le-leb c d le ∙ sym (le-leb a b (omega arith)))
    (cases_lt d c)

module _ (L : ℕ) (pos : 0 < L) (s : Stage) (rest : List Stage) (load : List Member) (y : Ready L load (s ∷ rest)) where
  abbrev p : ℕ
  p = s.period

  abbrev q : ℕ
  q = L / s.period

  abbrev w : ℕ
  w = work_in s.period load

  abbrev g : ℕ
  g = share_of harmonic load s.cost s.period

  least : 2 ≤ p
  least = (y.lawfuls 0 (omega arith)).period_least

  most : p ≤ 60000
  most = (y.lawfuls 0 (omega arith)).period_most

  cost_some : 1 ≤ s.cost
  cost_some = (y.lawfuls 0 (omega arith)).cost_least

  cost_most : s.cost ≤ p
  cost_most = (y.lawfuls 0 (omega arith)).cost_most

  lawfuls_rest : Lawfuls rest
  lawfuls_rest = λ i lt. y.lawfuls (suc i) (omega arith)

  whole_L : q * p ≡ L
  whole_L = div-mul_cancel p y.divs.0

  q_pos : 0 < q
  q_pos = ⊎_elim (λ z. absurd (omega (arith, whole_L, ap (λ x. x * p) z, zero-mul p))) (λ k. k) (eq-zero-or-pos q)

  scaled : work_in L load ≡ q * w
  scaled = subst (λ x. work_in x load ≡ q * w) whole_L (work_scales load q p (divides_next load p y.next))

  room : w ≤ p
  room = le_of_mul-le-mul_left {k = q} (omega (arith, scaled, whole_L, y.fits)) q_pos

  share : g ≡ min (p - w) s.cost
  share = sym (harmonic_share load s.cost p y.next.room y.next.chain)

  ready_whole : g ≡ s.cost → Ready L (joined load s.cost p) rest
  ready_whole e =
      let m : Member = record { cost = s.cost; period = p; hold = 0 } in
      let l = joined load s.cost p in
      let long = length_push load m in
      let at : length l - 1 ≡ length load = omega arith in
      let good = room_cost load s.cost p cost_some cost_most y.next.room in
      let linked = chain_cost load s.cost p s.cost cost_some ∙ y.next.chain in
      let here : (member l (length l - 1)).period ≡ p = ap (λ k. (member l k).period) at ∙ ap (λ (x : Member). x.period) (get_or_push load m nobody (length load) refl) in
      let times = mul-le-mul_left {m = w + s.cost} {n = p} q (omega (arith, share, room)) in
      record {
        few = omega (arith, y.few);
        lawfuls = lawfuls_rest;
        chain = chain_rest s rest y.chain;
        divs = y.divs.1;
        next = next_behind s rest l y.chain y.lawfuls good linked (omega arith) (omega (arith, y.few)) here (last_push load m);
        fits = omega (arith, sum_by_push (work L) load m, scaled, times, mul-add q w s.cost, mul_comm s.cost q, whole_L);
      }

  ready_none : Ready L [] (s ∷ rest)
  ready_none =
      record { few = omega (arith, y.few); lawfuls = y.lawfuls; chain = y.chain; divs = y.divs; next = open_none p (record { least = least; most = most }); fits = omega arith }

  second_lawful : g < s.cost → lawful (second_part g s) ≡ true
  second_lawful less =
      let m : Member = record { cost = s.cost - g; period = p; hold = g } in
      let limits = limits_from m (record { least = least; most = most; some_cost = omega arith; fits = omega (arith, cost_most) }) in
      walked_lawful m [] (record { few = omega arith; opens = and_from _ _ limits (le-leb (s.cost - g + g) p (omega (arith, cost_most))); rest = refl })

  second_passed : g < s.cost → harmonic (second_part g s) ≡ true
  second_passed less = sym (harmonic_single (s.cost - g) p g) ∙ second_lawful less

  ready_split : g < s.cost → Ready L (second_part g s) rest
  ready_split less =
      let m : Member = record { cost = s.cost - g; period = p; hold = g } in
      let times = mul-le-mul_left {m = s.cost - g} {n = p} q (omega (arith, cost_most)) in
      record {
        few = omega (arith, y.few);
        lawfuls = lawfuls_rest;
        chain = chain_rest s rest y.chain;
        divs = y.divs.1;
        next = next_behind s rest (second_part g s) y.chain y.lawfuls (second_lawful less) refl (omega arith) (omega (arith, y.few)) refl refl;
        fits = omega (arith, sum_by-cons (work L) m [], times, mul_comm (s.cost - g) q, whole_L);
      }

add_sub : (g c : ℕ) → g < c → g + (c - g) ≡ c
add_sub g c h = omega arith

-- what the load and the stages to come ask for in L ticks
abbrev total : ℕ → List Member → List Stage → ℕ
total L load ss = work_in L load + work_in L (whole_load ss)

module _ (L : ℕ) (pos : 0 < L) (cores : ℕ) where
  abbrev Exact : List Stage → Type 0
  Exact ss = (k core : ℕ) (load : List Member) → core ≤ cores → Ready L load ss → is_ok (place_stages harmonic cores k core load ss) ≡ leb (total L load ss) (suc (cores - core) * L)

  module _ (s : Stage) (rest : List Stage) (k : ℕ) (later : Exact rest) where
    abbrev c : ℕ
    c = s.cost

    abbrev own : Member
    own = record { cost = s.cost; period = s.period; hold = 0 }

    abbrev go_on : Placed → Result (List Placement) Fault
    go_on l = place_stages harmonic cores (k + 1) l.core l.load rest

    abbrev done : Result Placed Cause → Bool
    done x = is_ok (and_then x k go_on)

    joins : (n core : ℕ) (load : List Member) → core + n ≡ cores → Ready L load (s ∷ rest) → share_of harmonic load c s.period ≡ c → done (Ok (whole core load s)) ≡ leb (total L load (s ∷ rest)) (suc n * L)
    joins n core load at y e =
        let l = joined load c s.period in
        let left : cores - core ≡ n = omega arith in
        let sum : total L l rest ≡ total L load (s ∷ rest) = omega (arith, sum_by_push (work L) load own, sum_by-cons (work L) own (whole_load rest)) in
        ok_behind ((whole core load s).placement ∷ []) (go_on (whole core load s)) ∙ later (k + 1) core l (omega arith) (ready_whole L pos s rest load y e) ∙ ap (λ x. leb x (suc (cores - core) * L)) sum ∙ ap (λ x. leb (total L load (s ∷ rest)) (suc x * L)) left

    exact_stage : (n core : ℕ) (load : List Member) → core + n ≡ cores → Ready L load (s ∷ rest) → done (place_stage harmonic n core load s) ≡ leb (total L load (s ∷ rest)) (suc n * L)
    exact_stage zero core load at y =
        let q = L / s.period in
        let w = work_in s.period load in
        let g = share_of harmonic load c s.period in
        ⊎_elim
        (λ e. ap done (cond-true (eqb g c) _ _ e) ∙ joins 0 core load at y (eqb-true g c e))
        (λ e.
        let more : s.period - w < c = omega (arith, share L pos s rest load y, eqb-false g c e) in
        let times = mul-lt-mul_of_pos_left {m = s.period} {n = w + c} {k = q} (omega arith) (q_pos L pos s rest load y) in
        ap done (cond-false (eqb g c) _ _ e)
        ∙ sym (lt-leb (total L load (s ∷ rest)) (1 * L) (omega (arith, sum_by-cons (work L) own (whole_load rest), times, whole_L L pos s rest load y, scaled L pos s rest load y, mul-add q w c, mul_comm c q, one-mul L))))
        (cases_Bool (eqb g c))
    exact_stage (suc n) core load at y =
        let q = L / s.period in
        let w = work_in s.period load in
        let g = share_of harmonic load c s.period in
        let parts = sum_by-cons (work L) own (whole_load rest) in
        ⊎_elim
        (λ e. ap done (cond-true (eqb g c) _ _ e) ∙ joins (suc n) core load at y (eqb-true g c e))
        (λ e.
        let less : g < c = omega (arith, share L pos s rest load y, eqb-false g c e) in
        let fills : w + g ≡ s.period = omega (arith, share L pos s rest load y, room L pos s rest load y) in
        let full : work_in L load + g * q ≡ L = omega (arith, ap (λ x. q * x) fills, mul-add q w g, mul_comm g q, scaled L pos s rest load y, whole_L L pos s rest load y) in
        ⊎_elim
        (λ e'.
        let none = ap (λ x. x * q) (eqb-true g 0 e') in
        ap done (cond-false (eqb g c) _ _ e ∙ cond-true (eqb g 0) _ _ e') ∙ exact_stage n (core + 1) [] (omega arith) (ready_none L pos s rest load y)
        ∙ leb_shift L (total L load (s ∷ rest)) (suc (suc n) * L) (total L [] (s ∷ rest)) (suc n * L) (omega (arith, zero-mul q)) (omega (arith, suc-mul (suc n) L)))
        (λ e'.
        let m : Member = record { cost = c - g; period = s.period; hold = g } in
        let l = second_part g s in
        let passed = second_passed L pos s rest load y less in
        let left : cores - (core + 1) ≡ n = omega arith in
        let shares : c * q ≡ g * q + (c - g) * q = omega (arith, sym (add-mul g (c - g) q), ap (λ x. x * q) (add_sub g c less)) in
        ap done (cond-false (eqb g c) _ _ e ∙ cond-false (eqb g 0) _ _ e' ∙ cond-true (harmonic l) _ _ passed)
        ∙ ok_behind ((split core g s).placement ∷ []) (go_on (split core g s)) ∙ later (k + 1) (core + 1) l (omega arith) (ready_split L pos s rest load y less)
        ∙ ap (λ x. leb (total L l rest) (suc x * L)) left
        ∙ leb_shift L (total L load (s ∷ rest)) (suc (suc n) * L) (total L l rest) (suc n * L) (omega (arith, sum_by-cons (work L) m [])) (omega (arith, suc-mul (suc n) L)))
        (cases_Bool (eqb g 0)))
        (cases_Bool (eqb g c))

  exact_stages : (ss : List Stage) → Exact ss
  exact_stages [] k core load le y = sym (le-leb (total L load []) (suc (cores - core) * L) (omega (arith, y.fits, suc-mul (cores - core) L)))
  exact_stages (s ∷ rest) k core load le y = exact_stage s rest k (exact_stages rest) (cores - core) core load (omega arith) y

-- the last period is a multiple of each
all_divide : (ss : List Stage) → in_chain ss ≡ true → AllDivide (denominator ss) ss
all_divide [] h = tt
all_divide (s ∷ []) h = (first_divides_last (record { cost = s.cost; period = s.period; hold = 0 }) [] h, tt)
all_divide (s ∷ t ∷ rest) h = (first_divides_last (record { cost = s.cost; period = s.period; hold = 0 }) (whole_load (t ∷ rest)) h, all_divide (t ∷ rest) (chain_rest s (t ∷ rest) h))

last_positive : (s : Stage) (rest : List Stage) → Lawfuls (s ∷ rest) → 0 < denominator (s ∷ rest)
last_positive s [] h = omega (arith, (h 0 (omega arith)).period_least)
last_positive s (t ∷ rest) h = last_positive t rest (λ i lt. h (suc i) (omega arith))

plan_of : (x : Result (List Placement) Fault) → is_ok x ≡ true → (plan : List Placement) × (x ≡ Ok plan)
plan_of (Ok ps) h = (ps, refl)
plan_of (Err f) h = absurd (false≢true h)

-- the stages of a lawful table in a chain
placed_test : (cores : ℕ) (ss : List Stage) → Lawful review_box cores ss → in_chain ss ≡ true → is_ok (place_stages harmonic cores 1 1 [] ss) ≡ sum_fits cores ss
placed_test cores [] y chain = absurd (omega (arith, y.some))
placed_test cores (s ∷ rest) y chain =
    let ss = s ∷ rest in
    let L = denominator ss in
    let lim = y.table.each in
    let first = lim 0 (omega arith) in
    let least = y.cores_least in
    let ready : Ready L [] ss = record { few = omega (arith, y.most); lawfuls = lim; chain = chain; divs = all_divide ss chain; next = open_none s.period (record { least = first.period_least; most = first.period_most }); fits = omega arith } in
    let all_cores : suc (cores - 1) ≡ cores = omega arith in
    exact_stages L (last_positive s rest lim) cores ss 1 1 [] least ready ∙ ap (λ n. leb n (suc (cores - 1) * L)) (zero-add (numerator ss)) ∙ ap (λ n. leb (numerator ss) (n * L)) all_cores

pub harmonic_exact : (cores : ℕ) (ss : List Stage) → HarmonicIsExact cores ss
harmonic_exact cores ss y chain =
    let checked = (answers_exactly review_box cores ss Layer.Placing (check_of review_box cores ss Layer.Placing) refl).1 y in
    let same : place_of harmonic cores ss ≡ place_stages harmonic cores 1 1 [] ss = ap (λ r. once_checked r (place_stages harmonic cores 1 1 [] ss)) checked in
    let test = placed_test cores ss y chain in (
      λ le. let found = plan_of (place_stages harmonic cores 1 1 [] ss) (test ∙ le-leb _ _ le) in (found.0, same ∙ found.1),
      λ found. leb-true _ _ (sym test ∙ ap is_ok (sym same ∙ found.1)),
    )
