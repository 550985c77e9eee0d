-- How long the texts can be.
use Rattle.std.proofs.Common.{◌≡◌, ℕ, zero, suc, ◌+◌, ◌*◌, ◌^◌, ◌<◌, ◌≤◌, min, true, cond, eqb, leb, List, [], ◌∷◌, length, get_or, take, codes, decimal, refl, mul-le-mul_left, mul-suc, arith, length-append, length-take}
use Rattle.std.specs.List.{flat_map}
use Rattle.std.proofs.lemmas.Fmt.{length-decimal-le}
use Rattle.std.proofs.lemmas.List.{get_or-take}
use Rattle.std.proofs.lemmas.List.Sums.{prefix_len-le-length}
use Rattle.std.proofs.lemmas.Bool.{and_parts, eqb-true}
use Rattle.std.proofs.lemmas.Bool.Decides.{nat_tests}
use Rattle.model.specs.declared.fault.Cause.{Cause}
use Rattle.model.specs.declared.fault.Fault.{Fault}
use Rattle.model.specs.Faults.{cause_number}
use Rattle.model.specs.Names.{letter, letters, letters_of, lawful_name}
use Rattle.placing.specs.declared.placement.Placement.{Placement}
use Rattle.placing.specs.Placements.{no_placement}
use Rattle.placing.specs.Plans.{Layout}
use Rattle.placing.specs.Sound.{SoundPlacement, Sound}
use Rattle.pages.specs.Refusals.{refusal_text}
use Rattle.pages.specs.Ticks.{number_text, line_text, tick_text}
use Rattle.pages.specs.Plans.{whole_text, share_text, member_text, core_text, core_lines, plan_text}

cause_small : (c : Cause) → cause_number c < 100
cause_small Cause.ShortTable = omega arith
cause_small Cause.NoForm = omega arith
cause_small Cause.OutsideLimits = omega arith
cause_small Cause.PeriodFalls = omega arith
cause_small Cause.NameUsed = omega arith
cause_small Cause.TooManyLines = omega arith
cause_small Cause.NoStageLine = omega arith
cause_small Cause.CountOutside = omega arith
cause_small Cause.BadRecord = omega arith
cause_small Cause.NoRoom = omega arith
cause_small Cause.NotAlone = omega arith
cause_small Cause.NoSuchStage = omega arith
cause_small Cause.NotOpen = omega arith
cause_small Cause.ShortPage = omega arith

pub refusal_short : (f : Fault) → f.place < 2 ^ 64 → length (refusal_text f) ≤ 4096
unfolding refusal_text
refusal_short f fits =
    let small = cause_small f.cause in
    let number = length-decimal-le 2 (cause_number f.cause) (omega arith) (omega arith) (omega arith) in
    let place = length-decimal-le 20 f.place (omega arith) (omega arith) fits in
    simp length-append (omega arith)

-- a name's letters
word_short : (n : List ℕ) → lawful_name n ≡ true → length (letters_of n) ≤ 12
word_short n h =
    let p = and_parts _ _ h in
    let q = and_parts _ _ p.0 in
    let twelve = eqb-true (length n) 12 q.0 in
    omega (arith, length-take (letters n) n, prefix_len-le-length letter n)

module _ (cores : ℕ) (p : Placement) (y : SoundPlacement cores p) where
  share_short : (head : List ℕ) (share : ℕ) → share ≤ 60000 → length (share_text head p share) ≤ length head + 19
  unfolding share_text
  share_short head share h =
      let name = word_short p.name y.named in
      let number = length-decimal-le 5 share (omega arith) (omega arith) (omega arith) in
      simp length-append (omega arith)

  whole_short : length (whole_text p) ≤ 27
  unfolding whole_text
  whole_short = let name = word_short p.name y.named in simp length-append (omega arith)

  -- at most so long on its two cores, and nothing on any other
  abbrev most_on : ℕ → ℕ
  most_on j = cond (eqb j p.core) 27 (cond (eqb j (suc p.core)) 28 0)

  member_short : (j : ℕ) → length (member_text j p) ≤ most_on j
  unfolding member_text
  member_short j =
      let cost = y.cost_most in
      let period = y.period_most in
      let parts = y.parts in
      let one = share_short (codes " (first ") p.first (omega arith) in
      let two = share_short (codes " (second ") p.second (omega arith) in
      let all = whole_short in
      grind (arith, nat_tests)

  -- in the lines of the cores from 1 to n
  abbrev spread : ℕ → ℕ
  spread zero = 0
  spread (suc n) = spread n + length (member_text (suc n) p)

  abbrev bound : ℕ → ℕ
  bound n = cond (leb p.core n) 27 0 + cond (leb (suc p.core) n) 28 0

  spread_bound : (n : ℕ) → spread n ≤ bound n
  spread_bound zero = omega arith
  spread_bound (suc n) =
      let ih = spread_bound n in
      let here = member_short (suc n) in
      grind (arith, nat_tests)

  pub spread_short : (n : ℕ) → spread n ≤ 55
  spread_short n = let h = spread_bound n in grind (arith, nat_tests)

-- what a core's line says of its stages
abbrev width : ℕ → List Placement → ℕ
width j ps = length (flat_map (member_text j) ps)

abbrev widths : ℕ → List Placement → ℕ
widths zero ps = 0
widths (suc n) ps = widths n ps + width (suc n) ps

-- the same sum, stage by stage
widths_cons : (cores n : ℕ) (p : Placement) (y : SoundPlacement cores p) (ps : List Placement) → widths n (p ∷ ps) ≡ spread cores p y n + widths n ps
widths_cons cores zero p y ps = refl
widths_cons cores (suc n) p y ps =
    let ih = widths_cons cores n p y ps in
    omega (arith, length-append (member_text (suc n) p) (flat_map (member_text (suc n)) ps))

abbrev Each : ℕ → List Placement → Type 0
Each cores ps = (i : ℕ) → i < length ps → SoundPlacement cores (get_or ps i no_placement)

widths_short : (cores n : ℕ) (ps : List Placement) → Each cores ps → widths n ps ≤ 55 * length ps
widths_short cores zero [] h = omega arith
widths_short cores (suc n) [] h = omega (arith, widths_short cores n [] h)
widths_short cores n (p ∷ ps) h =
    let one = spread_short cores p (h 0 (omega arith)) n in
    let rest = widths_short cores n ps (λ i lt. h (suc i) (omega arith)) in
    omega (arith, widths_cons cores n p (h 0 (omega arith)) ps)

lines_short : (n : ℕ) (ps : List Placement) → n ≤ 8 → length (core_lines n ps) ≤ 9 * n + widths n ps
unfolding core_text
lines_short zero ps h = omega arith
lines_short (suc n) ps h =
    let ih = lines_short n ps (omega arith) in
    let number = length-decimal-le 1 (suc n) (omega arith) (omega arith) (omega arith) in
    simp length-append (omega arith)

pub plan_short : (l : Layout) → l.cores ≤ 8 → length l.placements ≤ 64 → Sound l.cores l.placements → length (plan_text l) ≤ 3601
unfolding plan_text
plan_short l narrow few y =
    let lines = lines_short l.cores l.placements narrow in
    let all = widths_short l.cores l.cores l.placements y.each in
    let number = length-decimal-le 1 l.cores (omega arith) (omega arith) (omega arith) in
    simp length-append (omega arith)

-- numbers of at most d digits each
pub numbers_short : (d : ℕ) (ns : List ℕ) → ((i : ℕ) → i < length ns → length (decimal (get_or ns i 0)) ≤ d) → length (flat_map number_text ns) ≤ suc d * length ns
numbers_short d [] h = omega arith
numbers_short d (n ∷ ns) h =
    let one = h 0 (omega arith) in
    let rest = numbers_short d ns (λ i lt. h (suc i) (omega arith)) in
    let more = mul-suc (suc d) (length ns) in
    simp length-append (omega arith)

-- a line, by its parts
pub line_parts : (a b tick : ℕ) (numbers : List ℕ) → length (decimal tick) ≤ a → length (flat_map number_text numbers) ≤ b → length (line_text tick numbers) ≤ a + b + 8
unfolding line_text
line_parts a b tick numbers number all = simp length-append (omega arith)

-- a line whose numbers have at most d digits each
pub line_short : (d tick : ℕ) (numbers : List ℕ) → length (decimal tick) ≤ d → length numbers ≤ 8 → ((i : ℕ) → i < length numbers → length (decimal (get_or numbers i 0)) ≤ d) → length (line_text tick numbers) ≤ 16 + 9 * d
line_short d tick numbers number few small =
    let all = numbers_short d numbers small in
    let most = mul-le-mul_left (suc d) few in
    omega (arith, line_parts d (suc d * 8) tick numbers number (omega arith))

pub tick_short : (d tick cores : ℕ) (answer : List ℕ) → length (decimal tick) ≤ d → min cores (length answer) ≤ 8 → ((i : ℕ) → i < length answer → length (decimal (get_or answer i 0)) ≤ d) → length (tick_text tick cores answer) ≤ 16 + 9 * d
tick_short d tick cores answer number few small =
    let shown = length-take cores answer in
    let each : (i : ℕ) → i < length (take cores answer) → length (decimal (get_or (take cores answer) i 0)) ≤ d =
    λ i lt. let l : i < cores = omega arith in rw get_or-take (small i (omega arith)) in
    line_short d tick (take cores answer) number (omega arith) each
