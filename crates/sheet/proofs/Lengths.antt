-- How long a sheet can be.
use Rattle.std.proofs.Common.{◌≡◌, ℕ, zero, suc, ◌+◌, ◌-◌, ◌*◌, ◌/◌, ◌%◌, ◌<◌, ◌≤◌, Bool, true, ◌&&◌, eqb, List, [], ◌∷◌, ◌++◌, length, replicate, Ok, codes, decimal, refl, ap, ◌∙◌, ap₂, arith, length-append}
use Rattle.std.specs.List.{flat_map}
use Rattle.std.proofs.lemmas.Fmt.{decimal_digit, decimal-digits_value, length-decimal-le}
use Rattle.std.proofs.lemmas.Bool.{and_parts, eqb-true}
use Rattle.model.specs.declared.fault.Layer.{Layer}
use Rattle.model.specs.declared.stage.Stage.{Stage}
use Rattle.model.specs.Limits.{review_box, name_bytes}
use Rattle.model.specs.Names.{letters_of}
use Rattle.model.specs.Tables.{breach_of, follows, first_bad, check_of}
use Rattle.model.specs.Lawful.{stage, LawfulStage, Lawful}
use Rattle.model.proofs.Checks.{answers_exactly}
use Rattle.sheet.specs.Printed.{cores_text, stage_text, sheet_of}
use Rattle.sheet.specs.Exact.{SheetOfSize}
use Rattle.sheet.proofs.Back.{own, letters_is}

stage_short : (s : Stage) → LawfulStage review_box s → length (stage_text s) ≤ 49
unfolding stage_text
stage_short s h =
    let period = h.period_most in
    let cost = h.cost_most in
    let letters = ap length (letters_is s.name h.named) in
    let most = h.named.most in
    let first = length-decimal-le 5 s.cost (omega arith) (omega arith) (omega arith) in
    let second = length-decimal-le 5 s.period (omega arith) (omega arith) (omega arith) in
    simp length-append (omega arith)

stages_short : (ss : List Stage) → ((i : ℕ) → i < length ss → LawfulStage review_box (stage ss i)) → length (flat_map stage_text ss) ≤ 49 * length ss
stages_short [] h = omega arith
stages_short (s ∷ ss) h =
    let one = stage_short s (h 0 (omega arith)) in
    let rest = stages_short ss (λ i l. h (suc i) (omega arith)) in
    simp length-append (omega arith)

pub sheet_short : (m : ℕ) (ss : List Stage) → Lawful review_box m ss → length (sheet_of m ss) ≤ 3146
unfolding sheet_of cores_text
sheet_short m ss h =
    let cores = h.cores_most in
    let count = h.most in
    let one = length-decimal-le 1 m (omega arith) (omega arith) (omega arith) in
    let lines = stages_short ss h.table.each in
    simp length-append (omega arith)

-- stages with a long name each, all with the longest cost and period
long_stage : ℕ → Stage
long_stage i =
    record { name = replicate (name_bytes - 2) 97 ++ ((97 + i / 26) ∷ (97 + i % 26) ∷ []); cost = review_box.longest; period = review_box.longest }

long_table : ℕ → List Stage
long_table zero = []
long_table (suc n) = long_stage n ∷ long_table n

-- twelve letters and five digits twice
full : List Stage → Bool
full [] = true
full (s ∷ ss) = eqb (length (letters_of s.name)) 12 && eqb s.cost 60000 && eqb s.period 60000 && full ss

five : length (decimal 60000) ≡ 5
five = ap length (decimal-digits_value own (codes "60000") (refl, (refl, (refl, (refl, (refl, tt))))) (omega arith) (λ e. absurd (omega (arith, e))) (omega arith))

full_long : (ss : List Stage) → full ss ≡ true → length (flat_map stage_text ss) ≡ 49 * length ss
unfolding stage_text full
full_long [] h = refl
full_long (s ∷ ss) h =
    let p = and_parts _ _ h in
    let q = and_parts _ _ p.0 in
    let r = and_parts _ _ q.0 in
    let name = eqb-true (length (letters_of s.name)) 12 r.0 in
    let cost = ap (λ n. length (decimal n)) (eqb-true s.cost 60000 r.1) ∙ five in
    let period = ap (λ n. length (decimal n)) (eqb-true s.period 60000 q.1) ∙ five in
    let rest = full_long ss p.1 in
    simp length-append (omega arith)

pub longest_reached : SheetOfSize 3146
unfolding sheet_of cores_text check_of first_bad follows breach_of long_stage long_table full
longest_reached =
    let m = review_box.cores in
    let ss = long_table review_box.stages in
    record {
      cores = m;
      stages = ss;
      lawful = (answers_exactly review_box m ss Layer.Writing (Ok tt) refl).0 refl;
      long = length-append (cores_text m) (flat_map stage_text ss) ∙ ap₂ ◌+◌ (ap (λ d. length (codes "(cores " ++ d ++ codes ")\n")) (decimal_digit m (omega arith))) (full_long ss refl);
    }
