-- What placing has placed is sound.
use Rattle.std.proofs.Common.{◌≡◌, ℕ, zero, suc, ◌+◌, ◌-◌, ◌<◌, ◌≤◌, Bool, true, false, cond, ◌&&◌, eqb, ltb, ◌⊎◌, List, [], ◌∷◌, ◌++◌, length, get_or, Ok, Err, Result, sym, refl, ap, ◌∙◌, subst, inl, inr, ⊎_elim, arith, length-append}
use Rattle.std.proofs.lemmas.List.{append-nil, append_assoc, get_or_append_left, get_or_push}
use Rattle.std.proofs.lemmas.Bool.{cond_both, cond-true, cond-false, cases_eq, cases_lt, and_left, and_right, and_from, eq-eqb, ne_eqb, eqb-true, eqb-false, lt-ltb, le-ltb}
use Rattle.rules.specs.declared.load.Member.{Member}
use Rattle.rules.specs.Loads.{lawful, single, joined}
use Rattle.rules.specs.Rules.{share_of}
use Rattle.rules.specs.Timing.{Timely}
use Rattle.model.specs.declared.fault.Cause.{Cause}
use Rattle.model.specs.declared.fault.Fault.{Fault}
use Rattle.placing.specs.declared.placement.Placement.{Placement}
use Rattle.model.specs.declared.stage.Stage.{Stage}
use Rattle.model.specs.Limits.{review_box}
use Rattle.model.specs.Lawful.{LawfulStage, stage}
use Rattle.model.proofs.Checks.{name_to}
use Rattle.placing.specs.Placements.{no_placement, member_on, load_on}
use Rattle.placing.specs.Sound.{SoundPlacement, Sound}
use Rattle.placing.specs.Placing.{Placed, place_stage, whole, second_part, split, behind, and_then, place_stages}
use Rattle.placing.proofs.Steps.{share_is}

pub load_on_push : (j : ℕ) (ps : List Placement) (p : Placement) → load_on (ps ++ (p ∷ [])) j ≡ load_on ps j ++ member_on p j
load_on_push j [] p = append-nil (member_on p j)
load_on_push j (q ∷ ps) p = rw (load_on_push j ps p, append_assoc)

-- what a stage puts on each core
on_first : (p : Placement) (j : ℕ) → j ≡ p.core → member_on p j ≡ single p.first p.period 0
on_first p j e =
    cond-true (eqb j p.core) (single p.first p.period 0)
    (cond (eqb j (suc p.core) && ltb 0 p.second) (single p.second p.period p.first) [])
    (eq-eqb j p.core e)

not_first : (p : Placement) (j : ℕ) → (j ≡ p.core → ⊥) → member_on p j ≡ cond (eqb j (suc p.core) && ltb 0 p.second) (single p.second p.period p.first) []
not_first p j e =
    cond-false (eqb j p.core) (single p.first p.period 0)
    (cond (eqb j (suc p.core) && ltb 0 p.second) (single p.second p.period p.first) [])
    (ne_eqb j p.core e)

on_second : (p : Placement) (j : ℕ) → j ≡ suc p.core → 0 < p.second → member_on p j ≡ single p.second p.period p.first
on_second p j e h =
    let a = eqb j (suc p.core) in
    let b = ltb 0 p.second in
    not_first p j (omega arith) ∙ cond-true (a && b) (single p.second p.period p.first) [] (and_from a b (eq-eqb j (suc p.core) e) (lt-ltb 0 p.second h))

on_none : (p : Placement) (j : ℕ) → (j ≡ p.core → ⊥) → (j ≡ suc p.core → ⊥) ⊎ (p.second ≡ 0) → member_on p j ≡ []
on_none p j e h =
    let a = eqb j (suc p.core) in
    let b = ltb 0 p.second in
    let no' : (a && b) ≡ false = ⊎_elim (λ n. and_left a b (ne_eqb j (suc p.core) n)) (λ z. and_right a b (le-ltb 0 p.second (omega arith))) h in
    not_first p j e ∙ cond-false (a && b) (single p.second p.period p.first) [] no'

abbrev Each : ℕ → List Placement → Type 0
Each cores ps = (i : ℕ) → i < length ps → SoundPlacement cores (get_or ps i no_placement)

each_push : (cores : ℕ) (ps : List Placement) (p : Placement) → Each cores ps → SoundPlacement cores p → Each cores (ps ++ (p ∷ []))
each_push cores ps p all here i lt =
    ⊎_elim
    (λ l. subst (SoundPlacement cores) (sym (get_or_append_left ps (p ∷ []) no_placement i l)) (all i l))
    (λ g. subst (SoundPlacement cores) (sym (get_or_push ps p no_placement i (omega (arith, length-append ps (p ∷ []))))) here)
    (cases_lt i (length ps))

-- every stage of the table is lawful
abbrev pub Lawfuls : List Stage → Type 0
Lawfuls ss = (i : ℕ) → i < length ss → LawfulStage review_box (stage ss i)

module _ (passes : List Member → Bool) (cores : ℕ) where
  abbrev pub fine : List Member → Bool
  fine [] = true
  fine (m ∷ l) = passes (m ∷ l)

  pub fine_push : (l : List Member) (m : Member) → passes (l ++ (m ∷ [])) ≡ true → fine (l ++ (m ∷ [])) ≡ true
  fine_push [] m h = h
  fine_push (n ∷ l) m h = h

  -- the placements so far, the core that placing stands at and its load
  pub record Going (ps : List Placement) (core : ℕ) (load : List Member) : Type 0 where
    pub each : (i : ℕ) → i < length ps → SoundPlacement cores (get_or ps i no_placement)
    pub from_one : 1 ≤ core
    pub within : core ≤ cores
    pub here : load_on ps core ≡ load
    pub above : (j : ℕ) → core < j → load_on ps j ≡ []
    pub all_fine : (j : ℕ) → fine (load_on ps j) ≡ true

  -- a core is left
  pub going_on : (ps : List Placement) (core : ℕ) (load : List Member) → Going ps core load → core + 1 ≤ cores → Going ps (core + 1) []
  going_on ps core load r le = record { each = r.each; from_one = omega arith; within = le; here = r.above (core + 1) (omega arith); above = λ j h. r.above j (omega arith); all_fine = r.all_fine }

  -- what a placement puts on a core joins its load
  joins : (j : ℕ) (ps : List Placement) (p : Placement) (more : List Member) → member_on p j ≡ more → load_on (ps ++ (p ∷ [])) j ≡ load_on ps j ++ more
  joins j ps p more e = load_on_push j ps p ∙ ap (λ (x : List Member). load_on ps j ++ x) e

  stays : (j : ℕ) (ps : List Placement) (p : Placement) → member_on p j ≡ [] → load_on (ps ++ (p ∷ [])) j ≡ load_on ps j
  stays j ps p e = joins j ps p [] e ∙ append-nil (load_on ps j)

  pub going_whole : (ps : List Placement) (core : ℕ) (load : List Member) (s : Stage) → LawfulStage review_box s → Going ps core load → passes (joined load s.cost s.period) ≡ true → Going (ps ++ ((whole core load s).placement ∷ [])) core (whole core load s).load
  going_whole ps core load s lim r h =
      let p : Placement = (whole core load s).placement in
      let m : Member = record { cost = s.cost; period = s.period; hold = 0 } in
      let other : (j : ℕ) → (core ≡ j → ⊥) → load_on (ps ++ (p ∷ [])) j ≡ load_on ps j = λ j n. stays j ps p (on_none p j (λ e. n (sym e)) (inr refl)) in
      let here : load_on (ps ++ (p ∷ [])) core ≡ load ++ (m ∷ []) = joins core ps p (m ∷ []) (on_first p core refl) ∙ ap (λ (x : List Member). x ++ (m ∷ [])) r.here in
      record {
        each = each_push cores ps p r.each (record { named = name_to s.name lim.named; period_least = lim.period_least; period_most = lim.period_most; some = lim.cost_least; parts = omega arith; cost_most = lim.cost_most; from_one = r.from_one; on_a_core = r.within; next_too = λ k. absurd (omega arith) });
        from_one = r.from_one;
        within = r.within;
        here = here;
        above = λ j k. other j (λ e. omega arith) ∙ r.above j k;
        all_fine = λ j. ⊎_elim (λ e. subst (λ (i : ℕ). fine (load_on (ps ++ (p ∷ [])) i) ≡ true) e (ap fine here ∙ fine_push load m h)) (λ n. ap fine (other j n) ∙ r.all_fine j) (cases_eq core j);
      }

  pub going_split : (ps : List Placement) (core : ℕ) (load : List Member) (s : Stage) (g : ℕ) → LawfulStage review_box s → Going ps core load → core + 1 ≤ cores → 0 < g → g < s.cost → passes (joined load g s.period) ≡ true → passes (split core g s).load ≡ true → Going (ps ++ ((split core g s).placement ∷ [])) (core + 1) (split core g s).load
  going_split ps core load s g lim r up pos l h k =
      let p : Placement = (split core g s).placement in
      let m : Member = record { cost = g; period = s.period; hold = 0 } in
      let m₂ : Member = record { cost = s.cost - g; period = s.period; hold = g } in
      let other : (j : ℕ) → (core ≡ j → ⊥) → (core + 1 ≡ j → ⊥) → load_on (ps ++ (p ∷ [])) j ≡ load_on ps j = λ j n n₂. stays j ps p (on_none p j (λ e. n (sym e)) (inl (λ e. n₂ (omega arith)))) in
      let first : load_on (ps ++ (p ∷ [])) core ≡ load ++ (m ∷ []) = joins core ps p (m ∷ []) (on_first p core refl) ∙ ap (λ (x : List Member). x ++ (m ∷ [])) r.here in
      let second : load_on (ps ++ (p ∷ [])) (core + 1) ≡ m₂ ∷ [] = joins (core + 1) ps p (m₂ ∷ []) (on_second p (core + 1) (omega arith) (omega arith)) ∙ ap (λ (x : List Member). x ++ (m₂ ∷ [])) (r.above (core + 1) (omega arith)) in
      record {
        each = each_push cores ps p r.each (record { named = name_to s.name lim.named; period_least = lim.period_least; period_most = lim.period_most; some = pos; parts = omega arith; cost_most = lim.cost_most; from_one = r.from_one; on_a_core = r.within; next_too = λ w. omega arith });
        from_one = omega arith;
        within = up;
        here = second;
        above = λ j a. other j (λ e. omega arith) (λ e. omega arith) ∙ r.above j (omega arith);
        all_fine = λ j.
            ⊎_elim (λ e. subst (λ (i : ℕ). fine (load_on (ps ++ (p ∷ [])) i) ≡ true) e (ap fine first ∙ fine_push load m h))
            (λ n. ⊎_elim (λ e. subst (λ (i : ℕ). fine (load_on (ps ++ (p ∷ [])) i) ≡ true) e (ap fine second ∙ k)) (λ n₂. ap fine (other j n n₂) ∙ r.all_fine j) (cases_eq (core + 1) j))
            (cases_eq core j);
      }

  abbrev Lands : List Placement → Placed → Type 0
  Lands ps l = Going (ps ++ (l.placement ∷ [])) l.core l.load

  abbrev From : List Placement → Result Placed Cause → Type 0
  From ps x = (l : Placed) → x ≡ Ok l → Lands ps l

  from_ok : (ps : List Placement) (l : Placed) → Lands ps l → From ps (Ok l)
  from_ok ps l h k q = let i : l ≡ k = cc in subst (Lands ps) i h

  from_err : (ps : List Placement) (e : Cause) → From ps (Err e)
  from_err ps e l q = let z : ◌≡◌ {A = ℕ} 0 1 = cc in absurd (omega arith)

  -- a whole stage that its share says is passed
  whole_lands : (ps : List Placement) (core : ℕ) (load : List Member) (s : Stage) → LawfulStage review_box s → Going ps core load → eqb (share_of passes load s.cost s.period) s.cost ≡ true → From ps (Ok (whole core load s))
  whole_lands ps core load s lim r e =
      let i : share_of passes load s.cost s.period ≡ s.cost = eqb-true _ _ e in
      from_ok ps (whole core load s) (going_whole ps core load s lim r (subst (λ n. passes (joined load n s.period) ≡ true) i ((share_is passes load s.cost s.period).passed (omega (arith, lim.cost_least)))))

  pub going_place_stage : (n core : ℕ) (load : List Member) (s : Stage) (ps : List Placement) → LawfulStage review_box s → core + n ≤ cores → Going ps core load → From ps (place_stage passes n core load s)
  going_place_stage zero core load s ps lim le r = cond_both (eqb (share_of passes load s.cost s.period) s.cost) _ _ (From ps) (whole_lands ps core load s lim r) (λ _. from_err ps _)
  going_place_stage (suc n) core load s ps lim le r =
      let g : ℕ = share_of passes load s.cost s.period in
      cond_both (eqb g s.cost) _ _ (From ps) (whole_lands ps core load s lim r) (λ e.
      cond_both (eqb g 0) _ _ (From ps) (λ _. going_place_stage n (core + 1) [] s ps lim (omega arith) (going_on ps core load r (omega arith))) (λ z.
      cond_both (passes (second_part g s)) _ _ (From ps)
      (λ k.
      let top = share_is passes load s.cost s.period in
      let w = top.within in
      let ne = eqb-false g s.cost e in
      let nz = eqb-false g 0 z in
      let lt : g < s.cost = grind (arith, w, ne) in
      let pos : 0 < g = grind (arith, nz) in
      from_ok ps (split core g s) (going_split ps core load s g lim r (omega arith) pos lt (top.passed pos) k))
      (λ _. from_err ps _)))

  -- what the placements come to
  pub record Laid (ps : List Placement) : Type 0 where
    pub each : (i : ℕ) → i < length ps → SoundPlacement cores (get_or ps i no_placement)
    pub all_fine : (j : ℕ) → fine (load_on ps j) ≡ true

  abbrev Ends : List Placement → Result (List Placement) Fault → Type 0
  Ends ps x = (qs : List Placement) → x ≡ Ok qs → Laid (ps ++ qs)

  ends_behind : (ps : List Placement) (p : Placement) (x : Result (List Placement) Fault) → Ends (ps ++ (p ∷ [])) x → Ends ps (behind (p ∷ []) x)
  ends_behind ps p (Ok rs) h qs q = let i : p ∷ rs ≡ qs = cc in subst (λ (z : List Placement). Laid (ps ++ z)) i (subst Laid (append_assoc ps (p ∷ []) rs) (h rs refl))
  ends_behind ps p (Err f) h qs q = let z : ◌≡◌ {A = ℕ} 0 1 = cc in absurd (omega arith)

  ends_and_then : (ps : List Placement) (x : Result Placed Cause) (k : ℕ) (rest : Placed → Result (List Placement) Fault) → ((l : Placed) → x ≡ Ok l → Ends (ps ++ (l.placement ∷ [])) (rest l)) → Ends ps (and_then x k rest)
  ends_and_then ps (Ok l) k rest h = ends_behind ps l.placement (rest l) (h l refl)
  ends_and_then ps (Err e) k rest h = λ qs q. let z : ◌≡◌ {A = ℕ} 0 1 = cc in absurd (omega arith)

  pub stages_laid : (ss : List Stage) (k core : ℕ) (load : List Member) (ps : List Placement) → Lawfuls ss → Going ps core load → Ends ps (place_stages passes cores k core load ss)
  stages_laid [] k core load ps all r = λ qs q. let i : [] ≡ qs = cc in subst (λ (x : List Placement). Laid (ps ++ x)) i (subst Laid (sym (append-nil ps)) (record { each = r.each; all_fine = r.all_fine }))
  stages_laid (s ∷ ss) k core load ps all r =
      ends_and_then ps (place_stage passes (cores - core) core load s) k _ (λ l e. stages_laid ss (k + 1) l.core l.load (ps ++ (l.placement ∷ [])) (λ i lt. all (suc i) (omega arith)) (going_place_stage (cores - core) core load s ps (all 0 (omega arith)) (omega (arith, r.within)) r l e))

  -- each stage has one placement
  abbrev Many : ℕ → Result (List Placement) Fault → Type 0
  Many n (Ok qs) = length qs ≡ n
  Many n (Err f) = Unit {0}

  many_behind : (n : ℕ) (p : Placement) (x : Result (List Placement) Fault) → Many n x → Many (suc n) (behind (p ∷ []) x)
  many_behind n p (Ok qs) h = ap suc h
  many_behind n p (Err f) h = tt

  many_and_then : (n : ℕ) (x : Result Placed Cause) (k : ℕ) (rest : Placed → Result (List Placement) Fault) → ((l : Placed) → Many n (rest l)) → Many (suc n) (and_then x k rest)
  many_and_then n (Ok l) k rest h = many_behind n l.placement (rest l) (h l)
  many_and_then n (Err e) k rest h = tt

  many_stages : (ss : List Stage) (k core : ℕ) (load : List Member) → Many (length ss) (place_stages passes cores k core load ss)
  many_stages [] k core load = refl
  many_stages (s ∷ ss) k core load = many_and_then (length ss) (place_stage passes (cores - core) core load s) k _ (λ l. many_stages ss (k + 1) l.core l.load)

  pub stages_many : (ss : List Stage) (qs : List Placement) → Ok qs ≡ place_stages passes cores 1 1 [] ss → length qs ≡ length ss
  stages_many ss qs e = subst (Many (length ss)) (sym e) (many_stages ss 1 1 [])

  fine_passes : (l : List Member) → 0 < length l → fine l ≡ true → passes l ≡ true
  fine_passes [] lt h = absurd (omega arith)
  fine_passes (m ∷ l) lt h = h

  pub stages_sound : ((l : List Member) → passes l ≡ true → lawful l ≡ true) → ((l : List Member) → passes l ≡ true → Timely l) → 1 ≤ cores → (ss : List Stage) (qs : List Placement) → Lawfuls ss → Ok qs ≡ place_stages passes cores 1 1 [] ss → Sound cores qs
  stages_sound lawful-only timely one ss qs all e =
      let y : Laid qs = stages_laid ss 1 1 [] [] all (record { each = λ i lt. absurd (omega arith); from_one = omega arith; within = one; here = refl; above = λ j h. refl; all_fine = λ j. refl }) qs (sym e) in
      record {
        each = y.each;
        legal = λ j lt. lawful-only (load_on qs j) (fine_passes (load_on qs j) lt (y.all_fine j));
        timely = λ j lt. timely (load_on qs j) (fine_passes (load_on qs j) lt (y.all_fine j));
      }
