-- What a sheet that is read looks like.
use Rattle.std.proofs.Common.{◌≡◌, ℕ, zero, suc, ◌≤◌, Bool, true, false, cond, List, [], ◌∷◌, ◌++◌, length, Some, None, Ok, Err, Option, Result, sym, refl, ap, ◌∙◌, subst, ap₂, append_assoc, append-nil, arith}
use Rattle.std.specs.List.{flat_map}
use Rattle.std.proofs.lemmas.Bool.{leb-true, and_parts}
use Rattle.model.specs.declared.fault.Cause.{Cause}
use Rattle.model.specs.declared.fault.Fault.{Fault}
use Rattle.model.specs.declared.stage.Stage.{Stage}
use Rattle.model.specs.Limits.{review_box, cores_allowed}
use Rattle.model.specs.Tables.{breach_of}
use Rattle.model.specs.Lawful.{Lawful, LawfulTable}
use Rattle.model.proofs.Checks.{err_ok}
use Rattle.model.proofs.Tables.{Follows, follows_to, none_lawful}
use Rattle.sheet.specs.Faults.{reading}
use Rattle.sheet.specs.Forms.{cores_of, stage_of, formed}
use Rattle.sheet.specs.Sheets.{judged, ruled, line_of, stages_from, some_stage, finished, headed, read_of}
use Rattle.sheet.specs.Printed.{stage_text, cores_text, sheet_of}
use Rattle.sheet.proofs.Back.{cores_back, stage_back}

pub ok_is : {X Y : Type 0} {x y : X} → ◌≡◌ {A = Result X Y} (Ok x) (Ok y) → x ≡ y
ok_is e = cc

line_back : (line : ℕ) (before : List Stage) (bs : List ℕ) (p : Stage × List ℕ) → line_of line before bs ≡ Ok p → (stage_of bs ≡ Some p) × (breach_of review_box p.0 before ≡ None)
unfolding line_of
line_back line before bs p = go (stage_of bs) refl
  where
    inner : (q : Stage × List ℕ) (o : Option Cause) → breach_of review_box q.0 before ≡ o → judged line q o ≡ Ok p → (q ≡ p) × (breach_of review_box q.0 before ≡ None)
    inner q (Some c) e h = absurd (err_ok h)
    inner q None e h = (ok_is h, e)

    go : (o : Option (Stage × List ℕ)) → stage_of bs ≡ o → ruled line before (formed line o) ≡ Ok p → (stage_of bs ≡ Some p) × (breach_of review_box p.0 before ≡ None)
    go None e h = absurd (err_ok h)
    go (Some q) e h =
        let r = inner q (breach_of review_box q.0 before) refl h in
        (e ∙ ap Some r.0, subst (λ (u : Stage × List ℕ). breach_of review_box u.0 before ≡ None) r.0 r.1)

-- the lines behind one that is read
abbrev gone_on : ℕ → ℕ → List Stage → Result (Stage × List ℕ) Fault → Result (List Stage) Fault
gone_on room line before o = elim o [ Err f ↦ Err f | Ok p ↦ stages_from room (suc line) (before ++ (p.0 ∷ [])) p.1 ]

lines_back : (room line : ℕ) (before : List Stage) (b : ℕ) (bs : List ℕ) (out : List Stage) → stages_from (suc room) line before (b ∷ bs) ≡ Ok out → (p : Stage × List ℕ) × (line_of line before (b ∷ bs) ≡ Ok p) × (stages_from room (suc line) (before ++ (p.0 ∷ [])) p.1 ≡ Ok out)
unfolding stages_from
lines_back room line before b bs out = go (line_of line before (b ∷ bs)) refl
  where
    go : (o : Result (Stage × List ℕ) Fault) → line_of line before (b ∷ bs) ≡ o → gone_on room line before o ≡ Ok out → (p : Stage × List ℕ) × (line_of line before (b ∷ bs) ≡ Ok p) × (stages_from room (suc line) (before ++ (p.0 ∷ [])) p.1 ≡ Ok out)
    go (Err f) e h = absurd (err_ok h)
    go (Ok p) e h = (p, e, h)

-- the stages that were read behind those before
record Rest (room : ℕ) (before : List Stage) (bs : List ℕ) (out : List Stage) : Type 0 where
  stages : List Stage
  all : out ≡ before ++ stages
  text : bs ≡ flat_map stage_text stages
  follow : Follows review_box before stages
  most : length stages ≤ room

none_left : (room : ℕ) (before out : List Stage) → ◌≡◌ {A = Result (List Stage) Fault} (Ok before) (Ok out) → Rest room before [] out
none_left room before out h =
    record { stages = []; all = sym (ok_is h) ∙ sym (append-nil before); text = refl; follow = tt; most = omega arith }

stages_back : (room line : ℕ) (before : List Stage) (bs : List ℕ) (out : List Stage) → stages_from room line before bs ≡ Ok out → Rest room before bs out
unfolding stages_from
stages_back zero line before [] out h = none_left zero before out h
stages_back zero line before (b ∷ bs) out h = absurd (err_ok h)
stages_back (suc room) line before [] out h = none_left (suc room) before out h
stages_back (suc room) line before (b ∷ bs) out h =
    let q = lines_back room line before b bs out h in
    let p = q.0 in
    let l = line_back line before (b ∷ bs) p q.1 in
    let s = stage_back (b ∷ bs) p l.0 in
    let r = stages_back room (suc line) (before ++ (p.0 ∷ [])) p.1 out q.2 in
    let fewer = r.most in
    record {
      stages = p.0 ∷ r.stages;
      all = r.all ∙ append_assoc before (p.0 ∷ []) r.stages;
      text = s.0 ∙ ap (λ w. stage_text p.0 ++ w) r.text;
      follow = (l.1, s.1, r.follow);
      most = omega arith;
    }

pub read_back : (text : List ℕ) (m : ℕ) (ss : List Stage) → read_of text ≡ Ok (m, ss) → Lawful review_box m ss × (text ≡ sheet_of m ss)
unfolding read_of sheet_of
read_back text m ss = go (cores_of text) refl
  where
    last : (p : ℕ × List ℕ) (out : List Stage) → some_stage p.0 out ≡ Ok (m, ss) → (p.0 ≡ m) × (out ≡ ss) × (1 ≤ length out)
    last p [] h = absurd (err_ok h)
    last p (s ∷ rest) h =
        let e = ok_is h in (ap (λ (u : ℕ × List Stage). u.0) e, ap (λ (u : ℕ × List Stage). u.1) e, omega arith)

    lines : (p : ℕ × List ℕ) (o : Result (List Stage) Fault) → stages_from review_box.stages 2 [] p.1 ≡ o → finished p.0 o ≡ Ok (m, ss) → (p.0 ≡ m) × (stages_from review_box.stages 2 [] p.1 ≡ Ok ss) × (1 ≤ length ss)
    lines p (Err f) e h = absurd (err_ok h)
    lines p (Ok out) e h =
        let r = last p out h in (r.0, e ∙ ap Ok r.1, subst (λ (l : List Stage). 1 ≤ length l) r.1 r.2)

    whole : (p : ℕ × List ℕ) (b : Bool) → cores_allowed review_box p.0 ≡ b → cores_of text ≡ Some p → cond b (finished p.0 (stages_from review_box.stages 2 [] p.1)) (Err (reading Cause.OutsideLimits 1)) ≡ Ok (m, ss) → Lawful review_box m ss × (text ≡ sheet_of m ss)
    whole p false t e h = absurd (err_ok h)
    whole p true t e h =
        let r = lines p (stages_from review_box.stages 2 [] p.1) refl h in
        let q = and_parts _ _ t in
        let least = leb-true 1 p.0 q.0 in
        let limit = leb-true p.0 review_box.cores q.1 in
        let b = stages_back review_box.stages 2 [] p.1 ss r.1 in
        let few = b.most in (
          record {
            cores_least = omega (arith, r.0);
            cores_most = omega (arith, r.0);
            some = r.2;
            most = omega (arith, ap length b.all);
            table = subst (LawfulTable review_box) (sym b.all) (follows_to review_box b.stages [] (none_lawful review_box) b.follow);
          },
          cores_back text p e ∙ ap₂ (λ k w. cores_text k ++ w) r.0 (b.text ∙ ap (λ l. flat_map stage_text l) (sym b.all)),
        )

    go : (o : Option (ℕ × List ℕ)) → cores_of text ≡ o → headed (formed 1 o) ≡ Ok (m, ss) → Lawful review_box m ss × (text ≡ sheet_of m ss)
    go None e h = absurd (err_ok h)
    go (Some p) e h = whole p (cores_allowed review_box p.0) refl e h
