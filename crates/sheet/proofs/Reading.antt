-- A call that answers what reading answers accepts exactly the sheets of lawful core counts and tables.
use Rattle.std.proofs.Common.{◌≡◌, ℕ, ◌≤◌, List, length, drop, Ok, Err, Result, sym, refl, ap, ◌∙◌, subst}
use Rattle.std.proofs.lemmas.List.{take_at}
use Rattle.std.proofs.lemmas.Bool.{cond-true, le-leb}
use Rattle.model.specs.declared.fault.Fault.{Fault}
use Rattle.model.specs.declared.stage.Stage.{Stage}
use Rattle.model.specs.Limits.{review_box}
use Rattle.model.proofs.Checks.{err_ok}
use Rattle.sheet.specs.declared.read.Counts.{Counts}
use Rattle.sheet.specs.Sheets.{read_of, counted, stored, answer_of, table_of}
use Rattle.sheet.specs.Exact.{SheetOf, ReadsExactly}
use Rattle.sheet.proofs.Behind.{ok_is, read_back}
use Rattle.sheet.proofs.Forth.{read_forth}

found : (text : List ℕ) (table : List Stage) (m n : ℕ) (o : Result (ℕ × List Stage) Fault) → read_of text ≡ o → counted o ≡ Ok (record { cores = m; stages = n }) → SheetOf text (stored o table) m n
found text table m n (Err f) e h = absurd (err_ok h)
found text table m n (Ok p) e h =
    let is = ok_is h in
    let cores : p.0 ≡ m = ap (λ (k : Counts). k.cores) is in
    let count : length p.1 ≡ n = ap (λ (k : Counts). k.stages) is in
    let back = read_back text m p.1 (e ∙ ap (λ k. Ok (k, p.1)) cores) in
    record { stages = p.1; lawful = back.0; count = count; printed = back.1; stored = take_at p.1 (drop (length p.1) table) n count }

pub reads_exactly : (text : List ℕ) (before after : List Stage) (r : Result Counts Fault) → r ≡ answer_of (length before) text → after ≡ table_of before text → review_box.stages ≤ length before → ReadsExactly text r after
reads_exactly text before after r answer table long m n =
    let test = le-leb review_box.stages (length before) long in
    let answer' : r ≡ counted (read_of text) = answer ∙ cond-true _ _ _ test in
    let table' : after ≡ stored (read_of text) before = table ∙ cond-true _ _ _ test in (
      λ h. subst (λ t. SheetOf text t m n) (sym table') (found text before m n (read_of text) refl (sym answer' ∙ h)),
      λ s. answer' ∙ ap counted (read_forth text m s.stages s.lawful s.printed) ∙ ap (λ k. Ok (record { cores = m; stages = k })) s.count,
    )
