-- From what was read and placed to the plan of a text.
use Rattle.std.proofs.Common.{◌≡◌, ℕ, List, take, Ok, Err, Result, sym, ap, ◌∙◌}
use Rattle.model.specs.declared.fault.Fault.{Fault}
use Rattle.model.specs.declared.stage.Stage.{Stage}
use Rattle.sheet.specs.Sheets.{read_of}
use Rattle.sheet.specs.Exact.{SheetOf}
use Rattle.sheet.proofs.Forth.{read_forth}
use Rattle.placing.specs.declared.placement.Placement.{Placement}
use Rattle.placing.specs.Placing.{place_of}
use Rattle.placing.specs.Plans.{Layout, laid_out, place_answer, place_layout}
use Rattle.session.specs.Sessions.{session_rule, plan_for}

-- the stages that were read are placed: the first n of the table
pub plan_read : (text : List ℕ) (table : List Stage) (m n : ℕ) → SheetOf text table m n → plan_for (read_of text) ≡ laid_out m (place_of session_rule m (take n table))
plan_read text table m n h =
    ap plan_for (read_forth text m h.stages h.lawful h.printed) ∙ ap (λ ss. laid_out m (place_of session_rule m ss)) (sym h.stored)

pub laid_refused : (m : ℕ) (x : Result (List Placement) Fault) (f : Fault) → Err f ≡ place_answer x → Err f ≡ laid_out m x
laid_refused m (Ok ps) f e = cc
laid_refused m (Err g) f e = cc

pub laid_placed : (m : ℕ) (x : Result (List Placement) Fault) (before after : Layout) → Ok tt ≡ place_answer x → after ≡ place_layout x m before → Ok after ≡ laid_out m x
laid_placed m (Ok ps) before after e h = ap Ok h
laid_placed m (Err f) before after e h = cc
