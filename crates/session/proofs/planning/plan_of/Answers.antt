use Rattle.std.proofs.Common.{◌≤◌, sym, refl, ◌∙◌, arith, rules}
use Rattle.std.proofs.lemmas.Result.{err_from_is_err_and}
use Rattle.session.proofs.Plans.{plan_read, laid_refused, laid_placed}
use Rattle.session.proofs.planning.plan_of.Goals as goal

-- a table holds the stages of any sheet
pub slice_bounds-place-end : goal.slice_bounds-place-end
slice_bounds-place-end c =
    let counts = c.in_ok-counts.counts in
    let sheet = (c.in_ok-counts.ensures.exactly (omega arith) counts.cores counts.stages).0 refl in
    let few : counts.stages ≤ 64 = omega (arith, sheet.lawful.most, sheet.count) in
    search rules

pub returns-in_err-place : goal.returns-in_err-place
returns-in_err-place c =
    let counts = c.in_ok-counts.counts in
    let sheet = (c.in_ok-counts.ensures.exactly (omega arith) counts.cores counts.stages).0 refl in
    let plan = plan_read c.args.text.now c.read.new.table counts.cores counts.stages sheet in
    let why = laid_refused counts.cores _ c.in_err-place.field-0.0 c.in_err-place.ensures.answer in
    let p = err_from_is_err_and c.from_residual-in_err-place.result c.from_residual-in_err-place.ensures.1 in
    rw (p.1, p.2) (why ∙ sym plan)

pub returns : goal.returns
returns c =
    let counts = c.in_ok-counts.counts in
    let sheet = (c.in_ok-counts.ensures.exactly (omega arith) counts.cores counts.stages).0 refl in
    let plan = plan_read c.args.text.now c.read.new.table counts.cores counts.stages sheet in
    laid_placed counts.cores _ _ _ c.in_ok-place.ensures.answer c.in_ok-place.ensures.plan ∙ sym plan
