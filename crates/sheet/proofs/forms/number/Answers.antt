use Rattle.std.proofs.Common.{◌+◌, ◌-◌, ◌*◌, ap, ◌∙◌, add-one, arith}
use Rattle.std.proofs.lemmas.List.Sums.{fold_more}
use Rattle.std.proofs.lemmas.List.{take_all}
use Rattle.std.proofs.lemmas.Bool.Decides.{nat_tests}
use Rattle.sheet.specs.Forms.{value}
use Rattle.sheet.proofs.Values.{cap_small}
use Rattle.sheet.proofs.forms.number.Goals as goal

pub overflow_mul-value : goal.overflow_mul-value
overflow_mul-value c = omega (arith, cap_small c.loop-digit.digit-index (omega arith))

pub overflow_add-value : goal.overflow_add-value
overflow_add-value c = omega (arith, cap_small c.loop-digit.digit-index (omega arith))

pub loop-digit-preserved : goal.loop-digit-preserved
loop-digit-preserved c =
    let e = fold_more (λ n d. n * 10 + (d - 48)) 0 c.args.digits.now c.loop-digit.digit-index 0 (omega arith) in
    (omega (arith, e), simp add-one (omega arith))

pub returns : goal.returns
returns c =
    let e = c.loop-digit.invariant.0 ∙ ap value (take_all c.loop-digit.digit-index c.args.digits.now (omega arith)) in
    grind (arith, nat_tests, e)
