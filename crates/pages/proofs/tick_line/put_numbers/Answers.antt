use Rattle.std.proofs.Common.{◌≡◌, ℕ, ◌<◌, ◌≤◌, ◌++◌, length, get_or, decimal, append-nil, arith, rules}
use Rattle.std.proofs.lemmas.Fmt.{length-decimal-le}
use Rattle.writing.specs.Room.{cut}
use Rattle.writing.specs.Texts.{text_of}
use Rattle.writing.proofs.Texts.{whole, put_next, put_all, pieces}
use Rattle.pages.specs.Ticks.{number_text}
use Rattle.pages.proofs.Lengths.{numbers_short}
use Rattle.pages.proofs.tick_line.put_numbers.Goals as goal

pub loop-number-init : goal.loop-number-init
loop-number-init c = simp append-nil (whole c.args.text.now)

pub loop-number-preserved : goal.loop-number-preserved
loop-number-preserved c =
    let ns = c.args.numbers.now in
    let i = c.loop-number.number-index in
    let one : text_of c.put_number.new.self ≡ cut (text_of c.loop-number.text ++ number_text (get_or ns i 0)) = grind (arith, pieces) in
    put_next number_text ns i (text_of c.args.text.now) 0 c.loop-number-test.true c.loop-number.invariant one

pub returns : goal.returns
returns c =
    let ns = c.args.numbers.now in
    let each : (i : ℕ) → i < length ns → length (decimal (get_or ns i 0)) ≤ 3 =
    λ i lt. let byte : get_or ns i 0 < 256 = search rules in length-decimal-le 3 _ (omega arith) (omega arith) (omega arith) in
    record {
      added = put_all number_text ns c.loop-number.number-index (text_of c.args.text.now) c.loop-number-test.false c.loop-number.invariant;
      short = numbers_short 3 ns each;
    }
