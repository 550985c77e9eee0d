use Rattle.std.proofs.Common.{arith}
use Rattle.std.proofs.lemmas.Fmt.{length-decimal-le}
use Rattle.writing.proofs.Texts.{pieces}
use Rattle.pages.specs.Ticks.{line_text}
use Rattle.pages.proofs.Lengths.{line_parts}
use Rattle.pages.proofs.tick_line.TickLineWritten.put.Goals as goal

pub returns-clause-added : goal.returns-clause-added
unfolding line_text
returns-clause-added c = grind (arith, pieces)

pub returns-clause-fits : goal.returns-clause-fits
returns-clause-fits c =
    let line = c.args.self.now in
    let number = length-decimal-le 20 line.tick (omega arith) (omega arith) (omega arith) in
    let short = line_parts 20 32 line.tick line.numbers.now number (omega arith) in
    omega arith
