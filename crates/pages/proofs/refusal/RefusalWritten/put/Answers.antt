use Rattle.std.proofs.Common.{arith}
use Rattle.writing.proofs.Texts.{pieces}
use Rattle.pages.specs.Refusals.{refusal_text}
use Rattle.pages.proofs.Lengths.{refusal_short}
use Rattle.pages.proofs.refusal.RefusalWritten.put.Goals as goal

pub returns-clause-added : goal.returns-clause-added
unfolding refusal_text
returns-clause-added c = grind (arith, pieces)

pub returns-clause-fits : goal.returns-clause-fits
returns-clause-fits c = refusal_short c.args.self.now.fault (omega arith)
