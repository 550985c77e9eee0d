use Rattle.std.proofs.Common.{refl}
use Rattle.placing.proofs.Worked.{worked_placings}
use Rattle.dispatch.proofs.examples.worked_examples.Goals as goal

pub returns : goal.returns
returns c = record { placings = worked_placings; session = refl; ended_early = refl }
