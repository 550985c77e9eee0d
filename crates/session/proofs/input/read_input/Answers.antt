use Rattle.std.proofs.Common.{ap}
use Rattle.session.specs.Sessions.{most_input}
use Rattle.session.proofs.Fronts.{first_bytes}
use Rattle.session.proofs.input.read_input.Goals as goal

pub returns : goal.returns
returns g c = first_bytes (g.R.Read.remaining c.args.from.now) _ _ most_input _ _ (ap (λ r. g.R.Read.remaining r.now) c.take.ensures.inner) c.take.ensures.limit c.new-input.ensures c.in_ok-copy.ensures.bytes
