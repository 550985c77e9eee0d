use Rattle.std.proofs.Common.{rules}
use Rattle.rules.specs.Loads.{nobody}
use Rattle.rules.proofs.Orderly.{last_member}
use Rattle.rules.proofs.load.Room.ends_chain.Goals as goal

pub returns-in-Some : goal.returns-in-Some
returns-in-Some c =
    let item = c.in-Some.ensures.item.3 in
    let last = item.1 nobody in
    let same = last_member 1 c.args.self.now.load.members.now item.0 in
    search rules
