use Rattle.std.proofs.Common.{sym, rules}
use Rattle.rules.proofs.ResponseShare.{none_unlawful, none_uncovered, response_share}
use Rattle.rules.proofs.response.ResponsePassingRule.share.Goals as goal

pub returns-in_default : goal.returns-in_default
returns-in_default c = search (rules, none_unlawful)

pub returns-then-not-all_in_time : goal.returns-then-not-all_in_time
returns-then-not-all_in_time c = search (rules, none_uncovered)

pub returns : goal.returns
returns c =
    let room = c.in-Some.room in
    let share = response_share room.load.members.now c.args.cost room.period room.lawful (sym c.if-not-all_in_time.ensures) in
    search rules
