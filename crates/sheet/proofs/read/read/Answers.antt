use Rattle.std.proofs.Common.{rules}
use Rattle.sheet.proofs.Reading.{reads_exactly}
use Rattle.sheet.proofs.read.read.Goals as goal

pub returns-in_err-cores-clause-exactly : goal.returns-in_err-cores-clause-exactly
returns-in_err-cores-clause-exactly c = reads_exactly _ _ _ _ (search rules) (search rules)

pub returns-clause-exactly : goal.returns-clause-exactly
returns-clause-exactly c = reads_exactly _ _ _ _ (search rules) (search rules)
