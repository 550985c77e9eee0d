use Rattle.std.proofs.Common.{sym, refl, arith}
use Rattle.std.specs.List.{flat_map}
use Rattle.model.proofs.Checks.{answers_exactly}
use Rattle.writing.specs.Texts.{text_of}
use Rattle.writing.proofs.Texts.{put_more}
use Rattle.sheet.specs.Printed.{cores_text, stage_text, sheet_of}
use Rattle.sheet.proofs.Lengths.{sheet_short}
use Rattle.sheet.proofs.write.SheetWritten.put.Goals as goal

pub returns : goal.returns
unfolding sheet_of
returns c =
    let sheet = c.args.self.now in
    let short = sheet_short sheet.cores sheet.table.now ((answers_exactly _ _ _ _ _ (sym sheet.checked)).0 refl) in
    record {
      added = put_more (text_of c.args.onto.now) (cores_text sheet.cores) (flat_map stage_text sheet.table.now) c.put_cores.ensures c.put_stages.ensures;
      fits = omega arith;
    }
