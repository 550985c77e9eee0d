use Rattle.std.proofs.Common.{◌≡◌, ◌++◌, take, ◌∙◌, arith, rules}
use Rattle.writing.specs.Room.{room, cut}
use Rattle.writing.proofs.Cut.{take_piece}
use Rattle.writing.proofs.text.Text.put.Goals as goal

pub returns : goal.returns
unfolding cut
returns c =
    let text = c.args.self.now.bytes.items in
    let more = c.args.bytes.now in
    let count = c.min-count.result in
    let added : c.try_extend_from_slice.new.self.items ≡ text ++ take count more = search rules in
    added ∙ take_piece room count text more (omega (arith, c.min-count.ensures, c.remaining_capacity.ensures)) (omega (arith, c.min-count.ensures)) (λ less. omega (arith, c.min-count.ensures, c.remaining_capacity.ensures))
