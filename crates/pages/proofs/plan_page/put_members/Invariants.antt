use Rattle.std.proofs.Common.{◌≡◌, ◌++◌, take}
use Rattle.std.specs.List.{flat_map}
use Rattle.writing.specs.Room.{cut}
use Rattle.writing.specs.Texts.{text_of}
use Rattle.pages.specs.Plans.{member_text}
use Rattle.pages.proofs.plan_page.put_members.Given as goal

abbrev pub invariant-loop-placement : goal.invariant-loop-placement
invariant-loop-placement l = text_of l.text ≡ cut (text_of l.initial.text ++ flat_map (member_text l.core) (take l.placement-index l.placements))
