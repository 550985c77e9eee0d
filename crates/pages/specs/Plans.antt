-- The plan page.
use Rattle.std.specs.Prelude.{ℕ, zero, suc, cond, ◌&&◌, List, [], ◌++◌, codes, decimal, ◌==◌, nat_lt}
use Rattle.std.specs.List.{flat_map}
use Rattle.model.specs.Names.{letters_of}
use Rattle.placing.specs.declared.placement.Placement.{Placement}
use Rattle.placing.specs.Plans.{Layout}

-- a stage that is not split
unfoldable pub whole_text : Placement → List ℕ
whole_text p = codes " (whole " ++ letters_of p.name ++ codes ")"

-- one share of a stage that is split
unfoldable pub share_text : List ℕ → Placement → ℕ → List ℕ
share_text head p share = head ++ letters_of p.name ++ codes " " ++ decimal share ++ codes ")"

-- what the line of core j says of a stage
unfoldable pub member_text : ℕ → Placement → List ℕ
member_text j p =
    cond (j == p.core) (cond (p.second == 0) (whole_text p) (share_text (codes " (first ") p p.first))
    (cond (j == suc p.core && nat_lt 0 p.second) (share_text (codes " (second ") p p.second) [])

-- the line of core j
unfoldable pub core_text : ℕ → List Placement → List ℕ
core_text j ps = codes "(core " ++ decimal j ++ flat_map (member_text j) ps ++ codes ")\n"

-- the lines of the cores from 1 to n
abbrev pub core_lines : ℕ → List Placement → List ℕ
core_lines zero ps = []
core_lines (suc n) ps = core_lines n ps ++ core_text (suc n) ps

unfoldable pub plan_text : Layout → List ℕ
plan_text l = codes "(plan " ++ decimal l.cores ++ codes ")\n" ++ core_lines l.cores l.placements
