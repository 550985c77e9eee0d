-- The stages in turn, along a table of placements and the states beside it.
use Rattle.std.proofs.Common.{◌≡◌, ℕ, ◌+◌, ◌<◌, ◌≤◌, List, ◌++◌, length, get_or, take, drop, set, ◌∙◌, add-one, arith}
use Rattle.std.proofs.lemmas.List.{drop_more, drop_all, take_more_set, drop-set-lt, append_assoc, take-append-drop, get_or_default, get_or-set_other}
use Rattle.placing.specs.declared.placement.Placement.{Placement}
use Rattle.dispatch.specs.declared.state.State.{State}
use Rattle.dispatch.specs.Ticks.{no_state, step, stepped}

-- one more is stepped
pub stepped_more : (answer : List ℕ) (ps : List Placement) (ss : List State) (i : ℕ) (x : State) (d : Placement) (e : State) → i < length ps → length ps ≤ length ss → x ≡ step answer (i + 1) (get_or ps i d) (get_or ss i e) → take i ss ++ stepped answer (i + 1) (drop i ps) (drop i ss) ≡ take (i + 1) (set ss i x) ++ stepped answer (i + 1 + 1) (drop (i + 1) ps) (drop (i + 1) (set ss i x))
stepped_more answer ps ss i x d e h le is =
    let k : i < length ss = omega arith in
    let l : i < i + 1 = omega arith in
    rw (drop_more ps i d h, drop_more ss i e k, take_more_set ss i x k, drop-set-lt (i + 1) ss i x l, append_assoc, is, add-one (i + 1))

pub stepped_all : (answer : List ℕ) (ps : List Placement) (ss : List State) (i : ℕ) → length ps ≤ i → take i ss ++ stepped answer (i + 1) (drop i ps) (drop i ss) ≡ ss
stepped_all answer ps ss i h = rw (drop_all i ps h, take-append-drop)

-- what is to come is as it was before, at any default
abbrev pub AsBefore : List State → List State → ℕ → Type 0
AsBefore before ss i = (k : ℕ) → i ≤ k → get_or ss k no_state ≡ get_or before k no_state

pub as_before : (before ss : List State) (i : ℕ) (d : State) → i < length ss → AsBefore before ss i → get_or ss i d ≡ get_or before i no_state
as_before before ss i d lt h = get_or_default ss i d no_state lt ∙ h i (omega arith)

pub as_before_more : (before ss : List State) (i : ℕ) (x : State) → AsBefore before ss i → AsBefore before (set ss i x) (i + 1)
as_before_more before ss i x h k le = get_or-set_other ss i k x no_state (λ e. omega arith) ∙ h k (omega arith)
