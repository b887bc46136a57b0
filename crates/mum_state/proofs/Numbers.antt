-- The greatest numbers of channels and of sessions never fall.
use Rattle.mum_state.proofs.Common.{◌≡◌, ℕ, ◌≤◌, ◌&&◌, Bool, true, false, [], ◌∷◌, Some, None, refl, arith, if◌then◌else◌, IsTrue, and_parts, false≢true, nat_tests, RosterState, Edit, Join, MakeChannel, SetTarget, all_fit, led_to, applied, fits, gives_right_numbers, is_countable, sets_properly, NumbersNeverFall, names_there, set_by, StateValue, with_clearing, with_suppression}
use Rattle.mum_state.proofs.Clearing.{by_clearing}

-- the second of four
second_of : (a b c d : Bool) → IsTrue (a && b && c && d) → IsTrue b
second_of true true c d on = refl
second_of true false c d on = absurd (false≢true on)
second_of false b c d on = absurd (false≢true on)

pub numbers_of_fitting : (state : StateValue) (edit : Edit) → IsTrue (fits state edit) → IsTrue (gives_right_numbers state edit)
numbers_of_fitting state edit fit =
    second_of (names_there state edit) (gives_right_numbers state edit) (sets_properly state edit) (is_countable state edit) fit

clearing_greatest : (edit : Edit) (state : StateValue) → (with_clearing edit state).tree.greatest ≡ state.tree.greatest
clearing_greatest edit state = by_clearing (λ after. after.tree.greatest ≡ state.tree.greatest) edit state refl (λ session. refl)

clearing_last : (edit : Edit) (state : StateValue) → (with_clearing edit state).roster.last ≡ state.roster.last
clearing_last edit state = by_clearing (λ after. after.roster.last ≡ state.roster.last) edit state refl (λ session. refl)

set_greatest : (state : StateValue) (edit : Edit) → IsTrue (gives_right_numbers state edit) → state.tree.greatest ≤ (set_by state edit).tree.greatest
set_greatest state (MakeChannel id parent name temporary info None) right = grind (arith, nat_tests, right)
set_greatest state (MakeChannel id parent name true info (Some maker)) right = grind (arith, nat_tests, right)
set_greatest state (MakeChannel id parent name false info (Some maker)) right = grind (arith, nat_tests, right)
set_greatest state edit right = omega arith

last_of_either : (is : Bool) (one other : RosterState) (last : ℕ) → one.last ≡ last → other.last ≡ last → (if is then one else other).last ≡ last
last_of_either true one other last same also = same
last_of_either false one other last same also = also

set_last : (state : StateValue) (edit : Edit) → state.roster.last ≤ (set_by state edit).roster.last
set_last state (Join session slot name account tokens) = omega arith
set_last state (MakeChannel id parent name temporary info None) = omega arith
set_last state (MakeChannel id parent name true info (Some maker)) = omega arith
set_last state (MakeChannel id parent name false info (Some maker)) = omega arith
set_last state (SetTarget session id target) =
    let same : (set_by state (SetTarget session id target)).roster.last ≡ state.roster.last = last_of_either _ _ _ state.roster.last refl refl in omega arith
set_last state edit = omega arith

pub greatest_rises : (state : StateValue) (edit : Edit) → IsTrue (fits state edit) → state.tree.greatest ≤ (applied state edit).tree.greatest
greatest_rises state edit fit =
    let up : state.tree.greatest ≤ (set_by state edit).tree.greatest = set_greatest state edit (numbers_of_fitting state edit fit) in
    let same : (with_clearing edit (with_suppression state edit (set_by state edit))).tree.greatest ≡ (set_by state edit).tree.greatest = clearing_greatest edit (with_suppression state edit (set_by state edit)) in
    omega arith

pub last_rises : (state : StateValue) (edit : Edit) → state.roster.last ≤ (applied state edit).roster.last
last_rises state edit =
    let up : state.roster.last ≤ (set_by state edit).roster.last = set_last state edit in
    let same : (with_clearing edit (with_suppression state edit (set_by state edit))).roster.last ≡ (set_by state edit).roster.last = clearing_last edit (with_suppression state edit (set_by state edit)) in
    omega arith

pub numbers_never_fall_lem : NumbersNeverFall
numbers_never_fall_lem state [] fit = (omega arith, omega arith)
numbers_never_fall_lem state (edit ∷ edits) fit =
    let parts = and_parts (fits state edit) (all_fit (applied state edit) edits) fit in
    let one = greatest_rises state edit parts.0 in
    let also = last_rises state edit in
    let rest = numbers_never_fall_lem (applied state edit) edits parts.1 in
    let first : (applied state edit).tree.greatest ≤ (led_to (applied state edit) edits).tree.greatest = rest.0 in
    let second : (applied state edit).roster.last ≤ (led_to (applied state edit) edits).roster.last = rest.1 in
    (omega arith, omega arith)
