-- Where no channel is emptied, nothing goes: all that belongs to channels belongs to channels that are there.
use Rattle.mum_state.proofs.Common.{◌≡◌, ℕ, zero, suc, ◌<◌, ◌==◌, ◌&&◌, not, Bool, true, false, List, [], ◌∷◌, map, length, get_or, refl, sym, ap, ◌∙◌, arith, is_some, Some, if◌then◌else◌, All, filter, find, list_all, and_from, eq-eqb, list_all-map, ChannelId, Row, IsBetween, is_there, number, Pair, ListenerPair, empties, is_emptied, without_emptied, IsProper, PolicyRow, StateValue}
use Rattle.mum_state.proofs.Listed.{all_from, all_not, all_too, filter_all}

-- an element that passes is found
some_found : {X : Type 0} (p : X → Bool) (xs : List X) (k : ℕ) (d : X) → k < length xs → p (get_or xs k d) ≡ true → is_some (find p xs) ≡ true
some_found p [] k d within passes = absurd (omega arith)
some_found p (x ∷ xs) zero d within passes = rw passes refl
some_found p (x ∷ xs) (suc k) d within passes = step (p x) (some_found p xs k d (omega arith) passes)
  where
    step : (b : Bool) → is_some (find p xs) ≡ true → is_some (if b then Some x else find p xs) ≡ true
    step true later = refl
    step false later = later

-- each row's channel is there
pub rows_there : (rows : List Row) → list_all (λ row. is_there rows row.channel.id) rows ≡ true
rows_there rows = all_from (λ row. is_there rows row.channel.id) rows
    (λ k d within. some_found (λ row. number row == number (get_or rows k d)) rows k d within (eq-eqb (number (get_or rows k d)) (number (get_or rows k d)) refl))

not_not : (b : Bool) → b ≡ true → not (not b) ≡ true
not_not true on = refl
not_not false on = on

both_there : (rows : List Row) (links : List Pair) → All (IsBetween rows) links → list_all (λ pair. is_there rows pair.0 && is_there rows pair.1) links ≡ true
both_there rows links between = all_from (λ pair. is_there rows pair.0 && is_there rows pair.1) links
    (λ k d within. let ends = between k d within in and_from (is_there rows (get_or links k d).0) (is_there rows (get_or links k d).1) ends.0 ends.1)

policies_there : (rows : List Row) (policies : List PolicyRow) → map (λ row. row.channel) policies ≡ map (λ row. row.channel.id) rows → list_all (λ row. is_there rows row.channel) policies ≡ true
policies_there rows policies same =
    sym (list_all-map (is_there rows) (λ (row : PolicyRow). row.channel) policies)
    ∙ ap (λ (ids : List ChannelId). list_all (is_there rows) ids) same
    ∙ list_all-map (is_there rows) (λ (row : Row). row.channel.id) rows
    ∙ rows_there rows

-- a state with these parts
abbrev with_parts : StateValue → List Row → List Pair → List PolicyRow → List ListenerPair → StateValue
with_parts state rows links policies listeners = record state {
  tree = record state.tree { channels = rows; links = links };
  policies = policies;
  roster = record state.roster { listeners = listeners };
}

-- nothing goes where nothing is emptied
pub nothing_emptied : (before state : StateValue) → IsProper state → empties before state ≡ false → without_emptied before state ≡ state
nothing_emptied before state proper none =
    let rows : List Row = state.tree.channels in
    let kept : filter (λ row. not (is_emptied before.roster.sessions state.roster.sessions row)) rows ≡ rows =
    filter_all _ rows (all_not (is_emptied before.roster.sessions state.roster.sessions) rows none) in
    let linked : filter (λ pair. is_there rows pair.0 && is_there rows pair.1) state.tree.links ≡ state.tree.links =
    filter_all _ state.tree.links (both_there rows state.tree.links proper.tree.joined.pairs.between) in
    let governed : filter (λ row. is_there rows row.channel) state.policies ≡ state.policies =
    filter_all _ state.policies (policies_there rows state.policies proper.policies) in
    let heard : filter (λ pair. not (not (is_there rows pair.channel))) state.roster.listeners ≡ state.roster.listeners =
    filter_all _ state.roster.listeners
    (all_too (λ pair. is_there rows pair.channel) (λ pair. not (not (is_there rows pair.channel))) (λ pair. not_not (is_there rows pair.channel)) state.roster.listeners proper.listening) in
    rw kept (
    ap (λ (links : List Pair). with_parts state rows links (filter (λ row. is_there rows row.channel) state.policies) (filter (λ pair. not (not (is_there rows pair.channel))) state.roster.listeners)) linked
    ∙ ap (λ (policies : List PolicyRow). with_parts state rows state.tree.links policies (filter (λ pair. not (not (is_there rows pair.channel))) state.roster.listeners)) governed
    ∙ ap (λ (listeners : List ListenerPair). with_parts state rows state.tree.links state.policies listeners) heard)
