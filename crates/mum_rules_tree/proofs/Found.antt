-- Permissions that were found already, by the places of channels.
use Rattle.mum_rules_tree.proofs.Common.{◌≡◌, ◌≢◌, ℕ, ◌<◌, ◌≤◌, ◌||◌, not, Bool, true, false, cond, List, [], ◌∷◌, length, get_or, set, refl, sym, ap, subst, ◌∙◌, arith, Option, Some, None, Result, Ok, Err, unwrap_or, ⊎_elim, ⊤, AllPairs, option_map, option_map_or, cases_eq, cases_lt, get_or-set_other, none-some, ChannelId, Perm, Actor, Row, row_of, TreeState, number_found, row_stands, placed_within, root_row, IsProper, StateValue, Lack, Need, all_met, is_open, lack_of, need, way, AreMet}

-- ---- one need

abbrev answer : Need → Bool → Result ⊤ Lack
answer wanted met = option_map_or (λ lack. Err lack) (option_map lack_of (cond (not (met || false)) (Some wanted) None)) (Ok tt)

-- a need that is met, and what is met
pub open_met : (state : StateValue) (who : Actor) (perm : Perm) (id : ChannelId) → is_open state (way who perm id) ≡ true → all_met state (need who perm id ∷ []) ≡ Ok tt
open_met state who perm id open_there = ap (answer (need who perm id)) open_there

pub met_open : (state : StateValue) (who : Actor) (perm : Perm) (id : ChannelId) → all_met state (need who perm id ∷ []) ≡ Ok tt → is_open state (way who perm id) ≡ true
met_open state who perm id ok = step (is_open state (way who perm id)) ok
  where
    step : (met : Bool) → answer (need who perm id) met ≡ Ok tt → met ≡ true
    step true given = refl
    step false given = cc

-- ---- places

-- the row at an index is that of the channel, and has the place
record IsAt (rows : List Row) (id : ChannelId) (place at : ℕ) : Type 0 where
  pub within : at < length rows
  pub same : (d : Row) → (get_or rows at d).channel.id ≡ id
  pub placed : (d : Row) → (get_or rows at d).place ≡ place

-- a channel that has a place has a row
row_at : (rows : List Row) (id : ChannelId) (place : ℕ) → option_map (λ row. row.place) (row_of rows id) ≡ Some place → (at : ℕ) × IsAt rows id place at
row_at rows id place told = step (row_of rows id) refl told
  where
    step : (found : Option Row) → row_of rows id ≡ found → option_map (λ (row : Row). row.place) found ≡ Some place → (at : ℕ) × IsAt rows id place at
    step None is none = absurd (none-some place none)
    step (Some row) is seat =
        let (at, within, stands) = row_stands rows id row is in (
          at,
          record {
            within = within;
            same = λ d. ap (λ (r : Row). r.channel.id) (stands d) ∙ ap (λ n. record { 0 = n }) (number_found rows id row is);
            placed = λ d. ap (λ (r : Row). r.place) (stands d) ∙ ap (λ (p : Option ℕ). unwrap_or p 0) seat;
          },
        )

-- the place that the tree of a state reports is that of the state
pub placed_in : (state : StateValue) (tree : TreeState) (id : ChannelId) (told : Option ℕ) (place : ℕ)
    → tree ≡ state.tree → told ≡ option_map (λ row. row.place) (row_of tree.channels id) → told ≡ Some place
    → option_map (λ row. row.place) (row_of state.tree.channels id) ≡ Some place
placed_in state tree id told place same is found = ap (λ (t : TreeState). option_map (λ (row : Row). row.place) (row_of t.channels id)) (sym same) ∙ sym is ∙ found

pub place_within : (state : StateValue) (id : ChannelId) (place : ℕ) → IsProper state → option_map (λ row. row.place) (row_of state.tree.channels id) ≡ Some place → place < 2048
place_within state id place proper told =
    let (at, row) = row_at state.tree.channels id place told in
    subst (λ (n : ℕ). n < 2048) (row.placed root_row) (placed_within state.tree state.tree.channels refl proper.tree at root_row row.within)

-- ---- marks

-- what is marked is met
pub met_at : (state : StateValue) (who : Actor) (perm : Perm) (marks : List Bool) (id : ChannelId) (place : ℕ) → option_map (λ row. row.place) (row_of state.tree.channels id) ≡ Some place
    → AreMet state who perm marks → get_or marks place false ≡ true → is_open state (way who perm id) ≡ true
met_at state who perm marks id place told met marked =
    let rows = state.tree.channels in
    let (at, row) = row_at rows id place told in
    let marked_there : get_or marks (get_or rows at root_row).place false ≡ true = ap (λ (p : ℕ). get_or marks p false) (row.placed root_row) ∙ marked in
    ap (λ (there : ChannelId). is_open state (way who perm there)) (sym (row.same root_row)) ∙ met at root_row row.within marked_there

-- two rows with one place are one
one_row : (rows : List Row) (i j : ℕ) (d : Row) → AllPairs (λ one later. one.place ≢ later.place) rows → i < length rows → j < length rows → (get_or rows i d).place ≡ (get_or rows j d).place → i ≡ j
one_row rows i j d seats first second same =
    ⊎_elim
    (λ (l : i < j). absurd (seats i j d l second same))
    (λ (g : j ≤ i). ⊎_elim
    (λ (m : j < i). absurd (seats j i d m first (sym same)))
    (λ (h : i ≤ j). omega arith)
    (cases_lt j i))
    (cases_lt i j)

-- one mark more
pub met_more : (state : StateValue) (who : Actor) (perm : Perm) (marks : List Bool) (id : ChannelId) (place : ℕ) → IsProper state → option_map (λ row. row.place) (row_of state.tree.channels id) ≡ Some place
    → is_open state (way who perm id) ≡ true → AreMet state who perm marks → AreMet state who perm (set marks place true)
met_more state who perm marks id place proper told open_there met k d within marked =
    let rows = state.tree.channels in
    let (at, row) = row_at rows id place told in
    ⊎_elim
    (λ (here : (get_or rows k d).place ≡ place).
    let one : k ≡ at = one_row rows k at d proper.tree.places_apart within row.within (here ∙ sym (row.placed d)) in
    let named : (get_or rows k d).channel.id ≡ id = ap (λ (j : ℕ). (get_or rows j d).channel.id) one ∙ row.same d in
    ap (λ (there : ChannelId). is_open state (way who perm there)) named ∙ open_there)
    (λ (off : (get_or rows k d).place ≢ place). met k d within (sym (get_or-set_other marks place (get_or rows k d).place true false off) ∙ marked))
    (cases_eq (get_or rows k d).place place)
