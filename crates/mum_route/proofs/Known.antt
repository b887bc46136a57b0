-- What is known of the channels in which a speaker has a permission, by the places of the channels.
use Rattle.mum_route.proofs.Common.{◌≡◌, ◌≢◌, ℕ, zero, suc, ◌<◌, ◌≤◌, Bool, true, false, cond, eqb, List, [], ◌∷◌, length, get_or, set, replicate, refl, sym, ap, subst, ◌∙◌, arith, Option, Some, None, IfSome, unwrap_or, ⊎_elim, AllPairs, option_map, cases_eq, cases_lt, eqb-true, get_or-set_other, get_or-set_same, none-some, ChannelId, SessionId, Perm, Row, row_of, TreeState, root_row, IsProper, StateValue, AreKnown, may}

-- the row at an index is that of the channel, and has the place
pub record IsAt (rows : List Row) (id : ChannelId) (place at : ℕ) : Type 0 where
  pub within : at < length rows
  pub same : (d : Row) → (get_or rows at d).channel.id ≡ id
  pub placed : (d : Row) → (get_or rows at d).place ≡ place

-- a channel that has a place has a row
pub row_at : (rows : List Row) (id : ChannelId) (place : ℕ) → option_map (λ row. row.place) (row_of rows id) ≡ Some place
    → (at : ℕ) × IsAt rows id place at
row_at [] id place found = absurd (none-some place found)
row_at (row ∷ rows) id place found = by_first (eqb row.channel.id.0 id.0) refl found (row_at rows id place)
  where
    by_first : (b : Bool) → eqb row.channel.id.0 id.0 ≡ b → option_map (λ (one : Row). one.place) (cond b (Some row) (row_of rows id)) ≡ Some place
        → (option_map (λ (one : Row). one.place) (row_of rows id) ≡ Some place → (at : ℕ) × IsAt rows id place at)
        → (at : ℕ) × IsAt (row ∷ rows) id place at
    by_first true same here later = (
      0,
      record {
        within = omega arith;
        same = λ d. ap (λ n. record { 0 = n }) (eqb-true row.channel.id.0 id.0 same);
        placed = λ d. ap (λ (p : Option ℕ). unwrap_or p 0) here;
      },
    )
    by_first false other there later =
        let (at, is) = later there in
        (suc at, record { within = omega (arith, is.within); same = is.same; placed = is.placed })

-- the place that the tree of a state reports is that of the state
pub placed_in : (state : StateValue) (tree : TreeState) (id : ChannelId) (told : Option ℕ) (place : ℕ)
    → tree ≡ state.tree → told ≡ option_map (λ row. row.place) (row_of tree.channels id) → told ≡ Some place
    → option_map (λ row. row.place) (row_of state.tree.channels id) ≡ Some place
placed_in state tree id told place same is found = ap (λ (t : TreeState). option_map (λ (row : Row). row.place) (row_of t.channels id)) (sym same) ∙ sym is ∙ found

pub place_within : (state : StateValue) (id : ChannelId) (place : ℕ) → IsProper state
    → option_map (λ row. row.place) (row_of state.tree.channels id) ≡ Some place → place < 2048
place_within state id place proper found =
    let (at, is) = row_at state.tree.channels id place found in
    let places_fit : (get_or state.tree.channels at root_row).place < state.tree.limit = proper.tree.places_fit at root_row is.within in
    let limited : state.tree.limit ≤ 2048 = proper.tree.limited in
    subst (λ (n : ℕ). n < 2048) (is.placed root_row) (omega (arith, places_fit, limited))

-- what is known at the channel's place is right
pub known_at : (state : StateValue) (speaker : SessionId) (perm : Perm) (known : List (Option Bool)) (id : ChannelId) (place : ℕ) (answer : Bool)
    → option_map (λ row. row.place) (row_of state.tree.channels id) ≡ Some place → AreKnown state speaker perm known
    → get_or known place None ≡ Some answer → answer ≡ may state speaker perm id
known_at state speaker perm known id place answer found right kept =
    let (at, is) = row_at state.tree.channels id place found in
    let told : get_or known (get_or state.tree.channels at root_row).place None ≡ Some answer = ap (λ (p : ℕ). get_or known p None) (is.placed root_row) ∙ kept in
    subst (λ (o : Option Bool). IfSome o (λ a. a ≡ may state speaker perm (get_or state.tree.channels at root_row).channel.id)) told (right at root_row is.within)
    ∙ ap (may state speaker perm) (is.same root_row)

-- two rows with one place are one
pub one_row : (rows : List Row) (i j : ℕ) (d : Row) → AllPairs (λ one later. one.place ≢ later.place) rows → i < length rows → j < length rows
    → (get_or rows i d).place ≡ (get_or rows j d).place → i ≡ j
one_row rows i j d places_apart first second same =
    ⊎_elim
    (λ (l : i < j). absurd (places_apart i j d l second same))
    (λ (g : j ≤ i). ⊎_elim
    (λ (m : j < i). absurd (places_apart j i d m first (sym same)))
    (λ (h : i ≤ j). omega arith)
    (cases_lt j i))
    (cases_lt i j)

-- one answer more
pub known_set : (state : StateValue) (speaker : SessionId) (perm : Perm) (known : List (Option Bool)) (id : ChannelId) (place : ℕ) (answer : Bool)
    → IsProper state → option_map (λ row. row.place) (row_of state.tree.channels id) ≡ Some place → place < length known
    → answer ≡ may state speaker perm id → AreKnown state speaker perm known → AreKnown state speaker perm (set known place (Some answer))
known_set state speaker perm known id place answer proper found inside is right k d within =
    let rows = state.tree.channels in
    let (at, row) = row_at rows id place found in
    ⊎_elim
    (λ (here : (get_or rows k d).place ≡ place).
    let one : k ≡ at = one_row rows k at d proper.tree.places_apart within row.within (here ∙ sym (row.placed d)) in
    let named : id ≡ (get_or rows k d).channel.id = sym (row.same d) ∙ ap (λ (j : ℕ). (get_or rows j d).channel.id) (sym one) in
    subst (λ (o : Option Bool). IfSome o (λ a. a ≡ may state speaker perm (get_or rows k d).channel.id))
    (sym (ap (λ (p : ℕ). get_or (set known place (Some answer)) p None) here ∙ get_or-set_same known place (Some answer) None inside))
    (is ∙ ap (may state speaker perm) named))
    (λ (off : (get_or rows k d).place ≢ place).
    subst (λ (o : Option Bool). IfSome o (λ a. a ≡ may state speaker perm (get_or rows k d).channel.id))
    (sym (get_or-set_other known place (get_or rows k d).place (Some answer) None off)) (right k d within))
    (cases_eq (get_or rows k d).place place)

abbrev none_of : (X : Type 0) → Option X
none_of X = None

pub none_at : (n place : ℕ) {X : Type 0} → get_or (replicate n (none_of X)) place (none_of X) ≡ none_of X
none_at zero place = refl
none_at (suc n) zero = refl
none_at (suc n) (suc place) = none_at n place

-- nothing is known at first
pub known_none : (state : StateValue) (speaker : SessionId) (perm : Perm) (known : List (Option Bool)) → ((place : ℕ) → get_or known place None ≡ None)
    → AreKnown state speaker perm known
known_none state speaker perm known none k d within =
    subst (λ (o : Option Bool). IfSome o (λ a. a ≡ may state speaker perm (get_or state.tree.channels k d).channel.id))
    (sym (none (get_or state.tree.channels k d).place)) tt
