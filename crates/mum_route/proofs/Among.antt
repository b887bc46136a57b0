-- Which channels are among those of a list.
use Rattle.mum_route.proofs.Common.{◌≡◌, ◌↔◌, Bool, true, false, cond, ◌&&◌, ◌||◌, eqb, List, [], ◌∷◌, length, map, reverse, Option, Some, None, refl, sym, ap, subst, ◌∙◌, IsTrue, ◌==◌, Contains, filter, list_any, is_some, option_map_or, list_any-append, eq-eqb, is_among, ChannelId, is_below, is_there, row_of, TreeState, below, Row, is_reached, linked, StateValue, Ground, Aimed, covered, spread, may, any_from, any_has, same_number, upward_missing}

-- marked is whether it is contained
pub marked_among : (ids : List ChannelId) (id : ChannelId) (marked : Bool) → IsTrue marked ↔ Contains ids id → marked ≡ is_among ids id
marked_among ids id true is = sym (any_has (λ one. one.0 == id.0) id ids (eq-eqb id.0 id.0 refl) (is.0 refl))
marked_among ids id false is = from (is_among ids id) refl
  where
    from : (b : Bool) → is_among ids id ≡ b → false ≡ b
    from true e =
        let found = any_from (λ (one : ChannelId). one.0 == id.0) ids e in
        is.1 (subst (Contains ids) (same_number found.0 id found.2) found.1)
    from false e = refl

pub among-Contains : (ids : List ChannelId) (id : ChannelId) → is_among ids id ≡ true → Contains ids id
among-Contains ids id on =
    let found = any_from (λ (one : ChannelId). one.0 == id.0) ids on in
    subst (Contains ids) (same_number found.0 id found.2) found.1

pub Contains-among : (ids : List ChannelId) (id : ChannelId) → Contains ids id → is_among ids id ≡ true
Contains-among ids id has = any_has (λ (one : ChannelId). one.0 == id.0) id ids (eq-eqb id.0 id.0 refl) has

no_and : (b : Bool) → (b && false) ≡ false
no_and true = refl
no_and false = refl

-- among those that a test keeps
filter_first : (p : ChannelId → Bool) (ids : List ChannelId) (x id : ChannelId) → is_among (filter p ids) id ≡ (is_among ids id && p id)
    → (b : Bool) → p x ≡ b → (e : Bool) → eqb x.0 id.0 ≡ e → is_among (cond b (x ∷ filter p ids) (filter p ids)) id ≡ ((e || is_among ids id) && p id)
filter_first p ids x id rest true keeps true same =
    ap (λ (t : Bool). t || is_among (filter p ids) id) same
    ∙ sym (ap p (sym (same_number x id same)) ∙ keeps)
filter_first p ids x id rest true keeps false other = ap (λ (t : Bool). t || is_among (filter p ids) id) other ∙ rest
filter_first p ids x id rest false drops true same =
    let off : p id ≡ false = ap p (sym (same_number x id same)) ∙ drops in
    rest ∙ ap (λ (t : Bool). is_among ids id && t) off ∙ no_and (is_among ids id) ∙ sym off
filter_first p ids x id rest false drops false other = rest

pub among-filter : (p : ChannelId → Bool) (ids : List ChannelId) (id : ChannelId) → is_among (filter p ids) id ≡ (is_among ids id && p id)
among-filter p [] id = refl
among-filter p (x ∷ ids) id = filter_first p ids x id (among-filter p ids id) (p x) refl (eqb x.0 id.0) refl

-- among the channels of those rows whose channel a test keeps
abbrev channels_kept : (ChannelId → Bool) → List Row → List ChannelId
channels_kept p rows = map (λ row. row.channel.id) (filter (λ (row : Row). p row.channel.id) rows)

rows_first : (p : ChannelId → Bool) (rows : List Row) (x : Row) (id : ChannelId) → is_among (channels_kept p rows) id ≡ (is_there rows id && p id)
    → (b : Bool) → p x.channel.id ≡ b → (e : Bool) → eqb x.channel.id.0 id.0 ≡ e
    → is_among (map (λ row. row.channel.id) (cond b (x ∷ filter (λ (row : Row). p row.channel.id) rows) (filter (λ (row : Row). p row.channel.id) rows))) id
    ≡ (is_some (cond e (Some x) (row_of rows id)) && p id)
rows_first p rows x id rest true keeps true same =
    ap (λ (t : Bool). t || is_among (channels_kept p rows) id) same
    ∙ sym (ap p (sym (same_number x.channel.id id same)) ∙ keeps)
rows_first p rows x id rest true keeps false other = ap (λ (t : Bool). t || is_among (channels_kept p rows) id) other ∙ rest
rows_first p rows x id rest false drops true same =
    let off : p id ≡ false = ap p (sym (same_number x.channel.id id same)) ∙ drops in
    rest ∙ ap (λ (t : Bool). is_there rows id && t) off ∙ no_and (is_there rows id) ∙ sym off
rows_first p rows x id rest false drops false other = rest

among-rows : (p : ChannelId → Bool) (rows : List Row) (id : ChannelId) → is_among (channels_kept p rows) id ≡ (is_there rows id && p id)
among-rows p [] id = refl
among-rows p (x ∷ rows) id = rows_first p rows x id (among-rows p rows id) (p x.channel.id) refl (eqb x.channel.id.0 id.0) refl

-- whoever is below a top is there
below_there : (rows : List Row) (top id : ChannelId) → (is_there rows id && is_below rows top id) ≡ is_below rows top id
below_there rows top id = by_row (row_of rows id) refl
  where
    by_row : (found : Option Row) → row_of rows id ≡ found → (is_there rows id && is_below rows top id) ≡ is_below rows top id
    by_row None none =
        let off : is_below rows top id ≡ false = ap (λ (way : List ChannelId). list_any (λ channel. channel.0 == top.0) (reverse way)) (upward_missing rows 33 id none) in
        ap (λ (t : Bool). is_there rows id && t) off ∙ no_and (is_there rows id) ∙ sym off
    by_row (Some row) found = ap (λ (t : Bool). t && is_below rows top id) (ap is_some found)

pub among-below : (tree : TreeState) (top id : ChannelId) → is_below tree.channels top id ≡ is_among (below tree top) id
among-below tree top id = sym (among-rows (is_below tree.channels top) tree.channels id ∙ below_there tree.channels top id)

-- among those of a choice
among-choice : (b : Bool) (ids : List ChannelId) (id : ChannelId) → is_among (cond b ids []) id ≡ (b && is_among ids id)
among-choice true ids id = refl
among-choice false ids id = refl

-- over what a ground spreads
pub among-spread : (tree : TreeState) (links children : Bool) (top id : ChannelId)
    → is_among (spread tree links children top) id ≡ (eqb top.0 id.0 || (links && is_among (linked tree top) id) || (children && is_among (below tree top) id))
among-spread tree links children top id =
    list_any-append (λ (one : ChannelId). one.0 == id.0) (top ∷ cond links (linked tree top) []) (cond children (below tree top) [])
    ∙ ap (λ (t : Bool). (eqb top.0 id.0 || t) || is_among (cond children (below tree top) []) id) (among-choice links (linked tree top) id)
    ∙ ap (λ (t : Bool). (eqb top.0 id.0 || (links && is_among (linked tree top) id)) || t) (among-choice children (below tree top) id)

-- among the channels of an aim that has a ground
pub among-covered : (state : StateValue) (aim : Aimed) (ground : Ground) (id : ChannelId) → aim.ground ≡ Some ground
    → is_among (covered state aim) id ≡ (is_among (spread state.tree ground.links ground.children ground.top) id && may state aim.speaker aim.perm id)
among-covered state aim ground id is =
    ap (λ (g : Option Ground). is_among (option_map_or (λ one. filter (may state aim.speaker aim.perm) (spread state.tree one.links one.children one.top)) g []) id) is
    ∙ among-filter (may state aim.speaker aim.perm) (spread state.tree ground.links ground.children ground.top) id

-- what the tree of a state reaches, the state's does
pub reached_in : (state : StateValue) (tree : TreeState) (ground : Ground) (id : ChannelId) (told answer : Bool)
    → tree ≡ state.tree → told ≡ is_among (spread tree ground.links ground.children ground.top) id → told ≡ answer
    → is_among (spread state.tree ground.links ground.children ground.top) id ≡ answer
reached_in state tree ground id told answer same is found =
    ap (λ (t : TreeState). is_among (spread t ground.links ground.children ground.top) id) (sym same) ∙ sym is ∙ found

-- among those that links lead to
pub among-linked : (tree : TreeState) (from id : ChannelId)
    → is_among (linked tree from) id ≡ (is_there tree.channels id && is_reached tree.links (length tree.channels) from id)
among-linked tree from id = among-rows (is_reached tree.links (length tree.channels) from) tree.channels id
