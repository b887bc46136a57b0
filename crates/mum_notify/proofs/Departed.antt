-- A temporary channel that goes is reported.
use Rattle.mum_notify.proofs.Common.{◌≡◌, ℕ, ◌==◌, ◌&&◌, ◌||◌, Bool, true, false, not, cond, List, [], ◌∷◌, ◌++◌, map, filter, Option, Some, None, refl, sym, ap, ◌∙◌, is_some, ⊤, list_any, option_map_or, and_from, both_ways, eq-eqb, eqb-true, false≢true, list_any-append, is_among, ChannelId, least_place, is_below, is_temporary, is_there, number, row_of, TreeState, new_row, with_info, with_new, without_subtree, Channel, ChannelInfo, Row, row_of-map, some_to, still_given, row_of_old, applied, has_member, fits, left_by, with_left_closed, given, channel_parts, IsProper, set_by, with_tree, StateValue, Edit, EditChannel, MakeChannel, RemoveChannel, alone, there_without_subtree, fit_proper, left_alone, channel_ids, channels_gone, is_told_gone}
use Rattle.mum_notify.proofs.{Families.Parts, Families.parts_kept, Families.parts_there, Families.same_channel, Standing.applied_tree, Standing.changed_number}

or_on : (a b : Bool) → b ≡ true → (a || b) ≡ true
or_on true b on = refl
or_on false b on = on

not_off : (b : Bool) → not b ≡ false → b ≡ true
not_off true off = refl
not_off false off = absurd (false≢true (sym off))

-- what a list parts at is among it
among_parts : (ids : List ChannelId) (id : ChannelId) → Parts ids id → is_among ids id ≡ true
among_parts ids id parts =
    ap (λ (xs : List ChannelId). is_among xs id) parts.is ∙ list_any-append (λ (one : ChannelId). one.0 == id.0) parts.front (id ∷ parts.back)
    ∙ or_on (is_among parts.front id) (is_among (id ∷ parts.back) id) (ap (λ (b : Bool). b || is_among parts.back id) (eq-eqb id.0 id.0 refl))

row_there : (found : Option Row) → option_map_or (λ row. row.channel.temporary) found false ≡ true → (row : Row) × (found ≡ Some row)
row_there None off = absurd (false≢true off)
row_there (Some row) on = (row, refl)

-- ---- where a channel is removed with all below it

removed_told : (state after : StateValue) (top id : ChannelId) → is_temporary state.tree.channels id ≡ true → is_there after.tree.channels id ≡ false → is_among (filter (is_told_gone top state.tree after.tree) (channel_ids state.tree)) id ≡ true
removed_told state after top id temporary gone =
    let (row, there) = row_there (row_of state.tree.channels id) temporary in
    let told : is_told_gone top state.tree after.tree id ≡ true =
    and_from ((id.0 == top.0) || is_temporary state.tree.channels id) (not (is_there after.tree.channels id)) (or_on (id.0 == top.0) (is_temporary state.tree.channels id) temporary) (ap not gone) in
    among_parts (filter (is_told_gone top state.tree after.tree) (channel_ids state.tree)) id
    (parts_kept (is_told_gone top state.tree after.tree) (channel_ids state.tree) id told (parts_there state.tree.channels id row there))

-- ---- where another edit empties it

abbrev IsNoRemoval : Edit → Type 0
IsNoRemoval (RemoveChannel id actor) = ⊥
IsNoRemoval edit = ⊤

gone_is : (before : StateValue) (edit : Edit) (after : StateValue) → IsNoRemoval edit → channels_gone before edit after ≡ filter (λ id. not (is_there after.tree.channels id)) (given (left_by before edit))
gone_is before (RemoveChannel id actor) after never = absurd never
gone_is before edit after never = refl

made_there : (state : StateValue) (id new parent : ChannelId) (name : List ℕ) (temporary : Bool) (info : ChannelInfo) → is_there state.tree.channels id ≡ true → is_there (with_info (with_new state.tree new parent name temporary) new info).channels id ≡ true
made_there state id new parent name temporary info there =
    let row : Row = new_row (least_place state.tree.channels) new parent name temporary in
    let change : Channel → Channel = λ channel. record channel { info = info } in
    let f : Row → Row = λ one. cond (number one == new.0) (record one { channel = change one.channel }) one in
    ap is_some (row_of-map f (changed_number new change (λ channel. refl)) (state.tree.channels ++ row ∷ []) id)
    ∙ some_to f (row_of (state.tree.channels ++ row ∷ []) id) (old (row_of state.tree.channels id) refl there)
  where
    old : (found : Option Row) → row_of state.tree.channels id ≡ found → is_some found ≡ true → is_some (row_of (state.tree.channels ++ new_row (least_place state.tree.channels) new parent name temporary ∷ []) id) ≡ true
    old None is some = absurd (false≢true some)
    old (Some found) is some = ap is_some (row_of_old state.tree.channels (new_row (least_place state.tree.channels) new parent name temporary) id found is)

set_there : (state : StateValue) (edit : Edit) (id : ChannelId) → IsNoRemoval edit → is_there state.tree.channels id ≡ true → is_there (set_by state edit).tree.channels id ≡ true
set_there state (MakeChannel new parent name temporary info None) id never there = made_there state id new parent name temporary info there
set_there state (MakeChannel new parent name true info (Some maker)) id never there = made_there state id new parent name true info there
set_there state (MakeChannel new parent name false info (Some maker)) id never there = made_there state id new parent name false info there
set_there state (EditChannel other actor name parent description position max_users links_add links_remove) id never there =
    still_given state.tree.channels other (channel_parts name parent description position max_users links_add links_remove) id there
set_there state (RemoveChannel top actor) id never there = absurd never
set_there state edit id never there = there

emptied_told : (set : StateValue) (left : Option ChannelId) (tree : TreeState) (id : ChannelId) → IsProper set → ((top : ChannelId) → left ≡ Some top → is_temporary set.tree.channels top ≡ true) → tree ≡ (with_left_closed left set).tree
    → is_there set.tree.channels id ≡ true → is_there tree.channels id ≡ false → is_among (filter (λ one. not (is_there tree.channels one)) (given left)) id ≡ true
emptied_told set None tree id proper kind is there gone = absurd (both_ways (is_there tree.channels id) gone (ap (λ (one : TreeState). is_there one.channels id) is ∙ there))
emptied_told set (Some top) tree id proper kind is there gone = step (has_member set.roster.sessions top) is
  where
    step : (b : Bool) → tree ≡ (cond b set (with_tree set (without_subtree set.tree top))).tree → is_among (cond {A = List ChannelId} (not (is_there tree.channels top)) (top ∷ []) []) id ≡ true
    step true same = absurd (both_ways (is_there tree.channels id) gone (ap (λ (one : TreeState). is_there one.channels id) same ∙ there))
    step false cut =
        let off : (is_there set.tree.channels id && not (is_below set.tree.channels top id)) ≡ false =
        sym (there_without_subtree set.tree top id) ∙ ap (λ (one : TreeState). is_there one.channels id) (sym cut) ∙ gone in
        let below : is_below set.tree.channels top id ≡ true =
        not_off (is_below set.tree.channels top id) (ap (λ (b : Bool). b && not (is_below set.tree.channels top id)) (sym there) ∙ off) in
        let same : id ≡ top = same_channel id top (eqb-true id.0 top.0 (sym (alone set.tree top proper.tree (kind top refl) id there) ∙ below)) in
        let out : is_there tree.channels top ≡ false = ap (is_there tree.channels) (sym same) ∙ gone in
        ap (λ (b : Bool). is_among (cond {A = List ChannelId} (not b) (top ∷ []) []) id) out
        ∙ ap (λ (b : Bool). b || false) (eq-eqb top.0 id.0 (ap (λ (one : ChannelId). one.0) (sym same)))

pub gone_are_told_lem : (state : StateValue) (edit : Edit) (id : ChannelId) → IsProper state → fits state edit ≡ true → is_temporary state.tree.channels id ≡ true → is_there (applied state edit).tree.channels id ≡ false → is_among (channels_gone state edit (applied state edit)) id ≡ true
gone_are_told_lem state (RemoveChannel top actor) id proper fit temporary gone = removed_told state (applied state (RemoveChannel top actor)) top id temporary gone
gone_are_told_lem state edit id proper fit temporary gone =
    let there = ap is_some (row_there (row_of state.tree.channels id) temporary).1 in
    ap (λ (ids : List ChannelId). is_among ids id) (gone_is state edit (applied state edit) tt)
    ∙ emptied_told (set_by state edit) (left_by state edit) (applied state edit).tree id (fit_proper state edit proper fit).0 (left_alone state edit proper).temporary (applied_tree state edit proper fit) (set_there state edit id tt there) gone
