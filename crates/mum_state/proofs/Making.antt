-- A channel more.
use Rattle.mum_state.proofs.Common.{◌≡◌, ◌≢◌, ℕ, ◌<◌, ◌≤◌, ◌&&◌, ◌++◌, Bool, true, false, cond, eqb, List, [], ◌∷◌, length, get_or, map, refl, sym, ap, subst, ◌∙◌, arith, Option, Some, None, is_none, is_some, list_all, and_from, and_parts, eq-eqb, map-append, ChannelId, SessionId, Channel, ChannelInfo, Row, least_place, IsProperTree, fault_of_add, is_there, number, row_of, TreeState, changed, new_row, plain_info, with_info, with_new, adds_both_ways, changed_none, informed, informed_proper, some_row, row_of_old, User, placed, has_number, IsProper-changed, IsProper, is_name, is_sound_channel, is_sound_policy, is_sound_user, is_text, with_made, with_maker_in, PolicyRow, StateValue, policy_row}
use Rattle.mum_state.proofs.{Givens.is_none_of, Givens.none_is, Listed.all_changed, Listed.all_push, Listed.all_too, Listed.last_passes, Parted.with_channels, Parted.with_roster, Quiet.rows_there}

-- the row of the new channel
abbrev made_row : TreeState → ChannelId → ChannelId → List ℕ → Bool → ChannelInfo → Row
made_row tree id parent name temporary info = record {
  place = least_place tree.channels;
  channel = record { id = id; parent = parent; name = name; temporary = temporary; info = info };
}

-- the tree with it
abbrev pub made_tree : TreeState → ChannelId → ChannelId → List ℕ → Bool → ChannelInfo → TreeState
made_tree tree id parent name temporary info = with_info (with_new tree id parent name temporary) id info

-- a change of the last row, whose number no other has
changed_last : (rows : List Row) (last : Row) (id : ChannelId) (change : Channel → Channel) → ((k : ℕ) (d : Row) → k < length rows → number (get_or rows k d) ≢ id.0) → eqb (number last) id.0 ≡ true
    → changed id change (rows ++ last ∷ []) ≡ rows ++ record last { channel = change last.channel } ∷ []
changed_last rows last id change others is =
    map-append _ rows (last ∷ [])
    ∙ ap (λ (front : List Row). front ++ changed id change (last ∷ [])) (changed_none rows id change others)
    ∙ ap (λ (b : Bool). rows ++ cond b (record last { channel = change last.channel }) last ∷ []) is

module _ (tree : TreeState) (id parent : ChannelId) (name : List ℕ) (temporary : Bool) (info : ChannelInfo) (proper : IsProperTree tree) (above : tree.greatest < id.0) where
  others : (k : ℕ) (d : Row) → k < length tree.channels → number (get_or tree.channels k d) ≢ id.0
  others k d within same = let known : number (get_or tree.channels k d) ≤ tree.greatest = proper.known k d within in absurd (omega arith)

  -- its rows are those that were, and its own
  rows_made : (made_tree tree id parent name temporary info).channels ≡ tree.channels ++ made_row tree id parent name temporary info ∷ []
  rows_made = changed_last tree.channels (new_row (least_place tree.channels) id parent name temporary) id (informed info) others (eq-eqb id.0 id.0 refl)

  plain_again : changed id (informed plain_info) (tree.channels ++ made_row tree id parent name temporary info ∷ []) ≡ (with_new tree id parent name temporary).channels
  plain_again = changed_last tree.channels (made_row tree id parent name temporary info) id (informed plain_info) others (eq-eqb id.0 id.0 refl)

  tree_to : fault_of_add tree id parent name ≡ None → IsProperTree (made_tree tree id parent name temporary info)
  tree_to none = informed_proper (with_new tree id parent name temporary) id info ((adds_both_ways tree id parent name temporary proper above).0 none)

  tree_from : IsProperTree (made_tree tree id parent name temporary info) → fault_of_add tree id parent name ≡ None
  tree_from after =
      let plain : IsProperTree (record { channels = changed id (informed plain_info) (made_tree tree id parent name temporary info).channels; links = tree.links; greatest = id.0; limit = tree.limit }) =
      informed_proper (made_tree tree id parent name temporary info) id plain_info after in
      (adds_both_ways tree id parent name temporary proper above).1
      (subst (λ (rows : List Row). IsProperTree (record { channels = rows; links = tree.links; greatest = id.0; limit = tree.limit }))
      (ap (changed id (informed plain_info)) rows_made ∙ plain_again) plain)

  -- what was there is there, and the new channel is
  there_made : (channel : ChannelId) → is_there tree.channels channel ≡ true → is_there (made_tree tree id parent name temporary info).channels channel ≡ true
  there_made channel there =
      let (row, found) = some_row (row_of tree.channels channel) there in
      ap (λ (rows : List Row). is_there rows channel) rows_made
      ∙ ap is_some (row_of_old tree.channels (made_row tree id parent name temporary info) channel row found)

  made_there : is_there (made_tree tree id parent name temporary info).channels id ≡ true
  made_there =
      let all : List Row = tree.channels ++ made_row tree id parent name temporary info ∷ [] in
      ap (λ (rows : List Row). is_there rows id) rows_made
      ∙ last_passes (λ row. is_there all row.channel.id) tree.channels (made_row tree id parent name temporary info) (rows_there all)

-- nothing forbids the new channel, and its texts are as they may be
abbrev pub may_make : StateValue → ChannelId → ChannelId → List ℕ → ChannelInfo → Bool
may_make state id parent name info =
    is_none (fault_of_add state.tree id parent name) && is_name name && is_text info.description

module _ (state : StateValue) (id parent : ChannelId) (name : List ℕ) (temporary : Bool) (info : ChannelInfo) (proper : IsProper state) (above : state.tree.greatest < id.0) where
  governed : map (λ row. row.channel) (state.policies ++ policy_row id ∷ []) ≡ map (λ row. row.channel.id) (made_tree state.tree id parent name temporary info).channels
  governed =
      map-append (λ (row : PolicyRow). row.channel) state.policies (policy_row id ∷ [])
      ∙ ap (λ (ids : List ChannelId). ids ++ id ∷ []) proper.policies
      ∙ sym (map-append (λ (row : Row). row.channel.id) state.tree.channels (made_row state.tree id parent name temporary info ∷ []))
      ∙ ap (map (λ (row : Row). row.channel.id)) (sym (rows_made state.tree id parent name temporary info proper.tree above))

  made_to : may_make state id parent name info ≡ true → IsProper (with_made state (made_tree state.tree id parent name temporary info) id)
  made_to may =
      let none : Bool = is_none (fault_of_add state.tree id parent name) in
      let both = and_parts (none && is_name name) (is_text info.description) may in
      let parts = and_parts none (is_name name) both.0 in
      with_channels state (made_tree state.tree id parent name temporary info) (state.policies ++ policy_row id ∷ []) proper
      (tree_to state.tree id parent name temporary info proper.tree above (none_is (fault_of_add state.tree id parent name) parts.0))
      (subst (λ (rows : List Row). list_all is_sound_channel rows ≡ true) (sym (rows_made state.tree id parent name temporary info proper.tree above))
      (all_push is_sound_channel state.tree.channels (made_row state.tree id parent name temporary info) (and_from (is_name name) (is_text info.description) parts.1 both.1) proper.channels))
      governed
      (all_push (λ row. is_sound_policy row.policy) state.policies (policy_row id) refl proper.sound_policies)
      (all_too (λ user. is_there state.tree.channels user.channel) (λ user. is_there (made_tree state.tree id parent name temporary info).channels user.channel) (λ user. there_made state.tree id parent name temporary info proper.tree above user.channel) state.roster.sessions proper.inside)
      (all_too (λ pair. is_there state.tree.channels pair.channel) (λ pair. is_there (made_tree state.tree id parent name temporary info).channels pair.channel) (λ pair. there_made state.tree id parent name temporary info proper.tree above pair.channel) state.roster.listeners proper.listening)

  made_from : IsProperTree (made_tree state.tree id parent name temporary info) → list_all is_sound_channel (made_tree state.tree id parent name temporary info).channels ≡ true → may_make state id parent name info ≡ true
  made_from tree sound =
      let none : Bool = is_none (fault_of_add state.tree id parent name) in
      let parts = and_parts (is_name name) (is_text info.description)
      (last_passes is_sound_channel state.tree.channels (made_row state.tree id parent name temporary info)
      (subst (λ (rows : List Row). list_all is_sound_channel rows ≡ true) (rows_made state.tree id parent name temporary info proper.tree above) sound)) in
      and_from (none && is_name name) (is_text info.description)
      (and_from none (is_name name) (is_none_of (fault_of_add state.tree id parent name) (tree_from state.tree id parent name temporary info proper.tree above tree)) parts.0)
      parts.1

-- a session enters a channel that is there
pub placed_proper : (state : StateValue) (session : SessionId) (channel : ChannelId) → IsProper state → is_there state.tree.channels channel ≡ true → IsProper (record state { roster = placed state.roster session channel })
placed_proper state session channel proper there =
    let enter : User → User = λ user. record user { channel = channel } in
    with_roster state (placed state.roster session channel) proper
    (IsProper-changed state.roster session enter (record { session = λ user. refl; slot = λ user. refl; name = λ user. refl; silence = λ user mute. mute }) proper.roster)
    (all_changed is_sound_user (has_number session) enter (λ user sound. sound) state.roster.sessions proper.users)
    (all_changed (λ user. is_there state.tree.channels user.channel) (has_number session) enter (λ user was. there) state.roster.sessions proper.inside)
    proper.listening

-- nothing forbids a new channel exactly where the state with it, its maker in it if it is temporary, is proper
pub making_to : (state : StateValue) (id parent : ChannelId) (name : List ℕ) (temporary : Bool) (info : ChannelInfo) (maker : Option SessionId) → IsProper state → state.tree.greatest < id.0 → may_make state id parent name info ≡ true
    → IsProper (with_maker_in (with_made state (made_tree state.tree id parent name temporary info) id) id temporary maker)
making_to state id parent name temporary info None proper above may = made_to state id parent name temporary info proper above may
making_to state id parent name false info (Some maker) proper above may = made_to state id parent name false info proper above may
making_to state id parent name true info (Some maker) proper above may =
    placed_proper (with_made state (made_tree state.tree id parent name true info) id) maker id (made_to state id parent name true info proper above may)
    (made_there state.tree id parent name true info proper.tree above)

pub making_from : (state : StateValue) (id parent : ChannelId) (name : List ℕ) (temporary : Bool) (info : ChannelInfo) (maker : Option SessionId) → IsProper state → state.tree.greatest < id.0
    → IsProper (with_maker_in (with_made state (made_tree state.tree id parent name temporary info) id) id temporary maker)
    → may_make state id parent name info ≡ true
making_from state id parent name temporary info None proper above after = made_from state id parent name temporary info proper above after.tree after.channels
making_from state id parent name false info (Some maker) proper above after = made_from state id parent name false info proper above after.tree after.channels
making_from state id parent name true info (Some maker) proper above after = made_from state id parent name true info proper above after.tree after.channels
