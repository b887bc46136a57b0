-- A state stays proper where one of its parts becomes another that is as it may be.
use Rattle.mum_state.proofs.Common.{◌≡◌, ◌&&◌, not, Bool, true, false, List, map, refl, sym, ap, ◌∙◌, filter, list_all, ChannelId, Row, IsProperTree, is_there, TreeState, without_rows, IsProperRoster, RosterState, IsProper-fewer_listeners, AreCounts, IsProper, is_sound_channel, is_sound_policy, is_sound_user, with_tree, Counts, PolicyRow, StateValue}
use Rattle.mum_state.proofs.{Gone.rows_of, Gone.there_of, Listed.all_filter, Listed.all_passing, Listed.filter_same, Listed.map_filter, Quiet.rows_there}

-- another roster
pub with_roster : (state : StateValue) (roster : RosterState) → IsProper state → IsProperRoster roster → list_all is_sound_user roster.sessions ≡ true
    → list_all (λ user. is_there state.tree.channels user.channel) roster.sessions ≡ true
    → list_all (λ pair. is_there state.tree.channels pair.channel) roster.listeners ≡ true
    → IsProper (record state { roster = roster })
with_roster state roster proper good sound inside listening = record {
  welcome = proper.welcome;
  names = proper.names;
  accounts = proper.accounts;
  few_accounts = proper.few_accounts;
  short_names = proper.short_names;
  tree = proper.tree;
  channels = proper.channels;
  policies = proper.policies;
  sound_policies = proper.sound_policies;
  roster = good;
  users = sound;
  inside = inside;
  listening = listening;
  counts = proper.counts;
}

-- other channels and policies, where what was there is there
pub with_channels : (state : StateValue) (tree : TreeState) (policies : List PolicyRow) → IsProper state → IsProperTree tree → list_all is_sound_channel tree.channels ≡ true
    → map (λ row. row.channel) policies ≡ map (λ row. row.channel.id) tree.channels
    → list_all (λ row. is_sound_policy row.policy) policies ≡ true
    → list_all (λ user. is_there tree.channels user.channel) state.roster.sessions ≡ true
    → list_all (λ pair. is_there tree.channels pair.channel) state.roster.listeners ≡ true
    → IsProper (record state { tree = tree; policies = policies })
with_channels state tree policies proper good sound same sound_policies inside listening = record {
  welcome = proper.welcome;
  names = proper.names;
  accounts = proper.accounts;
  few_accounts = proper.few_accounts;
  short_names = proper.short_names;
  tree = good;
  channels = sound;
  policies = same;
  sound_policies = sound_policies;
  roster = proper.roster;
  users = proper.users;
  inside = inside;
  listening = listening;
  counts = proper.counts;
}

-- other counts
pub with_counts : (state : StateValue) (counts : Counts) → IsProper state → AreCounts counts → IsProper (record state { counts = counts })
with_counts state counts proper are = record {
  welcome = proper.welcome;
  names = proper.names;
  accounts = proper.accounts;
  few_accounts = proper.few_accounts;
  short_names = proper.short_names;
  tree = proper.tree;
  channels = proper.channels;
  policies = proper.policies;
  sound_policies = proper.sound_policies;
  roster = proper.roster;
  users = proper.users;
  inside = proper.inside;
  listening = proper.listening;
  counts = are;
}

-- the policies of the rows that stay
policies_of : (stays : ChannelId → Bool) (rows : List Row) (policies : List PolicyRow) → map (λ row. row.channel) policies ≡ map (λ row. row.channel.id) rows
    → map (λ row. row.channel) (filter (λ row. is_there (rows_of stays rows) row.channel) policies) ≡ map (λ row. row.channel.id) (rows_of stays rows)
policies_of stays rows policies same =
    map_filter (λ (row : PolicyRow). row.channel) (is_there (rows_of stays rows)) policies
    ∙ ap (filter (is_there (rows_of stays rows))) same
    ∙ sym (map_filter (λ (row : Row). row.channel.id) (is_there (rows_of stays rows)) rows)
    ∙ ap (map (λ (row : Row). row.channel.id))
    (filter_same (λ row. is_there (rows_of stays rows) row.channel.id) (λ row. stays row.channel.id) (λ row. is_there rows row.channel.id)
    (λ row there. there_of stays rows row.channel.id ∙ ap (λ b. b && stays row.channel.id) there) rows (rows_there rows))

not_not : (b : Bool) → not (not b) ≡ true → b ≡ true
not_not true on = refl
not_not false on = on

-- only some channels stay, and everybody is in one of them
pub cut : (state : StateValue) (stays : ChannelId → Bool) → IsProper state → IsProperTree (without_rows state.tree (rows_of stays state.tree.channels))
    → list_all (λ user. is_there (rows_of stays state.tree.channels) user.channel) state.roster.sessions ≡ true
    → IsProper (with_tree state (without_rows state.tree (rows_of stays state.tree.channels)))
cut state stays proper good inside =
    let kept : List Row = rows_of stays state.tree.channels in
    record {
      welcome = proper.welcome;
      names = proper.names;
      accounts = proper.accounts;
      few_accounts = proper.few_accounts;
      short_names = proper.short_names;
      tree = good;
      channels = all_filter is_sound_channel (λ row. stays row.channel.id) state.tree.channels proper.channels;
      policies = policies_of stays state.tree.channels state.policies proper.policies;
      sound_policies = all_filter (λ row. is_sound_policy row.policy) (λ row. is_there kept row.channel) state.policies proper.sound_policies;
      roster = IsProper-fewer_listeners state.roster (λ pair. not (not (is_there kept pair.channel))) proper.roster;
      users = proper.users;
      inside = inside;
      listening = all_passing (λ pair. is_there kept pair.channel) (λ pair. not (not (is_there kept pair.channel))) (λ pair. not_not (is_there kept pair.channel)) state.roster.listeners;
      counts = proper.counts;
    }
