-- What an edit leaves is what it sets, but for suppression and for temporary channels that are emptied.
use Rattle.mum_rights_laws.proofs.Common.{◌≡◌, ◌==◌, ◌&&◌, not, Bool, true, false, Option, Some, None, refl, ap, sym, ◌∙◌, filter, find, list_any, is_some, option_map, and_parts, eqb-true, not-true, ChannelId, SessionId, is_there, row_of, Pair, are_linked, is_link, Row, kept_row, there_after, listens, session_of, has_number, is_pair, ListenerPair, User, applied, has_member, is_emptied, IsProper, set_by, PolicyRow, StateValue, policy_of, Edit, shown, heard, heard_after, silent_after, IsEmptied}
use Rattle.mum_rights_laws.proofs.Kept.{any_kept, found_kept, found_mapped}

pub same_channel : (one other : ChannelId) → (one.0 == other.0) ≡ true → one ≡ other
same_channel one other is = ap (λ n. record { 0 = n }) (eqb-true one.0 other.0 is)

pub same_session : (one other : SessionId) → (one.0 == other.0) ≡ true → one ≡ other
same_session one other is = ap (λ n. record { 0 = n }) (eqb-true one.0 other.0 is)

both_last : (a b c : Bool) → (a && (b && c)) ≡ ((a && b) && c)
both_last true b c = refl
both_last false b c = refl

module _ (before : StateValue) (edit : Edit) where
  abbrev made : StateValue
  made = set_by before edit

  abbrev after : StateValue
  after = applied before edit

  -- ---- sessions

  found_after : (session : SessionId) → session_of after.roster session ≡ option_map (heard (silent_after before edit made)) (session_of made.roster session)
  found_after session =
      ap (λ (s : StateValue). session_of s.roster session) (heard_after before edit made)
      ∙ found_mapped (has_number session) (heard (silent_after before edit made)) (λ user. refl) made.roster.sessions

  -- who is there after the edit is who was set, but for suppression
  pub found_as : (session : SessionId) (now : User) → session_of after.roster session ≡ Some now
      → (mid : User) × (session_of made.roster session ≡ Some mid) × (heard (silent_after before edit made) mid ≡ now)
  found_as session now is = shown (heard (silent_after before edit made)) (session_of made.roster session) now (sym (found_after session) ∙ is)

  none_of : (f : User → User) (o : Option User) → option_map f o ≡ None → o ≡ None
  none_of f None is = refl
  none_of f (Some user) is = cc

  pub gone_as : (session : SessionId) → session_of after.roster session ≡ None → session_of made.roster session ≡ None
  gone_as session is = none_of (heard (silent_after before edit made)) (session_of made.roster session) (sym (found_after session) ∙ is)

  pub gone_from : (session : SessionId) → session_of made.roster session ≡ None → session_of after.roster session ≡ None
  gone_from session is = found_after session ∙ ap (option_map (heard (silent_after before edit made))) is

  -- ---- channels

  stays : Row → Bool
  stays row = not (is_emptied before.roster.sessions after.roster.sessions row)

  rows_are : after.tree.channels ≡ filter (λ row. not (is_emptied before.roster.sessions after.roster.sessions row)) made.tree.channels
  rows_are =
      ap (λ (s : StateValue). filter (λ row. not (is_emptied before.roster.sessions after.roster.sessions row)) s.tree.channels) (heard_after before edit made)

  -- a channel that is there after the edit is one that was set
  pub lasting : IsProper made → (id : ChannelId) (now : Row) → row_of after.tree.channels id ≡ Some now → row_of made.tree.channels id ≡ Some now
  lasting proper id now is =
      let q : Row → Bool = λ row. not (is_emptied before.roster.sessions after.roster.sessions row) in
      let kept : row_of (filter q made.tree.channels) id ≡ Some now = sym (ap (λ rows. row_of rows id) rows_are) ∙ is in
      let (row, found, stay) = there_after q made.tree.channels id proper.tree.rise (ap is_some kept) in
      let same : Some row ≡ Some now = sym (kept_row q made.tree.channels id row found stay) ∙ kept in
      found ∙ same

  -- one that was set and is not there is emptied
  pub emptied : (id : ChannelId) (row : Row) → row_of made.tree.channels id ≡ Some row → row_of after.tree.channels id ≡ None → IsEmptied before after row
  emptied id row found gone = step (is_emptied before.roster.sessions after.roster.sessions row) refl
    where
      step : (b : Bool) → is_emptied before.roster.sessions after.roster.sessions row ≡ b → IsEmptied before after row
      step true is =
          let (first, last) = and_parts (row.channel.temporary && has_member before.roster.sessions row.channel.id) (not (has_member after.roster.sessions row.channel.id)) is in
          let (temporary, left) = and_parts row.channel.temporary (has_member before.roster.sessions row.channel.id) first in
          record { temporary = temporary; left = left; empty = not-true (has_member after.roster.sessions row.channel.id) last }
      step false is =
          let kept : row_of after.tree.channels id ≡ Some row =
          ap (λ rows. row_of rows id) rows_are
          ∙ kept_row (λ one. not (is_emptied before.roster.sessions after.roster.sessions one)) made.tree.channels id row found (ap not is) in
          let no : Some row ≡ None = sym kept ∙ gone in cc

  pub linked : (one other : ChannelId)
      → are_linked after.tree one other ≡ (are_linked made.tree one other && is_there after.tree.channels one && is_there after.tree.channels other)
  linked one other =
      let rows = after.tree.channels in
      ap (λ (s : StateValue). list_any (is_link one other) (filter (λ pair. is_there rows pair.0 && is_there rows pair.1) s.tree.links)) (heard_after before edit made)
      ∙ any_kept (is_link one other) (λ (pair : Pair). is_there rows pair.0 && is_there rows pair.1) (is_there rows one && is_there rows other)
      (λ pair is.
      let (first, last) = and_parts (pair.0.0 == one.0) (pair.1.0 == other.0) is in
      ap (λ c. is_there rows c && is_there rows pair.1) (same_channel pair.0 one first) ∙ ap (λ c. is_there rows one && is_there rows c) (same_channel pair.1 other last))
      made.tree.links
      ∙ both_last (are_linked made.tree one other) (is_there rows one) (is_there rows other)

  -- a channel that stays has the policy that was set
  pub ruled : (id : ChannelId) → is_there after.tree.channels id ≡ true → policy_of after id ≡ policy_of made id
  ruled id there =
      let rows = after.tree.channels in
      ap (λ (s : StateValue). option_map (λ (row : PolicyRow). row.policy) (find (λ row. row.channel.0 == id.0) (filter (λ row. is_there rows row.channel) s.policies))) (heard_after before edit made)
      ∙ ap (option_map (λ (row : PolicyRow). row.policy))
      (found_kept (λ (row : PolicyRow). row.channel.0 == id.0) (λ row. is_there rows row.channel)
      (λ row is. ap (is_there rows) (same_channel row.channel id is) ∙ there) made.policies)

  -- ---- what sessions have beside their rows

  not_twice : (b : Bool) → not (not b) ≡ b
  not_twice true = refl
  not_twice false = refl

  pub listening : (session : SessionId) (channel : ChannelId)
      → listens after.roster session channel ≡ (listens made.roster session channel && is_there after.tree.channels channel)
  listening session channel =
      let rows = after.tree.channels in
      ap (λ (s : StateValue). list_any (is_pair session channel) (filter (λ pair. not (not (is_there rows pair.channel))) s.roster.listeners)) (heard_after before edit made)
      ∙ any_kept (is_pair session channel) (λ (pair : ListenerPair). not (not (is_there rows pair.channel))) (is_there rows channel)
      (λ pair is. not_twice (is_there rows pair.channel) ∙ ap (is_there rows) (same_channel pair.channel channel (and_parts (pair.session.0 == session.0) (pair.channel.0 == channel.0) is).1))
      made.roster.listeners

  pub aims : after.roster.targets ≡ made.roster.targets
  aims = ap (λ (s : StateValue). s.roster.targets) (heard_after before edit made)
