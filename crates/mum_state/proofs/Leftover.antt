-- The temporary channel that an edit empties is that of the session that goes or enters another.
use Rattle.mum_state.proofs.Common.{◌≡◌, ℕ, zero, suc, ◌<◌, ◌==◌, ◌&&◌, ◌||◌, not, Bool, true, false, cond, List, [], ◌∷◌, ◌++◌, length, get_or, map, refl, sym, ap, ◌∙◌, arith, Option, Some, None, find, is_some, All, filter, list_all, list_any, option_and_then, option_map_or, and_from, and_parts, both_ways, eq-eqb, eqb-true, false≢true, not-true, or_right, list_any_at, none-some, ChannelId, SessionId, ChannelInfo, Row, fault_of_remove, parent_of, Rise, is_below, is_temporary, is_there, number, row_of, changed, new_row, with_info, with_new, without_subtree, least_place, number_found, some_row, row_of_at, kind_kept, remove_allowed, the_root, User, changed_user, has_number, is_in, Edit, AddAccount, EditChannel, Join, Kick, Leave, MakeChannel, RemoveChannel, SetAcl, SetLimits, SetServer, SetTarget, SetTokens, SetUser, Text, empties, has_member, is_emptied, without_emptied, is_left_empty, left_by, temporary_around, with_left_closed, user_parts, IsProper, moved_up, set_by, with_tree, StateValue}
use Rattle.mum_state.proofs.{Closed.found_row_holds, Closed.is_left, Emptying.one_emptied, Gone.there_without_subtree, Members.any_agree, Members.any_inserted, Members.any_mapped, Members.found_in, Members.found_member, Members.none_passes, Quiet.nothing_emptied, Renewing.targeted_sessions, Suppressed.heard, Suppressed.heard_members}

any_too : {X : Type 0} (p q : X → Bool) → ((x : X) → p x ≡ true → q x ≡ true) → (xs : List X) → list_any p xs ≡ true → list_any q xs ≡ true
any_too p q so [] some = absurd (false≢true some)
any_too p q so (x ∷ xs) some = step (p x) refl some (any_too p q so xs)
  where
    step : (b : Bool) → p x ≡ b → (b || list_any p xs) ≡ true → (list_any p xs ≡ true → list_any q xs ≡ true) → (q x || list_any q xs) ≡ true
    step true is some-2 rest = ap (λ b. b || list_any q xs) (so x is)
    step false is some-2 rest = or_right (q x) (list_any q xs) (rest some-2)

kept_at : {X : Type 0} (p q : X → Bool) (xs : List X) (k : ℕ) (d : X) → k < length xs → q (get_or xs k d) ≡ true → p (get_or xs k d) ≡ true → list_any p (filter q xs) ≡ true
kept_at p q [] k d within stays passes = absurd (omega arith)
kept_at {X} p q (x ∷ xs) zero d within stays passes = ap (λ (b : Bool). list_any p (cond b (x ∷ filter q xs) (filter q xs))) stays ∙ ap (λ b. b || list_any p (filter q xs)) passes
kept_at {X} p q (x ∷ xs) (suc k) d within stays passes = step (q x) (kept_at p q xs k d (omega arith) stays passes)
  where
    step : (b : Bool) → list_any p (filter q xs) ≡ true → list_any p (cond b (x ∷ filter q xs) (filter q xs)) ≡ true
    step true rest = or_right (p x) (list_any p (filter q xs)) rest
    step false rest = rest

in_itself : (user : User) → is_in user.channel user ≡ true
in_itself user = eq-eqb user.channel.0 user.channel.0 refl

same_channel : (one other : ChannelId) → (one.0 == other.0) ≡ true → one ≡ other
same_channel one other is = ap (λ n. record { 0 = n }) (eqb-true one.0 other.0 is)

-- ---- what is left where one session moves

-- no channel is left by all its members but this one, if one is reported; and that is temporary, and had one
pub record IsLeftAlone (was now : List User) (rows : List Row) (left : Option ChannelId) : Type 0 where
  pub only : (other : ChannelId) → is_left was now rows other ≡ true → (id : ChannelId) × (left ≡ Some id) × (other.0 ≡ id.0)
  pub temporary : (id : ChannelId) → left ≡ Some id → is_temporary rows id ≡ true
  pub member : (id : ChannelId) → left ≡ Some id → has_member was id ≡ true

record IsLeft (was now : List User) (rows : List Row) (other : ChannelId) : Type 0 where
  temporary : is_temporary rows other ≡ true
  member : has_member was other ≡ true
  gone : has_member now other ≡ false

left_parts : (was now : List User) (rows : List Row) (other : ChannelId) → is_left was now rows other ≡ true → IsLeft was now rows other
left_parts was now rows other left =
    let front = and_parts (is_temporary rows other && has_member was other) (not (has_member now other)) left in
    let parts = and_parts (is_temporary rows other) (has_member was other) front.0 in
    record { temporary = parts.0; member = parts.1; gone = not-true (has_member now other) front.1 }

-- where all who were in a channel are still there
none_left : (was now : List User) (rows : List Row) → ((other : ChannelId) → is_temporary rows other ≡ true → has_member was other ≡ true → has_member now other ≡ true) → IsLeftAlone was now rows None
none_left was now rows stays = record {
  only = λ other left.
      let parts = left_parts was now rows other left in
      absurd (both_ways (has_member now other) parts.gone (stays other parts.temporary parts.member));
  temporary = λ id is. absurd (none-some id is);
  member = λ id is. absurd (none-some id is);
}

-- whoever was in a channel in which nobody is, is the session that moved
mover_only : (session : SessionId) (now : List User) (other : ChannelId) → has_member now other ≡ false → (was : List User)
    → All (λ user. has_number session user ≡ false → has_member now user.channel ≡ true) was → has_member was other ≡ true
    → list_any (λ user. has_number session user && is_in other user) was ≡ true
mover_only session now other gone [] stays some = absurd (false≢true some)
mover_only session now other gone (user ∷ users) stays some =
    step (has_number session user) (is_in other user) refl refl some (mover_only session now other gone users (λ k d within. stays (suc k) d (omega arith)))
  where
    step : (own inside : Bool) → has_number session user ≡ own → is_in other user ≡ inside → (inside || list_any (is_in other) users) ≡ true
        → (list_any (is_in other) users ≡ true → list_any (λ one. has_number session one && is_in other one) users ≡ true)
        → ((own && inside) || list_any (λ one. has_number session one && is_in other one) users) ≡ true
    step true true own inside some-2 rest = refl
    step false true own inside some-2 rest =
        let still : has_member now user.channel ≡ true = stays 0 user (omega arith) own in
        absurd (both_ways (has_member now other) gone (ap (has_member now) (sym (same_channel user.channel other inside)) ∙ still))
    step true false own inside some-2 rest = rest some-2
    step false false own inside some-2 rest = rest some-2

-- the channel around a session is temporary, and the session is in it
record IsAround (state : StateValue) (id : ChannelId) : Type 0 where
  temporary : is_temporary state.tree.channels id ≡ true
  member : has_member state.roster.sessions id ≡ true

around_is : (state : StateValue) (session : SessionId) (id : ChannelId) → temporary_around state session ≡ Some id → IsAround state id
around_is state session id is = by (find (has_number session) state.roster.sessions) refl is
  where
    by : (found : Option User) → find (has_number session) state.roster.sessions ≡ found
        → option_and_then (λ user. cond (is_temporary state.tree.channels user.channel) (Some user.channel) None) found ≡ Some id → IsAround state id
    by None found around = absurd (none-some id around)
    by (Some user) found around = kind (is_temporary state.tree.channels user.channel) refl around
      where
        kind : (b : Bool) → is_temporary state.tree.channels user.channel ≡ b → cond b (Some user.channel) None ≡ Some id → IsAround state id
        kind true on some =
            let same : user.channel ≡ id = cc in record {
              temporary = ap (is_temporary state.tree.channels) (sym same) ∙ on;
              member = ap (has_member state.roster.sessions) (sym same) ∙ found_member session state.roster.sessions user found;
            }
        kind false off none = absurd (none-some id none)

-- where one session leaves or moves, the channel around it is all that may be left
mover_left : (state : StateValue) (session : SessionId) (now : List User) (rows : List Row) → IsProper state
    → All (λ user. has_number session user ≡ false → has_member now user.channel ≡ true) state.roster.sessions
    → ((other : ChannelId) → has_member state.roster.sessions other ≡ true → is_temporary rows other ≡ is_temporary state.tree.channels other)
    → IsLeftAlone state.roster.sessions now rows (temporary_around state session)
mover_left state session now rows proper stays kind = record {
  only = λ other left.
      let parts = left_parts state.roster.sessions now rows other left in
      let found = found_in session (is_in other) state.roster.sessions proper.roster.numbers (mover_only session now other parts.gone state.roster.sessions stays parts.member) in
      let same : found.user.channel ≡ other = same_channel found.user.channel other found.passes in
      let on : is_temporary state.tree.channels found.user.channel ≡ true = ap (is_temporary state.tree.channels) same ∙ sym (kind other parts.member) ∙ parts.temporary in (
        found.user.channel,
        ap (λ (o : Option User). option_and_then (λ user. cond (is_temporary state.tree.channels user.channel) (Some user.channel) None) o) found.found
            ∙ ap (λ (b : Bool). cond b (Some found.user.channel) None) on,
        ap (λ (id : ChannelId). id.0) (sym same),
      );
  temporary = λ id is. let around = around_is state session id is in kind id around.member ∙ around.temporary;
  member = λ id is. (around_is state session id is).member;
}

-- ---- by each edit

leaver_left : (state : StateValue) (session : SessionId) → IsProper state → IsLeftAlone state.roster.sessions (filter (λ user. not (has_number session user)) state.roster.sessions) state.tree.channels (temporary_around state session)
leaver_left state session proper =
    mover_left state session (filter (λ user. not (has_number session user)) state.roster.sessions) state.tree.channels proper
    (λ k d within other.
    let user : User = get_or state.roster.sessions k d in
    kept_at (is_in user.channel) (λ one. not (has_number session one)) state.roster.sessions k d within (ap not other) (in_itself user))
    (λ other member. refl)

-- whoever does not change is where it was
others_stay : (session : SessionId) (change : User → User) (users : List User)
    → All (λ user. has_number session user ≡ false → has_member (map (λ one. cond (has_number session one) (change one) one) users) user.channel ≡ true) users
others_stay session change users k d within other =
    let user : User = get_or users k d in
    let g : User → User = λ one. cond (has_number session one) (change one) one in
    any_mapped (is_in user.channel) g users
    ∙ list_any_at (λ one. is_in user.channel (g one)) users k d within
    (ap (λ (b : Bool). is_in user.channel (cond b (change user) user)) other ∙ in_itself user)

-- rows with another info are as temporary
kind_informed : (rows : List Row) (id : ChannelId) (info : ChannelInfo) (other : ChannelId) → is_temporary (changed id (λ channel. record channel { info = info }) rows) other ≡ is_temporary rows other
kind_informed [] id info other = refl
kind_informed (row ∷ rows) id info other = step (number row == id.0) (number row == other.0) (kind_informed rows id info other)
  where
    rest : List Row
    rest = changed id (λ channel. record channel { info = info }) rows

    one : Bool → Row
    one b = cond b (record row { channel = record row.channel { info = info } }) row

    step : (b is : Bool) → is_temporary rest other ≡ is_temporary rows other
        → option_map_or (λ r. r.channel.temporary) (cond (number (cond b (record row { channel = record row.channel { info = info } }) row) == other.0) (Some (cond b (record row { channel = record row.channel { info = info } }) row)) (row_of (changed id (λ channel. record channel { info = info }) rows) other)) false
        ≡ option_map_or (λ r. r.channel.temporary) (cond (number row == other.0) (Some row) (row_of rows other)) false
    step true is later = found (number row == other.0) later
      where
        found : (b : Bool) → is_temporary rest other ≡ is_temporary rows other
            → option_map_or (λ r. r.channel.temporary) (cond b (Some (record row { channel = record row.channel { info = info } })) (row_of (changed id (λ channel. record channel { info = info }) rows) other)) false
            ≡ option_map_or (λ r. r.channel.temporary) (cond b (Some row) (row_of rows other)) false
        found true later-2 = refl
        found false later-2 = later-2
    step false is later = found (number row == other.0) later
      where
        found : (b : Bool) → is_temporary rest other ≡ is_temporary rows other
            → option_map_or (λ r. r.channel.temporary) (cond b (Some row) (row_of (changed id (λ channel. record channel { info = info }) rows) other)) false
            ≡ option_map_or (λ r. r.channel.temporary) (cond b (Some row) (row_of rows other)) false
        found true later-2 = refl
        found false later-2 = later-2

-- what was there is as temporary as it was
kind_made : (state : StateValue) (id parent : ChannelId) (name : List ℕ) (temporary : Bool) (info : ChannelInfo) → IsProper state → (other : ChannelId) → has_member state.roster.sessions other ≡ true
    → is_temporary (with_info (with_new state.tree id parent name temporary) id info).channels other ≡ is_temporary state.tree.channels other
kind_made state id parent name temporary info proper other member =
    let (row, found) = some_row (row_of state.tree.channels other) (there state.roster.sessions proper.inside member) in
    kind_informed (state.tree.channels ++ new_row (least_place state.tree.channels) id parent name temporary ∷ []) id info other
    ∙ kind_kept state.tree.channels (new_row (least_place state.tree.channels) id parent name temporary) other row found
  where
    there : (users : List User) → list_all (λ user. is_there state.tree.channels user.channel) users ≡ true → list_any (is_in other) users ≡ true → is_there state.tree.channels other ≡ true
    there [] inside some = absurd (false≢true some)
    there (user ∷ users) inside some = step (is_in other user) refl some (there users) (and_parts (is_there state.tree.channels user.channel) (list_all (λ one. is_there state.tree.channels one.channel) users) inside)
      where
        step : (b : Bool) → is_in other user ≡ b → (b || list_any (is_in other) users) ≡ true
            → (list_all (λ one. is_there state.tree.channels one.channel) users ≡ true → list_any (is_in other) users ≡ true → is_there state.tree.channels other ≡ true)
            → (is_there state.tree.channels user.channel ≡ true) × (list_all (λ one. is_there state.tree.channels one.channel) users ≡ true) → is_there state.tree.channels other ≡ true
        step true is some-2 rest parts = ap (is_there state.tree.channels) (sym (same_channel user.channel other is)) ∙ parts.0
        step false is some-2 rest parts = rest parts.1 some-2

maker_left : (state : StateValue) (id parent : ChannelId) (name : List ℕ) (temporary : Bool) (info : ChannelInfo) (maker : Option SessionId) → IsProper state
    → IsLeftAlone state.roster.sessions (set_by state (MakeChannel id parent name temporary info maker)).roster.sessions (set_by state (MakeChannel id parent name temporary info maker)).tree.channels
    (left_by state (MakeChannel id parent name temporary info maker))
maker_left state id parent name true info None proper = none_left state.roster.sessions state.roster.sessions _ (λ other kind member. member)
maker_left state id parent name false info None proper = none_left state.roster.sessions state.roster.sessions _ (λ other kind member. member)
maker_left state id parent name false info (Some maker) proper = none_left state.roster.sessions state.roster.sessions _ (λ other kind member. member)
maker_left state id parent name true info (Some maker) proper =
    mover_left state maker (map (λ one. cond (has_number maker one) (record one { channel = id }) one) state.roster.sessions) (with_info (with_new state.tree id parent name true) id info).channels proper
    (others_stay maker (λ one. record one { channel = id }) state.roster.sessions)
    (kind_made state id parent name true info proper)

removed_left : (state : StateValue) (id : ChannelId) → IsLeftAlone state.roster.sessions (map (moved_up state.tree id) state.roster.sessions) (without_subtree state.tree id).channels None
removed_left state id =
    none_left state.roster.sessions (map (moved_up state.tree id) state.roster.sessions) (without_subtree state.tree id).channels
    (λ other kind member.
    any_mapped (is_in other) (moved_up state.tree id) state.roster.sessions
    ∙ any_too (is_in other) (λ user. is_in other (moved_up state.tree id user)) (λ user inside. stays other (off other kind) user inside) state.roster.sessions member)
  where
    off : (other : ChannelId) → is_temporary (without_subtree state.tree id).channels other ≡ true → is_below state.tree.channels id other ≡ false
    off other kind =
        let there : is_there (without_subtree state.tree id).channels other ≡ true = some_there (row_of (without_subtree state.tree id).channels other) kind in
        not-true (is_below state.tree.channels id other) (and_parts (is_there state.tree.channels other) (not (is_below state.tree.channels id other)) (sym (there_without_subtree state.tree id other) ∙ there)).1
      where
        some_there : (found : Option Row) → option_map_or (λ row. row.channel.temporary) found false ≡ true → is_some found ≡ true
        some_there None kind-2 = absurd (false≢true kind-2)
        some_there (Some row) kind-2 = refl

    stays : (other : ChannelId) → is_below state.tree.channels id other ≡ false → (user : User) → is_in other user ≡ true → is_in other (moved_up state.tree id user) ≡ true
    stays other off-2 user inside =
        ap (λ (b : Bool). is_in other (cond b (record user { channel = parent_of state.tree id }) user)) (ap (is_below state.tree.channels id) (same_channel user.channel other inside) ∙ off-2) ∙ inside

same_left : (state : StateValue) (now : List User) (rows : List Row) → now ≡ state.roster.sessions → IsLeftAlone state.roster.sessions now rows None
same_left state now rows same = none_left state.roster.sessions now rows (λ other kind member. ap (λ (users : List User). has_member users other) same ∙ member)

-- a session that changes, and stays where it is
unmoved : (state : StateValue) (session : SessionId) (change : User → User) → ((user : User) → (change user).channel ≡ user.channel)
    → IsLeftAlone state.roster.sessions (map (λ one. cond (has_number session one) (change one) one) state.roster.sessions) state.tree.channels None
unmoved state session change keeps =
    none_left state.roster.sessions (map (λ one. cond (has_number session one) (change one) one) state.roster.sessions) state.tree.channels
    (λ other kind member.
    any_mapped (is_in other) (λ one. cond (has_number session one) (change one) one) state.roster.sessions
    ∙ any_too (is_in other) (λ one. is_in other (cond (has_number session one) (change one) one)) (λ user inside. stays other user (has_number session user) inside) state.roster.sessions member)
  where
    stays : (other : ChannelId) (user : User) (b : Bool) → is_in other user ≡ true → is_in other (cond b (change user) user) ≡ true
    stays other user true inside = ap (λ (channel : ChannelId). channel.0 == other.0) (keeps user) ∙ inside
    stays other user false inside = inside

pub left_alone : (state : StateValue) (edit : Edit) → IsProper state → IsLeftAlone state.roster.sessions (set_by state edit).roster.sessions (set_by state edit).tree.channels (left_by state edit)
left_alone state (SetServer welcome bandwidth password) proper = same_left state _ _ refl
left_alone state (SetLimits sessions channels) proper = same_left state _ _ refl
left_alone state (AddAccount account name digest) proper = same_left state _ _ refl
left_alone state (Join session slot name account tokens) proper =
    none_left state.roster.sessions _ _ (λ other kind member. any_inserted (is_in other) state.roster.sessions _ _ ∙ or_right _ (has_member state.roster.sessions other) member)
left_alone state (Leave session) proper = leaver_left state session proper
left_alone state (Kick session actor reason ban) proper = leaver_left state session proper
left_alone state (MakeChannel id parent name temporary info maker) proper = maker_left state id parent name temporary info maker proper
left_alone state (EditChannel id actor name parent description position max_users links_add links_remove) proper = same_left state _ _ refl
left_alone state (RemoveChannel id actor) proper = removed_left state id
left_alone state (SetUser session actor (Some channel) mute deaf clear_suppress priority self_mute self_deaf recording comment context listen unlisten) proper =
    mover_left state session _ state.tree.channels proper
    (others_stay session (changed_user (user_parts (Some channel) mute deaf priority self_mute self_deaf recording comment context listen unlisten)) state.roster.sessions) (λ other member. refl)
left_alone state (SetUser session actor None mute deaf clear_suppress priority self_mute self_deaf recording comment context listen unlisten) proper =
    unmoved state session (changed_user (user_parts None mute deaf priority self_mute self_deaf recording comment context listen unlisten)) (λ user. refl)
left_alone state (SetTokens session tokens) proper =
    unmoved state session (λ user. record user { tokens = tokens }) (λ user. refl)
left_alone state (SetTarget session id target) proper = same_left state _ _ (targeted_sessions state.roster session id target)
left_alone state (SetAcl channel actor policy) proper = same_left state _ _ refl
left_alone state (Text actor sessions channels trees message) proper = same_left state _ _ refl

-- ---- what is closed

-- a row is emptied where its channel is left
emptied_left : (was now : List User) (rows : List Row) → Rise rows → list_any (is_emptied was now) rows ≡ list_any (λ row. is_left was now rows row.channel.id) rows
emptied_left was now rows rise =
    any_agree (is_emptied was now) (λ row. is_left was now rows row.channel.id) rows
    (λ k d within.
    let row : Row = get_or rows k d in
    let kind : is_temporary rows row.channel.id ≡ row.channel.temporary = ap (λ (o : Option Row). option_map_or (λ r. r.channel.temporary) o false) (row_of_at rows k d row.channel.id rise within refl) in
    ap (λ b. b && has_member was row.channel.id && not (has_member now row.channel.id)) (sym kind))

-- none is emptied where none is left
none_emptied : (was now : List User) (rows : List Row) → Rise rows → ((other : ChannelId) → is_left was now rows other ≡ true → ⊥) → list_any (is_emptied was now) rows ≡ false
none_emptied was now rows rise none =
    emptied_left was now rows rise
    ∙ none_passes (λ row. is_left was now rows row.channel.id) rows (λ k d within. off (get_or rows k d).channel.id (is_left was now rows (get_or rows k d).channel.id) refl)
  where
    off : (other : ChannelId) (b : Bool) → is_left was now rows other ≡ b → b ≡ false
    off other true is = absurd (none other is)
    off other false is = refl

one_is_emptied : (was now : List User) (rows : List Row) (id : ChannelId) → Rise rows → is_left was now rows id ≡ true → list_any (is_emptied was now) rows ≡ true
one_is_emptied was now rows id rise left =
    emptied_left was now rows rise ∙ some (list_any (λ row. is_left was now rows row.channel.id) rows) refl
  where
    there : (found : Option Row) → option_map_or (λ row. row.channel.temporary) found false ≡ true → is_some found ≡ true
    there None kind = absurd (false≢true kind)
    there (Some row) kind = refl

    some : (b : Bool) → list_any (λ row. is_left was now rows row.channel.id) rows ≡ b → b ≡ true
    some true is = refl
    some false is =
        let (row, found) = some_row (row_of rows id) (there (row_of rows id) (left_parts was now rows id left).temporary) in
        let same : row.channel.id ≡ id = ap (λ n. record { 0 = n }) (number_found rows id row found) in
        absurd (both_ways (is_left was now rows id)
        (ap (is_left was now rows) (sym same) ∙ found_row_holds (λ one. is_left was now rows one.channel.id ≡ false) rows id row (none_of is) found) left)
      where
        none_of : list_any (λ row. is_left was now rows row.channel.id) rows ≡ false → All (λ row. is_left was now rows row.channel.id ≡ false) rows
        none_of none k d within = off (is_left was now rows (get_or rows k d).channel.id) refl
          where
            off : (b : Bool) → is_left was now rows (get_or rows k d).channel.id ≡ b → b ≡ false
            off true on = absurd (both_ways (list_any (λ row. is_left was now rows row.channel.id) rows) none (list_any_at (λ row. is_left was now rows row.channel.id) rows k d within on))
            off false out = refl

-- a channel that is left may go
pub left_may_go : (state : StateValue) (id : ChannelId) → IsProper state → is_temporary state.tree.channels id ≡ true → fault_of_remove state.tree id ≡ None
left_may_go state id proper kind =
    remove_allowed state.tree id (there (row_of state.tree.channels id) kind)
    (λ (zero_is : id.0 ≡ 0).
    let (root, found, is) = proper.tree.root in
    let same : id ≡ the_root = ap (λ n. record { 0 = n }) zero_is in
    both_ways (is_temporary state.tree.channels id)
    (ap (is_temporary state.tree.channels) same ∙ ap (λ (o : Option Row). option_map_or (λ r. r.channel.temporary) o false) found ∙ is.3) kind)
  where
    there : (found : Option Row) → option_map_or (λ row. row.channel.temporary) found false ≡ true → is_some found ≡ true
    there None off = absurd (false≢true off)
    there (Some row) on = refl

-- what goes, and whether anything does, where one channel alone may be left
pub record IsClosed (before state : StateValue) (left : Option ChannelId) : Type 0 where
  pub closed : without_emptied before state ≡ with_left_closed left state
  pub is_empty : empties before state ≡ is_left_empty left state

pub closed_by : (before state : StateValue) (left : Option ChannelId) → IsProper state → IsLeftAlone before.roster.sessions state.roster.sessions state.tree.channels left → IsClosed before state left
closed_by before state None proper alone =
    let none : empties before state ≡ false =
    none_emptied before.roster.sessions state.roster.sessions state.tree.channels proper.tree.rise (λ other left. let one = alone.only other left in none-some one.0 one.1) in
    record { closed = nothing_emptied before state proper none; is_empty = none }
closed_by before state (Some id) proper alone = step (has_member state.roster.sessions id) refl
  where
    one_id : (other : ChannelId) → is_left before.roster.sessions state.roster.sessions state.tree.channels other ≡ true → other.0 ≡ id.0
    one_id other left =
        let one = alone.only other left in
        let same : id ≡ one.0 = (let some : Some id ≡ Some one.0 = one.1 in cc) in
        one.2 ∙ ap (λ (c : ChannelId). c.0) (sym same)

    step : (b : Bool) → has_member state.roster.sessions id ≡ b → IsClosed before state (Some id)
    step true in_it =
        let none : empties before state ≡ false =
        none_emptied before.roster.sessions state.roster.sessions state.tree.channels proper.tree.rise
        (λ other left.
        let same : other ≡ id = ap (λ n. record { 0 = n }) (one_id other left) in
        both_ways (has_member state.roster.sessions other) (left_parts before.roster.sessions state.roster.sessions state.tree.channels other left).gone (ap (has_member state.roster.sessions) same ∙ in_it)) in
        record {
          closed = nothing_emptied before state proper none ∙ sym (ap (λ (b : Bool). cond b state (with_tree state (without_subtree state.tree id))) in_it);
          is_empty = none ∙ sym (ap not in_it);
        }
    step false out =
        let left : is_left before.roster.sessions state.roster.sessions state.tree.channels id ≡ true =
        and_from (is_temporary state.tree.channels id && has_member before.roster.sessions id) (not (has_member state.roster.sessions id))
        (and_from (is_temporary state.tree.channels id) (has_member before.roster.sessions id) (alone.temporary id refl) (alone.member id refl)) (ap not out) in
        record {
          closed = one_emptied before state id proper left one_id ∙ sym (ap (λ (b : Bool). cond b state (with_tree state (without_subtree state.tree id))) out);
          is_empty = one_is_emptied before.roster.sessions state.roster.sessions state.tree.channels id proper.tree.rise left ∙ sym (ap not out);
        }

-- sessions that are heard again are where they were
pub alone_heard : (silent : User → Bool) (was now : List User) (rows : List Row) (left : Option ChannelId) → IsLeftAlone was now rows left → IsLeftAlone was (map (heard silent) now) rows left
alone_heard silent was now rows left alone = record {
  only = λ other is. alone.only other (ap (λ b. is_temporary rows other && has_member was other && not b) (sym (heard_members silent now other)) ∙ is);
  temporary = alone.temporary;
  member = alone.member;
}
