-- What is reported of proper states is within the limit of a frame.
use Rattle.mum_notify.proofs.Common.{◌≡◌, ℕ, ◌≤◌, ◌<◌, ◌&&◌, ◌||◌, ◌==◌, Bool, true, false, not, cond, List, [], ◌∷◌, length, map, filter, get_or, Option, Some, None, refl, sym, ap, ◌∙◌, arith, subst, count_by, find, list_all, option_map, bytes_eq, and_parts, nat_tests, length-map, length-filter, is_among, ChannelId, SessionId, TextMessage, ChannelState, ServerSync, UserRemove, UserState, Version, row_of, Pair, TreeState, partners, starts_at, Channel, Row, listens, pairs_of, session_of, RosterState, are_tokens, has_number, is_context, is_of_session, ListenerPair, User, Edit, Kick, MakeChannel, Text, all_at, is_empty, IsProper, is_name, is_short, is_sound_channel, is_sound_user, is_text, StateValue, channel_change_told, channel_of, channel_told, links_told, new_channel, numbers, partners_only_in, said_unless, user_kicked, user_left, FitsFrame, IsWithinFrame, channel_payload, sync_payload, text_payload, user_gone_payload, user_payload, version_payload, server_version, welcome_told, text_told, gives_comment, listened, listened_only_in, user_change_told, user_told}
use Rattle.mum_notify.proofs.Bounds.{channel_within, given_length, sync_within, user_gone_within, user_within, version_within}

-- ---- texts

said-few : (unsaid : Bool) (text : List ℕ) (most : ℕ) → length text ≤ most → given_length (said_unless unsaid text) ≤ most
said-few true text most few = omega arith
said-few false text most few = few

text-few : (text : List ℕ) → is_text text ≡ true → length text ≤ 20000
text-few text good = grind (arith, nat_tests)

name-few : (name : List ℕ) → is_name name ≡ true → length name ≤ 128
name-few name good = grind (arith, nat_tests)

short-few : (name : List ℕ) → is_short name ≡ true → length name ≤ 128
short-few name good = grind (arith, nat_tests)

-- ---- rows

-- what a test says of all holds of what is found
pub found_sound : {X : Type 0} (p q : X → Bool) (xs : List X) (x : X) → list_all q xs ≡ true → find p xs ≡ Some x → q x ≡ true
found_sound p q [] x all found = cc
found_sound {X} p q (y ∷ ys) x all found =
    let parts = and_parts (q y) (list_all q ys) all in
    step (p y) found parts.0 (found_sound p q ys x parts.1)
  where
    step : (b : Bool) → cond b (Some y) (find p ys) ≡ Some x → q y ≡ true → (find p ys ≡ Some x → q x ≡ true) → q x ≡ true
    step true here good rest = let same : y ≡ x = cc in ap q (sym same) ∙ good
    step false later good rest = rest later

channel_sound_at : (rows : List Row) (id : ChannelId) (channel : Channel) (found : Option Row) → row_of rows id ≡ found → option_map (λ row. row.channel) found ≡ Some channel → list_all is_sound_channel rows ≡ true → (is_name channel.name && is_text channel.info.description) ≡ true
channel_sound_at rows id channel None there is all = cc
channel_sound_at rows id channel (Some row) there is all =
    let same : row.channel ≡ channel = cc in
    ap (λ (one : Channel). is_name one.name && is_text one.info.description) (sym same) ∙ found_sound (λ other. other.channel.id.0 == id.0) is_sound_channel rows row all there

channel_sound : (state : StateValue) (id : ChannelId) (channel : Channel) → IsProper state → channel_of state.tree id ≡ Some channel → (is_name channel.name && is_text channel.info.description) ≡ true
channel_sound state id channel proper is = channel_sound_at state.tree.channels id channel (row_of state.tree.channels id) refl is proper.channels

pub user_sound : (state : StateValue) (session : SessionId) (user : User) → IsProper state → session_of state.roster session ≡ Some user → is_sound_user user ≡ true
user_sound state session user proper is = found_sound (has_number session) is_sound_user state.roster.sessions user proper.users is

-- ---- lists

filter-few : {X : Type 0} (p : X → Bool) (xs : List X) → length (filter p xs) ≤ length xs
filter-few p [] = omega arith
filter-few {X} p (x ∷ xs) = step (p x) (filter-few p xs)
  where
    step : (b : Bool) → length (filter p xs) ≤ length xs → length (cond b (x ∷ filter p xs) (filter p xs)) ≤ length (x ∷ xs)
    step true rest = omega arith
    step false rest = omega arith

partners-few : (state : StateValue) (id : ChannelId) → IsProper state → length (partners state.tree id) ≤ 64
partners-few state id proper =
    let few : count_by (starts_at id) state.tree.links ≤ 64 = proper.tree.joined.few_each id in
    omega (arith, length-map (filter (starts_at id) state.tree.links) (λ (pair : Pair). pair.1), length-filter (starts_at id) state.tree.links)

only_in-few : (state other : StateValue) (id : ChannelId) → IsProper state → length (numbers (partners_only_in state.tree other.tree id)) ≤ 64
only_in-few state other id proper =
    omega (arith, length-map (partners_only_in state.tree other.tree id) (λ (one : ChannelId). one.0), filter-few (λ partner. not (is_among (partners other.tree id) partner)) (partners state.tree id), partners-few state id proper)

pairs-few : (state : StateValue) (session : SessionId) → IsProper state → length (pairs_of state.roster session) ≤ 32
pairs-few state session proper =
    let few : count_by (is_of_session session) state.roster.listeners ≤ 32 = proper.roster.few_channels session in
    omega (arith, length-filter (is_of_session session) state.roster.listeners)

listened-few : (state : StateValue) (session : SessionId) → IsProper state → length (listened state.roster session) ≤ 32
listened-few state session proper =
    omega (arith, length-map (pairs_of state.roster session) (λ (pair : ListenerPair). pair.channel.0), pairs-few state session proper)

listened_only-few : (state other : StateValue) (session : SessionId) → IsProper state → length (listened_only_in state.roster other.roster session) ≤ 32
listened_only-few state other session proper =
    omega (arith, length-map (filter (λ (pair : ListenerPair). not (listens other.roster session pair.channel)) (pairs_of state.roster session)) (λ (pair : ListenerPair). pair.channel.0), filter-few (λ (pair : ListenerPair). not (listens other.roster session pair.channel)) (pairs_of state.roster session), pairs-few state session proper)

-- ---- messages

pub channel_told_within : (state : StateValue) (id : ChannelId) (channel : Channel) → IsProper state → channel_of state.tree id ≡ Some channel → IsWithinFrame (channel_payload (channel_told channel))
channel_told_within state id channel proper is =
    let good = and_parts (is_name channel.name) (is_text channel.info.description) (channel_sound state id channel proper is) in
    channel_within (channel_told channel) (name-few channel.name good.0)
    (said-few (is_empty channel.info.description) channel.info.description 20000 (text-few channel.info.description good.1)) (omega arith) (omega arith) (omega arith)

pub channel_change_within : (before after : StateValue) (id : ChannelId) (was now : Channel) → IsProper before → IsProper after → channel_of after.tree id ≡ Some now → IsWithinFrame (channel_payload (channel_change_told before.tree after.tree was now))
channel_change_within before after id was now proper stays is =
    let good = and_parts (is_name now.name) (is_text now.info.description) (channel_sound after id now stays is) in
    channel_within (channel_change_told before.tree after.tree was now) (said-few (bytes_eq was.name now.name) now.name 128 (name-few now.name good.0))
    (said-few (bytes_eq was.info.description now.info.description) now.info.description 20000 (text-few now.info.description good.1))
    (omega arith) (only_in-few after before now.id stays) (only_in-few before after now.id proper)

pub links_within : (state : StateValue) (id : ChannelId) → IsProper state → IsWithinFrame (channel_payload (links_told state.tree id))
links_within state id proper =
    channel_within (links_told state.tree id) (omega arith) (omega arith)
    (omega (arith, length-map (partners state.tree id) (λ (one : ChannelId). one.0), partners-few state id proper)) (omega arith) (omega arith)

-- the name and the comment of a session
user_texts : (user : User) → is_sound_user user ≡ true → (length user.name ≤ 128) × (length user.comment ≤ 20000)
user_texts user good =
    let outer = and_parts (is_short user.name && are_tokens user.tokens && is_text user.comment) (is_context user.context) good in
    let inner = and_parts (is_short user.name && are_tokens user.tokens) (is_text user.comment) outer.0 in
    (short-few user.name (and_parts (is_short user.name) (are_tokens user.tokens) inner.0).0, text-few user.comment inner.1)

pub user_told_within : (state : StateValue) (user : User) → IsProper state → is_sound_user user ≡ true → IsWithinFrame (user_payload (user_told state.roster user))
user_told_within state user proper good =
    user_within (user_told state.roster user) (user_texts user good).0 refl refl (said-few (is_empty user.comment) user.comment 20000 (user_texts user good).1) refl
    (listened-few state user.session proper) (omega arith)

pub user_change_within : (before : StateValue) (edit : Edit) (after : StateValue) (was now : User) → IsProper before → IsProper after → is_sound_user now ≡ true → IsWithinFrame (user_payload (user_change_told before.roster edit after.roster was now))
user_change_within before edit after was now proper stays good =
    user_within (user_change_told before.roster edit after.roster was now) (omega arith) refl refl
    (said-few (not (gives_comment edit) || bytes_eq was.comment now.comment) now.comment 20000 (user_texts now good).1) refl
    (listened_only-few after before now.session stays) (listened_only-few before after now.session proper)

pub user_left_within : (session : SessionId) → IsWithinFrame (user_gone_payload (user_left session))
user_left_within session = user_gone_within (user_left session) (omega arith)

pub welcome_within : (state : StateValue) (user : User) → IsProper state → IsWithinFrame (sync_payload (welcome_told state user))
welcome_within state user proper =
    sync_within (welcome_told state user) (said-few (is_empty state.server.welcome) state.server.welcome 20000 (text-few state.server.welcome proper.welcome))

pub server_version_within : IsWithinFrame (version_payload server_version)
server_version_within = version_within server_version (omega arith) (omega arith) (omega arith)

-- ---- the same as calls have them: a value that a call gave, and what it is

pub new_channel_fits : (state : StateValue) (edit : Edit) (tree : TreeState) (channel : Channel) (told : ChannelState) → IsProper state → tree ≡ state.tree → Some channel ≡ new_channel tree edit → told ≡ channel_told channel → IsWithinFrame (channel_payload told)
new_channel_fits state edit tree channel told proper same is made =
    subst (λ (one : ChannelState). IsWithinFrame (channel_payload one)) (sym made) (by_edit edit (sym (is ∙ ap (λ (one : TreeState). new_channel one edit) same)))
  where
    by_edit : (edit : Edit) → new_channel state.tree edit ≡ Some channel → IsWithinFrame (channel_payload (channel_told channel))
    by_edit (MakeChannel id parent name temporary info maker) found = channel_told_within state id channel proper found
    by_edit edit found = cc

pub channel_fits : (state : StateValue) (tree : TreeState) (id : ChannelId) (channel : Channel) (told : ChannelState) → IsProper state → tree ≡ state.tree → Some channel ≡ channel_of tree id → told ≡ channel_told channel → IsWithinFrame (channel_payload told)
channel_fits state tree id channel told proper same is made =
    subst (λ (one : ChannelState). IsWithinFrame (channel_payload one)) (sym made) (channel_told_within state id channel proper (sym (is ∙ ap (λ (one : TreeState). channel_of one id) same)))

pub change_fits : (before after : StateValue) (old new : TreeState) (id : ChannelId) (was now : Channel) (told : ChannelState) → IsProper before → IsProper after → old ≡ before.tree → new ≡ after.tree → Some now ≡ channel_of new id → told ≡ channel_change_told old new was now → IsWithinFrame (channel_payload told)
change_fits before after old new id was now told proper stays first second is made =
    subst (λ (one : ChannelState). IsWithinFrame (channel_payload one))
    (sym (made ∙ ap (λ (one : TreeState). channel_change_told one new was now) first ∙ ap (λ (one : TreeState). channel_change_told before.tree one was now) second))
    (channel_change_within before after id was now proper stays (sym (is ∙ ap (λ (one : TreeState). channel_of one id) second)))

pub links_fits : (state : StateValue) (tree : TreeState) (id : ChannelId) (told : ChannelState) → IsProper state → tree ≡ state.tree → told ≡ links_told tree id → IsWithinFrame (channel_payload told)
links_fits state tree id told proper same made =
    subst (λ (one : ChannelState). IsWithinFrame (channel_payload one)) (sym (made ∙ ap (λ (one : TreeState). links_told one id) same)) (links_within state id proper)

pub user_fits : (state : StateValue) (roster : RosterState) (user : User) (told : UserState) → IsProper state → roster ≡ state.roster → is_sound_user user ≡ true → told ≡ user_told roster user → IsWithinFrame (user_payload told)
user_fits state roster user told proper same sound made =
    subst (λ (one : UserState). IsWithinFrame (user_payload one)) (sym (made ∙ ap (λ (one : RosterState). user_told one user) same)) (user_told_within state user proper sound)

pub user_change_fits : (before after : StateValue) (old new : RosterState) (edit : Edit) (was now : User) (told : UserState) → IsProper before → IsProper after → old ≡ before.roster → new ≡ after.roster → is_sound_user now ≡ true → told ≡ user_change_told old edit new was now → IsWithinFrame (user_payload told)
user_change_fits before after old new edit was now told proper stays first second sound made =
    subst (λ (one : UserState). IsWithinFrame (user_payload one))
    (sym (made ∙ ap (λ (one : RosterState). user_change_told one edit new was now) first ∙ ap (λ (one : RosterState). user_change_told before.roster edit one was now) second))
    (user_change_within before edit after was now proper stays sound)

-- one of several that are sound, and the one that is found
pub sound_at : (users : List User) (i : ℕ) (user : User) → list_all is_sound_user users ≡ true → i < length users → user ≡ get_or users i user → is_sound_user user ≡ true
sound_at users i user all within is = ap is_sound_user is ∙ all_at is_sound_user users all i user within

pub sound_found : (state : StateValue) (roster : RosterState) (session : SessionId) (user : User) → IsProper state → roster ≡ state.roster → Some user ≡ session_of roster session → is_sound_user user ≡ true
sound_found state roster session user proper same is = user_sound state session user proper (sym (is ∙ ap (λ (one : RosterState). session_of one session) same))

pub all_sound : (state : StateValue) (roster : RosterState) (users : List User) → IsProper state → roster ≡ state.roster → users ≡ roster.sessions → list_all is_sound_user users ≡ true
all_sound state roster users proper same is = ap (list_all is_sound_user) (is ∙ ap (λ (one : RosterState). one.sessions) same) ∙ proper.users

pub left_fits : (session : SessionId) (told : UserRemove) → told ≡ user_left session → IsWithinFrame (user_gone_payload told)
left_fits session told made = subst (λ (one : UserRemove). IsWithinFrame (user_gone_payload one)) (sym made) (user_left_within session)

pub welcome_fits : (state : StateValue) (user : User) (told : ServerSync) → IsProper state → told ≡ welcome_told state user → IsWithinFrame (sync_payload told)
welcome_fits state user told proper made = subst (λ (one : ServerSync). IsWithinFrame (sync_payload one)) (sym made) (welcome_within state user proper)

pub version_fits : (told : Version) → told ≡ server_version → IsWithinFrame (version_payload told)
version_fits told made = subst (λ (one : Version). IsWithinFrame (version_payload one)) (sym made) server_version_within

pub kick_fits : (edit : Edit) (session actor : SessionId) (reason : List ℕ) (ban : Bool) (told : UserRemove) → FitsFrame edit → edit ≡ Kick session actor reason ban → told ≡ user_kicked session actor reason ban → IsWithinFrame (user_gone_payload told)
kick_fits edit session actor reason ban told fits is made =
    subst (λ (one : UserRemove). IsWithinFrame (user_gone_payload one)) (sym made) (let here : FitsFrame (Kick session actor reason ban) = subst FitsFrame is fits in here)

pub text_fits : (edit : Edit) (actor : SessionId) (sessions : List SessionId) (channels trees : List ChannelId) (message : List ℕ) (told : TextMessage) → FitsFrame edit → edit ≡ Text actor sessions channels trees message → told ≡ text_told actor sessions channels trees message → IsWithinFrame (text_payload told)
text_fits edit actor sessions channels trees message told fits is made =
    subst (λ (one : TextMessage). IsWithinFrame (text_payload one)) (sym made) (let here : FitsFrame (Text actor sessions channels trees message) = subst FitsFrame is fits in here)
