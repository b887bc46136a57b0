-- What is sent of a text, and of one that goes, is what is reported of it.
use Rattle.mum_notify.proofs.Common.{◌≡◌, ℕ, ◌<◌, ◌++◌, ◌∙◌, Bool, true, false, not, cond, get_or, length, List, [], ◌∷◌, map, filter, Option, Some, None, Result, Ok, Err, sym, ap, append_assoc, flat_map, list_all, false≢true, append-nil, OnOk, AccountId, ChannelId, SessionId, Slot, TextMessage, UserRemove, UserState, session_of, RosterState, has_number, User, ROOT, is_there, Row, is_some, all_at, given, IsProper, StateValue, Edit, Join, Kick, Leave, Text, departure, last_parcel, user_kicked, user_left, FitsFrame, arrival, others, IsWithinFrame, all_to_each, text_frame, text_payload, to_each, user_frame, user_gone_frame, sync_block, sync_parcels, is_for, permission_parcel, text_parcels, text_told, user_told, Notice}
use Rattle.mum_notify.proofs.Within.{text_fits}

-- what follows from what holds where all went well
pub so_on_ok : {T E P Q : Type 0} (r : Result T E) → (P → Q) → OnOk r P → OnOk r Q
so_on_ok (Ok value) f here = f here
so_on_ok (Err error) f here = tt

-- ---- a text as code hands it on: its lists as they were read

pub text_read : (actor : SessionId) (sessions s : List SessionId) (channels c trees t : List ChannelId) (message : List ℕ) (told : TextMessage) → s ≡ sessions → c ≡ channels → t ≡ trees → told ≡ text_told actor s c t message → told ≡ text_told actor sessions channels trees message
text_read actor sessions s channels c trees t message told one two three made =
    made ∙ ap (λ (xs : List SessionId). text_told actor xs c t message) one ∙ ap (λ (xs : List ChannelId). text_told actor sessions xs t message) two
    ∙ ap (λ (xs : List ChannelId). text_told actor sessions channels xs message) three

pub sent_fits : (edit : Edit) (actor : SessionId) (sessions s : List SessionId) (channels c trees t : List ChannelId) (message : List ℕ) (told : TextMessage) → FitsFrame edit → edit ≡ Text actor sessions channels trees message → s ≡ sessions → c ≡ channels → t ≡ trees → told ≡ text_told actor s c t message → IsWithinFrame (text_payload told)
sent_fits edit actor sessions s channels c trees t message told fits is one two three made =
    text_fits edit actor sessions channels trees message told fits is (text_read actor sessions s channels c trees t message told one two three made)

pub text_spread : (state : StateValue) (passes : User → Bool) (told : TextMessage) (frame : List ℕ) (roster : RosterState) (users : List User) (old now : List Notice) → frame ≡ text_frame told → roster ≡ state.roster → users ≡ roster.sessions
    → now ≡ old ++ to_each (filter passes users) frame → now ≡ old ++ to_each (filter passes state.roster.sessions) (text_frame told)
text_spread state passes told frame roster users old now framed whole all added =
    added ∙ ap (λ (us : List User). old ++ to_each (filter passes us) frame) (all ∙ ap (λ (r : RosterState). r.sessions) whole)
    ∙ ap (λ (bytes : List ℕ). old ++ to_each (filter passes state.roster.sessions) bytes) framed

pub text_sent : (after : StateValue) (edit : Edit) (actor : SessionId) (sessions s : List SessionId) (channels c trees t : List ChannelId) (message : List ℕ) (told : TextMessage) (old now : List Notice)
    → edit ≡ Text actor sessions channels trees message → s ≡ sessions → c ≡ channels → t ≡ trees → told ≡ text_told actor s c t message
    → now ≡ old ++ to_each (filter (is_for after actor s c t) after.roster.sessions) (text_frame told) → now ≡ old ++ text_parcels after edit
text_sent after edit actor sessions s channels c trees t message told old now is one two three made added =
    added ∙ ap (λ (list : List Notice). old ++ list)
    (ap (λ (one : TextMessage). to_each (filter (is_for after actor s c t) after.roster.sessions) (text_frame one)) (text_read actor sessions s channels c trees t message told one two three made)
    ∙ ap (λ (xs : List SessionId). to_each (filter (is_for after actor xs c t) after.roster.sessions) (text_frame (text_told actor sessions channels trees message))) one
    ∙ ap (λ (xs : List ChannelId). to_each (filter (is_for after actor sessions xs t) after.roster.sessions) (text_frame (text_told actor sessions channels trees message))) two
    ∙ ap (λ (xs : List ChannelId). to_each (filter (is_for after actor sessions channels xs) after.roster.sessions) (text_frame (text_told actor sessions channels trees message))) three
    ∙ sym (ap (text_parcels after) is))

-- ---- one that goes

pub leave_sent : (before after : StateValue) (edit : Edit) (session : SessionId) (roster : RosterState) (users : List User) (old now : List Notice)
    → edit ≡ Leave session → roster ≡ after.roster → users ≡ roster.sessions → now ≡ old ++ to_each users (user_gone_frame (user_left session)) → now ≡ old ++ departure before edit after
leave_sent before after edit session roster users old now is whole all added =
    added ∙ ap (λ (list : List Notice). old ++ list)
    (ap (λ (us : List User). to_each us (user_gone_frame (user_left session))) (all ∙ ap (λ (r : RosterState). r.sessions) whole)
    ∙ sym (ap (λ (e : Edit). departure before e after) is))

pub kick_sent : (before after : StateValue) (edit : Edit) (session actor : SessionId) (reason : List ℕ) (ban : Bool) (told : UserRemove) (roster : RosterState) (users : List User) (frame : List ℕ) (old now : List Notice)
    → edit ≡ Kick session actor reason ban → told ≡ user_kicked session actor reason ban → frame ≡ user_gone_frame told → roster ≡ before.roster → users ≡ roster.sessions
    → now ≡ old ++ map (last_parcel session frame) users → now ≡ old ++ departure before edit after
kick_sent before after edit session actor reason ban told roster users frame old now is made framed whole all added =
    added ∙ ap (λ (list : List Notice). old ++ list)
    (ap (λ (us : List User). map (last_parcel session frame) us) (all ∙ ap (λ (r : RosterState). r.sessions) whole)
    ∙ ap (λ (bytes : List ℕ). map (last_parcel session bytes) before.roster.sessions) (framed ∙ ap user_gone_frame made)
    ∙ sym (ap (λ (e : Edit). departure before e after) is))

-- ---- one that arrives

pub arrived : (after : StateValue) (edit : Edit) (session : SessionId) (slot : Slot) (name : List ℕ) (account : Option AccountId) (tokens : List (List ℕ)) (roster : RosterState) (user : User) (users : List User) (told : UserState) (frame : List ℕ) (old mid now : List Notice)
    → edit ≡ Join session slot name account tokens → roster ≡ after.roster → Some user ≡ session_of roster session → told ≡ user_told roster user → frame ≡ user_frame told → users ≡ roster.sessions
    → mid ≡ old ++ sync_parcels after user → now ≡ mid ++ to_each (filter (λ one. not (has_number session one)) users) frame → now ≡ old ++ arrival after edit
arrived after edit session slot name account tokens roster user users told frame old mid now is whole found made framed all first added =
    let own : List Notice = sync_parcels after user in
    let passing : List User → List User = λ us. filter (λ (one : User). not (has_number session one)) us in
    let f : User → List Notice = λ one. to_each (others after session) (user_frame (user_told after.roster one)) in
    let there : session_of after.roster session ≡ Some user = ap (λ (r : RosterState). session_of r session) (sym whole) ∙ sym found in
    added ∙ ap (λ (list : List Notice). list ++ to_each (passing users) frame) first ∙ append_assoc old own (to_each (passing users) frame)
    ∙ ap (λ (list : List Notice). old ++ list)
    (ap (λ (us : List User). own ++ to_each (passing us) frame) (all ∙ ap (λ (r : RosterState). r.sessions) whole)
    ∙ ap (λ (bytes : List ℕ). own ++ to_each (passing after.roster.sessions) bytes) (framed ∙ ap user_frame (made ∙ ap (λ (r : RosterState). user_told r user) whole))
    ∙ sym (ap (λ (e : Edit). arrival after e) is ∙ ap (λ (o : Option User). flat_map (sync_parcels after) (given o) ++ flat_map f (given o)) there
    ∙ ap (λ (list : List Notice). list ++ (f user ++ [])) (append-nil own) ∙ ap (λ (list : List Notice). own ++ list) (append-nil (f user))))

-- ---- frames for all

-- two lists of frames, as they were made and handed on
pub two_sent : (here : List User) (old mid now : List Notice) (first made one second more two : List (List ℕ)) → one ≡ made → made ≡ first → two ≡ more → more ≡ second → mid ≡ old ++ all_to_each here one → now ≡ mid ++ all_to_each here two
    → now ≡ (old ++ all_to_each here first) ++ all_to_each here second
two_sent here old mid now first made one second more two a b c d added again =
    again ∙ ap (λ (list : List Notice). list ++ all_to_each here two) (added ∙ ap (λ (frames : List (List ℕ)). old ++ all_to_each here frames) (a ∙ b))
    ∙ ap (λ (frames : List (List ℕ)). (old ++ all_to_each here first) ++ all_to_each here frames) (c ∙ d)

-- all that is sent of an edit, part by part
pub all_sent : (a b c d e f g h none one two three four five six : List Notice) → none ≡ [] → one ≡ (none ++ a) ++ b → two ≡ one ++ c → three ≡ (two ++ d) ++ e → four ≡ three ++ f → five ≡ four ++ g → six ≡ five ++ h → six ≡ a ++ b ++ c ++ d ++ e ++ f ++ g ++ h
all_sent a b c d e f g h none one two three four five six is one-is two-is three-is four-is five-is six-is =
    six-is ∙ ap (λ (list : List Notice). list ++ h) (five-is ∙ ap (λ (list : List Notice). list ++ g) (four-is ∙ ap (λ (list : List Notice). list ++ f)
    (three-is ∙ ap (λ (list : List Notice). (list ++ d) ++ e) (two-is ∙ ap (λ (list : List Notice). list ++ c) (one-is ∙ ap (λ (list : List Notice). (list ++ a) ++ b) is)))))

-- two lists of pieces, the same way
pub two_added : {X Y Z : Type 0} (g : List X → List Z) (h : List Y → List Z) (old mid now : List Z) (first made one : List X) (second more two : List Y) → one ≡ made → made ≡ first → two ≡ more → more ≡ second → mid ≡ old ++ g one → now ≡ mid ++ h two → now ≡ (old ++ g first) ++ h second
two_added {X} {Y} {Z} g h old mid now first made one second more two a b c d added again =
    again ∙ ap (λ (list : List Z). list ++ h two) (added ∙ ap (λ (xs : List X). old ++ g xs) (a ∙ b))
    ∙ ap (λ (ys : List Y). (old ++ g first) ++ h ys) (c ∙ d)

-- ---- what one that joins is sent first

pub all_synced : (v c s : List ℕ) (x y z : List (List ℕ)) (none one two three four five : List (List ℕ)) → none ≡ [] → one ≡ none ++ v ∷ [] → two ≡ one ++ c ∷ [] → three ≡ (two ++ x) ++ y → four ≡ three ++ z → five ≡ four ++ s ∷ [] → five ≡ v ∷ c ∷ x ++ y ++ z ++ s ∷ []
all_synced v c s x y z none one two three four five is one-is two-is three-is four-is five-is =
    five-is ∙ ap (λ (list : List (List ℕ)). list ++ s ∷ []) (four-is ∙ ap (λ (list : List (List ℕ)). list ++ z)
    (three-is ∙ ap (λ (list : List (List ℕ)). (list ++ x) ++ y) (two-is ∙ ap (λ (list : List (List ℕ)). list ++ c ∷ []) (one-is ∙ ap (λ (list : List (List ℕ)). list ++ v ∷ []) is))))

pub block_sent : (state : StateValue) (session : SessionId) (roster : RosterState) (user : User) (none now : List Notice) → roster ≡ state.roster → Some user ≡ session_of roster session → none ≡ [] → now ≡ none ++ sync_parcels state user → now ≡ sync_block state session
block_sent state session roster user none now whole found is added =
    added ∙ ap (λ (list : List Notice). list ++ sync_parcels state user) is ∙ sym (append-nil (sync_parcels state user))
    ∙ ap (λ (o : Option User). flat_map (sync_parcels state) (given o)) (found ∙ ap (λ (r : RosterState). session_of r session) whole)

-- ---- channels that are there

pub never_none : (there : Bool) (held : ℕ) → there ≡ true → None ≡ cond there (Some held) None → ⊥
never_none true held is none = cc
never_none false held is none = false≢true is

pub root_there : (state : StateValue) → IsProper state → is_there state.tree.channels ROOT ≡ true
root_there state proper = ap (λ (row : Option Row). is_some row) proper.tree.root.1

pub inside_at : (state : StateValue) (users : List User) (i : ℕ) (user : User) → list_all (λ one. is_there state.tree.channels one.channel) users ≡ true → i < length users → user ≡ get_or users i user → is_there state.tree.channels user.channel ≡ true
inside_at state users i user all within is =
    ap (λ (one : User). is_there state.tree.channels one.channel) is ∙ all_at (λ (one : User). is_there state.tree.channels one.channel) users all i user within

pub all_inside : (state : StateValue) (roster : RosterState) (users : List User) → IsProper state → roster ≡ state.roster → users ≡ roster.sessions → list_all (λ one. is_there state.tree.channels one.channel) users ≡ true
all_inside state roster users proper same is =
    ap (λ (us : List User). list_all (λ one. is_there state.tree.channels one.channel) us) (is ∙ ap (λ (one : RosterState). one.sessions) same) ∙ proper.inside

pub policy_sent : (after : StateValue) (told : List Notice) (roster : RosterState) (users : List User) (old now : List Notice) → told ≡ map (permission_parcel after) after.roster.sessions → roster ≡ after.roster → users ≡ roster.sessions → now ≡ old ++ map (permission_parcel after) users → now ≡ old ++ told
policy_sent after told roster users old now is whole all added =
    added ∙ ap (λ (list : List Notice). old ++ list) (ap (λ (us : List User). map (permission_parcel after) us) (all ∙ ap (λ (r : RosterState). r.sessions) whole) ∙ sym is)
