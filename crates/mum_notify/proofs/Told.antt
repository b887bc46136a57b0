-- What holds of each parcel for a session holds of all that is sent.
use Rattle.mum_notify.proofs.Common.{◌≡◌, ◌≢◌, ◌==◌, ◌||◌, ◌∙◌, ap, ℕ, Bool, true, false, not, cond, List, [], ◌∷◌, ◌++◌, map, filter, find, Some, inl, inr, refl, sym, subst, ⊎_elim, and_parts, cases_Bool, eq-eqb, eqb-true, true≢false, All, Contains, flat_map, All-append, All-cons, All-contains_itself, All-filter, All-head, All-map, All-nil, All-tail, All-weaker, filter_passes, is_among, ChannelId, SessionId, session_of, has_number, User, given, StateValue, Edit, Join, Kick, Leave, SetAcl, Text, channel_changes_told, new_channels_told, channel_gone, channels_gone, departure, last_parcel, user_kicked, user_left, IsAddressee, IsFor, kicked, arrival, closes, notices, others, all_to_each, channel_frame, channel_gone_frame, parcel, permissions_frame, text_frame, to_each, user_frame, user_gone_frame, sync_block, sync_frames, sync_parcels, is_for, is_in_trees, is_named, permission_parcel, permission_parcels, permissions_told, text_parcels, text_told, user_changes_told, user_told, Notice}

-- what holds of all holds of the first that passes
pub found_of_all : {X : Type 0} (Q : X → Type 0) (p : X → Bool) (xs : List X) → All Q xs → All Q (given (find p xs))
found_of_all Q p [] all = All-nil Q
found_of_all {X} Q p (x ∷ xs) all =
    ⊎_elim
    (λ (on : p x ≡ true). subst (λ (b : Bool). All Q (given (cond b (Some x) (find p xs)))) (sym on) (All-cons Q x [] (All-head Q x xs all) (All-nil Q)))
    (λ (off : p x ≡ false). subst (λ (b : Bool). All Q (given (cond b (Some x) (find p xs)))) (sym off) (found_of_all Q p xs (All-tail Q x xs all)))
    (cases_Bool (p x))

-- what holds of any holds of each
pub any_of : {X : Type 0} (Q : X → Type 0) → ((x : X) → Q x) → (xs : List X) → All Q xs
any_of Q any [] = All-nil Q
any_of Q any (x ∷ xs) = All-cons Q x xs (any x) (any_of Q any xs)

-- what holds of each piece holds of all together
pub pieces_of : {X Y : Type 0} (P : Y → Type 0) (f : X → List Y) (xs : List X) → All (λ x. All P (f x)) xs → All P (flat_map f xs)
pieces_of P f [] all = All-nil P
pieces_of P f (x ∷ xs) all =
    All-append P (f x) (flat_map f xs) (All-head (λ x. All P (f x)) x xs all) (pieces_of P f xs (All-tail (λ x. All P (f x)) x xs all))

-- what holds of each of eight lists holds of all together
pub all_of_eight : {X : Type 0} (P : X → Type 0) (a b c d e f g h : List X) → All P a → All P b → All P c → All P d → All P e → All P f → All P g → All P h → All P (a ++ b ++ c ++ d ++ e ++ f ++ g ++ h)
all_of_eight P a b c d e f g h pa pb pc pd pe pf pg ph =
    All-append P (a ++ b ++ c ++ d ++ e ++ f ++ g) h
    (All-append P (a ++ b ++ c ++ d ++ e ++ f) g
    (All-append P (a ++ b ++ c ++ d ++ e) f
    (All-append P (a ++ b ++ c ++ d) e (All-append P (a ++ b ++ c) d (All-append P (a ++ b) c (All-append P a b pa pb) pc) pd) pe) pf) pg) ph

-- it holds of each parcel for one of these sessions
abbrev pub HoldsFor : (Notice → Type 0) → List User → Type 0
HoldsFor P users = All (λ user. (frame : List ℕ) → P (parcel frame user)) users

pub each_told : (P : Notice → Type 0) (users : List User) (frame : List ℕ) → HoldsFor P users → All P (to_each users frame)
each_told P users frame holds =
    All-map P (parcel frame) users
    (All-weaker (λ user. (other : List ℕ) → P (parcel other user)) (λ user. P (parcel frame user)) (λ user any. any frame) users holds)

pub all_each_told : (P : Notice → Type 0) (users : List User) (frames : List (List ℕ)) → HoldsFor P users → All P (all_to_each users frames)
all_each_told P users frames holds =
    pieces_of P (to_each users) frames (any_of (λ frame. All P (to_each users frame)) (λ frame. each_told P users frame holds) frames)

sync_told : (P : Notice → Type 0) (state : StateValue) (session : SessionId) → HoldsFor P state.roster.sessions → All P (sync_block state session)
sync_told P state session holds =
    pieces_of P (sync_parcels state) (given (session_of state.roster session))
    (found_of_all (λ user. All P (sync_parcels state user)) (has_number session) state.roster.sessions
    (All-weaker (λ user. (frame : List ℕ) → P (parcel frame user)) (λ user. All P (sync_parcels state user))
    (λ user any. All-map P (λ frame. parcel frame user) (sync_frames state user) (any_of (λ frame. P (parcel frame user)) any (sync_frames state user)))
    state.roster.sessions holds))

others_told : (P : Notice → Type 0) (state : StateValue) (session : SessionId) (users : List User) → HoldsFor P state.roster.sessions → All P (flat_map (λ user. to_each (others state session) (user_frame (user_told state.roster user))) users)
others_told P state session users holds =
    pieces_of P (λ user. to_each (others state session) (user_frame (user_told state.roster user))) users
    (any_of (λ user. All P (to_each (others state session) (user_frame (user_told state.roster user))))
    (λ user. each_told P (others state session) (user_frame (user_told state.roster user))
    (All-filter (λ other. not (has_number session other)) (λ other. (frame : List ℕ) → P (parcel frame other)) state.roster.sessions holds)) users)

arrived : (P : Notice → Type 0) (state : StateValue) (edit : Edit) → HoldsFor P state.roster.sessions → All P (arrival state edit)
arrived P state (Join session slot name account tokens) holds =
    All-append P (sync_block state session) (flat_map (λ user. to_each (others state session) (user_frame (user_told state.roster user))) (given (session_of state.roster session)))
    (sync_told P state session holds) (others_told P state session (given (session_of state.roster session)) holds)
arrived P state edit holds = All-nil P

-- it holds of each parcel by which a session is kicked
abbrev pub HoldsOfKick : (Notice → Type 0) → StateValue → Edit → Type 0
HoldsOfKick P before edit =
    (session : SessionId) → kicked edit ≡ Some session → (frame : List ℕ) → All (λ user. P (last_parcel session frame user)) before.roster.sessions

departed : (P : Notice → Type 0) (before : StateValue) (edit : Edit) (after : StateValue) → HoldsFor P after.roster.sessions → HoldsOfKick P before edit → All P (departure before edit after)
departed P before (Leave session) after holds kick = each_told P after.roster.sessions (user_gone_frame (user_left session)) holds
departed P before (Kick session actor reason ban) after holds kick =
    All-map P (last_parcel session (user_gone_frame (user_kicked session actor reason ban))) before.roster.sessions
    (kick session refl (user_gone_frame (user_kicked session actor reason ban)))
departed P before edit after holds kick = All-nil P

texts_told : (P : Notice → Type 0) (after : StateValue) (edit : Edit) → HoldsFor P after.roster.sessions → All P (text_parcels after edit)
texts_told P after (Text actor sessions channels trees message) holds =
    each_told P (filter (is_for after actor sessions channels trees) after.roster.sessions) (text_frame (text_told actor sessions channels trees message))
    (All-filter (is_for after actor sessions channels trees) (λ user. (frame : List ℕ) → P (parcel frame user)) after.roster.sessions holds)
texts_told P after edit holds = All-nil P

policy_told : (P : Notice → Type 0) (after : StateValue) (edit : Edit) → HoldsFor P after.roster.sessions → All P (permission_parcels after edit)
policy_told P after (SetAcl channel actor policy) holds =
    All-map P (permission_parcel after) after.roster.sessions
    (All-weaker (λ user. (frame : List ℕ) → P (parcel frame user)) (λ user. P (permission_parcel after user)) (λ user any. any (permissions_frame (permissions_told after user))) after.roster.sessions holds)
policy_told P after edit holds = All-nil P

-- what holds of each parcel for a session that is there, and of those by which one is kicked, holds of all
pub all_told : (P : Notice → Type 0) (before : StateValue) (edit : Edit) (after : StateValue) → HoldsFor P after.roster.sessions → HoldsOfKick P before edit → All P (notices before edit after)
all_told P before edit after holds kick =
    let here = after.roster.sessions in
    let made = map channel_frame (new_channels_told after edit) in
    let changed = map channel_frame (channel_changes_told before edit after) in
    let users = map user_frame (user_changes_told before edit after (closes before edit after)) in
    let gone = map (λ id. channel_gone_frame (channel_gone id)) (channels_gone before edit after) in
    all_of_eight P (all_to_each here made) (all_to_each here changed) (arrival after edit) (all_to_each here users) (all_to_each here gone) (departure before edit after) (text_parcels after edit) (permission_parcels after edit)
    (all_each_told P here made holds) (all_each_told P here changed holds) (arrived P after edit holds) (all_each_told P here users holds) (all_each_told P here gone holds) (departed P before edit after holds kick) (texts_told P after edit holds) (policy_told P after edit holds)

-- ---- the laws

pub each_has_its_session_lem : (before : StateValue) (edit : Edit) (after : StateValue) → All (λ notice. (user : User) × IsAddressee before edit after user × IsFor notice user) (notices before edit after)
each_has_its_session_lem before edit after =
    all_told (λ notice. (user : User) × IsAddressee before edit after user × IsFor notice user) before edit after
    (All-weaker (Contains after.roster.sessions) (λ user. (frame : List ℕ) → (other : User) × IsAddressee before edit after other × IsFor (parcel frame user) other)
    (λ user here frame. (user, inl here, (refl, refl))) after.roster.sessions (All-contains_itself after.roster.sessions))
    (λ session is frame. All-weaker (Contains before.roster.sessions) (λ user. (other : User) × IsAddressee before edit after other × IsFor (last_parcel session frame user) other)
    (λ user there. (user, inr (session, is, there), (refl, refl))) before.roster.sessions (All-contains_itself before.roster.sessions))

pub last_only_for_kicked_lem : (before : StateValue) (edit : Edit) (after : StateValue) → All (λ notice. notice.last ≡ true → (session : SessionId) × (kicked edit ≡ Some session) × (notice.to.0 ≡ session.0)) (notices before edit after)
last_only_for_kicked_lem before edit after =
    all_told (λ notice. notice.last ≡ true → (session : SessionId) × (kicked edit ≡ Some session) × (notice.to.0 ≡ session.0)) before edit after
    (any_of (λ user. (frame : List ℕ) → false ≡ true → (session : SessionId) × (kicked edit ≡ Some session) × (user.session.0 ≡ session.0)) (λ user frame never. absurd (true≢false (sym never))) after.roster.sessions)
    (λ session is frame. any_of (λ user. (user.session.0 == session.0) ≡ true → (other : SessionId) × (kicked edit ≡ Some other) × (user.session.0 ≡ other.0)) (λ user last. (session, is, eqb-true user.session.0 session.0 last)) before.roster.sessions)

not_actor : (after : StateValue) (actor : SessionId) (sessions : List SessionId) (channels trees : List ChannelId) (user : User) → is_for after actor sessions channels trees user ≡ true → user.session.0 ≡ actor.0 → ⊥
not_actor after actor sessions channels trees user passes same =
    true≢false (sym (and_parts (not (user.session.0 == actor.0)) (is_named sessions user || is_among channels user.channel || is_in_trees after actor trees user) passes).0 ∙ ap not (eq-eqb user.session.0 actor.0 same))

pub sender_is_told_nothing_lem : (before after : StateValue) (actor : SessionId) (sessions : List SessionId) (channels trees : List ChannelId) (message : List ℕ) → All (λ notice. notice.to.0 ≢ actor.0) (notices before (Text actor sessions channels trees message) after)
sender_is_told_nothing_lem before after actor sessions channels trees message =
    let told = filter (is_for after actor sessions channels trees) after.roster.sessions in
    let frame = text_frame (text_told actor sessions channels trees message) in
    let P : Notice → Type 0 = λ notice. notice.to.0 ≢ actor.0 in
    let held : All P (to_each told frame) =
    All-map P (parcel frame) told
    (All-weaker (λ user. is_for after actor sessions channels trees user ≡ true) (λ user. user.session.0 ≢ actor.0) (not_actor after actor sessions channels trees) told (filter_passes (is_for after actor sessions channels trees) after.roster.sessions)) in
    All-append P ([] ++ [] ++ [] ++ [] ++ [] ++ [] ++ to_each told frame) [] held (All-nil P)
