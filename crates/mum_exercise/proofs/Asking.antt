-- What a user of an exercise asks for fits one frame.
use Rattle.mum_exercise.proofs.Common.{◌≡◌, ℕ, ◌^◌, ◌<◌, ◌≤◌, Bool, List, [], ◌∷◌, length, Some, None, true, sym, ap, ◌∙◌, subst, arith, ℤ, IfOk, Result, codes, decimal, length-decimal-le, length-append, IfOk-weaker, Raw, Repeated, Table, layout, parts, spelled, IsOneFrame, spelling_of, PAYLOAD_LIMIT, target_block, voice_target, TargetBlock, VoiceTarget, authenticate, channel_state, user_state, Authenticate, ChannelState, UserState, bound, items-few, row-few, aiming, blank_channel, blank_user, entering, linking, listening, login, self_muting, user_name}

-- what a short payload is encoded as is one frame
pub frames_one : {E : Type 0} (kind : ℕ) (payload : List ℕ) (wire : Result (List ℕ) E) → kind < 2 ^ 16 → length payload ≤ PAYLOAD_LIMIT
    → IfOk wire (λ bytes. bytes ≡ spelling_of kind payload) → IfOk wire IsOneFrame
frames_one kind payload wire fits short is =
    IfOk-weaker wire (λ bytes. bytes ≡ spelling_of kind payload) IsOneFrame
    (λ bytes spelled_so. (record { kind = kind; payload = payload }, record { kind_fits = fits; within_limit = short }, spelled_so)) is

-- a message that is equal to one with a low bound is short
as_short : {M : Type 0} (rows : Table M) (m n : M) → m ≡ n → bound (layout rows) (parts rows n) ≤ PAYLOAD_LIMIT → length (spelled rows m) ≤ PAYLOAD_LIMIT
as_short rows m n is low =
    let few : length (spelled rows n) ≤ bound (layout rows) (parts rows n) = items-few (layout rows) (parts rows n) in
    let short : length (spelled rows n) ≤ PAYLOAD_LIMIT = omega arith in
    subst (λ x. length (spelled rows x) ≤ PAYLOAD_LIMIT) (sym is) short

pub enter_fits : (blank : UserState) (channel : ℕ) → blank ≡ blank_user → length (spelled user_state (record blank { channel_id = Some channel })) ≤ PAYLOAD_LIMIT
enter_fits blank channel is =
    as_short user_state (record blank { channel_id = Some channel }) (entering channel) (ap (λ (b : UserState). record b { channel_id = Some channel }) is) (omega arith)

pub self_mute_fits : (blank : UserState) (muted : Bool) → blank ≡ blank_user → length (spelled user_state (record blank { self_mute = Some muted })) ≤ PAYLOAD_LIMIT
self_mute_fits blank muted is =
    as_short user_state (record blank { self_mute = Some muted }) (self_muting muted) (ap (λ (b : UserState). record b { self_mute = Some muted }) is) (omega arith)

pub listen_fits : (blank : UserState) (channels : List ℕ) (channel : ℕ) → blank ≡ blank_user → channels ≡ channel ∷ []
    → length (spelled user_state (record blank { listening_channel_add = channels })) ≤ PAYLOAD_LIMIT
listen_fits blank channels channel is one =
    as_short user_state (record blank { listening_channel_add = channels }) (listening channel)
    (ap (λ (b : UserState). record b { listening_channel_add = channels }) is ∙ ap (λ (them : List ℕ). record blank_user { listening_channel_add = them }) one) (omega arith)

pub link_fits : (blank : ChannelState) (links : List ℕ) (channel : ℕ) → blank ≡ blank_channel → links ≡ 0 ∷ []
    → length (spelled channel_state (record blank { channel_id = Some channel; links_add = links })) ≤ PAYLOAD_LIMIT
link_fits blank links channel is one =
    as_short channel_state (record blank { channel_id = Some channel; links_add = links }) (linking channel)
    (ap (λ (b : ChannelState). record b { channel_id = Some channel; links_add = links }) is ∙ ap (λ (them : List ℕ). record blank_channel { channel_id = Some channel; links_add = them }) one)
    (omega arith)

name_short : (number : ℕ) → number < 2 ^ 32 → length (user_name number) ≤ 11
name_short number fits = omega (arith, length-append (codes "u") (decimal number), length-decimal-le 10 number (omega arith) (omega arith) (omega arith))

pub login_fits : (name : List ℕ) (tokens : List (List ℕ)) (versions : List ℤ) (number : ℕ) → number < 2 ^ 32 → name ≡ user_name number → tokens ≡ [] → versions ≡ []
    → length (spelled authenticate (record { username = Some name; password = None; tokens = tokens; celt_versions = versions; opus = None })) ≤ PAYLOAD_LIMIT
login_fits name tokens versions number fits called none no_versions =
    let short : length name ≤ 11 = subst (λ (x : List ℕ). length x ≤ 11) (sym called) (name_short number fits) in
    let message : Authenticate = record { username = Some name; password = None; tokens = tokens; celt_versions = versions; opus = None } in
    let is : message ≡ login name
    = ap (λ (t : List (List ℕ)). record { username = Some name; password = None; tokens = t; celt_versions = versions; opus = None }) none
    ∙ ap (λ (v : List ℤ). record { username = Some name; password = None; tokens = []; celt_versions = v; opus = None }) no_versions in
    as_short authenticate message (login name) is (omega arith)

-- ---- a target: its one block is a message of its own

block_at : ℕ → TargetBlock
block_at channel = record { session = []; channel_id = Some channel; group = None; links = None; children = Some true }

block_short : (channel : ℕ) → length (spelled target_block (block_at channel)) ≤ 100
unfolding block_at
block_short channel =
    let few : length (spelled target_block (block_at channel)) ≤ bound (layout target_block) (parts target_block (block_at channel)) = items-few (layout target_block) (parts target_block (block_at channel)) in
    omega arith

aim_short : (channel : ℕ) → length (spelled voice_target (aiming channel)) ≤ PAYLOAD_LIMIT
unfolding block_at
aim_short channel =
    let few : length (spelled voice_target (aiming channel)) ≤ bound (layout voice_target) (parts voice_target (aiming channel)) = items-few (layout voice_target) (parts voice_target (aiming channel)) in
    let one = row-few Repeated Raw 2 (spelled target_block (block_at channel) ∷ []) in
    let own = block_short channel in
    omega arith

pub aim_fits : (block : TargetBlock) (blocks : List TargetBlock) (sessions : List ℕ) (channel : ℕ) → block ≡ record { session = sessions; channel_id = Some channel; group = None; links = None; children = Some true }
    → sessions ≡ [] → blocks ≡ block ∷ [] → length (spelled voice_target (record { id = Some 1; targets = blocks })) ≤ PAYLOAD_LIMIT
aim_fits block blocks sessions channel is none one =
    let same : block ≡ record { session = []; channel_id = Some channel; group = None; links = None; children = Some true }
    = is ∙ ap (λ (s : List ℕ). record { session = s; channel_id = Some channel; group = None; links = None; children = Some true }) none in
    let whole : record { id = Some 1; targets = blocks } ≡ aiming channel
    = ap (λ (b : List TargetBlock). record { id = Some 1; targets = b }) (one ∙ ap (λ (b : TargetBlock). b ∷ []) same) in
    subst (λ (m : VoiceTarget). length (spelled voice_target m) ≤ PAYLOAD_LIMIT) (sym whole) (aim_short channel)
