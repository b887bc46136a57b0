-- The frames of an exercise ask for what they say.
use Rattle.mum_laws.proofs.Common.{◌≡◌, ℕ, ◌+◌, ◌*◌, ◌%◌, ◌^◌, ◌≤◌, ◌<◌, Bool, true, false, cond, List, [], ◌∷◌, length, Option, Some, None, refl, ap, subst, ◌∙◌, arith, IfSome, nat_lt, All, IsUtf8, le-ltb, All-from_recursion, mod_low, Raw, Utf8, Repeated, Table, Values, bool, items, layout, missing, parts, rising, spelled, uint32, AreTyped, IsOne, written, read_back, kind_of, payload_of, spelling_of, AUTHENTICATE, CHANNEL_STATE, USER_STATE, VOICE_TARGET, target_block, voice_target, voice_target_of, TargetBlock, authenticate, channel_state, user_state, authenticate_of, channel_state_of, user_state_of, UserState, bound, items-few, row-few, COMMAND_LIMIT, action, command_action, heard_map, read, read_from, Ask, Asked, Tree, Command, Heard, Message, Connection, Seat, CoreState, connection_at, machine_of, frame_action, conn, aiming, blank_user, channel_frame, entering, linking, listening, login, self_muting, target_frame, user_frame}
use Rattle.mum_fields.specs.Typed.{IsBytes}
use Rattle.mum_session.specs.declared.{command.Asked.TheVariants.User, heard.Heard.TheVariants.TooLong}
use Rattle.mum_laws.proofs.{Resting.Rest, Resting.at_rest, Resting.here, Resting.seats_of, Speaking.kind_read, Speaking.payload_read}
use Rattle.mum_rules_tree.specs.declared.message.TreeMessage.TheVariants as channels
use Rattle.mum_rules_user.specs.declared.message.UserMessage.TheVariants as users

-- ---- a message that is typed and short is read

reads : {M : Type 0} (rows : Table M) (m : M) → rising 0 (layout rows) ≡ true → AreTyped (layout rows) (parts rows m) → missing (layout rows) (parts rows m) ≡ None
    → bound (layout rows) (parts rows m) ≤ COMMAND_LIMIT → read rows (spelled rows m) ≡ Message (parts rows m)
reads rows m up typed none low =
    let few : length (spelled rows m) ≤ bound (layout rows) (parts rows m) = items-few (layout rows) (parts rows m) in
    let short : nat_lt COMMAND_LIMIT (length (spelled rows m)) ≡ false = le-ltb COMMAND_LIMIT (length (spelled rows m)) (omega (arith, few, low)) in
    ap (read_from (layout rows)) (read_back rows m up typed none) ∙ ap (λ (b : Bool). cond b TooLong (Message (parts rows m))) short

-- a number of 32 bits
one_number : (n : ℕ) → n < 2 ^ 32 → IsOne uint32 n
one_number n low =
    let same : 0 * 2 ^ 32 + n ≡ n = omega arith in
    (subst (λ (m : ℕ). m % 2 ^ 32 ≡ n) same (mod_low 0 32 n low), omega (arith, low))

none_typed : {X : Type 0} (P : X → Type 0) → All P []
none_typed P = All-from_recursion P [] tt

one_typed : (n : ℕ) → n < 2 ^ 32 → All (IsOne uint32) (n ∷ [])
one_typed n low = All-from_recursion (IsOne uint32) (n ∷ []) (one_number n low, tt)

-- ---- messages on users

abbrev user_with : Option ℕ → Option Bool → List ℕ → UserState
user_with channel muted add = record blank_user { channel_id = channel; self_mute = muted; listening_channel_add = add }

user_typed : (channel : Option ℕ) (muted : Option Bool) (add : List ℕ) → IfSome channel (IsOne uint32) → IfSome muted (IsOne bool) → All (IsOne uint32) add
    → AreTyped (layout user_state) (parts user_state (user_with channel muted add))
user_typed channel muted add one two three =
    (tt, (tt, (tt, (tt, (one, (tt, (tt, (tt, (two, (tt, (tt, (tt, (tt, (tt, (tt, (none_typed (IsOne Utf8), (three, (none_typed (IsOne uint32), tt))))))))))))))))))

user_read : (channel : Option ℕ) (muted : Option Bool) (add : List ℕ) → length add ≤ 1 → AreTyped (layout user_state) (parts user_state (user_with channel muted add))
    → read user_state (spelled user_state (user_with channel muted add)) ≡ Message (parts user_state (user_with channel muted add))
user_read channel muted add few typed = reads user_state (user_with channel muted add) refl typed refl (omega (arith, few))

-- ---- messages on channels, and a target

link_read : (channel : ℕ) → channel < 2 ^ 32 → read channel_state (spelled channel_state (linking channel)) ≡ Message (parts channel_state (linking channel))
link_read channel low =
    reads channel_state (linking channel) refl
    (one_number channel low, (tt, (tt, (none_typed (IsOne uint32), (tt, (one_typed 0 (omega arith), (none_typed (IsOne uint32), (tt, (tt, (tt, tt)))))))))) refl (omega arith)

abbrev block : ℕ → TargetBlock
block channel = record { session = []; channel_id = Some channel; group = None; links = None; children = Some true }

block_typed : (channel : ℕ) → channel < 2 ^ 32 → AreTyped (layout target_block) (parts target_block (block channel)) × IsBytes (written (items (layout target_block) (parts target_block (block channel))))
block_typed channel low =
    let few : length (written (items (layout target_block) (parts target_block (block channel)))) ≤ bound (layout target_block) (parts target_block (block channel)) = items-few (layout target_block) (parts target_block (block channel)) in
    ((none_typed (IsOne uint32), (one_number channel low, (tt, (tt, ((refl, omega arith), tt))))), omega (arith, few))

aim_read : (channel : ℕ) → channel < 2 ^ 32 → read voice_target (spelled voice_target (aiming channel)) ≡ Message (parts voice_target (aiming channel))
aim_read channel low =
    let few : length (written (items (layout target_block) (parts target_block (block channel)))) ≤ bound (layout target_block) (parts target_block (block channel)) = items-few (layout target_block) (parts target_block (block channel)) in
    reads voice_target (aiming channel) refl (
      one_number 1 (omega arith),
      (All-from_recursion (λ x. AreTyped (layout target_block) x × IsBytes (written (items (layout target_block) x))) (parts target_block (block channel) ∷ []) (block_typed channel low, tt), tt),
    ) refl
    (let one = row-few Repeated Raw 2 (spelled target_block (block channel) ∷ []) in omega (arith, few, one))

-- ---- a login

login_read : (name : List ℕ) → IsUtf8 name → length name ≤ 20 → read authenticate (spelled authenticate (login name)) ≡ Message (parts authenticate (login name))
login_read name text short =
    reads authenticate (login name) refl ((text, omega (arith, short)), (tt, (none_typed (IsOne Utf8), (none_typed _, (tt, tt))))) refl (omega (arith, short))

-- ---- what the frames ask for

-- a connection asks for something by this frame
abbrev pub Asks : CoreState → ℕ → List ℕ → Type 0
Asks core i bytes = (command : Command) × (frame_action core (i + 1) bytes ≡ Ask command)

-- what a frame asks for is its type's and its payload's
frame_by : (n i kind : ℕ) (core : CoreState) (payload : List ℕ) (seat : Option Seat) (version : Option ℕ) (command : Command) → Rest n core → kind < 2 ^ 16 → seats_of core i ≡ seat → (conn core i).version ≡ version
    → action (machine_of (i + 1) (at_rest (conn core i).worker version seat (conn core i).lagged)) kind payload ≡ Ask command → frame_action core (i + 1) (spelling_of kind payload) ≡ Ask command
frame_by n i kind core payload seat version command rest fits seated told asks =
    let x : Connection = conn core i in
    let bytes : List ℕ = spelling_of kind payload in
    let is : connection_at core (i + 1) ≡ at_rest x.worker version seat x.lagged =
    here core i ∙ rest.each i ∙ ap (λ (v : Option ℕ). at_rest x.worker v x.seat x.lagged) told ∙ ap (λ (s : Option Seat). at_rest x.worker version s x.lagged) seated in
    ap (λ (y : Connection). action (machine_of (i + 1) y) (kind_of bytes) (payload_of bytes)) is
    ∙ ap (λ (k : ℕ). action (machine_of (i + 1) (at_rest x.worker version seat x.lagged)) k (payload_of bytes)) (kind_read kind payload fits)
    ∙ ap (λ (p : List ℕ). action (machine_of (i + 1) (at_rest x.worker version seat x.lagged)) kind p) (payload_read kind payload) ∙ asks

abbrev asked_by : ℕ → ℕ → Seat → Asked → Command
asked_by c worker seat what = record { connection = c; worker = worker; session = Some seat.session; what = what }

user_asks : (c worker : ℕ) (version : Option ℕ) (seat : Seat) (lagged : Bool) (payload : List ℕ) (values : Values (layout user_state)) → read user_state payload ≡ Message values
    → action (machine_of c (at_rest worker version (Some seat) lagged)) USER_STATE payload ≡ Ask (asked_by c worker seat (User (users.User (user_state_of values))))
unfolding action
user_asks c worker version seat lagged payload values is =
    ap (λ (h : Heard (Values (layout user_state))). command_action (machine_of c (at_rest worker version (Some seat) lagged)) (heard_map (λ values. User (users.User (user_state_of values))) h)) is

channel_asks : (c worker : ℕ) (version : Option ℕ) (seat : Seat) (lagged : Bool) (payload : List ℕ) (values : Values (layout channel_state)) → read channel_state payload ≡ Message values
    → action (machine_of c (at_rest worker version (Some seat) lagged)) CHANNEL_STATE payload ≡ Ask (asked_by c worker seat (Tree (channels.State (channel_state_of values))))
unfolding action
channel_asks c worker version seat lagged payload values is =
    ap (λ (h : Heard (Values (layout channel_state))). command_action (machine_of c (at_rest worker version (Some seat) lagged)) (heard_map (λ values. Tree (channels.State (channel_state_of values))) h)) is

target_asks : (c worker : ℕ) (version : Option ℕ) (seat : Seat) (lagged : Bool) (payload : List ℕ) (values : Values (layout voice_target)) → read voice_target payload ≡ Message values
    → action (machine_of c (at_rest worker version (Some seat) lagged)) VOICE_TARGET payload ≡ Ask (asked_by c worker seat (User (users.Target (voice_target_of values))))
unfolding action
target_asks c worker version seat lagged payload values is =
    ap (λ (h : Heard (Values (layout voice_target))). command_action (machine_of c (at_rest worker version (Some seat) lagged)) (heard_map (λ values. User (users.Target (voice_target_of values))) h)) is

module _ (n : ℕ) (core : CoreState) (i : ℕ) (seat : Seat) (rest : Rest n core) (seated : seats_of core i ≡ Some seat) where
  user_frame_asks : (channel : Option ℕ) (muted : Option Bool) (add : List ℕ) → length add ≤ 1 → IfSome channel (IsOne uint32) → IfSome muted (IsOne bool) → All (IsOne uint32) add
      → Asks core i (user_frame (user_with channel muted add))
  user_frame_asks channel muted add few one two three =
      let x : Connection = conn core i in (
        _,
        frame_by n i USER_STATE core (spelled user_state (user_with channel muted add)) (Some seat) x.version _ rest (omega arith) seated refl
            (user_asks (i + 1) x.worker x.version seat x.lagged (spelled user_state (user_with channel muted add)) (parts user_state (user_with channel muted add))
            (user_read channel muted add few (user_typed channel muted add one two three))),
      )

  pub enter_asks : (channel : ℕ) → channel < 2 ^ 32 → Asks core i (user_frame (entering channel))
  enter_asks channel low = user_frame_asks (Some channel) None [] (omega arith) (one_number channel low) tt (none_typed (IsOne uint32))

  pub listen_asks : (channel : ℕ) → channel < 2 ^ 32 → Asks core i (user_frame (listening channel))
  listen_asks channel low = user_frame_asks None None (channel ∷ []) (omega arith) tt tt (one_typed channel low)

  pub mute_asks : (muted : Bool) → Asks core i (user_frame (self_muting muted))
  mute_asks true = user_frame_asks None (Some true) [] (omega arith) tt (refl, omega arith) (none_typed (IsOne uint32))
  mute_asks false = user_frame_asks None (Some false) [] (omega arith) tt (refl, omega arith) (none_typed (IsOne uint32))

  pub link_asks : (channel : ℕ) → channel < 2 ^ 32 → Asks core i (channel_frame (linking channel))
  link_asks channel low =
      let x : Connection = conn core i in (
        _,
        frame_by n i CHANNEL_STATE core (spelled channel_state (linking channel)) (Some seat) x.version _ rest (omega arith) seated refl
            (channel_asks (i + 1) x.worker x.version seat x.lagged (spelled channel_state (linking channel)) (parts channel_state (linking channel)) (link_read channel low)),
      )

  pub aim_asks : (channel : ℕ) → channel < 2 ^ 32 → Asks core i (target_frame (aiming channel))
  aim_asks channel low =
      let x : Connection = conn core i in (
        _,
        frame_by n i VOICE_TARGET core (spelled voice_target (aiming channel)) (Some seat) x.version _ rest (omega arith) seated refl
            (target_asks (i + 1) x.worker x.version seat x.lagged (spelled voice_target (aiming channel)) (parts voice_target (aiming channel)) (aim_read channel low)),
      )

-- a connection that has sent nothing asks to come
abbrev pub asked_login : ℕ → ℕ → List ℕ → Command
asked_login c worker name = record { connection = c; worker = worker; session = None; what = User (users.Join (login name) None) }

login_asks : (c worker : ℕ) (lagged : Bool) (name payload : List ℕ) → read authenticate payload ≡ Message (parts authenticate (login name))
    → action (machine_of c (at_rest worker None None lagged)) AUTHENTICATE payload ≡ Ask (asked_login c worker name)
unfolding action authenticate_of
login_asks c worker lagged name payload is =
    ap (λ (h : Heard (Values (layout authenticate))). command_action (machine_of c (at_rest worker None None lagged)) (heard_map (λ values. User (users.Join (authenticate_of values) None)) h)) is

pub come_asks : (n i : ℕ) (core : CoreState) (name : List ℕ) → Rest n core → seats_of core i ≡ None → (conn core i).version ≡ None → IsUtf8 name → length name ≤ 20
    → frame_action core (i + 1) (spelling_of AUTHENTICATE (spelled authenticate (login name))) ≡ Ask (asked_login (i + 1) (conn core i).worker name)
come_asks n i core name rest seated told text short =
    frame_by n i AUTHENTICATE core (spelled authenticate (login name)) None None _ rest (omega arith) seated told
    (login_asks (i + 1) (conn core i).worker (conn core i).lagged name (spelled authenticate (login name)) (login_read name text short))
