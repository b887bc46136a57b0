-- The journal has a command as a frame of the type that was sent.
use Rattle.mum_owner.proofs.Common.{◌≡◌, ◌==◌, ◌&&◌, ◌||◌, ◌<◌, ◌^◌, ℕ, Bool, true, false, List, [], ◌∷◌, Option, Some, None, ap, arith, refl, subst, sym, Err, Ok, if◌then◌else◌, list_any, option_map, eqb-true, SessionId, decoded, spelling_of, ACL, AUTHENTICATE, CHANNEL_REMOVE, CHANNEL_STATE, PERMISSION_QUERY, PING, TEXT_MESSAGE, UDP_TUNNEL, USER_REMOVE, USER_STATE, VERSION, VOICE_TARGET, acl, permission_query, text_message, voice_target, acl_of, permission_query_of, text_message_of, voice_target_of, authenticate, channel_remove, channel_state, ping, user_remove, user_state, version, authenticate_of, channel_remove_of, channel_state_of, user_remove_of, user_state_of, Each, TreeMessage, UserMessage, NotRead, Decoded, action, after_login, command_action, commands_after_login, ignore, login_action, ping_action, tree_or_user_action, version_action, voice_action, command_heard, heard_map, read, Machine, is_rejected, Action, Ask, Bans, BAN_LIST, Asked, Tree, User, Command, Heard, Message, Malformed, TooLong, IsWrittenAs, tree_kind, user_kind, version_of, version_with}
use Rattle.mum_session.specs.Machine.{session_of}
use Rattle.mum_owner.proofs.Framing.{kind_of-spelling_of}
use Rattle.mum_rules_tree.specs.Asked as tree
use Rattle.mum_rules_tree.specs.declared.message.TreeMessage.TheVariants as channels
use Rattle.mum_rules_user.specs.Asked as user
use Rattle.mum_rules_user.specs.declared.message.UserMessage.TheVariants as users

-- ---- one command

tree_written : (message : TreeMessage) → tree_kind message < 2 ^ 16 → IsWrittenAs (tree_kind message) None (Tree message)
tree_written message fits =
    (spelling_of (tree_kind message) (tree.payload_of message), refl, kind_of-spelling_of (tree_kind message) (tree.payload_of message) fits, refl)

user_written : (message : UserMessage) (kind : ℕ) → user_kind message ≡ Some kind → kind < 2 ^ 16 → IsWrittenAs kind (version_of (User message)) (User message)
user_written message kind is fits =
    (spelling_of kind (user.payload_of message), ap (option_map (λ (k : ℕ). spelling_of k (user.payload_of message))) is, kind_of-spelling_of kind (user.payload_of message) fits, refl)

-- what a command asks, or this where it is no command
abbrev asked_or : Asked → Action → Asked
asked_or other (Ask command) = command.what
asked_or other others = other

-- whatever message is heard
said : {X : Type 0} (f : X → Asked) (kind : ℕ) (told : Option ℕ) (found : Heard X) (machine : Machine) (command : Command)
    → ((x : X) → IsWrittenAs kind told (f x)) → command_action machine (heard_map f found) ≡ Ask command → IsWrittenAs kind told command.what
said f kind told (Message x) machine command each is = subst (λ (what : Asked). IsWrittenAs kind told what) (ap (asked_or (f x)) is) (each x)
said f kind told Malformed machine command each is = absurd cc
said f kind told TooLong machine command each is = absurd cc

-- ---- the types of commands

-- what is to hold of a type
abbrev IsSent : Machine → List ℕ → Command → ℕ → Type 0
IsSent machine payload command kind =
    command_action machine (command_heard kind payload) ≡ Ask command → IsWrittenAs kind (version_with kind machine.version) command.what

module _ (machine : Machine) (payload : List ℕ) (command : Command) where
  removal : IsSent machine payload command CHANNEL_REMOVE
  removal =
      said (λ values. Tree (channels.Remove (channel_remove_of values))) CHANNEL_REMOVE None (read channel_remove payload) machine command
      (λ values. tree_written (channels.Remove (channel_remove_of values)) (omega arith))

  channel : IsSent machine payload command CHANNEL_STATE
  channel =
      said (λ values. Tree (channels.State (channel_state_of values))) CHANNEL_STATE None (read channel_state payload) machine command
      (λ values. tree_written (channels.State (channel_state_of values)) (omega arith))

  kick : IsSent machine payload command USER_REMOVE
  kick =
      said (λ values. User (users.Kick (user_remove_of values))) USER_REMOVE None (read user_remove payload) machine command
      (λ values. user_written (users.Kick (user_remove_of values)) USER_REMOVE refl (omega arith))

  change : IsSent machine payload command USER_STATE
  change =
      said (λ values. User (users.User (user_state_of values))) USER_STATE None (read user_state payload) machine command
      (λ values. user_written (users.User (user_state_of values)) USER_STATE refl (omega arith))

  text : IsSent machine payload command TEXT_MESSAGE
  text =
      said (λ values. User (users.Text (text_message_of values))) TEXT_MESSAGE None (read text_message payload) machine command
      (λ values. user_written (users.Text (text_message_of values)) TEXT_MESSAGE refl (omega arith))

  rights : IsSent machine payload command ACL
  rights =
      said (λ values. Tree (channels.Acl (acl_of values))) ACL None (read acl payload) machine command
      (λ values. tree_written (channels.Acl (acl_of values)) (omega arith))

  target : IsSent machine payload command VOICE_TARGET
  target =
      said (λ values. User (users.Target (voice_target_of values))) VOICE_TARGET None (read voice_target payload) machine command
      (λ values. user_written (users.Target (voice_target_of values)) VOICE_TARGET refl (omega arith))

  query : IsSent machine payload command PERMISSION_QUERY
  query =
      said (λ values. User (users.Query (permission_query_of values))) PERMISSION_QUERY None (read permission_query payload) machine command
      (λ values. user_written (users.Query (permission_query_of values)) PERMISSION_QUERY refl (omega arith))

  each_known : Each (IsSent machine payload command) commands_after_login
  each_known = (removal, (channel, (kick, (change, (text, (rights, (target, (query, tt))))))))

known_at : (P : ℕ → Type 0) (known kind : ℕ) (same more : Bool) → (known == kind) ≡ same → (same || more) ≡ true → P known → (more ≡ true → P kind) → P kind
known_at P known kind true more is any here there = subst P (eqb-true known kind is) here
known_at P known kind false more is any here there = there any

-- what holds of each of these types holds of one of them
of_known : (P : ℕ → Type 0) (kinds : List ℕ) (kind : ℕ) → list_any (λ known. known == kind) kinds ≡ true → Each P kinds → P kind
of_known P [] kind any each = absurd cc
of_known P (known ∷ kinds) kind any each =
    known_at P known kind (known == kind) (list_any (λ known. known == kind) kinds) refl any each.0 (λ more. of_known P kinds kind more each.1)

-- ---- frames

where_so : {X : Type 0} (P : X → Type 0) (b : Bool) (x y : X) → (b ≡ true → P x) → (b ≡ false → P y) → P (if b then x else y)
where_so P true x y first second = first refl
where_so P false x y first second = second refl

no_voice : (session : Option SessionId) (payload : List ℕ) (command : Command) → voice_action session payload ≡ Ask command → ⊥
no_voice None payload command is = cc
no_voice (Some session) payload command is = cc

no_version : (found : Decoded version) (command : Command) → version_action found ≡ Ask command → ⊥
no_version (Ok values) command is = cc
no_version (Err fault) command is = cc

no_ping : (found : Decoded ping) (command : Command) → ping_action found ≡ Ask command → ⊥
no_ping (Ok values) command is = cc
no_ping (Err fault) command is = cc

no_list : (may : Bool) (session : Option SessionId) (payload : List ℕ) (command : Command) → (if may then after_login session (Bans payload) else ignore NotRead) ≡ Ask command → ⊥
no_list true None payload command is = cc
no_list true (Some session) payload command is = cc
no_list false session payload command is = cc

logged_in : (session : Option SessionId) (asks : Action) (command : Command) → after_login session asks ≡ Ask command → asks ≡ Ask command
logged_in None asks command is = absurd cc
logged_in (Some session) asks command is = is

login_sent : (machine : Machine) (payload : List ℕ) (command : Command) → login_action machine payload ≡ Ask command
    → IsWrittenAs AUTHENTICATE (version_with AUTHENTICATE machine.version) command.what
login_sent machine payload command =
    said (λ values. User (users.Join (authenticate_of values) machine.version)) AUTHENTICATE machine.version (read authenticate payload) machine command
    (λ values. user_written (users.Join (authenticate_of values) machine.version) AUTHENTICATE refl (omega arith))

-- a frame asks for a command that is written as a frame of the same type
pub sent : (machine : Machine) (kind : ℕ) (payload : List ℕ) (command : Command) → action machine kind payload ≡ Ask command
    → IsWrittenAs kind (version_with kind machine.version) command.what
unfolding action
sent machine kind payload command =
    let goal : Type 0 = IsWrittenAs kind (version_with kind machine.version) command.what in
    let asks : Action → Type 0 = λ a. a ≡ Ask command → goal in
    where_so asks (is_rejected machine.stage) _ _ (λ b is. absurd cc) (λ b0.
    where_so asks (kind == UDP_TUNNEL) _ _ (λ b is. absurd (no_voice (session_of machine.stage) payload command is)) (λ b1.
    where_so asks (kind == VERSION) _ _ (λ b is. absurd (no_version (decoded version payload) command is)) (λ b2.
    where_so asks (kind == PING) _ _ (λ b is. absurd (no_ping (decoded ping payload) command is)) (λ b3.
    where_so asks (kind == AUTHENTICATE) _ _
    (λ b is. subst (λ (k : ℕ). IsWrittenAs k (version_with k machine.version) command.what) (sym (eqb-true kind AUTHENTICATE b)) (login_sent machine payload command is))
    (λ b4. where_so asks (list_any (λ known. known == kind) commands_after_login) _ _
    (λ any is. of_known (IsSent machine payload command) commands_after_login kind any (each_known machine payload command)
    (logged_in (session_of machine.stage) (tree_or_user_action machine kind payload) command is))
    (λ b is. absurd (no_list (machine.bans && kind == BAN_LIST) (session_of machine.stage) payload command is)))))))
