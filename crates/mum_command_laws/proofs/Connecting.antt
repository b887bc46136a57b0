-- A version that was sent stays, and the commands of a session are asked.
use Rattle.mum_command_laws.proofs.Common.{◌≡◌, ◌⊎◌, ℕ, ◌==◌, Bool, true, false, cond, List, [], ◌∷◌, Option, Some, None, refl, Ok, Err, ap, sym, subst, inl, inr, All, is_some, All-cons, All-nil, SessionId, Malformed, TooLong, or_else, decoded, ACL, CHANNEL_REMOVE, CHANNEL_STATE, PERMISSION_QUERY, USER_REMOVE, USER_STATE, VERSION, VOICE_TARGET, version, Decoded, action, after_frame, command_action, ignore, version_after, command_heard, Machine, is_rejected, Action, Ask, Asked, Heard, Stage, LoggedIn, CommandsAreAsked, VersionsStay, commands}
use Rattle.mum_frame.specs.declared.kind.TheConstants.{TEXT_MESSAGE}
use Rattle.mum_session.specs.declared.heard.Heard.TheVariants as heard

-- ---- versions

else_stays : (told before : Option ℕ) → is_some before ≡ true → is_some (or_else told before) ≡ true
else_stays None before some = some
else_stays (Some number) before some = refl

told_stays : (before : Option ℕ) (told : Decoded version) → is_some before ≡ true → is_some (version_after before told) ≡ true
told_stays before (Ok values) some = else_stays values.0 before some
told_stays before (Err fault) some = some

either_stays : (one other : Bool) (before told : Option ℕ) → is_some before ≡ true → is_some told ≡ true
    → is_some (cond one before (cond other told before)) ≡ true
either_stays true other before told some also = some
either_stays false true before told some also = also
either_stays false false before told some also = some

pub versions_stay_lem : VersionsStay
unfolding after_frame
versions_stay_lem machine kind payload some =
    either_stays (is_rejected machine.stage) (kind == VERSION) machine.version (version_after machine.version (decoded version payload)) some
    (told_stays machine.version (decoded version payload) some)

-- ---- commands

abbrev IsAsked : Machine → SessionId → Action → Type 0
IsAsked machine session act =
    (act ≡ ignore Malformed) ⊎ (act ≡ ignore TooLong)
    ⊎ ((what : Asked) × (act ≡ Ask (record { connection = machine.connection; worker = machine.worker; session = Some session; what = what })))

-- a machine that has come to a session
abbrev seated : Machine → SessionId → Machine
seated machine session = record machine { stage = LoggedIn session }

asked : (machine : Machine) (session : SessionId) (read : Heard Asked) → IsAsked (seated machine session) session (command_action (seated machine session) read)
asked machine session heard.Malformed = inl refl
asked machine session heard.TooLong = inr (inl refl)
asked machine session (heard.Message what) = inr (inr (what, refl))

each_asked : (before : Machine) (session : SessionId) (payload : List ℕ)
    → All (λ kind. IsAsked (seated before session) session (action (seated before session) kind payload)) commands
unfolding action
each_asked before session payload =
    let machine = seated before session in
    All-cons (λ kind. IsAsked machine session (action machine kind payload)) CHANNEL_REMOVE
    (CHANNEL_STATE ∷ USER_REMOVE ∷ USER_STATE ∷ TEXT_MESSAGE ∷ ACL ∷ VOICE_TARGET ∷ PERMISSION_QUERY ∷ [])
    (asked before session (command_heard CHANNEL_REMOVE payload))
    (All-cons (λ kind. IsAsked machine session (action machine kind payload)) CHANNEL_STATE
    (USER_REMOVE ∷ USER_STATE ∷ TEXT_MESSAGE ∷ ACL ∷ VOICE_TARGET ∷ PERMISSION_QUERY ∷ [])
    (asked before session (command_heard CHANNEL_STATE payload))
    (All-cons (λ kind. IsAsked machine session (action machine kind payload)) USER_REMOVE
    (USER_STATE ∷ TEXT_MESSAGE ∷ ACL ∷ VOICE_TARGET ∷ PERMISSION_QUERY ∷ [])
    (asked before session (command_heard USER_REMOVE payload))
    (All-cons (λ kind. IsAsked machine session (action machine kind payload)) USER_STATE
    (TEXT_MESSAGE ∷ ACL ∷ VOICE_TARGET ∷ PERMISSION_QUERY ∷ [])
    (asked before session (command_heard USER_STATE payload))
    (All-cons (λ kind. IsAsked machine session (action machine kind payload)) TEXT_MESSAGE
    (ACL ∷ VOICE_TARGET ∷ PERMISSION_QUERY ∷ [])
    (asked before session (command_heard TEXT_MESSAGE payload))
    (All-cons (λ kind. IsAsked machine session (action machine kind payload)) ACL
    (VOICE_TARGET ∷ PERMISSION_QUERY ∷ [])
    (asked before session (command_heard ACL payload))
    (All-cons (λ kind. IsAsked machine session (action machine kind payload)) VOICE_TARGET
    (PERMISSION_QUERY ∷ [])
    (asked before session (command_heard VOICE_TARGET payload))
    (All-cons (λ kind. IsAsked machine session (action machine kind payload)) PERMISSION_QUERY []
    (asked before session (command_heard PERMISSION_QUERY payload))
    (All-nil (λ kind. IsAsked machine session (action machine kind payload))))))))))

pub commands_are_asked_lem : CommandsAreAsked
commands_are_asked_lem machine session payload in_session =
    subst (λ (m : Machine). All (λ kind. IsAsked m session (action m kind payload)) commands) (same machine in_session)
    (each_asked machine session payload)
  where
    same : (one : Machine) → one.stage ≡ LoggedIn session → seated one session ≡ one
    same one is = sym (ap (λ (s : Stage). record one { stage = s }) is)
