-- What messages of one kind leave of what is known, of each session alone.
use Rattle.mum_client_laws.proofs.Common.{◌≡◌, ℕ, ◌==◌, Bool, true, false, cond, List, [], ◌∷◌, map, fold, Option, refl, ap, sym, ◌∙◌, filter, flat_map, option_map_or, fold-append, SessionId, PermissionQuery, TextMessage, ChannelState, UserState, has_number, User, OfChannel, OfPermissions, OfSession, OfText, all_heard, channels_heard, heard, links_heard, listening_after, listening_heard, session_after, sessions_heard, Channels, Known, KnownSession, Pairs, Sessions}

-- ---- sessions

abbrev pub told_sessions : List UserState → Sessions → Sessions
told_sessions messages sessions = fold (λ known message. sessions_heard message known) sessions messages

abbrev pub told_listening : List UserState → Pairs → Pairs
told_listening messages listening = fold (λ known message. listening_heard message known) listening messages

pub heard_sessions : (messages : List UserState) (known : Known)
    → all_heard known (map OfSession messages) ≡ record known { sessions = told_sessions messages known.sessions; listening = told_listening messages known.listening }
heard_sessions [] known = refl
heard_sessions (message ∷ messages) known = heard_sessions messages (heard known (OfSession message))

-- what a message leaves of one session
abbrev pub session_at : ℕ → Option KnownSession → UserState → Option KnownSession
session_at session known message = option_map_or (λ about. cond (session == about) (session_after message known) known) message.session known

-- and of whether it listens to one channel
abbrev pub listens_at : ℕ → ℕ → Bool → UserState → Bool
listens_at session channel known message = option_map_or (λ about. cond (session == about) (listening_after message known channel) known) message.session known

pub told_session : (session : ℕ) (messages : List UserState) (sessions : Sessions) → told_sessions messages sessions session ≡ fold (session_at session) (sessions session) messages
told_session session [] sessions = refl
told_session session (message ∷ messages) sessions = told_session session messages (sessions_heard message sessions)

pub told_listens : (session channel : ℕ) (messages : List UserState) (listening : Pairs)
    → told_listening messages listening session channel ≡ fold (listens_at session channel) (listening session channel) messages
told_listens session channel [] listening = refl
told_listens session channel (message ∷ messages) listening = told_listens session channel messages (listening_heard message listening)

-- messages about others change nothing of it
pub told_of_own : {V : Type 0} (at : V → UserState → V) (session : SessionId) (say : User → List UserState)
    → ((user : User) (value : V) → has_number session user ≡ false → fold at value (say user) ≡ value)
    → (users : List User) (value : V) → fold at value (flat_map say users) ≡ fold at value (flat_map say (filter (has_number session) users))
told_of_own at session say others [] value = refl
told_of_own {V} at session say others (user ∷ users) value = step (has_number session user) refl (told_of_own at session say others users)
  where
    step : (b : Bool) → has_number session user ≡ b
        → ((known : V) → fold at known (flat_map say users) ≡ fold at known (flat_map say (filter (has_number session) users)))
        → fold at value (flat_map say (user ∷ users)) ≡ fold at value (flat_map say (filter (has_number session) (user ∷ users)))
    step true is rest =
        rw is (fold-append at value (say user) (flat_map say users) ∙ rest (fold at value (say user))
        ∙ sym (fold-append at value (say user) (flat_map say (filter (has_number session) users))))
    step false is rest =
        rw is (fold-append at value (say user) (flat_map say users) ∙ ap (λ (known : V). fold at known (flat_map say users)) (others user value is) ∙ rest value)

-- ---- messages that change nothing

pub heard_texts : {X : Type 0} (message : X → TextMessage) (xs : List X) (known : Known) → all_heard known (map (λ x. OfText (message x)) xs) ≡ known
heard_texts message [] known = refl
heard_texts message (x ∷ xs) known = heard_texts message xs known

pub heard_permissions : {X : Type 0} (message : X → PermissionQuery) (xs : List X) (known : Known) → all_heard known (map (λ x. OfPermissions (message x)) xs) ≡ known
heard_permissions message [] known = refl
heard_permissions message (x ∷ xs) known = heard_permissions message xs known

-- ---- channels

abbrev pub told_channels : List ChannelState → Channels → Channels
told_channels messages channels = fold (λ known message. channels_heard message known) channels messages

abbrev pub told_links : List ChannelState → Pairs → Pairs
told_links messages links = fold (λ known message. links_heard message known) links messages

pub heard_channels : (messages : List ChannelState) (known : Known)
    → all_heard known (map OfChannel messages) ≡ record known { channels = told_channels messages known.channels; links = told_links messages known.links }
heard_channels [] known = refl
heard_channels (message ∷ messages) known = heard_channels messages (heard known (OfChannel message))
