-- The messages that the notices of an edit bring to a session that stays.
use Rattle.mum_client_laws.proofs.Common.{◌≡◌, ℕ, ◌==◌, Bool, true, false, List, [], ◌∷◌, ◌++◌, map, refl, ap, sym, ◌∙◌, filter, map-append, filter-append, SessionId, PermissionQuery, TextMessage, ChannelRemove, ChannelState, CodecVersion, ServerSync, UserRemove, UserState, Version, has_number, User, all_to_each, channel_frame, channel_gone_frame, channel_gone_payload, channel_payload, codecs_frame, codecs_payload, parcel, permissions_frame, permissions_payload, sync_frame, sync_payload, text_frame, text_payload, to_each, user_frame, user_gone_frame, user_gone_payload, user_payload, version_frame, version_payload, Notice, frame_of, frames_to, Message, OfChannel, OfChannelGone, OfCodecs, OfPermissions, OfSession, OfSessionGone, OfSync, OfText, OfVersion}

-- ---- each message is the frame of its type

pub version_framed : (message : Version) → frame_of (OfVersion message) ≡ version_frame message
unfolding version_payload
version_framed message = refl

pub codecs_framed : (message : CodecVersion) → frame_of (OfCodecs message) ≡ codecs_frame message
unfolding codecs_payload
codecs_framed message = refl

pub sync_framed : (message : ServerSync) → frame_of (OfSync message) ≡ sync_frame message
unfolding sync_payload
sync_framed message = refl

pub channel_framed : (message : ChannelState) → frame_of (OfChannel message) ≡ channel_frame message
unfolding channel_payload
channel_framed message = refl

pub channel_gone_framed : (message : ChannelRemove) → frame_of (OfChannelGone message) ≡ channel_gone_frame message
unfolding channel_gone_payload
channel_gone_framed message = refl

pub session_framed : (message : UserState) → frame_of (OfSession message) ≡ user_frame message
unfolding user_payload
session_framed message = refl

pub session_gone_framed : (message : UserRemove) → frame_of (OfSessionGone message) ≡ user_gone_frame message
unfolding user_gone_payload
session_gone_framed message = refl

pub text_framed : (message : TextMessage) → frame_of (OfText message) ≡ text_frame message
unfolding text_payload
text_framed message = refl

pub permissions_framed : (message : PermissionQuery) → frame_of (OfPermissions message) ≡ permissions_frame message
unfolding permissions_payload
permissions_framed message = refl

pub all_framed : {M : Type 0} (as_message : M → Message) (frame : M → List ℕ) → ((message : M) → frame_of (as_message message) ≡ frame message)
    → (messages : List M) → map frame_of (map as_message messages) ≡ map frame messages
all_framed as_message frame framed [] = refl
all_framed as_message frame framed (message ∷ messages) =
    ap (λ (first : List ℕ). first ∷ map frame_of (map as_message messages)) (framed message)
    ∙ ap (λ (frames : List (List ℕ)). frame message ∷ frames) (all_framed as_message frame framed messages)

-- ---- what of a list of notices is for the session

module _ (session : SessionId) where
  pub frames_append : (one other : List Notice) → frames_to session (one ++ other) ≡ frames_to session one ++ frames_to session other
  frames_append one other =
      ap (λ (sent : List Notice). map (λ notice. notice.bytes) sent) (filter-append (λ (notice : Notice). notice.to.0 == session.0) one other)
      ∙ map-append (λ (notice : Notice). notice.bytes) (filter (λ (notice : Notice). notice.to.0 == session.0) one) (filter (λ (notice : Notice). notice.to.0 == session.0) other)

  -- messages that are the frames of two lists, one after the other
  pub both_framed : (first last : List Message) (one other : List Notice) → map frame_of first ≡ frames_to session one → map frame_of last ≡ frames_to session other
      → map frame_of (first ++ last) ≡ frames_to session (one ++ other)
  both_framed first last one other begins ends =
      map-append frame_of first last ∙ ap (λ (frames : List (List ℕ)). frames ++ map frame_of last) begins
      ∙ ap (λ (frames : List (List ℕ)). frames_to session one ++ frames) ends ∙ sym (frames_append one other)

  -- of one notice for each of these sessions
  pub frames_posted : (post : User → Notice) → ((user : User) → (post user).to ≡ user.session) → (users : List User)
      → frames_to session (map post users) ≡ map (λ user. (post user).bytes) (filter (has_number session) users)
  frames_posted post to [] = refl
  frames_posted post to (user ∷ users) = step (has_number session user) refl (frames_posted post to users)
    where
      own : ((post user).to.0 == session.0) ≡ has_number session user
      own = ap (λ (one : SessionId). one.0 == session.0) (to user)

      step : (b : Bool) → has_number session user ≡ b → frames_to session (map post users) ≡ map (λ one. (post one).bytes) (filter (has_number session) users)
          → frames_to session (map post (user ∷ users)) ≡ map (λ one. (post one).bytes) (filter (has_number session) (user ∷ users))
      step true is rest = rw (own, is) (ap (λ (frames : List (List ℕ)). (post user).bytes ∷ frames) rest)
      step false is rest = rw (own, is) rest

  -- of frames that go to all these sessions, where it is one of them
  pub frames_of_all : (users : List User) (user : User) → filter (has_number session) users ≡ user ∷ [] → (frames : List (List ℕ))
      → frames_to session (all_to_each users frames) ≡ frames
  frames_of_all users user alone [] = refl
  frames_of_all users user alone (frame ∷ frames) =
      frames_append (to_each users frame) (all_to_each users frames)
      ∙ ap (λ (l : List (List ℕ)). l ++ frames_to session (all_to_each users frames)) (frames_posted (parcel frame) (λ one. refl) users ∙ ap (λ (us : List User). map (λ one. frame) us) alone)
      ∙ ap (λ (l : List (List ℕ)). frame ∷ l) (frames_of_all users user alone frames)
