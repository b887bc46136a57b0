-- What posting does: to the next notice, and to the boxes.
use Rattle.std.specs.Prelude.{◌≡◌, ℕ, ◌&&◌, not, List, [], ◌∷◌, ◌++◌, map, slice_get, slice_set, Option, Some, None, if◌then◌else◌}
use Rattle.mum_base.specs.declared.number.{SessionId.SessionId, Slot.Slot, TheConstants.POST_CAPACITY}
use Rattle.mum_outbox.specs.declared.queue.Offered.{Offered, TheVariants.Sent, TheVariants.Full}
use Rattle.mum_outbox.specs.declared.rule.Tagged.{Tagged}
use Rattle.mum_outbox.specs.{Calls.Offers, Calls.Takes, Calls.new_pass, Facts.PassFacts as BoxFacts, Facts.QueueFacts}
use Rattle.mum_state.specs.State.{StateValue}
use Rattle.mum_state.specs.declared.edit.Edit.{Edit}
use Rattle.mum_published.specs.Facts.{PublisherFacts}
use Rattle.mum_notify.specs.declared.notice.Notice.{Notice}
use Rattle.mum_parcel.specs.{Facts.PostFacts, Rules.parcel_of}
use Rattle.mum_control.specs.declared.posted.Posted.{Posted}
use Rattle.mum_control.specs.{Facts.ControlFacts, Kept.is_listed, Kept.is_there, Commanded.current}
use Rattle.mum_control.specs.declared.posted.Posted.TheVariants as posted

-- the notices that are to be posted: all that are pending, once all accepted edits are published
abbrev pub due_behind : List Edit → List Notice → List Notice
due_behind [] pending = pending
due_behind (edit ∷ unpublished) pending = []

abbrev pub due_notices : ControlFacts → List Notice
due_notices control = due_behind control.publisher.pending control.pending

-- what posting a notice to a session came to: posted, or the session lags
abbrev pub answer_of : SessionId → Offered PostFacts → Posted
answer_of session Sent = posted.Posted session
answer_of session (Full back) = posted.Lagged session

-- a session whose box was full is listed once, while it is there
abbrev pub with_lagging : StateValue → List SessionId → SessionId → List SessionId
with_lagging state sessions session =
    if is_there state session && not (is_listed sessions session) then sessions ++ session ∷ [] else sessions

-- the sessions that lag, with this one where its box was full and it is there
abbrev pub lagged_after : ControlFacts → SessionId → Offered PostFacts → List SessionId
lagged_after control session Sent = control.lagged
lagged_after control session (Full back) = with_lagging (current control) control.lagged session

-- the parcel is offered once to the box at this place
pub record OffersAt (posts : List (BoxFacts PostFacts)) (place : ℕ) (parcel : PostFacts) (offered : Offered PostFacts)
    (after : List (BoxFacts PostFacts)) : Type 0 where
  pub before : BoxFacts PostFacts
  pub later : BoxFacts PostFacts
  pub box : slice_get posts place ≡ Some before
  pub offers : Offers POST_CAPACITY before parcel offered later
  pub others : after ≡ slice_set posts place later

-- the first pending notice is offered once to the box of its slot, with all that is published
pub record Posts (old : ControlFacts) (notice : Notice) (rest : List Notice) (result : Posted)
    (new : ControlFacts) : Type 0 where
  pub offered : Offered PostFacts
  pub offers : OffersAt old.posts notice.slot.0 (parcel_of old.publisher.published notice) offered new.posts
  pub others : new ≡ record old { pending = rest; posts = new.posts; lagged = lagged_after old notice.to offered }
  pub answer : result ≡ answer_of notice.to offered

-- nothing is posted exactly where nothing is to be posted
abbrev pub PostsNext : ControlFacts → List Notice → Posted → ControlFacts → Type 0
PostsNext old [] result new = (result ≡ posted.None) × (new ≡ old)
PostsNext old (notice ∷ rest) result new = Posts old notice rest result new

-- parcels were taken from the box, one by one, until a take found it empty
pub record IsEmptied (before after : BoxFacts PostFacts) : Type 0 where
  pub taken : List (Tagged PostFacts)
  pub last : Takes POST_CAPACITY (record before { taken = before.taken ++ taken }) None after

-- the box at this place is emptied
pub record EmptiesAt (posts : List (BoxFacts PostFacts)) (place : ℕ) (after : List (BoxFacts PostFacts)) : Type 0 where
  pub before : BoxFacts PostFacts
  pub later : BoxFacts PostFacts
  pub box : slice_get posts place ≡ Some before
  pub emptied : IsEmptied before later
  pub others : after ≡ slice_set posts place later

-- the box of this slot is emptied; nothing changes where there is none
abbrev pub EmptiesPost : ControlFacts → Option Slot → ControlFacts → Type 0
EmptiesPost old None new = new ≡ old
EmptiesPost old (Some slot) new = EmptiesAt old.posts slot.0 new.posts × (new ≡ record old { posts = new.posts })

-- the control owner is new: it has the publisher, and a new pass of each box
pub record IsOpened (publisher : PublisherFacts) (queues : List QueueFacts) (control : ControlFacts) : Type 0 where
  pub boxes : control.posts ≡ map new_pass queues
  pub others : control ≡ record { publisher = publisher; posts = control.posts; pending = []; lagged = []; mark = None }
