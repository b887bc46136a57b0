-- What sessions know by what they are sent.
use Rattle.std.specs.Prelude.{ℕ, Bool, List, [], ◌∷◌, ◌++◌, Option, is_some, IsTrue}
use Rattle.mum_base.specs.declared.number.{AccountId.AccountId, SessionId.SessionId, Slot.Slot}
use Rattle.mum_users.specs.Sessions.{session_of}
use Rattle.mum_state.specs.{Applied.applied, Fits.fits, Proper.IsProper, State.StateValue}
use Rattle.mum_state.specs.declared.edit.Edit.{Edit, TheVariants.Join}
use Rattle.mum_notify.specs.{Notices.notices, Sync.sync_block}
use Rattle.mum_notify.specs.declared.notice.Notice.{Notice}
use Rattle.mum_client_laws.specs.{Brought.Brings, Known.nothing, Known.public}

abbrev pub is_here : StateValue → SessionId → Bool
is_here state session = is_some (session_of state.roster session)

-- whoever is sent the sync block knows all that there is to know
abbrev pub NewcomersKnowWhatIs : Type 0
NewcomersKnowWhatIs =
    (state : StateValue) (session : SessionId) → IsProper state → IsTrue (is_here state session)
    → Brings session (sync_block state session) nothing (public state)

-- whoever joins knows by the notices of that what there is to know after it
abbrev pub WhoJoinsKnowsWhatIs : Type 0
WhoJoinsKnowsWhatIs =
    (state : StateValue) (session : SessionId) (slot : Slot) (name : List ℕ) (account : Option AccountId)
    (tokens : List (List ℕ))
    → let join : Edit = Join session slot name account tokens in IsProper state → IsTrue (fits state join)
    → Brings session (notices state join (applied state join)) nothing (public (applied state join))

-- a session that stays and knew what there was to know before an edit knows by its notices what there is to know after
-- it
abbrev pub WhoStaysKnowsWhatIs : Type 0
WhoStaysKnowsWhatIs =
    (state : StateValue) (edit : Edit) (session : SessionId) → IsProper state → IsTrue (fits state edit)
    → IsTrue (is_here state session) → IsTrue (is_here (applied state edit) session)
    → Brings session (notices state edit (applied state edit)) (public state) (public (applied state edit))

-- what is sent of these edits, one after the other
abbrev pub sent_of : StateValue → List Edit → List Notice
sent_of state [] = []
sent_of state (edit ∷ edits) = notices state edit (applied state edit) ++ sent_of (applied state edit) edits

abbrev pub after_all : StateValue → List Edit → StateValue
after_all state [] = state
after_all state (edit ∷ edits) = after_all (applied state edit) edits

-- each edit fits the state that those before it left, and the session is there all the time
abbrev pub StaysDuring : SessionId → StateValue → List Edit → Type 0
StaysDuring session state [] = IsTrue (is_here state session)
StaysDuring session state (edit ∷ edits) =
    IsTrue (is_here state session) × IsTrue (fits state edit) × StaysDuring session (applied state edit) edits

-- from the edit by which it joins on, a session that stays knows after any edits what there is to know
abbrev pub WhoListensKnowsWhatIs : Type 0
WhoListensKnowsWhatIs =
    (state : StateValue) (session : SessionId) (slot : Slot) (name : List ℕ) (account : Option AccountId)
    (tokens : List (List ℕ)) (edits : List Edit)
    → let join : Edit = Join session slot name account tokens in IsProper state → IsTrue (fits state join)
    → StaysDuring session (applied state join) edits
    → Brings session (sent_of state (join ∷ edits)) nothing (public (after_all state (join ∷ edits)))
