-- How many edits were accepted and how many connections were given, over a command.
use Rattle.mum_owner.proofs.Common.{◌≡◌, ◌∙◌, ℕ, ◌+◌, Bool, List, [], ◌∷◌, ◌++◌, length, Option, Some, None, Result, Ok, Err, OnOk, OnErr, ap, sym, inl, inr, arith, length-append, SessionId, Slot, Notice, slot_of, EmptiesPost, PostsNext, Posted, EmptiesFor, Edit, Verdict, Accepted, Lacks, Refused, Rejected, Answer, Ignored, all_published, appended, NoteFacts, PublisherFacts, ReplyFacts, verdict, Command, Commanded, Decides, current, with_accepted, with_edit, ControlFacts, Mark, ReplyEnd, given_after_all, GuestsFacts, ScribeFacts, joined_by, Draft, accepted_by, recorded}
use Rattle.mum_control.specs.Commanded.{Publishes}
use Rattle.mum_owner.proofs.Steps.{joined_given}

-- as many were counted as the control owner has appended
abbrev pub HasCounted : ControlFacts → ScribeFacts → Type 0
HasCounted control scribe = scribe.accepted ≡ length (appended control.publisher)

-- the door gave those that are counted, one by one, since it had given n
abbrev pub HasGiven : ℕ → GuestsFacts → ℕ → Type 0
HasGiven before guests now = now ≡ given_after_all before guests.given

one_more_appended : (publisher : PublisherFacts) (edit : Edit) → length (appended (with_edit publisher edit)) ≡ length (appended publisher) + 1
one_more_appended publisher edit =
    omega (arith, length-append publisher.published (publisher.pending ++ edit ∷ []), length-append publisher.pending (edit ∷ []), length-append publisher.published publisher.pending)

pub as_many_published : (publisher : PublisherFacts) → length (appended (all_published publisher)) ≡ length (appended publisher)
as_many_published publisher = let none : List Edit = [] in omega (arith, length-append (appended publisher) none)

published_count : (publisher : PublisherFacts) (note : Option NoteFacts) (after : PublisherFacts) → Publishes publisher note after → length (appended after) ≡ length (appended publisher)
published_count publisher (Some note) after publishes = ap (λ (p : PublisherFacts). length (appended p)) publishes.1 ∙ as_many_published publisher
published_count publisher None after publishes = ap (λ (p : PublisherFacts). length (appended p)) publishes

decided_count : (old : ControlFacts) (connection : ℕ) (session : Option SessionId) (decided : Verdict) (reply : ReplyFacts) (new : ControlFacts) (accepted : ℕ)
    → Decides old connection session decided reply new → accepted ≡ length (appended old.publisher) → accepted_by new.mark accepted ≡ length (appended new.publisher)
decided_count old connection session (Accepted edit) reply new accepted accepts so =
    ap (λ (c : ControlFacts). accepted_by c.mark accepted) accepts.others
    ∙ sym (published_count (with_accepted old.publisher connection edit) reply.note new.publisher accepts.published ∙ one_more_appended old.publisher edit)
decided_count old connection session (Lacks perm channel) reply new accepted denies so =
    ap (λ (c : ControlFacts). accepted_by c.mark accepted) denies.0 ∙ so ∙ sym (ap (λ (c : ControlFacts). length (appended c.publisher)) denies.0)
decided_count old connection session (Refused kind) reply new accepted denies so =
    ap (λ (c : ControlFacts). accepted_by c.mark accepted) denies.0 ∙ so ∙ sym (ap (λ (c : ControlFacts). length (appended c.publisher)) denies.0)
decided_count old connection session (Rejected kind) reply new accepted denies so =
    ap (λ (c : ControlFacts). accepted_by c.mark accepted) denies.0 ∙ so ∙ sym (ap (λ (c : ControlFacts). length (appended c.publisher)) denies.0)
decided_count old connection session (Answer frame) reply new accepted denies so =
    ap (λ (c : ControlFacts). accepted_by c.mark accepted) denies.0 ∙ so ∙ sym (ap (λ (c : ControlFacts). length (appended c.publisher)) denies.0)
decided_count old connection session (Ignored why) reply new accepted denies so =
    ap (λ (c : ControlFacts). accepted_by c.mark accepted) denies.0 ∙ so ∙ sym (ap (λ (c : ControlFacts). length (appended c.publisher)) denies.0)

pub commanded_count : (old : ControlFacts) (command : Command) (reply : ReplyFacts) (new : ControlFacts) (accepted : ℕ)
    → Commanded old command reply new → accepted ≡ length (appended old.publisher) → accepted_by new.mark accepted ≡ length (appended new.publisher)
commanded_count old command reply new accepted (inl dropped) so =
    ap (λ (c : ControlFacts). accepted_by c.mark accepted) dropped.0 ∙ so ∙ sym (ap (λ (c : ControlFacts). length (appended c.publisher)) dropped.0)
commanded_count old command reply new accepted (inr decides) so =
    decided_count old command.connection command.session (verdict (current old) command.session command.what) reply new accepted decides so

-- ---- what changes no list of edits

slot_count : (control : ControlFacts) (slot : Option Slot) (after : ControlFacts) → EmptiesPost control slot after → length (appended after.publisher) ≡ length (appended control.publisher)
slot_count control None after is = ap (λ (c : ControlFacts). length (appended c.publisher)) is
slot_count control (Some slot) after empties = ap (λ (c : ControlFacts). length (appended c.publisher)) empties.1

pub emptied_count : (control : ControlFacts) (session : Option SessionId) (after : ControlFacts) → EmptiesFor control session after → length (appended after.publisher) ≡ length (appended control.publisher)
emptied_count control None after is = ap (λ (c : ControlFacts). length (appended c.publisher)) is
emptied_count control (Some session) after empties = slot_count control (slot_of (current control) session) after empties

pub posted_count : (control : ControlFacts) (pending : List Notice) (answer : Posted) (after : ControlFacts) → PostsNext control pending answer after
    → length (appended after.publisher) ≡ length (appended control.publisher)
posted_count control [] answer after posts = ap (λ (c : ControlFacts). length (appended c.publisher)) posts.1
posted_count control (notice ∷ rest) answer after posts = ap (λ (c : ControlFacts). length (appended c.publisher)) posts.others

-- ---- a command that was given, and recorded

pub given_count : (before : ControlFacts) (command : Command) (reply : ReplyFacts) (after : ControlFacts) (scribe drafted settled : ScribeFacts) (mark : Option Mark) (connection : ℕ) (no_memory : Bool)
    → HasCounted before scribe → Commanded before command reply after → drafted.accepted ≡ scribe.accepted → mark ≡ after.mark
    → settled ≡ recorded connection mark no_memory drafted → HasCounted after settled
given_count before command reply after scribe drafted settled mark connection no_memory counted commanded same is recorded_so =
    ap (λ (s : ScribeFacts). s.accepted) recorded_so ∙ ap (λ (m : Option Mark). accepted_by m drafted.accepted) is
    ∙ commanded_count before command reply after drafted.accepted commanded (same ∙ counted)

-- what was prepared of a command, or not, changes no count
pub prepared_count : {A E : Type 0} (answer : Result A E) (scribe after : ScribeFacts) (draft : Option Draft)
    → OnOk answer (after ≡ record scribe { draft = draft }) → OnErr answer (after ≡ record scribe { draft = None }) → after.accepted ≡ scribe.accepted
prepared_count (Ok done) scribe after draft ok err = ap (λ (s : ScribeFacts). s.accepted) ok
prepared_count (Err error) scribe after draft ok err = ap (λ (s : ScribeFacts). s.accepted) err

-- ---- the connections

-- the seat of an accepted login gives no connection
pub seated_count : (end : ReplyEnd) (connection : ℕ) (guests after : GuestsFacts) (before now : ℕ) → HasGiven before guests now
    → after ≡ joined_by end connection guests → HasGiven before after now
seated_count end connection guests after before now given is =
    given ∙ sym (ap (λ (n : ℕ). given_after_all before n) (ap (λ (g : GuestsFacts). g.given) is ∙ joined_given end connection guests))
