-- The entries of the journal, over a command.
use Rattle.mum_owner.proofs.Common.{◌≡◌, ◌∙◌, ℕ, ◌+◌, Bool, true, false, List, [], ◌∷◌, ◌++◌, append_assoc, append-nil, length, Option, Some, None, Result, Ok, Err, OnOk, is_err, refl, sym, ap, subst, inl, inr, SessionId, Slot, Mark, Commanded, Decides, current, next_revision, with_accepted, ControlFacts, slot_of, EmptiesPost, PostsNext, Posted, Notice, all_published, appended, state_of, NoteFacts, Opening, PublisherFacts, ReplyFacts, ControlEntry, mark, edits_of, verdict, Command, Edit, Verdict, Accepted, Lacks, Refused, Rejected, Answer, Ignored, AreDecided, HasWritten, IsEntryOf, with_command, ScribeFacts, EmptiesFor, Draft, entries_by, own_frame, prepared, recorded, version_of}
use Rattle.mum_control.specs.Commanded.{Publishes}

-- one entry more, after those that were decided
decided_more : (opening : Opening) (edits : List Edit) (entries : List ControlEntry) (all : List Edit) (command : Command) (entry : ControlEntry)
    → AreDecided opening edits entries all → IsEntryOf (state_of opening all) (length all + 1) command entry
    → AreDecided opening edits (entries ++ entry ∷ []) (with_command opening all command)
decided_more opening edits [] all command entry is made = (
  command,
  subst (λ (es : List Edit). IsEntryOf (state_of opening es) (length es + 1) command entry) is made,
  ap (λ (es : List Edit). with_command opening es command) is,
)
decided_more opening edits (first ∷ entries) all command entry so made =
    (so.0, so.1, decided_more opening (with_command opening edits so.0) entries all command entry so.2 made)

-- ---- what a control owner appends

pub published_same : (publisher : PublisherFacts) → appended (all_published publisher) ≡ appended publisher
published_same publisher = append-nil (appended publisher)

-- the opening stays, and these edits are appended
pub record Grows (old : PublisherFacts) (edits : List Edit) (new : PublisherFacts) : Type 0 where
  pub opening : new.opening ≡ old.opening
  pub all : appended new ≡ appended old ++ edits

grown_by : (publisher : PublisherFacts) (connection : ℕ) (edit : Edit) (note : Option NoteFacts) (after : PublisherFacts) → Publishes (with_accepted publisher connection edit) note after → Grows publisher (edit ∷ []) after
grown_by publisher connection edit (Some note) after publishes = record {
  opening = ap (λ (p : PublisherFacts). p.opening) publishes.1;
  all =
      ap (λ (p : PublisherFacts). appended p) publishes.1 ∙ published_same (with_accepted publisher connection edit)
      ∙ sym (append_assoc publisher.published publisher.pending (edit ∷ []));
}
grown_by publisher connection edit None after publishes = record {
  opening = ap (λ (p : PublisherFacts). p.opening) publishes;
  all = ap (λ (p : PublisherFacts). appended p) publishes ∙ sym (append_assoc publisher.published publisher.pending (edit ∷ []));
}

not_grown : (old : ControlFacts) (outcome : Option Mark) (new : ControlFacts) → new ≡ record old { mark = outcome } → Grows old.publisher [] new.publisher
not_grown old outcome new is = record {
  opening = ap (λ (c : ControlFacts). c.publisher.opening) is;
  all = ap (λ (c : ControlFacts). appended c.publisher) is ∙ sym (append-nil (appended old.publisher));
}

-- what a verdict appends, and its outcome
decided_grows : (old : ControlFacts) (connection : ℕ) (session : Option SessionId) (decided : Verdict) (reply : ReplyFacts) (new : ControlFacts)
    → Decides old connection session decided reply new → Grows old.publisher (edits_of decided) new.publisher × (new.mark ≡ Some (mark (next_revision old) decided))
decided_grows old connection session (Accepted edit) reply new accepts =
    (grown_by old.publisher connection edit reply.note new.publisher accepts.published, ap (λ (c : ControlFacts). c.mark) accepts.others)
decided_grows old connection session (Lacks perm channel) reply new denies = (not_grown old _ new denies.0, ap (λ (c : ControlFacts). c.mark) denies.0)
decided_grows old connection session (Refused kind) reply new denies = (not_grown old _ new denies.0, ap (λ (c : ControlFacts). c.mark) denies.0)
decided_grows old connection session (Rejected kind) reply new denies = (not_grown old _ new denies.0, ap (λ (c : ControlFacts). c.mark) denies.0)
decided_grows old connection session (Answer frame) reply new denies = (not_grown old _ new denies.0, ap (λ (c : ControlFacts). c.mark) denies.0)
decided_grows old connection session (Ignored why) reply new denies = (not_grown old _ new denies.0, ap (λ (c : ControlFacts). c.mark) denies.0)

-- ---- a command that was given, and recorded

-- all that is known of the entries, at other values of what it speaks of
carried : (opening opening' : Opening) (entries entries' : List ControlEntry) (all all' : List Edit) → opening' ≡ opening → entries' ≡ entries → all' ≡ all
    → AreDecided opening [] entries all → AreDecided opening' [] entries' all'
carried opening opening' entries entries' all all' is_opening is_entries is_all so = rw (is_opening, is_entries, is_all) so

-- what a command that has an outcome leaves
with_entry : (old : ControlFacts) (command : Command) (new : ControlFacts) (scribe settled : ScribeFacts) (no_memory : Bool)
    → HasWritten old scribe → Grows old.publisher (edits_of (verdict (current old) command.session command.what)) new.publisher
    → new.mark ≡ Some (mark (next_revision old) (verdict (current old) command.session command.what))
    → settled ≡ recorded command.connection new.mark no_memory (record scribe { draft = prepared scribe.is_asked command }) → HasWritten new settled
with_entry old command new scribe settled no_memory written grows outcome is = λ asked.
    let was : scribe.is_asked ≡ true = sym (ap (λ (s : ScribeFacts). s.is_asked) is) ∙ asked in
    let entry : ControlEntry = record {
      connection = command.connection;
      version = version_of command.what;
      frame = own_frame command.what;
      verdict = mark (next_revision old) (verdict (current old) command.session command.what);
    } in
    let entries : settled.entries ≡ scribe.entries ++ entry ∷ [] =
    ap (λ (s : ScribeFacts). s.entries) is
    ∙ ap (λ (b : Bool). scribe.entries ++ entries_by command.connection (prepared b command) new.mark) was
    ∙ ap (λ (m : Option Mark). scribe.entries ++ entries_by command.connection (prepared true command) m) outcome in
    carried old.publisher.opening new.publisher.opening (scribe.entries ++ entry ∷ []) settled.entries
    (with_command old.publisher.opening (appended old.publisher) command) (appended new.publisher)
    grows.opening entries grows.all
    (decided_more old.publisher.opening [] scribe.entries (appended old.publisher) command entry (written was)
    (record { connection = refl; version = refl; frame = refl; outcome = refl }))

-- what a command leaves for which memory ran out
without_entry : (old : ControlFacts) (command : Command) (new : ControlFacts) (scribe settled : ScribeFacts) (no_memory : Bool)
    → HasWritten old scribe → new ≡ record old { mark = None }
    → settled ≡ recorded command.connection new.mark no_memory (record scribe { draft = prepared scribe.is_asked command }) → HasWritten new settled
without_entry old command new scribe settled no_memory written dropped is = λ asked.
    let was : scribe.is_asked ≡ true = sym (ap (λ (s : ScribeFacts). s.is_asked) is) ∙ asked in
    let entries : settled.entries ≡ scribe.entries =
    ap (λ (s : ScribeFacts). s.entries) is
    ∙ ap (λ (b : Bool). scribe.entries ++ entries_by command.connection (prepared b command) new.mark) was
    ∙ ap (λ (c : ControlFacts). scribe.entries ++ entries_by command.connection (prepared true command) c.mark) dropped
    ∙ append-nil scribe.entries in
    carried old.publisher.opening new.publisher.opening scribe.entries settled.entries (appended old.publisher) (appended new.publisher)
    (ap (λ (c : ControlFacts). c.publisher.opening) dropped) entries (ap (λ (c : ControlFacts). appended c.publisher) dropped) (written was)

commanded_written : (old : ControlFacts) (command : Command) (reply : ReplyFacts) (new : ControlFacts) (scribe settled : ScribeFacts) (no_memory : Bool)
    → HasWritten old scribe → Commanded old command reply new
    → settled ≡ recorded command.connection new.mark no_memory (record scribe { draft = prepared scribe.is_asked command }) → HasWritten new settled
commanded_written old command reply new scribe settled no_memory written (inl dropped) is =
    without_entry old command new scribe settled no_memory written dropped.0 is
commanded_written old command reply new scribe settled no_memory written (inr decides) is =
    let grown = decided_grows old command.connection command.session (verdict (current old) command.session command.what) reply new decides in
    with_entry old command new scribe settled no_memory written grown.0 grown.1 is

-- the same, where the parts come one by one
pub given_written : (old : ControlFacts) (command : Command) (reply : ReplyFacts) (new : ControlFacts) (scribe drafted settled : ScribeFacts) (outcome : Option Mark) (connection : ℕ) (no_memory : Bool)
    → HasWritten old scribe → Commanded old command reply new → drafted ≡ record scribe { draft = prepared scribe.is_asked command }
    → outcome ≡ new.mark → connection ≡ command.connection → settled ≡ recorded connection outcome no_memory drafted → HasWritten new settled
given_written old command reply new scribe drafted settled outcome connection no_memory written commanded draft is own settles =
    commanded_written old command reply new scribe settled no_memory written commanded
    (settles ∙ ap (λ (s : ScribeFacts). recorded connection outcome no_memory s) draft
    ∙ ap (λ (m : Option Mark). recorded connection m no_memory (record scribe { draft = prepared scribe.is_asked command })) is
    ∙ ap (λ (n : ℕ). recorded n new.mark no_memory (record scribe { draft = prepared scribe.is_asked command })) own)

-- what was prepared of a command, where memory did not run out
pub prepared_ok : {A E : Type 0} (answer : Result A E) (scribe after : ScribeFacts) (draft : Option Draft)
    → is_err answer ≡ false → OnOk answer (after ≡ record scribe { draft = draft }) → after ≡ record scribe { draft = draft }
prepared_ok (Ok done) scribe after draft no_error ok = ok
prepared_ok (Err error) scribe after draft no_error ok = absurd (cc)

-- ---- what appends nothing

-- a control owner that has appended the same
pub same_written : (old new : ControlFacts) (scribe : ScribeFacts) → new.publisher.opening ≡ old.publisher.opening → appended new.publisher ≡ appended old.publisher → HasWritten old scribe → HasWritten new scribe
same_written old new scribe opening all written = λ asked.
    carried old.publisher.opening new.publisher.opening scribe.entries scribe.entries (appended old.publisher) (appended new.publisher) opening refl all (written asked)

slot_written : (control : ControlFacts) (slot : Option Slot) (after : ControlFacts) (scribe : ScribeFacts) → EmptiesPost control slot after → HasWritten control scribe → HasWritten after scribe
slot_written control None after scribe is written =
    same_written control after scribe (ap (λ (c : ControlFacts). c.publisher.opening) is) (ap (λ (c : ControlFacts). appended c.publisher) is) written
slot_written control (Some slot) after scribe empties written =
    same_written control after scribe (ap (λ (c : ControlFacts). c.publisher.opening) empties.1) (ap (λ (c : ControlFacts). appended c.publisher) empties.1) written

pub emptied_written : (control : ControlFacts) (session : Option SessionId) (after : ControlFacts) (scribe : ScribeFacts) → EmptiesFor control session after → HasWritten control scribe → HasWritten after scribe
emptied_written control None after scribe is written =
    same_written control after scribe (ap (λ (c : ControlFacts). c.publisher.opening) is) (ap (λ (c : ControlFacts). appended c.publisher) is) written
emptied_written control (Some session) after scribe empties written = slot_written control (slot_of (current control) session) after scribe empties written

pub posted_written : (control : ControlFacts) (pending : List Notice) (answer : Posted) (after : ControlFacts) (scribe : ScribeFacts) → PostsNext control pending answer after → HasWritten control scribe → HasWritten after scribe
posted_written control [] answer after scribe posts written =
    same_written control after scribe (ap (λ (c : ControlFacts). c.publisher.opening) posts.1) (ap (λ (c : ControlFacts). appended c.publisher) posts.1) written
posted_written control (notice ∷ rest) answer after scribe posts written =
    same_written control after scribe (ap (λ (c : ControlFacts). c.publisher.opening) posts.others) (ap (λ (c : ControlFacts). appended c.publisher) posts.others) written

-- all that was appended is published
pub published_written : (old new : ControlFacts) (scribe : ScribeFacts) → new ≡ record old { publisher = all_published old.publisher } → HasWritten old scribe → HasWritten new scribe
published_written old new scribe is written =
    same_written old new scribe (ap (λ (c : ControlFacts). c.publisher.opening) is) (ap (λ (c : ControlFacts). appended c.publisher) is ∙ published_same old.publisher) written
