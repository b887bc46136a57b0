-- What the control owner changes is what the steps of the core change.
use Rattle.mum_step_laws.proofs.Common.{◌≡◌, ◌∙◌, ℕ, zero, suc, ◌+◌, ◌-◌, ◌<◌, Bool, true, false, cond, true≢false, List, [], ◌∷◌, ◌++◌, length, map, Option, Some, None, refl, sym, ap, subst, inl, inr, arith, append_assoc, length-append, nat_lt, drop, is_none, not, slice_get, slice_index_or, option_map, option_map_or, and_parts, ltb-true, append-nil, map-append, SessionId, Accepts, Decides, Denies, IsDropped, Publishes, now, next, with_accepted, ControlFacts, answer_of, parcel_of, Posted, changed_same, length-changed, answered, next_command, next_of_frame, session_of, CoreState, at_connection, at_session, connection_at, current, is_opened, posts_at, up, fresh, is_of, lagging, reply, does, illegal, Connection, Reply, Notice, Offers, BoxFacts, PostFacts, Offered, Sent, Full, all_published, appended, NoteFacts, PublisherFacts, ReplyFacts, edits_of, verdict, Asked, Command, StateValue, led_to, Edit, Verdict, Accepted, Lacks, Refused, Rejected, Answer, Ignored, CommandsAreEdits, DecidesAsEdit, FullBoxesLag, HasAsked, NoticesArePosted, OwnsAs, Text, published_with, revision_noted, text_of_notice, text_of_parcel, was_posted}
use Rattle.mum_step_laws.proofs.WorkerParts.{no_less, passes}
use Rattle.mum_control.specs.declared.posted.Posted.TheVariants as posted
use Rattle.mum_core.specs.steps.Edit as edit_step
use Rattle.mum_core.specs.steps.Post as post_step
use Rattle.mum_core.specs.steps.Tell as tell_step
use Rattle.mum_record.specs.declared.step.Step.TheVariants as steps

-- ---- a connection of the core

-- it is at its place
pub open_place : (core : CoreState) (c : ℕ) → is_opened core c ≡ true → (nat_lt 0 c ≡ true) × (c - 1 < length core.connections)
open_place core c opened =
    let parts = and_parts (nat_lt 0 c) (nat_lt (c - 1) (length core.connections)) opened in
    (parts.0, ltb-true (c - 1) (length core.connections) parts.1)

-- what is changed of it
pub changed_connection : (core : CoreState) (c : ℕ) (change : Connection → Connection) → is_opened core c ≡ true
    → connection_at (at_connection c change core) c ≡ change (connection_at core c)
changed_connection core c change opened =
    let place = open_place core c opened in
    rw place.0 (changed_same core.connections (c - 1) change (fresh 0) place.1)

-- it is still there
pub open_still : (core : CoreState) (c : ℕ) (change : Connection → Connection) → is_opened (at_connection c change core) c ≡ is_opened core c
open_still core c change = from (nat_lt 0 c) refl
  where
    from : (b : Bool) → nat_lt 0 c ≡ b → is_opened (at_connection c change core) c ≡ is_opened core c
    from false is = rw is refl
    from true is = rw is (ap (λ (n : ℕ). nat_lt (c - 1) n) (length-changed core.connections (c - 1) change))

-- ---- a command

-- the edits of a publisher with one more
appended_one : (publisher : PublisherFacts) (connection : ℕ) (edit : Edit) → appended (with_accepted publisher connection edit) ≡ appended publisher ++ edit ∷ []
appended_one publisher connection edit = sym (append_assoc publisher.published publisher.pending (edit ∷ []))

decided_core : (core : CoreState) (c : ℕ) (one : Option Verdict) (decided : Verdict) → one ≡ Some decided
    → option_map_or (edit_step.decides core c) one core ≡ edit_step.decides core c decided
decided_core core c one decided is = ap (λ (o : Option Verdict). option_map_or (edit_step.decides core c) o core) is

-- what the core makes of a verdict, but for the line
abbrev edited : CoreState → ℕ → Verdict → CoreState
edited core c decided = record (edit_step.decides core c decided) { line = up core.line }

module _ (old : ControlFacts) (command : Command) (core : CoreState) (owns : OwnsAs old core) (asked : HasAsked command core) where
  abbrev c : ℕ
  c = command.connection

  state_is : current core ≡ now old
  state_is = ap (led_to core.opening) owns.accepted_are ∙ ap (λ (s : StateValue). led_to s (appended old.publisher)) owns.opening_is

  decision_is : edit_step.decision core c ≡ Some (verdict (now old) command.session command.what)
  decision_is =
      ap (λ (s : StateValue). option_map (verdict s (session_of (connection_at core c))) (next_command (connection_at core c))) state_is
      ∙ ap (λ (s : Option SessionId). option_map (verdict (now old) s) (next_command (connection_at core c))) asked.session_is
      ∙ ap (λ (o : Option Asked). option_map (verdict (now old) command.session) o) asked.next_is

  next_is : edit_step.next_revision core ≡ next old
  next_is = ap (λ (xs : List Edit). length xs + 1) owns.accepted_are

  reply_is : (decided : Verdict) → edit_step.reply_to core c decided ≡ reply (next old) command.session decided
  reply_is decided =
      ap (λ (n : ℕ). reply n (session_of (connection_at core c)) decided) next_is
      ∙ ap (λ (s : Option SessionId). reply (next old) s decided) asked.session_is

  allowed_is : illegal core (steps.Edit c) ≡ None
  allowed_is =
      passes (not (is_opened core c)) _ _ (ap not asked.opened)
      (passes (is_none (next_command (connection_at core c))) _ _ (ap is_none asked.next_is) refl)

  -- the core after the step
  after_is : (decided : Verdict) → edit_step.decision core c ≡ Some decided → does core (steps.Edit c) ≡ edited core c decided
  after_is decided is = ap (λ (k : CoreState). record k { line = up core.line }) (decided_core core c (edit_step.decision core c) decided is)

  kept_is : (decided : Verdict) → connection_at (edited core c decided) c
      ≡ answered (next_of_frame (connection_at core c)) (edit_step.reply_to core c decided) (connection_at core c)
  kept_is decided = changed_connection core c (λ connection. answered (next_of_frame connection) (edit_step.reply_to core c decided) connection) asked.opened

  -- the reply waits to be sent, where a frame asked for the command
  waits_is : (decided : Verdict) → next_of_frame (connection_at core c) ≡ Some command.what
      → (connection_at (edited core c decided) c).decided ≡ Some (edit_step.reply_to core c decided)
  waits_is decided by_frame =
      ap (λ (x : Connection). x.decided) (kept_is decided)
      ∙ ap (λ (o : Option Asked). (answered o (edit_step.reply_to core c decided) (connection_at core c)).decided) by_frame

  pending_more : (edit : Edit) {reply_given : ReplyFacts} (new : ControlFacts) → Accepts old c edit reply_given new
      → core.pending ++ edit_step.noticed (current core) (Accepted edit) ≡ new.pending
  pending_more edit new accepts =
      ap (λ (xs : List Notice). xs ++ edit_step.noticed (current core) (Accepted edit)) owns.pending_are
      ∙ ap (λ (s : StateValue). old.pending ++ edit_step.noticed s (Accepted edit)) state_is
      ∙ ap (λ (k : ControlFacts). k.pending) (sym accepts.others)

  mark_of : (edit : Edit) (reply_given : ReplyFacts) (new : ControlFacts) → Accepts old c edit reply_given new
      → new.mark ≡ Some (edit_step.reply_to core c (Accepted edit)).mark
  mark_of edit reply_given new accepts =
      ap (λ (k : ControlFacts). k.mark) accepts.others ∙ ap (λ (r : Reply). Some r.mark) (sym (reply_is (Accepted edit)))

  -- the outcome and the bytes of a command that is denied
  denied : (decided : Verdict) (reply_given : ReplyFacts) (new : ControlFacts) → edits_of decided ≡ [] → edit_step.noticed (current core) decided ≡ []
      → edit_step.decision core c ≡ Some decided → Denies old c command.session decided reply_given new → DecidesAsEdit command reply_given new core
  denied decided reply_given new none nothing is denies =
      let unnoted : reply_given.note ≡ None = ap (λ (r : ReplyFacts). r.note) denies.1 in
      let after = after_is decided is in record {
        verdict = decided;
        decided = is;
        allowed = allowed_is;
        owns = subst (λ (k : CoreState). OwnsAs new k) (sym (ap (λ (n : Option NoteFacts). published_with n (does core (steps.Edit c))) unnoted ∙ after)) (record {
          opening_is = owns.opening_is ∙ ap (λ (k : ControlFacts). k.publisher.opening.state) (sym denies.0);
          accepted_are = ap (λ (xs : List Edit). core.accepted ++ xs) none ∙ append-nil core.accepted ∙ owns.accepted_are ∙ ap (λ (k : ControlFacts). appended k.publisher) (sym denies.0);
          published_are = owns.published_are ∙ ap (λ (k : ControlFacts). length k.publisher.published) (sym denies.0);
          pending_are = ap (λ (xs : List Notice). core.pending ++ xs) nothing ∙ append-nil core.pending ∙ owns.pending_are ∙ ap (λ (k : ControlFacts). k.pending) (sym denies.0);
        });
        mark_is = ap (λ (k : ControlFacts). k.mark) denies.0 ∙ ap (λ (r : Reply). Some r.mark) (sym (reply_is decided));
        end_is = ap (λ (r : ReplyFacts). r.end) denies.1;
        wire_is = ap (λ (r : ReplyFacts). r.wire) denies.1 ∙ ap (λ (r : Reply). r.wire) (sym (reply_is decided));
        kept = ap (λ (k : CoreState). connection_at k c) after ∙ kept_is decided;
        told = λ by_frame.
            subst (λ (k : CoreState). illegal k (steps.Tell c (revision_noted reply_given.note)) ≡ None)
            (sym (ap (λ (n : Option NoteFacts). published_with n (does core (steps.Edit c))) unnoted ∙ after))
            (subst (λ (n : Option NoteFacts). illegal (edited core c decided) (steps.Tell c (revision_noted n)) ≡ None) (sym unnoted)
            (passes (not (is_opened (edited core c decided) c)) _ _ (ap not (open_still core c _ ∙ asked.opened))
            (passes (is_none (connection_at (edited core c decided) c).decided) _ _ (ap is_none (waits_is decided by_frame)) refl)));
      }

  -- a command that is accepted and waits to be published
  accepted_unpublished : (edit : Edit) (reply_given : ReplyFacts) (new : ControlFacts) → reply_given.note ≡ None → new.publisher ≡ with_accepted old.publisher c edit
      → edit_step.decision core c ≡ Some (Accepted edit) → Accepts old c edit reply_given new → DecidesAsEdit command reply_given new core
  accepted_unpublished edit reply_given new unnoted publisher is accepts =
      let after = after_is (Accepted edit) is in
      let whole : published_with reply_given.note (does core (steps.Edit c)) ≡ edited core c (Accepted edit) =
      ap (λ (n : Option NoteFacts). published_with n (does core (steps.Edit c))) unnoted ∙ after in record {
        verdict = Accepted edit;
        decided = is;
        allowed = allowed_is;
        owns = subst (λ (k : CoreState). OwnsAs new k) (sym whole) (record {
          opening_is = owns.opening_is ∙ ap (λ (p : PublisherFacts). p.opening.state) (sym publisher);
          accepted_are = ap (λ (xs : List Edit). xs ++ edit ∷ []) owns.accepted_are ∙ sym (appended_one old.publisher c edit) ∙ ap appended (sym publisher);
          published_are = owns.published_are ∙ ap (λ (p : PublisherFacts). length p.published) (sym publisher);
          pending_are = pending_more edit new accepts;
        });
        mark_is = mark_of edit reply_given new accepts;
        end_is = ap (λ (r : ReplyFacts). r.end) accepts.answer;
        wire_is = ap (λ (r : ReplyFacts). r.wire) accepts.answer ∙ ap (λ (r : Reply). r.wire) (sym (reply_is (Accepted edit)));
        kept = ap (λ (k : CoreState). connection_at k c) after ∙ kept_is (Accepted edit);
        told = λ by_frame.
            subst (λ (k : CoreState). illegal k (steps.Tell c (revision_noted reply_given.note)) ≡ None) (sym whole)
            (subst (λ (n : Option NoteFacts). illegal (edited core c (Accepted edit)) (steps.Tell c (revision_noted n)) ≡ None) (sym unnoted)
            (passes (not (is_opened (edited core c (Accepted edit)) c)) _ _ (ap not (open_still core c _ ∙ asked.opened))
            (passes (is_none (connection_at (edited core c (Accepted edit)) c).decided) _ _ (ap is_none (waits_is (Accepted edit) by_frame)) refl)));
      }

  -- a command that is accepted and published
  accepted_published : (edit : Edit) (reply_given : ReplyFacts) (new : ControlFacts) (note : NoteFacts) → reply_given.note ≡ Some note
      → note.edits ≡ appended (with_accepted old.publisher c edit) → new.publisher ≡ all_published (with_accepted old.publisher c edit)
      → edit_step.decision core c ≡ Some (Accepted edit) → Accepts old c edit reply_given new → DecidesAsEdit command reply_given new core
  accepted_published edit reply_given new note noted edits publisher is accepts =
      let after = after_is (Accepted edit) is in
      let shown : CoreState = does (edited core c (Accepted edit)) steps.Publish in
      let whole : published_with reply_given.note (does core (steps.Edit c)) ≡ shown =
      ap (λ (n : Option NoteFacts). published_with n (does core (steps.Edit c))) noted ∙ ap (λ (k : CoreState). does k steps.Publish) after in
      let all : core.accepted ++ edit ∷ [] ≡ appended (with_accepted old.publisher c edit) = ap (λ (xs : List Edit). xs ++ edit ∷ []) owns.accepted_are ∙ sym (appended_one old.publisher c edit) in
      let waits : (connection_at shown c).decided ≡ Some (edit_step.reply_to core c (Accepted edit)) → illegal shown (steps.Tell c (Some (length note.edits))) ≡ None = λ waits.
      let revision : tell_step.edit_revision (connection_at shown c).decided ≡ length core.accepted + 1 = ap tell_step.edit_revision waits in
      let count : length note.edits ≡ length core.accepted + 1 = ap length (edits ∙ sym all) ∙ length-append core.accepted (edit ∷ []) in
      let shown_is : shown.published ≡ length core.accepted + 1 = length-append core.accepted (edit ∷ []) in
      passes (not (is_opened shown c)) _ _ (ap not (open_still core c _ ∙ asked.opened))
      (passes (is_none (connection_at shown c).decided) _ _ (ap is_none waits)
      (passes (not (tell_step.has_edit (connection_at shown c).decided)) _ _ (ap (λ (o : Option Reply). not (tell_step.has_edit o)) waits)
      (passes (nat_lt (length note.edits) (tell_step.edit_revision (connection_at shown c).decided)) _ _
      (no_less (length note.edits) (tell_step.edit_revision (connection_at shown c).decided) (omega (arith, revision, count)))
      (passes (nat_lt shown.published (length note.edits)) _ _ (no_less shown.published (length note.edits) (omega (arith, count, shown_is))) refl)))) in record {
        verdict = Accepted edit;
        decided = is;
        allowed = allowed_is;
        owns = subst (λ (k : CoreState). OwnsAs new k) (sym whole) (record {
          opening_is = owns.opening_is ∙ ap (λ (p : PublisherFacts). p.opening.state) (sym publisher);
          accepted_are = all ∙ sym (append-nil (appended (with_accepted old.publisher c edit))) ∙ ap appended (sym publisher);
          published_are = ap length all ∙ ap (λ (p : PublisherFacts). length p.published) (sym publisher);
          pending_are = pending_more edit new accepts;
        });
        mark_is = mark_of edit reply_given new accepts;
        end_is = ap (λ (r : ReplyFacts). r.end) accepts.answer;
        wire_is = ap (λ (r : ReplyFacts). r.wire) accepts.answer ∙ ap (λ (r : Reply). r.wire) (sym (reply_is (Accepted edit)));
        kept = ap (λ (k : CoreState). connection_at k c) after ∙ kept_is (Accepted edit);
        told = λ by_frame.
            subst (λ (k : CoreState). illegal k (steps.Tell c (revision_noted reply_given.note)) ≡ None) (sym whole)
            (subst (λ (n : Option NoteFacts). illegal shown (steps.Tell c (revision_noted n)) ≡ None) (sym noted) (waits (waits_is (Accepted edit) by_frame)));
      }

  accepted : (edit : Edit) (reply_given : ReplyFacts) (new : ControlFacts) (note : Option NoteFacts) → reply_given.note ≡ note → Publishes (with_accepted old.publisher c edit) note new.publisher
      → edit_step.decision core c ≡ Some (Accepted edit) → Accepts old c edit reply_given new → DecidesAsEdit command reply_given new core
  accepted edit reply_given new None noted publishes is accepts = accepted_unpublished edit reply_given new noted publishes is accepts
  accepted edit reply_given new (Some note) noted publishes is accepts =
      accepted_published edit reply_given new note noted (ap (λ (n : NoteFacts). n.edits) publishes.0) publishes.1 is accepts

  by_verdict : (decided : Verdict) (reply_given : ReplyFacts) (new : ControlFacts) → edit_step.decision core c ≡ Some decided
      → Decides old c command.session decided reply_given new → DecidesAsEdit command reply_given new core
  by_verdict (Accepted edit) reply_given new is decides = accepted edit reply_given new reply_given.note refl decides.published is decides
  by_verdict (Lacks perm channel) reply_given new is decides = denied (Lacks perm channel) reply_given new refl refl is decides
  by_verdict (Refused kind) reply_given new is decides = denied (Refused kind) reply_given new refl refl is decides
  by_verdict (Rejected kind) reply_given new is decides = denied (Rejected kind) reply_given new refl refl is decides
  by_verdict (Answer frame) reply_given new is decides = denied (Answer frame) reply_given new refl refl is decides
  by_verdict (Ignored why) reply_given new is decides = denied (Ignored why) reply_given new refl refl is decides

-- a command that is decided is the step Edit
pub edits_as : (old new : ControlFacts) (command : Command) (reply_given : ReplyFacts)
    → Decides old command.connection command.session (verdict (now old) command.session command.what) reply_given new
    → (core : CoreState) → OwnsAs old core → HasAsked command core → DecidesAsEdit command reply_given new core
edits_as old new command reply_given decides core owns asked =
    by_verdict old command core owns asked (verdict (now old) command.session command.what) reply_given new (decision_is old command core owns asked) decides

-- one that is dropped changes nothing that the core has
pub dropped_owns : (old new : ControlFacts) (command : Command) (reply_given : ReplyFacts) (core : CoreState) → IsDropped old command.connection reply_given new
    → OwnsAs old core → OwnsAs new core
dropped_owns old new command reply_given core dropped owns = record {
  opening_is = owns.opening_is ∙ ap (λ (k : ControlFacts). k.publisher.opening.state) (sym dropped.0);
  accepted_are = owns.accepted_are ∙ ap (λ (k : ControlFacts). appended k.publisher) (sym dropped.0);
  published_are = owns.published_are ∙ ap (λ (k : ControlFacts). length k.publisher.published) (sym dropped.0);
  pending_are = owns.pending_are ∙ ap (λ (k : ControlFacts). k.pending) (sym dropped.0);
}

pub commands : CommandsAreEdits
commands old new command reply_given (inl dropped) core owns asked = inl (record {
  undecided = ap (λ (k : ControlFacts). k.mark) dropped.0;
  reported = ap (λ (r : ReplyFacts). r.no_memory) dropped.1;
  owns = dropped_owns old new command reply_given core dropped owns;
})
commands old new command reply_given (inr decides) core owns asked = inr (edits_as old new command reply_given decides core owns asked)

-- ---- notices

put_again : (sent : Bool) (edits : List Edit) (notice : Notice) (notices : List Notice) (before : List PostFacts) → map text_of_parcel before ≡ map text_of_notice notices
    → map text_of_parcel (cond sent (before ++ parcel_of edits notice ∷ []) before) ≡ map text_of_notice (post_step.put sent notice notices)
put_again true edits notice notices before is =
    map-append text_of_parcel before (parcel_of edits notice ∷ [])
    ∙ (ap (λ (xs : List Text). xs ++ text_of_notice notice ∷ []) is ∙ sym (map-append text_of_notice notices (notice ∷ [])))
put_again false edits notice notices before is = is

posted_is : (capacity : ℕ) (to : SessionId) (before later : BoxFacts PostFacts) (item : PostFacts) (offered : Offered PostFacts) (answer : Posted) → Offers capacity before item offered later
    → answer ≡ answer_of to offered → later.offered ≡ cond (was_posted answer) (before.offered ++ item ∷ []) before.offered
posted_is capacity to before later item Sent answer offers is = rw is (ap (λ (p : BoxFacts PostFacts). p.offered) offers)
posted_is capacity to before later item (Full back) answer offers is = rw is (ap (λ (p : BoxFacts PostFacts). p.offered) offers.1)

-- what the core makes of a notice, but for its posts and its connections
abbrev Keeps : CoreState → CoreState → Type 0
Keeps old new = (new.opening ≡ old.opening) × (new.accepted ≡ old.accepted) × (new.published ≡ old.published) × (new.pending ≡ old.pending)

either_keeps : (room : Bool) (core one other : CoreState) → Keeps core one → Keeps core other → Keeps core (cond room one other)
either_keeps true core one other first second = first
either_keeps false core one other first second = second

put_keeps : (core : CoreState) (notice : Option Notice) → Keeps core (post_step.puts core notice)
put_keeps core None = (refl, refl, refl, refl)
put_keeps core (Some notice) = either_keeps (post_step.has_room core notice.slot.0) core _ _ (refl, refl, refl, refl) (refl, refl, refl, refl)

-- the posts of the slot
put_where : (room : Bool) (notice : Notice) (notices : List Notice) (one other : CoreState) → posts_at one notice.slot.0 ≡ post_step.put true notice notices
    → posts_at other notice.slot.0 ≡ notices → posts_at (cond room one other) notice.slot.0 ≡ post_step.put room notice notices
put_where true notice notices one other first second = first
put_where false notice notices one other first second = second

put_at : (core : CoreState) (notice : Notice) → notice.slot.0 < length core.posts
    → posts_at (post_step.puts core (Some notice)) notice.slot.0 ≡ post_step.put (post_step.has_room core notice.slot.0) notice (posts_at core notice.slot.0)
put_at core notice within =
    put_where (post_step.has_room core notice.slot.0) notice (posts_at core notice.slot.0) _ _
    (changed_same core.posts notice.slot.0 (λ posts. post_step.put true notice posts) [] within) refl

pub posts : NoticesArePosted
posts old new notice rest answer done pending core owns =
    let all : core.pending ≡ notice ∷ rest = owns.pending_are ∙ pending in
    let first : post_step.next_notice core ≡ Some notice = ap (λ (xs : List Notice). slice_get xs 0) all in
    let counted : CoreState = record core { pending = drop 1 core.pending; posted = up core.posted } in
    let keeps = put_keeps counted (post_step.next_notice core) in (
      passes (is_none (post_step.next_notice core)) _ _ (ap is_none first) refl,
      first,
      record {
        opening_is = keeps.0 ∙ owns.opening_is ∙ ap (λ (k : ControlFacts). k.publisher.opening.state) (sym done.others);
        accepted_are = keeps.1 ∙ owns.accepted_are ∙ ap (λ (k : ControlFacts). appended k.publisher) (sym done.others);
        published_are = keeps.2 ∙ owns.published_are ∙ ap (λ (k : ControlFacts). length k.publisher.published) (sym done.others);
        pending_are = keeps.3 ∙ ap (λ (xs : List Notice). drop 1 xs) all ∙ ap (λ (k : ControlFacts). k.pending) (sym done.others);
      },
      record {
        before = done.offers.before;
        later = done.offers.later;
        box = done.offers.box;
        offered = λ notices is.
            ap (map text_of_parcel) (posted_is _ notice.to done.offers.before done.offers.later (parcel_of old.publisher.published notice) done.offered answer done.offers.offers done.answer)
            ∙ put_again (was_posted answer) old.publisher.published notice notices done.offers.before.offered is;
        others = done.offers.others;
      },
      λ inside room.
          ap (λ (o : Option Notice). posts_at (post_step.puts counted o) notice.slot.0) first
          ∙ put_at counted notice inside
          ∙ ap (λ (b : Bool). post_step.put b notice (posts_at core notice.slot.0)) room,
    )

-- ---- a session that lags

map_at : {A B : Type 0} (f : A → B) (xs : List A) (i : ℕ) (x : A) (y : B) → i < length xs → slice_index_or (map f xs) i y ≡ f (slice_index_or xs i x)
map_at f [] i x y within = absurd (omega (arith, within))
map_at f (one ∷ xs) zero x y within = refl
map_at f (one ∷ xs) (suc i) x y within = map_at f xs i x y (omega (arith, within))

-- the connection of a session that lags
lagging_connection : (core : CoreState) (session : SessionId) (c : ℕ) → is_opened core c ≡ true → is_of session (connection_at core c) ≡ true
    → (connection_at (at_session session lagging core) c).lagged ≡ true
lagging_connection core session c opened its =
    let place = open_place core c opened in
    let lags : Connection → Connection = λ connection. cond (is_of session connection) (lagging connection) connection in
    let whole : connection_at (at_session session lagging core) c ≡ lags (connection_at core c) =
    rw place.0 (map_at lags core.connections (c - 1) (fresh 0) (fresh 0) place.1) in
    ap (λ (x : Connection). x.lagged) whole
    ∙ ap (λ (b : Bool). Connection.lagged (cond b (lagging (connection_at core c)) (connection_at core c))) its

lagged_where : (room : Bool) (c : ℕ) (one other : CoreState) → room ≡ false → (connection_at other c).lagged ≡ true → (connection_at (cond room one other) c).lagged ≡ true
lagged_where true c one other none lags = absurd (true≢false none)
lagged_where false c one other none lags = lags

unposted : (to : SessionId) (offered : Offered PostFacts) (answer : Posted) → answer ≡ answer_of to offered → was_posted answer ≡ false → answer ≡ posted.Lagged to
unposted to Sent answer is none = absurd (true≢false (sym (ap was_posted is) ∙ none))
unposted to (Full back) answer is none = is

pub lags : FullBoxesLag
lags old new notice rest answer done pending none core owns full = (
  unposted notice.to done.offered answer done.answer none,
  λ c opened its.
      let first : post_step.next_notice core ≡ Some notice = ap (λ (xs : List Notice). slice_get xs 0) (owns.pending_are ∙ pending) in
      let counted : CoreState = record core { pending = drop 1 core.pending; posted = up core.posted } in
      ap (λ (o : Option Notice). (connection_at (post_step.puts counted o) c).lagged) first
      ∙ lagged_where (post_step.has_room counted notice.slot.0) c _ _ full (lagging_connection counted notice.to c opened its),
)
