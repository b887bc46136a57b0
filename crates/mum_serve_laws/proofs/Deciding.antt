-- What turns of an owner append and write down, beside the commands that they decide.
use Rattle.mum_serve_laws.proofs.Common.{◌≡◌, ◌∙◌, ℕ, ◌+◌, Bool, true, false, cond, List, [], ◌∷◌, ◌++◌, append_assoc, append-nil, length, Option, Some, None, refl, ap, sym, subst, inl, inr, arith, length-append, ◌&&◌, ◌||◌, is_none, is_some, MatchBool, MatchOption, flat_map-append, QueueId, SessionId, Slot, Mark, ReplyEnd, Commanded, Decides, Publishes, current, next_revision, with_accepted, ControlFacts, slot_of, EmptiesPost, PostsNext, due_notices, Posted, TurnsTo, Turn, DoorFacts, LinkFacts, Accept, Notice, Answers, IsGivenOrRefused, ListComesTo, SettledBy, SettlesList, TestedBy, ban_reply, banned_in, book_after, is_banned, list_reply, with_warden, with_command, GuestsFacts, OwnerFacts, ScribeFacts, IsGiven, replied, roll_of, starved, joined_by, left, owned, session_of, came_by, came_where, connections_given, IsOpened, EmptiesFor, LeaveIsGiven, Next, Receives, ReceivesBy, ReceivesItem, Rests, Serves, ServesDesk, leave_of, must_wait, next, with_pass, Again, Goes, Rest, Take, ArchivesBy, Asks, OwnerTurned, PostsOne, Presses, PublishesLeft, guests_by, is_not_to_ask, is_over, is_through, lag_at, makes_note, pressing, with_lag, entries_by, is_leave, is_login, prepared, recorded, refused, Coming, Lag, decided_roll, DeskItem, Login, all_published, appended, NoteFacts, Opening, PublisherFacts, ReplyFacts, login_of, ControlEntry, Book, sent, WardenFacts, verdict_in, mark, edits_of, verdict, Command, Edit, Verdict, Accepted, Lacks, Refused, Rejected, Ignored, Decision, decided_as, decided_by, decided_command, decided_given, decided_in, decided_item, decided_leave, decided_owned, decided_receiving, decided_settling, decided_tested, decided_waiting, decisions_of, decisions, edits_after, entries_after, entry_of, logins_decided}
use Rattle.mum_state.specs.declared.verdict.Verdict.TheVariants.{Answer}
use Rattle.mum_base.specs.declared.reply.ReplyEnd.TheVariants as ends
use Rattle.mum_io.specs.declared.door.Accept.TheVariants as accepted
use Rattle.mum_port.specs.declared.item.DeskItem.TheVariants as items

-- ---- lists of decisions

edits_join : (opening : Opening) (edits : List Edit) (first later : List Decision) → edits_after opening edits (first ++ later) ≡ edits_after opening (edits_after opening edits first) later
edits_join opening edits [] later = refl
edits_join opening edits (decision ∷ first) later = edits_join opening (with_command opening edits decision.command) first later

entries_join : (opening : Opening) (edits : List Edit) (first later : List Decision)
    → entries_after opening edits (first ++ later) ≡ entries_after opening edits first ++ entries_after opening (edits_after opening edits first) later
entries_join opening edits [] later = refl
entries_join opening edits (decision ∷ first) later =
    ap (λ (entries : List ControlEntry). entry_of opening edits decision.command ∷ entries) (entries_join opening (with_command opening edits decision.command) first later)

-- ---- what a verdict appends

-- the opening stays, and these edits are appended
pub record Grows (old : PublisherFacts) (edits : List Edit) (new : PublisherFacts) : Type 0 where
  opening : new.opening ≡ old.opening
  all : appended new ≡ appended old ++ edits

published_same : (publisher : PublisherFacts) → appended (all_published publisher) ≡ appended publisher
published_same publisher = append-nil (appended publisher)

grown_by : (publisher : PublisherFacts) (connection : ℕ) (edit : Edit) (note : Option NoteFacts) (after : PublisherFacts) → Publishes (with_accepted publisher connection edit) note after → Grows publisher (edit ∷ []) after
grown_by publisher connection edit (Some note) after publishes = record {
  opening = ap (λ (p : PublisherFacts). p.opening) publishes.1;
  all =
      ap (λ (p : PublisherFacts). appended p) publishes.1 ∙ published_same (with_accepted publisher connection edit)
      ∙ sym (append_assoc publisher.published publisher.pending (edit ∷ []));
}
grown_by publisher connection edit None after publishes = record {
  opening = ap (λ (p : PublisherFacts). p.opening) publishes;
  all = ap (λ (p : PublisherFacts). appended p) publishes ∙ sym (append_assoc publisher.published publisher.pending (edit ∷ []));
}

not_grown : (old : ControlFacts) (outcome : Option Mark) (new : ControlFacts) → new ≡ record old { mark = outcome } → Grows old.publisher [] new.publisher
not_grown old outcome new is = record {
  opening = ap (λ (c : ControlFacts). c.publisher.opening) is;
  all = ap (λ (c : ControlFacts). appended c.publisher) is ∙ sym (append-nil (appended old.publisher));
}

pub decided_grows : (old : ControlFacts) (connection : ℕ) (session : Option SessionId) (decided : Verdict) (reply : ReplyFacts) (new : ControlFacts)
    → Decides old connection session decided reply new → Grows old.publisher (edits_of decided) new.publisher × (new.mark ≡ Some (mark (next_revision old) decided))
decided_grows old connection session (Accepted edit) reply new accepts =
    (grown_by old.publisher connection edit reply.note new.publisher accepts.published, ap (λ (c : ControlFacts). c.mark) accepts.others)
decided_grows old connection session (Lacks perm channel) reply new denies = (not_grown old _ new denies.0, ap (λ (c : ControlFacts). c.mark) denies.0)
decided_grows old connection session (Refused kind) reply new denies = (not_grown old _ new denies.0, ap (λ (c : ControlFacts). c.mark) denies.0)
decided_grows old connection session (Rejected kind) reply new denies = (not_grown old _ new denies.0, ap (λ (c : ControlFacts). c.mark) denies.0)
decided_grows old connection session (Answer frame) reply new denies = (not_grown old _ new denies.0, ap (λ (c : ControlFacts). c.mark) denies.0)
decided_grows old connection session (Ignored why) reply new denies = (not_grown old _ new denies.0, ap (λ (c : ControlFacts). c.mark) denies.0)

-- ---- what decisions leave

-- these decisions lead from the one to the other: what was appended, what was written down, and which logins were accepted
pub record Leads (old new : ControlFacts) (before after : ScribeFacts) (made : List Decision) : Type 0 where
  pub opening : new.publisher.opening ≡ old.publisher.opening
  pub all : appended new.publisher ≡ edits_after old.publisher.opening (appended old.publisher) made
  pub asked : after.is_asked ≡ before.is_asked
  pub entries : before.is_asked ≡ true → after.entries ≡ before.entries ++ entries_after old.publisher.opening (appended old.publisher) made
  pub unasked : before.is_asked ≡ false → after.entries ≡ before.entries
  pub roll : new.publisher.roll ≡ old.publisher.roll ++ logins_decided made

silent : (old new : ControlFacts) (before after : ScribeFacts) → new.publisher.opening ≡ old.publisher.opening → appended new.publisher ≡ appended old.publisher
    → after.is_asked ≡ before.is_asked → after.entries ≡ before.entries → new.publisher.roll ≡ old.publisher.roll → Leads old new before after []
silent old new before after opening all asked entries roll = record {
  opening = opening;
  all = all;
  asked = asked;
  entries = λ is. entries ∙ sym (append-nil before.entries);
  unasked = λ is. entries;
  roll = roll ∙ sym (append-nil old.publisher.roll);
}

then_leads : (old mid new : ControlFacts) (before between after : ScribeFacts) (first later : List Decision)
    → Leads old mid before between first → Leads mid new between after later → Leads old new before after (first ++ later)
then_leads old mid new before between after first later one other =
    let opening = old.publisher.opening in
    let edits = appended old.publisher in
    let so : (f : Opening → List Edit → List ControlEntry) → f mid.publisher.opening (appended mid.publisher) ≡ f opening (edits_after opening edits first) =
    λ f. ap (λ (o : Opening). f o (appended mid.publisher)) one.opening ∙ ap (λ (es : List Edit). f opening es) one.all in record {
      opening = other.opening ∙ one.opening;
      all = other.all
          ∙ ap (λ (o : Opening). edits_after o (appended mid.publisher) later) one.opening
          ∙ ap (λ (es : List Edit). edits_after opening es later) one.all
          ∙ sym (edits_join opening edits first later);
      asked = other.asked ∙ one.asked;
      entries = λ is.
          other.entries (one.asked ∙ is)
          ∙ ap (λ (es : List ControlEntry). between.entries ++ es) (so (λ o es. entries_after o es later))
          ∙ ap (λ (es : List ControlEntry). es ++ entries_after opening (edits_after opening edits first) later) (one.entries is)
          ∙ append_assoc before.entries (entries_after opening edits first) (entries_after opening (edits_after opening edits first) later)
          ∙ ap (λ (es : List ControlEntry). before.entries ++ es) (sym (entries_join opening edits first later));
      unasked = λ is. other.unasked (one.asked ∙ is) ∙ one.unasked is;
      roll = other.roll ∙ ap (λ (l : List Login). l ++ logins_decided later) one.roll
          ∙ append_assoc old.publisher.roll (logins_decided first) (logins_decided later)
          ∙ ap (λ (l : List Login). old.publisher.roll ++ l) (sym (flat_map-append (λ (d : Decision). login_of d.command.connection d.reply.end) first later));
    }

-- ---- a command

-- of the control owner only what was appended and its roll are seen
record KeepsList (old new : ControlFacts) : Type 0 where
  opening : new.publisher.opening ≡ old.publisher.opening
  all : appended new.publisher ≡ appended old.publisher
  roll : new.publisher.roll ≡ old.publisher.roll

same_list : (old new : ControlFacts) → new ≡ old → KeepsList old new
same_list old new same = record { opening = ap (λ (k : ControlFacts). k.publisher.opening) same; all = ap (λ (k : ControlFacts). appended k.publisher) same; roll = ap (λ (k : ControlFacts). k.publisher.roll) same }

none_written : (asked : Bool) (command : Command) (connection : ℕ) → entries_by connection (prepared asked command) None ≡ []
none_written true command connection = refl
none_written false command connection = refl

dropped : (old new : ControlFacts) (command : Command) (scribe settled : ScribeFacts) (no_memory : Bool) → new ≡ record old { mark = None }
    → settled ≡ recorded command.connection new.mark no_memory (record scribe { draft = prepared scribe.is_asked command }) → Leads old new scribe settled []
dropped old new command scribe settled no_memory is settles =
    silent old new scribe settled (ap (λ (c : ControlFacts). c.publisher.opening) is) (ap (λ (c : ControlFacts). appended c.publisher) is)
    (ap (λ (s : ScribeFacts). s.is_asked) settles)
    (ap (λ (s : ScribeFacts). s.entries) settles
    ∙ ap (λ (c : ControlFacts). scribe.entries ++ entries_by command.connection (prepared scribe.is_asked command) c.mark) is
    ∙ ap (λ (es : List ControlEntry). scribe.entries ++ es) (none_written scribe.is_asked command command.connection)
    ∙ append-nil scribe.entries)
    (ap (λ (c : ControlFacts). c.publisher.roll) is)

decided : (old new : ControlFacts) (command : Command) (reply : ReplyFacts) (scribe settled : ScribeFacts) (no_memory : Bool)
    → Decides old command.connection command.session (verdict (current old) command.session command.what) reply new
    → settled ≡ recorded command.connection new.mark no_memory (record scribe { draft = prepared scribe.is_asked command })
    → Leads old new scribe settled (record { command = command; reply = reply } ∷ [])
decided old new command reply scribe settled no_memory decides settles =
    let grown = decided_grows old command.connection command.session (verdict (current old) command.session command.what) reply new decides in record {
      opening = grown.0.opening;
      all = grown.0.all;
      asked = ap (λ (s : ScribeFacts). s.is_asked) settles;
      entries = λ is.
          ap (λ (s : ScribeFacts). s.entries) settles
          ∙ ap (λ (b : Bool). scribe.entries ++ entries_by command.connection (prepared b command) new.mark) is
          ∙ ap (λ (m : Option Mark). scribe.entries ++ entries_by command.connection (prepared true command) m) grown.1;
      unasked = λ is.
          ap (λ (s : ScribeFacts). s.entries) settles
          ∙ ap (λ (b : Bool). scribe.entries ++ entries_by command.connection (prepared b command) new.mark) is
          ∙ append-nil scribe.entries;
      roll = decided_roll old command.connection command.session (verdict (current old) command.session command.what) reply new decides
          ∙ ap (λ (l : List Login). old.publisher.roll ++ l) (sym (append-nil (login_of command.connection reply.end)));
    }

commanded : (old emptied new : ControlFacts) (command : Command) (reply : ReplyFacts) (scribe settled : ScribeFacts) → KeepsList old emptied
    → settled ≡ recorded command.connection new.mark reply.no_memory (record scribe { draft = prepared scribe.is_asked command })
    → (given : Commanded emptied command reply new) → Leads old new scribe settled (decided_by emptied command reply new given)
commanded old emptied new command reply scribe settled keeps settles (inl drops) =
    then_leads old emptied new scribe scribe settled [] [] (silent old emptied scribe scribe keeps.opening keeps.all refl refl keeps.roll)
    (dropped emptied new command scribe settled reply.no_memory drops.0 settles)
commanded old emptied new command reply scribe settled keeps settles (inr decides) =
    then_leads old emptied new scribe scribe settled [] (record { command = command; reply = reply } ∷ []) (silent old emptied scribe scribe keeps.opening keeps.all refl refl keeps.roll)
    (decided emptied new command reply scribe settled reply.no_memory decides settles)

emptied_slot : (old : ControlFacts) (slot : Option Slot) (after : ControlFacts) → EmptiesPost old slot after → KeepsList old after
emptied_slot old None after same = same_list old after same
emptied_slot old (Some slot) after empties = record { opening = ap (λ (k : ControlFacts). k.publisher.opening) empties.1; all = ap (λ (k : ControlFacts). appended k.publisher) empties.1; roll = ap (λ (k : ControlFacts). k.publisher.roll) empties.1 }

emptied_kept : (old : ControlFacts) (session : Option SessionId) (after : ControlFacts) → EmptiesFor old session after → KeepsList old after
emptied_kept old None after same = same_list old after same
emptied_kept old (Some session) after empties = emptied_slot old (slot_of (current old) session) after empties

posted_kept : (old : ControlFacts) (pending : List Notice) (answer : Posted) (after : ControlFacts) → PostsNext old pending answer after → KeepsList old after
posted_kept old [] answer after posts = record { opening = ap (λ (k : ControlFacts). k.publisher.opening) posts.1; all = ap (λ (k : ControlFacts). appended k.publisher) posts.1; roll = ap (λ (k : ControlFacts). k.publisher.roll) posts.1 }
posted_kept old (notice ∷ rest) answer after posts = record { opening = ap (λ (k : ControlFacts). k.publisher.opening) posts.others; all = ap (λ (k : ControlFacts). appended k.publisher) posts.others; roll = ap (λ (k : ControlFacts). k.publisher.roll) posts.others }

-- ---- the desk

joined_given : (end : ReplyEnd) (connection : ℕ) (guests : GuestsFacts) → (joined_by end connection guests).given ≡ guests.given
joined_given ends.Decided connection guests = refl
joined_given (ends.Joined session slot) connection guests = refl
joined_given ends.Rejected connection guests = refl

left_given : (b : Bool) (guests gone : GuestsFacts) → gone.given ≡ guests.given → (cond b gone guests).given ≡ guests.given
left_given true guests gone same = same
left_given false guests gone same = refl

module _ {D L : Type 0} where
  -- a part of a turn that made these decisions and no connection
  record Moves (old new : OwnerFacts D L) (made : List Decision) : Type 0 where
    leads : Leads old.control new.control old.scribe new.scribe made
    given : new.guests.given ≡ old.guests.given

  still : (old new : OwnerFacts D L) → KeepsList old.control new.control → new.scribe ≡ old.scribe → new.guests.given ≡ old.guests.given → Moves old new []
  still old new keeps same given = record {
    leads = silent old.control new.control old.scribe new.scribe keeps.opening keeps.all (ap (λ (s : ScribeFacts). s.is_asked) same) (ap (λ (s : ScribeFacts). s.entries) same) keeps.roll;
    given = given;
  }

  rests : (old new : OwnerFacts D L) → new ≡ old → Moves old new []
  rests old new same =
      still old new (same_list old.control new.control (ap (λ (o : OwnerFacts D L). o.control) same)) (ap (λ (o : OwnerFacts D L). o.scribe) same)
      (ap (λ (o : OwnerFacts D L). o.guests.given) same)

  then_moves : (old mid new : OwnerFacts D L) (first later : List Decision) → Moves old mid first → Moves mid new later → Moves old new (first ++ later)
  then_moves old mid new first later one other = record {
    leads = then_leads old.control mid.control new.control old.scribe mid.scribe new.scribe first later one.leads other.leads;
    given = other.given ∙ one.given;
  }

  given_moves : (old : OwnerFacts D L) (command : Command) (new : OwnerFacts D L) (given : IsGiven old command new) → Moves old new (decided_given old command new given)
  given_moves old command new (inl gives) = record {
    leads = commanded old.control old.control new.control command gives.reply old.scribe new.scribe (same_list old.control old.control refl)
        (ap (λ (o : OwnerFacts D L). o.scribe) gives.others) gives.commanded;
    given = ap (λ (o : OwnerFacts D L). o.guests.given) gives.others ∙ joined_given gives.reply.end command.connection old.guests;
  }
  given_moves old command new (inr drops) = record {
    leads = silent old.control new.control old.scribe new.scribe
        (ap (λ (o : OwnerFacts D L). o.control.publisher.opening) drops.others) (ap (λ (o : OwnerFacts D L). appended o.control.publisher) drops.others)
        (ap (λ (o : OwnerFacts D L). o.scribe.is_asked) drops.others) (ap (λ (o : OwnerFacts D L). o.scribe.entries) drops.others)
        (ap (λ (o : OwnerFacts D L). roll_of o) drops.others);
    given = ap (λ (o : OwnerFacts D L). o.guests.given) drops.others;
  }

  leave_moves : (old : OwnerFacts D L) (connection : ℕ) (was : Bool) (new : OwnerFacts D L) (given : LeaveIsGiven old connection was new) → Moves old new (decided_leave old connection was new given)
  leave_moves old connection was new (inl gives) = record {
    leads = commanded old.control gives.emptied new.control (leave_of connection (session_of connection old.guests.rows)) gives.reply old.scribe new.scribe
        (emptied_kept old.control (session_of connection old.guests.rows) gives.emptied gives.empties)
        (ap (λ (o : OwnerFacts D L). o.scribe) gives.others) gives.commanded;
    given = ap (λ (o : OwnerFacts D L). o.guests.given) gives.others;
  }
  leave_moves old connection was new (inr drops) = record {
    leads = silent old.control new.control old.scribe new.scribe
        (ap (λ (o : OwnerFacts D L). o.control.publisher.opening) drops.others) (ap (λ (o : OwnerFacts D L). appended o.control.publisher) drops.others)
        (ap (λ (o : OwnerFacts D L). o.scribe.is_asked) drops.others) (ap (λ (o : OwnerFacts D L). o.scribe.entries) drops.others)
        (ap (λ (o : OwnerFacts D L). roll_of o) drops.others);
    given = ap (λ (o : OwnerFacts D L). o.guests.given) drops.others;
  }

  -- what changes neither the control owner nor the scribe nor the number of connections
  unseen : (old seen new : OwnerFacts D L) → seen.control ≡ old.control → seen.scribe ≡ old.scribe → seen.guests.given ≡ old.guests.given → new ≡ seen → Moves old new []
  unseen old seen new control scribe given is =
      still old new (same_list old.control new.control (ap (λ (o : OwnerFacts D L). o.control) is ∙ control)) (ap (λ (o : OwnerFacts D L). o.scribe) is ∙ scribe)
      (ap (λ (o : OwnerFacts D L). o.guests.given) is ∙ given)

  -- the same after another owner of the same control owner, scribe and number
  from_seen : (old seen new : OwnerFacts D L) (made : List Decision) → seen.control ≡ old.control → seen.scribe ≡ old.scribe → seen.guests.given ≡ old.guests.given → Moves seen new made → Moves old new made
  from_seen old seen new made control scribe given moves = then_moves old seen new [] made (unseen old seen seen control scribe given refl) moves

  -- memory ran out: nothing was written down
  refused_moves : (old new : OwnerFacts D L) → new ≡ record old { scribe = refused old.scribe } → Moves old new []
  refused_moves old new is = record {
    leads = silent old.control new.control old.scribe new.scribe
        (ap (λ (o : OwnerFacts D L). o.control.publisher.opening) is) (ap (λ (o : OwnerFacts D L). appended o.control.publisher) is)
        (ap (λ (o : OwnerFacts D L). o.scribe.is_asked) is) (ap (λ (o : OwnerFacts D L). o.scribe.entries) is)
        (ap (λ (o : OwnerFacts D L). roll_of o) is);
    given = ap (λ (o : OwnerFacts D L). o.guests.given) is;
  }

  starved_moves : (old : OwnerFacts D L) (connection : ℕ) (new : OwnerFacts D L) → new ≡ starved connection old → Moves old new []
  starved_moves old connection new is = record {
    leads = silent old.control new.control old.scribe new.scribe
        (ap (λ (o : OwnerFacts D L). o.control.publisher.opening) is) (ap (λ (o : OwnerFacts D L). appended o.control.publisher) is)
        (ap (λ (o : OwnerFacts D L). o.scribe.is_asked) is) (ap (λ (o : OwnerFacts D L). o.scribe.entries) is)
        (ap (λ (o : OwnerFacts D L). roll_of o) is);
    given = ap (λ (o : OwnerFacts D L). o.guests.given) is;
  }

  -- a reply that the owner makes itself
  answered_moves : (old : OwnerFacts D L) (reply : ReplyFacts) (new : OwnerFacts D L) → Answers old reply new → Moves old new []
  answered_moves old reply new (inl is) = unseen old (replied reply old) new refl refl refl is
  answered_moves old reply new (inr is) = starved_moves old reply.connection new is

  tested_moves : (banned : Bool) (old : OwnerFacts D L) (login : Command) (new : OwnerFacts D L) (tested : TestedBy banned old login new) → Moves old new (decided_tested banned old login new tested)
  tested_moves true old login new answers = answered_moves old (ban_reply (roll_of old) login.connection) new answers
  tested_moves false old login new given = given_moves old login new given

  -- whatever the warden is before
  warden_moves : (old new : OwnerFacts D L) (warden : WardenFacts) (made : List Decision) → Moves (with_warden warden old) new made → Moves old new made
  warden_moves old new warden made moves = from_seen old (with_warden warden old) new made refl refl refl moves

  settling_moves : (login : Bool) (banned : Option SessionId) (old : OwnerFacts D L) (command : Command) (new : OwnerFacts D L) (given : SettledBy login banned old command new)
      → Moves old new (decided_settling login banned old command new given)
  settling_moves true banned old command new tests =
      warden_moves old new tests.warden _ (tested_moves (is_banned old command tests.warden.last) (with_warden tests.warden old) command new tests.tested)
  settling_moves false (Some banned) old command new (inl lacks) =
      warden_moves old new lacks.warden [] (starved_moves (with_warden lacks.warden old) command.connection new lacks.others)
  settling_moves false (Some banned) old command new (inr removes) =
      let made : List Decision = decided_given (with_warden removes.warden old) command removes.after removes.given in
      let given : Moves old removes.after made =
      warden_moves old removes.after removes.warden made (given_moves (with_warden removes.warden old) command removes.after removes.given) in
      subst (λ (all : List Decision). Moves old new all) (append-nil made)
      (then_moves old removes.after new made [] given (unseen removes.after _ new refl refl refl removes.others))
  settling_moves false None old command new given = given_moves old command new given

  command_moves : (old : OwnerFacts D L) (command : Command) (new : OwnerFacts D L) (given : IsGivenOrRefused old command new) → Moves old new (decided_command old command new given)
  command_moves old command new given = settling_moves (is_login command) (banned_in command) old command new given

  list_comes_moves : (warden : WardenFacts) (old : OwnerFacts D L) (reply : ReplyFacts) (book : Book) (new : OwnerFacts D L) → ListComesTo warden old reply book new → Moves old new []
  list_comes_moves warden old reply book new (inl both) = warden_moves old new warden [] (answered_moves (with_warden warden old) reply new (inl both.1))
  list_comes_moves warden old reply book new (inr both) = warden_moves old new warden [] (answered_moves (with_warden warden old) reply new (inr both.1))

  list_moves : (old : OwnerFacts D L) (connection : ℕ) (session : SessionId) (payload : List ℕ) (new : OwnerFacts D L) → SettlesList old connection session payload new → Moves old new []
  list_moves old connection session payload new settles =
      list_comes_moves settles.warden old (list_reply (roll_of old) connection (sent session (verdict_in old.warden.book settles.allowed payload)))
      (book_after old.warden.book settles.allowed payload settles.warden.last) new settles.comes_to

  receiving_moves : (leave waits : Bool) (old : OwnerFacts D L) (command : Command) (new : OwnerFacts D L) (received : ReceivesBy leave waits old command new)
      → Moves old new (decided_receiving leave waits old command new received)
  receiving_moves true waits old command new received = leave_moves old command.connection received.0 new received.1
  receiving_moves false true old command new received = unseen old (record old { logins = old.logins ++ command ∷ [] }) new refl refl refl received
  receiving_moves false false old command new received = command_moves old command new received

  owned_moves : (own : Option Command) (old new : OwnerFacts D L) (received : Receives old own new) → Moves old new (decided_owned own old new received)
  owned_moves None old new received = rests old new received
  owned_moves (Some command) old new received = receiving_moves (is_leave command.what) (is_login command && must_wait old) old command new received

  item_moves : (old : OwnerFacts D L) (item : Option DeskItem) (new : OwnerFacts D L) (received : ReceivesItem old item new) → Moves old new (decided_item old item new received)
  item_moves old None new received = rests old new received
  item_moves old (Some (items.Closed connection)) new received =
      unseen old (record old { guests = left connection old.guests }) new refl refl (left_given _ old.guests _ refl) received
  item_moves old (Some (items.Command command)) new received = owned_moves (owned old.guests.rows command) old new received
  item_moves old (Some (items.Bans connection session payload)) new received = list_moves old connection session payload new received

  waiting_moves : (own : Option Command) (old new : OwnerFacts D L) (given : MatchOption own (new ≡ old) (λ command. IsGivenOrRefused old command new)) → Moves old new (decided_waiting own old new given)
  waiting_moves None old new given = rests old new given
  waiting_moves (Some command) old new given = command_moves old command new given

  moves_as : (next : Next) (old : OwnerFacts D L) (worked : Bool) (new : OwnerFacts D L) (serves : Serves next old worked new) → Moves old new (decided_as next old worked new serves)
  moves_as Rest old worked new (so, same) = rests old new same
  moves_as (Again connection) old worked new given = leave_moves old connection worked new given
  moves_as Goes old worked new gives =
      from_seen old (record old { logins = gives.rest }) new (decided_waiting (owned old.guests.rows gives.login) (record old { logins = gives.rest }) new gives.given) refl refl refl
      (waiting_moves (owned old.guests.rows gives.login) (record old { logins = gives.rest }) new gives.given)
  moves_as Take old worked new takes =
      from_seen old (with_pass takes.pass old) new (decided_item (with_pass takes.pass old) takes.item new takes.received) refl refl refl
      (item_moves (with_pass takes.pass old) takes.item new takes.received)

  desk_moves : (old : OwnerFacts D L) (worked : Bool) (new : OwnerFacts D L) (serves : ServesDesk old worked new) → Moves old new (decided_in old worked new serves)
  desk_moves old worked new serves = moves_as (next old) old worked new serves

  -- ---- lag items

  lag_moves : (lag : Option Lag) (owner : OwnerFacts D L) → Moves owner (with_lag lag owner) []
  lag_moves None owner = rests owner owner refl
  lag_moves (Some lag) owner = unseen owner (with_lag (Some lag) owner) (with_lag (Some lag) owner) refl refl refl refl

  pressed_moves : (old : OwnerFacts D L) (worked : Bool) (new : OwnerFacts D L) → Presses old worked new → Moves old new []
  pressed_moves old worked new presses = subst (λ (o : OwnerFacts D L). Moves old o []) (sym presses.1) (lag_moves (pressing old) old)

  -- ---- publishing and posting

  published_moves : (old : OwnerFacts D L) (worked : Bool) (new : OwnerFacts D L) → PublishesLeft old worked new → Moves old new []
  published_moves old true new done =
      still old new (record {
        opening = ap (λ (o : OwnerFacts D L). o.control.publisher.opening) done.1;
        all = ap (λ (o : OwnerFacts D L). appended o.control.publisher) done.1 ∙ published_same old.control.publisher;
        roll = ap (λ (o : OwnerFacts D L). roll_of o) done.1;
      }) (ap (λ (o : OwnerFacts D L). o.scribe) done.1) (ap (λ (o : OwnerFacts D L). o.guests.given) done.1)
  published_moves old false new same = rests old new same

  archived_moves : (there noted through : Bool) (old : OwnerFacts D L) (worked : Bool) (new : OwnerFacts D L) → ArchivesBy there noted through old worked new → Moves old new []
  archived_moves false noted through old worked new (so, same) = rests old new same
  archived_moves true true through old worked new (inl offers) = unseen old (record old { archive = new.archive }) new refl refl refl offers.others
  archived_moves true true through old worked new (inr lacks) = refused_moves old new lacks.1
  archived_moves true false true old worked new notes = unseen old (record old { archive = new.archive }) new refl refl refl notes.others
  archived_moves true false false old worked new (so, same) = rests old new same

  posted_moves : (b : Bool) (old : OwnerFacts D L) (worked : Bool) (new : OwnerFacts D L) → MatchBool b (Rests old worked new) (PostsOne old worked new) → Moves old new []
  posted_moves true old worked new (so, same) = rests old new same
  posted_moves false old worked new one =
      let mid : OwnerFacts D L = record old { control = one.after } in
      subst (λ (o : OwnerFacts D L). Moves old o []) (sym one.others)
      (then_moves old mid (with_lag (lag_at one.answer old.guests.rows) mid) [] []
      (still old mid (posted_kept old.control (due_notices old.control) one.answer one.after one.posts) refl refl) (lag_moves (lag_at one.answer old.guests.rows) mid))

  -- ---- the end of a turn

  ended_moves : (b : Bool) (owner new : OwnerFacts D L) → new ≡ cond b (record owner { is_ending = true }) owner → Moves owner new []
  ended_moves true owner new is = unseen owner (record owner { is_ending = true }) new refl refl refl is
  ended_moves false owner new is = rests owner new is

-- ---- the door

came_on : (before mid after came now : ℕ) → mid ≡ before → after ≡ mid + came → now ≡ after → now ≡ before + came
came_on before mid after came now was more is = omega (arith, was, more, is)

came_more : (before mid after first later both : ℕ) → mid ≡ before + first → after ≡ mid + later → both ≡ first + later → after ≡ before + both
came_more before mid after first later both was is so = omega (arith, was, is, so)

from_none : (now before came : ℕ) → now ≡ before + came → before ≡ 0 → now ≡ came
from_none now before came is none = omega (arith, is, none)

given_by : {L : Type 0} (link_facts : L → LinkFacts) (answer : Accept L) (guests : GuestsFacts) → (guests_by link_facts answer guests).given ≡ guests.given + length (came_by answer (guests.given + 1))
given_by link_facts accepted.NotYet guests = omega arith
given_by link_facts (accepted.Conn link) guests = omega arith
given_by link_facts accepted.End guests = omega arith
given_by link_facts accepted.Failed guests = omega arith

module _ {D L : Type 0} (door_facts : D → DoorFacts) (link_facts : L → LinkFacts) where
  asks_lead : (b : Bool) (old : OwnerFacts D L) (worked : Bool) (new : OwnerFacts D L) → Asks door_facts link_facts b old worked new → Leads old.control new.control old.scribe new.scribe []
  asks_lead true old worked new stays = (rests old new stays.1).leads
  asks_lead false old worked new asks = silent old.control new.control old.scribe new.scribe
      (ap (λ (o : OwnerFacts D L). o.control.publisher.opening) asks.others) (ap (λ (o : OwnerFacts D L). appended o.control.publisher) asks.others)
      (ap (λ (o : OwnerFacts D L). o.scribe.is_asked) asks.others) (ap (λ (o : OwnerFacts D L). o.scribe.entries) asks.others)
      (ap (λ (o : OwnerFacts D L). roll_of o) asks.others)

  asks_given : (b : Bool) (old : OwnerFacts D L) (worked : Bool) (new : OwnerFacts D L) (asks : Asks door_facts link_facts b old worked new)
      → new.guests.given ≡ old.guests.given + length (came_where door_facts link_facts b old worked new asks)
  asks_given true old worked new stays = let same : new.guests.given ≡ old.guests.given = ap (λ (o : OwnerFacts D L). o.guests.given) stays.1 in omega (arith, same)
  asks_given false old worked new asks = ap (λ (o : OwnerFacts D L). o.guests.given) asks.others ∙ given_by link_facts asks.answer old.guests

  -- ---- the turns

  -- these decisions and n connections lead from the one to the other
  pub record Turns (old new : OwnerFacts D L) (made : List Decision) (came : ℕ) : Type 0 where
    pub leads : Leads old.control new.control old.scribe new.scribe made
    pub given : new.guests.given ≡ old.guests.given + came

  turn_leads : (old : OwnerFacts D L) (turn : Turn) (new : OwnerFacts D L) (turned : OwnerTurned door_facts link_facts old turn new)
      → Turns old new (decisions_of door_facts link_facts old turn new turned) (length (came_where door_facts link_facts (is_not_to_ask turned.after_post) turned.after_post turned.came turned.after_door turned.asks))
  turn_leads old turn new turned =
      let made = decisions_of door_facts link_facts old turn new turned in
      let offered : Moves old turned.after_offers [] = unseen old (record old { bells = turned.after_offers.bells; kept = turned.after_offers.kept }) turned.after_offers refl refl refl turned.offers.others in
      let desk : Moves turned.after_offers turned.after_desk made = desk_moves turned.after_offers turned.served turned.after_desk turned.serves in
      let pressed : Moves turned.after_desk turned.after_press [] =
      pressed_moves turned.after_desk turned.pressed turned.after_press turned.presses in
      let shown : Moves turned.after_press turned.after_publish [] =
      published_moves turned.after_press turned.published turned.after_publish turned.publishes in
      let noted : Bool = makes_note turned.after_offers turned.after_desk || turned.published in
      let archived : Moves turned.after_publish turned.after_archive [] =
      archived_moves (is_some turned.after_publish.archive) noted (is_through turned.after_publish) turned.after_publish turned.archived turned.after_archive turned.archives in
      let sent : Moves turned.after_archive turned.after_post [] =
      posted_moves (is_some turned.after_archive.kept.lag) turned.after_archive turned.posted turned.after_post turned.posts in
      let later : Moves turned.after_publish turned.after_post [] = then_moves turned.after_publish turned.after_archive turned.after_post [] [] archived sent in
      let behind : Moves turned.after_desk turned.after_post [] =
      then_moves turned.after_desk turned.after_press turned.after_post [] [] pressed (then_moves turned.after_press turned.after_publish turned.after_post [] [] shown later) in
      let front : Moves old turned.after_desk made = then_moves old turned.after_offers turned.after_desk [] made offered desk in
      let ends : Moves turned.after_door new [] = ended_moves (is_over turned.after_door && is_none turned.after_door.kept.coming) turned.after_door new turned.ends in
      let door : Leads turned.after_post.control turned.after_door.control turned.after_post.scribe turned.after_door.scribe [] =
      asks_lead (is_not_to_ask turned.after_post) turned.after_post turned.came turned.after_door turned.asks in
      let rest : Leads turned.after_desk.control new.control turned.after_desk.scribe new.scribe [] =
      then_leads turned.after_desk.control turned.after_post.control new.control turned.after_desk.scribe turned.after_post.scribe new.scribe [] [] behind.leads
      (then_leads turned.after_post.control turned.after_door.control new.control turned.after_post.scribe turned.after_door.scribe new.scribe [] [] door ends.leads) in record {
        leads = subst (λ (all : List Decision). Leads old.control new.control old.scribe new.scribe all) (append-nil made)
            (then_leads old.control turned.after_desk.control new.control old.scribe turned.after_desk.scribe new.scribe made [] front.leads rest);
        given = came_on old.guests.given turned.after_post.guests.given turned.after_door.guests.given _ new.guests.given (behind.given ∙ front.given)
            (asks_given (is_not_to_ask turned.after_post) turned.after_post turned.came turned.after_door turned.asks) ends.given;
      }

  pub turns_lead : (old : OwnerFacts D L) (turns : List Turn) (new : OwnerFacts D L) (all : TurnsTo (OwnerTurned door_facts link_facts) old turns new)
      → Turns old new (decisions door_facts link_facts old turns new all) (length (connections_given door_facts link_facts old turns new all))
  turns_lead old [] new same = record {
    leads = (rests old new same).leads;
    given = let is : new.guests.given ≡ old.guests.given = ap (λ (o : OwnerFacts D L). o.guests.given) same in omega (arith, is);
  }
  turns_lead old (turn ∷ turns) new (mid, turned, rest) =
      let one = turn_leads old turn mid turned in
      let others = turns_lead mid turns new rest in
      let came : List (Coming L) = came_where door_facts link_facts (is_not_to_ask turned.after_post) turned.after_post turned.came turned.after_door turned.asks in
      let later : List (Coming L) = connections_given door_facts link_facts mid turns new rest in record {
        leads = then_leads old.control mid.control new.control old.scribe mid.scribe new.scribe
            (decisions_of door_facts link_facts old turn mid turned) (decisions door_facts link_facts mid turns new rest) one.leads others.leads;
        given = came_more old.guests.given mid.guests.given new.guests.given (length came) (length later) (length (came ++ later)) one.given others.given (length-append came later);
      }

  -- ---- as the laws say it

  pub edits_decided : (old : OwnerFacts D L) (turns : List Turn) (new : OwnerFacts D L) (all : TurnsTo (OwnerTurned door_facts link_facts) old turns new)
      → appended new.control.publisher ≡ edits_after old.control.publisher.opening (appended old.control.publisher) (decisions door_facts link_facts old turns new all)
  edits_decided old turns new all = (turns_lead old turns new all).leads.all

  pub logins_accepted : (old : OwnerFacts D L) (turns : List Turn) (new : OwnerFacts D L) (all : TurnsTo (OwnerTurned door_facts link_facts) old turns new)
      → roll_of new ≡ roll_of old ++ logins_decided (decisions door_facts link_facts old turns new all)
  logins_accepted old turns new all = (turns_lead old turns new all).leads.roll

  pub entries_decided : (old : OwnerFacts D L) (turns : List Turn) (new : OwnerFacts D L) (all : TurnsTo (OwnerTurned door_facts link_facts) old turns new) → old.scribe.is_asked ≡ true
      → new.scribe.entries ≡ old.scribe.entries ++ entries_after old.control.publisher.opening (appended old.control.publisher) (decisions door_facts link_facts old turns new all)
  entries_decided old turns new all asked = (turns_lead old turns new all).leads.entries asked

  pub none_unasked : (old : OwnerFacts D L) (turns : List Turn) (new : OwnerFacts D L) (all : TurnsTo (OwnerTurned door_facts link_facts) old turns new) → old.scribe.is_asked ≡ false → new.scribe.entries ≡ old.scribe.entries
  none_unasked old turns new all unasked = (turns_lead old turns new all).leads.unasked unasked

  pub connections_counted : (control : ControlFacts) (door : D) (connections : ℕ) (journal : Bool) (queues : List QueueId) (store : Option QueueId) (opened owner : OwnerFacts D L) (turns : List Turn)
      → IsOpened control door connections journal queues store opened → (all : TurnsTo (OwnerTurned door_facts link_facts) opened turns owner)
      → owner.guests.given ≡ length (connections_given door_facts link_facts opened turns owner all)
  connections_counted control door connections journal queues store opened owner turns new all =
      from_none owner.guests.given opened.guests.given (length (connections_given door_facts link_facts opened turns owner all)) (turns_lead opened turns owner all).given
      (ap (λ (o : OwnerFacts D L). o.guests.given) new)
