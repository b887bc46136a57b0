-- What a turn of an owner makes of its control owner is what a run of steps makes of the core.
use Rattle.mum_step_laws.proofs.Common.{◌≡◌, ◌∙◌, ℕ, Bool, true, false, cond, List, [], ◌∷◌, ◌++◌, length, Option, Some, None, refl, sym, ap, subst, inl, inr, ◌&&◌, is_none, is_some, MatchBool, MatchOption, AllByRecursion, flat_map, fold-append, append-nil, SessionId, Slot, Commanded, ControlFacts, slot_of, EmptiesPost, PostsNext, answer_of, due_behind, due_notices, Posted, CoreState, IsRun, ran, does, DoorFacts, LinkFacts, Notice, PostFacts, Offered, Sent, Full, Answers, IsGivenOrRefused, ListComesTo, SettledBy, SettlesList, TestedBy, ban_reply, banned_in, book_after, is_banned, list_reply, with_warden, OwnerFacts, IsGiven, roll_of, owned, EmptiesFor, LeaveIsGiven, Next, Receives, ReceivesBy, ReceivesItem, Rests, Serves, ServesDesk, leave_of, must_wait, with_pass, Again, Goes, Rest, ArchivesBy, Asks, PostsOne, has_posted, is_not_to_ask, is_over, is_through, lag_at, pressing, with_lag, is_leave, is_login, Lag, DeskItem, NoteFacts, ReplyFacts, Step, Command, Edit, Book, sent, WardenFacts, verdict_in, HasAsked, OwnsAs, published_with, Decision, OwnersAreOwners, decided_as, decided_by, decided_command, decided_given, decided_in, decided_item, decided_leave, decided_owned, decided_receiving, decided_settling, decided_tested, decided_waiting, publish_noted, step_where, steps_decided}
use Rattle.mum_control.specs.Commanded.{current}
use Rattle.mum_owner.specs.{Guests.session_of, Serving.next, Serving.Next.Take, Turned.Publishes}
use Rattle.mum_step_laws.proofs.{ControlParts.dropped_owns, ControlParts.edits_as, ControlParts.posts, OwnerParts.publishes}
use Rattle.mum_port.specs.declared.item.DeskItem.TheVariants as items
use Rattle.mum_record.specs.declared.step.Step.TheVariants as steps

-- ---- runs

-- one run after another
run_on : (core : CoreState) (xs ys : List Step) → IsRun core xs → IsRun (ran core xs) ys → IsRun core (xs ++ ys)
run_on core [] ys first later = later
run_on core (x ∷ xs) ys first later = (first.0, run_on (does core x) xs ys first.1 later)

-- where the core has what the first control owner has, and the commands that are decided wait in it, these steps are
-- allowed and give it what the second has
record Leads (old new : ControlFacts) (decisions : List Decision) (taken : List Step) : Type 0 where
  leads : (core : CoreState) → OwnsAs old core → AllByRecursion (λ decision. HasAsked decision.command core) decisions
      → IsRun core taken × OwnsAs new (ran core taken)

-- of the core only the publisher and the notices are seen
record KeepsOwned (old new : ControlFacts) : Type 0 where
  publisher : new.publisher ≡ old.publisher
  pending : new.pending ≡ old.pending

owns_on : (old new : ControlFacts) (core : CoreState) → KeepsOwned old new → OwnsAs old core → OwnsAs new core
owns_on old new core keeps owns = record {
  opening_is = owns.opening_is ∙ ap (λ p. p.opening.state) (sym keeps.publisher);
  accepted_are = owns.accepted_are ∙ ap (λ p. p.published ++ p.pending) (sym keeps.publisher);
  published_are = owns.published_are ∙ ap (λ p. length p.published) (sym keeps.publisher);
  pending_are = owns.pending_are ∙ sym keeps.pending;
}

same_kept : (old new : ControlFacts) → new ≡ old → KeepsOwned old new
same_kept old new same = record { publisher = ap (λ (k : ControlFacts). k.publisher) same; pending = ap (λ (k : ControlFacts). k.pending) same }

-- no step
rests : (old new : ControlFacts) → new ≡ old → Leads old new [] []
rests old new same = record { leads = λ core owns asked. (tt, owns_on old new core (same_kept old new same) owns) }

-- ---- a command

noted_run : (core : CoreState) (note : Option NoteFacts) → IsRun core (publish_noted note)
noted_run core None = tt
noted_run core (Some note) = (refl, tt)

noted_ran : (core : CoreState) (note : Option NoteFacts) → ran core (publish_noted note) ≡ published_with note core
noted_ran core None = refl
noted_ran core (Some note) = refl

commanded : (old emptied new : ControlFacts) (command : Command) (reply : ReplyFacts) → KeepsOwned old emptied → (given : Commanded emptied command reply new)
    → Leads old new (decided_by emptied command reply new given) (flat_map steps_decided (decided_by emptied command reply new given))
commanded old emptied new command reply keeps (inl dropped) = record {
  leads = λ core owns asked. (tt, dropped_owns emptied new command reply core dropped (owns_on old emptied core keeps owns));
}
commanded old emptied new command reply keeps (inr decides) = record {
  leads = λ core owns asked.
      let edit = edits_as emptied new command reply decides core (owns_on old emptied core keeps owns) asked.0 in
      let whole : List Step = steps_decided (record { command = command; reply = reply }) in
      let after = does core (steps.Edit command.connection) in
      subst (λ (xs : List Step). IsRun core xs × OwnsAs new (ran core xs)) (sym (append-nil whole)) (
        (edit.allowed, noted_run after reply.note),
        subst (λ (k : CoreState). OwnsAs new k) (sym (noted_ran after reply.note)) edit.owns,
      );
}

emptied_slot : (old : ControlFacts) (slot : Option Slot) (after : ControlFacts) → EmptiesPost old slot after → KeepsOwned old after
emptied_slot old None after same = same_kept old after same
emptied_slot old (Some slot) after empties = record { publisher = ap (λ (k : ControlFacts). k.publisher) empties.1; pending = ap (λ (k : ControlFacts). k.pending) empties.1 }

emptied_kept : (old : ControlFacts) (session : Option SessionId) (after : ControlFacts) → EmptiesFor old session after → KeepsOwned old after
emptied_kept old None after same = same_kept old after same
emptied_kept old (Some session) after empties = emptied_slot old (slot_of (current old) session) after empties

-- ---- a notice

answered : (to : SessionId) (offered : Offered PostFacts) (answer : Posted) → answer ≡ answer_of to offered → has_posted answer ≡ true
answered to Sent answer is = ap has_posted is
answered to (Full back) answer is = ap has_posted is

-- a notice that is to be posted is the first that is pending
due_first : (unpublished : List Edit) (pending : List Notice) (notice : Notice) (rest : List Notice) → due_behind unpublished pending ≡ notice ∷ rest → pending ≡ notice ∷ rest
due_first [] pending notice rest is = is
due_first (edit ∷ unpublished) pending notice rest is = absurd (cc is)

posts_next : (old : ControlFacts) (due : List Notice) (answer : Posted) (after : ControlFacts) → due_notices old ≡ due → PostsNext old due answer after
    → Leads old after [] (step_where (has_posted answer) steps.Post)
posts_next old [] answer after is done =
    subst (λ (a : Posted). Leads old after [] (step_where (has_posted a) steps.Post)) (sym done.0) (rests old after done.1)
posts_next old (notice ∷ rest) answer after is done =
    subst (λ (b : Bool). Leads old after [] (step_where b steps.Post)) (sym (answered notice.to done.offered answer done.answer)) (record {
      leads = λ core owns asked.
          let step = posts old after notice rest answer done (due_first old.publisher.pending old.pending notice rest is) core owns in ((step.0, tt), step.2);
    })

-- ---- the desk

module _ {D L : Type 0} where
  abbrev Moves : (old new : OwnerFacts D L) → List Decision → Type 0
  Moves old new decisions = Leads old.control new.control decisions (flat_map steps_decided decisions)

  still : (old new : OwnerFacts D L) → new ≡ old → Moves old new []
  still old new same = rests old.control new.control (ap (λ (o : OwnerFacts D L). o.control) same)

  given_moves : (old : OwnerFacts D L) (command : Command) (new : OwnerFacts D L) (given : IsGiven old command new) → Moves old new (decided_given old command new given)
  given_moves old command new (inl gives) = commanded old.control old.control new.control command gives.reply (same_kept old.control old.control refl) gives.commanded
  given_moves old command new (inr drops) = rests old.control new.control (ap (λ (o : OwnerFacts D L). o.control) drops.others)

  -- a reply that the owner makes itself
  replied_moves : (old : OwnerFacts D L) (reply : ReplyFacts) (new : OwnerFacts D L) → Answers old reply new → Moves old new []
  replied_moves old reply new (inl is) = rests old.control new.control (ap (λ (o : OwnerFacts D L). o.control) is)
  replied_moves old reply new (inr is) = rests old.control new.control (ap (λ (o : OwnerFacts D L). o.control) is)

  tested_moves : (banned : Bool) (old : OwnerFacts D L) (login : Command) (new : OwnerFacts D L) (tested : TestedBy banned old login new) → Moves old new (decided_tested banned old login new tested)
  tested_moves true old login new answers = replied_moves old (ban_reply (roll_of old) login.connection) new answers
  tested_moves false old login new given = given_moves old login new given

  settling_moves : (login : Bool) (banned : Option SessionId) (old : OwnerFacts D L) (command : Command) (new : OwnerFacts D L) (given : SettledBy login banned old command new)
      → Moves old new (decided_settling login banned old command new given)
  settling_moves true banned old command new tests =
      tested_moves (is_banned old command tests.warden.last) (with_warden tests.warden old) command new tests.tested
  settling_moves false (Some banned) old command new (inl lacks) = rests old.control new.control (ap (λ (o : OwnerFacts D L). o.control) lacks.others)
  settling_moves false (Some banned) old command new (inr removes) =
      let decisions : List Decision = decided_given (with_warden removes.warden old) command removes.after removes.given in
      subst (λ (k : ControlFacts). Leads old.control k decisions (flat_map steps_decided decisions)) (sym (ap (λ (o : OwnerFacts D L). o.control) removes.others))
      (given_moves (with_warden removes.warden old) command removes.after removes.given)
  settling_moves false None old command new given = given_moves old command new given

  command_moves : (old : OwnerFacts D L) (command : Command) (new : OwnerFacts D L) (given : IsGivenOrRefused old command new) → Moves old new (decided_command old command new given)
  command_moves old command new given = settling_moves (is_login command) (banned_in command) old command new given

  list_comes_moves : (warden : WardenFacts) (old : OwnerFacts D L) (reply : ReplyFacts) (book : Book) (new : OwnerFacts D L) → ListComesTo warden old reply book new → Moves old new []
  list_comes_moves warden old reply book new (inl both) = rests old.control new.control (ap (λ (o : OwnerFacts D L). o.control) both.1)
  list_comes_moves warden old reply book new (inr both) = rests old.control new.control (ap (λ (o : OwnerFacts D L). o.control) both.1)

  list_moves : (old : OwnerFacts D L) (connection : ℕ) (session : SessionId) (payload : List ℕ) (new : OwnerFacts D L) → SettlesList old connection session payload new → Moves old new []
  list_moves old connection session payload new settles =
      list_comes_moves settles.warden old (list_reply (roll_of old) connection (sent session (verdict_in old.warden.book settles.allowed payload)))
      (book_after old.warden.book settles.allowed payload settles.warden.last) new settles.comes_to

  leave_moves : (old : OwnerFacts D L) (connection : ℕ) (decided : Bool) (new : OwnerFacts D L) (given : LeaveIsGiven old connection decided new) → Moves old new (decided_leave old connection decided new given)
  leave_moves old connection decided new (inl gives) =
      commanded old.control gives.emptied new.control (leave_of connection (session_of connection old.guests.rows)) gives.reply
      (emptied_kept old.control (session_of connection old.guests.rows) gives.emptied gives.empties) gives.commanded
  leave_moves old connection decided new (inr drops) = rests old.control new.control (ap (λ (o : OwnerFacts D L). o.control) drops.others)

  receiving_moves : (leave waits : Bool) (old : OwnerFacts D L) (command : Command) (new : OwnerFacts D L) (received : ReceivesBy leave waits old command new)
      → Moves old new (decided_receiving leave waits old command new received)
  receiving_moves true waits old command new received = leave_moves old command.connection received.0 new received.1
  receiving_moves false true old command new received = rests old.control new.control (ap (λ (o : OwnerFacts D L). o.control) received)
  receiving_moves false false old command new received = command_moves old command new received

  owned_moves : (own : Option Command) (old new : OwnerFacts D L) (received : Receives old own new) → Moves old new (decided_owned own old new received)
  owned_moves None old new received = still old new received
  owned_moves (Some command) old new received = receiving_moves (is_leave command.what) (is_login command && must_wait old) old command new received

  item_moves : (old : OwnerFacts D L) (item : Option DeskItem) (new : OwnerFacts D L) (received : ReceivesItem old item new) → Moves old new (decided_item old item new received)
  item_moves old None new received = still old new received
  item_moves old (Some (items.Closed connection)) new received = rests old.control new.control (ap (λ (o : OwnerFacts D L). o.control) received)
  item_moves old (Some (items.Command command)) new received = owned_moves (owned old.guests.rows command) old new received
  item_moves old (Some (items.Bans connection session payload)) new received = list_moves old connection session payload new received

  waiting_moves : (own : Option Command) (old new : OwnerFacts D L) (given : MatchOption own (new ≡ old) (λ command. IsGivenOrRefused old command new)) → Moves old new (decided_waiting own old new given)
  waiting_moves None old new given = still old new given
  waiting_moves (Some command) old new given = command_moves old command new given

  moves_as : (next : Next) (old : OwnerFacts D L) (worked : Bool) (new : OwnerFacts D L) (serves : Serves next old worked new) → Moves old new (decided_as next old worked new serves)
  moves_as Rest old worked new (so, same) = still old new same
  moves_as (Again connection) old worked new given = leave_moves old connection worked new given
  moves_as Goes old worked new gives = waiting_moves (owned old.guests.rows gives.login) (record old { logins = gives.rest }) new gives.given
  moves_as Take old worked new takes = item_moves (with_pass takes.pass old) takes.item new takes.received

  desk_moves : (old : OwnerFacts D L) (worked : Bool) (new : OwnerFacts D L) (serves : ServesDesk old worked new) → Moves old new (decided_in old worked new serves)
  desk_moves old worked new serves = moves_as (next old) old worked new serves

  -- a lag item changes nothing of the control owner
  lag_keeps : (lag : Option Lag) (owner : OwnerFacts D L) → (with_lag lag owner).control ≡ owner.control
  lag_keeps None owner = refl
  lag_keeps (Some lag) owner = refl

  -- ---- publishing and posting

  published_moves : (old : OwnerFacts D L) (worked : Bool) (new : OwnerFacts D L) → Publishes old worked new → Leads old.control new.control [] (step_where worked steps.Publish)
  published_moves old true new done = record {
    leads = λ core owns asked. let shown = publishes old new done.1 core owns in ((shown.0, tt), shown.1);
  }
  published_moves old false new same = still old new same

  posted_one : (old : OwnerFacts D L) (worked : Bool) (new : OwnerFacts D L) → PostsOne old worked new → Leads old.control new.control [] (step_where worked steps.Post)
  posted_one old worked new one =
      let control : new.control ≡ one.after = ap (λ (o : OwnerFacts D L). o.control) one.others ∙ lag_keeps (lag_at one.answer old.guests.rows) (record old { control = one.after }) in
      subst (λ (k : ControlFacts). Leads old.control k [] (step_where worked steps.Post)) (sym control)
      (subst (λ (b : Bool). Leads old.control one.after [] (step_where b steps.Post)) (sym one.so)
      (posts_next old.control (due_notices old.control) one.answer one.after refl one.posts))

  posted_moves : (b : Bool) (old : OwnerFacts D L) (worked : Bool) (new : OwnerFacts D L) → MatchBool b (Rests old worked new) (PostsOne old worked new) → Leads old.control new.control [] (step_where worked steps.Post)
  posted_moves true old worked new (so, same) =
      subst (λ (w : Bool). Leads old.control new.control [] (step_where w steps.Post)) (sym so) (still old new same)
  posted_moves false old worked new one = posted_one old worked new one

  -- what is done for the store changes nothing of the control owner
  archived_keeps : (there noted through : Bool) (old : OwnerFacts D L) (worked : Bool) (new : OwnerFacts D L) → ArchivesBy there noted through old worked new → new.control ≡ old.control
  archived_keeps false noted through old worked new rests = ap (λ (o : OwnerFacts D L). o.control) rests.1
  archived_keeps true true through old worked new (inl offers) = ap (λ (o : OwnerFacts D L). o.control) offers.others
  archived_keeps true true through old worked new (inr lacks) = ap (λ (o : OwnerFacts D L). o.control) lacks.1
  archived_keeps true false true old worked new ends = ap (λ (o : OwnerFacts D L). o.control) ends.others
  archived_keeps true false false old worked new rests = ap (λ (o : OwnerFacts D L). o.control) rests.1

  -- ---- the whole turn

  ended_keeps : (b : Bool) (owner : OwnerFacts D L) → (cond b (record owner { is_ending = true }) owner).control ≡ owner.control
  ended_keeps true owner = refl
  ended_keeps false owner = refl

module _ {D L : Type 0} (door_facts : D → DoorFacts) (link_facts : L → LinkFacts) where
  asks_keep : (b : Bool) (old : OwnerFacts D L) (worked : Bool) (new : OwnerFacts D L) → Asks door_facts link_facts b old worked new → new.control ≡ old.control
  asks_keep true old worked new rests = ap (λ (o : OwnerFacts D L). o.control) rests.1
  asks_keep false old worked new asks = ap (λ (o : OwnerFacts D L). o.control) asks.others

  pub owners : OwnersAreOwners D L door_facts link_facts
  owners old turn new turned core owns asked =
      let first : turned.after_offers.control ≡ old.control = ap (λ (o : OwnerFacts D L). o.control) turned.offers.others in
      let desk = (desk_moves turned.after_offers turned.served turned.after_desk turned.serves).leads core
      (owns_on old.control turned.after_offers.control core (same_kept old.control turned.after_offers.control first) owns) asked in
      let decided = flat_map steps_decided (decided_in turned.after_offers turned.served turned.after_desk turned.serves) in
      let mid = ran core decided in
      let pressed : turned.after_press.control ≡ turned.after_desk.control =
      ap (λ (o : OwnerFacts D L). o.control) turned.presses.1 ∙ lag_keeps (pressing turned.after_desk) turned.after_desk in
      let shown = (published_moves turned.after_press turned.published turned.after_publish turned.publishes).leads mid
      (owns_on turned.after_desk.control turned.after_press.control mid (same_kept turned.after_desk.control turned.after_press.control pressed) desk.1) tt in
      let later = ran mid (step_where turned.published steps.Publish) in
      let archived : turned.after_archive.control ≡ turned.after_publish.control =
      archived_keeps (is_some turned.after_publish.archive) _ (is_through turned.after_publish) turned.after_publish turned.archived turned.after_archive turned.archives in
      let sent = (posted_moves (is_some turned.after_archive.kept.lag) turned.after_archive turned.posted turned.after_post turned.posts).leads later
      (owns_on turned.after_publish.control turned.after_archive.control later (same_kept turned.after_publish.control turned.after_archive.control archived) shown.1) tt in
      let asks : turned.after_door.control ≡ turned.after_post.control = asks_keep (is_not_to_ask turned.after_post) turned.after_post turned.came turned.after_door turned.asks in
      let last : new.control ≡ turned.after_post.control =
      ap (λ (o : OwnerFacts D L). o.control) turned.ends ∙ ended_keeps (is_over turned.after_door && is_none turned.after_door.kept.coming) turned.after_door ∙ asks in
      let rest = step_where turned.published steps.Publish ++ step_where turned.posted steps.Post in
      let end : ran core (decided ++ rest) ≡ ran later (step_where turned.posted steps.Post) =
      fold-append does core decided rest ∙ fold-append does mid (step_where turned.published steps.Publish) (step_where turned.posted steps.Post) in (
        run_on core decided rest desk.0 (run_on mid (step_where turned.published steps.Publish) (step_where turned.posted steps.Post) shown.0 sent.0),
        subst (λ (k : CoreState). OwnsAs new.control k) (sym end)
            (owns_on turned.after_post.control new.control (ran later (step_where turned.posted steps.Post)) (same_kept turned.after_post.control new.control last) sent.1),
      )
