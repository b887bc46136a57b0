-- Each note that a turn gave has a further one.
use Rattle.mum_owner.proofs.Common.{◌≡◌, ◌∙◌, ℕ, Bool, true, false, cond, List, [], ◌∷◌, ◌++◌, append-nil, Option, Some, None, ◌⊎◌, refl, ap, sym, subst, inl, inr, ◌&&◌, ◌||◌, not, is_some, length, nat_lt, IfSome, MatchBool, MatchOption, is_none, AllByRecursion, cons_option, filter_map, or-true, SessionId, CONNECTION_LIMIT, Commanded, Decides, ControlPublishes, current, note_of, with_accepted, ControlFacts, Turn, DoorFacts, LinkFacts, ArchiveFacts, OffersNote, DeskItem, all_published, appended, NoteFacts, PublisherFacts, ReplyFacts, verdict, Command, Edit, Verdict, Accepted, Lacks, Refused, Rejected, Answer, Ignored, WardenFacts, Book, sent, verdict_in, Answers, IsGivenOrRefused, ListComesTo, SettledBy, TestedBy, ban_reply, banned_in, book_after, has_note, is_banned, list_reply, with_warden, KeptFacts, OwnerFacts, ScribeFacts, IsGiven, roll_of, owned, session_of, made, HasFurther, note_in, notes_given, published_note, LeaveIsGiven, Next, Receives, ReceivesBy, ReceivesItem, Rests, Serves, ServesDesk, kept_after, leave_of, may_go, must_wait, next, with_pass, Again, Goes, Rest, Take, Archives, ArchivesBy, Asks, LacksNote, OffersFurther, OwnerTurned, PostsOne, Presses, Publishes, is_not_to_ask, is_over, is_through, lag_at, makes_note, pressing, with_lag, is_leave, is_login, PENDING_LIMIT, Lag}
use Rattle.mum_owner.proofs.{Answering.AnswersNow, Answering.answers_now, Steps.desk_stays, Steps.press_stays}
use Rattle.mum_port.specs.declared.item.DeskItem.TheVariants as items

-- ---- notes of all that is published

-- the note is of all that was appended, and all of that is published
pub record IsShown (publisher : PublisherFacts) (note : NoteFacts) : Type 0 where
  pub note_is : note ≡ note_of publisher
  pub none : publisher.pending ≡ []

shown_by : (note : Option NoteFacts) (publisher after : PublisherFacts) → ControlPublishes publisher note after → IfSome note (IsShown after)
shown_by None publisher after publishes = tt
shown_by (Some note) publisher after publishes =
    subst (λ (p : PublisherFacts). IsShown p note) (sym publishes.1) (record {
      note_is = publishes.0 ∙ ap (λ (e : List Edit). record { book = publisher.opening.book; edits = e }) (sym (append-nil (appended publisher)));
      none = refl;
    })

-- the note in this reply, if it has one, is so
abbrev pub HasShown : PublisherFacts → ReplyFacts → Type 0
HasShown publisher reply = IfSome reply.note (IsShown publisher)

without : (publisher : PublisherFacts) (reply other : ReplyFacts) → reply ≡ other → other.note ≡ None → HasShown publisher reply
without publisher reply other is none = subst (λ (n : Option NoteFacts). IfSome n (IsShown publisher)) (sym (ap note_in is ∙ none)) tt

decided_shown : (old : ControlFacts) (connection : ℕ) (session : Option SessionId) (decided : Verdict) (reply : ReplyFacts) (new : ControlFacts)
    → Decides old connection session decided reply new → HasShown new.publisher reply
decided_shown old connection session (Accepted edit) reply new accepts = shown_by reply.note (with_accepted old.publisher connection edit) new.publisher accepts.published
decided_shown old connection session (Lacks perm channel) reply new denies = without new.publisher reply _ denies.1 refl
decided_shown old connection session (Refused kind) reply new denies = without new.publisher reply _ denies.1 refl
decided_shown old connection session (Rejected kind) reply new denies = without new.publisher reply _ denies.1 refl
decided_shown old connection session (Answer frame) reply new denies = without new.publisher reply _ denies.1 refl
decided_shown old connection session (Ignored why) reply new denies = without new.publisher reply _ denies.1 refl

commanded_shown : (old : ControlFacts) (command : Command) (reply : ReplyFacts) (new : ControlFacts) → Commanded old command reply new → HasShown new.publisher reply
commanded_shown old command reply new (inl dropped) = without new.publisher reply _ dropped.1 refl
commanded_shown old command reply new (inr decides) =
    decided_shown old command.connection command.session (verdict (current old) command.session command.what) reply new decides

leave_kept_shown : {L : Type 0} (decided : Bool) (publisher : PublisherFacts) (reply : ReplyFacts) (kept : KeptFacts L) → kept.reply ≡ None → HasShown publisher reply
    → IfSome (kept_after decided reply kept).reply (HasShown publisher)
leave_kept_shown true publisher reply kept none shown = shown
leave_kept_shown false publisher reply kept none shown = subst (λ (r : Option ReplyFacts). IfSome r (HasShown publisher)) (sym none) tt

-- ---- the notes that a turn gave

note_listed : (publisher : PublisherFacts) (note : Option NoteFacts) → IfSome note (IsShown publisher) → AllByRecursion (IsShown publisher) (cons_option note [])
note_listed publisher None shown = tt
note_listed publisher (Some note) shown = (shown, tt)

kept_listed : (publisher : PublisherFacts) (reply : Option ReplyFacts) → IfSome reply (HasShown publisher)
    → AllByRecursion (IsShown publisher) (filter_map note_in (made None reply))
kept_listed publisher None shown = tt
kept_listed publisher (Some reply) shown = note_listed publisher reply.note shown

-- a reply with a note was made
makes_by : (before after : Option ReplyFacts) (note : NoteFacts) (notes : List NoteFacts) → filter_map note_in (made before after) ≡ note ∷ notes
    → (not (is_some before) && has_note after) ≡ true
makes_by (Some reply) after note notes has = cc
makes_by None None note notes has = cc
makes_by None (Some reply) note notes has = of_note reply.note has
  where
    of_note : (found : Option NoteFacts) → cons_option found [] ≡ note ∷ notes → is_some found ≡ true
    of_note None is = cc
    of_note (Some one) is = refl

-- a reply with a note was made, so it lists one
listed_by : (before after : Option ReplyFacts) (publisher : PublisherFacts) → (not (is_some before) && has_note after) ≡ true
    → AllByRecursion (IsShown publisher) (filter_map note_in (made before after)) → publisher.pending ≡ []
listed_by (Some reply) after publisher makes shown = cc
listed_by None None publisher makes shown = cc
listed_by None (Some reply) publisher makes shown = of_note reply.note makes shown
  where
    of_note : (note : Option NoteFacts) → is_some note ≡ true → AllByRecursion (IsShown publisher) (cons_option note []) → publisher.pending ≡ []
    of_note None is listed = cc
    of_note (Some note) is listed = listed.0.none

-- what was published once more is as it was, where nothing was pending
pub same_shown_again : (publisher : PublisherFacts) → publisher.pending ≡ [] → all_published publisher ≡ publisher
same_shown_again publisher none =
    ap (λ (e : List Edit). record publisher { published = publisher.published ++ e; pending = [] }) none
    ∙ ap (λ (e : List Edit). record publisher { published = e; pending = [] }) (append-nil publisher.published)
    ∙ ap (λ (e : List Edit). record publisher { pending = e }) (sym none)

module _ {D L : Type 0} where
  -- the note of the reply that is kept, if it has one, is of all that is published
  abbrev KeepsShown : OwnerFacts D L → Type 0
  KeepsShown owner = IfSome owner.kept.reply (HasShown owner.control.publisher)

  keeps_as : (mid new : OwnerFacts D L) → new ≡ mid → KeepsShown mid → KeepsShown new
  keeps_as mid new is shown = subst (λ (o : OwnerFacts D L). KeepsShown o) (sym is) shown

  keeps_none : (old new : OwnerFacts D L) → new.kept.reply ≡ old.kept.reply → old.kept.reply ≡ None → KeepsShown new
  keeps_none old new same none = subst (λ (r : Option ReplyFacts). IfSome r (HasShown new.control.publisher)) (sym (same ∙ none)) tt

  given_shown : (old : OwnerFacts D L) (command : Command) (new : OwnerFacts D L) → IsGiven old command new → KeepsShown new
  given_shown old command new (inl gives) =
      subst (λ (r : Option ReplyFacts). IfSome r (HasShown new.control.publisher)) (sym (ap (λ (o : OwnerFacts D L). o.kept.reply) gives.others))
      (commanded_shown old.control command gives.reply new.control gives.commanded)
  given_shown old command new (inr drops) = keeps_as _ new drops.others tt

  answers_shown : (old : OwnerFacts D L) (reply : ReplyFacts) (new : OwnerFacts D L) → reply.note ≡ None → Answers old reply new → KeepsShown new
  answers_shown old reply new none (inl is) = keeps_as _ new is (without old.control.publisher reply reply refl none)
  answers_shown old reply new none (inr is) = keeps_as _ new is tt

  tested_shown : (banned : Bool) (old : OwnerFacts D L) (login : Command) (new : OwnerFacts D L) → TestedBy banned old login new → KeepsShown new
  tested_shown true old login new answers = answers_shown old (ban_reply (roll_of old) login.connection) new refl answers
  tested_shown false old login new given = given_shown old login new given

  settled_shown : (login : Bool) (banned : Option SessionId) (old : OwnerFacts D L) (command : Command) (new : OwnerFacts D L) → SettledBy login banned old command new → KeepsShown new
  settled_shown true banned old command new tests =
      tested_shown (is_banned old command tests.warden.last) (with_warden tests.warden old) command new tests.tested
  settled_shown false (Some banned) old command new (inl lacks) = keeps_as _ new lacks.others tt
  settled_shown false (Some banned) old command new (inr removes) =
      keeps_as _ new removes.others (given_shown (with_warden removes.warden old) command removes.after removes.given)
  settled_shown false None old command new given = given_shown old command new given

  list_comes_shown : (warden : WardenFacts) (old : OwnerFacts D L) (reply : ReplyFacts) (book : Book) (new : OwnerFacts D L) → reply.note ≡ None → ListComesTo warden old reply book new → KeepsShown new
  list_comes_shown warden old reply book new none (inl both) = keeps_as _ new both.1 (without old.control.publisher reply reply refl none)
  list_comes_shown warden old reply book new none (inr both) = keeps_as _ new both.1 tt

  leave_shown : (old : OwnerFacts D L) (connection : ℕ) (decided : Bool) (new : OwnerFacts D L) → old.kept.reply ≡ None → LeaveIsGiven old connection decided new → KeepsShown new
  leave_shown old connection decided new none (inl gives) =
      subst (λ (r : Option ReplyFacts). IfSome r (HasShown new.control.publisher)) (sym (ap (λ (o : OwnerFacts D L). o.kept.reply) gives.others))
      (leave_kept_shown decided new.control.publisher gives.reply old.kept none
      (commanded_shown gives.emptied (leave_of connection (session_of connection old.guests.rows)) gives.reply new.control gives.commanded))
  leave_shown old connection decided new none (inr drops) = keeps_none old new (ap (λ (o : OwnerFacts D L). o.kept.reply) drops.others) none

  received_shown : (leave waits : Bool) (old : OwnerFacts D L) (command : Command) (new : OwnerFacts D L) → ReceivesBy leave waits old command new → old.kept.reply ≡ None → KeepsShown new
  received_shown true waits old command new received none = leave_shown old command.connection received.0 new none received.1
  received_shown false true old command new received none = keeps_none old new (ap (λ (o : OwnerFacts D L). o.kept.reply) received) none
  received_shown false false old command new received none = settled_shown (is_login command) (banned_in command) old command new received

  owned_shown : (own : Option Command) (old new : OwnerFacts D L) → Receives old own new → old.kept.reply ≡ None → KeepsShown new
  owned_shown None old new same none = keeps_none old new (ap (λ (o : OwnerFacts D L). o.kept.reply) same) none
  owned_shown (Some command) old new received none =
      received_shown (is_leave command.what) (is_login command && must_wait old) old command new received none

  login_shown : (own : Option Command) (old new : OwnerFacts D L) → MatchOption own (new ≡ old) (λ command. IsGivenOrRefused old command new) → old.kept.reply ≡ None → KeepsShown new
  login_shown None old new same none = keeps_none old new (ap (λ (o : OwnerFacts D L). o.kept.reply) same) none
  login_shown (Some command) old new given none = settled_shown (is_login command) (banned_in command) old command new given

  item_shown : (old : OwnerFacts D L) (item : Option DeskItem) (new : OwnerFacts D L) → ReceivesItem old item new → old.kept.reply ≡ None → KeepsShown new
  item_shown old None new received none = keeps_none old new (ap (λ (o : OwnerFacts D L). o.kept.reply) received) none
  item_shown old (Some (items.Closed connection)) new received none = keeps_none old new (ap (λ (o : OwnerFacts D L). o.kept.reply) received) none
  item_shown old (Some (items.Command command)) new received none = owned_shown (owned old.guests.rows command) old new received none
  item_shown old (Some (items.Bans connection session payload)) new settles none =
      list_comes_shown settles.warden old (list_reply (roll_of old) connection (sent session (verdict_in old.warden.book settles.allowed payload)))
      (book_after old.warden.book settles.allowed payload settles.warden.last) new refl settles.comes_to

  -- the note in the reply that was made, if one was, is of all that is published then
  abbrev pub MadeShown : OwnerFacts D L → OwnerFacts D L → Type 0
  MadeShown old new = AllByRecursion (IsShown new.control.publisher) (filter_map note_in (made old.kept.reply new.kept.reply))

  made_shown : (old new : OwnerFacts D L) → old.kept.reply ≡ None → KeepsShown new → MadeShown old new
  made_shown old new none shown =
      subst (λ (r : Option ReplyFacts). AllByRecursion (IsShown new.control.publisher) (filter_map note_in (made r new.kept.reply))) (sym none)
      (kept_listed new.control.publisher new.kept.reply shown)

  same_shown : (old new : OwnerFacts D L) → new ≡ old → MadeShown old new
  same_shown old new same = by old.kept.reply new.kept.reply (ap (λ (o : OwnerFacts D L). o.kept.reply) same)
    where
      by : (before after : Option ReplyFacts) → after ≡ before → AllByRecursion (IsShown new.control.publisher) (filter_map note_in (made before after))
      by None after is = subst (λ (r : Option ReplyFacts). AllByRecursion (IsShown new.control.publisher) (filter_map note_in (made None r))) (sym is) tt
      by (Some reply) after is = tt

  serves_shown : (next : Next) (old : OwnerFacts D L) (worked : Bool) (new : OwnerFacts D L) → Serves next old worked new → AnswersNow next old.kept.reply → MadeShown old new
  serves_shown Rest old worked new rests now = same_shown old new rests.1
  serves_shown (Again connection) old worked new leave none = made_shown old new none (leave_shown old connection worked new none leave)
  serves_shown Goes old worked new gives none =
      made_shown old new none (login_shown (owned old.guests.rows gives.login) (record old { logins = gives.rest }) new gives.given none)
  serves_shown Take old worked new takes none = made_shown old new none (item_shown (with_pass takes.pass old) takes.item new takes.received none)

  pub desk_shown : (old : OwnerFacts D L) (worked : Bool) (new : OwnerFacts D L) → ServesDesk old worked new → MadeShown old new
  desk_shown old worked new serves =
      serves_shown (next old) old worked new serves
      (answers_now old.kept.reply old.desk.leave (nat_lt PENDING_LIMIT (length old.control.pending)) (may_go old) (nat_lt (length old.logins) CONNECTION_LIMIT))

  -- ---- the parts after the desk

  pub lag_control : (lag : Option Lag) (owner : OwnerFacts D L) → (with_lag lag owner).control ≡ owner.control
  lag_control None owner = refl
  lag_control (Some lag) owner = refl

  -- publishing changes nothing of the note of all that was appended
  note_stays : (old : OwnerFacts D L) (worked : Bool) (new : OwnerFacts D L) → Publishes old worked new → note_of new.control.publisher ≡ note_of old.control.publisher
  note_stays old true new publishes =
      ap (λ (o : OwnerFacts D L). note_of o.control.publisher) publishes.1
      ∙ ap (λ (e : List Edit). record { book = old.control.publisher.opening.book; edits = e }) (append-nil (appended old.control.publisher))
  note_stays old false new same = ap (λ (o : OwnerFacts D L). note_of o.control.publisher) same

  publish_archive : (old : OwnerFacts D L) (worked : Bool) (new : OwnerFacts D L) → Publishes old worked new → new.archive ≡ old.archive
  publish_archive old true new publishes = ap (λ (o : OwnerFacts D L). o.archive) publishes.1
  publish_archive old false new same = ap (λ (o : OwnerFacts D L). o.archive) same

  -- what the store has, and whether memory ran out, stay
  pub record StoreStays (old new : OwnerFacts D L) : Type 0 where
    pub archive : new.archive ≡ old.archive
    pub scribe : new.scribe ≡ old.scribe

  store_as : (old new : OwnerFacts D L) → new ≡ old → StoreStays old new
  store_as old new is = record { archive = ap (λ (o : OwnerFacts D L). o.archive) is; scribe = ap (λ (o : OwnerFacts D L). o.scribe) is }

  lag_store : (lag : Option Lag) (owner : OwnerFacts D L) → StoreStays owner (with_lag lag owner)
  lag_store None owner = store_as owner owner refl
  lag_store (Some lag) owner = record { archive = refl; scribe = refl }

  posted_store : (b : Bool) (old : OwnerFacts D L) (worked : Bool) (new : OwnerFacts D L) → MatchBool b (Rests old worked new) (PostsOne old worked new) → StoreStays old new
  posted_store true old worked new rests = store_as old new rests.1
  posted_store false old worked new posts =
      let stays = lag_store (lag_at posts.answer old.guests.rows) (record old { control = posts.after }) in
      record {
        archive = ap (λ (o : OwnerFacts D L). o.archive) posts.others ∙ stays.archive;
        scribe = ap (λ (o : OwnerFacts D L). o.scribe) posts.others ∙ stays.scribe;
      }

  ended_store : (b : Bool) (owner : OwnerFacts D L) → StoreStays owner (cond b (record owner { is_ending = true }) owner)
  ended_store true owner = record { archive = refl; scribe = refl }
  ended_store false owner = store_as owner owner refl

  -- ---- the further one

  -- the note that is offered is this one, or memory ran out
  further_of : (side : ArchiveFacts) (note : NoteFacts) (old : OwnerFacts D L) (took : Bool) (mid new : OwnerFacts D L) → old.archive ≡ Some side
      → note ≡ note_of old.control.publisher → StoreStays mid new → OffersFurther old took mid ⊎ LacksNote old took mid → HasFurther note side new
  further_of side note old took mid new there is stays (inl offers) =
      let given : OffersNote note (Some side) took mid.archive =
      subst (λ (n : NoteFacts). OffersNote n (Some side) took mid.archive) (sym is)
      (subst (λ (a : Option ArchiveFacts). OffersNote (note_of old.control.publisher) a took mid.archive) there offers.offers) in
      inl (took, given.0, given.2, stays.archive ∙ given.1)
  further_of side note old took mid new there is stays (inr lacks) =
      inr (
        ap (λ (s : ScribeFacts). s.no_memory) stays.scribe ∙ ap (λ (o : OwnerFacts D L). o.scribe.no_memory) lacks.1,
        stays.archive ∙ ap (λ (o : OwnerFacts D L). o.archive) lacks.1 ∙ there,
      )

  -- ---- all is published where a note was given

  -- publishing leaves nothing to be published where nothing was
  publish_none : (old : OwnerFacts D L) (worked : Bool) (new : OwnerFacts D L) → Publishes old worked new → old.control.publisher.pending ≡ [] → new.control.publisher.pending ≡ []
  publish_none old true new publishes none = ap (λ (o : OwnerFacts D L). o.control.publisher.pending) publishes.1
  publish_none old false new same none = ap (λ (o : OwnerFacts D L). o.control.publisher.pending) same ∙ none

  published_all : (published : Bool) (old new : OwnerFacts D L) → published ≡ true → Publishes old published new → new.control.publisher.pending ≡ []
  published_all true old new is publishes = ap (λ (o : OwnerFacts D L). o.control.publisher.pending) publishes.1
  published_all false old new is publishes = cc

  pressed_control : (old : OwnerFacts D L) (worked : Bool) (new : OwnerFacts D L) → Presses old worked new → new.control ≡ old.control
  pressed_control old worked new presses = ap (λ (o : OwnerFacts D L). o.control) presses.1 ∙ lag_control (pressing old) old

  all_shown : (makes published : Bool) (offers : OwnerFacts D L) (served : Bool) (desk : OwnerFacts D L) (pressed : Bool) (press publish : OwnerFacts D L)
      → makes_note offers desk ≡ makes → (makes || published) ≡ true → ServesDesk offers served desk → Presses desk pressed press → Publishes press published publish
      → publish.control.publisher.pending ≡ []
  all_shown true published offers served desk pressed press publish makes noted serves presses publishes =
      publish_none press published publish publishes
      (ap (λ (c : ControlFacts). c.publisher.pending) (pressed_control desk pressed press presses)
      ∙ listed_by offers.kept.reply desk.kept.reply desk.control.publisher makes (desk_shown offers served desk serves))
  all_shown false published offers served desk pressed press publish makes noted serves presses publishes = published_all published press publish noted publishes

  -- where a turn gave a note, all is published
  pub noted_shown : (offers : OwnerFacts D L) (served : Bool) (desk : OwnerFacts D L) (pressed : Bool) (press : OwnerFacts D L) (published : Bool) (publish : OwnerFacts D L)
      → (makes_note offers desk || published) ≡ true → ServesDesk offers served desk → Presses desk pressed press → Publishes press published publish
      → publish.control.publisher.pending ≡ []
  noted_shown offers served desk pressed press published publish noted serves presses publishes =
      all_shown (makes_note offers desk) published offers served desk pressed press publish refl noted serves presses publishes

module _ {D L : Type 0} (door_facts : D → DoorFacts) (link_facts : L → LinkFacts) where
  asked_store : (b : Bool) (old : OwnerFacts D L) (worked : Bool) (new : OwnerFacts D L) → Asks door_facts link_facts b old worked new → StoreStays old new
  asked_store true old worked new rests = store_as old new rests.1
  asked_store false old worked new asks = record { archive = ap (λ (o : OwnerFacts D L). o.archive) asks.others; scribe = ap (λ (o : OwnerFacts D L). o.scribe) asks.others }

  -- after the part that is for the store
  pub behind_store : (old : OwnerFacts D L) (turn : Turn) (new : OwnerFacts D L) (t : OwnerTurned door_facts link_facts old turn new) → StoreStays t.after_archive new
  behind_store old turn new t =
      let post = posted_store (is_some t.after_archive.kept.lag) t.after_archive t.posted t.after_post t.posts in
      let ask = asked_store (is_not_to_ask t.after_post) t.after_post t.came t.after_door t.asks in
      let end = ended_store (is_over t.after_door && is_none t.after_door.kept.coming) t.after_door in
      record {
        archive = ap (λ (o : OwnerFacts D L). o.archive) t.ends ∙ end.archive ∙ ask.archive ∙ post.archive;
        scribe = ap (λ (o : OwnerFacts D L). o.scribe) t.ends ∙ end.scribe ∙ ask.scribe ∙ post.scribe;
      }

  -- before it
  pub before_store : (old : OwnerFacts D L) (turn : Turn) (new : OwnerFacts D L) (t : OwnerTurned door_facts link_facts old turn new) → t.after_publish.archive ≡ old.archive
  before_store old turn new t =
      publish_archive t.after_press t.published t.after_publish t.publishes
      ∙ (press_stays t.after_desk t.pressed t.after_press t.presses).archive
      ∙ (desk_stays t.after_offers t.served t.after_desk t.serves).archive
      ∙ ap (λ (o : OwnerFacts D L). o.archive) t.offers.others

  module _ (old : OwnerFacts D L) (turn : Turn) (new : OwnerFacts D L) (t : OwnerTurned door_facts link_facts old turn new) (side : ArchiveFacts) (there : old.archive ≡ Some side) where
    -- a note of all that is published has a further one, where the turn gave a note
    further : (note : NoteFacts) → (makes_note t.after_offers t.after_desk || t.published) ≡ true → note ≡ note_of t.after_publish.control.publisher → HasFurther note side new
    further note noted is =
        let kept : t.after_publish.archive ≡ Some side = before_store old turn new t ∙ there in
        let archives : ArchivesBy true true (is_through t.after_publish) t.after_publish t.archived t.after_archive =
        subst (λ (a : Option ArchiveFacts). ArchivesBy (is_some a) true (is_through t.after_publish) t.after_publish t.archived t.after_archive) kept
        (subst (λ (b : Bool). Archives b t.after_publish t.archived t.after_archive) noted t.archives) in
        further_of side note t.after_publish t.archived t.after_archive new kept is (behind_store old turn new t) archives

    -- the note of all that is published is the same after the desk and after the publish
    same_note : note_of t.after_publish.control.publisher ≡ note_of t.after_desk.control.publisher
    same_note =
        note_stays t.after_press t.published t.after_publish t.publishes
        ∙ ap (λ (c : ControlFacts). note_of c.publisher) (pressed_control t.after_desk t.pressed t.after_press t.presses)

    abbrev AreFurther : List NoteFacts → Type 0
    AreFurther notes = AllByRecursion (λ note. HasFurther note side new) notes

    each_shown : (notes : List NoteFacts) → (makes_note t.after_offers t.after_desk || t.published) ≡ true → AllByRecursion (IsShown t.after_desk.control.publisher) notes → AreFurther notes
    each_shown [] noted shown = tt
    each_shown (note ∷ notes) noted shown = (further note noted (shown.0.note_is ∙ sym same_note), each_shown notes noted shown.1)

    replied_further : (notes : List NoteFacts) → filter_map note_in (made t.after_offers.kept.reply t.after_desk.kept.reply) ≡ notes
        → AllByRecursion (IsShown t.after_desk.control.publisher) notes → AreFurther notes
    replied_further [] is shown = tt
    replied_further (note ∷ notes) is shown =
        each_shown (note ∷ notes)
        (ap (λ (b : Bool). b || t.published) (makes_by t.after_offers.kept.reply t.after_desk.kept.reply note notes is)) shown

    published_further : (published : Bool) → t.published ≡ published → AreFurther (published_note published t.after_press.control.publisher)
    published_further false is = tt
    published_further true is =
        let noted : (makes_note t.after_offers t.after_desk || t.published) ≡ true =
        ap (λ (b : Bool). makes_note t.after_offers t.after_desk || b) is ∙ or-true (makes_note t.after_offers t.after_desk) in
        (further (note_of t.after_press.control.publisher) noted (sym (note_stays t.after_press t.published t.after_publish t.publishes)), tt)

    both : (one other : List NoteFacts) → AreFurther one → AreFurther other → AreFurther (one ++ other)
    both [] other first second = second
    both (note ∷ one) other first second = (first.0, both one other first.1 second)

    pub each_further : AllByRecursion (λ note. HasFurther note side new) (notes_given door_facts link_facts old turn new t)
    each_further =
        both (filter_map note_in (made t.after_offers.kept.reply t.after_desk.kept.reply)) (published_note t.published t.after_press.control.publisher)
        (replied_further _ refl (desk_shown t.after_offers t.served t.after_desk t.serves)) (published_further t.published refl)
