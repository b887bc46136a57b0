-- Connections and replies on their way to the bells, over each part of a turn and over turns.
use Rattle.mum_owner.proofs.Common.{◌≡◌, ◌∙◌, ℕ, zero, suc, ◌+◌, ◌<◌, Bool, true, false, cond, List, [], ◌∷◌, ◌++◌, length, map, Option, Some, None, refl, ap, sym, subst, add-one, append_assoc, ◌&&◌, ◌||◌, filter, is_none, is_some, not, option_to_list, filter_map, append-nil, map-append, filter-append, QueueId, ControlFacts, ReplyFacts, TurnsTo, Turn, next_count, DoorFacts, given_after, LinkFacts, Accept, Rung, Comes, Lagging, SideFacts, new_side, given_after_all, DoorwayFacts, GuestsFacts, KeptFacts, OwnerFacts, has_room, answered, came_by, came_where, connections_given, handed, is_of_worker, made, numbers, puts_at, replies_made, IsOpened, ServesDesk, Asks, Offered, OwnerTurned, guests_by, is_not_to_ask, is_over, kept_by, Coming, Lag}
use Rattle.mum_published.specs.Bell.Rung.{Answer}
use Rattle.mum_owner.proofs.{Putting.many_offered, Putting.many_told, Putting.none_told, Putting.other_offered, Putting.own_offered, Steps.DeskStays, Steps.LagStays, Steps.PublishStays, Steps.desk_stays, Steps.post_stays, Steps.press_stays, Steps.reply_stays, Steps.shown_stays}
use Rattle.mum_io.specs.declared.door.Accept.TheVariants as accepted

abbrev pub number_of : {L : Type 0} → Coming L → ℕ
number_of coming = coming.connection

abbrev pub comes : {L : Type 0} → Coming L → Rung L
comes coming = Comes coming.connection coming.link

abbrev pub is_for : {L : Type 0} → ℕ → ℕ → Coming L → Bool
is_for place workers coming = is_of_worker place workers coming.connection

-- the connections of a worker that its bell took, and the one that is kept for it
abbrev pub connections_to : {L : Type 0} → ℕ → ℕ → List (SideFacts L) → Option (Coming L) → List (Coming L)
connections_to place workers bells coming = filter_map handed (puts_at place bells) ++ filter (is_for place workers) (option_to_list coming)

abbrev pub reply_number : ReplyFacts → ℕ
reply_number reply = reply.connection

abbrev pub lag_number : Lag → ℕ
lag_number lag = lag.connection

abbrev pub lagging_item : {L : Type 0} → Lag → Rung L
lagging_item lag = Lagging lag.session

abbrev pub is_to : ℕ → ℕ → ReplyFacts → Bool
is_to place workers reply = is_of_worker place workers reply.connection

-- the replies to a worker that its bell took, and the one that is kept for it
abbrev pub replies_to : {L : Type 0} → ℕ → ℕ → List (SideFacts L) → Option ReplyFacts → List ReplyFacts
replies_to place workers bells reply = filter_map answered (puts_at place bells) ++ filter (is_to place workers) (option_to_list reply)

-- ---- numbers

numbers_more : (given : ℕ) → numbers (given + 1) ≡ numbers given ++ (given + 1) ∷ []
numbers_more given = rw add-one refl

given_more : (before given : ℕ) → given_after_all before (given + 1) ≡ next_count (given_after_all before given)
given_more before given = rw add-one refl

pub given_by : {L : Type 0} (link_facts : L → LinkFacts) (answer : Accept L) (before old new : ℕ) (guests : GuestsFacts) → old ≡ given_after_all before guests.given → new ≡ given_after answer old
    → new ≡ given_after_all before (guests_by link_facts answer guests).given
given_by link_facts (accepted.Conn link) before old new guests was is = is ∙ ap next_count was ∙ sym (given_more before guests.given)
given_by link_facts accepted.NotYet before old new guests was is = is ∙ was
given_by link_facts accepted.End before old new guests was is = is ∙ was
given_by link_facts accepted.Failed before old new guests was is = is ∙ was

-- ---- the door

none_coming : {L : Type 0} (coming : Option (Coming L)) (other : Bool) → (is_some coming || other) ≡ false → coming ≡ None
none_coming None other so = refl
none_coming (Some connection) other so = cc

module _ {L : Type 0} where
  -- a connection that the door gave is the next one, and is kept
  answered_so : (answer : Accept L) (place workers : ℕ) (bells : List (SideFacts L)) (connection : ℕ) (kept : KeptFacts L) (given : List (Coming L)) → kept.coming ≡ None
      → connections_to place workers bells kept.coming ≡ filter (is_for place workers) given
      → connections_to place workers bells (kept_by answer connection kept).coming ≡ filter (is_for place workers) (given ++ came_by answer connection)
  answered_so (accepted.Conn link) place workers bells connection kept given none so =
      let so_far : filter_map handed (puts_at place bells) ≡ filter (is_for place workers) given =
      sym (append-nil (filter_map handed (puts_at place bells))) ∙ ap (λ (o : Option (Coming L)). connections_to place workers bells o) (sym none) ∙ so in
      let came : List (Coming L) = record { connection = connection; link = link } ∷ [] in
      ap (λ (l : List (Coming L)). l ++ filter (is_for place workers) came) so_far ∙ sym (filter-append (is_for place workers) given came)
  answered_so accepted.NotYet place workers bells connection kept given none so = so ∙ ap (λ (l : List (Coming L)). filter (is_for place workers) l) (sym (append-nil given))
  answered_so accepted.End place workers bells connection kept given none so = so ∙ ap (λ (l : List (Coming L)). filter (is_for place workers) l) (sym (append-nil given))
  answered_so accepted.Failed place workers bells connection kept given none so = so ∙ ap (λ (l : List (Coming L)). filter (is_for place workers) l) (sym (append-nil given))

  -- it is numbered after those that were given
  numbered_so : (link_facts : L → LinkFacts) (answer : Accept L) (guests : GuestsFacts) (given : List (Coming L)) → map number_of given ≡ numbers guests.given
      → map number_of (given ++ came_by answer (guests.given + 1)) ≡ numbers (guests_by link_facts answer guests).given
  numbered_so link_facts (accepted.Conn link) guests given so =
      map-append number_of given (record { connection = guests.given + 1; link = link } ∷ [])
      ∙ ap (λ (l : List ℕ). l ++ (guests.given + 1) ∷ []) so ∙ sym (numbers_more guests.given)
  numbered_so link_facts accepted.NotYet guests given so = ap (λ (l : List (Coming L)). map number_of l) (append-nil given) ∙ so
  numbered_so link_facts accepted.End guests given so = ap (λ (l : List (Coming L)). map number_of l) (append-nil given) ∙ so
  numbered_so link_facts accepted.Failed guests given so = ap (λ (l : List (Coming L)). map number_of l) (append-nil given) ∙ so

reply_same : {L : Type 0} (answer : Accept L) (connection : ℕ) (kept : KeptFacts L) → (kept_by answer connection kept).reply ≡ kept.reply
reply_same (accepted.Conn link) connection kept = refl
reply_same accepted.NotYet connection kept = refl
reply_same accepted.End connection kept = refl
reply_same accepted.Failed connection kept = refl

-- ---- new bells

module _ {L : Type 0} where
  abbrev pub new_bells : List QueueId → List (SideFacts L)
  new_bells queues = map new_side queues

  new_side_at : (place : ℕ) (queues : List QueueId) → puts_at place (new_bells queues) ≡ []
  new_side_at place [] = refl
  new_side_at zero (queue ∷ queues) = refl
  new_side_at (suc place) (queue ∷ queues) = new_side_at place queues

  many_new : (bells : List (SideFacts L)) (queues : List QueueId) → bells ≡ new_bells queues → length bells ≡ length queues
  many_new bells [] is = ap (λ (l : List (SideFacts L)). length l) is
  many_new bells (queue ∷ queues) is = ap (λ (l : List (SideFacts L)). length l) is ∙ ap suc (many_new (new_bells queues) queues refl)

  -- ---- a reply is made

  reply_made : (place workers : ℕ) (bells : List (SideFacts L)) (before after : Option ReplyFacts) → ((reply : ReplyFacts) → before ≡ Some reply → after ≡ Some reply)
      → replies_to place workers bells after ≡ replies_to place workers bells before ++ filter (is_to place workers) (made before after)
  reply_made place workers bells None after stays =
      ap (λ (l : List ReplyFacts). l ++ filter (is_to place workers) (option_to_list after)) (sym (append-nil (filter_map answered (puts_at place bells))))
  reply_made place workers bells (Some reply) after stays =
      ap (λ (o : Option ReplyFacts). replies_to place workers bells o) (stays reply refl) ∙ sym (append-nil (replies_to place workers bells (Some reply)))

module _ {D L : Type 0} where
  -- n workers, the connections that were given, and these replies
  pub record Hands (place workers : ℕ) (owner : OwnerFacts D L) (given : List (Coming L)) (replies : List ReplyFacts) : Type 0 where
    pub many : length owner.bells ≡ workers
    pub connections : connections_to place workers owner.bells owner.kept.coming ≡ filter (is_for place workers) given
    pub answers : replies_to place workers owner.bells owner.kept.reply ≡ filter (is_to place workers) replies

  by_parts : (place workers : ℕ) (old new : OwnerFacts D L) (given : List (Coming L)) (replies : List ReplyFacts) → new.bells ≡ old.bells → new.kept.coming ≡ old.kept.coming → new.kept.reply ≡ old.kept.reply
      → Hands place workers old given replies → Hands place workers new given replies
  by_parts place workers old new given replies bells coming reply hands = record {
    many = ap (λ (l : List (SideFacts L)). length l) bells ∙ hands.many;
    connections =
        ap (λ (l : List (SideFacts L)). connections_to place workers l new.kept.coming) bells
        ∙ ap (λ (o : Option (Coming L)). connections_to place workers old.bells o) coming ∙ hands.connections;
    answers =
        ap (λ (l : List (SideFacts L)). replies_to place workers l new.kept.reply) bells ∙ ap (λ (o : Option ReplyFacts). replies_to place workers old.bells o) reply
        ∙ hands.answers;
  }

  -- what is kept was offered
  offered_hands : (place workers : ℕ) (old : OwnerFacts D L) (worked : Bool) (new : OwnerFacts D L) (given : List (Coming L)) (replies : List ReplyFacts) → 0 < workers → Offered old worked new
      → Hands place workers old given replies → Hands place workers new given replies
  offered_hands place workers old worked new given replies some offered hands =
      let o = offered.offers in
      let many_reply : length o.after_reply ≡ workers = many_offered reply_number Answer old.bells old.kept.reply o.reply o.after_reply new.kept.reply o.offers_reply ∙ hands.many in
      let many_lag : length o.after_lag ≡ workers = many_offered lag_number lagging_item o.after_reply old.kept.lag o.lag o.after_lag new.kept.lag o.offers_lag ∙ many_reply in
      let many_coming : length o.after_coming ≡ workers = many_offered number_of comes o.after_lag old.kept.coming o.coming o.after_coming new.kept.coming o.offers_coming ∙ many_lag in
      let coming =
      subst (λ (n : ℕ). connections_to place n o.after_coming new.kept.coming ≡ connections_to place n o.after_lag old.kept.coming) many_lag
      (own_offered number_of comes handed (λ x. refl) refl place o.after_lag old.kept.coming o.coming o.after_coming new.kept.coming
      (subst (λ (n : ℕ). 0 < n) (sym many_lag) some) o.offers_coming) in
      let reply =
      subst (λ (n : ℕ). replies_to place n o.after_reply new.kept.reply ≡ replies_to place n old.bells old.kept.reply) hands.many
      (own_offered reply_number Answer answered (λ x. refl) refl place old.bells old.kept.reply o.reply o.after_reply new.kept.reply
      (subst (λ (n : ℕ). 0 < n) (sym hands.many) some) o.offers_reply) in
      let reply_past_lag = other_offered reply_number Answer answered (λ x. refl) refl lag_number lagging_item (λ y. refl)
      place o.after_reply old.kept.lag o.lag o.after_lag new.kept.lag o.offers_lag in
      let reply_past_coming = other_offered reply_number Answer answered (λ x. refl) refl number_of comes (λ y. refl)
      place o.after_lag old.kept.coming o.coming o.after_coming new.kept.coming o.offers_coming in
      let reply_past_end = none_told reply_number Answer answered (λ x. refl) refl old.is_ending place o.after_coming o.told new.bells o.tells in
      let coming_past_reply = other_offered number_of comes handed (λ x. refl) refl reply_number Answer (λ y. refl)
      place old.bells old.kept.reply o.reply o.after_reply new.kept.reply o.offers_reply in
      let coming_past_lag = other_offered number_of comes handed (λ x. refl) refl lag_number lagging_item (λ y. refl)
      place o.after_reply old.kept.lag o.lag o.after_lag new.kept.lag o.offers_lag in
      let coming_past_end = none_told number_of comes handed (λ x. refl) refl old.is_ending place o.after_coming o.told new.bells o.tells in
      record {
        many = many_told old.is_ending o.after_coming o.told new.bells o.tells ∙ many_coming;
        connections =
            ap (λ (l : List (Coming L)). l ++ filter (is_for place workers) (option_to_list new.kept.coming)) coming_past_end ∙ coming
            ∙ ap (λ (l : List (Coming L)). l ++ filter (is_for place workers) (option_to_list old.kept.coming)) (coming_past_lag ∙ coming_past_reply)
            ∙ hands.connections;
        answers =
            ap (λ (l : List ReplyFacts). l ++ filter (is_to place workers) (option_to_list new.kept.reply)) (reply_past_end ∙ reply_past_coming ∙ reply_past_lag) ∙ reply
            ∙ hands.answers;
      }

  -- the desk was served
  served_hands : (place workers : ℕ) (old : OwnerFacts D L) (worked : Bool) (new : OwnerFacts D L) (given : List (Coming L)) (replies : List ReplyFacts) → ServesDesk old worked new
      → Hands place workers old given replies → Hands place workers new given (replies ++ made old.kept.reply new.kept.reply)
  served_hands place workers old worked new given replies serves hands =
      let stays : DeskStays old new = desk_stays old worked new serves in
      record {
        many = ap (λ (l : List (SideFacts L)). length l) stays.bells ∙ hands.many;
        connections =
            ap (λ (l : List (SideFacts L)). connections_to place workers l new.kept.coming) stays.bells
            ∙ ap (λ (o : Option (Coming L)). connections_to place workers old.bells o) stays.coming ∙ hands.connections;
        answers =
            ap (λ (l : List (SideFacts L)). replies_to place workers l new.kept.reply) stays.bells
            ∙ reply_made place workers old.bells old.kept.reply new.kept.reply (λ reply keeps. reply_stays old worked new reply serves keeps)
            ∙ ap (λ (l : List ReplyFacts). l ++ filter (is_to place workers) (made old.kept.reply new.kept.reply)) hands.answers
            ∙ sym (filter-append (is_to place workers) replies (made old.kept.reply new.kept.reply));
      }

  lagged_hands : (place workers : ℕ) (old new : OwnerFacts D L) (given : List (Coming L)) (replies : List ReplyFacts) → LagStays old new
      → Hands place workers old given replies → Hands place workers new given replies
  lagged_hands place workers old new given replies stays hands = by_parts place workers old new given replies stays.bells stays.coming stays.reply hands

  published_hands : (place workers : ℕ) (old new : OwnerFacts D L) (given : List (Coming L)) (replies : List ReplyFacts) → PublishStays old new → Hands place workers old given replies
      → Hands place workers new given replies
  published_hands place workers old new given replies stays hands =
      by_parts place workers old new given replies stays.bells (ap (λ (k : KeptFacts L). k.coming) stays.kept) (ap (λ (k : KeptFacts L). k.reply) stays.kept) hands

  ended_hands : (b : Bool) (place workers : ℕ) (owner : OwnerFacts D L) (given : List (Coming L)) (replies : List ReplyFacts) → Hands place workers owner given replies
      → Hands place workers (cond b (record owner { is_ending = true }) owner) given replies
  ended_hands true place workers owner given replies hands = record { many = hands.many; connections = hands.connections; answers = hands.answers }
  ended_hands false place workers owner given replies hands = hands

  ended_door : (b : Bool) (owner : OwnerFacts D L) → (cond b (record owner { is_ending = true }) owner).doorway ≡ owner.doorway
  ended_door true owner = refl
  ended_door false owner = refl

  ended_guests : (b : Bool) (owner : OwnerFacts D L) → (cond b (record owner { is_ending = true }) owner).guests ≡ owner.guests
  ended_guests true owner = refl
  ended_guests false owner = refl

module _ {D L : Type 0} (door_facts : D → DoorFacts) (link_facts : L → LinkFacts) where
  asked_hands : (b : Bool) (place workers : ℕ) (old : OwnerFacts D L) (worked : Bool) (new : OwnerFacts D L) (given : List (Coming L)) (replies : List ReplyFacts) → (b ≡ false → old.kept.coming ≡ None)
      → (asks : Asks door_facts link_facts b old worked new) → Hands place workers old given replies → Hands place workers new (given ++ came_where door_facts link_facts b old worked new asks) replies
  asked_hands true place workers old worked new given replies none rests hands =
      subst (λ (l : List (Coming L)). Hands place workers new l replies) (sym (append-nil given)) (subst (λ (o : OwnerFacts D L). Hands place workers o given replies) (sym rests.1) hands)
  asked_hands false place workers old worked new given replies none asks hands =
      let kept : new.kept ≡ kept_by asks.answer (old.guests.given + 1) old.kept = ap (λ (o : OwnerFacts D L). o.kept) asks.others in
      let bells : new.bells ≡ old.bells = ap (λ (o : OwnerFacts D L). o.bells) asks.others in
      record {
        many = ap (λ (l : List (SideFacts L)). length l) bells ∙ hands.many;
        connections =
            ap (λ (l : List (SideFacts L)). connections_to place workers l new.kept.coming) bells
            ∙ ap (λ (k : KeptFacts L). connections_to place workers old.bells k.coming) kept
            ∙ answered_so asks.answer place workers old.bells (old.guests.given + 1) old.kept given (none refl) hands.connections;
        answers =
            ap (λ (l : List (SideFacts L)). replies_to place workers l new.kept.reply) bells
            ∙ ap (λ (k : KeptFacts L). replies_to place workers old.bells k.reply) kept
            ∙ ap (λ (o : Option ReplyFacts). replies_to place workers old.bells o) (reply_same asks.answer (old.guests.given + 1) old.kept)
            ∙ hands.answers;
      }

  -- the connections that came with a turn
  abbrev pub came : (old : OwnerFacts D L) (turn : Turn) (new : OwnerFacts D L) → OwnerTurned door_facts link_facts old turn new → List (Coming L)
  came old turn new t = came_where door_facts link_facts (is_not_to_ask t.after_post) t.after_post t.came t.after_door t.asks

  turned_hands : (place workers : ℕ) (old : OwnerFacts D L) (turn : Turn) (new : OwnerFacts D L) (t : OwnerTurned door_facts link_facts old turn new) (given : List (Coming L)) (replies : List ReplyFacts)
      → 0 < workers → Hands place workers old given replies
      → Hands place workers new (given ++ came old turn new t) (replies ++ made t.after_offers.kept.reply t.after_desk.kept.reply)
  turned_hands place workers old turn new t given replies some hands =
      let more = replies ++ made t.after_offers.kept.reply t.after_desk.kept.reply in
      let one = offered_hands place workers old t.offered t.after_offers given replies some t.offers hands in
      let two = served_hands place workers t.after_offers t.served t.after_desk given replies t.serves one in
      let three = lagged_hands place workers t.after_desk t.after_press given more (press_stays t.after_desk t.pressed t.after_press t.presses) two in
      let four = published_hands place workers t.after_press t.after_archive given more (shown_stays t.after_press t.published t.after_publish _ t.archived t.after_archive t.publishes t.archives) three in
      let five = lagged_hands place workers t.after_archive t.after_post given more (post_stays t.after_archive t.posted t.after_post t.posts) four in
      let six = asked_hands (is_not_to_ask t.after_post) place workers t.after_post t.came t.after_door given more
      (none_coming t.after_post.kept.coming (is_over t.after_post || not (has_room t.after_post.guests))) t.asks five in
      subst (λ (o : OwnerFacts D L). Hands place workers o (given ++ came old turn new t) more) (sym t.ends)
      (ended_hands (is_over t.after_door && is_none t.after_door.kept.coming) place workers t.after_door (given ++ came old turn new t) more six)

  all_hands : (place workers : ℕ) (old : OwnerFacts D L) (turns : List Turn) (new : OwnerFacts D L) (all : TurnsTo (OwnerTurned door_facts link_facts) old turns new) (given : List (Coming L)) (replies : List ReplyFacts)
      → 0 < workers → Hands place workers old given replies
      → Hands place workers new (given ++ connections_given door_facts link_facts old turns new all) (replies ++ replies_made door_facts link_facts old turns new all)
  all_hands place workers old [] new all given replies some hands =
      subst (λ (l : List (Coming L)). Hands place workers new l (replies ++ [])) (sym (append-nil given))
      (subst (λ (l : List ReplyFacts). Hands place workers new given l) (sym (append-nil replies)) (subst (λ (o : OwnerFacts D L). Hands place workers o given replies) (sym all) hands))
  all_hands place workers old (turn ∷ turns) new all given replies some hands =
      let t = all.1 in
      let more = made t.after_offers.kept.reply t.after_desk.kept.reply in
      let later = connections_given door_facts link_facts all.0 turns new all.2 in
      subst (λ (l : List ReplyFacts). Hands place workers new (given ++ connections_given door_facts link_facts old (turn ∷ turns) new all) l) (append_assoc replies more (replies_made door_facts link_facts all.0 turns new all.2))
      (subst (λ (l : List (Coming L)). Hands place workers new l ((replies ++ more) ++ replies_made door_facts link_facts all.0 turns new all.2)) (append_assoc given (came old turn all.0 t) later)
      (all_hands place workers all.0 turns new all.2 (given ++ came old turn all.0 t) (replies ++ more) some (turned_hands place workers old turn all.0 t given replies some hands)))

  new_hands : (control : ControlFacts) (door : D) (connections place : ℕ) (journal : Bool) (queues : List QueueId) (store : Option QueueId) (opened : OwnerFacts D L) → IsOpened control door connections journal queues store opened
      → Hands place (length queues) opened [] []
  new_hands control door connections place journal queues store opened new =
      let fresh : List (SideFacts L) = new_bells queues in
      let bells : opened.bells ≡ fresh = ap (λ (o : OwnerFacts D L). o.bells) new in
      record {
        many = many_new opened.bells queues bells;
        connections =
            ap (λ (l : List (SideFacts L)). connections_to place (length queues) l opened.kept.coming) bells
            ∙ ap (λ (o : OwnerFacts D L). connections_to place (length queues) fresh o.kept.coming) new
            ∙ ap (λ (l : List (Rung L)). filter_map handed l ++ []) (new_side_at place queues);
        answers =
            ap (λ (l : List (SideFacts L)). replies_to place (length queues) l opened.kept.reply) bells
            ∙ ap (λ (o : OwnerFacts D L). replies_to place (length queues) fresh o.kept.reply) new
            ∙ ap (λ (l : List (Rung L)). filter_map answered l ++ []) (new_side_at place queues);
      }

  -- from the opening on
  pub handed_once : (control : ControlFacts) (door : D) (connections place : ℕ) (journal : Bool) (queues : List QueueId) (store : Option QueueId) (opened owner : OwnerFacts D L) (turns : List Turn) → 0 < length queues
      → IsOpened control door connections journal queues store opened → (all : TurnsTo (OwnerTurned door_facts link_facts) opened turns owner)
      → Hands place (length queues) owner (connections_given door_facts link_facts opened turns owner all) (replies_made door_facts link_facts opened turns owner all)
  handed_once control door connections place journal queues store opened owner turns some new all =
      all_hands place (length queues) opened turns owner all [] [] some (new_hands control door connections place journal queues store opened new)

  -- ---- how many the door gave

  -- up to the door, and after it, the doorway and the number of those that were given stay
  before_door : (old : OwnerFacts D L) (turn : Turn) (new : OwnerFacts D L) (t : OwnerTurned door_facts link_facts old turn new)
      → (t.after_post.doorway ≡ old.doorway) × (t.after_post.guests.given ≡ old.guests.given)
  before_door old turn new t =
      let desk = desk_stays t.after_offers t.served t.after_desk t.serves in
      let press = press_stays t.after_desk t.pressed t.after_press t.presses in
      let publish = shown_stays t.after_press t.published t.after_publish _ t.archived t.after_archive t.publishes t.archives in
      let post = post_stays t.after_archive t.posted t.after_post t.posts in (
        post.doorway ∙ publish.doorway ∙ press.doorway ∙ desk.doorway ∙ ap (λ (o : OwnerFacts D L). o.doorway) t.offers.others,
        post.given ∙ ap (λ (g : GuestsFacts). g.given) publish.guests ∙ press.given ∙ desk.given ∙ ap (λ (o : OwnerFacts D L). o.guests.given) t.offers.others,
      )

  behind_door : (old : OwnerFacts D L) (turn : Turn) (new : OwnerFacts D L) (t : OwnerTurned door_facts link_facts old turn new)
      → (new.doorway ≡ t.after_door.doorway) × (new.guests.given ≡ t.after_door.guests.given)
  behind_door old turn new t =
      let over = is_over t.after_door && is_none t.after_door.kept.coming in (
        ap (λ (o : OwnerFacts D L). o.doorway) t.ends ∙ ended_door over t.after_door,
        ap (λ (o : OwnerFacts D L). o.guests.given) t.ends ∙ ap (λ (g : GuestsFacts). g.given) (ended_guests over t.after_door),
      )

  -- they are numbered in the order in which they came
  asked_numbered : (b : Bool) (old : OwnerFacts D L) (worked : Bool) (new : OwnerFacts D L) (given : List (Coming L)) (asks : Asks door_facts link_facts b old worked new)
      → map number_of given ≡ numbers old.guests.given → map number_of (given ++ came_where door_facts link_facts b old worked new asks) ≡ numbers new.guests.given
  asked_numbered true old worked new given rests so =
      ap (λ (l : List (Coming L)). map number_of l) (append-nil given) ∙ so ∙ ap (λ (o : OwnerFacts D L). numbers o.guests.given) (sym rests.1)
  asked_numbered false old worked new given asks so =
      numbered_so link_facts asks.answer old.guests given so ∙ ap (λ (o : OwnerFacts D L). numbers o.guests.given) (sym asks.others)

  all_numbered : (old : OwnerFacts D L) (turns : List Turn) (new : OwnerFacts D L) (all : TurnsTo (OwnerTurned door_facts link_facts) old turns new) (given : List (Coming L))
      → map number_of given ≡ numbers old.guests.given → map number_of (given ++ connections_given door_facts link_facts old turns new all) ≡ numbers new.guests.given
  all_numbered old [] new all given so =
      ap (λ (l : List (Coming L)). map number_of l) (append-nil given) ∙ so ∙ ap (λ (o : OwnerFacts D L). numbers o.guests.given) (sym all)
  all_numbered old (turn ∷ turns) new all given so =
      let t = all.1 in
      let more = given ++ came old turn all.0 t in
      let now : map number_of more ≡ numbers all.0.guests.given =
      asked_numbered (is_not_to_ask t.after_post) t.after_post t.came t.after_door given t.asks (so ∙ ap (λ (n : ℕ). numbers n) (sym (before_door old turn all.0 t).1))
      ∙ ap (λ (n : ℕ). numbers n) (sym (behind_door old turn all.0 t).1) in
      ap (λ (l : List (Coming L)). map number_of l) (sym (append_assoc given (came old turn all.0 t) (connections_given door_facts link_facts all.0 turns new all.2)))
      ∙ all_numbered all.0 turns new all.2 more now

  -- from the opening on
  pub numbered_from : (control : ControlFacts) (door : D) (connections : ℕ) (journal : Bool) (queues : List QueueId) (store : Option QueueId) (opened owner : OwnerFacts D L) (turns : List Turn)
      → IsOpened control door connections journal queues store opened → (all : TurnsTo (OwnerTurned door_facts link_facts) opened turns owner)
      → map number_of (connections_given door_facts link_facts opened turns owner all) ≡ numbers owner.guests.given
  numbered_from control door connections journal queues store opened owner turns new all =
      all_numbered opened turns owner all [] (ap (λ (o : OwnerFacts D L). numbers o.guests.given) (sym new))

  -- as many are counted as the door gave, since it had given n
  abbrev IsCounted : ℕ → OwnerFacts D L → Type 0
  IsCounted before owner = (door_facts owner.doorway.door).given ≡ given_after_all before owner.guests.given

  same_count : (before : ℕ) (old new : OwnerFacts D L) → (new.doorway ≡ old.doorway) × (new.guests.given ≡ old.guests.given) → IsCounted before old → IsCounted before new
  same_count before old new same counted =
      ap (λ (d : DoorwayFacts D). (door_facts d.door).given) same.0 ∙ counted ∙ ap (λ (n : ℕ). given_after_all before n) (sym same.1)

  asked_count : (b : Bool) (before : ℕ) (old : OwnerFacts D L) (worked : Bool) (new : OwnerFacts D L) → Asks door_facts link_facts b old worked new → IsCounted before old → IsCounted before new
  asked_count true before old worked new rests counted = subst (λ (o : OwnerFacts D L). IsCounted before o) (sym rests.1) counted
  asked_count false before old worked new asks counted =
      given_by link_facts asks.answer before (door_facts old.doorway.door).given (door_facts new.doorway.door).given old.guests counted asks.gave
      ∙ ap (λ (g : GuestsFacts). given_after_all before g.given) (sym (ap (λ (o : OwnerFacts D L). o.guests) asks.others))

  turned_count : (before : ℕ) (old : OwnerFacts D L) (turn : Turn) (new : OwnerFacts D L) → OwnerTurned door_facts link_facts old turn new → IsCounted before old → IsCounted before new
  turned_count before old turn new t counted =
      same_count before t.after_door new (behind_door old turn new t)
      (asked_count (is_not_to_ask t.after_post) before t.after_post t.came t.after_door t.asks (same_count before old t.after_post (before_door old turn new t) counted))

  all_counted : (before : ℕ) (old : OwnerFacts D L) (turns : List Turn) (new : OwnerFacts D L) → TurnsTo (OwnerTurned door_facts link_facts) old turns new → IsCounted before old → IsCounted before new
  all_counted before old [] new all counted = subst (λ (o : OwnerFacts D L). IsCounted before o) (sym all) counted
  all_counted before old (turn ∷ turns) new all counted = all_counted before all.0 turns new all.2 (turned_count before old turn all.0 all.1 counted)

  -- from the opening on
  pub counted_from : (control : ControlFacts) (door : D) (connections : ℕ) (journal : Bool) (queues : List QueueId) (store : Option QueueId) (opened owner : OwnerFacts D L) (turns : List Turn)
      → IsOpened control door connections journal queues store opened → TurnsTo (OwnerTurned door_facts link_facts) opened turns owner → (door_facts owner.doorway.door).given ≡ given_after_all (door_facts door).given owner.guests.given
  counted_from control door connections journal queues store opened owner turns new all =
      all_counted (door_facts door).given opened turns owner all
      (ap (λ (o : OwnerFacts D L). (door_facts o.doorway.door).given) new ∙ ap (λ (o : OwnerFacts D L). given_after_all (door_facts door).given o.guests.given) (sym new))
