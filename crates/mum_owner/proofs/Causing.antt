-- What the answer of a turn shows.
use Rattle.mum_owner.proofs.Common.{◌≡◌, ◌∙◌, ◌++◌, ◌+◌, ◌<◌, ◌≤◌, ◌∷◌, ◌⊎◌, ◌&&◌, ◌==◌, ◌||◌, ℕ, [], Accept, Accepted, Again, Answer, ArchiveFacts, ArchivesBy, Asks, Bool, CONNECTION_LIMIT, Command, Commanded, ControlFacts, DESK_CAPACITY, Decides, DeskFacts, DeskItem, Done, DoorFacts, Edit, EmptiesFor, EmptiesPost, Goes, Ignored, IsGivenOrRefused, KeptFacts, Lacks, Lag, LeaveIsGiven, LinkFacts, List, MatchBool, MatchOption, Next, None, NoteFacts, Noted, Notice, Offered, OffersNote, OffersOne, OffersRing, Option, OwnerFacts, OwnerTurned, PENDING_LIMIT, PassFacts, Posted, PostsNext, PostsOne, Presses, PublisherFacts, Publishes, ReceivesItem, Refused, Rejected, ReplyFacts, Rest, Rests, Ring, Rung, ScribeFacts, Serves, ServesDesk, SessionId, SideFacts, Slot, Some, Take, Takes, Tells, TellsEach, TellsStore, Turn, Verdict, ap, arith, blocker, changed_at, cond, current, due_notices, false, guests_by, has_ended, has_posted, has_room, inl, inr, is_none, is_not_to_ask, is_over, is_some, is_through, items_taken, kept_by, lag_at, lag_for, length, length-append, makes_note, may_go, nat_lt, next, not, note_of, option_and_then, owned, pressing, puts_at, refl, session_of, slot_of, subst, suc, sym, true, turn_of, with_lag, with_pass, worker_of, zero, true≢false, or_parts, OfferedItem, Full, Sent, NoMore, Idle, Worked, stopped_by, verdict, with_full_store, with_ring, NoMoreNotes, answer_of, due_behind, leave_of, HasDoneNothing, puts_in, are_all_given, OffersKept, with_full, with_put, AsksOnce, has_answered, refused}
use Rattle.mum_owner.proofs.{Ending.posted_publisher, Giving.KeepsLeave, Giving.command_desk, Giving.items_more, Giving.items_same, Giving.keeps_leave, Giving.list_desk, Giving.pass_stays, Giving.turned_desk, Noting.behind_store, Noting.lag_control, Putting.changed_later, Putting.full_anywhere, Putting.many_offered, Putting.put_here, Putting.worker_within, Steps.LagStays, Steps.MakesLag, Steps.MakesNone, Steps.PublishStays, Steps.desk_stays, Steps.none_where, Steps.post_stays, Steps.press_stays, Steps.shown_stays}
use Rattle.mum_io.specs.declared.door.Accept.TheVariants as accepted
use Rattle.mum_control.specs.declared.posted.Posted.TheVariants as posted
use Rattle.mum_port.specs.declared.item.DeskItem.TheVariants as items

-- ---- lists and flags

not_longer : {X : Type 0} (x : X) (xs : List X) → xs ≡ x ∷ xs → ⊥
not_longer x xs is = let same : length xs ≡ suc (length xs) = ap (λ (l : List _). length l) is in absurd (omega arith)

not_more : {X : Type 0} (xs : List X) (x : X) → xs ++ x ∷ [] ≡ xs → ⊥
not_more xs x is = let same : length xs + 1 ≡ length xs = sym (length-append xs (x ∷ [])) ∙ ap (λ (l : List _). length l) is in absurd (omega arith)

one_longer : {X : Type 0} (xs : List X) (x : X) → length xs < length (xs ++ x ∷ [])
one_longer xs x = let more : length (xs ++ x ∷ []) ≡ length xs + 1 = length-append xs (x ∷ []) in omega arith

not_less : {X : Type 0} (xs ys : List X) → length xs < length ys → ys ≡ xs → ⊥
not_less xs ys less is = let same : length ys ≡ length xs = ap (λ (l : List _). length l) is in absurd (omega arith)

neither : (a b : Bool) → false ≡ (a || b) → (a ≡ false) × (b ≡ false)
neither a b is = or_parts a b (sym is)

-- the first of two that is so
first_so : {P : Type 0} (a b : Bool) → (a || b) ≡ true → (a ≡ true → P) → (a ≡ false → b ≡ true → P) → P
first_so true b is first second = first refl
first_so false b is first second = second refl is

no_item : {X : Type 0} (found : Option X) → false ≡ is_some found → found ≡ None
no_item None is = refl
no_item (Some x) is = absurd (true≢false (sym is))

-- ---- the answer

idle_says : (done worked : Bool) → Idle ≡ turn_of done worked → (done ≡ false) × (worked ≡ false)
idle_says true worked is = absurd (cc is)
idle_says false true is = absurd (cc is)
idle_says false false is = (refl, refl)

worked_says : (done worked : Bool) → Worked ≡ turn_of done worked → worked ≡ true
worked_says true worked is = absurd (cc is)
worked_says false true is = refl
worked_says false false is = absurd (cc is)

done_says : (done worked : Bool) → Done ≡ turn_of done worked → done ≡ true
done_says true worked is = refl
done_says false true is = absurd (cc is)
done_says false false is = absurd (cc is)

-- ---- one bell

module _ {L : Type 0} where
  abbrev count : ℕ → List (SideFacts L) → ℕ
  count place bells = length (puts_at place bells)

  same_count : (place : ℕ) (bells after : List (SideFacts L)) → puts_at place after ≡ puts_at place bells → count place bells ≤ count place after
  same_count place bells after is = let same : count place after ≡ count place bells = ap (λ (l : List (Rung L)). length l) is in omega arith

  put_anywhere : (place other : ℕ) (item : Rung L) (bells : List (SideFacts L)) → count place bells ≤ count place (changed_at other (with_put item) bells)
  put_anywhere place other item [] = omega arith
  put_anywhere zero zero item (side ∷ bells) = let more = one_longer side.put item in omega arith
  put_anywhere zero (suc other) item (side ∷ bells) =
      same_count zero (side ∷ bells) (changed_at (suc other) (with_put item) (side ∷ bells)) (ap (λ (l : List (SideFacts L)). puts_at zero l) (changed_later side bells other (with_put item)))
  put_anywhere (suc place) zero item (side ∷ bells) = same_count (suc place) (side ∷ bells) (changed_at zero (with_put item) (side ∷ bells)) refl
  put_anywhere (suc place) (suc other) item (side ∷ bells) =
      subst (λ (l : List (SideFacts L)). count (suc place) (side ∷ bells) ≤ count (suc place) l) (sym (changed_later side bells other (with_put item)))
      (put_anywhere place other item bells)

  module _ {X : Type 0} (number : X → ℕ) (item : X → Rung L) where
    offer_quiet : (bells : List (SideFacts L)) (kept : Option X) (after : List (SideFacts L)) (left : Option X) → OffersOne number item bells kept false after left
        → ((place : ℕ) → puts_at place after ≡ puts_at place bells) × (left ≡ kept)
    offer_quiet bells None after left offers = ((λ place. ap (λ (l : List (SideFacts L)). puts_at place l) offers.1), offers.2)
    offer_quiet bells (Some one) after left offers = (
      (λ place.
          ap (λ (l : List (SideFacts L)). puts_at place l) offers.0 ∙ full_anywhere place (worker_of (number one) (length bells)) bells),
      offers.1,
    )

    offer_counts : (bells : List (SideFacts L)) (kept : Option X) (took : Bool) (after : List (SideFacts L)) (left : Option X) → OffersOne number item bells kept took after left
        → (place : ℕ) → count place bells ≤ count place after
    offer_counts bells None took after left offers place = same_count place bells after (ap (λ (l : List (SideFacts L)). puts_at place l) offers.1)
    offer_counts bells (Some one) true after left offers place =
        subst (λ (l : List (SideFacts L)). count place bells ≤ count place l) (sym offers.0) (put_anywhere place (worker_of (number one) (length bells)) (item one) bells)
    offer_counts bells (Some one) false after left offers place =
        same_count place bells after ((offer_quiet bells (Some one) after left offers).0 place)

    offer_took : (bells : List (SideFacts L)) (kept : Option X) (after : List (SideFacts L)) (left : Option X) → 0 < length bells → OffersOne number item bells kept true after left
        → (place : ℕ) × (count place bells < count place after)
    offer_took bells None after left some offers = absurd (true≢false offers.0)
    offer_took bells (Some one) after left some offers =
        let place : ℕ = worker_of (number one) (length bells) in
        let put = ap (λ (l : List (SideFacts L)). puts_at place l) offers.0 ∙ put_here place (item one) bells (worker_within (number one) (length bells) some) in
        let more : count place bells < length (puts_at place bells ++ item one ∷ []) = one_longer (puts_at place bells) (item one) in
        (place, subst (λ (l : List (Rung L)). count place bells < length l) (sym put) more)

  -- ---- each bell

  side_quiet : (told : Bool) (side after : SideFacts L)
      → MatchBool told ((false ≡ false) × (after ≡ side)) (after ≡ with_full side) → after.put ≡ side.put
  side_quiet true side after tells = ap (λ (s : SideFacts L). s.put) tells.1
  side_quiet false side after tells = ap (λ (s : SideFacts L). s.put) tells

  side_took : (told : Bool) (side after : SideFacts L)
      → MatchBool told ((true ≡ false) × (after ≡ side)) (after ≡ record (with_put NoMore side) { is_told = true }) → length side.put < length after.put
  side_took true side after tells = absurd (true≢false tells.0)
  side_took false side after tells = subst (λ (s : SideFacts L). length side.put < length s.put) (sym tells) (one_longer side.put NoMore)

  side_counts : (took : Bool) (side after : SideFacts L) → Tells side took after → length side.put ≤ length after.put
  side_counts true side after tells = let more = side_took side.is_told side after tells in omega arith
  side_counts false side after tells =
      let same : length after.put ≡ length side.put = ap (λ (l : List (Rung L)). length l) (side_quiet side.is_told side after tells) in omega arith

  side_same : (took : Bool) (side after : SideFacts L) → took ≡ false → Tells side took after → after.put ≡ side.put
  side_same true side after is tells = absurd (true≢false is)
  side_same false side after is tells = side_quiet side.is_told side after tells

  side_more : (took : Bool) (side after : SideFacts L) → took ≡ true → Tells side took after → length side.put < length after.put
  side_more true side after is tells = side_took side.is_told side after tells
  side_more false side after is tells = absurd (true≢false (sym is))

  tells_quiet : (bells : List (SideFacts L)) (took : Bool) (after : List (SideFacts L)) → took ≡ false → TellsEach bells took after → (place : ℕ) → puts_at place after ≡ puts_at place bells
  tells_quiet [] took [] is tells place = refl
  tells_quiet [] took (side ∷ after) is tells place = absurd tells
  tells_quiet (side ∷ bells) took [] is tells place = absurd tells
  tells_quiet (side ∷ bells) took (changed ∷ after) is tells zero =
      side_same tells.0 side changed (or_parts tells.0 tells.1 (sym tells.4 ∙ is)).0 tells.2
  tells_quiet (side ∷ bells) took (changed ∷ after) is tells (suc place) =
      tells_quiet bells tells.1 after (or_parts tells.0 tells.1 (sym tells.4 ∙ is)).1 tells.3 place

  tells_count : (bells : List (SideFacts L)) (took : Bool) (after : List (SideFacts L)) → TellsEach bells took after → (place : ℕ) → count place bells ≤ count place after
  tells_count [] took [] tells place = omega arith
  tells_count [] took (side ∷ after) tells place = absurd tells
  tells_count (side ∷ bells) took [] tells place = absurd tells
  tells_count (side ∷ bells) took (changed ∷ after) tells zero = side_counts tells.0 side changed tells.2
  tells_count (side ∷ bells) took (changed ∷ after) tells (suc place) = tells_count bells tells.1 after tells.3 place

  tells_took : (bells : List (SideFacts L)) (took : Bool) (after : List (SideFacts L)) → took ≡ true → TellsEach bells took after → (place : ℕ) × (count place bells < count place after)
  tells_took [] took [] is tells = absurd (true≢false (sym is ∙ tells))
  tells_took [] took (side ∷ after) is tells = absurd tells
  tells_took (side ∷ bells) took [] is tells = absurd tells
  tells_took (side ∷ bells) took (changed ∷ after) is tells =
      first_so tells.0 tells.1 (sym tells.4 ∙ is)
      (λ one. (zero, side_more tells.0 side changed one tells.2))
      (λ none rest. let later = tells_took bells tells.1 after rest tells.3 in (suc later.0, later.1))

  ends_quiet : (ending : Bool) (bells after : List (SideFacts L)) (took : Bool) → took ≡ false → MatchBool ending (TellsEach bells took after) ((took ≡ false) × (after ≡ bells))
      → (place : ℕ) → puts_at place after ≡ puts_at place bells
  ends_quiet true bells after took is tells place = tells_quiet bells took after is tells place
  ends_quiet false bells after took is tells place = ap (λ (l : List (SideFacts L)). puts_at place l) tells.1

  ends_count : (ending : Bool) (bells after : List (SideFacts L)) (took : Bool) → MatchBool ending (TellsEach bells took after) ((took ≡ false) × (after ≡ bells))
      → (place : ℕ) → count place bells ≤ count place after
  ends_count true bells after took tells place = tells_count bells took after tells place
  ends_count false bells after took tells place = same_count place bells after (ap (λ (l : List (SideFacts L)). puts_at place l) tells.1)

  ends_took : (ending : Bool) (bells after : List (SideFacts L)) (took : Bool) → took ≡ true → MatchBool ending (TellsEach bells took after) ((took ≡ false) × (after ≡ bells))
      → (place : ℕ) × (count place bells < count place after)
  ends_took true bells after took is tells = tells_took bells took after is tells
  ends_took false bells after took is tells = absurd (true≢false (sym is ∙ tells.0))

  -- ---- what is kept

  offered_same : {X : Type 0} (number : X → ℕ) (item : X → Rung L) (bells : List (SideFacts L)) (kept : Option X) (took : Bool) (after : List (SideFacts L)) (left : Option X)
      → took ≡ false → OffersOne number item bells kept took after left → ((place : ℕ) → puts_at place after ≡ puts_at place bells) × (left ≡ kept)
  offered_same number item bells kept true after left is offers = absurd (true≢false is)
  offered_same number item bells kept false after left is offers = offer_quiet number item bells kept after left offers

  offered_more : {X : Type 0} (number : X → ℕ) (item : X → Rung L) (bells : List (SideFacts L)) (kept : Option X) (took : Bool) (after : List (SideFacts L)) (left : Option X)
      → took ≡ true → 0 < length bells → OffersOne number item bells kept took after left → (place : ℕ) × (count place bells < count place after)
  offered_more number item bells kept true after left is some offers = offer_took number item bells kept after left some offers
  offered_more number item bells kept false after left is some offers = absurd (true≢false (sym is))

  kept_quiet : (bells : List (SideFacts L)) (kept : KeptFacts L) (ending : Bool) (after : List (SideFacts L)) (left : KeptFacts L) → OffersKept bells kept ending false after left
      → ((place : ℕ) → puts_at place after ≡ puts_at place bells) × (left.lag ≡ kept.lag)
  kept_quiet bells kept ending after left offers =
      let (no_reply, others) = neither offers.reply (offers.lag || (offers.coming || offers.told)) offers.so in
      let (no_lag, rest) = or_parts offers.lag (offers.coming || offers.told) others in
      let (no_coming, not_told) = or_parts offers.coming offers.told rest in
      let reply = offered_same _ _ bells kept.reply offers.reply offers.after_reply left.reply no_reply offers.offers_reply in
      let lag = offered_same _ _ offers.after_reply kept.lag offers.lag offers.after_lag left.lag no_lag offers.offers_lag in
      let coming = offered_same _ _ offers.after_lag kept.coming offers.coming offers.after_coming left.coming no_coming offers.offers_coming in
      ((λ place. ends_quiet ending offers.after_coming after offers.told not_told offers.tells place ∙ coming.0 place ∙ lag.0 place ∙ reply.0 place), lag.1)

  kept_took : (bells : List (SideFacts L)) (kept : KeptFacts L) (ending : Bool) (after : List (SideFacts L)) (left : KeptFacts L) → 0 < length bells → OffersKept bells kept ending true after left
      → (place : ℕ) × (count place bells < count place after)
  kept_took bells kept ending after left some offers =
      let first = offer_counts _ _ bells kept.reply offers.reply offers.after_reply left.reply offers.offers_reply in
      let second = offer_counts _ _ offers.after_reply kept.lag offers.lag offers.after_lag left.lag offers.offers_lag in
      let third = offer_counts _ _ offers.after_lag kept.coming offers.coming offers.after_coming left.coming offers.offers_coming in
      let fourth = ends_count ending offers.after_coming after offers.told offers.tells in
      let many : length offers.after_reply ≡ length bells = many_offered _ _ bells kept.reply offers.reply offers.after_reply left.reply offers.offers_reply in
      let as_many : length offers.after_lag ≡ length offers.after_reply = many_offered _ _ offers.after_reply kept.lag offers.lag offers.after_lag left.lag offers.offers_lag in
      first_so offers.reply (offers.lag || (offers.coming || offers.told)) (sym offers.so)
      (λ took.
      let (place, more) = offered_more _ _ bells kept.reply offers.reply offers.after_reply left.reply took some offers.offers_reply in
      let two = second place in let three = third place in let four = fourth place in
      (place, omega arith))
      (λ none others. first_so offers.lag (offers.coming || offers.told) others
      (λ took.
      let (place, more) = offered_more _ _ offers.after_reply kept.lag offers.lag offers.after_lag left.lag took (omega arith) offers.offers_lag in
      let one = first place in let three = third place in let four = fourth place in
      (place, omega arith))
      (λ none rest. first_so offers.coming offers.told rest
      (λ took.
      let (place, more) = offered_more _ _ offers.after_lag kept.coming offers.coming offers.after_coming left.coming took (omega arith) offers.offers_coming in
      let one = first place in let two = second place in let four = fourth place in
      (place, omega arith))
      (λ none told.
      let (place, more) = ends_took ending offers.after_coming after offers.told told offers.tells in
      let one = first place in let two = second place in let three = third place in
      (place, omega arith))))

-- ---- a command

quiet_verdict : (old : ControlFacts) (connection : ℕ) (session : Option SessionId) (decided : Verdict) (reply : ReplyFacts) (new : ControlFacts)
    → Decides old connection session decided reply new → is_some new.mark ≡ true
quiet_verdict old connection session (Accepted edit) reply new accepts = ap (λ (c : ControlFacts). is_some c.mark) accepts.others
quiet_verdict old connection session (Lacks perm channel) reply new denies = ap (λ (c : ControlFacts). is_some c.mark) denies.0
quiet_verdict old connection session (Refused kind) reply new denies = ap (λ (c : ControlFacts). is_some c.mark) denies.0
quiet_verdict old connection session (Rejected kind) reply new denies = ap (λ (c : ControlFacts). is_some c.mark) denies.0
quiet_verdict old connection session (Answer frame) reply new denies = ap (λ (c : ControlFacts). is_some c.mark) denies.0
quiet_verdict old connection session (Ignored why) reply new denies = ap (λ (c : ControlFacts). is_some c.mark) denies.0

abbrev StaysUnpublished : ControlFacts → ControlFacts → Type 0
StaysUnpublished old new = (new.publisher.pending ≡ old.publisher.pending) × (new.pending ≡ old.pending)

dropped_so : (old : ControlFacts) (command : Command) (reply : ReplyFacts) (new : ControlFacts) → Commanded old command reply new → is_some new.mark ≡ false → StaysUnpublished old new
dropped_so old command reply new (inl dropped) none =
    (ap (λ (c : ControlFacts). c.publisher.pending) dropped.0, ap (λ (c : ControlFacts). c.pending) dropped.0)
dropped_so old command reply new (inr decides) none =
    absurd (true≢false (sym (quiet_verdict old command.connection command.session (verdict (current old) command.session command.what) reply new decides) ∙ none))

slot_so : (control : ControlFacts) (slot : Option Slot) (after : ControlFacts) → EmptiesPost control slot after → StaysUnpublished control after
slot_so control None after is = (ap (λ (c : ControlFacts). c.publisher.pending) is, ap (λ (c : ControlFacts). c.pending) is)
slot_so control (Some slot) after empties = (ap (λ (c : ControlFacts). c.publisher.pending) empties.1, ap (λ (c : ControlFacts). c.pending) empties.1)

emptied_so : (control : ControlFacts) (session : Option SessionId) (after : ControlFacts) → EmptiesFor control session after → StaysUnpublished control after
emptied_so control None after is = (ap (λ (c : ControlFacts). c.publisher.pending) is, ap (λ (c : ControlFacts). c.pending) is)
emptied_so control (Some session) after empties = slot_so control (slot_of (current control) session) after empties

-- ---- the store

store_quiet : (ring : Ring) (took : Bool) (old new : ArchiveFacts) → took ≡ false → OffersRing ring old took new → new.put ≡ old.put
store_quiet ring true old new is offers = absurd (true≢false is)
store_quiet ring false old new is offers = ap (λ (s : ArchiveFacts). s.put) offers

store_took : (ring : Ring) (took : Bool) (old new : ArchiveFacts) → took ≡ true → OffersRing ring old took new → new.put ≡ old.put → ⊥
store_took ring true old new is offers same = not_more old.put ring (sym (ap (λ (s : ArchiveFacts). s.put) offers) ∙ same)
store_took ring false old new is offers same = absurd (true≢false (sym is))

note_quiet : (note : NoteFacts) (old : Option ArchiveFacts) (took : Bool) (new : Option ArchiveFacts) → took ≡ false → OffersNote note old took new → puts_in new ≡ puts_in old
note_quiet note None took new is offers = ap puts_in offers.1
note_quiet note (Some old) took new is offers = ap puts_in offers.1 ∙ store_quiet (Noted note) took old offers.0 is offers.2

note_took : (note : NoteFacts) (old : Option ArchiveFacts) (took : Bool) (new : Option ArchiveFacts) → took ≡ true → OffersNote note old took new → puts_in new ≡ puts_in old → ⊥
note_took note None took new is offers same = true≢false (sym is ∙ offers.0)
note_took note (Some old) took new is offers same = store_took (Noted note) took old offers.0 is offers.2 (sym (ap puts_in offers.1) ∙ same)

end_quiet : (told took : Bool) (old new : ArchiveFacts) → took ≡ false
    → MatchBool told ((took ≡ false) × (new ≡ old)) (MatchBool took (new ≡ record (with_ring NoMoreNotes old) { is_told = true }) (new ≡ with_full_store old)) → new.put ≡ old.put
end_quiet true took old new is tells = ap (λ (s : ArchiveFacts). s.put) tells.1
end_quiet false true old new is tells = absurd (true≢false is)
end_quiet false false old new is tells = ap (λ (s : ArchiveFacts). s.put) tells

end_took : (told took : Bool) (old new : ArchiveFacts) → took ≡ true
    → MatchBool told ((took ≡ false) × (new ≡ old)) (MatchBool took (new ≡ record (with_ring NoMoreNotes old) { is_told = true }) (new ≡ with_full_store old)) → new.put ≡ old.put → ⊥
end_took true took old new is tells same = true≢false (sym is ∙ tells.0)
end_took false true old new is tells same = not_more old.put NoMoreNotes (sym (ap (λ (s : ArchiveFacts). s.put) tells) ∙ same)
end_took false false old new is tells same = true≢false (sym is)

last_quiet : (old : Option ArchiveFacts) (took : Bool) (new : Option ArchiveFacts) → took ≡ false → TellsStore old took new → puts_in new ≡ puts_in old
last_quiet None took new is tells = ap puts_in tells.1
last_quiet (Some old) took new is tells = ap puts_in tells.1 ∙ end_quiet old.is_told took old tells.0 is tells.2

last_took : (old : Option ArchiveFacts) (took : Bool) (new : Option ArchiveFacts) → took ≡ true → TellsStore old took new → puts_in new ≡ puts_in old → ⊥
last_took None took new is tells same = true≢false (sym is ∙ tells.0)
last_took (Some old) took new is tells same = end_took old.is_told took old tells.0 is tells.2 (sym (ap puts_in tells.1) ∙ same)

-- ---- posting

posted_quiet : (old : ControlFacts) (due : List Notice) (answer : Posted) (new : ControlFacts) → false ≡ has_posted answer → PostsNext old due answer new → (answer ≡ posted.None) × (new ≡ old)
posted_quiet old [] answer new is posts = posts
posted_quiet old (notice ∷ rest) answer new is posts = absurd (answered posts.offered (is ∙ ap has_posted posts.answer))
  where
    answered : (offered : OfferedItem _) → false ≡ has_posted (answer_of notice.to offered) → ⊥
    answered Sent is = true≢false (sym is)
    answered (Full back) is = true≢false (sym is)

due_first : (edits : List Edit) (pending : List Notice) (notice : Notice) (rest : List Notice) → due_behind edits pending ≡ notice ∷ rest → pending ≡ notice ∷ rest
due_first [] pending notice rest is = is
due_first (edit ∷ edits) pending notice rest is = cc

posted_took : (old : ControlFacts) (due : List Notice) (answer : Posted) (new : ControlFacts) → due_notices old ≡ due → true ≡ has_posted answer → PostsNext old due answer new → new.pending ≡ old.pending → ⊥
posted_took old [] answer new due is posts same = true≢false (is ∙ ap has_posted posts.0)
posted_took old (notice ∷ rest) answer new due is posts same =
    not_longer notice rest (sym (ap (λ (c : ControlFacts). c.pending) posts.others) ∙ same ∙ due_first old.publisher.pending old.pending notice rest due)

none_before : (b : Bool) (found : Option Lag) (lag : Option Lag) → (b ≡ false → lag ≡ None) → is_some (cond b None found) ≡ true → lag ≡ None
none_before true found lag none is = absurd (true≢false (sym is))
none_before false found lag none is = none refl

-- ---- the parts of a turn

module _ {D L : Type 0} where
  nothing_same : (old : OwnerFacts D L) → HasDoneNothing old old
  nothing_same old = record {
    bells = λ place. refl;
    store = refl;
    taken = refl;
    leave = refl;
    logins = refl;
    lag = refl;
    unpublished = refl;
    notices = refl;
    given = refl;
    stopped = refl;
  }

  nothing_as : (old new : OwnerFacts D L) → new ≡ old → HasDoneNothing old new
  nothing_as old new is = subst (λ (o : OwnerFacts D L). HasDoneNothing old o) (sym is) (nothing_same old)

  nothing_then : (old mid new : OwnerFacts D L) → HasDoneNothing old mid → HasDoneNothing mid new → HasDoneNothing old new
  nothing_then old mid new one other = record {
    bells = λ place. other.bells place ∙ one.bells place;
    store = other.store ∙ one.store;
    taken = other.taken ∙ one.taken;
    leave = other.leave ∙ one.leave;
    logins = other.logins ∙ one.logins;
    lag = other.lag ∙ one.lag;
    unpublished = other.unpublished ∙ one.unpublished;
    notices = other.notices ∙ one.notices;
    given = other.given ∙ one.given;
    stopped = other.stopped ∙ one.stopped;
  }

  offers_nothing : (old : OwnerFacts D L) (worked : Bool) (new : OwnerFacts D L) → worked ≡ false → Offered old worked new → HasDoneNothing old new
  offers_nothing old true new is offered = absurd (true≢false is)
  offers_nothing old false new is offered =
      let quiet = kept_quiet old.bells old.kept old.is_ending new.bells new.kept offered.offers in
      record {
        bells = quiet.0;
        store = ap (λ (o : OwnerFacts D L). puts_in o.archive) offered.others;
        taken = ap (λ (o : OwnerFacts D L). items_taken o.desk) offered.others;
        leave = ap (λ (o : OwnerFacts D L). o.desk.leave) offered.others;
        logins = ap (λ (o : OwnerFacts D L). o.logins) offered.others;
        lag = quiet.1;
        unpublished = ap (λ (o : OwnerFacts D L). o.control.publisher.pending) offered.others;
        notices = ap (λ (o : OwnerFacts D L). o.control.pending) offered.others;
        given = ap (λ (o : OwnerFacts D L). o.guests.given) offered.others;
        stopped = ap (λ (o : OwnerFacts D L). o.doorway.stopped) offered.others;
      }

  offers_something : (old : OwnerFacts D L) (worked : Bool) (new : OwnerFacts D L) → worked ≡ true → 0 < length old.bells → Offered old worked new
      → ((place : ℕ) → puts_at place new.bells ≡ puts_at place old.bells) → ⊥
  offers_something old false new is some offered same = absurd (true≢false (sym is))
  offers_something old true new is some offered same =
      let (place, more) = kept_took old.bells old.kept old.is_ending new.bells new.kept some offered.offers in
      not_less (puts_at place old.bells) (puts_at place new.bells) more (same place)

  -- ---- the desk

  leaves_nothing : (old : OwnerFacts D L) (connection : ℕ) (new : OwnerFacts D L) → old.desk.leave ≡ Some connection → LeaveIsGiven old connection false new → HasDoneNothing old new
  leaves_nothing old connection new keeps (inl gives) =
      let empties = emptied_so old.control (session_of connection old.guests.rows) gives.emptied gives.empties in
      let drops = dropped_so gives.emptied (leave_of connection (session_of connection old.guests.rows)) gives.reply new.control gives.commanded (sym gives.so) in
      record {
        bells = λ place. ap (λ (o : OwnerFacts D L). puts_at place o.bells) gives.others;
        store = ap (λ (o : OwnerFacts D L). puts_in o.archive) gives.others;
        taken = ap (λ (o : OwnerFacts D L). items_taken o.desk) gives.others;
        leave = ap (λ (o : OwnerFacts D L). o.desk.leave) gives.others ∙ sym keeps;
        logins = ap (λ (o : OwnerFacts D L). o.logins) gives.others;
        lag = ap (λ (o : OwnerFacts D L). o.kept.lag) gives.others;
        unpublished = drops.0 ∙ empties.0;
        notices = drops.1 ∙ empties.1;
        given = ap (λ (o : OwnerFacts D L). o.guests.given) gives.others;
        stopped = ap (λ (o : OwnerFacts D L). o.doorway.stopped) gives.others;
      }
  leaves_nothing old connection new keeps (inr drops) = record {
    bells = λ place. ap (λ (o : OwnerFacts D L). puts_at place o.bells) drops.others;
    store = ap (λ (o : OwnerFacts D L). puts_in o.archive) drops.others;
    taken = ap (λ (o : OwnerFacts D L). items_taken o.desk) drops.others;
    leave = ap (λ (o : OwnerFacts D L). o.desk.leave) drops.others ∙ sym keeps;
    logins = ap (λ (o : OwnerFacts D L). o.logins) drops.others;
    lag = ap (λ (o : OwnerFacts D L). o.kept.lag) drops.others;
    unpublished = ap (λ (o : OwnerFacts D L). o.control.publisher.pending) drops.others;
    notices = ap (λ (o : OwnerFacts D L). o.control.pending) drops.others;
    given = ap (λ (o : OwnerFacts D L). o.guests.given) drops.others;
    stopped = ap (λ (o : OwnerFacts D L). o.doorway.stopped) drops.others;
  }

  takes_nothing : (old : OwnerFacts D L) (pass : PassFacts DeskItem) (item : Option DeskItem) (new : OwnerFacts D L) → false ≡ is_some item → Takes DESK_CAPACITY old.desk.pass item pass
      → ReceivesItem (with_pass pass old) item new → HasDoneNothing old new
  takes_nothing old pass (Some item) new is takes received = absurd (true≢false (sym is))
  takes_nothing old pass None new is takes received = record {
    bells = λ place. ap (λ (o : OwnerFacts D L). puts_at place o.bells) received;
    store = ap (λ (o : OwnerFacts D L). puts_in o.archive) received;
    taken = ap (λ (o : OwnerFacts D L). items_taken o.desk) received ∙ items_same old.desk pass takes;
    leave = ap (λ (o : OwnerFacts D L). o.desk.leave) received;
    logins = ap (λ (o : OwnerFacts D L). o.logins) received;
    lag = ap (λ (o : OwnerFacts D L). o.kept.lag) received;
    unpublished = ap (λ (o : OwnerFacts D L). o.control.publisher.pending) received;
    notices = ap (λ (o : OwnerFacts D L). o.control.pending) received;
    given = ap (λ (o : OwnerFacts D L). o.guests.given) received;
    stopped = ap (λ (o : OwnerFacts D L). o.doorway.stopped) received;
  }

  serves_nothing : (next : Next) (old new : OwnerFacts D L) → KeepsLeave next old.desk.leave → Serves next old false new → HasDoneNothing old new
  serves_nothing Rest old new keeps rests = nothing_as old new rests.1
  serves_nothing (Again connection) old new keeps leave = leaves_nothing old connection new keeps leave
  serves_nothing Goes old new keeps gives = absurd (true≢false (sym gives.so))
  serves_nothing Take old new keeps takes = takes_nothing old takes.pass takes.item new takes.so takes.taken takes.received

  taken_one : (old : OwnerFacts D L) (pass : PassFacts DeskItem) (item : DeskItem) (new : OwnerFacts D L) → Takes DESK_CAPACITY old.desk.pass (Some item) pass
      → ReceivesItem (with_pass pass old) (Some item) new → items_taken new.desk ≡ items_taken old.desk ++ item ∷ []
  taken_one old pass (items.Closed connection) new takes received =
      ap (λ (o : OwnerFacts D L). items_taken o.desk) received ∙ items_more old.desk (items.Closed connection) pass takes
  taken_one old pass (items.Command command) new takes received =
      pass_stays (owned old.guests.rows command) (with_pass pass old) new received ∙ items_more old.desk (items.Command command) pass takes
  taken_one old pass (items.Bans connection session payload) new takes received =
      ap (λ (d : DeskFacts). items_taken d) (list_desk (with_pass pass old) connection session payload new received).0
      ∙ items_more old.desk (items.Bans connection session payload) pass takes

  takes_something : (old : OwnerFacts D L) (pass : PassFacts DeskItem) (item : Option DeskItem) (new : OwnerFacts D L) → true ≡ is_some item → Takes DESK_CAPACITY old.desk.pass item pass
      → ReceivesItem (with_pass pass old) item new → items_taken new.desk ≡ items_taken old.desk → ⊥
  takes_something old pass None new is takes received same = true≢false is
  takes_something old pass (Some item) new is takes received same = not_more (items_taken old.desk) item (sym (taken_one old pass item new takes received) ∙ same)

  waiting_goes : (own : Option Command) (old : OwnerFacts D L) (rest : List Command) (new : OwnerFacts D L)
      → MatchOption own (new ≡ record old { logins = rest }) (λ command. IsGivenOrRefused (record old { logins = rest }) command new) → new.logins ≡ rest
  waiting_goes None old rest new same = ap (λ (o : OwnerFacts D L). o.logins) same
  waiting_goes (Some own) old rest new given = (command_desk (record old { logins = rest }) own new given).1

  serves_something : (next : Next) (old new : OwnerFacts D L) → KeepsLeave next old.desk.leave → Serves next old true new
      → items_taken new.desk ≡ items_taken old.desk → new.desk.leave ≡ old.desk.leave → new.logins ≡ old.logins → ⊥
  serves_something Rest old new keeps rests taken leave logins = true≢false rests.0
  serves_something (Again connection) old new keeps (inl gives) taken leave logins =
      let decided : new.desk.leave ≡ None = ap (λ (o : OwnerFacts D L). o.desk.leave) gives.others in
      let none : None ≡ Some connection = sym decided ∙ leave ∙ keeps in cc
  serves_something (Again connection) old new keeps (inr drops) taken leave logins = true≢false drops.so
  serves_something Goes old new keeps gives taken leave logins =
      not_longer gives.login gives.rest (sym (waiting_goes (owned old.guests.rows gives.login) old gives.rest new gives.given) ∙ logins ∙ gives.first)
  serves_something Take old new keeps takes taken leave logins = takes_something old takes.pass takes.item new takes.so takes.taken takes.received taken

  leave_kept : (old : OwnerFacts D L) → KeepsLeave (next old) old.desk.leave
  leave_kept old = keeps_leave (is_some old.kept.reply) old.desk.leave (nat_lt PENDING_LIMIT (length old.control.pending)) (may_go old) (nat_lt (length old.logins) CONNECTION_LIMIT)

  desk_nothing : (old : OwnerFacts D L) (worked : Bool) (new : OwnerFacts D L) → worked ≡ false → ServesDesk old worked new → HasDoneNothing old new
  desk_nothing old true new is serves = absurd (true≢false is)
  desk_nothing old false new is serves = serves_nothing (next old) old new (leave_kept old) serves

  desk_something : (old : OwnerFacts D L) (worked : Bool) (new : OwnerFacts D L) → worked ≡ true → ServesDesk old worked new
      → items_taken new.desk ≡ items_taken old.desk → new.desk.leave ≡ old.desk.leave → new.logins ≡ old.logins → ⊥
  desk_something old false new is serves taken leave logins = true≢false (sym is)
  desk_something old true new is serves taken leave logins = serves_something (next old) old new (leave_kept old) serves taken leave logins

  -- ---- lag items

  press_nothing : (old : OwnerFacts D L) (worked : Bool) (new : OwnerFacts D L) → worked ≡ false → Presses old worked new → HasDoneNothing old new
  press_nothing old worked new is presses =
      nothing_as old new (presses.1 ∙ ap (λ (o : Option Lag). with_lag o old) (no_item (pressing old) (sym is ∙ presses.0)))

  pressed_one : (found : Option Lag) (old new : OwnerFacts D L) → is_some found ≡ true → new ≡ with_lag found old → is_some new.kept.lag ≡ true
  pressed_one None old new is pressed = absurd (true≢false (sym is))
  pressed_one (Some lag) old new is pressed = ap (λ (o : OwnerFacts D L). is_some o.kept.lag) pressed

  press_something : (old : OwnerFacts D L) (worked : Bool) (new : OwnerFacts D L) → worked ≡ true → Presses old worked new → (is_some new.kept.lag ≡ true) × (old.kept.lag ≡ None)
  press_something old worked new is presses =
      let some : is_some (pressing old) ≡ true = sym presses.0 ∙ is in (
        pressed_one (pressing old) old new some presses.1,
        none_before (length old.logins == 0 || is_some old.kept.lag) (option_and_then lag_for (blocker old)) old.kept.lag (none_where (length old.logins == 0) old.kept.lag) some,
      )

  -- ---- publishing, and the store

  publish_nothing : (old : OwnerFacts D L) (worked : Bool) (new : OwnerFacts D L) → worked ≡ false → Publishes old worked new → HasDoneNothing old new
  publish_nothing old true new is publishes = absurd (true≢false is)
  publish_nothing old false new is same = nothing_as old new same

  publish_something : (old : OwnerFacts D L) (worked : Bool) (new : OwnerFacts D L) → worked ≡ true → Publishes old worked new
      → new.control.publisher.pending ≡ old.control.publisher.pending → ⊥
  publish_something old false new is publishes same = true≢false (sym is)
  publish_something old true new is publishes same =
      let none : old.control.publisher.pending ≡ [] = sym same ∙ ap (λ (o : OwnerFacts D L). o.control.publisher.pending) publishes.1 in
      true≢false (sym (ap (λ (l : List Edit). length l == 0) none) ∙ publishes.0)

  nothing_but : (old : OwnerFacts D L) (archive : Option ArchiveFacts) (scribe : ScribeFacts) (new : OwnerFacts D L) → new ≡ record old { archive = archive; scribe = scribe }
      → puts_in archive ≡ puts_in old.archive → HasDoneNothing old new
  nothing_but old archive scribe new others same = record {
    bells = λ place. ap (λ (o : OwnerFacts D L). puts_at place o.bells) others;
    store = ap (λ (o : OwnerFacts D L). puts_in o.archive) others ∙ same;
    taken = ap (λ (o : OwnerFacts D L). items_taken o.desk) others;
    leave = ap (λ (o : OwnerFacts D L). o.desk.leave) others;
    logins = ap (λ (o : OwnerFacts D L). o.logins) others;
    lag = ap (λ (o : OwnerFacts D L). o.kept.lag) others;
    unpublished = ap (λ (o : OwnerFacts D L). o.control.publisher.pending) others;
    notices = ap (λ (o : OwnerFacts D L). o.control.pending) others;
    given = ap (λ (o : OwnerFacts D L). o.guests.given) others;
    stopped = ap (λ (o : OwnerFacts D L). o.doorway.stopped) others;
  }

  store_nothing : (there noted through : Bool) (old : OwnerFacts D L) (worked : Bool) (new : OwnerFacts D L) → worked ≡ false → ArchivesBy there noted through old worked new → HasDoneNothing old new
  store_nothing false noted through old worked new is rests = nothing_as old new rests.1
  store_nothing true true through old worked new is (inl offers) =
      nothing_but old new.archive old.scribe new offers.others (note_quiet (note_of old.control.publisher) old.archive worked new.archive is offers.offers)
  store_nothing true true through old worked new is (inr lacks) = nothing_but old old.archive (refused old.scribe) new lacks.1 refl
  store_nothing true false true old worked new is ends =
      nothing_but old new.archive old.scribe new ends.others (last_quiet old.archive worked new.archive is ends.tells)
  store_nothing true false false old worked new is rests = nothing_as old new rests.1

  store_something : (there noted through : Bool) (old : OwnerFacts D L) (worked : Bool) (new : OwnerFacts D L) → worked ≡ true → ArchivesBy there noted through old worked new
      → puts_in new.archive ≡ puts_in old.archive → ⊥
  store_something false noted through old worked new is rests same = true≢false (sym is ∙ rests.0)
  store_something true true through old worked new is (inl offers) same = note_took (note_of old.control.publisher) old.archive worked new.archive is offers.offers same
  store_something true true through old worked new is (inr lacks) same = true≢false (sym is ∙ lacks.0)
  store_something true false true old worked new is ends same = last_took old.archive worked new.archive is ends.tells same
  store_something true false false old worked new is rests same = true≢false (sym is ∙ rests.0)

  -- ---- notices

  post_nothing : (kept : Bool) (old : OwnerFacts D L) (worked : Bool) (new : OwnerFacts D L) → worked ≡ false → MatchBool kept (Rests old worked new) (PostsOne old worked new) → HasDoneNothing old new
  post_nothing true old worked new is rests = nothing_as old new rests.1
  post_nothing false old worked new is posts =
      let (none, same) = posted_quiet old.control (due_notices old.control) posts.answer posts.after (sym is ∙ posts.so) posts.posts in
      nothing_as old new
      (posts.others ∙ ap (λ (p : Posted). with_lag (lag_at p old.guests.rows) (record old { control = posts.after })) none ∙ ap (λ (c : ControlFacts). record old { control = c }) same)

  post_something : (kept : Bool) (old : OwnerFacts D L) (worked : Bool) (new : OwnerFacts D L) → worked ≡ true → MatchBool kept (Rests old worked new) (PostsOne old worked new)
      → new.control.pending ≡ old.control.pending → ⊥
  post_something true old worked new is rests same = true≢false (sym is ∙ rests.0)
  post_something false old worked new is posts same =
      posted_took old.control (due_notices old.control) posts.answer posts.after refl (sym is ∙ posts.so) posts.posts
      (sym (ap (λ (o : OwnerFacts D L). o.control.pending) posts.others ∙ ap (λ (c : ControlFacts). c.pending) (lag_control (lag_at posts.answer old.guests.rows) (record old { control = posts.after }))) ∙ same)

  -- ---- the end

  ended_nothing : (b : Bool) (owner : OwnerFacts D L) → HasDoneNothing owner (cond b (record owner { is_ending = true }) owner)
  ended_nothing true owner = record {
    bells = λ place. refl;
    store = refl;
    taken = refl;
    leave = refl;
    logins = refl;
    lag = refl;
    unpublished = refl;
    notices = refl;
    given = refl;
    stopped = refl;
  }
  ended_nothing false owner = nothing_same owner

-- ---- the door

module _ {D L : Type 0} (door_facts : D → DoorFacts) (link_facts : L → LinkFacts) where
  not_stopped : (b : Bool) (owner : OwnerFacts D L) → is_not_to_ask owner ≡ b → b ≡ false → owner.doorway.stopped ≡ false
  not_stopped b owner is none =
      let (kept, over) = or_parts (is_some owner.kept.coming) (is_over owner || not (has_room owner.guests)) (is ∙ none) in
      (or_parts owner.doorway.stopped (are_all_given owner.guests) (or_parts (is_over owner) (not (has_room owner.guests)) over).0).0

  came_nothing : (old : OwnerFacts D L) (new : OwnerFacts D L) (asks : AsksOnce door_facts link_facts old false new) (answer : Accept L) → asks.answer ≡ answer → old.doorway.stopped ≡ false → HasDoneNothing old new
  came_nothing old new asks (accepted.Conn link) is unstopped = absurd (true≢false (sym (asks.so ∙ ap has_answered is)))
  came_nothing old new asks accepted.End is unstopped = absurd (true≢false (sym (asks.so ∙ ap has_answered is)))
  came_nothing old new asks accepted.Failed is unstopped = absurd (true≢false (sym (asks.so ∙ ap has_answered is)))
  came_nothing old new asks accepted.NotYet is unstopped = record {
    bells = λ place. ap (λ (o : OwnerFacts D L). puts_at place o.bells) asks.others;
    store = ap (λ (o : OwnerFacts D L). puts_in o.archive) asks.others;
    taken = ap (λ (o : OwnerFacts D L). items_taken o.desk) asks.others;
    leave = ap (λ (o : OwnerFacts D L). o.desk.leave) asks.others;
    logins = ap (λ (o : OwnerFacts D L). o.logins) asks.others;
    lag = ap (λ (o : OwnerFacts D L). o.kept.lag) asks.others ∙ ap (λ (a : Accept L). (kept_by a (old.guests.given + 1) old.kept).lag) is;
    unpublished = ap (λ (o : OwnerFacts D L). o.control.publisher.pending) asks.others;
    notices = ap (λ (o : OwnerFacts D L). o.control.pending) asks.others;
    given = ap (λ (o : OwnerFacts D L). o.guests.given) asks.others ∙ ap (λ (a : Accept L). (guests_by link_facts a old.guests).given) is;
    stopped = asks.stopped ∙ ap (λ (a : Accept L). stopped_by a false) is ∙ sym unstopped;
  }

  ask_nothing : (b : Bool) (old : OwnerFacts D L) (worked : Bool) (new : OwnerFacts D L) → is_not_to_ask old ≡ b → worked ≡ false → Asks door_facts link_facts b old worked new → HasDoneNothing old new
  ask_nothing true old worked new asked is rests = nothing_as old new rests.1
  ask_nothing false old true new asked is asks = absurd (true≢false is)
  ask_nothing false old false new asked is asks = came_nothing old new asks asks.answer refl (not_stopped false old asked refl)

  came_something : (old new : OwnerFacts D L) (asks : AsksOnce door_facts link_facts old true new) (answer : Accept L) → asks.answer ≡ answer → old.doorway.stopped ≡ false
      → new.guests.given ≡ old.guests.given → new.doorway.stopped ≡ old.doorway.stopped → ⊥
  came_something old new asks (accepted.Conn link) is unstopped given stopped =
      let more : new.guests.given ≡ old.guests.given + 1 = ap (λ (o : OwnerFacts D L). o.guests.given) asks.others ∙ ap (λ (a : Accept L). (guests_by link_facts a old.guests).given) is in
      absurd (omega arith)
  came_something old new asks accepted.NotYet is unstopped given stopped = true≢false (asks.so ∙ ap has_answered is)
  came_something old new asks accepted.End is unstopped given stopped = true≢false (sym (asks.stopped ∙ ap (λ (a : Accept L). stopped_by a false) is) ∙ stopped ∙ unstopped)
  came_something old new asks accepted.Failed is unstopped given stopped = true≢false (sym (asks.stopped ∙ ap (λ (a : Accept L). stopped_by a false) is) ∙ stopped ∙ unstopped)

  ask_something : (b : Bool) (old : OwnerFacts D L) (worked : Bool) (new : OwnerFacts D L) → is_not_to_ask old ≡ b → worked ≡ true → Asks door_facts link_facts b old worked new
      → new.guests.given ≡ old.guests.given → new.doorway.stopped ≡ old.doorway.stopped → ⊥
  ask_something true old worked new asked is rests given stopped = true≢false (sym is ∙ rests.0)
  ask_something false old false new asked is asks given stopped = true≢false (sym is)
  ask_something false old true new asked is asks given stopped = came_something old new asks asks.answer refl (not_stopped false old asked refl) given stopped

  -- ---- what later parts leave

  module _ (old : OwnerFacts D L) (turn : Turn) (new : OwnerFacts D L) (t : OwnerTurned door_facts link_facts old turn new) where
    at_end : HasDoneNothing t.after_door new
    at_end = subst (λ (o : OwnerFacts D L). HasDoneNothing t.after_door o) (sym t.ends) (ended_nothing (is_over t.after_door && is_none t.after_door.kept.coming) t.after_door)

    asked_bells : (b : Bool) → Asks door_facts link_facts b t.after_post t.came t.after_door → t.after_door.bells ≡ t.after_post.bells
    asked_bells true rests = ap (λ (o : OwnerFacts D L). o.bells) rests.1
    asked_bells false asks = ap (λ (o : OwnerFacts D L). o.bells) asks.others

    asked_control : (b : Bool) → Asks door_facts link_facts b t.after_post t.came t.after_door → t.after_door.control ≡ t.after_post.control
    asked_control true rests = ap (λ (o : OwnerFacts D L). o.control) rests.1
    asked_control false asks = ap (λ (o : OwnerFacts D L). o.control) asks.others

    answered_lag : (answer : Accept L) (connection : ℕ) (kept : KeptFacts L) → (kept_by answer connection kept).lag ≡ kept.lag
    answered_lag (accepted.Conn link) connection kept = refl
    answered_lag accepted.NotYet connection kept = refl
    answered_lag accepted.End connection kept = refl
    answered_lag accepted.Failed connection kept = refl

    asked_lag : (b : Bool) → Asks door_facts link_facts b t.after_post t.came t.after_door → t.after_door.kept.lag ≡ t.after_post.kept.lag
    asked_lag true rests = ap (λ (o : OwnerFacts D L). o.kept.lag) rests.1
    asked_lag false asks = ap (λ (o : OwnerFacts D L). o.kept.lag) asks.others ∙ answered_lag asks.answer (t.after_post.guests.given + 1) t.after_post.kept

    control_same : new.control ≡ t.after_post.control
    control_same = ap (λ (o : OwnerFacts D L). o.control) t.ends ∙ ended_control (is_over t.after_door && is_none t.after_door.kept.coming) ∙ asked_control (is_not_to_ask t.after_post) t.asks
      where
        ended_control : (b : Bool) → (cond b (record t.after_door { is_ending = true }) t.after_door).control ≡ t.after_door.control
        ended_control true = refl
        ended_control false = refl

    post : LagStays t.after_archive t.after_post
    post = post_stays t.after_archive t.posted t.after_post t.posts

    shown : PublishStays t.after_press t.after_archive
    shown = shown_stays t.after_press t.published t.after_publish _ t.archived t.after_archive t.publishes t.archives

    bells_after : (place : ℕ) → puts_at place new.bells ≡ puts_at place t.after_offers.bells
    bells_after place =
        at_end.bells place
        ∙ ap (λ (l : List (SideFacts L)). puts_at place l)
        (asked_bells (is_not_to_ask t.after_post) t.asks ∙ post.bells ∙ shown.bells ∙ (press_stays t.after_desk t.pressed t.after_press t.presses).bells
        ∙ (desk_stays t.after_offers t.served t.after_desk t.serves).bells)

    lag_left : (lags : MakesLag t.after_archive t.after_post ⊎ MakesNone t.after_archive t.after_post) → is_some t.after_archive.kept.lag ≡ true → t.after_post.kept.lag ≡ t.after_archive.kept.lag
    lag_left (inl makes) some = absurd (true≢false (sym some ∙ ap (λ (o : Option Lag). is_some o) makes.none))
    lag_left (inr none) some = none.lag

    lag_after : is_some t.after_press.kept.lag ≡ true → is_some new.kept.lag ≡ true
    lag_after some =
        let kept : is_some t.after_archive.kept.lag ≡ true = ap (λ (k : KeptFacts L). is_some k.lag) shown.kept ∙ some in
        ap (λ (o : Option Lag). is_some o) (at_end.lag ∙ asked_lag (is_not_to_ask t.after_post) t.asks ∙ lag_left post.lags kept) ∙ kept

    archives_control : (there noted through : Bool) → ArchivesBy there noted through t.after_publish t.archived t.after_archive → t.after_archive.control ≡ t.after_publish.control
    archives_control false noted through rests = ap (λ (o : OwnerFacts D L). o.control) rests.1
    archives_control true true through (inl offers) = ap (λ (o : OwnerFacts D L). o.control) offers.others
    archives_control true true through (inr lacks) = ap (λ (o : OwnerFacts D L). o.control) lacks.1
    archives_control true false true ends = ap (λ (o : OwnerFacts D L). o.control) ends.others
    archives_control true false false rests = ap (λ (o : OwnerFacts D L). o.control) rests.1

    posts_publisher : (kept : Bool) → MatchBool kept (Rests t.after_archive t.posted t.after_post) (PostsOne t.after_archive t.posted t.after_post) → t.after_post.control.publisher ≡ t.after_archive.control.publisher
    posts_publisher true rests = ap (λ (o : OwnerFacts D L). o.control.publisher) rests.1
    posts_publisher false posts =
        ap (λ (o : OwnerFacts D L). o.control.publisher) posts.others
        ∙ ap (λ (c : ControlFacts). c.publisher) (lag_control (lag_at posts.answer t.after_archive.guests.rows) (record t.after_archive { control = posts.after }))
        ∙ posted_publisher t.after_archive.control (due_notices t.after_archive.control) posts.answer posts.after posts.posts

    unpublished_after : new.control.publisher.pending ≡ t.after_publish.control.publisher.pending
    unpublished_after =
        ap (λ (c : ControlFacts). c.publisher.pending) control_same
        ∙ ap (λ (p : PublisherFacts). p.pending) (posts_publisher (is_some t.after_archive.kept.lag) t.posts)
        ∙ ap (λ (c : ControlFacts). c.publisher.pending) (archives_control (is_some t.after_publish.archive) (makes_note t.after_offers t.after_desk || t.published) (is_through t.after_publish) t.archives)

    -- ---- the whole turn

    to_offers : t.offered ≡ false → HasDoneNothing old t.after_offers
    to_offers is = offers_nothing old t.offered t.after_offers is t.offers

    to_desk : HasDoneNothing old t.after_offers → t.served ≡ false → HasDoneNothing old t.after_desk
    to_desk before is = nothing_then old t.after_offers t.after_desk before (desk_nothing t.after_offers t.served t.after_desk is t.serves)

    to_press : HasDoneNothing old t.after_desk → t.pressed ≡ false → HasDoneNothing old t.after_press
    to_press before is = nothing_then old t.after_desk t.after_press before (press_nothing t.after_desk t.pressed t.after_press is t.presses)

    to_publish : HasDoneNothing old t.after_press → t.published ≡ false → HasDoneNothing old t.after_publish
    to_publish before is = nothing_then old t.after_press t.after_publish before (publish_nothing t.after_press t.published t.after_publish is t.publishes)

    to_archive : HasDoneNothing old t.after_publish → t.archived ≡ false → HasDoneNothing old t.after_archive
    to_archive before is = nothing_then old t.after_publish t.after_archive before
        (store_nothing (is_some t.after_publish.archive) (makes_note t.after_offers t.after_desk || t.published) (is_through t.after_publish) t.after_publish t.archived t.after_archive is t.archives)

    to_post : HasDoneNothing old t.after_archive → t.posted ≡ false → HasDoneNothing old t.after_post
    to_post before is = nothing_then old t.after_archive t.after_post before (post_nothing (is_some t.after_archive.kept.lag) t.after_archive t.posted t.after_post is t.posts)

    to_door : HasDoneNothing old t.after_post → t.came ≡ false → HasDoneNothing old t.after_door
    to_door before is = nothing_then old t.after_post t.after_door before (ask_nothing (is_not_to_ask t.after_post) t.after_post t.came t.after_door refl is t.asks)

    pub idle_shows : turn ≡ Idle → HasDoneNothing old new × (has_ended new ≡ false)
    idle_shows is =
        let (not_done, none) = idle_says (has_ended new) (t.offered || (t.served || (t.pressed || (t.published || (t.archived || (t.posted || t.came)))))) (sym is ∙ t.came_to) in
        let (offered, a) = or_parts t.offered (t.served || (t.pressed || (t.published || (t.archived || (t.posted || t.came))))) none in
        let (served, b) = or_parts t.served (t.pressed || (t.published || (t.archived || (t.posted || t.came)))) a in
        let (pressed, c) = or_parts t.pressed (t.published || (t.archived || (t.posted || t.came))) b in
        let (published, d) = or_parts t.published (t.archived || (t.posted || t.came)) c in
        let (archived, e) = or_parts t.archived (t.posted || t.came) d in
        let (posted, came) = or_parts t.posted t.came e in
        let before = to_door (to_post (to_archive (to_publish (to_press (to_desk (to_offers offered) served) pressed) published) archived) posted) came in
        (nothing_then old t.after_door new before at_end, not_done)

    pub worked_shows : 0 < length old.bells → turn ≡ Worked → HasDoneNothing old new → ⊥
    worked_shows some is nothing =
        let worked = worked_says (has_ended new) (t.offered || (t.served || (t.pressed || (t.published || (t.archived || (t.posted || t.came)))))) (sym is ∙ t.came_to) in
        first_so t.offered (t.served || (t.pressed || (t.published || (t.archived || (t.posted || t.came))))) worked
        (λ offered. offers_something old t.offered t.after_offers offered some t.offers (λ place. sym (bells_after place) ∙ nothing.bells place))
        (λ offered a. let offers = to_offers offered in
        first_so t.served (t.pressed || (t.published || (t.archived || (t.posted || t.came)))) a
        (λ served. let desk = turned_desk door_facts link_facts old turn new t in
        desk_something t.after_offers t.served t.after_desk served t.serves
        (sym (ap (λ (d : DeskFacts). items_taken d) desk.0) ∙ nothing.taken ∙ sym offers.taken)
        (sym (ap (λ (d : DeskFacts). d.leave) desk.0) ∙ nothing.leave ∙ sym offers.leave)
        (sym desk.1 ∙ nothing.logins ∙ sym offers.logins))
        (λ served b. let desk = to_desk offers served in
        first_so t.pressed (t.published || (t.archived || (t.posted || t.came))) b
        (λ pressed. let (some_lag, none) = press_something t.after_desk t.pressed t.after_press pressed t.presses in
        true≢false (sym (lag_after some_lag) ∙ ap (λ (o : Option Lag). is_some o) (nothing.lag ∙ sym desk.lag ∙ none)))
        (λ pressed c. let press = to_press desk pressed in
        first_so t.published (t.archived || (t.posted || t.came)) c
        (λ published. publish_something t.after_press t.published t.after_publish published t.publishes (sym unpublished_after ∙ nothing.unpublished ∙ sym press.unpublished))
        (λ published d. let publish = to_publish press published in
        first_so t.archived (t.posted || t.came) d
        (λ archived.
        store_something (is_some t.after_publish.archive) (makes_note t.after_offers t.after_desk || t.published) (is_through t.after_publish) t.after_publish t.archived t.after_archive archived t.archives
        (sym (ap puts_in (behind_store door_facts link_facts old turn new t).archive) ∙ nothing.store ∙ sym publish.store))
        (λ archived e. let archive = to_archive publish archived in
        first_so t.posted t.came e
        (λ posted. post_something (is_some t.after_archive.kept.lag) t.after_archive t.posted t.after_post posted t.posts
        (sym (ap (λ (c : ControlFacts). c.pending) control_same) ∙ nothing.notices ∙ sym archive.notices))
        (λ posted came. let post = to_post archive posted in
        ask_something (is_not_to_ask t.after_post) t.after_post t.came t.after_door refl came t.asks
        (sym at_end.given ∙ nothing.given ∙ sym post.given) (sym at_end.stopped ∙ nothing.stopped ∙ sym post.stopped)))))))

    pub done_shows : turn ≡ Done → has_ended new ≡ true
    done_shows is = done_says (has_ended new) _ (sym is ∙ t.came_to)

    pub done_where : has_ended new ≡ true → turn ≡ Done
    done_where is = t.came_to ∙ ap (λ (b : Bool). turn_of b (t.offered || (t.served || (t.pressed || (t.published || (t.archived || (t.posted || t.came))))))) is
