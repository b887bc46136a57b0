-- A connection lags once: what is kept of a lag item that was made, over each part of a turn and over turns.
use Rattle.mum_owner.proofs.Common.{◌≡◌, ◌≢◌, ◌∙◌, ℕ, ◌≤◌, ◌⊎◌, Bool, true, false, cond, List, [], ◌∷◌, ◌++◌, Option, Some, None, refl, ap, sym, subst, inl, inr, arith, rules, append_assoc, ◌&&◌, All, is_none, option_to_list, AllPairs, All-append, All-cons, AllPairs-cons, QueueId, ControlFacts, TurnsTo, Turn, Accept, DoorFacts, LinkFacts, GuestsFacts, OwnerFacts, lags_made, made, IsOpened, Asks, OwnerTurned, guests_by, is_not_to_ask, is_over, Guest, Lag}
use Rattle.mum_owner.proofs.{Lagging.AllLagged, Lagging.AllWithin, Lagging.HasUnlagged, Lagging.RowsStay, Lagging.all_noted, Lagging.lagged_entered, Lagging.never_both, Lagging.rows_equal, Lagging.rows_noted, Lagging.unlagged_within, Lagging.within_entered, Steps.DeskStays, Steps.LagStays, Steps.MakesLag, Steps.MakesNone, Steps.PublishStays, Steps.desk_stays, Steps.post_stays, Steps.press_stays, Steps.shown_stays}
use Rattle.mum_io.specs.declared.door.Accept.TheVariants as accepted

-- ---- the open connections

-- a lag item was made for a connection that was given
pub record HasLagged (connection : ℕ) (guests : GuestsFacts) : Type 0 where
  pub all : AllLagged connection guests.rows
  pub was_given : connection ≤ guests.given

-- each that is open was given
abbrev pub WereGiven : GuestsFacts → Type 0
WereGiven guests = AllWithin guests.given guests.rows

-- what was made stays made
pub record GoesOn (old new : GuestsFacts) : Type 0 where
  pub lagged : (connection : ℕ) → HasLagged connection old → HasLagged connection new
  pub given : WereGiven old → WereGiven new

by_rows : (old new : GuestsFacts) → RowsStay old.rows new.rows → new.given ≡ old.given → GoesOn old new
by_rows old new stay same = record {
  lagged = λ connection has. record { all = stay.lagged connection has.all; was_given = subst (λ (n : ℕ). connection ≤ n) (sym same) has.was_given };
  given = λ were. subst (λ (n : ℕ). AllWithin n new.rows) (sym same) (stay.within old.given were);
}

by_same : (old new : GuestsFacts) → new ≡ old → GoesOn old new
by_same old new same = by_rows old new (rows_equal old.rows new.rows (ap (λ (g : GuestsFacts). g.rows) same)) (ap (λ (g : GuestsFacts). g.given) same)

then_on : (old mid new : GuestsFacts) → GoesOn old mid → GoesOn mid new → GoesOn old new
then_on old mid new one other = record {
  lagged = λ connection has. other.lagged connection (one.lagged connection has);
  given = λ were. other.given (one.given were);
}

by_answer : {L : Type 0} (link_facts : L → LinkFacts) (answer : Accept L) (guests : GuestsFacts) → GoesOn guests (guests_by link_facts answer guests)
by_answer link_facts (accepted.Conn link) guests = record {
  lagged = λ connection has. record {
    all = lagged_entered connection guests.given (link_facts link).address guests.rows has.was_given has.all;
    was_given = let was = has.was_given in omega (arith, was);
  };
  given = λ were. within_entered guests.given (link_facts link).address guests.rows were;
}
by_answer link_facts accepted.NotYet guests = by_same guests guests refl
by_answer link_facts accepted.End guests = by_same guests guests refl
by_answer link_facts accepted.Failed guests = by_same guests guests refl

made_same : {X : Type 0} (x : Option X) → made x x ≡ []
made_same None = refl
made_same (Some x) = refl

-- it is of another connection
abbrev IsOther : ℕ → Lag → Type 0
IsOther connection lag = connection ≢ lag.connection

abbrev AreTwo : Lag → Lag → Type 0
AreTwo one other = one.connection ≢ other.connection

none_other : (connection : ℕ) → All (IsOther connection) []
none_other connection = search rules

none_two : AllPairs AreTwo []
none_two = search rules

module _ {D L : Type 0} where
  -- ---- one part

  lag_rows : (old new : OwnerFacts D L) → LagStays old new → RowsStay old.guests.rows new.guests.rows
  lag_rows old new stays = by stays.lags
    where
      by : MakesLag old new ⊎ MakesNone old new → RowsStay old.guests.rows new.guests.rows
      by (inl m) = subst (λ (rows : List Guest). RowsStay old.guests.rows rows) (sym m.rows) (rows_noted m.item.connection old.guests.rows)
      by (inr m) = rows_equal old.guests.rows new.guests.rows m.rows

  lag_on : (old new : OwnerFacts D L) → LagStays old new → GoesOn old.guests new.guests
  lag_on old new stays = by_rows old.guests new.guests (lag_rows old new stays) stays.given

  made_one : (old new : OwnerFacts D L) (m : MakesLag old new) → made old.kept.lag new.kept.lag ≡ m.item ∷ []
  made_one old new m = ap (λ (l : Option Lag). made l new.kept.lag) m.none ∙ ap (λ (l : Option Lag). option_to_list l) m.some

  made_none : (old new : OwnerFacts D L) (m : MakesNone old new) → made old.kept.lag new.kept.lag ≡ []
  made_none old new m = ap (λ (l : Option Lag). made old.kept.lag l) m.lag ∙ made_same old.kept.lag

  -- none is made for a connection for which one was made
  others_made : (connection : ℕ) (old new : OwnerFacts D L) → HasLagged connection old.guests → MakesLag old new ⊎ MakesNone old new
      → All (IsOther connection) (made old.kept.lag new.kept.lag)
  others_made connection old new has (inl m) =
      let other : IsOther connection m.item = λ same. never_both connection old.guests.rows has.all (subst (λ (n : ℕ). HasUnlagged n old.guests.rows) (sym same) m.unlagged) in
      subst (All (IsOther connection)) (sym (made_one old new m)) (All-cons (IsOther connection) m.item [] other (none_other connection))
  others_made connection old new has (inr m) = subst (All (IsOther connection)) (sym (made_none old new m)) (none_other connection)

  -- for the connection of one that is made, one was made from then on
  has_lagged : (old new : OwnerFacts D L) (m : MakesLag old new) → new.guests.given ≡ old.guests.given → WereGiven old.guests → HasLagged m.item.connection new.guests
  has_lagged old new m same were = record {
    all = subst (AllLagged m.item.connection) (sym m.rows) (all_noted m.item.connection old.guests.rows);
    was_given = subst (λ (n : ℕ). m.item.connection ≤ n) (sym same) (unlagged_within m.item.connection old.guests.given old.guests.rows were m.unlagged);
  }

  -- one that is made is of another connection than those after it
  apart : (old new : OwnerFacts D L) (rest : List Lag) → new.guests.given ≡ old.guests.given → WereGiven old.guests
      → ((connection : ℕ) → HasLagged connection new.guests → All (IsOther connection) rest) → AllPairs AreTwo rest → MakesLag old new ⊎ MakesNone old new
      → AllPairs AreTwo (made old.kept.lag new.kept.lag ++ rest)
  apart old new rest same were later pairs (inl m) =
      subst (λ (l : List Lag). AllPairs AreTwo (l ++ rest)) (sym (made_one old new m))
      (AllPairs-cons AreTwo m.item rest (later m.item.connection (has_lagged old new m same were)) pairs)
  apart old new rest same were later pairs (inr m) = subst (λ (l : List Lag). AllPairs AreTwo (l ++ rest)) (sym (made_none old new m)) pairs

  ended_by : (b : Bool) (owner : OwnerFacts D L) → (cond b (record owner { is_ending = true }) owner).guests ≡ owner.guests
  ended_by true owner = refl
  ended_by false owner = refl

module _ {D L : Type 0} (door_facts : D → DoorFacts) (link_facts : L → LinkFacts) where
  asks_on : (b : Bool) (old : OwnerFacts D L) (worked : Bool) (new : OwnerFacts D L) → Asks door_facts link_facts b old worked new → GoesOn old.guests new.guests
  asks_on true old worked new rests = by_same old.guests new.guests (ap (λ (o : OwnerFacts D L). o.guests) rests.1)
  asks_on false old worked new asks =
      subst (λ (g : GuestsFacts). GoesOn old.guests g) (sym (ap (λ (o : OwnerFacts D L). o.guests) asks.others)) (by_answer link_facts asks.answer old.guests)

  module _ (old : OwnerFacts D L) (turn : Turn) (new : OwnerFacts D L) (t : OwnerTurned door_facts link_facts old turn new) where
    press : LagStays t.after_desk t.after_press
    press = press_stays t.after_desk t.pressed t.after_press t.presses

    post : LagStays t.after_archive t.after_post
    post = post_stays t.after_archive t.posted t.after_post t.posts

    to_press : GoesOn old.guests t.after_desk.guests
    to_press =
        let stays : DeskStays t.after_offers t.after_desk = desk_stays t.after_offers t.served t.after_desk t.serves in
        then_on old.guests t.after_offers.guests t.after_desk.guests
        (by_same old.guests t.after_offers.guests (ap (λ (o : OwnerFacts D L). o.guests) t.offers.others))
        (by_rows t.after_offers.guests t.after_desk.guests stays.rows stays.given)

    to_post : GoesOn t.after_press.guests t.after_archive.guests
    to_post =
        let stays : PublishStays t.after_press t.after_archive = shown_stays t.after_press t.published t.after_publish _ t.archived t.after_archive t.publishes t.archives in
        by_same t.after_press.guests t.after_archive.guests stays.guests

    to_end : GoesOn t.after_post.guests new.guests
    to_end =
        then_on t.after_post.guests t.after_door.guests new.guests (asks_on (is_not_to_ask t.after_post) t.after_post t.came t.after_door t.asks)
        (by_same t.after_door.guests new.guests
        (ap (λ (o : OwnerFacts D L). o.guests) t.ends ∙ ended_by (is_over t.after_door && is_none t.after_door.kept.coming) t.after_door))

  -- none is made any more for a connection for which one was made
  never_again : (connection : ℕ) (old : OwnerFacts D L) (turns : List Turn) (new : OwnerFacts D L) (all : TurnsTo (OwnerTurned door_facts link_facts) old turns new)
      → HasLagged connection old.guests → All (IsOther connection) (lags_made door_facts link_facts old turns new all)
  never_again connection old [] new all has = none_other connection
  never_again connection old (turn ∷ turns) new all has =
      let t = all.1 in
      let at_press = (to_press old turn all.0 t).lagged connection has in
      let at_post = (to_post old turn all.0 t).lagged connection ((lag_on t.after_desk t.after_press (press old turn all.0 t)).lagged connection at_press) in
      let at_end = (to_end old turn all.0 t).lagged connection ((lag_on t.after_archive t.after_post (post old turn all.0 t)).lagged connection at_post) in
      All-append (IsOther connection) (made t.after_desk.kept.lag t.after_press.kept.lag ++ made t.after_archive.kept.lag t.after_post.kept.lag)
      (lags_made door_facts link_facts all.0 turns new all.2)
      (All-append (IsOther connection) (made t.after_desk.kept.lag t.after_press.kept.lag) (made t.after_archive.kept.lag t.after_post.kept.lag)
      (others_made connection t.after_desk t.after_press at_press (press old turn all.0 t).lags)
      (others_made connection t.after_archive t.after_post at_post (post old turn all.0 t).lags))
      (never_again connection all.0 turns new all.2 at_end)

  once_each : (old : OwnerFacts D L) (turns : List Turn) (new : OwnerFacts D L) (all : TurnsTo (OwnerTurned door_facts link_facts) old turns new) → WereGiven old.guests
      → AllPairs AreTwo (lags_made door_facts link_facts old turns new all)
  once_each old [] new all were = none_two
  once_each old (turn ∷ turns) new all were =
      let t = all.1 in
      let pressed = press old turn all.0 t in
      let posted = post old turn all.0 t in
      let behind = lags_made door_facts link_facts all.0 turns new all.2 in
      let at_press = (to_press old turn all.0 t).given were in
      let at_post = (to_post old turn all.0 t).given ((lag_on t.after_desk t.after_press pressed).given at_press) in
      let at_end = (to_end old turn all.0 t).given ((lag_on t.after_archive t.after_post posted).given at_post) in
      let later : (connection : ℕ) → HasLagged connection t.after_post.guests → All (IsOther connection) behind =
      λ connection has. never_again connection all.0 turns new all.2 ((to_end old turn all.0 t).lagged connection has) in
      let from_post : AllPairs AreTwo (made t.after_archive.kept.lag t.after_post.kept.lag ++ behind) =
      apart t.after_archive t.after_post behind posted.given at_post later (once_each all.0 turns new all.2 at_end) posted.lags in
      let from_press : (connection : ℕ) → HasLagged connection t.after_press.guests → All (IsOther connection) (made t.after_archive.kept.lag t.after_post.kept.lag ++ behind) =
      λ connection has.
      let there = (to_post old turn all.0 t).lagged connection has in
      All-append (IsOther connection) (made t.after_archive.kept.lag t.after_post.kept.lag) behind
      (others_made connection t.after_archive t.after_post there posted.lags)
      (later connection ((lag_on t.after_archive t.after_post posted).lagged connection there)) in
      subst (AllPairs AreTwo) (sym (append_assoc (made t.after_desk.kept.lag t.after_press.kept.lag) (made t.after_archive.kept.lag t.after_post.kept.lag) behind))
      (apart t.after_desk t.after_press (made t.after_archive.kept.lag t.after_post.kept.lag ++ behind) pressed.given at_press from_press from_post pressed.lags)

  -- from the opening on
  pub lags_once : (control : ControlFacts) (door : D) (connections : ℕ) (journal : Bool) (queues : List QueueId) (store : Option QueueId) (opened owner : OwnerFacts D L) (turns : List Turn)
      → IsOpened control door connections journal queues store opened → (all : TurnsTo (OwnerTurned door_facts link_facts) opened turns owner)
      → AllPairs (λ one other. one.connection ≢ other.connection) (lags_made door_facts link_facts opened turns owner all)
  lags_once control door connections journal queues store opened owner turns new all =
      once_each opened turns owner all (subst (λ (g : GuestsFacts). WereGiven g) (sym (ap (λ (o : OwnerFacts D L). o.guests) new)) tt)
