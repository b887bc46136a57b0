-- Commands on their way from the desk to the control owner, over each part of a turn and over turns.
use Rattle.mum_owner.proofs.Common.{◌≡◌, ◌∙◌, ◌⊎◌, ℕ, suc, Bool, true, false, cond, not, List, [], ◌∷◌, ◌++◌, length, map, Option, Some, None, refl, ap, sym, subst, inl, inr, arith, append_assoc, ◌==◌, ◌&&◌, filter, is_none, is_some, nat_lt, MatchOption, option_to_list, cons_option, filter_map, eqb-true, append-nil, map-append, filter-append, filter_map-append, CONNECTION_LIMIT, ControlFacts, TurnsTo, Turn, DoorFacts, LinkFacts, Takes, PassFacts, QueueId, DESK_CAPACITY, DeskItem, Join, Kick, Leave, Query, Target, Text, Asked, Tree, User, Command, SessionId, ReplyFacts, sent, WardenFacts, verdict_in, Book, DeskFacts, OwnerFacts, owned, Settled, command_in, commands_given, commands_owned, commands_settled, commands_taken, is_other, items_taken, leave_in, leave_where, leaves_decided, nothing, one_tested, settled, settled_by, settled_given, settled_item, settled_owned, settled_waiting, IsOpened, Answers, IsGivenOrRefused, ListComesTo, SettledBy, SettlesList, TestedBy, ban_reply, banned_in, book_after, is_banned, list_reply, with_warden, IsGiven, roll_of, GivesWaiting, LeaveIsGiven, Next, Receives, ReceivesBy, ReceivesItem, Serves, ServesDesk, leave_after, may_go, must_wait, next, next_by, with_pass, Again, Goes, Rest, Take, Asks, OwnerTurned, is_not_to_ask, is_over, is_join, is_leave, is_login, PENDING_LIMIT, Guest}
use Rattle.mum_owner.proofs.Steps.{LagStays, PublishStays, post_stays, press_stays, shown_stays}
use Rattle.mum_port.specs.declared.item.DeskItem.TheVariants as items
use Rattle.mum_rules_user.specs.declared.message.UserMessage.TheVariants as about

-- each is a login
abbrev pub AreLogins : List Command → Type 0
AreLogins [] = Unit {0}
AreLogins (command ∷ commands) = (is_login command ≡ true) × AreLogins commands

login_behind : (logins : List Command) (login : Command) → AreLogins logins → is_login login ≡ true → AreLogins (logins ++ login ∷ [])
login_behind [] login are is = (is, are)
login_behind (first ∷ logins) login are is = (are.0, login_behind logins login are.1 is)

-- of the commands of open connections that were taken these were given, these settled and these leaves decided, and the
-- others wait
pub record IsServed (leave : Option ℕ) (waiting taken given done : List Command) (decided : List ℕ) : Type 0 where
  pub logins : filter is_login taken ≡ filter is_login done ++ waiting
  pub others : filter is_other taken ≡ filter is_other given
  pub leaves : filter_map leave_in taken ≡ decided ++ option_to_list leave
  pub are_logins : AreLogins waiting

-- the same, and what a part of a turn took and settled, where these were the guests
abbrev pub IsServedBy : Option ℕ → List Command → List Command → List Command → List Command → List ℕ → List Guest → Settled → Type 0
IsServedBy leave waiting taken given done decided rows what =
    IsServed leave waiting (taken ++ filter_map (owned rows) what.taken) (given ++ what.commands) (done ++ (what.commands ++ (what.banned ++ what.dropped))) (decided ++ what.leaves)

served_as : (old leave : Option ℕ) (were waiting taken given done : List Command) (decided : List ℕ) → leave ≡ old → waiting ≡ were
    → IsServed old were taken given done decided → IsServed leave waiting taken given done decided
served_as old leave were waiting taken given done decided same stay served =
    subst (λ (o : Option ℕ). IsServed o waiting taken given done decided) (sym same)
    (subst (λ (w : List Command). IsServed old w taken given done decided) (sym stay) served)

-- nothing more
served_more : (leave : Option ℕ) (waiting taken given done : List Command) (decided : List ℕ) → IsServed leave waiting taken given done decided
    → IsServed leave waiting (taken ++ []) (given ++ []) (done ++ []) (decided ++ [])
served_more leave waiting taken given done decided served = record {
  logins =
      ap (λ (l : List Command). filter is_login l) (append-nil taken) ∙ served.logins
      ∙ ap (λ (l : List Command). filter is_login l ++ waiting) (sym (append-nil done));
  others =
      ap (λ (l : List Command). filter is_other l) (append-nil taken) ∙ served.others
      ∙ ap (λ (l : List Command). filter is_other l) (sym (append-nil given));
  leaves =
      ap (λ (l : List Command). filter_map leave_in l) (append-nil taken) ∙ served.leaves
      ∙ ap (λ (l : List ℕ). l ++ option_to_list leave) (sym (append-nil decided));
  are_logins = served.are_logins;
}

-- ---- an item that is taken

listed_so : {X : Type 0} (o : Option X) → cons_option o [] ≡ option_to_list o
listed_so None = refl
listed_so (Some x) = refl

found_more : {X Y : Type 0} (f : X → Option Y) (xs : List X) (x : X) → filter_map f (xs ++ x ∷ []) ≡ filter_map f xs ++ option_to_list (f x)
found_more f xs x = filter_map-append f xs (x ∷ []) ∙ ap (λ l. filter_map f xs ++ l) (listed_so (f x))

pub items_more : (desk : DeskFacts) (item : DeskItem) (pass : PassFacts DeskItem) → Takes DESK_CAPACITY desk.pass (Some item) pass
    → items_taken (record desk { pass = pass }) ≡ items_taken desk ++ item ∷ []
items_more desk item pass takes =
    ap (λ (p : PassFacts DeskItem). items_taken (record desk { pass = p })) takes.2 ∙ map-append (λ tagged. tagged.item) desk.pass.taken (takes.0 ∷ [])
    ∙ ap (λ (i : DeskItem). items_taken desk ++ i ∷ []) takes.1

pub items_same : (desk : DeskFacts) (pass : PassFacts DeskItem) → Takes DESK_CAPACITY desk.pass None pass → items_taken (record desk { pass = pass }) ≡ items_taken desk
items_same desk pass takes = ap (λ (p : PassFacts DeskItem). items_taken (record desk { pass = p })) takes.0

-- ---- a leave

leave_split : (decided : Bool) (connection : ℕ) (before : List ℕ)
    → (before ++ option_to_list (leave_where decided connection)) ++ option_to_list (leave_after decided connection) ≡ before ++ connection ∷ []
leave_split true connection before = append-nil (before ++ connection ∷ [])
leave_split false connection before = ap (λ (l : List ℕ). l ++ connection ∷ []) (append-nil before)

-- a leave is no login
leave_no_login : (logged : Bool) (what : Asked) → is_leave what ≡ true → (logged && is_join what) ≡ false
leave_no_login false what is = refl
leave_no_login true (Tree message) is = refl
leave_no_login true (User (Join login version)) is = cc
leave_no_login true (User (about.User message)) is = refl
leave_no_login true (User (Kick message)) is = refl
leave_no_login true (User (Text message)) is = refl
leave_no_login true (User (Target message)) is = refl
leave_no_login true (User (Query message)) is = refl
leave_no_login true (User Leave) is = refl

-- a leave, over what is filtered
leave_dropped : (b : Bool) (command : Command) (front : List Command) → b ≡ false → front ++ cond b (command ∷ []) [] ≡ front
leave_dropped b command front is = ap (λ (a : Bool). front ++ cond a (command ∷ []) []) is ∙ append-nil front

not_other : (login leave : Bool) → leave ≡ true → (not login && not leave) ≡ false
not_other true leave is = refl
not_other false leave is = ap (λ (b : Bool). not b) is

login_not_other : (login leave : Bool) → login ≡ true → (not login && not leave) ≡ false
login_not_other login leave is = ap (λ (b : Bool). not b && not leave) is

leave_found : (b : Bool) (connection : ℕ) → b ≡ true → option_to_list (leave_where b connection) ≡ connection ∷ []
leave_found b connection is = ap (λ (a : Bool). option_to_list (leave_where a connection)) is

leave_none : (b : Bool) (connection : ℕ) (before : List ℕ) → b ≡ false → before ++ option_to_list (leave_where b connection) ≡ before
leave_none b connection before is = ap (λ (a : Bool). before ++ option_to_list (leave_where a connection)) is ∙ append-nil before

-- ---- a login that comes

both_so : (a b : Bool) → (a && b) ≡ true → a ≡ true
both_so true b so = refl
both_so false b so = cc

second_so : (a b : Bool) → (a && b) ≡ false → a ≡ true → b ≡ false
second_so true b so yes_a = so
second_so false b so yes_a = cc

empty_so : (logins : List Command) → (length logins == 0) ≡ true → logins ≡ []
empty_so [] so = refl
empty_so (login ∷ logins) so = let none : suc (length logins) ≡ 0 = eqb-true (suc (length logins)) 0 so in absurd (omega (arith, none))

none_waits : (b blocked : Bool) (logins : List Command) → (length logins == 0) ≡ b → cond b blocked true ≡ false → logins ≡ []
none_waits true blocked logins is so = empty_so logins is
none_waits false blocked logins is so = cc

swapped : (front waiting last : List Command) → waiting ≡ [] → (front ++ waiting) ++ last ≡ (front ++ last) ++ waiting
swapped front waiting last none =
    ap (λ (w : List Command). (front ++ w) ++ last) none ∙ ap (λ (l : List Command). l ++ last) (append-nil front) ∙ sym (append-nil (front ++ last))
    ∙ ap (λ (w : List Command). (front ++ last) ++ w) (sym none)

given_login : (b : Bool) (command : Command) (front waiting : List Command) → (b ≡ true → waiting ≡ [])
    → (front ++ waiting) ++ cond b (command ∷ []) [] ≡ (front ++ cond b (command ∷ []) []) ++ waiting
given_login true command front waiting none = swapped front waiting (command ∷ []) (none refl)
given_login false command front waiting none = append-nil (front ++ waiting) ∙ ap (λ (l : List Command). l ++ waiting) (sym (append-nil front))

-- a login that waited goes, and is the last of those that went
went_logins : (login : Command) (rest taken done : List Command) → is_login login ≡ true → filter is_login taken ≡ filter is_login done ++ (login ∷ rest)
    → filter is_login (taken ++ []) ≡ filter is_login (done ++ login ∷ []) ++ rest
went_logins login rest taken done is served =
    ap (λ (l : List Command). filter is_login l) (append-nil taken) ∙ served ∙ sym (append_assoc (filter is_login done) (login ∷ []) rest)
    ∙ ap (λ (b : Bool). (filter is_login done ++ cond b (login ∷ []) []) ++ rest) (sym is)
    ∙ ap (λ (l : List Command). l ++ rest) (sym (filter-append is_login done (login ∷ [])))

-- ---- a command that was given or refused

abbrev pub gave : Command → Settled
gave lay = record nothing { commands = lay ∷ [] }

abbrev pub turned_away : Command → Settled
turned_away lay = record nothing { banned = lay ∷ [] }

-- it was given, or is a login and was refused
abbrev pub IsOneOf : Bool → Command → Settled → Type 0
IsOneOf login lay what = (what ≡ gave lay) ⊎ ((what ≡ turned_away lay) × (login ≡ true))

tested_one : (login banned : Bool) (lay : Command) → login ≡ true → IsOneOf login lay (one_tested banned lay)
tested_one login true lay is = inr (refl, is)
tested_one login false lay is = inl refl

-- a login that waited goes, whether it was given or not
went_served : (what : Settled) (leave : Option ℕ) (login : Command) (rest taken given done : List Command) (decided : List ℕ) → IsOneOf true login what
    → IsServed leave (login ∷ rest) taken given done decided
    → IsServed leave rest (taken ++ []) (given ++ what.commands) (done ++ (what.commands ++ (what.banned ++ what.dropped))) (decided ++ what.leaves)
went_served what leave login rest taken given done decided one served = by one
  where
    none_other : filter is_other (login ∷ []) ≡ []
    none_other = leave_dropped (is_other login) login [] (login_not_other (is_login login) (is_leave login.what) served.are_logins.0)

    as_one : (more : List Command) → filter is_other given ≡ filter is_other (given ++ more)
        → IsServed leave rest (taken ++ []) (given ++ more) (done ++ login ∷ []) (decided ++ [])
    as_one more others = record {
      logins = went_logins login rest taken done served.are_logins.0 served.logins;
      others = ap (λ (l : List Command). filter is_other l) (append-nil taken) ∙ served.others ∙ others;
      leaves =
          ap (λ (l : List Command). filter_map leave_in l) (append-nil taken) ∙ served.leaves
          ∙ ap (λ (l : List ℕ). l ++ option_to_list leave) (sym (append-nil decided));
      are_logins = served.are_logins.1;
    }

    by : IsOneOf true login what → IsServed leave rest (taken ++ []) (given ++ what.commands) (done ++ (what.commands ++ (what.banned ++ what.dropped))) (decided ++ what.leaves)
    by (inl is) =
        subst (λ (w : Settled). IsServed leave rest (taken ++ []) (given ++ w.commands) (done ++ (w.commands ++ (w.banned ++ w.dropped))) (decided ++ w.leaves)) (sym is)
        (as_one (login ∷ [])
        (sym (filter-append is_other given (login ∷ []) ∙ ap (λ (l : List Command). filter is_other given ++ l) none_other ∙ append-nil (filter is_other given))))
    by (inr is) =
        subst (λ (w : Settled). IsServed leave rest (taken ++ []) (given ++ w.commands) (done ++ (w.commands ++ (w.banned ++ w.dropped))) (decided ++ w.leaves)) (sym is.0)
        (as_one [] (ap (λ (l : List Command). filter is_other l) (sym (append-nil given))))

-- the login of a connection, whatever it is given as
any_one : (login : Bool) (lay : Command) (what : Settled) → IsOneOf login lay what → IsOneOf true lay what
any_one login lay what (inl is) = inl is
any_one login lay what (inr is) = inr (is.0, refl)

-- a command that was given or refused is not taken again
no_more_taken : (login : Bool) (lay : Command) (what : Settled) → IsOneOf login lay what → what.taken ≡ []
no_more_taken login lay what (inl is) = ap (λ (w : Settled). w.taken) is
no_more_taken login lay what (inr is) = ap (λ (w : Settled). w.taken) is.0

-- ---- what is done next

-- the leave that is kept is the one that is given again, and none is kept where an item is taken
abbrev pub KeepsLeave : Next → Option ℕ → Type 0
KeepsLeave Rest leave = Unit {0}
KeepsLeave (Again connection) leave = leave ≡ Some connection
KeepsLeave Goes leave = Unit {0}
KeepsLeave Take leave = leave ≡ None

pub keeps_leave : (reply : Bool) (leave : Option ℕ) (many goes room : Bool) → KeepsLeave (next_by reply leave many goes room) leave
keeps_leave true leave many goes room = tt
keeps_leave false (Some connection) many goes room = refl
keeps_leave false None true goes room = tt
keeps_leave false None false true room = tt
keeps_leave false None false false true = refl
keeps_leave false None false false false = tt

module _ {D L : Type 0} where
  given_desk : (old : OwnerFacts D L) (command : Command) (new : OwnerFacts D L) → IsGiven old command new → (new.desk ≡ old.desk) × (new.logins ≡ old.logins)
  given_desk old command new (inl gives) = (ap (λ (o : OwnerFacts D L). o.desk) gives.others, ap (λ (o : OwnerFacts D L). o.logins) gives.others)
  given_desk old command new (inr drops) = (ap (λ (o : OwnerFacts D L). o.desk) drops.others, ap (λ (o : OwnerFacts D L). o.logins) drops.others)

  -- ---- bans

  replied_desk : (old : OwnerFacts D L) (reply : ReplyFacts) (new : OwnerFacts D L) → Answers old reply new → (new.desk ≡ old.desk) × (new.logins ≡ old.logins)
  replied_desk old reply new (inl is) = (ap (λ (o : OwnerFacts D L). o.desk) is, ap (λ (o : OwnerFacts D L). o.logins) is)
  replied_desk old reply new (inr is) = (ap (λ (o : OwnerFacts D L). o.desk) is, ap (λ (o : OwnerFacts D L). o.logins) is)

  tested_desk : (banned : Bool) (old : OwnerFacts D L) (login : Command) (new : OwnerFacts D L) → TestedBy banned old login new → (new.desk ≡ old.desk) × (new.logins ≡ old.logins)
  tested_desk true old login new answers = replied_desk old (ban_reply (roll_of old) login.connection) new answers
  tested_desk false old login new given = given_desk old login new given

  settled_desk : (login : Bool) (banned : Option SessionId) (old : OwnerFacts D L) (command : Command) (new : OwnerFacts D L) → SettledBy login banned old command new
      → (new.desk ≡ old.desk) × (new.logins ≡ old.logins)
  settled_desk true banned old command new tests = tested_desk (is_banned old command tests.warden.last) (with_warden tests.warden old) command new tests.tested
  settled_desk false (Some banned) old command new (inl lacks) = (ap (λ (o : OwnerFacts D L). o.desk) lacks.others, ap (λ (o : OwnerFacts D L). o.logins) lacks.others)
  settled_desk false (Some banned) old command new (inr removes) =
      let given = given_desk (with_warden removes.warden old) command removes.after removes.given in (
        ap (λ (o : OwnerFacts D L). o.desk) removes.others ∙ given.0,
        ap (λ (o : OwnerFacts D L). o.logins) removes.others ∙ given.1,
      )
  settled_desk false None old command new given = given_desk old command new given

  pub command_desk : (old : OwnerFacts D L) (command : Command) (new : OwnerFacts D L) → IsGivenOrRefused old command new → (new.desk ≡ old.desk) × (new.logins ≡ old.logins)
  command_desk old command new given = settled_desk (is_login command) (banned_in command) old command new given

  settled_one : (login : Bool) (banned : Option SessionId) (old : OwnerFacts D L) (command : Command) (new : OwnerFacts D L) (given : SettledBy login banned old command new) (lay : Command)
      → IsOneOf login lay (settled_given login banned old command new given lay)
  settled_one true banned old command new tests lay = tested_one true (is_banned old command tests.warden.last) lay refl
  settled_one false banned old command new given lay = inl refl

  list_comes_desk : (warden : WardenFacts) (old : OwnerFacts D L) (reply : ReplyFacts) (book : Book) (new : OwnerFacts D L) → ListComesTo warden old reply book new
      → (new.desk ≡ old.desk) × (new.logins ≡ old.logins)
  list_comes_desk warden old reply book new (inl both) = (ap (λ (o : OwnerFacts D L). o.desk) both.1, ap (λ (o : OwnerFacts D L). o.logins) both.1)
  list_comes_desk warden old reply book new (inr both) = (ap (λ (o : OwnerFacts D L). o.desk) both.1, ap (λ (o : OwnerFacts D L). o.logins) both.1)

  pub list_desk : (old : OwnerFacts D L) (connection : ℕ) (session : SessionId) (payload : List ℕ) (new : OwnerFacts D L) → SettlesList old connection session payload new
      → (new.desk ≡ old.desk) × (new.logins ≡ old.logins)
  list_desk old connection session payload new settles =
      list_comes_desk settles.warden old (list_reply (roll_of old) connection (sent session (verdict_in old.warden.book settles.allowed payload)))
      (book_after old.warden.book settles.allowed payload settles.warden.last) new settles.comes_to

  -- ---- leaves and items

  leave_desk : (old : OwnerFacts D L) (connection : ℕ) (decided : Bool) (new : OwnerFacts D L) → LeaveIsGiven old connection decided new
      → (new.desk ≡ record old.desk { leave = leave_after decided connection }) × (new.logins ≡ old.logins)
  leave_desk old connection decided new (inl gives) = (ap (λ (o : OwnerFacts D L). o.desk) gives.others, ap (λ (o : OwnerFacts D L). o.logins) gives.others)
  leave_desk old connection decided new (inr drops) = (
    ap (λ (o : OwnerFacts D L). o.desk) drops.others ∙ ap (λ (b : Bool). record old.desk { leave = leave_after b connection }) (sym drops.so),
    ap (λ (o : OwnerFacts D L). o.logins) drops.others,
  )

  pass_by : (leave waits : Bool) (old : OwnerFacts D L) (command : Command) (new : OwnerFacts D L) → ReceivesBy leave waits old command new → items_taken new.desk ≡ items_taken old.desk
  pass_by true waits old command new received = ap (λ (d : DeskFacts). items_taken d) (leave_desk old command.connection received.0 new received.1).0
  pass_by false true old command new received = ap (λ (o : OwnerFacts D L). items_taken o.desk) received
  pass_by false false old command new received = ap (λ (d : DeskFacts). items_taken d) (command_desk old command new received).0

  -- a command that was given or refused in the turn in which it came
  command_served : (what : Settled) (old : OwnerFacts D L) (command : Command) (new : OwnerFacts D L) (taken given done : List Command) (decided : List ℕ) → IsOneOf (is_login command) command what
      → (new.desk ≡ old.desk) × (new.logins ≡ old.logins) → is_leave command.what ≡ false → (is_login command ≡ true → old.logins ≡ [])
      → IsServed old.desk.leave old.logins taken given done decided
      → IsServed new.desk.leave new.logins (taken ++ command ∷ []) (given ++ what.commands) (done ++ (what.commands ++ (what.banned ++ what.dropped))) (decided ++ what.leaves)
  command_served what old command new taken given done decided one after leaves empty served = by one
    where
      logins : filter is_login (taken ++ command ∷ []) ≡ filter is_login (done ++ command ∷ []) ++ old.logins
      logins =
          filter-append is_login taken (command ∷ []) ∙ ap (λ (l : List Command). l ++ filter is_login (command ∷ [])) served.logins
          ∙ given_login (is_login command) command (filter is_login done) old.logins empty
          ∙ ap (λ (l : List Command). l ++ old.logins) (sym (filter-append is_login done (command ∷ [])))

      no_leave : filter_map leave_in (taken ++ command ∷ []) ≡ (decided ++ []) ++ option_to_list old.desk.leave
      no_leave =
          found_more leave_in taken command ∙ leave_none (is_leave command.what) command.connection (filter_map leave_in taken) leaves ∙ served.leaves
          ∙ ap (λ (l : List ℕ). l ++ option_to_list old.desk.leave) (sym (append-nil decided))

      as_one : (more : List Command) → filter is_other (taken ++ command ∷ []) ≡ filter is_other (given ++ more)
          → IsServed new.desk.leave new.logins (taken ++ command ∷ []) (given ++ more) (done ++ command ∷ []) (decided ++ [])
      as_one more others =
          served_as old.desk.leave new.desk.leave old.logins new.logins (taken ++ command ∷ []) (given ++ more) (done ++ command ∷ []) (decided ++ [])
          (ap (λ (d : DeskFacts). d.leave) after.0) after.1 (record { logins = logins; others = others; leaves = no_leave; are_logins = served.are_logins })

      by : IsOneOf (is_login command) command what
          → IsServed new.desk.leave new.logins (taken ++ command ∷ []) (given ++ what.commands) (done ++ (what.commands ++ (what.banned ++ what.dropped))) (decided ++ what.leaves)
      by (inl is) =
          subst
          (λ (w : Settled). IsServed new.desk.leave new.logins (taken ++ command ∷ []) (given ++ w.commands) (done ++ (w.commands ++ (w.banned ++ w.dropped))) (decided ++ w.leaves))
          (sym is)
          (as_one (command ∷ [])
          (filter-append is_other taken (command ∷ []) ∙ ap (λ (l : List Command). l ++ filter is_other (command ∷ [])) served.others
          ∙ sym (filter-append is_other given (command ∷ []))))
      by (inr is) =
          subst
          (λ (w : Settled). IsServed new.desk.leave new.logins (taken ++ command ∷ []) (given ++ w.commands) (done ++ (w.commands ++ (w.banned ++ w.dropped))) (decided ++ w.leaves))
          (sym is.0)
          (as_one []
          (filter-append is_other taken (command ∷ [])
          ∙ leave_dropped (is_other command) command (filter is_other taken) (login_not_other (is_login command) (is_leave command.what) is.1)
          ∙ served.others ∙ ap (λ (l : List Command). filter is_other l) (sym (append-nil given))))

  -- what came of a command that was taken
  received_served : (leave waits : Bool) (old : OwnerFacts D L) (command : Command) (new : OwnerFacts D L) (received : ReceivesBy leave waits old command new)
      (taken given done : List Command) (decided : List ℕ) → is_leave command.what ≡ leave → (waits ≡ true → is_login command ≡ true)
      → (waits ≡ false → is_login command ≡ true → old.logins ≡ []) → old.desk.leave ≡ None → IsServed old.desk.leave old.logins taken given done decided
      → IsServed new.desk.leave new.logins (taken ++ command ∷ []) (given ++ (settled_by leave waits old command new received).commands)
      (done ++ ((settled_by leave waits old command new received).commands ++ ((settled_by leave waits old command new received).banned ++ (settled_by leave waits old command new received).dropped)))
      (decided ++ (settled_by leave waits old command new received).leaves)
  received_served true waits old command new received taken given done decided leaves login empty none served =
      let after = leave_desk old command.connection received.0 new received.1 in
      served_as (leave_after received.0 command.connection) new.desk.leave old.logins new.logins (taken ++ command ∷ []) (given ++ []) (done ++ [])
      (decided ++ option_to_list (leave_where received.0 command.connection)) (ap (λ (d : DeskFacts). d.leave) after.0) after.1 (record {
        logins =
            filter-append is_login taken (command ∷ [])
            ∙ leave_dropped (is_login command) command (filter is_login taken) (leave_no_login (is_none command.session) command.what leaves)
            ∙ served.logins ∙ ap (λ (l : List Command). filter is_login l ++ old.logins) (sym (append-nil done));
        others =
            filter-append is_other taken (command ∷ [])
            ∙ leave_dropped (is_other command) command (filter is_other taken) (not_other (is_login command) (is_leave command.what) leaves)
            ∙ served.others ∙ ap (λ (l : List Command). filter is_other l) (sym (append-nil given));
        leaves =
            found_more leave_in taken command ∙ ap (λ (l : List ℕ). filter_map leave_in taken ++ l) (leave_found (is_leave command.what) command.connection leaves)
            ∙ ap (λ (l : List ℕ). l ++ command.connection ∷ []) (served.leaves ∙ ap (λ (o : Option ℕ). decided ++ option_to_list o) none ∙ append-nil decided)
            ∙ sym (leave_split received.0 command.connection decided);
        are_logins = served.are_logins;
      })
  received_served false true old command new received taken given done decided leaves login empty none served =
      served_as old.desk.leave new.desk.leave (old.logins ++ command ∷ []) new.logins (taken ++ command ∷ []) (given ++ []) (done ++ []) (decided ++ [])
      (ap (λ (o : OwnerFacts D L). o.desk.leave) received) (ap (λ (o : OwnerFacts D L). o.logins) received) (record {
        logins =
            filter-append is_login taken (command ∷ [])
            ∙ ap (λ (b : Bool). filter is_login taken ++ cond b (command ∷ []) []) (login refl)
            ∙ ap (λ (l : List Command). l ++ command ∷ []) served.logins ∙ append_assoc (filter is_login done) old.logins (command ∷ [])
            ∙ ap (λ (l : List Command). filter is_login l ++ (old.logins ++ command ∷ [])) (sym (append-nil done));
        others =
            filter-append is_other taken (command ∷ [])
            ∙ leave_dropped (is_other command) command (filter is_other taken) (login_not_other (is_login command) (is_leave command.what) (login refl))
            ∙ served.others ∙ ap (λ (l : List Command). filter is_other l) (sym (append-nil given));
        leaves =
            found_more leave_in taken command ∙ leave_none (is_leave command.what) command.connection (filter_map leave_in taken) leaves ∙ served.leaves
            ∙ ap (λ (l : List ℕ). l ++ option_to_list old.desk.leave) (sym (append-nil decided));
        are_logins = login_behind old.logins command served.are_logins (login refl);
      })
  received_served false false old command new received taken given done decided leaves login empty none served =
      command_served (settled_given (is_login command) (banned_in command) old command new received command) old command new taken given done decided
      (settled_one (is_login command) (banned_in command) old command new received command) (command_desk old command new received) leaves (empty refl) served

  rests_served : (old new : OwnerFacts D L) (taken given done : List Command) (decided : List ℕ) → new ≡ old → IsServed old.desk.leave old.logins taken given done decided
      → IsServed new.desk.leave new.logins (taken ++ []) (given ++ []) (done ++ []) (decided ++ [])
  rests_served old new taken given done decided same served =
      served_as old.desk.leave new.desk.leave old.logins new.logins (taken ++ []) (given ++ []) (done ++ []) (decided ++ [])
      (ap (λ (o : OwnerFacts D L). o.desk.leave) same) (ap (λ (o : OwnerFacts D L). o.logins) same)
      (served_more old.desk.leave old.logins taken given done decided served)

  -- a command that was taken, where this is what is received for it
  owned_served : (own : Option Command) (old new : OwnerFacts D L) (received : Receives old own new) (taken given done : List Command) (decided : List ℕ)
      → old.desk.leave ≡ None → IsServed old.desk.leave old.logins taken given done decided
      → IsServed new.desk.leave new.logins (taken ++ cons_option own []) (given ++ (settled_owned own old new received).commands)
      (done ++ ((settled_owned own old new received).commands ++ ((settled_owned own old new received).banned ++ (settled_owned own old new received).dropped))) (decided ++ (settled_owned own old new received).leaves)
  owned_served None old new same taken given done decided none served = rests_served old new taken given done decided same served
  owned_served (Some command) old new received taken given done decided none served =
      received_served (is_leave command.what) (is_login command && must_wait old) old command new received taken given done decided refl
      (both_so (is_login command) (must_wait old))
      (λ free login. none_waits (length old.logins == 0) _ old.logins refl (second_so (is_login command) (must_wait old) free login)) none served

  item_served : (old : OwnerFacts D L) (item : Option DeskItem) (new : OwnerFacts D L) (received : ReceivesItem old item new)
      (taken given done : List Command) (decided : List ℕ) → old.desk.leave ≡ None → IsServed old.desk.leave old.logins taken given done decided
      → IsServedBy new.desk.leave new.logins taken given done decided old.guests.rows (settled_item old item new received)
  item_served old None new received taken given done decided none served = rests_served old new taken given done decided received served
  item_served old (Some (items.Closed connection)) new received taken given done decided none served =
      served_as old.desk.leave new.desk.leave old.logins new.logins (taken ++ []) (given ++ []) (done ++ []) (decided ++ [])
      (ap (λ (o : OwnerFacts D L). o.desk.leave) received) (ap (λ (o : OwnerFacts D L). o.logins) received)
      (served_more old.desk.leave old.logins taken given done decided served)
  item_served old (Some (items.Command command)) new received taken given done decided none served =
      owned_served (owned old.guests.rows command) old new received taken given done decided none served
  item_served old (Some (items.Bans connection session payload)) new received taken given done decided none served =
      let stays = list_desk old connection session payload new received in
      served_as old.desk.leave new.desk.leave old.logins new.logins (taken ++ []) (given ++ []) (done ++ []) (decided ++ [])
      (ap (λ (d : DeskFacts). d.leave) stays.0) stays.1 (served_more old.desk.leave old.logins taken given done decided served)

  -- a login that waited goes: it was given or refused, where this is what was given for it, or dropped
  login_served : (own : Option Command) (old : OwnerFacts D L) (login : Command) (rest : List Command) (new : OwnerFacts D L)
      (gives : MatchOption own (new ≡ record old { logins = rest }) (λ command. IsGivenOrRefused (record old { logins = rest }) command new))
      (taken given done : List Command) (decided : List ℕ) → IsServed old.desk.leave (login ∷ rest) taken given done decided
      → IsServedBy new.desk.leave new.logins taken given done decided old.guests.rows (settled_waiting own (record old { logins = rest }) login new gives)
  login_served None old login rest new same taken given done decided served =
      served_as old.desk.leave new.desk.leave rest new.logins (taken ++ []) (given ++ []) (done ++ login ∷ []) (decided ++ [])
      (ap (λ (o : OwnerFacts D L). o.desk.leave) same) (ap (λ (o : OwnerFacts D L). o.logins) same) (record {
        logins = went_logins login rest taken done served.are_logins.0 served.logins;
        others = ap (λ (l : List Command). filter is_other l) (append-nil taken) ∙ served.others ∙ ap (λ (l : List Command). filter is_other l) (sym (append-nil given));
        leaves =
            ap (λ (l : List Command). filter_map leave_in l) (append-nil taken) ∙ served.leaves
            ∙ ap (λ (l : List ℕ). l ++ option_to_list old.desk.leave) (sym (append-nil decided));
        are_logins = served.are_logins.1;
      })
  login_served (Some command) old login rest new gives taken given done decided served =
      let before : OwnerFacts D L = record old { logins = rest } in
      let what : Settled = settled_given (is_login command) (banned_in command) before command new gives login in
      let after = command_desk before command new gives in
      let one = any_one (is_login command) login what (settled_one (is_login command) (banned_in command) before command new gives login) in
      subst
      (λ (l : List Command). IsServed new.desk.leave new.logins (taken ++ filter_map (owned old.guests.rows) l) (given ++ what.commands)
      (done ++ (what.commands ++ (what.banned ++ what.dropped))) (decided ++ what.leaves))
      (sym (no_more_taken true login what one))
      (served_as old.desk.leave new.desk.leave rest new.logins (taken ++ []) (given ++ what.commands) (done ++ (what.commands ++ (what.banned ++ what.dropped))) (decided ++ what.leaves)
      (ap (λ (d : DeskFacts). d.leave) after.0) after.1 (went_served what old.desk.leave login rest taken given done decided one served))

  waiting_served : (old : OwnerFacts D L) (worked : Bool) (new : OwnerFacts D L) (gives : GivesWaiting old worked new) (taken given done : List Command) (decided : List ℕ)
      → IsServed old.desk.leave old.logins taken given done decided
      → IsServedBy new.desk.leave new.logins taken given done decided old.guests.rows
      (settled_waiting (owned old.guests.rows gives.login) (record old { logins = gives.rest }) gives.login new gives.given)
  waiting_served old worked new gives taken given done decided served =
      login_served (owned old.guests.rows gives.login) old gives.login gives.rest new gives.given taken given done decided
      (subst (λ (l : List Command). IsServed old.desk.leave l taken given done decided) gives.first served)

  leave_served : (old : OwnerFacts D L) (connection : ℕ) (worked : Bool) (new : OwnerFacts D L) → LeaveIsGiven old connection worked new → (taken given done : List Command) (decided : List ℕ)
      → old.desk.leave ≡ Some connection → IsServed old.desk.leave old.logins taken given done decided
      → IsServed new.desk.leave new.logins (taken ++ []) (given ++ []) (done ++ []) (decided ++ option_to_list (leave_where worked connection))
  leave_served old connection worked new leave taken given done decided keeps served =
      let after = leave_desk old connection worked new leave in
      served_as (leave_after worked connection) new.desk.leave old.logins new.logins (taken ++ []) (given ++ []) (done ++ [])
      (decided ++ option_to_list (leave_where worked connection)) (ap (λ (d : DeskFacts). d.leave) after.0) after.1 (record {
        logins =
            ap (λ (l : List Command). filter is_login l) (append-nil taken) ∙ served.logins
            ∙ ap (λ (l : List Command). filter is_login l ++ old.logins) (sym (append-nil done));
        others = ap (λ (l : List Command). filter is_other l) (append-nil taken) ∙ served.others ∙ ap (λ (l : List Command). filter is_other l) (sym (append-nil given));
        leaves =
            ap (λ (l : List Command). filter_map leave_in l) (append-nil taken) ∙ served.leaves ∙ ap (λ (o : Option ℕ). decided ++ option_to_list o) keeps
            ∙ sym (leave_split worked connection decided);
        are_logins = served.are_logins;
      })

  -- in each case that is served, nothing of the desk was kept to be tried again but the leave of that case
  serves_served : (next : Next) (old : OwnerFacts D L) (worked : Bool) (new : OwnerFacts D L) (serves : Serves next old worked new) (taken given done : List Command) (decided : List ℕ)
      → KeepsLeave next old.desk.leave → IsServed old.desk.leave old.logins taken given done decided
      → IsServedBy new.desk.leave new.logins taken given done decided old.guests.rows (settled next old worked new serves)
  serves_served Rest old worked new rests taken given done decided keeps served = rests_served old new taken given done decided rests.1 served
  serves_served (Again connection) old worked new leave taken given done decided keeps served = leave_served old connection worked new leave taken given done decided keeps served
  serves_served Goes old worked new gives taken given done decided keeps served = waiting_served old worked new gives taken given done decided served
  serves_served Take old worked new takes taken given done decided keeps served =
      item_served (with_pass takes.pass old) takes.item new takes.received taken given done decided keeps served

  desk_served : (old : OwnerFacts D L) (worked : Bool) (new : OwnerFacts D L) (serves : ServesDesk old worked new) (taken given done : List Command) (decided : List ℕ)
      → IsServed old.desk.leave old.logins taken given done decided
      → IsServedBy new.desk.leave new.logins taken given done decided old.guests.rows (settled (next old) old worked new serves)
  desk_served old worked new serves taken given done decided served =
      serves_served (next old) old worked new serves taken given done decided
      (keeps_leave (is_some old.kept.reply) old.desk.leave (nat_lt PENDING_LIMIT (length old.control.pending)) (may_go old) (nat_lt (length old.logins) CONNECTION_LIMIT)) served

  -- ---- what was taken of the desk

  pub pass_stays : (own : Option Command) (old new : OwnerFacts D L) → Receives old own new → items_taken new.desk ≡ items_taken old.desk
  pass_stays None old new same = ap (λ (o : OwnerFacts D L). items_taken o.desk) same
  pass_stays (Some command) old new received = pass_by (is_leave command.what) (is_login command && must_wait old) old command new received

  taken_more : (old : OwnerFacts D L) (pass : PassFacts DeskItem) (item : Option DeskItem) (new : OwnerFacts D L) (received : ReceivesItem (with_pass pass old) item new)
      → Takes DESK_CAPACITY old.desk.pass item pass
      → filter_map command_in (items_taken new.desk) ≡ filter_map command_in (items_taken old.desk) ++ (settled_item (with_pass pass old) item new received).taken
  taken_more old pass None new received takes =
      ap (λ (o : OwnerFacts D L). filter_map command_in (items_taken o.desk)) received ∙ ap (λ (l : List DeskItem). filter_map command_in l) (items_same old.desk pass takes)
      ∙ sym (append-nil (filter_map command_in (items_taken old.desk)))
  taken_more old pass (Some (items.Closed connection)) new received takes =
      ap (λ (o : OwnerFacts D L). filter_map command_in (items_taken o.desk)) received
      ∙ ap (λ (l : List DeskItem). filter_map command_in l) (items_more old.desk (items.Closed connection) pass takes)
      ∙ found_more command_in (items_taken old.desk) (items.Closed connection)
  taken_more old pass (Some (items.Command command)) new received takes =
      ap (λ (l : List DeskItem). filter_map command_in l)
      (pass_stays (owned old.guests.rows command) (with_pass pass old) new received ∙ items_more old.desk (items.Command command) pass takes)
      ∙ found_more command_in (items_taken old.desk) (items.Command command)
  taken_more old pass (Some (items.Bans connection session payload)) new received takes =
      ap (λ (d : DeskFacts). filter_map command_in (items_taken d)) (list_desk (with_pass pass old) connection session payload new received).0
      ∙ ap (λ (l : List DeskItem). filter_map command_in l) (items_more old.desk (items.Bans connection session payload) pass takes)
      ∙ found_more command_in (items_taken old.desk) (items.Bans connection session payload)

  -- nothing more was taken
  none_taken : (old new : OwnerFacts D L) → items_taken new.desk ≡ items_taken old.desk → filter_map command_in (items_taken new.desk) ≡ filter_map command_in (items_taken old.desk) ++ []
  none_taken old new same = ap (λ (l : List DeskItem). filter_map command_in l) same ∙ sym (append-nil (filter_map command_in (items_taken old.desk)))

  login_taken : (own : Option Command) (old : OwnerFacts D L) (login : Command) (rest : List Command) (new : OwnerFacts D L)
      (gives : MatchOption own (new ≡ record old { logins = rest }) (λ command. IsGivenOrRefused (record old { logins = rest }) command new))
      → filter_map command_in (items_taken new.desk) ≡ filter_map command_in (items_taken old.desk) ++ (settled_waiting own (record old { logins = rest }) login new gives).taken
  login_taken None old login rest new same = none_taken old new (ap (λ (o : OwnerFacts D L). items_taken o.desk) same)
  login_taken (Some command) old login rest new given =
      let before : OwnerFacts D L = record old { logins = rest } in
      none_taken old new (ap (λ (d : DeskFacts). items_taken d) (command_desk before command new given).0)
      ∙ ap (λ (l : List Command). filter_map command_in (items_taken old.desk) ++ l)
      (sym (no_more_taken (is_login command) login _ (settled_one (is_login command) (banned_in command) before command new given login)))

  serves_taken : (next : Next) (old : OwnerFacts D L) (worked : Bool) (new : OwnerFacts D L) (serves : Serves next old worked new)
      → filter_map command_in (items_taken new.desk) ≡ filter_map command_in (items_taken old.desk) ++ (settled next old worked new serves).taken
  serves_taken Rest old worked new rests = none_taken old new (ap (λ (o : OwnerFacts D L). items_taken o.desk) rests.1)
  serves_taken (Again connection) old worked new leave =
      none_taken old new (ap (λ (d : DeskFacts). items_taken d) (leave_desk old connection worked new leave).0)
  serves_taken Goes old worked new gives = login_taken (owned old.guests.rows gives.login) old gives.login gives.rest new gives.given
  serves_taken Take old worked new takes = taken_more old takes.pass takes.item new takes.received takes.taken

  ended_desk : (b : Bool) (owner : OwnerFacts D L) → ((cond b (record owner { is_ending = true }) owner).desk ≡ owner.desk) × ((cond b (record owner { is_ending = true }) owner).logins ≡ owner.logins)
  ended_desk true owner = (refl, refl)
  ended_desk false owner = (refl, refl)

module _ {D L : Type 0} (door_facts : D → DoorFacts) (link_facts : L → LinkFacts) where
  asked_desk : (b : Bool) (old : OwnerFacts D L) (worked : Bool) (new : OwnerFacts D L) → Asks door_facts link_facts b old worked new → (new.desk ≡ old.desk) × (new.logins ≡ old.logins)
  asked_desk true old worked new rests = (ap (λ (o : OwnerFacts D L). o.desk) rests.1, ap (λ (o : OwnerFacts D L). o.logins) rests.1)
  asked_desk false old worked new asks = (ap (λ (o : OwnerFacts D L). o.desk) asks.others, ap (λ (o : OwnerFacts D L). o.logins) asks.others)

  -- what is served of the desk in a turn is all that a turn does with it
  pub turned_desk : (old : OwnerFacts D L) (turn : Turn) (new : OwnerFacts D L) (t : OwnerTurned door_facts link_facts old turn new) → (new.desk ≡ t.after_desk.desk) × (new.logins ≡ t.after_desk.logins)
  turned_desk old turn new t =
      let press : LagStays t.after_desk t.after_press = press_stays t.after_desk t.pressed t.after_press t.presses in
      let publish : PublishStays t.after_press t.after_archive = shown_stays t.after_press t.published t.after_publish _ t.archived t.after_archive t.publishes t.archives in
      let post : LagStays t.after_archive t.after_post = post_stays t.after_archive t.posted t.after_post t.posts in
      let ask = asked_desk (is_not_to_ask t.after_post) t.after_post t.came t.after_door t.asks in
      let end = ended_desk (is_over t.after_door && is_none t.after_door.kept.coming) t.after_door in (
        ap (λ (o : OwnerFacts D L). o.desk) t.ends ∙ end.0 ∙ ask.0 ∙ post.desk ∙ publish.desk ∙ press.desk,
        ap (λ (o : OwnerFacts D L). o.logins) t.ends ∙ end.1 ∙ ask.1 ∙ post.logins ∙ publish.logins ∙ press.logins,
      )

  turned_served : (old : OwnerFacts D L) (turn : Turn) (new : OwnerFacts D L) (t : OwnerTurned door_facts link_facts old turn new) (taken commands done : List Command) (decided : List ℕ)
      → IsServed old.desk.leave old.logins taken commands done decided
      → IsServedBy new.desk.leave new.logins taken commands done decided t.after_offers.guests.rows (settled (next t.after_offers) t.after_offers t.served t.after_desk t.serves)
  turned_served old turn new t taken commands done decided served =
      let what = settled (next t.after_offers) t.after_offers t.served t.after_desk t.serves in
      let after = turned_desk old turn new t in
      let offered = served_as old.desk.leave t.after_offers.desk.leave old.logins t.after_offers.logins taken commands done decided
      (ap (λ (o : OwnerFacts D L). o.desk.leave) t.offers.others) (ap (λ (o : OwnerFacts D L). o.logins) t.offers.others) served in
      served_as t.after_desk.desk.leave new.desk.leave t.after_desk.logins new.logins (taken ++ filter_map (owned t.after_offers.guests.rows) what.taken)
      (commands ++ what.commands) (done ++ (what.commands ++ (what.banned ++ what.dropped))) (decided ++ what.leaves) (ap (λ (d : DeskFacts). d.leave) after.0) after.1
      (desk_served t.after_offers t.served t.after_desk t.serves taken commands done decided offered)

  all_served : (old : OwnerFacts D L) (turns : List Turn) (new : OwnerFacts D L) (all : TurnsTo (OwnerTurned door_facts link_facts) old turns new) (taken commands done : List Command) (decided : List ℕ)
      → IsServed old.desk.leave old.logins taken commands done decided
      → IsServed new.desk.leave new.logins (taken ++ commands_owned door_facts link_facts old turns new all) (commands ++ commands_given door_facts link_facts old turns new all)
      (done ++ commands_settled door_facts link_facts old turns new all) (decided ++ leaves_decided door_facts link_facts old turns new all)
  all_served old [] new all taken commands done decided served = rests_served old new taken commands done decided all served
  all_served old (turn ∷ turns) new all taken commands done decided served =
      let t = all.1 in
      let what = settled (next t.after_offers) t.after_offers t.served t.after_desk t.serves in
      let own = filter_map (owned t.after_offers.guests.rows) what.taken in
      let owns = commands_owned door_facts link_facts all.0 turns new all.2 in
      let behind = commands_given door_facts link_facts all.0 turns new all.2 in
      let past = commands_settled door_facts link_facts all.0 turns new all.2 in
      let left = leaves_decided door_facts link_facts all.0 turns new all.2 in
      subst (λ (l : List Command). IsServed new.desk.leave new.logins l (commands ++ (what.commands ++ behind)) (done ++ ((what.commands ++ (what.banned ++ what.dropped)) ++ past)) (decided ++ (what.leaves ++ left)))
      (append_assoc taken own owns)
      (subst (λ (l : List Command). IsServed new.desk.leave new.logins ((taken ++ own) ++ owns) l (done ++ ((what.commands ++ (what.banned ++ what.dropped)) ++ past)) (decided ++ (what.leaves ++ left)))
      (append_assoc commands what.commands behind)
      (subst (λ (l : List Command). IsServed new.desk.leave new.logins ((taken ++ own) ++ owns) ((commands ++ what.commands) ++ behind) l (decided ++ (what.leaves ++ left)))
      (append_assoc done (what.commands ++ (what.banned ++ what.dropped)) past)
      (subst (λ (l : List ℕ). IsServed new.desk.leave new.logins ((taken ++ own) ++ owns) ((commands ++ what.commands) ++ behind) ((done ++ (what.commands ++ (what.banned ++ what.dropped))) ++ past) l)
      (append_assoc decided what.leaves left)
      (all_served all.0 turns new all.2 (taken ++ own) (commands ++ what.commands) (done ++ (what.commands ++ (what.banned ++ what.dropped))) (decided ++ what.leaves)
      (turned_served old turn all.0 t taken commands done decided served)))))

  all_taken : (old : OwnerFacts D L) (turns : List Turn) (new : OwnerFacts D L) (all : TurnsTo (OwnerTurned door_facts link_facts) old turns new)
      → filter_map command_in (items_taken new.desk) ≡ filter_map command_in (items_taken old.desk) ++ commands_taken door_facts link_facts old turns new all
  all_taken old [] new all = none_taken old new (ap (λ (o : OwnerFacts D L). items_taken o.desk) all)
  all_taken old (turn ∷ turns) new all =
      let t = all.1 in
      let what = settled (next t.after_offers) t.after_offers t.served t.after_desk t.serves in
      let past = commands_taken door_facts link_facts all.0 turns new all.2 in
      let one : filter_map command_in (items_taken all.0.desk) ≡ filter_map command_in (items_taken old.desk) ++ what.taken =
      ap (λ (d : DeskFacts). filter_map command_in (items_taken d)) (turned_desk old turn all.0 t).0
      ∙ serves_taken (next t.after_offers) t.after_offers t.served t.after_desk t.serves
      ∙ ap (λ (o : OwnerFacts D L). filter_map command_in (items_taken o.desk) ++ what.taken) t.offers.others in
      all_taken all.0 turns new all.2 ∙ ap (λ (l : List Command). l ++ past) one
      ∙ append_assoc (filter_map command_in (items_taken old.desk)) what.taken past

  -- from the opening on
  pub given_once : (control : ControlFacts) (door : D) (connections : ℕ) (journal : Bool) (queues : List QueueId) (store : Option QueueId) (opened owner : OwnerFacts D L) (turns : List Turn)
      → IsOpened control door connections journal queues store opened → (all : TurnsTo (OwnerTurned door_facts link_facts) opened turns owner)
      → IsServed owner.desk.leave owner.logins (commands_owned door_facts link_facts opened turns owner all) (commands_given door_facts link_facts opened turns owner all)
      (commands_settled door_facts link_facts opened turns owner all) (leaves_decided door_facts link_facts opened turns owner all)
  given_once control door connections journal queues store opened owner turns new all =
      let leave : opened.desk.leave ≡ None = ap (λ (o : OwnerFacts D L). o.desk.leave) new in
      let logins : opened.logins ≡ [] = ap (λ (o : OwnerFacts D L). o.logins) new in
      all_served opened turns owner all [] [] [] [] (record {
        logins = sym logins;
        others = refl;
        leaves = ap (λ (o : Option ℕ). option_to_list o) (sym leave);
        are_logins = subst AreLogins (sym logins) tt;
      })

  pub taken_once : (opened owner : OwnerFacts D L) (turns : List Turn) → opened.desk.pass.taken ≡ [] → (all : TurnsTo (OwnerTurned door_facts link_facts) opened turns owner)
      → filter_map command_in (items_taken owner.desk) ≡ commands_taken door_facts link_facts opened turns owner all
  taken_once opened owner turns none all =
      all_taken opened turns owner all
      ∙ ap (λ l. filter_map command_in (map (λ tagged. tagged.item) l) ++ commands_taken door_facts link_facts opened turns owner all) none
