-- What an owner does with bans: who is refused, whose removal adds one, and what a list of bans comes to.
use Rattle.std.specs.Prelude.{◌≡◌, ◌⊎◌, ◌↔◌, ℕ, Bool, true, false, IsTrue, List, [], is_some, unwrap_or, Option, Some, None, if◌then◌else◌}
use Rattle.std.specs.Option.{option_map_or}
use Rattle.mum_base.specs.declared.number.{SessionId.SessionId, TheConstants.ChannelId.ROOT}
use Rattle.mum_base.specs.declared.perm.TheConstants.Perm.{BAN}
use Rattle.mum_io.specs.Counts.{Rose}
use Rattle.mum_bans.specs.{Ban.refuses, Book.Book, Book.Reserves, Book.after_call}
use Rattle.mum_published.specs.declared.roll.Login.{Login}
use Rattle.mum_published.specs.Facts.{ReplyFacts}
use Rattle.mum_rules_user.specs.{Asked.session_numbered, Needs.is_ban}
use Rattle.mum_rules_user.specs.declared.message.UserMessage.TheVariants.{Kick}
use Rattle.mum_session.specs.declared.command.{Asked.Asked, Asked.TheVariants.User, Command.Command}
use Rattle.mum_warden.specs.Answer.{refusal as banned_frame, sent}
use Rattle.mum_warden.specs.Warden.{WardenFacts, event_in, noted, verdict_in}
use Rattle.mum_control.specs.{Commanded.current, Kept.MayIn}
use Rattle.mum_owner.specs.{Facts.OwnerFacts, Guests.address_of, Guests.guest_with, Written.is_login}
use Rattle.mum_owner.specs.Given.{IsGiven, replied, roll_of, starved}
use Rattle.mum_owner.specs.declared.guests.Guest.{Guest}
use Rattle.mum_base.specs.declared.reply.ReplyEnd.TheVariants as ends

-- the clock was asked, and the bans are as they were
pub record AsksClock (old new : WardenFacts) : Type 0 where
  pub asked : Rose old.calls new.calls
  pub book : new.book ≡ old.book

-- ---- replies

-- to a login that is refused
abbrev pub ban_reply : List Login → ℕ → ReplyFacts
ban_reply roll connection = record {
  connection = connection;
  end = ends.Rejected;
  note = None;
  wire = banned_frame;
  no_memory = false;
  roll = roll;
}

-- to a list of bans
abbrev pub list_reply : List Login → ℕ → List ℕ → ReplyFacts
list_reply roll connection wire = record {
  connection = connection;
  end = ends.Decided;
  note = None;
  wire = wire;
  no_memory = false;
  roll = roll;
}

-- ---- a removal with a ban

-- the session that a message removes with a ban, if it does: the actor's own, where it names none
abbrev pub banned_by : Option SessionId → Asked → Option SessionId
banned_by actor (User (Kick message)) =
    if is_ban message then option_map_or (λ number. Some (session_numbered number)) message.session actor else None
banned_by actor others = None

-- whom a command removes with a ban
abbrev pub banned_in : Command → Option SessionId
banned_in command = banned_by command.session command.what

-- why
abbrev pub reason_in : Asked → List ℕ
reason_in (User (Kick message)) = unwrap_or message.reason []
reason_in others = []

-- a reply was made, and has the note of what it accepted
abbrev pub has_note : Option ReplyFacts → Bool
has_note reply = option_map_or (λ reply. is_some reply.note) reply false

-- the ban of the connection that was removed is added, of the address of its link, where the reply has a note
abbrev pub with_ban : Option Guest → Option ReplyFacts → WardenFacts → WardenFacts
with_ban None reply warden = warden
with_ban (Some guest) reply warden = if has_note reply then noted guest.address warden else warden

-- ---- a list of bans

-- what becomes of the book: a list that sets its bans does so at this moment, and no other changes it
abbrev pub book_after : Book → (allowed : Bool) → (payload : List ℕ) → (moment : ℕ) → Book
book_after book allowed payload moment =
    record book { bans = after_call book.bans (event_in book allowed payload moment) }

module _ {D L : Type 0} where
  abbrev pub with_warden : WardenFacts → OwnerFacts D L → OwnerFacts D L
  with_warden warden owner = record owner { warden = warden }

  -- this is the reply, or there was no memory for its bytes
  abbrev pub Answers : OwnerFacts D L → ReplyFacts → OwnerFacts D L → Type 0
  Answers old reply new = (new ≡ replied reply old) ⊎ (new ≡ starved reply.connection old)

  -- ---- a login

  -- a login of somebody who is banned is answered, and not given
  abbrev pub TestedBy : (banned : Bool) → OwnerFacts D L → Command → OwnerFacts D L → Type 0
  TestedBy true old login new = Answers old (ban_reply (roll_of old) login.connection) new
  TestedBy false old login new = IsGiven old login new

  -- some ban covers the address of the login's connection, and is living at this moment
  abbrev pub is_banned : OwnerFacts D L → Command → ℕ → Bool
  is_banned owner login moment = refuses owner.warden.book.bans (address_of login.connection owner.guests.rows) moment

  -- the clock is asked, and the login is tested at its answer
  pub record TestsLogin (old : OwnerFacts D L) (login : Command) (new : OwnerFacts D L) : Type 0 where
    pub warden : WardenFacts
    pub clock : AsksClock old.warden warden
    pub tested : TestedBy (is_banned old login warden.last) (with_warden warden old) login new

  -- ---- a removal

  -- there was no memory for the ban: the command is not given
  pub record LacksRoom (old : OwnerFacts D L) (connection : ℕ) (new : OwnerFacts D L) : Type 0 where
    pub warden : WardenFacts
    pub clock : AsksClock old.warden warden
    pub others : new ≡ starved connection (with_warden warden old)

  -- there is room for the ban, which starts at the clock's answer; the command is given; and the ban is added where its
  -- reply has a note and whom it removes had an open connection before
  pub record Removes (old : OwnerFacts D L) (banned : SessionId) (command : Command)
      (new : OwnerFacts D L) : Type 0 where
    pub warden : WardenFacts
    pub asked : Rose old.warden.calls warden.calls
    pub reserves : Reserves old.warden.book (reason_in command.what) warden.book
    pub after : OwnerFacts D L
    pub given : IsGiven (with_warden warden old) command after
    pub others : new ≡ with_warden (with_ban (guest_with banned old.guests.rows) after.kept.reply after.warden) after

  -- ---- any command

  -- what becomes of a command: a login is tested, a removal with a ban needs room for the ban, all else is given
  abbrev pub SettledBy : (login : Bool) → (banned : Option SessionId) → OwnerFacts D L → Command → OwnerFacts D L
      → Type 0
  SettledBy true banned old command new = TestsLogin old command new
  SettledBy false (Some banned) old command new = LacksRoom old command.connection new ⊎ Removes old banned command new
  SettledBy false None old command new = IsGiven old command new

  -- a login of a connection without a session is tested before it is given, a removal with a ban makes room for that, and
  -- any other command is given
  abbrev pub IsGivenOrRefused : OwnerFacts D L → Command → OwnerFacts D L → Type 0
  IsGivenOrRefused old command new = SettledBy (is_login command) (banned_in command) old command new

  -- ---- a list of bans

  -- its session is sent what it comes to; or memory ran out, and the bans are as they were
  abbrev pub ListComesTo : WardenFacts → OwnerFacts D L → ReplyFacts → Book → OwnerFacts D L → Type 0
  ListComesTo warden old reply book new =
      ((warden.book ≡ book) × (new ≡ replied reply (with_warden warden old)))
      ⊎ ((warden.book ≡ old.warden.book) × (new ≡ starved reply.connection (with_warden warden old)))

  -- the list is decided once, by whether its session has Ban on the root, and at the clock's answer
  pub record SettlesList (old : OwnerFacts D L) (connection : ℕ) (session : SessionId) (payload : List ℕ)
      (new : OwnerFacts D L) : Type 0 where
    pub allowed : Bool
    pub may_ban : IsTrue allowed ↔ MayIn (current old.control) session BAN ROOT
    pub warden : WardenFacts
    pub asked : Rose old.warden.calls warden.calls
    pub comes_to : ListComesTo warden old
        (list_reply (roll_of old) connection (sent session (verdict_in old.warden.book allowed payload)))
        (book_after old.warden.book allowed payload warden.last) new
