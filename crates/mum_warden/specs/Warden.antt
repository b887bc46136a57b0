-- A warden as contracts see it, and what becomes of a list of bans.
use Rattle.std.specs.Prelude.{ℕ, Bool, List, Option}
use Rattle.mum_bans.specs.declared.verdict.BanVerdict.{BanVerdict}
use Rattle.mum_bans.specs.{Book.Book, Book.Event, Book.with_added, Parts.list_in, Verdict.event_of, Verdict.verdict_of}

pub record WardenFacts : Type 0 where
  -- what the clock answered last, and how often it was asked
  pub last : ℕ
  pub calls : ℕ
  pub book : Book

-- what a BanList with this payload comes to, from somebody who is allowed to ban or is not
abbrev pub verdict_in : Book → Bool → List ℕ → BanVerdict
verdict_in book allowed payload = verdict_of book.bans allowed (list_in payload)

-- the bans are set at this moment, where that is the verdict
abbrev pub event_in : Book → Bool → List ℕ → ℕ → Option Event
event_in book allowed payload moment = event_of moment (verdict_in book allowed payload) (list_in payload)

-- a ban of this address alone is added, without end, for the reason for which there is room, from the clock's last answer on
abbrev pub noted : List ℕ → WardenFacts → WardenFacts
noted address warden = record warden { book = with_added warden.book address warden.last }
