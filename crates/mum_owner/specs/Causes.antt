-- What a turn of an owner shows of its answer.
use Rattle.std.specs.Prelude.{◌≡◌, ℕ, List, [], Option}
use Rattle.std.specs.Option.{option_map_or}
use Rattle.mum_keeper.specs.{Archive.ArchiveFacts, Bell.Ring}
use Rattle.mum_owner.specs.{Facts.OwnerFacts, Laws.items_taken, Laws.puts_at}

-- what the bell of the store took, in order, where there is one
abbrev pub puts_in : Option ArchiveFacts → List Ring
puts_in archive = option_map_or (λ (side : ArchiveFacts). side.put) archive []

-- nothing was done that stays: no bell took anything, nothing was taken from the desk, no leave that waits was decided, no
-- login went on, no lag item was made, nothing was published or posted, and the door gave nothing, nor did it end or fail
pub record HasDoneNothing {D L : Type 0} (old new : OwnerFacts D L) : Type 0 where
  pub bells : (place : ℕ) → puts_at place new.bells ≡ puts_at place old.bells
  pub store : puts_in new.archive ≡ puts_in old.archive
  pub taken : items_taken new.desk ≡ items_taken old.desk
  pub leave : new.desk.leave ≡ old.desk.leave
  pub logins : new.logins ≡ old.logins
  pub lag : new.kept.lag ≡ old.kept.lag
  pub unpublished : new.control.publisher.pending ≡ old.control.publisher.pending
  pub notices : new.control.pending ≡ old.control.pending
  pub given : new.guests.given ≡ old.guests.given
  pub stopped : new.doorway.stopped ≡ old.doorway.stopped
