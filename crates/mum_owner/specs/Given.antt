-- What an owner does with a command that it gives to the control owner.
use Rattle.std.specs.Prelude.{◌≡◌, ◌⊎◌, ℕ, true, List, [], Some, None}
use Rattle.mum_published.specs.declared.roll.Login.{Login}
use Rattle.mum_published.specs.Facts.{ReplyFacts}
use Rattle.mum_session.specs.declared.command.Command.{Command}
use Rattle.mum_control.specs.Commanded.{Commanded}
use Rattle.mum_owner.specs.{Facts.KeptFacts, Facts.OwnerFacts, Facts.ScribeFacts, Guests.joined_by}
use Rattle.mum_owner.specs.Written.{prepared, recorded, refused}
use Rattle.mum_base.specs.declared.reply.ReplyEnd.TheVariants as ends

abbrev pub with_reply : {L : Type 0} → ReplyFacts → KeptFacts L → KeptFacts L
with_reply reply kept = record kept { reply = Some reply }

-- memory ran out before anything was decided, when these logins were accepted
abbrev pub refusal : List Login → ℕ → ReplyFacts
refusal roll connection = record {
  connection = connection;
  end = ends.Decided;
  note = None;
  wire = [];
  no_memory = true;
  roll = roll;
}

-- what is prepared before a command is decided
abbrev pub with_draft : Command → ScribeFacts → ScribeFacts
with_draft command scribe = record scribe { draft = prepared scribe.is_asked command }

module _ {D L : Type 0} where
  -- the logins that were accepted, in order
  abbrev pub roll_of : OwnerFacts D L → List Login
  roll_of owner = owner.control.publisher.roll

  -- this reply is kept
  abbrev pub replied : ReplyFacts → OwnerFacts D L → OwnerFacts D L
  replied reply owner = record owner { kept = with_reply reply owner.kept }

  -- memory ran out for what a connection asked: its reply says so, and so does the owner at its end
  abbrev pub starved : ℕ → OwnerFacts D L → OwnerFacts D L
  starved connection owner = record owner {
    kept = with_reply (refusal (roll_of owner) connection) owner.kept;
    scribe = refused owner.scribe;
  }

  -- the command was given to the control owner once, and its reply is kept
  pub record Gives (old : OwnerFacts D L) (command : Command) (new : OwnerFacts D L) : Type 0 where
    pub reply : ReplyFacts
    pub commanded : Commanded old.control command reply new.control
    pub others : new ≡ record old {
      control = new.control;
      guests = joined_by reply.end command.connection old.guests;
      kept = with_reply reply old.kept;
      scribe = recorded command.connection new.control.mark reply.no_memory (with_draft command old.scribe);
    }

  -- there was no memory for its entry in the journal: it was dropped
  pub record Drops (old : OwnerFacts D L) (connection : ℕ) (new : OwnerFacts D L) : Type 0 where
    pub asked : old.scribe.is_asked ≡ true
    pub others : new ≡ starved connection old

  abbrev pub IsGiven : OwnerFacts D L → Command → OwnerFacts D L → Type 0
  IsGiven old command new = Gives old command new ⊎ Drops old command.connection new
