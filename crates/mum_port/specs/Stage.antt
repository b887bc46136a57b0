-- How far a port has come, and how a part of its step ended.
use Rattle.std.specs.Prelude.{Bool, true, false, Option, Some, None, if◌then◌else◌}
use Rattle.mum_base.specs.declared.{number.Cause.Cause, reply.ReplyEnd.ReplyEnd}
use Rattle.mum_port.specs.declared.stage.Farewell.{Farewell, TheVariants.Leave, TheVariants.LastWord, TheVariants.Done}
use Rattle.mum_port.specs.declared.stage.{Parting.Parting, Stage.Stage}
use Rattle.mum_port.specs.declared.stage.Stage.TheVariants.{Live, Ending, Closed}
use Rattle.mum_port.specs.declared.stage.Went.{Went, TheVariants.Worked, TheVariants.Closes}
use Rattle.mum_base.specs.declared.number.Cause.TheVariants as causes
use Rattle.mum_base.specs.declared.reply.ReplyEnd.TheVariants as ends
use Rattle.mum_port.specs.declared.stage.Parting.TheVariants as partings

abbrev pub is_live : Stage → Bool
is_live Live = true
is_live others = false

abbrev pub is_closed : Stage → Bool
is_closed (Closed cause farewell) = true
is_closed others = false

-- the desk is owed nothing more
abbrev pub is_gone : Stage → Bool
is_gone (Closed cause Done) = true
is_gone others = false

-- it did something
abbrev pub has_worked : Went → Bool
has_worked Worked = true
has_worked (Closes cause) = true
has_worked others = false

-- a port that has just closed owes the whole farewell
abbrev pub closed_for : Cause → Stage
closed_for cause = Closed cause Leave

-- an open port closes for the cause that a part of its step met, and a closed one stays as it is
abbrev pub stage_by : Went → Stage → Stage
stage_by (Closes cause) Live = closed_for cause
stage_by (Closes cause) (Ending before) = closed_for cause
stage_by others stage = stage

-- what is owed once the next word is on the desk
abbrev pub owed_after : Farewell → Farewell
owed_after Leave = LastWord
owed_after others = Done

abbrev pub after_word : Stage → Stage
after_word (Closed cause farewell) = Closed cause (owed_after farewell)
after_word others = others

-- the cause for which a port closes that writes what it keeps
abbrev pub parting_cause : Parting → Cause
parting_cause partings.Rejected = causes.Rejected
parting_cause partings.Kicked = causes.Kicked

-- one that ends closes once it has nothing to write
abbrev pub settled_where : Bool → Stage → Stage
settled_where nothing_unwritten (Ending parting) =
    if nothing_unwritten then closed_for (parting_cause parting) else Ending parting
settled_where nothing_unwritten others = others

-- for what a port closed, if it did
abbrev pub cause_of : Stage → Option Cause
cause_of (Closed cause farewell) = Some cause
cause_of others = None

-- the stage after a reply: a login that was rejected is the end of a live port
abbrev pub stage_after_reply : ReplyEnd → Stage → Stage
stage_after_reply ends.Rejected Live = Ending partings.Rejected
stage_after_reply others stage = stage
