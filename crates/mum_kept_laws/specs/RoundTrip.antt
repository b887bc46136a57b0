-- Channels that last beyond a run: what is kept of a state describes the channels of a server, each edit that makes
-- them again is applicable in its turn, and what is kept of the state after these edits is what was kept before.
use Rattle.std.specs.Prelude.{◌≡◌, ◌<◌, ◌^◌, List, ◌∷◌, ◌++◌, map, IsTrue}
use Rattle.std.specs.List.{All}
use Rattle.mum_base.specs.declared.number.TheConstants.{PLACES, SLOTS}
use Rattle.mum_fields.specs.{Table.layout, Table.parts, Typed.AreTyped}
use Rattle.mum_msg_rule.specs.Messages.{acl}
use Rattle.mum_state.specs.declared.edit.Edit.{Edit, TheVariants.SetLimits}
use Rattle.mum_state.specs.{After.after, After.all_fit, Proper.IsProper, State.StateValue, State.empty_state}
use Rattle.mum_rules_tree.specs.Policy.{acl_told}
use Rattle.mum_config.specs.Limits.{FitAfterLimits, settings_and_accounts}
use Rattle.mum_kept.specs.declared.rows.{KeptChannel.KeptChannel, KeptRows.KeptRows}
use Rattle.mum_kept.specs.{Good.IsTree, Kept.kept, Policy.policy_in, Policy.policy_payload, Rebuild.rebuild}

-- as many sessions and channels as there may be
abbrev pub first_limits : Edit
first_limits = SetLimits SLOTS PLACES

-- what a server begins with: these limits, the settings and the accounts of a configuration, and the kept channels
abbrev pub opening_edits : List Edit → KeptRows → List Edit
opening_edits configuration rows = first_limits ∷ (settings_and_accounts configuration ++ rebuild rows)

-- the numbers of the channels have 32 bits, as in each row of the program: a law speaks of rows with any numbers
abbrev pub HaveNumbers : List KeptChannel → Type 0
HaveNumbers channels = All (λ channel. channel.id.0 < 2 ^ 32) channels

-- the policy written again: a payload may say the same in more than one way
abbrev pub respelled : KeptChannel → KeptChannel
respelled channel = record channel { policy = policy_payload channel.id (policy_in channel.policy) }

abbrev pub respelled_rows : KeptRows → KeptRows
respelled_rows rows = record { channels = map respelled rows.channels; links = rows.links }

-- the messages that report the policies can be written: their texts are UTF-8 and their numbers have 32 bits, as in
-- each state of the program
abbrev pub CanBeWritten : StateValue → Type 0
CanBeWritten state = All (λ row. AreTyped (layout acl) (parts acl (acl_told row.channel row.policy))) state.policies

-- After the settings and the accounts of a configuration, each edit that makes the channels of good rows is applicable
-- in its turn.
abbrev pub RebuildFits : Type 0
RebuildFits =
    (rows : KeptRows) (configuration : List Edit) → IsTree rows → HaveNumbers rows.channels
    → FitAfterLimits (settings_and_accounts configuration)
    → IsTrue (all_fit empty_state (opening_edits configuration rows))

-- What is kept of the state after these edits is the rows, with each policy written again.
abbrev pub RebuiltIsKept : Type 0
RebuiltIsKept =
    (rows : KeptRows) (configuration : List Edit) → IsTree rows → HaveNumbers rows.channels
    → FitAfterLimits (settings_and_accounts configuration)
    → kept (after (opening_edits configuration rows)) ≡ respelled_rows rows

-- What is kept of a proper state is good, and not empty.
abbrev pub KeptIsGood : Type 0
KeptIsGood = (state : StateValue) → IsProper state → CanBeWritten state → IsTree (kept state)

-- What is kept of a proper state is kept again of the state that is made of it.
abbrev pub KeptIsKeptAgain : Type 0
KeptIsKeptAgain =
    (state : StateValue) (configuration : List Edit) → IsProper state → CanBeWritten state
    → FitAfterLimits (settings_and_accounts configuration)
    → kept (after (opening_edits configuration (kept state))) ≡ kept state
