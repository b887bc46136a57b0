-- Why a session does not hear another, and what takes a permission away, in words.
use Rattle.std.specs.Prelude.{ℕ, ◌==◌, List, ◌++◌, codes, decimal, Option, Some, None, if◌then◌else◌}
use Rattle.mum_base.specs.declared.number.ChannelId.{ChannelId}
use Rattle.mum_state.specs.State.{StateValue}
use Rattle.mum_route.specs.declared.{context.Context.Context, routes.TheConstants.TALK}
use Rattle.mum_route.specs.declared.context.Context.TheVariants.{ChannelWhisper, DirectWhisper, Listener, Talk}
use Rattle.mum_why.specs.declared.{cut.Cut.Cut, reason.Reason.Reason}
use Rattle.mum_why.specs.declared.cut.Cut.TheVariants.{Closed, Denied, NeverGiven, RootOnly, SuperUser}
use Rattle.mum_why.specs.declared.reason.Reason.TheVariants.{Deaf, DeafenedItself, Heard, ItIsItself, ListenerLacks, ListenerOutsideGroup, Muted, MutedItself, NoHearer, NoSpeaker, OnlyLoopback, OutsideGroup, SpeakerLacks, SpeakerLacksAtListener, Suppressed, Uncovered, Unset}
use Rattle.murmur_why.specs.Names.{channel_text, entry_text}

-- what takes a permission away: the entry that denies it, or the channel where the way ends
abbrev pub cut_text : StateValue → Cut → List ℕ
cut_text state (Denied channel index) = codes "denied by entry " ++ entry_text state channel index
cut_text state (Closed channel) = codes "no way through " ++ channel_text state channel
cut_text state RootOnly = codes "of the root alone"
cut_text state SuperUser = codes "never of SuperUser"
cut_text state NeverGiven = codes "given by no entry"

-- a permission is missing in a channel
abbrev pub lacks_text : StateValue → List ℕ → ChannelId → Cut → List ℕ
lacks_text state permission channel cut =
    codes "lacks " ++ permission ++ codes " in " ++ channel_text state channel ++ codes ": " ++ cut_text state cut

-- the context in which a session hears
abbrev pub context_word : Context → List ℕ
context_word Talk = codes "talk"
context_word ChannelWhisper = codes "whisper to its channel"
context_word DirectWhisper = codes "whisper to it"
context_word Listener = codes "listening"

-- what a speaker needs to be heard by a target
abbrev pub needed_word : ℕ → List ℕ
needed_word target = if target == TALK then codes "Speak" else codes "Whisper"

-- the speaker is suppressed, and lacks Speak or no longer does
abbrev pub cut_or_held : StateValue → Option Cut → List ℕ
cut_or_held state None = codes "is held, but was not when it was decided"
cut_or_held state (Some cut) = cut_text state cut

abbrev pub suppressed_text : StateValue → Option Cut → List ℕ
suppressed_text state cut = codes "the speaker is suppressed: Speak " ++ cut_or_held state cut

-- an item of the voice target is for a group
abbrev pub outside_text : StateValue → ℕ → ChannelId → List ℕ
outside_text state index channel =
    codes "is outside the group of item " ++ decimal index ++ codes " in " ++ channel_text state channel

-- a session listens to a channel
abbrev pub listening_text : StateValue → ChannelId → List ℕ
listening_text state channel = codes "listens to " ++ channel_text state channel

-- the speaker lacks what it needs
abbrev pub speaker_lacks_text : StateValue → ℕ → ChannelId → Cut → List ℕ
speaker_lacks_text state target channel cut =
    codes "the speaker " ++ lacks_text state (needed_word target) channel cut

-- why a session does not hear what another says to a target, or how it does
abbrev pub reason_text : StateValue → ℕ → Reason → List ℕ
reason_text state target (Heard context) = context_word context
reason_text state target NoSpeaker = codes "the speaker is not there"
reason_text state target NoHearer = codes "is not there"
reason_text state target Muted = codes "the speaker is muted"
reason_text state target MutedItself = codes "the speaker muted itself"
reason_text state target (Suppressed cut) = suppressed_text state cut
reason_text state target OnlyLoopback = codes "the speaker speaks to itself"
reason_text state target ItIsItself = codes "is the speaker"
reason_text state target Deaf = codes "is deaf"
reason_text state target DeafenedItself = codes "deafened itself"
reason_text state target Unset = codes "the voice target is not set"
reason_text state target (SpeakerLacks channel cut) = speaker_lacks_text state target channel cut
reason_text state target (OutsideGroup index channel) = outside_text state index channel
reason_text state target (ListenerLacks channel cut) = lacks_text state (codes "Listen") channel cut
reason_text state target (ListenerOutsideGroup index channel) =
    listening_text state channel ++ codes ", " ++ outside_text state index channel
reason_text state target (SpeakerLacksAtListener channel cut) =
    listening_text state channel ++ codes ", " ++ speaker_lacks_text state target channel cut
reason_text state target Uncovered = codes "is not where the speaker is heard"
