-- Small rosters of which worked facts speak, made step by step from the empty one. Sessions, channels and slots are numbers.
use Rattle.mum_users.proofs.Common.{ℕ, zero, suc, ◌+◌, Bool, true, false, List, [], ◌∷◌, ◌++◌, fold, map, nat_eq, replicate, Option, Some, None, AccountId, ChannelId, SessionId, Slot, FlagChange, Target, TargetItem, User, UserEdit, edited, not_listening, listening, without_channels, joined, left, placed, suppressed, with_flags, with_texts, with_tokens, RosterState, empty_roster, joining, targeted}

abbrev pub session : ℕ → SessionId
session number = record { 0 = number }

abbrev pub slot : ℕ → Slot
slot number = record { 0 = number }

abbrev pub channel : ℕ → ChannelId
channel number = record { 0 = number }

abbrev pub channels : List ℕ → List ChannelId
channels numbers = map channel numbers

abbrev pub account : ℕ → AccountId
account number = record { 0 = number }

-- ---- steps

abbrev pub Step : Type 0
Step = RosterState → RosterState

-- the roster to which these steps lead from the empty one
abbrev pub roster : List Step → RosterState
roster steps = fold (λ made step. step made) empty_roster steps

-- without an account and tokens
abbrev pub join : List ℕ → Step
join name made = joined made name None []

abbrev pub leave : ℕ → Step
leave number made = left made (session number)

abbrev pub place : ℕ → ℕ → Step
place number where_to made = placed made (session number) (channel where_to)

abbrev pub suppress : ℕ → Bool → Step
suppress number on made = suppressed made (session number) on

abbrev pub set_flags : ℕ → FlagChange → Step
set_flags number change made = with_flags made (session number) change

abbrev pub set_tokens : ℕ → List (List ℕ) → Step
set_tokens number tokens made = with_tokens made (session number) tokens

abbrev pub set_texts : ℕ → Option (List ℕ) → Option (List ℕ) → Step
set_texts number comment context made = with_texts made (session number) comment context

abbrev pub listen : ℕ → ℕ → Step
listen number to made = listening made (session number) (channel to)

abbrev pub unlisten : ℕ → ℕ → Step
unlisten number to made = not_listening made (session number) (channel to)

-- nobody listens to the channel, which is gone
abbrev pub close : ℕ → Step
close gone made = without_channels made (λ id. nat_eq id.0 gone)

abbrev pub set_target : ℕ → ℕ → Target → Step
set_target number id target made = targeted made (session number) id target

abbrev pub edit : ℕ → UserEdit → Step
edit number change made = edited made (session number) change

-- ---- many steps

-- sessions 1 to n join; the name of session n is n letters u
abbrev pub joins : ℕ → List Step
joins zero = []
joins (suc n) = joins n ++ join (replicate (suc n) 117) ∷ []

-- sessions 1 to n listen to a channel
abbrev pub all_listen : ℕ → ℕ → List Step
all_listen zero to = []
all_listen (suc n) to = all_listen n to ++ listen (suc n) to ∷ []

-- n numbers from this one on
abbrev pub numbers_from : ℕ → ℕ → List ℕ
numbers_from first zero = []
numbers_from first (suc n) = first ∷ numbers_from (first + 1) n

-- a session listens to these channels
abbrev pub listens_to : ℕ → List ℕ → List Step
listens_to number to = map (λ one. listen number one) to

-- ---- rows, changes and targets

-- a session that just joined
abbrev pub row : ℕ → ℕ → List ℕ → User
row number placement name = joining (session number) (slot placement) name None []

abbrev pub same_flags : FlagChange
same_flags = record { mute = None; deaf = None; suppress = None; self_mute = None; self_deaf = None; priority = None; recording = None }

abbrev pub unchanged : UserEdit
unchanged = record { channel = None; flags = same_flags; comment = None; context = None; listen = []; unlisten = [] }

abbrev pub to_channel : ℕ → UserEdit
to_channel where_to = record unchanged { channel = Some (channel where_to) }

-- channels to listen to, and channels to leave
abbrev pub to_listen : List ℕ → List ℕ → UserEdit
to_listen to away = record unchanged { listen = channels to; unlisten = channels away }

-- an item of a voice target: a channel, or some sessions
abbrev pub item_channel : ℕ → TargetItem
item_channel where_to = record { sessions = []; channel = Some (channel where_to); group = []; links = false; children = false }

abbrev pub item_sessions : List ℕ → TargetItem
item_sessions numbers = record { sessions = map session numbers; channel = None; group = []; links = false; children = false }

abbrev pub with_links : TargetItem → TargetItem
with_links item = record item { links = true }

abbrev pub with_children : TargetItem → TargetItem
with_children item = record item { children = true }

abbrev pub with_group : List ℕ → TargetItem → TargetItem
with_group name item = record item { group = name }

abbrev pub target : List TargetItem → Target
target items = record { items = items }
