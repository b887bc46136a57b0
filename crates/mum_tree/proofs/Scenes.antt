-- Small trees of which worked facts speak, made step by step from the root alone. Channels are numbers.
use Rattle.mum_tree.proofs.Common.{ℕ, zero, suc, ◌+◌, ◌/◌, ◌%◌, true, false, List, [], ◌∷◌, ◌++◌, fold, map, Some, None, ChannelId, ChannelInfo, Row, Change, with_change, first_place, upward, TreeState, new_row, root_alone, with_info, with_link, with_name, with_new, with_parent, without_link, without_subtree}

abbrev pub channel : ℕ → ChannelId
channel number = record { 0 = number }

abbrev pub channels : List ℕ → List ChannelId
channels numbers = map channel numbers

abbrev pub number : ChannelId → ℕ
number id = id.0

-- ---- steps

abbrev pub Step : Type 0
Step = TreeState → TreeState

-- the tree to which these steps lead from the root alone
unfoldable pub tree : List Step → TreeState
unfolding first_place upward
tree steps = fold (λ made step. step made) root_alone steps

abbrev pub make : ℕ → ℕ → List ℕ → Step
make id parent name made = with_new made (channel id) (channel parent) name false

abbrev pub make_temporary : ℕ → ℕ → List ℕ → Step
make_temporary id parent name made = with_new made (channel id) (channel parent) name true

abbrev pub rename : ℕ → List ℕ → Step
rename id name made = with_name made (channel id) name

abbrev pub describe : ℕ → ChannelInfo → Step
describe id info made = with_info made (channel id) info

abbrev pub move : ℕ → ℕ → Step
move id parent made = with_parent made (channel id) (channel parent)

abbrev pub remove : ℕ → Step
remove id made = without_subtree made (channel id)

abbrev pub link : ℕ → ℕ → Step
link one other made = with_link made (channel one) (channel other)

abbrev pub unlink : ℕ → ℕ → Step
unlink one other made = without_link made (channel one) (channel other)

abbrev pub raise : ℕ → Step
raise limit made = record made { limit = limit }

abbrev pub edit : ℕ → Change → Step
edit id change made = with_change made (channel id) change

-- ---- many steps

-- a name for each number below 676
abbrev pub two_letters : ℕ → List ℕ
two_letters n = (65 + n / 26) ∷ (97 + n % 26) ∷ []

-- channels 1 to n, each under the one before
abbrev pub nested : ℕ → List Step
nested zero = []
nested (suc n) = nested n ++ make (suc n) n (two_letters n) ∷ []

-- n channels from this number on, all under the root
abbrev pub beside : ℕ → ℕ → List Step
beside first zero = []
beside first (suc n) = beside first n ++ make (first + n) 0 (two_letters (first + n)) ∷ []

-- rows at the places below n
abbrev pub at_places : ℕ → List Row
at_places zero = []
at_places (suc n) = new_row n (channel n) (channel 0) [] false ∷ at_places n

-- links of a channel to n channels from this number on
abbrev pub linked_to : ℕ → ℕ → ℕ → List Step
linked_to id first zero = []
linked_to id first (suc n) = linked_to id first n ++ link id (first + n) ∷ []

-- ---- changes of several parts

abbrev pub unchanged : Change
unchanged = record { name = None; parent = None; description = None; position = None; max_users = None; links_add = []; links_remove = [] }

abbrev pub to_name : List ℕ → Change
to_name name = record unchanged { name = Some name }

abbrev pub to_parent : ℕ → Change
to_parent parent = record unchanged { parent = Some (channel parent) }

-- another name under another parent
abbrev pub to_placement : List ℕ → ℕ → Change
to_placement name parent = record unchanged { name = Some name; parent = Some (channel parent) }

-- links that come, and links that go
abbrev pub to_links : List ℕ → List ℕ → Change
to_links add remove = record unchanged { links_add = channels add; links_remove = channels remove }
