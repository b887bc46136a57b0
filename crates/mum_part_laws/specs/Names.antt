-- What the prefixes of a group name mean, and the names that the Murmur manual defines.
use Rattle.std.specs.Prelude.{◌≡◌, ⊤, ◌⊎◌, ◌↔◌, ◌≤◌, ◌<◌, ℕ, ◌+◌, ◌-◌, ◌==◌, not, Bool, false, true, List, [], ◌∷◌, ◌++◌, length, Some, codes, is_some, if◌then◌else◌, IsTrue}
use Rattle.std.specs.List.{All, Contains, list_all, list_any, slice_get, slice_index_or, slice_split}
use Rattle.std.specs.{Char.is_ascii_digit, Str.str_eq_ignore_ascii_case, Str.Parse.digits_value}
use Rattle.mum_base.specs.declared.number.ChannelId.{ChannelId}
use Rattle.mum_policy.specs.Member.{Actor, PolicyMap, member}

-- ---- prefixes

abbrev pub IsPrefix : ℕ → Type 0
IsPrefix byte = (byte ≡ 33) ⊎ (byte ≡ 126)

-- it does not begin with `!` or `~`
abbrev pub BeginsOtherwise : List ℕ → Type 0
BeginsOtherwise [] = ⊤
BeginsOtherwise (byte ∷ rest) = ¬ IsPrefix byte

abbrev pub negated_if : Bool → Bool → Bool
negated_if negates met = if negates then not met else met

abbrev pub at_acl_if : Bool → List ℕ → List ℕ
at_acl_if has word = if has then 126 ∷ word else word

-- `!` before a name negates it, however often it is there, and `~` is read once
abbrev pub PrefixesAreRead : Type 0
PrefixesAreRead =
    (policies : PolicyMap) (path : List ChannelId) (acl_at : ℕ) (who : Actor) (prefixes word : List ℕ)
    → All IsPrefix prefixes → BeginsOtherwise word
    → member policies path acl_at (prefixes ++ word) who
    ≡ negated_if (list_any (λ byte. byte == 33) prefixes)
    (member policies path acl_at (at_acl_if (list_any (λ byte. byte == 126) prefixes) word) who)

-- ---- names of the manual

-- one of its tokens is the word, whatever the case of its letters
abbrev pub HasToken : Actor → List ℕ → Type 0
HasToken who word = (token : List ℕ) × Contains who.tokens token × IsTrue (str_eq_ignore_ascii_case token word)

-- `#` before a word is for whoever has it as an access token
abbrev pub TokensAreWords : Type 0
TokensAreWords =
    (policies : PolicyMap) (path : List ChannelId) (acl_at : ℕ) (who : Actor) (word : List ℕ)
    → IsTrue (member policies path acl_at (35 ∷ word) who) ↔ HasToken who word

-- `all` is everybody, `auth` whoever has an account, `none` and `strong` nobody, and so are an empty name and what begins
-- with `$`; `in` is who is in the channel, and `out` is not
pub record AreKnown (policies : PolicyMap) (above : List ChannelId) (channel : ChannelId) (acl_at : ℕ)
    (who : Actor) : Type 0 where
  pub all : member policies (above ++ channel ∷ []) acl_at (codes "all") who ≡ true
  pub auth : member policies (above ++ channel ∷ []) acl_at (codes "auth") who ≡ is_some who.account
  pub none : member policies (above ++ channel ∷ []) acl_at (codes "none") who ≡ false
  pub strong : member policies (above ++ channel ∷ []) acl_at (codes "strong") who ≡ false
  pub empty : member policies (above ++ channel ∷ []) acl_at [] who ≡ false
  pub dollar : (rest : List ℕ) → member policies (above ++ channel ∷ []) acl_at (36 ∷ rest) who ≡ false
  pub inside : member policies (above ++ channel ∷ []) acl_at (codes "in") who ≡ (channel.0 == who.channel.0)
  pub outside : member policies (above ++ channel ∷ []) acl_at (codes "out") who ≡ not (channel.0 == who.channel.0)

abbrev pub NamesAreKnown : Type 0
NamesAreKnown =
    (policies : PolicyMap) (above : List ChannelId) (channel : ChannelId) (acl_at : ℕ) (who : Actor)
    → AreKnown policies above channel acl_at who

-- ---- who is below a channel

-- n channels down, or up
pub record Steps : Type 0 where
  pub up : Bool
  pub count : ℕ

-- one to four digits
abbrev pub AreDigits : List ℕ → ℕ → Type 0
AreDigits digits n =
    (1 ≤ length digits) × (length digits ≤ 4) × IsTrue (list_all is_ascii_digit digits) × (digits_value 10 digits ≡ n)

-- an argument: where it is empty as many down as it is without one, else digits, or a `-` and digits for as many up
abbrev pub IsArgument : ℕ → List ℕ → Steps → Type 0
IsArgument default [] steps = (steps.up ≡ false) × (steps.count ≡ default)
IsArgument default (byte ∷ rest) steps =
    ((steps.up ≡ false) × AreDigits (byte ∷ rest) steps.count)
    ⊎ ((steps.up ≡ true) × (byte ≡ 45) × AreDigits rest steps.count)

-- the place so far from another; the root's is 0, and none is above it
abbrev pub place_from : ℕ → Steps → ℕ
place_from place steps = if steps.up then place - steps.count else place + steps.count

-- the depth is at least, and at most, n channels below a place, or above it; the root is at depth 0
abbrev pub IsAtLeast : Bool → ℕ → ℕ → ℕ → Type 0
IsAtLeast false count place depth = place + count ≤ depth
IsAtLeast true count place depth = place ≤ depth + count

abbrev pub IsAtMost : Bool → ℕ → ℕ → ℕ → Type 0
IsAtMost false count place depth = depth ≤ place + count
IsAtMost true count place depth = depth + count ≤ place

-- the session is below the channel at the place of the way, or in it, and as far from that as the two arguments say
pub record IsBelow (path home : List ChannelId) (place : ℕ) (least most : Steps) : Type 0 where
  pub top : ChannelId
  pub at : slice_get path place ≡ Some top
  pub on_way : (one : ChannelId) × Contains home one × (one.0 ≡ top.0)
  pub far : IsAtLeast least.up least.count place (length home - 1)
  pub near : IsAtMost most.up most.count place (length home - 1)

-- the arguments of a list, which commas separate; one that is missing is empty
abbrev pub arguments_in : List ℕ → List (List ℕ)
arguments_in list = slice_split (λ byte. byte == 44) list

abbrev pub argument : List ℕ → ℕ → List ℕ
argument list place = slice_index_or (arguments_in list) place []

-- `sub,from,least,most` begins as many channels below that of the list, or above it, as its first argument says
abbrev pub SubIsOfWays : Type 0
SubIsOfWays =
    (policies : PolicyMap) (path : List ChannelId) (acl_at : ℕ) (who : Actor) (list : List ℕ) (from least most : Steps)
    → length (arguments_in list) ≤ 3
    → IsArgument 0 (argument list 0) from → IsArgument 1 (argument list 1) least
    → IsArgument 1000 (argument list 2) most
    → IsTrue (member policies path acl_at (codes "sub," ++ list) who) ↔ IsBelow path who.home (place_from acl_at from) least most

-- nobody is in one with more arguments, or with one that is no argument
abbrev pub IsNoArgument : ℕ → List ℕ → Type 0
IsNoArgument default text = (steps : Steps) → IsArgument default text steps → ⊥

abbrev pub SubIsElseOfNobody : Type 0
SubIsElseOfNobody =
    (policies : PolicyMap) (path : List ChannelId) (acl_at : ℕ) (who : Actor) (list : List ℕ)
    → (3 < length (arguments_in list)) ⊎ IsNoArgument 0 (argument list 0) ⊎ IsNoArgument 1 (argument list 1)
    ⊎ IsNoArgument 1000 (argument list 2)
    → member policies path acl_at (codes "sub," ++ list) who ≡ false
