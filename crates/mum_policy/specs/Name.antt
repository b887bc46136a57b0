-- What a group name asks of a session: the prefixes and the names of the Murmur manual's "Groups".
use Rattle.std.specs.Prelude.{ℕ, ◌==◌, ◌||◌, Bool, true, false, List, [], ◌∷◌, codes, drop, nat_eq, Option, Some, None, if◌then◌else◌}
use Rattle.std.specs.{List.starts_with, Option.option_copied, Str.bytes_eq}
use Rattle.mum_policy.specs.declared.{name.Asked.Asked, name.GroupName.GroupName, subtree.Span.Span}
use Rattle.mum_policy.specs.declared.name.Asked.TheVariants.{Nobody, Everybody, Registered, Inside, Outside, Token, Subtree, Defined}
use Rattle.mum_policy.specs.Subtree.{list_of, span_of}

-- what a group name asks of a session, without where its bytes lie in memory
pub data Asks : Type 0 where
  nobody : Asks
  everybody : Asks
  registered : Asks
  inside : Asks
  outside : Asks
  token : List ℕ → Asks
  subtree : Span → Asks
  defined : List ℕ → Asks

-- a name that was read: whether it has the prefixes `!` and `~`, and what it asks
pub record Understood : Type 0 where
  pub negated : Bool
  pub at_acl : Bool
  pub asks : Asks

-- the built-in names that no session is in
unfoldable pub is_built_in_without_members : List ℕ → Bool
is_built_in_without_members word = bytes_eq word (codes "none") || bytes_eq word (codes "strong")

-- arguments of `sub` that make no span match nobody
abbrev pub subtree_or_nobody : Option Span → Asks
subtree_or_nobody None = Asks.nobody
subtree_or_nobody (Some span) = Asks.subtree span

-- the other built-in names, `sub` and its arguments, and the names that channels define
unfoldable pub meaning : List ℕ → Asks
meaning word =
    if bytes_eq word (codes "all") then Asks.everybody
    else if bytes_eq word (codes "auth") then Asks.registered
    else if bytes_eq word (codes "in") then Asks.inside
    else if bytes_eq word (codes "out") then Asks.outside
    else if is_built_in_without_members word then Asks.nobody
    else if bytes_eq word (codes "sub") then subtree_or_nobody (span_of (list_of None))
    else if starts_with nat_eq word (codes "sub,") then subtree_or_nobody (span_of (list_of (Some (drop 4 word))))
    else Asks.defined word

-- what follows `!` and `~`: `#` before a token, `$` before what matches nobody, or a name
unfoldable pub asked_by : List ℕ → Asks
asked_by [] = Asks.nobody
asked_by (byte ∷ rest) =
    if byte == 35 then Asks.token rest
    else if byte == 36 then Asks.nobody
    else meaning (byte ∷ rest)

-- Prefixes are read from the front: `!` negates, and several negate once; `~` chooses the channel of
-- the ACL; any other byte ends them.
unfoldable pub understood_after : Bool → Bool → List ℕ → Understood
understood_after negated at_acl [] = record { negated = negated; at_acl = at_acl; asks = asked_by [] }
understood_after negated at_acl (byte ∷ rest) =
    if byte == 33 then understood_after true at_acl rest
    else if byte == 126 then understood_after negated true rest
    else record { negated = negated; at_acl = at_acl; asks = asked_by (byte ∷ rest) }

-- how a whole name is read
abbrev pub understood : List ℕ → Understood
understood name = understood_after false false name

-- what the code says is asked
abbrev pub asks_of : Asked → Asks
asks_of Nobody = Asks.nobody
asks_of Everybody = Asks.everybody
asks_of Registered = Asks.registered
asks_of Inside = Asks.inside
asks_of Outside = Asks.outside
asks_of (Token word) = Asks.token word.now
asks_of (Subtree list) = subtree_or_nobody (span_of (list_of (option_copied list)))
asks_of (Defined word) = Asks.defined word.now

-- what the code read
abbrev pub reading_of : GroupName → Understood
reading_of name = record { negated = name.negated; at_acl = name.at_acl; asks = asks_of name.asked }
