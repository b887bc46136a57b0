-- The group `sub` and its arguments: "Groups" of the Murmur manual, in this server's own profile.
use Rattle.std.specs.Prelude.{ℕ, ◌+◌, ◌-◌, ◌==◌, ◌&&◌, nat_le, nat_lt, Bool, true, false, List, [], ◌∷◌, length, slice_index_or, Option, Some, None, if◌then◌else◌}
use Rattle.std.specs.{Char.is_ascii_digit, Str.Parse.digits_value}
use Rattle.std.specs.List.{list_all, list_any, slice_get, slice_split}
use Rattle.mum_base.specs.declared.number.ChannelId.{ChannelId}
use Rattle.mum_policy.specs.declared.subtree.{Offset.Offset, Span.Span}

-- ---- the arguments

-- the byte `,`
abbrev pub is_comma : ℕ → Bool
is_comma byte = byte == 44

-- the arguments of a list, which commas separate
abbrev pub separated : List ℕ → List (List ℕ)
separated list = slice_split is_comma list

-- those of a list that may be missing
abbrev pub list_of : Option (List ℕ) → List (List ℕ)
list_of None = []
list_of (Some list) = separated list

-- one to four digits
abbrev pub is_number : List ℕ → Bool
is_number digits = nat_le 1 (length digits) && nat_le (length digits) 4 && list_all is_ascii_digit digits

-- a number, which has this sign before it
abbrev pub signed : Bool → List ℕ → Option Offset
signed negative digits =
    if is_number digits then Some (record { negative = negative; size = digits_value 10 digits }) else None

-- an argument: where it is empty its default, else an optional `-` and one to four digits
unfoldable pub offset_of : ℕ → List ℕ → Option Offset
offset_of default [] = Some (record { negative = false; size = default })
offset_of default (byte ∷ rest) = if byte == 45 then signed true rest else signed false (byte ∷ rest)

-- a span, where each of its offsets is one
abbrev pub span_by : Option Offset → Option Offset → Option Offset → Option Span
span_by (Some from) (Some least) (Some most) = Some (record { from = from; least = least; most = most })
span_by from least most = None

-- at most three arguments; a missing one is as if it were empty
unfoldable pub span_of : List (List ℕ) → Option Span
span_of arguments =
    let argument : ℕ → List ℕ = λ place. slice_index_or arguments place [] in
    if nat_lt 3 (length arguments) then None
    else span_by (offset_of 0 (argument 0)) (offset_of 1 (argument 1)) (offset_of 1000 (argument 2))

-- ---- who is below

-- the place to which an offset leads from a place of a path, the root's at the least
abbrev pub place_from : ℕ → Offset → ℕ
place_from place offset = if offset.negative then place - offset.size else place + offset.size

-- the depth is at least the sum of the place and the offset
abbrev pub is_at_least : ℕ → ℕ → Offset → Bool
is_at_least depth place offset =
    if offset.negative then nat_le place (depth + offset.size) else nat_le (place + offset.size) depth

-- the depth is at most the sum of the place and the offset
abbrev pub is_at_most : ℕ → ℕ → Offset → Bool
is_at_most depth place offset =
    if offset.negative then nat_le (depth + offset.size) place else nat_le depth (place + offset.size)

-- there is a channel, and it is on the path
abbrev pub is_on : List ChannelId → Option ChannelId → Bool
is_on path None = false
is_on path (Some channel) = list_any (λ other. other.0 == channel.0) path

-- A session whose channel ends the path `home` is below the channel to which the span leads from the channel
-- of the ACL, at a depth within the span. The depth of the root is 0.
unfoldable pub is_below : List ChannelId → ℕ → Span → List ChannelId → Bool
is_below path acl_at span home =
    let top : ℕ = place_from acl_at span.from in
    let depth : ℕ = length home - 1 in
    is_on home (slice_get path top) && is_at_least depth top span.least && is_at_most depth top span.most

-- the same for a span that may be missing; nobody is in none
abbrev pub is_in_span : List ChannelId → ℕ → Option Span → List ChannelId → Bool
is_in_span path acl_at None home = false
is_in_span path acl_at (Some span) home = is_below path acl_at span home
