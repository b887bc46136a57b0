-- Names for the time until each channel has its own: three lowercase letters with which no name begins, and a number.
use Rattle.std.specs.Prelude.{ℕ, zero, suc, ◌+◌, ◌-◌, ◌*◌, ◌/◌, ◌%◌, ◌&&◌, nat_le, Bool, List, [], ◌∷◌, length, map, slice_index, take, if◌then◌else◌}
use Rattle.std.specs.{List.list_any, Str.bytes_eq}
use Rattle.mum_kept.specs.declared.rows.KeptChannel.{KeptChannel}

-- three lowercase letters: aaa, aab and so on
unfoldable pub prefix : ℕ → List ℕ
prefix n = (97 + n / 676) ∷ (97 + n / 26 % 26) ∷ (97 + n % 26) ∷ []

-- the name begins with the prefix
abbrev pub begins_with : ℕ → List ℕ → Bool
begins_with n name = bytes_eq (take 3 name) (prefix n)

abbrev pub is_used : List (List ℕ) → ℕ → Bool
is_used names n = list_any (begins_with n) names

-- the first of the next prefixes, from this one on, with which no name begins; where the names are fewer than these,
-- there is one
unfoldable pub first_unused : List (List ℕ) → ℕ → ℕ → ℕ
first_unused names zero n = n
first_unused names (suc more) n = if is_used names n then first_unused names more (n + 1) else n

-- the first prefix with which no name begins
abbrev pub free_prefix : List KeptChannel → List ℕ
free_prefix channels = prefix (first_unused (map (λ channel. channel.name) channels) (length channels) 0)

-- ---- the prefix of a name

-- a to z
abbrev pub is_letter : ℕ → Bool
is_letter byte = nat_le 97 byte && nat_le byte 122

abbrev pub begins_with_letters : List ℕ → Bool
begins_with_letters name =
    is_letter (slice_index name 0) && is_letter (slice_index name 1) && is_letter (slice_index name 2)

-- the number of the prefix with which the name begins; 17,576 where it begins with none
abbrev pub prefix_number : List ℕ → ℕ
prefix_number name =
    if begins_with_letters name
    then (slice_index name 0 - 97) * 676 + (slice_index name 1 - 97) * 26 + (slice_index name 2 - 97) else 17576
