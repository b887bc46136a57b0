-- The BanList that shows a book.
use Rattle.std.specs.Prelude.{ℕ, List, [], ◌∷◌, map, Option, Some, None}
use Rattle.mum_fields.specs.Table.{spelled}
use Rattle.mum_bans.specs.declared.{ban.Ban.Ban, ban_entry.BanEntry.BanEntry, ban_list.BanList.BanList}
use Rattle.mum_bans.specs.Messages.{ban_list}

-- a text that has a byte
abbrev pub unless_empty : List ℕ → Option (List ℕ)
unless_empty [] = None
unless_empty (byte ∷ bytes) = Some (byte ∷ bytes)

-- a ban as an entry: an empty text is left out
abbrev pub entry_of : Ban → BanEntry
entry_of ban = record {
  address = Some ban.address;
  mask = Some ban.mask;
  name = unless_empty ban.name;
  hash = unless_empty ban.hash;
  reason = unless_empty ban.reason;
  duration = Some ban.duration;
}

-- all bans in their order
abbrev pub list_of_bans : List Ban → BanList
list_of_bans bans = record { bans = map entry_of bans; query = None }

-- the payload that shows them
abbrev pub answer : List Ban → List ℕ
answer bans = spelled ban_list (list_of_bans bans)
