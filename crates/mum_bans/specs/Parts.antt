-- A message is described by its parts: each table has a row for each field of the struct.
use Rattle.std.proofs.Common.{ap, ◌∙◌, refl}
use Rattle.std.specs.Prelude.{◌≡◌, ℕ, List, [], ◌∷◌, map, Result, Ok, Err}
use Rattle.mum_fields.proofs.Public.{messages-same}
use Rattle.mum_fields.specs.declared.message.MessageFault.{MessageFault}
use Rattle.mum_fields.specs.Table.{Values, layout, parts, decoded}
use Rattle.mum_bans.specs.declared.{ban_entry.BanEntry.BanEntry, ban_list.BanList.BanList}
use Rattle.mum_bans.specs.Messages.{ban_entry, ban_list}

-- the entry that has these values
unfoldable pub ban_entry_of : Values (layout ban_entry) → BanEntry
ban_entry_of v = record {
  address = v.0;
  mask = v.1.0;
  name = v.1.1.0;
  hash = v.1.1.1.0;
  reason = v.1.1.1.1.0;
  duration = v.1.1.1.1.1.0;
}

pub ban_entry_told : (m n : BanEntry) → parts ban_entry m ≡ parts ban_entry n → m ≡ n
unfolding ban_entry_of
ban_entry_told m n h = ap ban_entry_of h

-- the list that has these values, with these entries
unfoldable pub ban_list_with : Values (layout ban_list) → List BanEntry → BanList
ban_list_with v bans = record { bans = bans; query = v.1.0 }

pub ban_list_told : (m n : BanList) → parts ban_list m ≡ parts ban_list n → m ≡ n
unfolding ban_list_with
ban_list_told m n h =
    let bans = messages-same ban_entry ban_entry_told m.bans n.bans (ap (λ (v : Values (layout ban_list)). v.0) h) in
    ap (λ v. ban_list_with v m.bans) h ∙ ap (λ x. ban_list_with (parts ban_list n) x) bans

-- the list that has these values
unfoldable pub ban_list_of : Values (layout ban_list) → BanList
ban_list_of v = ban_list_with v (map ban_entry_of v.0)

entries_back : (entries : List BanEntry) → map ban_entry_of (map (parts ban_entry) entries) ≡ entries
unfolding ban_entry_of
entries_back [] = refl
entries_back (entry ∷ entries) = ap (λ xs. entry ∷ xs) (entries_back entries)

pub ban_list_back : (m : BanList) → ban_list_of (parts ban_list m) ≡ m
unfolding ban_list_of ban_list_with
ban_list_back m = ap (λ xs. ban_list_with (parts ban_list m) xs) (entries_back m.bans)

abbrev pub list_of : Result (Values (layout ban_list)) MessageFault → Result BanList MessageFault
list_of (Ok values) = Ok (ban_list_of values)
list_of (Err fault) = Err fault

-- the list that a payload is, or the fault by which it is none
abbrev pub list_in : List ℕ → Result BanList MessageFault
list_in payload = list_of (decoded ban_list payload)
