-- BanList and the block in it, field by field as Mumble.proto has them: a reader checks each row's label, type, name and
-- number against it.
use Rattle.std.specs.Prelude.{[], ◌∷◌}
use Rattle.mum_fields.specs.Table.{Table, optional, required, repeated_message, uint32, bool, string, bytes}
use Rattle.mum_bans.specs.declared.{ban_entry.BanEntry.BanEntry, ban_list.BanList.BanList}

-- BanList.BanEntry. The field `start`, number 6, is passed over as one that is not known.
abbrev pub ban_entry : Table BanEntry
ban_entry = required bytes 1 (λ m. m.address)
    ∷ required uint32 2 (λ m. m.mask)
    ∷ optional string 3 (λ m. m.name)
    ∷ optional string 4 (λ m. m.hash)
    ∷ optional string 5 (λ m. m.reason)
    ∷ optional uint32 7 (λ m. m.duration)
    ∷ []

abbrev pub ban_list : Table BanList
ban_list = repeated_message ban_entry 1 (λ m. m.bans)
    ∷ optional bool 2 (λ m. m.query)
    ∷ []
