-- What a book of bans may hold, and what a list may ask for.
use Rattle.std.specs.Prelude.{ℕ, ◌==◌, ◌&&◌, Bool, List, [], length, nat_le, unwrap_or}
use Rattle.std.specs.List.{list_all}
use Rattle.mum_bans.specs.declared.{ban.Ban.Ban, ban_entry.BanEntry.BanEntry, ban_list.BanList.BanList}
use Rattle.mum_bans.specs.declared.limits.TheConstants.{ADDRESS_LENGTH, BAN_LIMIT, BAN_TEXT_LIMIT, MASK_LIMIT}

-- a text has no more bytes than one of a ban may have
abbrev pub is_short : List ℕ → Bool
is_short text = nat_le (length text) BAN_TEXT_LIMIT

-- the address has 16 bytes, the mask is within them, and each text is short
abbrev pub is_sound_ban : Ban → Bool
is_sound_ban ban = (length ban.address == ADDRESS_LENGTH)
    && (nat_le ban.mask MASK_LIMIT && (is_short ban.name && (is_short ban.hash && is_short ban.reason)))

-- no more bans than a book may hold, and each of them is as a ban may be
abbrev pub is_sound_book : List Ban → Bool
is_sound_book bans = nat_le (length bans) BAN_LIMIT && list_all is_sound_ban bans

-- the same of what an entry asks for
abbrev pub is_sound_entry : BanEntry → Bool
is_sound_entry entry = (length (unwrap_or entry.address []) == ADDRESS_LENGTH)
    && (nat_le (unwrap_or entry.mask 0) MASK_LIMIT
    && (is_short (unwrap_or entry.name [])
    && (is_short (unwrap_or entry.hash []) && is_short (unwrap_or entry.reason []))))

-- and of what a list asks for
abbrev pub is_sound_list : BanList → Bool
is_sound_list list = nat_le (length list.bans) BAN_LIMIT && list_all is_sound_entry list.bans
