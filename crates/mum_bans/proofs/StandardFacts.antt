-- Bans worked out by hand.
use Rattle.mum_bans.proofs.Common.{◌≡◌, ℕ, List, [], ◌∷◌, ◌++◌, codes, true, false, Some, None, refl, hex, decoded, messages, IsSpelled, IsRespelled, misses, Ban, BanEntry, BanList, BanVerdict, refuses, after_call, ban_list, list_in, ban_entry_of, ban_list_of, ban_list_with, verdict_of, event_of}
use Rattle.mum_bans.specs.declared.verdict.BanVerdict.TheVariants as verdicts

-- an address of IPv4
abbrev ipv4 : List ℕ → List ℕ
ipv4 bytes = hex "00000000000000000000ffff" ++ bytes

-- 10.0.0.0 with the mask 104 for 60 seconds
abbrev ten : List ℕ
ten = hex "0a16 0a10 00000000000000000000ffff0a000000 1068 383c"

-- a query
abbrev query : List ℕ
query = hex "1001"

-- the bans that the payload leaves from the moment on, whoever sent it may ban
abbrev set_by : List Ban → List ℕ → ℕ → List Ban
set_by bans payload moment = after_call bans (event_of moment (verdict_of bans true (list_in payload)) (list_in payload))

abbrev book : List Ban
book = set_by [] ten 1000

-- the ban of those addresses since a moment
abbrev ban_since : ℕ → Ban
ban_since moment = record {
  address = ipv4 (10 ∷ 0 ∷ 0 ∷ 0 ∷ []);
  mask = 104;
  name = [];
  hash = [];
  reason = [];
  duration = 60;
  start = moment;
}

pub record BansByMask : Type 0 where
  pub set : verdict_of [] true (list_in ten) ≡ verdicts.Set
  pub the_book : book ≡ ban_since 1000 ∷ []
  pub living : refuses book (ipv4 (10 ∷ 1 ∷ 2 ∷ 3 ∷ [])) 1059 ≡ true
  pub over : refuses book (ipv4 (10 ∷ 1 ∷ 2 ∷ 3 ∷ [])) 1060 ≡ false
  pub not_covered : refuses book (ipv4 (11 ∷ 0 ∷ 0 ∷ 1 ∷ [])) 1059 ≡ false
  pub lacks : verdict_of [] false (list_in ten) ≡ verdicts.Lacks
  pub shown : verdict_of book true (list_in query) ≡ verdicts.Answer ten

pub bans_by_mask : BansByMask
unfolding messages ban_entry_of ban_list_of ban_list_with
bans_by_mask = record {
  set = refl;
  the_book = refl;
  living = refl;
  over = refl;
  not_covered = refl;
  lacks = refl;
  shown = refl;
}

pub record BansKeepTheirStart : Type 0 where
  pub the_same_again : set_by book ten 1030 ≡ ban_since 1000 ∷ []

pub bans_keep_their_start : BansKeepTheirStart
unfolding messages ban_entry_of ban_list_of ban_list_with
bans_keep_their_start = record { the_same_again = refl }

-- ---- the message, after Mumble.proto

abbrev list_of_one : BanEntry → BanList
list_of_one entry = record { bans = entry ∷ []; query = None }

abbrev entry_of_ten : BanEntry
entry_of_ten = record {
  address = Some (ipv4 (10 ∷ 0 ∷ 0 ∷ 0 ∷ []));
  mask = Some 104;
  name = None;
  hash = None;
  reason = None;
  duration = Some 60;
}

pub record AreLists : Type 0 where
  pub a_query : IsSpelled ban_list (record { bans = []; query = Some true }) query
  pub one_ban : IsSpelled ban_list (list_of_one entry_of_ten) ten
  pub every_field : IsSpelled ban_list
      (list_of_one (record entry_of_ten { name = Some (codes "ann"); hash = Some (codes "ab"); reason = Some (codes "no"); duration = Some 0 }))
      (hex "0a23 0a10 00000000000000000000ffff0a000000 1068 1a03616e6e 22026162 2a026e6f 3800")
  -- the date is no UTF-8 here
  pub a_start_is_passed_over : IsRespelled ban_list
      (hex "0a19 0a10 00000000000000000000ffff0a000000 1068 3201ff 383c")
      (list_of_one entry_of_ten)
      ten
  pub no_address : decoded ban_list (hex "0a02 1068") ≡ misses 1
  pub no_mask : decoded ban_list (hex "0a12 0a10 00000000000000000000ffff0a000000") ≡ misses 2

pub lists : AreLists
unfolding messages
lists = search

-- ---- limits

abbrev verdict : List ℕ → BanVerdict
verdict payload = verdict_of [] true (list_in payload)

pub record ListsAreRefused : Type 0 where
  pub an_address_of_4_bytes : verdict (hex "0a08 0a04 0a000000 1020") ≡ verdicts.Refused
  pub a_mask_of_129 : verdict (hex "0a15 0a10 00000000000000000000ffff0a000000 108101") ≡ verdicts.Refused
  pub a_mask_of_128 : verdict (hex "0a15 0a10 00000000000000000000ffff0a000000 108001") ≡ verdicts.Set
  pub malformed : verdict (hex "0a02 1068") ≡ verdicts.Ignored

pub lists_are_refused : ListsAreRefused
unfolding messages ban_entry_of ban_list_of ban_list_with
lists_are_refused = record {
  an_address_of_4_bytes = refl;
  a_mask_of_129 = refl;
  a_mask_of_128 = refl;
  malformed = refl;
}
