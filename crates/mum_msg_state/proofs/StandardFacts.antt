-- Worked messages, after Mumble.proto, so that a wrong label, type, name or number in a table does not check. Those of a
-- client or a server are what Mumble 1.3.4 and its server wrote; a payload's fields are apart.
use Rattle.mum_msg_state.proofs.Common.{◌≡◌, ◌-◌, ◌^◌, true, false, [], ◌∷◌, codes, map, take, pos, negsuc, Some, None, refl, hex, decoded, messages, IsSpelled, IsRespelled, IsRead, stopped, misses, end_of, fine, Ping, Version, Authenticate, Reject, ServerSync, CodecVersion, ChannelRemove, UserRemove, ChannelState, UserState, ping, version, authenticate, reject, server_sync, codec_version, channel_remove, user_remove, channel_state, user_state}

-- messages with no field set
abbrev no_version : Version
no_version = record { version = None; release = None; os = None; os_version = None }

abbrev no_login : Authenticate
no_login = record { username = None; password = None; tokens = []; celt_versions = []; opus = None }

abbrev no_ping : Ping
no_ping = record { timestamp = None }

abbrev no_reject : Reject
no_reject = record { kind = None; reason = None }

abbrev no_sync : ServerSync
no_sync = record { session = None; max_bandwidth = None; welcome_text = None; permissions = None }

abbrev no_codec : CodecVersion
no_codec = record { alpha = None; beta = None; prefer_alpha = None; opus = None }

abbrev no_remove : ChannelRemove
no_remove = record { channel_id = None }

abbrev no_user_remove : UserRemove
no_user_remove = record { session = None; actor = None; reason = None; ban = None }

abbrev no_channel : ChannelState
no_channel = record {
  channel_id = None;
  parent = None;
  name = None;
  links = [];
  description = None;
  links_add = [];
  links_remove = [];
  temporary = None;
  position = None;
  max_users = None;
}

abbrev no_user : UserState
no_user = record {
  session = None;
  actor = None;
  name = None;
  user_id = None;
  channel_id = None;
  mute = None;
  deaf = None;
  suppress = None;
  self_mute = None;
  self_deaf = None;
  plugin_context = None;
  plugin_identity = None;
  comment = None;
  priority_speaker = None;
  recording = None;
  temporary_access_tokens = [];
  listening_channel_add = [];
  listening_channel_remove = [];
}

-- ---- what is written and read

-- what a client opens with, and what it is answered first
pub record AreOpening : Type 0 where
  pub a_version : IsSpelled version
      (record no_version { version = Some 66560; release = Some (codes "1.4.287"); os = Some (codes "X11") })
      (hex "08808804 1207312e342e323837 1a03583131")
  pub a_login : IsSpelled authenticate
      (record no_login { username = Some (codes "ann"); tokens = codes "secret" ∷ []; celt_versions = negsuc 2147483636 ∷ []; opus = Some true })
      (hex "0a03616e6e 1a06736563726574 208b808080f8ffffffff01 2801")
  pub a_ping : IsRead ping (hex "0805 1001 1802 450000803f") (record no_ping { timestamp = Some 5 })
  pub a_version_back : IsSpelled version
      (record no_version { version = Some 66560; release = Some (codes "murmur") })
      (hex "08808804 12066d75726d7572")
  pub the_root : IsSpelled channel_state (record no_channel { channel_id = Some 0; name = Some (codes "Root") }) (hex "0800 1a04526f6f74")
  pub a_user : IsSpelled user_state (record no_user { session = Some 1; name = Some (codes "ann"); channel_id = Some 0 }) (hex "0801 1a03616e6e 2800")
  pub the_end : IsSpelled server_sync
      (record no_sync { session = Some 1; max_bandwidth = Some 72000; permissions = Some 2830 })
      (hex "0801 10c0b204 208e16")

pub opening : AreOpening
unfolding messages
opening = search

pub record AreVersions : Type 0 where
  pub of_a_client : IsSpelled version
      (record no_version { version = Some 66308; release = Some (codes "1.3.4-4"); os = Some (codes "X11"); os_version = Some (codes "Debian GNU/Linux 12 (bookworm)") })
      (hex "08848604 1207312e332e342d34 1a03583131 221e44656269616e20474e552f4c696e75782031322028626f6f6b776f726d29")
  pub every_field : IsSpelled version
      (record no_version { version = Some 66560; release = Some (codes "r"); os = Some (codes "o"); os_version = Some (codes "v") })
      (hex "08808804 120172 1a016f 220176")
  pub nothing : IsSpelled version no_version []
  pub in_the_order_of_the_numbers : IsRespelled version
      (hex "220136 1a00 120172 0801")
      (record no_version { version = Some 1; release = Some (codes "r"); os = Some []; os_version = Some (codes "6") })
      (hex "0801 120172 1a00 220136")
  pub the_last_value_counts : IsRespelled version
      (hex "0801 0802 120161 120162 1a0163 1a0164 220165 220166")
      (record no_version { version = Some 2; release = Some (codes "b"); os = Some (codes "d"); os_version = Some (codes "f") })
      (hex "0802 120162 1a0164 220166")
  pub the_low_32_bits : IsRespelled version (hex "088080848010") (record no_version { version = Some 65536 }) (hex "08808004")

pub versions : AreVersions
unfolding messages
versions = search

pub record AreLogins : Type 0 where
  pub of_a_client : IsSpelled authenticate
      (record no_login { username = Some (codes "carol"); password = Some []; tokens = codes "open" ∷ []; celt_versions = negsuc 2147483636 ∷ []; opus = Some true })
      (hex "0a056361726f6c 1200 1a046f70656e 208b808080f8ffffffff01 2801")
  pub tokens_alone : IsSpelled authenticate (record no_login { tokens = codes "open" ∷ [] }) (hex "1a046f70656e")
  pub every_field : IsSpelled authenticate
      (record no_login { username = Some (codes "a"); password = Some (codes "p"); tokens = codes "t" ∷ codes "u" ∷ []; celt_versions = pos 1 ∷ pos 2 ∷ []; opus = Some false })
      (hex "0a0161 120170 1a0174 1a0175 2001 2002 2800")
  pub the_last_text_and_every_token : IsRespelled authenticate
      (hex "0a0161 0a0162 120163 120164 1a0165 1a0166 2001 2002 2800 2801")
      (record no_login { username = Some (codes "b"); password = Some (codes "d"); tokens = codes "e" ∷ codes "f" ∷ []; celt_versions = pos 1 ∷ pos 2 ∷ []; opus = Some true })
      (hex "0a0162 120164 1a0165 1a0166 2001 2002 2801")
  pub packed_and_single_numbers : IsRespelled authenticate
      (hex "2007 2203019601 2200 2003")
      (record no_login { celt_versions = pos 7 ∷ pos 1 ∷ pos 150 ∷ pos 3 ∷ [] })
      (hex "2007 2001 209601 2003")
  pub false_is_not_nothing : IsSpelled authenticate (record no_login { opus = Some false }) (hex "2800")
  pub not_0_is_true : IsRespelled authenticate (hex "2802") (record no_login { opus = Some true }) (hex "2801")
  pub low_byte_0_is_true : IsRespelled authenticate (hex "288002") (record no_login { opus = Some true }) (hex "2801")
  pub a_block_is_no_truth_value : IsRead authenticate (hex "2a01ff") no_login
  pub an_unknown_number : IsRead authenticate (hex "5a02ffd8") no_login

pub logins : AreLogins
unfolding messages
logins = search

pub record ArePings : Type 0 where
  pub of_a_client : IsRead ping (hex "08eedd04 1000 1800 2000 2800 3000 3800") (record no_ping { timestamp = Some 77550 })
  pub of_64_bits : IsSpelled ping (record no_ping { timestamp = Some (2 ^ 64 - 1) }) (hex "08ffffffffffffffffff01")
  pub the_last_counts : IsRespelled ping (hex "0801 0805") (record no_ping { timestamp = Some 5 }) (hex "0805")

pub pings : ArePings
unfolding messages
pings = search

pub record AreRejects : Type 0 where
  pub a_wrong_password : IsSpelled reject (record no_reject { kind = Some 3; reason = Some (codes "no") }) (hex "0803 12026e6f")
  pub the_last_counts : IsRespelled reject
      (hex "120161 0801 0803 12026e6f")
      (record no_reject { kind = Some 3; reason = Some (codes "no") })
      (hex "0803 12026e6f")

pub rejects : AreRejects
unfolding messages
rejects = search

pub record AreSyncs : Type 0 where
  pub of_a_server : IsSpelled server_sync
      (record no_sync { session = Some 1; max_bandwidth = Some 558000; welcome_text = Some (codes "This is only a stand-in."); permissions = Some 985087 })
      (hex "0801 10b08722 1a1854686973206973206f6e6c792061207374616e642d696e2e 20ff8f3c")
  pub every_field : IsSpelled server_sync
      (record no_sync { session = Some 1; max_bandwidth = Some 72000; welcome_text = Some (codes "hi"); permissions = Some 2830 })
      (hex "0801 10c0b204 1a026869 208e16")
  pub permissions_of_64_bits : IsRespelled server_sync
      (hex "20ffffffffffffffffff01 1a026869 1002 0801")
      (record no_sync { session = Some 1; max_bandwidth = Some 2; welcome_text = Some (codes "hi"); permissions = Some (2 ^ 64 - 1) })
      (hex "0801 1002 1a026869 20ffffffffffffffffff01")

pub syncs : AreSyncs
unfolding messages
syncs = search

pub record AreCodecs : Type 0 where
  pub of_a_server : IsSpelled codec_version
      (record no_codec { alpha = Some (negsuc 2147483636); beta = Some (pos 0); prefer_alpha = Some true; opus = Some true })
      (hex "088b808080f8ffffffff01 1000 1801 2001")
  pub in_five_bytes : IsRespelled codec_version
      (hex "088b80808008 1000 1801 2001")
      (record no_codec { alpha = Some (negsuc 2147483636); beta = Some (pos 0); prefer_alpha = Some true; opus = Some true })
      (hex "088b808080f8ffffffff01 1000 1801 2001")
  pub every_field : IsSpelled codec_version
      (record no_codec { alpha = Some (pos 0); beta = Some (pos 0); prefer_alpha = Some true; opus = Some true })
      (hex "0800 1000 1801 2001")
  pub the_fourth_is_not_required : IsSpelled codec_version
      (record no_codec { alpha = Some (pos 1); beta = Some (pos 1); prefer_alpha = Some false })
      (hex "0801 1001 1800")
  pub the_last_counts : IsRespelled codec_version
      (hex "0801 0802 1003 1004 1800 1801 2001 2000")
      (record no_codec { alpha = Some (pos 2); beta = Some (pos 4); prefer_alpha = Some true; opus = Some false })
      (hex "0802 1004 1801 2000")
  pub no_field : decoded codec_version [] ≡ misses 1
  pub no_second : decoded codec_version (hex "0801") ≡ misses 2
  pub no_third : decoded codec_version (hex "0801 1001") ≡ misses 3
  pub the_least_is_named : decoded codec_version (hex "1801") ≡ misses 1
  pub a_block_is_none : decoded codec_version (hex "0a00 1001 1801") ≡ misses 1
  pub in_any_order : decoded codec_version (hex "2001 1001 0801") ≡ misses 3
  pub a_fault_comes_first : decoded codec_version (hex "1001 18") ≡ stopped 11 3

pub codecs : AreCodecs
unfolding messages
codecs = search

pub record AreRemoves : Type 0 where
  pub of_a_channel : IsSpelled channel_remove (record no_remove { channel_id = Some 3 }) (hex "0803")
  pub of_the_root : IsSpelled channel_remove (record no_remove { channel_id = Some 0 }) (hex "0800")
  pub no_channel : decoded channel_remove [] ≡ misses 1
  pub a_block_is_none : decoded channel_remove (hex "0a00") ≡ misses 1
  pub of_a_user : IsSpelled user_remove (record no_user_remove { session = Some 2 }) (hex "0802")
  pub a_kick_of_a_client : IsSpelled user_remove
      (record no_user_remove { session = Some 3; reason = Some (codes "out with you"); ban = Some false })
      (hex "0803 1a0c6f7574207769746820796f75 2000")
  pub a_ban_of_a_server : IsSpelled user_remove
      (record no_user_remove { session = Some 4; actor = Some 1; reason = Some (codes "begone"); ban = Some true })
      (hex "0804 1001 1a066265676f6e65 2001")
  pub no_session : decoded user_remove (hex "1007 1a026869") ≡ misses 1

pub removes : AreRemoves
unfolding messages
removes = search

pub record AreChannels : Type 0 where
  pub of_a_client : IsSpelled channel_state
      (record no_channel { parent = Some 0; name = Some (codes "Room"); description = Some (codes "The room"); temporary = Some false; position = Some (pos 5); max_users = Some 0 })
      (hex "1000 1a04526f6f6d 2a0854686520726f6f6d 4000 4805 5800")
  pub of_a_server : IsSpelled channel_state
      (record no_channel { channel_id = Some 2; parent = Some 0; name = Some (codes "Chamber"); description = Some (codes "A better description"); position = Some (pos 5); max_users = Some 7 })
      (hex "0802 1000 1a074368616d626572 2a144120626574746572206465736372697074696f6e 4805 5807")
  pub links : IsSpelled channel_state (record no_channel { channel_id = Some 1; links_add = 2 ∷ [] }) (hex "0801 3002")
  pub links_taken_away : IsSpelled channel_state (record no_channel { channel_id = Some 1; links_remove = 0 ∷ 2 ∷ [] }) (hex "0801 3800 3802")
  pub every_field : IsSpelled channel_state
      (record no_channel { channel_id = Some 1; parent = Some 0; name = Some (codes "a"); links = 2 ∷ []; description = Some (codes "d"); links_add = 3 ∷ []; links_remove = 4 ∷ []; temporary = Some true; position = Some (pos 5); max_users = Some 6 })
      (hex "0801 1000 1a0161 2002 2a0164 3003 3804 4001 4805 5806")
  pub below_0 : IsSpelled channel_state (record no_channel { position = Some (negsuc 0) }) (hex "48ffffffffffffffffff01")
  pub of_32_ones : IsRead channel_state (hex "48ffffffff0f") (record no_channel { position = Some (negsuc 0) })
  pub packed_lists : IsRespelled channel_state
      (hex "3a020506 320104 22020203 2007")
      (record no_channel { links = 2 ∷ 3 ∷ 7 ∷ []; links_add = 4 ∷ []; links_remove = 5 ∷ 6 ∷ [] })
      (hex "2002 2003 2007 3004 3805 3806")
  pub a_hash_of_the_description : IsRead channel_state
      (hex "0803 1001 1a0c556e74657220c3a4c3b6c3bc 4000 4800 52147914428233cc20b8ea7db795471da9b8b96e49a6 5800")
      (record no_channel { channel_id = Some 3; parent = Some 1; name = Some (hex "556e74657220c3a4c3b6c3bc"); temporary = Some false; position = Some (pos 0); max_users = Some 0 })

pub channels : AreChannels
unfolding messages
channels = search

pub record AreUsers : Type 0 where
  pub self_mute_of_a_client : IsSpelled user_state (record no_user { self_mute = Some true; self_deaf = Some false }) (hex "4801 5000")
  pub priority_of_a_client : IsSpelled user_state (record no_user { session = Some 4; priority_speaker = Some true }) (hex "0804 900101")
  pub a_comment : IsSpelled user_state
      (record no_user { session = Some 2; actor = Some 2; comment = Some (codes "I am bob") })
      (hex "0802 1002 72084920616d20626f62")
  pub recording : IsSpelled user_state (record no_user { session = Some 2; actor = Some 2; recording = Some true }) (hex "0802 1002 980101")
  pub no_account : IsSpelled user_state (record no_user { session = Some 5; user_id = Some 4294967295 }) (hex "0805 20ffffffff0f")
  pub the_hash_of_a_certificate : IsRead user_state
      (hex "0802 1a03626f62 7a2839383431326466366537366539346634343739326134326230323432666335363438353538336136")
      (record no_user { session = Some 2; name = Some (codes "bob") })
  pub who_and_where : IsSpelled user_state
      (record no_user { session = Some 1; actor = Some 2; name = Some (codes "a"); user_id = Some 3; channel_id = Some 4 })
      (hex "0801 1002 1a0161 2003 2804")
  pub the_flags : IsSpelled user_state
      (record no_user { mute = Some true; deaf = Some false; suppress = Some true; self_mute = Some false; self_deaf = Some true; priority_speaker = Some false; recording = Some true })
      (hex "3001 3800 4001 4800 5001 900100 980101")
  pub the_texts : IsRespelled user_state
      (hex "620201ff 6a0169 720163 a2010174 a2010175 a80105 a80106 b201020708")
      (record no_user { plugin_context = Some (hex "01ff"); plugin_identity = Some (codes "i"); comment = Some (codes "c"); temporary_access_tokens = codes "t" ∷ codes "u" ∷ []; listening_channel_add = 5 ∷ 6 ∷ []; listening_channel_remove = 7 ∷ 8 ∷ [] })
      (hex "620201ff 6a0169 720163 a2010174 a2010175 a80105 a80106 b00107 b00108")
  pub the_last_texts : IsRespelled user_state
      (hex "620161 620162 720163 720164 a2010165 a2010166 aa01020102 a80103 b2010104 900101 900100")
      (record no_user { plugin_context = Some (codes "b"); comment = Some (codes "d"); priority_speaker = Some false; temporary_access_tokens = codes "e" ∷ codes "f" ∷ []; listening_channel_add = 1 ∷ 2 ∷ 3 ∷ []; listening_channel_remove = 4 ∷ [] })
      (hex "620162 720164 900100 a2010165 a2010166 a80101 a80102 a80103 b00104")
  pub a_texture_and_a_context : IsRespelled user_state
      (hex "5a02ffd8 62026731 4800")
      (record no_user { self_mute = Some false; plugin_context = Some (codes "g1") })
      (hex "4800 62026731")
  pub the_last_counts : IsRespelled user_state
      (hex "0808 1008 1a017a 2008 2808 3000 3800 4000 4800 5000 980100 0801 1002 1a0161 2003 2804 3001 3801 4001 4801 5001 6a0179 6a0169 980101")
      (record no_user { session = Some 1; actor = Some 2; name = Some (codes "a"); user_id = Some 3; channel_id = Some 4; mute = Some true; deaf = Some true; suppress = Some true; self_mute = Some true; self_deaf = Some true; plugin_identity = Some (codes "i"); recording = Some true })
      (hex "0801 1002 1a0161 2003 2804 3001 3801 4001 4801 5001 6a0169 980101")

pub users : AreUsers
unfolding messages
users = search

-- ---- faults, by their codes and places

pub record AreFaults : Type 0 where
  pub a_name : decoded authenticate (hex "0a01ff") ≡ stopped 14 2
  pub though_a_good_one_follows : decoded authenticate (hex "0a01ff 0a0161") ≡ stopped 14 2
  pub the_second_token : decoded authenticate (hex "1a0161 1a0261c0") ≡ stopped 14 5
  pub a_cut_packed_number : decoded authenticate (hex "2001 2202038e") ≡ stopped 11 5
  pub a_packed_number_above_64_bits : decoded authenticate (hex "220a80808080808080808002") ≡ stopped 13 2
  pub a_group : decoded authenticate (hex "2801 0b") ≡ stopped 12 2
  pub a_long_password : decoded authenticate (hex "120261") ≡ stopped 15 2
  pub an_identity_behind_a_context : decoded user_state (hex "6201ff 6a01ff") ≡ stopped 14 5
  pub a_token_of_a_user : decoded user_state (hex "a2010161 a20101c0") ≡ stopped 14 7

pub faults : AreFaults
unfolding messages
faults = search

-- what becomes of a Reject cut after each byte
pub a_reject_cut : map (λ n. end_of (decoded reject (take n (hex "0803 12026e6f")))) (0 ∷ 1 ∷ 2 ∷ 3 ∷ 4 ∷ 5 ∷ 6 ∷ [])
    ≡ fine ∷ stopped 11 1 ∷ fine ∷ stopped 11 3 ∷ stopped 15 4 ∷ stopped 15 4 ∷ fine ∷ []
unfolding messages
a_reject_cut = refl
