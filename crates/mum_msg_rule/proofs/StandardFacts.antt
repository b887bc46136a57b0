-- Worked messages, after Mumble.proto, so that a wrong label, type, name or number in a table does not check. Those of a
-- client or a server are what Mumble 1.3.4 and its server wrote; a payload's fields are apart.
use Rattle.mum_msg_rule.proofs.Common.{◌≡◌, true, false, [], ◌∷◌, ◌++◌, codes, map, take, replicate, Some, None, refl, hex, block_item, written, decoded, messages, IsSpelled, IsRespelled, IsRead, stopped, misses, end_of, fine, TextMessage, PermissionDenied, PermissionQuery, AclGroup, AclLine, Acl, TargetBlock, VoiceTarget, text_message, permission_denied, acl_group, acl_line, acl, target_block, voice_target, permission_query}

-- messages with no field set
abbrev no_text : TextMessage
no_text = record { actor = None; session = []; channel_id = []; tree_id = []; message = None }

abbrev no_denial : PermissionDenied
no_denial = record { permission = None; channel_id = None; session = None; reason = None; kind = None; name = None }

abbrev no_query : PermissionQuery
no_query = record { channel_id = None; permissions = None; flush = None }

abbrev no_group : AclGroup
no_group = record { name = None; inherited = None; inherit = None; inheritable = None; add = []; remove = []; inherited_members = [] }

abbrev no_entry : AclLine
no_entry = record { apply_here = None; apply_subs = None; inherited = None; user_id = None; group = None; grant = None; deny = None }

abbrev no_acl : Acl
no_acl = record { channel_id = None; inherit_acls = None; groups = []; acls = []; query = None }

abbrev no_target : TargetBlock
no_target = record { session = []; channel_id = None; group = None; links = None; children = None }

abbrev no_voice_target : VoiceTarget
no_voice_target = record { id = None; targets = [] }

-- ---- what is written and read

pub record AreTexts : Type 0 where
  pub of_a_client_to_a_channel : IsSpelled text_message
      (record no_text { channel_id = 1 ∷ []; message = Some (codes "Hello bob") })
      (hex "1801 2a0948656c6c6f20626f62")
  pub to_a_tree : IsSpelled text_message
      (record no_text { tree_id = 0 ∷ []; message = Some (codes "Hello tree") })
      (hex "2000 2a0a48656c6c6f2074726565")
  pub to_a_session : IsSpelled text_message
      (record no_text { session = 2 ∷ []; message = Some (codes "Hello bob in person") })
      (hex "1002 2a1348656c6c6f20626f6220696e20706572736f6e")
  pub of_a_server : IsSpelled text_message
      (record no_text { actor = Some 3; channel_id = 1 ∷ []; message = Some (codes "Hi from carol") })
      (hex "0803 1801 2a0d48692066726f6d206361726f6c")
  pub every_field : IsSpelled text_message
      (record no_text { actor = Some 1; session = 2 ∷ 300 ∷ []; channel_id = 3 ∷ []; tree_id = 4 ∷ 5 ∷ []; message = Some (codes "hi") })
      (hex "0801 1002 10ac02 1803 2004 2005 2a026869")
  pub an_empty_text : IsSpelled text_message (record no_text { message = Some [] }) (hex "2a00")
  pub packed_lists : IsRespelled text_message
      (hex "2a0161 22020405 1a0303ac02 120102 1007 0801")
      (record no_text { actor = Some 1; session = 2 ∷ 7 ∷ []; channel_id = 3 ∷ 300 ∷ []; tree_id = 4 ∷ 5 ∷ []; message = Some (codes "a") })
      (hex "0801 1002 1007 1803 18ac02 2004 2005 2a0161")
  pub the_last_counts : IsRespelled text_message
      (hex "0801 0802 2a0161 2a0162")
      (record no_text { actor = Some 2; message = Some (codes "b") })
      (hex "0802 2a0162")
  pub the_low_32_bits : IsRespelled text_message
      (hex "08ffffffff1f 12058080808010 2a00")
      (record no_text { actor = Some 4294967295; session = 0 ∷ []; message = Some [] })
      (hex "08ffffffff0f 1000 2a00")
  pub unknown_numbers : IsRespelled text_message
      (hex "3005 3a01ff 4501020304 2a0161 490102030405060708")
      (record no_text { message = Some (codes "a") })
      (hex "2a0161")
  pub no_text_of_a_message : decoded text_message (hex "0801 1002") ≡ misses 5
  pub a_number_is_no_text : decoded text_message (hex "2801 1001") ≡ misses 5

pub texts : AreTexts
unfolding messages
texts = search

pub record AreDenials : Type 0 where
  pub of_a_server : IsSpelled permission_denied
      (record no_denial { permission = Some 4; channel_id = Some 2; session = Some 3; kind = Some 1 })
      (hex "0804 1002 1803 2801")
  pub a_name_that_is_refused : IsSpelled permission_denied (record no_denial { kind = Some 3 }) (hex "2803")
  pub every_field : IsSpelled permission_denied
      (record no_denial { permission = Some 4; channel_id = Some 7; session = Some 2; reason = Some (codes "no"); kind = Some 1; name = Some (codes "n") })
      (hex "0804 1007 1802 22026e6f 2801 32016e")
  pub the_last_counts : IsRespelled permission_denied
      (hex "32016e 2801 2802 220172 2200 1802 1007 0804")
      (record no_denial { permission = Some 4; channel_id = Some 7; session = Some 2; reason = Some []; kind = Some 2; name = Some (codes "n") })
      (hex "0804 1007 1802 2200 2802 32016e")
  pub the_low_32_bits : IsRespelled permission_denied (hex "288080808010 3801") (record no_denial { kind = Some 0 }) (hex "2800")

pub denials : AreDenials
unfolding messages
denials = search

pub record AreQueries : Type 0 where
  pub of_a_client : IsSpelled permission_query (record no_query { channel_id = Some 1 }) (hex "0801")
  pub of_a_server : IsSpelled permission_query (record no_query { channel_id = Some 1; permissions = Some 134219534 }) (hex "0801 108e8e8040")
  pub every_field : IsSpelled permission_query
      (record no_query { channel_id = Some 7; permissions = Some 2830; flush = Some true })
      (hex "0807 108e16 1801")
  pub nothing : IsSpelled permission_query no_query []
  pub false_is_not_nothing : IsSpelled permission_query (record no_query { flush = Some false }) (hex "1800")

pub queries : AreQueries
unfolding messages
queries = search

-- groups of an ACL
pub record AreGroups : Type 0 where
  pub every_field : IsSpelled acl_group
      (record no_group { name = Some (codes "admin"); inherited = Some false; inherit = Some true; inheritable = Some false; add = 1 ∷ 300 ∷ []; remove = 2 ∷ []; inherited_members = 3 ∷ 4 ∷ [] })
      (hex "0a0561646d696e 1000 1801 2000 2801 28ac02 3002 3803 3804")
  pub an_empty_name : IsRespelled acl_group (hex "1801 0a00") (record no_group { name = Some []; inherit = Some true }) (hex "0a00 1801")
  pub packed_lists : IsRespelled acl_group
      (hex "2a0301ac02 2805 320102 3a020304 3a00 0a0161")
      (record no_group { name = Some (codes "a"); add = 1 ∷ 300 ∷ 5 ∷ []; remove = 2 ∷ []; inherited_members = 3 ∷ 4 ∷ [] })
      (hex "0a0161 2801 28ac02 2805 3002 3803 3804")
  pub the_last_counts : IsRespelled acl_group
      (hex "0a0161 0a0162 1001 1000 1800 1801 2001 2000")
      (record no_group { name = Some (codes "b"); inherited = Some false; inherit = Some true; inheritable = Some false })
      (hex "0a0162 1000 1801 2000")
  pub no_name : decoded acl_group (hex "0801 1801 2805") ≡ misses 1
  pub a_fault_comes_first : decoded acl_group (hex "1801 2a0180") ≡ stopped 11 4

pub groups : AreGroups
unfolding messages
groups = search

-- entries of an ACL: for an account or for a group
pub record AreEntries : Type 0 where
  pub every_field : IsSpelled acl_line
      (record no_entry { apply_here = Some true; apply_subs = Some false; inherited = Some true; user_id = Some 5; group = Some (codes "g"); grant = Some 4; deny = Some 2830 })
      (hex "0801 1000 1801 2005 2a0167 3004 388e16")
  pub an_account : IsSpelled acl_line (record no_entry { user_id = Some 0 }) (hex "2000")
  pub a_group : IsSpelled acl_line (record no_entry { group = Some [] }) (hex "2a00")
  pub neither : decoded acl_line (hex "0801 1001 3004 3801") ≡ misses 4
  pub under_another_wire_type : decoded acl_line (hex "2200 2801") ≡ misses 4
  pub a_fault_comes_first : decoded acl_line (hex "3004 38") ≡ stopped 11 3

pub entries : AreEntries
unfolding messages
entries = search

pub record AreLists : Type 0 where
  pub of_a_client : IsSpelled acl (record no_acl { channel_id = Some 2; query = Some true }) (hex "0802 2801")
  pub of_a_dialogue : IsSpelled acl
      (record no_acl { channel_id = Some 1; inherit_acls = Some false; groups = (record no_group { name = Some (codes "admin"); inherit = Some true; inheritable = Some true; add = 0 ∷ [] }) ∷ (record no_group { name = Some (codes "g2"); inherit = Some false; inheritable = Some true; add = 1 ∷ [] }) ∷ [] })
      (hex "0801 1000 1a0d0a0561646d696e180120012800 1a0a0a026732180020012801")
  pub of_a_server : IsSpelled acl
      (record no_acl { channel_id = Some 2; inherit_acls = Some true; groups = (record no_group { name = Some (codes "admin"); inherited = Some true; inherit = Some true; inheritable = Some true; add = 0 ∷ [] }) ∷ []; acls = (record no_entry { apply_here = Some true; apply_subs = Some true; inherited = Some true; group = Some (codes "admin"); grant = Some 1; deny = Some 0 }) ∷ (record no_entry { apply_here = Some true; apply_subs = Some true; inherited = Some true; group = Some (codes "auth"); grant = Some 1024; deny = Some 0 }) ∷ [] })
      (hex "0802 1001 1a0f0a0561646d696e1001180120012800 22110801100118012a0561646d696e30013800 22110801100118012a04617574683080083800")
  pub every_field : IsSpelled acl
      (record no_acl { channel_id = Some 7; inherit_acls = Some false; groups = (record no_group { name = Some (codes "admin"); inherited = Some false; inherit = Some true; inheritable = Some false; add = 1 ∷ 300 ∷ []; remove = 2 ∷ []; inherited_members = 3 ∷ [] }) ∷ (record no_group { name = Some (codes "b") }) ∷ []; acls = (record no_entry { apply_here = Some true; apply_subs = Some false; inherited = Some false; user_id = Some 5; grant = Some 4; deny = Some 2830 }) ∷ (record no_entry { group = Some (codes "all"); deny = Some 1 }) ∷ []; query = Some true })
      (hex "0807 1000 1a160a0561646d696e100018012000280128ac0230023803 1a030a0162 220d08011000180020053004388e16 22072a03616c6c3801 2801")
  pub groups_before_entries : IsRespelled acl
      (hex "22022005 1a030a0162 22022004 1a030a0161 0807 22022006")
      (record no_acl { channel_id = Some 7; groups = (record no_group { name = Some (codes "b") }) ∷ (record no_group { name = Some (codes "a") }) ∷ []; acls = (record no_entry { user_id = Some 5 }) ∷ (record no_entry { user_id = Some 4 }) ∷ (record no_entry { user_id = Some 6 }) ∷ [] })
      (hex "0807 1a030a0162 1a030a0161 22022005 22022004 22022006")
  pub given_twice : IsSpelled acl
      (record no_acl { channel_id = Some 7; groups = (record no_group { name = Some (codes "a") }) ∷ (record no_group { name = Some (codes "a") }) ∷ []; acls = (record no_entry { user_id = Some 5 }) ∷ (record no_entry { user_id = Some 5 }) ∷ [] })
      (hex "0807 1a030a0161 1a030a0161 22022005 22022005")
  pub numbers_in_a_group : IsRespelled acl
      (hex "0807 1a0a0a01612a0301ac022805")
      (record no_acl { channel_id = Some 7; groups = (record no_group { name = Some (codes "a"); add = 1 ∷ 300 ∷ 5 ∷ [] }) ∷ [] })
      (hex "0807 1a0a0a0161280128ac022805")
  pub inherited_or_not : IsSpelled acl
      (record no_acl { channel_id = Some 7; groups = (record no_group { name = Some (codes "a") }) ∷ (record no_group { name = Some (codes "b"); inherited = Some true }) ∷ (record no_group { name = Some (codes "c"); inherited = Some false }) ∷ []; acls = (record no_entry { user_id = Some 1 }) ∷ (record no_entry { inherited = Some true; user_id = Some 2 }) ∷ (record no_entry { inherited = Some false; user_id = Some 3 }) ∷ [] })
      (hex "0807 1a030a0161 1a050a01621001 1a050a01631000 22022001 220418012002 220418002003")
  pub granted_or_denied : IsSpelled acl
      (record no_acl { channel_id = Some 7; acls = (record no_entry { user_id = Some 1; grant = Some 4 }) ∷ (record no_entry { user_id = Some 1; deny = Some 4 }) ∷ [] })
      (hex "0807 220420013004 220420013804")
  pub a_longer_length : IsRespelled acl
      (hex "0807 2282002005")
      (record no_acl { channel_id = Some 7; acls = (record no_entry { user_id = Some 5 }) ∷ [] })
      (hex "0807 22022005")
  pub the_last_counts_in_a_block : IsRespelled acl
      (hex "0807 22082005300120063002")
      (record no_acl { channel_id = Some 7; acls = (record no_entry { user_id = Some 6; grant = Some 2 }) ∷ [] })
      (hex "0807 220420063002")
  pub the_last_channel_and_flags : IsRespelled acl
      (hex "0801 22022005 0807 1001 1000 2800 2801")
      (record no_acl { channel_id = Some 7; inherit_acls = Some false; acls = (record no_entry { user_id = Some 5 }) ∷ []; query = Some true })
      (hex "0807 1000 22022005 2801")
  pub unknown_in_a_block : IsRespelled acl
      (hex "0807 1a0c40054a01ff0a016112001801")
      (record no_acl { channel_id = Some 7; groups = (record no_group { name = Some (codes "a"); inherit = Some true }) ∷ [] })
      (hex "0807 1a050a01611801")
  pub numbers_are_no_blocks : IsRespelled acl (hex "1801 2501020304 0a00 1200 2a00 0807") (record no_acl { channel_id = Some 7 }) (hex "0807")
  pub a_name_of_130_bytes : IsRespelled acl
      (hex "1a8501 0a8201" ++ replicate 130 97 ++ hex "0807")
      (record no_acl { channel_id = Some 7; groups = record no_group { name = Some (replicate 130 97) } ∷ [] })
      (hex "0807 1a8501 0a8201" ++ replicate 130 97)
  pub a_flag_in_a_block : IsRead acl (hex "0807 1201ff 2a01ff") (record no_acl { channel_id = Some 7 })

pub lists : AreLists
unfolding messages
lists = search

pub record AreTargets : Type 0 where
  pub to_a_group_of_a_client : IsSpelled voice_target
      (record no_voice_target { id = Some 4; targets = (record no_target { channel_id = Some 0; group = Some (codes "admin"); links = Some true; children = Some true }) ∷ [] })
      (hex "0804 120d10001a0561646d696e20012801")
  pub to_a_session : IsSpelled voice_target
      (record no_voice_target { id = Some 2; targets = (record no_target { session = 1 ∷ [] }) ∷ [] })
      (hex "0802 12020801")
  pub none_any_more : IsSpelled voice_target (record no_voice_target { id = Some 1 }) (hex "0801")
  pub every_field : IsSpelled target_block
      (record no_target { session = 2 ∷ 131 ∷ []; channel_id = Some 7; group = Some (codes "sg"); links = Some true; children = Some false })
      (hex "0802 088301 1007 1a027367 2001 2800")
  pub packed_sessions : IsRespelled target_block (hex "0a0302ac02 0805") (record no_target { session = 2 ∷ 300 ∷ 5 ∷ [] }) (hex "0802 08ac02 0805")
  pub links_or_children : IsRespelled target_block (hex "2800 2001") (record no_target { links = Some true; children = Some false }) (hex "2001 2800")
  pub three_blocks : IsSpelled voice_target
      (record no_voice_target { id = Some 30; targets = (record no_target { session = 2 ∷ 3 ∷ [] }) ∷ (record no_target { channel_id = Some 7; group = Some (codes "sg"); links = Some false; children = Some true }) ∷ no_target ∷ [] })
      (hex "081e 120408020803 120a10071a02736720002801 1200")
  pub the_last_id_and_every_block : IsRespelled voice_target
      (hex "1200 0801 12021007 0802")
      (record no_voice_target { id = Some 2; targets = no_target ∷ (record no_target { channel_id = Some 7 }) ∷ [] })
      (hex "0802 1200 12021007")
  pub the_last_counts_in_a_block : IsRespelled voice_target
      (hex "120410011007")
      (record no_voice_target { targets = (record no_target { channel_id = Some 7 }) ∷ [] })
      (hex "12021007")
  pub unknown_in_a_block : IsRespelled voice_target
      (hex "120b30013a01ff180112001007")
      (record no_voice_target { targets = (record no_target { channel_id = Some 7 }) ∷ [] })
      (hex "12021007")

pub targets : AreTargets
unfolding messages
targets = search

-- ---- faults, by their codes and their places in the whole payload

pub record AreFaults : Type 0 where
  pub a_text : decoded text_message (hex "2a0261c0") ≡ stopped 14 2
  pub though_a_good_one_follows : decoded text_message (hex "2a01ff 2a0161") ≡ stopped 14 2
  pub a_long_text : decoded text_message (hex "2a0561") ≡ stopped 15 2
  pub a_cut_packed_number : decoded text_message (hex "1001 2203038e8e") ≡ stopped 11 5
  pub a_packed_number_above_64_bits : decoded text_message (hex "1a0a80808080808080808002") ≡ stopped 13 2
  pub before_what_is_missing : decoded text_message (hex "1001 2a") ≡ stopped 11 3
  pub the_first_of_two_texts : decoded permission_denied (hex "320180 2201ff") ≡ stopped 14 2
  pub number_0 : decoded permission_query (hex "0807 0001") ≡ stopped 12 2

pub faults : AreFaults
unfolding messages
faults = search

pub record AreFaultsInBlocks : Type 0 where
  pub a_name : decoded acl (hex "0807 1a030a01ff") ≡ stopped 14 6
  pub though_a_good_one_follows : decoded acl (hex "0807 1a060a01ff0a0161") ≡ stopped 14 6
  pub the_group_of_an_entry : decoded acl (hex "220620052a0261c0 0807") ≡ stopped 14 6
  pub the_first_as_they_come : decoded acl (hex "22032a01ff 1a030a01ff 0807") ≡ stopped 14 4
  pub of_the_second_group : decoded acl (hex "0807 1a030a0161 1a040a026280") ≡ stopped 14 11
  pub a_cut_account : decoded acl (hex "0807 1a070a01612a020586") ≡ stopped 11 10
  pub a_number_above_64_bits : decoded acl (hex "1a0c2a0a80808080808080808002") ≡ stopped 13 4
  pub a_grant_above_64_bits : decoded acl (hex "0807 220b30ffffffffffffffffff02") ≡ stopped 13 5
  pub a_wire_type : decoded acl (hex "1a010b") ≡ stopped 12 2
  pub number_0 : decoded acl (hex "0807 220420050001") ≡ stopped 12 6
  pub a_long_group : decoded acl (hex "0807 1a050a0161") ≡ stopped 15 4
  pub no_entry_there : decoded acl (hex "0807 2201") ≡ stopped 15 4
  pub four_billion_bytes : decoded acl (hex "22ffffffff0f2005") ≡ stopped 15 6
  pub a_name_past_its_group : decoded acl (hex "0807 1a030a05612801") ≡ stopped 15 6
  pub a_list_past_its_group : decoded acl (hex "0807 1a050a01612a022801") ≡ stopped 15 9
  pub a_number_at_the_end : decoded acl (hex "0807 1a040a0161102801") ≡ stopped 11 8
  pub a_number_past_it : decoded acl (hex "1a050a016110802801") ≡ stopped 11 6
  pub four_bytes_at_the_end : decoded acl (hex "2204350102032801") ≡ stopped 11 3
  pub a_key_past_it : decoded acl (hex "2201a00105") ≡ stopped 11 2
  pub eight_bytes_at_the_end : decoded voice_target (hex "1203100711 0801 0801 0801 0801") ≡ stopped 11 5
  pub of_the_second_target : decoded voice_target (hex "0801 1200 120510071a01ff") ≡ stopped 14 10

pub faults_in_blocks : AreFaultsInBlocks
unfolding messages
faults_in_blocks = search

-- the least number that is missing, in any block, and only where there is no fault
pub record AreMissing : Type 0 where
  pub nothing : IsRead acl
      (hex "0807 1a030a0161 22022005")
      (record no_acl { channel_id = Some 7; groups = (record no_group { name = Some (codes "a") }) ∷ []; acls = (record no_entry { user_id = Some 5 }) ∷ [] })
  pub an_account : decoded acl (hex "0807 1a030a0161 22023004") ≡ misses 4
  pub a_name : decoded acl (hex "0807 1a021801 22022005") ≡ misses 1
  pub a_name_and_an_account : decoded acl (hex "0807 1a021801 22023004") ≡ misses 1
  pub a_channel : decoded acl (hex "1001 1a030a0161 22022005") ≡ misses 1
  pub a_channel_and_an_account : decoded acl (hex "1001 1a030a0161 22023004") ≡ misses 1
  pub whatever_the_order : decoded acl (hex "2200 1a030a0161 0807") ≡ misses 4
  pub of_the_second_group : decoded acl (hex "0807 1a030a0161 1a00") ≡ misses 1
  pub of_the_second_entry : decoded acl (hex "0807 22022005 2200 22032a0167") ≡ misses 4
  pub a_cut_comes_first : decoded acl (hex "0807 1a00 28") ≡ stopped 11 5
  pub a_text_comes_first : decoded acl (hex "2200 1a030a01ff") ≡ stopped 14 6
  pub a_cut_in_a_block : decoded acl (hex "1a021880") ≡ stopped 11 3

pub missing_fields : AreMissing
unfolding messages
missing_fields = search

-- what becomes of an ACL with an entry for an account, cut after each byte of the entry
pub an_entry_cut : map (λ n. end_of (decoded acl (hex "0807" ++ written (block_item 4 (take n (hex "0801 2005 3004")) ∷ [])))) (0 ∷ 1 ∷ 2 ∷ 3 ∷ 4 ∷ 5 ∷ 6 ∷ [])
    ≡ misses 4 ∷ stopped 11 5 ∷ misses 4 ∷ stopped 11 7 ∷ fine ∷ stopped 11 9 ∷ fine ∷ []
unfolding messages
an_entry_cut = refl
