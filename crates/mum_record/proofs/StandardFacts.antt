-- Worked lines of recordings and journals, so that a wrong rule in the specs does not check.
use Rattle.mum_record.proofs.Common.{String, ◌≡◌, ℕ, Bool, true, false, List, [], ◌∷◌, ◌++◌, map, codes, Option, Some, None, Result, Ok, Err, digits, encode_with, decode_pairs, hex, Mark, Accepted, Lacks, Refused, Rejected, Answer, Ignored, named_length, kind_of, Step, Open, Frame, Edit, Publish, Tell, Look, Offer, Post, Drain, Collect, Close, End, ControlEntry, Marked, WorkerEntry, Journal, Voice, Closed, words_in, number_within, bytes_of, words_of, line_of, frame_of, told_of, cause_of, step_of_verb, step_naming, step_with, step_of_words, step_of, recording_line, recording_version, journal_line, journal_version, workers_line, workers_of, limits_line, limits_of, config_line, config_of, head_lines, version_with, first_step_line, One, Two, control_words, copy_word, entry_words, control_line, entry_line, lines_from, lines_of, ended_lines, version_of, command_of, verdict_with, lack_of, verdict_of, control_with, control_of, mark_of, copy_with, copy_of, copies_of, closing_cause_of, closed_of, voice_with, voice_of, entry_of, taken, reading_from, journal_of}
use Rattle.mum_base.specs.declared.number.Cause.TheVariants as causes

-- what all facts below compute with
lines : Type 0
unfolding digits encode_with decode_pairs number_within bytes_of named_length kind_of
lines = Unit {0}

-- ---- recordings

-- the step has this line, and the line is read as this step
abbrev IsLine : String → Step → Type 0
IsLine line step = (line_of step ≡ codes line) × (step_of (codes line) ≡ Some step)

abbrev IsNoLine : String → Type 0
IsNoLine line = step_of (codes line) ≡ None

pub record AreSteps : Type 0 where
  pub a_connection_opens : IsLine "open 1 0" (Open 1 0)
  pub a_frame : IsLine "frame 1 0002000000050a03616e6e" (Frame 1 (hex "0002000000050a03616e6e"))
  pub an_edit : IsLine "edit 1" (Edit 1)
  pub it_is_published : IsLine "publish" Publish
  pub a_reply_at_a_revision : IsLine "tell 1 1" (Tell 1 (Some 1))
  pub a_reply_without_one : IsLine "tell 1 -" (Tell 1 None)
  pub a_look : IsLine "look 0 2" (Look 0 2)
  pub an_offer : IsLine "offer 0" (Offer 0)
  pub a_notice : IsLine "post" Post
  pub a_voice_parcel : IsLine "drain 2" (Drain 2)
  pub a_control_parcel : IsLine "collect 2" (Collect 2)
  pub the_peer_ends : IsLine "close 2 end" (Close 2 causes.End)
  pub the_link_fails : IsLine "close 2 fault" (Close 2 causes.LinkFault)
  pub a_frame_is_too_long : IsLine "close 2 toolong" (Close 2 causes.FrameTooLong)
  pub a_login_is_rejected : IsLine "close 2 rejected" (Close 2 causes.Rejected)
  pub a_user_is_kicked : IsLine "close 2 kicked" (Close 2 causes.Kicked)
  pub a_box_is_full : IsLine "close 2 lagged" (Close 2 causes.Lagged)
  pub the_end : IsLine "end" End
  pub the_greatest_connection : IsLine "edit 4294967295" (Edit 4294967295)
  pub the_greatest_revision : IsLine "look 0 18446744073709551615" (Look 0 18446744073709551615)

pub steps : AreSteps
unfolding lines words_of frame_of told_of cause_of step_of_verb step_naming step_with step_of_words step_of
steps = search

pub record AreNoSteps : Type 0 where
  pub no_word : IsNoLine ""
  pub another_word : IsNoLine "opens 1 0"
  pub a_word_too_few : IsNoLine "open 1"
  pub a_word_too_many : IsNoLine "edit 1 1"
  pub a_connection_above : IsNoLine "edit 4294967296"
  pub a_revision_above : IsNoLine "look 0 18446744073709551616"
  pub a_zero_in_front : IsNoLine "edit 01"
  pub a_sign : IsNoLine "edit +1"
  pub two_spaces : IsNoLine "edit  1"
  pub a_space_at_the_end : IsNoLine "publish "
  pub upper_case : IsNoLine "frame 1 0002000000050A03616E6E"
  pub less_than_a_frame : IsNoLine "frame 1 0002000000050a03616e"
  pub more_than_a_frame : IsNoLine "frame 1 0002000000050a03616e6e00"
  pub memory_ran_out : IsNoLine "close 2 memory"

pub no_steps : AreNoSteps
unfolding lines words_of frame_of told_of cause_of step_of_verb step_naming step_with step_of_words step_of
no_steps = search

-- ---- the head

abbrev IsConfig : String → List ℕ → Type 0
IsConfig line document = (config_line document ≡ codes line) × (config_of (codes line) ≡ Some document)

abbrev IsNoConfig : String → Type 0
IsNoConfig line = config_of (codes line) ≡ None

abbrev IsLimits : String → ℕ × ℕ → Type 0
IsLimits line limits = (limits_line limits ≡ codes line) × (limits_of (codes line) ≡ Some limits)

abbrev IsNoLimits : String → Type 0
IsNoLimits line = limits_of (codes line) ≡ None

pub record AreHeads : Type 0 where
  pub the_first_version : recording_version (codes "recording 1") ≡ Some One
  pub the_second_version : recording_version (codes "recording 2") ≡ Some Two
  pub no_third_version : recording_version (codes "recording 3") ≡ None
  pub no_version : recording_version (codes "recording") ≡ None
  pub a_zero_before_a_version : recording_version (codes "recording 02") ≡ None
  pub a_space_behind_a_version : recording_version (codes "recording 2 ") ≡ None
  pub a_journal_is_no_recording : recording_version (codes "journal 2") ≡ None
  pub the_first_version_of_a_journal : journal_version (codes "journal 1") ≡ Some One
  pub the_second_version_of_a_journal : journal_version (codes "journal 2") ≡ Some Two
  pub a_recording_is_no_journal : journal_version (codes "recording 2") ≡ None
  pub a_head_of_version_1 : head_lines recording_line 4 None [] ≡ map codes ("recording 1" ∷ "workers 4" ∷ "config -" ∷ [])
  pub a_head_of_version_2 : head_lines recording_line 1 (Some (129, 1024)) (codes "{}")
      ≡ map codes ("recording 2" ∷ "workers 1" ∷ "limits 129 1024" ∷ "config 7b7d" ∷ [])
  pub the_head_of_a_journal : head_lines journal_line 4 None [] ≡ map codes ("journal 1" ∷ "workers 4" ∷ "config -" ∷ [])
  pub the_head_of_a_journal_of_version_2 : head_lines journal_line 4 (Some (512, 2048)) []
      ≡ map codes ("journal 2" ∷ "workers 4" ∷ "limits 512 2048" ∷ "config -" ∷ [])
  pub steps_of_version_1_begin_at_line_4 : first_step_line (version_with None) ≡ 4
  pub steps_of_version_2_begin_at_line_5 : first_step_line (version_with (Some (128, 1024))) ≡ 5
  pub eight_workers : (workers_line 8 ≡ codes "workers 8") × (workers_of (codes "workers 8") ≡ Some 8)
  pub nine : workers_of (codes "workers 9") ≡ None
  pub none : workers_of (codes "workers 0") ≡ None

pub heads : AreHeads
unfolding lines recording_version journal_version workers_of config_of
heads = search

pub record AreLimitsLines : Type 0 where
  pub the_greatest : IsLimits "limits 512 2048" (512, 2048)
  pub the_least : IsLimits "limits 128 1024" (128, 1024)
  pub one_session_more : IsLimits "limits 129 1024" (129, 1024)
  pub a_session_too_few : IsNoLimits "limits 127 1024"
  pub a_session_too_many : IsNoLimits "limits 513 1024"
  pub a_channel_too_few : IsNoLimits "limits 128 1023"
  pub a_channel_too_many : IsNoLimits "limits 128 2049"
  pub a_zero_before_the_sessions : IsNoLimits "limits 0128 1024"
  pub a_zero_before_the_channels : IsNoLimits "limits 128 01024"
  pub a_sign : IsNoLimits "limits +128 1024"
  pub a_point : IsNoLimits "limits 128 1024.0"
  pub no_channels : IsNoLimits "limits 128"
  pub an_empty_word_for_the_channels : IsNoLimits "limits 128 "
  pub a_word_alone : IsNoLimits "limits"
  pub a_word_too_many : IsNoLimits "limits 128 1024 1"
  pub a_space_at_the_end : IsNoLimits "limits 128 1024 "
  pub two_spaces : IsNoLimits "limits  128 1024"
  pub another_word : IsNoLimits "limit 128 1024"
  pub the_channels_first : IsNoLimits "limits 1024 128"
  pub the_workers : IsNoLimits "workers 1"
  pub the_configuration : IsNoLimits "config -"
  pub an_empty_line : IsNoLimits ""
  pub bytes_that_are_no_text : limits_of (hex "ff") ≡ None

pub limits_lines : AreLimitsLines
unfolding lines limits_of
limits_lines = search

pub record AreConfigs : Type 0 where
  pub no_document : IsConfig "config -" []
  pub a_document : IsConfig "config 7b7d" (codes "{}")
  pub one_byte : IsConfig "config 00" (hex "00")
  pub nothing : IsNoConfig "config "
  pub half_a_byte : IsNoConfig "config 7b7"
  pub upper_case : IsNoConfig "config 7B7D"
  pub two_documents : IsNoConfig "config 7b 7d"
  pub no_second_word : IsNoConfig "config"
  pub another_word : IsNoConfig "configuration -"
  pub a_space_at_the_end : IsNoConfig "config - "

pub configs : AreConfigs
unfolding lines workers_of config_of
configs = search

-- ---- control entries of a journal

abbrev control : ℕ → Option ℕ → Option (List ℕ) → Mark → ControlEntry
control connection version frame verdict = record { connection = connection; version = version; frame = frame; verdict = verdict }

abbrev asks : String → Option (List ℕ)
asks frame = Some (hex frame)

abbrev leaves : Option (List ℕ)
leaves = None

abbrev lacks : ℕ → ℕ → Mark
lacks perm channel = Lacks (record { 0 = perm }) (record { 0 = channel })

-- the entry has this line, and the line is read as this entry
abbrev IsControlLine : String → ControlEntry → Type 0
IsControlLine line entry = (control_line entry ≡ codes line) × (control_of (words_in (codes line)) ≡ Some entry)

abbrev IsNoControl : String → Type 0
IsNoControl line = control_of (words_in (codes line)) ≡ None

pub record AreControls : Type 0 where
  pub a_login_without_a_version : IsControlLine "c 1 - 0002000000050a03616e6e accepted 1"
      (control 1 None (asks "0002000000050a03616e6e") (Accepted 1))
  pub a_login_with_one : IsControlLine "c 1 66560 0002000000050a03616e6e accepted 1"
      (control 1 (Some 66560) (asks "0002000000050a03616e6e") (Accepted 1))
  pub a_leave : IsControlLine "c 1 - leave accepted 2" (control 1 None leaves (Accepted 2))
  pub a_missing_permission : IsControlLine "c 1 - 00070000000510001a0178 lacks 64 0" (control 1 None (asks "00070000000510001a0178") (lacks 64 0))
  pub a_limit : IsControlLine "c 1 - 00070000000510001a0178 refused 3" (control 1 None (asks "00070000000510001a0178") (Refused 3))
  pub a_login_that_is_rejected : IsControlLine "c 1 - 000200000000 rejected 2" (control 1 None (asks "000200000000") (Rejected 2))
  pub a_query : IsControlLine "c 1 - 001400000000 answer" (control 1 None (asks "001400000000") Answer)
  pub a_command_that_is_ignored : IsControlLine "c 1 - 000700000000 ignored 4" (control 1 None (asks "000700000000") (Ignored 4))
  pub the_greatest_connection_of_a_command : IsControlLine "c 4294967295 - leave accepted 2" (control 4294967295 None leaves (Accepted 2))
  pub the_greatest_version : IsControlLine "c 1 4294967295 000200000000 rejected 1" (control 1 (Some 4294967295) (asks "000200000000") (Rejected 1))
  pub the_greatest_revision : IsControlLine "c 1 - leave accepted 18446744073709551615" (control 1 None leaves (Accepted 18446744073709551615))
  pub the_greatest_permission_and_channel : IsControlLine "c 1 - leave lacks 4294967295 4294967295"
      (control 1 None leaves (lacks 4294967295 4294967295))
  pub the_greatest_type_of_a_refusal : IsControlLine "c 1 - leave refused 255" (control 1 None leaves (Refused 255))
  pub the_greatest_type_of_a_rejection : IsControlLine "c 1 - leave rejected 255" (control 1 None leaves (Rejected 255))
  pub the_greatest_reason : IsControlLine "c 1 - leave ignored 255" (control 1 None leaves (Ignored 255))
  pub a_frame_of_the_greatest_type : IsControlLine "c 1 - ffff00000000 ignored 1" (control 1 None (asks "ffff00000000") (Ignored 1))

pub controls : AreControls
unfolding lines frame_of control_words version_of command_of verdict_with lack_of verdict_of control_with control_of
controls = search

pub record AreNoControls : Type 0 where
  pub above_a_connection : IsNoControl "c 4294967296 - leave accepted 2"
  pub above_a_version : IsNoControl "c 1 4294967296 000200000000 rejected 1"
  pub above_a_revision : IsNoControl "c 1 - leave accepted 18446744073709551616"
  pub a_permission_above : IsNoControl "c 1 - leave lacks 4294967296 0"
  pub a_channel_above : IsNoControl "c 1 - leave lacks 0 4294967296"
  pub above_a_refusal : IsNoControl "c 1 - leave refused 256"
  pub above_a_rejection : IsNoControl "c 1 - leave rejected 256"
  pub above_a_reason : IsNoControl "c 1 - leave ignored 256"
  pub another_mark : IsNoControl "d 1 - leave accepted 2"
  pub no_verdict : IsNoControl "c 1 - leave"
  pub an_empty_verdict : IsNoControl "c 1 - leave "
  pub a_verdict_with_its_connection : IsNoControl "c 1 - leave accepted 1 2"
  pub a_verdict_of_a_number_too_few : IsNoControl "c 1 - leave lacks 64"
  pub a_verdict_of_a_number_too_many : IsNoControl "c 1 - leave lacks 64 0 0"
  pub an_answer_with_a_number : IsNoControl "c 1 - 001400000000 answer 1"
  pub another_verdict : IsNoControl "c 1 - leave told 1"
  pub a_version_on_a_message_that_is_no_login : IsNoControl "c 1 66560 000700000000 ignored 4"
  pub a_version_on_a_leave : IsNoControl "c 1 66560 leave accepted 2"
  pub a_version_of_a_version_message : IsNoControl "c 1 66560 000000000000 ignored 1"
  pub a_frame_that_is_too_short : IsNoControl "c 1 - 00020000000 accepted 1"
  pub a_frame_without_its_last_byte : IsNoControl "c 1 - 0002000000050a03616e accepted 1"
  pub a_byte_behind_a_frame : IsNoControl "c 1 - 0002000000050a03616e6e00 accepted 1"
  pub a_frame_in_upper_case : IsNoControl "c 1 - 0002000000050A03616E6E accepted 1"
  pub no_frame : IsNoControl "c 1 - - accepted 1"
  pub a_zero_before_a_number : IsNoControl "c 01 - leave accepted 2"
  pub a_sign_before_one : IsNoControl "c +1 - leave accepted 2"
  pub two_spaces : IsNoControl "c  1 - leave accepted 2"
  pub a_space_at_the_end : IsNoControl "c 1 - leave accepted 2 "
  pub a_space_at_the_front : IsNoControl " c 1 - leave accepted 2"
  pub an_entry_of_a_worker : IsNoControl "x 1 end"
  pub a_line_of_the_workers : IsNoControl "workers 1"
  pub an_empty_line : IsNoControl ""
  pub a_byte_that_is_no_text : control_of (words_in (hex "ff")) ≡ None

pub no_controls : AreNoControls
unfolding lines frame_of control_words version_of command_of verdict_with lack_of verdict_of control_with control_of
no_controls = search

-- ---- entries of a worker

abbrev copy : ℕ → ℕ → Bool → Marked
copy session context sent = record { session = record { 0 = session }; context = context; sent = sent }

-- the entry has this line, and the line is read as this entry
abbrev IsEntryLine : String → WorkerEntry → Type 0
IsEntryLine line entry = (entry_line entry ≡ codes line) × (entry_of (words_in (codes line)) ≡ Some entry)

abbrev IsNoEntry : String → Type 0
IsNoEntry line = entry_of (words_in (codes line)) ≡ None

pub record AreEntries : Type 0 where
  pub a_packet_that_two_hear : IsEntryLine "v 1 2 800103aabbcc 2 2/0/s 3/1/f" (Voice 1 2 (hex "800103aabbcc") (copy 2 0 true ∷ copy 3 1 false ∷ []))
  pub a_packet_that_nobody_hears : IsEntryLine "v 1 2 800103aabbcc 0" (Voice 1 2 (hex "800103aabbcc") [])
  pub a_packet_that_is_none : IsEntryLine "v 1 2 80 0" (Voice 1 2 (hex "80") [])
  pub the_peer_ended : IsEntryLine "x 1 end" (Closed 1 causes.End)
  pub the_link_failed : IsEntryLine "x 1 fault" (Closed 1 causes.LinkFault)
  pub a_frame_was_too_long : IsEntryLine "x 1 toolong" (Closed 1 causes.FrameTooLong)
  pub a_login_was_rejected : IsEntryLine "x 1 rejected" (Closed 1 causes.Rejected)
  pub a_user_was_kicked : IsEntryLine "x 1 kicked" (Closed 1 causes.Kicked)
  pub a_box_was_full : IsEntryLine "x 1 lagged" (Closed 1 causes.Lagged)
  pub memory_ran_out : IsEntryLine "x 1 memory" (Closed 1 causes.Memory)
  pub the_greatest_numbers_of_a_packet : IsEntryLine "v 4294967295 18446744073709551615 00 1 4294967295/255/s"
      (Voice 4294967295 18446744073709551615 (hex "00") (copy 4294967295 255 true ∷ []))
  pub the_greatest_connection_of_a_closing : IsEntryLine "x 4294967295 end" (Closed 4294967295 causes.End)

pub entries : AreEntries
unfolding lines copy_word entry_words mark_of copy_with copy_of copies_of cause_of closing_cause_of closed_of voice_with voice_of entry_of
entries = search

pub record AreNoEntries : Type 0 where
  pub a_connection_above : IsNoEntry "v 4294967296 0 00 0"
  pub a_revision_above : IsNoEntry "v 0 18446744073709551616 00 0"
  pub a_session_above : IsNoEntry "v 0 0 00 1 4294967296/0/s"
  pub a_context_above : IsNoEntry "v 0 0 00 1 0/256/s"
  pub above_the_greatest_connection : IsNoEntry "x 4294967296 end"
  pub another_mark : IsNoEntry "w 1 end"
  pub another_cause : IsNoEntry "x 1 ended"
  pub no_cause : IsNoEntry "x 1"
  pub two_causes : IsNoEntry "x 1 end end"
  pub v_alone : IsNoEntry "v"
  pub x_alone : IsNoEntry "x"
  pub no_packet : IsNoEntry "v 1 2  0"
  pub a_dash_for_a_packet : IsNoEntry "v 1 2 - 0"
  pub half_a_byte : IsNoEntry "v 1 2 8 0"
  pub a_packet_in_upper_case : IsNoEntry "v 1 2 8A 0"
  pub a_letter_that_is_no_digit : IsNoEntry "v 1 2 8g 0"
  pub no_count : IsNoEntry "v 1 2 80"
  pub a_copy_more_than_counted : IsNoEntry "v 1 2 80 0 2/0/s"
  pub a_copy_fewer_than_counted : IsNoEntry "v 1 2 80 2 2/0/s"
  pub a_count_of_zeros : IsNoEntry "v 1 2 80 00"
  pub a_copy_without_its_mark : IsNoEntry "v 1 2 80 1 2/0"
  pub a_copy_with_another_mark : IsNoEntry "v 1 2 80 1 2/0/S"
  pub a_copy_with_two_marks : IsNoEntry "v 1 2 80 1 2/0/s/f"
  pub a_copy_without_its_context : IsNoEntry "v 1 2 80 1 2//s"
  pub a_copy_without_its_session : IsNoEntry "v 1 2 80 1 /0/s"
  pub a_zero_before_a_context : IsNoEntry "v 1 2 80 1 2/00/s"
  pub two_spaces_between_copies : IsNoEntry "v 1 2 80 2 2/0/s  3/0/f"
  pub a_space_at_the_end : IsNoEntry "v 1 2 80 1 2/0/s "
  pub a_control_entry : IsNoEntry "c 1 - leave accepted 2"
  pub the_same_worker_again : IsNoEntry "worker 0"
  pub the_next_one_of_which_there_is_none : IsNoEntry "worker 1"
  pub bytes_that_are_no_text : entry_of (words_in (hex "7620c3")) ≡ None

pub no_entries : AreNoEntries
unfolding lines copy_word entry_words mark_of copy_with copy_of copies_of cause_of closing_cause_of closed_of voice_with voice_of entry_of
no_entries = search

-- ---- whole journals

-- the journal that a text of these lines says, each ended by a line feed
abbrev said_by : List String → Result Journal ℕ
said_by text = journal_of (ended_lines (map codes text))

-- the journal has these lines, and they are read as it
abbrev IsText : List String → Journal → Type 0
IsText text journal = (lines_of journal ≡ map codes text) × (said_by text ≡ Ok journal)

abbrev of_two_users : Journal
of_two_users = record {
  workers = 1;
  limits = None;
  config = [];
  controls = control 1 None (asks "0002000000050a03616e6e") (Accepted 1) ∷ control 2 None (asks "0002000000050a03626f62") (Accepted 2) ∷ [];
  by_worker = (Voice 1 2 (hex "800103aabbcc") (copy 2 0 true ∷ []) ∷ Closed 1 causes.End ∷ Closed 2 causes.End ∷ []) ∷ [];
}

abbrev of_two_workers : Journal
of_two_workers = record { workers = 2; limits = None; config = codes "{}"; controls = []; by_worker = (Closed 2 causes.End ∷ []) ∷ (Closed 1 causes.End ∷ []) ∷ [] }

abbrev of_an_idle_worker : Journal
of_an_idle_worker = record { workers = 2; limits = None; config = []; controls = []; by_worker = [] ∷ (Closed 1 causes.End ∷ []) ∷ [] }

abbrev of_eight_workers : Journal
of_eight_workers = record { workers = 8; limits = None; config = []; controls = []; by_worker = [] ∷ [] ∷ [] ∷ [] ∷ [] ∷ [] ∷ [] ∷ [] ∷ [] }

abbrev of_many_sessions : Journal
of_many_sessions = record {
  workers = 1;
  limits = Some (512, 2048);
  config = codes "{}";
  controls = control 1 None (asks "0002000000050a03616e6e") (Accepted 1) ∷ [];
  by_worker = (Closed 1 causes.End ∷ []) ∷ [];
}

pub record AreJournals : Type 0 where
  pub version_2 : IsText
      ("journal 2" ∷ "workers 1" ∷ "limits 512 2048" ∷ "config 7b7d" ∷ "c 1 - 0002000000050a03616e6e accepted 1" ∷ "worker 0" ∷ "x 1 end" ∷ "end" ∷ [])
      of_many_sessions
  pub eight_workers : IsText
      ("journal 1" ∷ "workers 8" ∷ "config -" ∷ "worker 0" ∷ "worker 1" ∷ "worker 2" ∷ "worker 3" ∷ "worker 4" ∷ "worker 5" ∷ "worker 6" ∷ "worker 7" ∷ "end" ∷ [])
      of_eight_workers
  pub two_users : IsText
      ("journal 1" ∷ "workers 1" ∷ "config -" ∷ "c 1 - 0002000000050a03616e6e accepted 1" ∷ "c 2 - 0002000000050a03626f62 accepted 2" ∷ "worker 0" ∷ "v 1 2 800103aabbcc 1 2/0/s" ∷ "x 1 end" ∷ "x 2 end" ∷ "end" ∷ [])
      of_two_users
  pub two_workers : IsText ("journal 1" ∷ "workers 2" ∷ "config 7b7d" ∷ "worker 0" ∷ "x 2 end" ∷ "worker 1" ∷ "x 1 end" ∷ "end" ∷ []) of_two_workers
  pub an_idle_worker : IsText ("journal 1" ∷ "workers 2" ∷ "config -" ∷ "worker 0" ∷ "worker 1" ∷ "x 1 end" ∷ "end" ∷ []) of_an_idle_worker

pub journals : AreJournals
unfolding lines frame_of cause_of journal_version workers_of limits_of config_of control_words copy_word entry_words lines_from lines_of version_of command_of verdict_with lack_of verdict_of control_with control_of mark_of copy_with copy_of copies_of closing_cause_of closed_of voice_with voice_of entry_of taken reading_from journal_of
journals = search

-- the first line that may not come there, counted from 1
pub record AreNoJournals : Type 0 where
  pub nine_workers : said_by ("journal 1" ∷ "workers 9" ∷ "config -" ∷ []) ≡ Err 2
  pub no_workers : said_by ("journal 1" ∷ "workers 0" ∷ "config -" ∷ []) ≡ Err 2
  pub no_text : said_by [] ≡ Err 1
  pub a_recording : said_by ("recording 1" ∷ "workers 1" ∷ "config -" ∷ "end" ∷ []) ≡ Err 1
  pub another_version : said_by ("journal 3" ∷ "workers 1" ∷ "config -" ∷ "worker 0" ∷ "end" ∷ []) ≡ Err 1
  pub version_2_without_limits : said_by ("journal 2" ∷ "workers 1" ∷ "config -" ∷ "worker 0" ∷ "end" ∷ []) ≡ Err 3
  pub limits_in_version_1 : said_by ("journal 1" ∷ "workers 1" ∷ "limits 512 2048" ∷ "config -" ∷ "worker 0" ∷ "end" ∷ []) ≡ Err 3
  pub limits_before_the_workers : said_by ("journal 2" ∷ "limits 512 2048" ∷ "workers 1" ∷ "config -" ∷ "worker 0" ∷ "end" ∷ []) ≡ Err 2
  pub limits_behind_the_configuration : said_by ("journal 2" ∷ "workers 1" ∷ "config -" ∷ "limits 512 2048" ∷ "worker 0" ∷ "end" ∷ []) ≡ Err 3
  pub limits_twice : said_by ("journal 2" ∷ "workers 1" ∷ "limits 512 2048" ∷ "limits 512 2048" ∷ "config -" ∷ "worker 0" ∷ "end" ∷ []) ≡ Err 4
  pub a_session_too_few : said_by ("journal 2" ∷ "workers 1" ∷ "limits 127 1024" ∷ "config -" ∷ "worker 0" ∷ "end" ∷ []) ≡ Err 3
  pub the_first_entry_of_version_2_is_none : said_by ("journal 2" ∷ "workers 1" ∷ "limits 128 1024" ∷ "config -" ∷ "c" ∷ "worker 0" ∷ "end" ∷ []) ≡ Err 5
  pub a_head_of_version_2_alone : said_by ("journal 2" ∷ "workers 1" ∷ "limits 128 1024" ∷ "config -" ∷ []) ≡ Err 5
  pub no_line_of_workers : said_by ("journal 1" ∷ "config -" ∷ "worker 0" ∷ "end" ∷ []) ≡ Err 2
  pub no_line_of_the_configuration : said_by ("journal 1" ∷ "workers 1" ∷ "worker 0" ∷ "end" ∷ []) ≡ Err 3
  pub a_worker_before_its_turn : said_by ("journal 1" ∷ "workers 2" ∷ "config -" ∷ "worker 1" ∷ "worker 0" ∷ "end" ∷ []) ≡ Err 4
  pub a_worker_is_left_out : said_by ("journal 1" ∷ "workers 3" ∷ "config -" ∷ "worker 0" ∷ "worker 2" ∷ "end" ∷ []) ≡ Err 5
  pub the_end_before_the_last_worker : said_by ("journal 1" ∷ "workers 2" ∷ "config -" ∷ "worker 0" ∷ "end" ∷ []) ≡ Err 5
  pub the_end_before_the_first_worker : said_by ("journal 1" ∷ "workers 1" ∷ "config -" ∷ "end" ∷ []) ≡ Err 4
  pub a_zero_before_a_worker : said_by ("journal 1" ∷ "workers 1" ∷ "config -" ∷ "worker 00" ∷ "end" ∷ []) ≡ Err 4
  pub it_ends_before_its_end : said_by ("journal 1" ∷ "workers 1" ∷ "config -" ∷ "worker 0" ∷ []) ≡ Err 5
  pub its_head_alone : said_by ("journal 1" ∷ []) ≡ Err 2
  pub its_end_has_no_line_feed : journal_of (ended_lines (map codes ("journal 1" ∷ "workers 1" ∷ "config -" ∷ "worker 0" ∷ [])) ++ codes "end") ≡ Err 5
  pub a_line_behind_its_end : said_by ("journal 1" ∷ "workers 1" ∷ "config -" ∷ "worker 0" ∷ "end" ∷ "end" ∷ []) ≡ Err 6
  pub an_empty_line_behind_its_end : said_by ("journal 1" ∷ "workers 1" ∷ "config -" ∷ "worker 0" ∷ "end" ∷ "" ∷ []) ≡ Err 6
  pub bytes_behind_its_end : journal_of (ended_lines (map codes ("journal 1" ∷ "workers 1" ∷ "config -" ∷ "worker 0" ∷ "end" ∷ [])) ++ codes "x") ≡ Err 6
  pub a_carriage_return : journal_of (hex "6a6f75726e616c20310d0a" ++ ended_lines (map codes ("workers 1" ∷ "config -" ∷ "worker 0" ∷ "end" ∷ []))) ≡ Err 1
  pub the_first_of_two_faults : said_by ("journal 1" ∷ "workers 1" ∷ "config -" ∷ "c" ∷ "c" ∷ "worker 0" ∷ "end" ∷ []) ≡ Err 4

pub no_journals : AreNoJournals
unfolding lines frame_of cause_of journal_version workers_of limits_of config_of control_words copy_word entry_words lines_from lines_of version_of command_of verdict_with lack_of verdict_of control_with control_of mark_of copy_with copy_of copies_of closing_cause_of closed_of voice_with voice_of entry_of taken reading_from journal_of
no_journals = search
