-- Journals of two logins, a packet and two ends, worked out by hand, so that a wrong rule in the specs does not check.
use Rattle.mum_audit.proofs.Common.{String, ◌≡◌, ℕ, true, List, [], ◌∷◌, codes, Some, None, refl, digits, encode_with, hex, Mark, Accepted, Ignored, messages, kind_of, named_length, payload_of, spelling_of, authenticate_of, ControlEntry, Journal, Marked, WorkerEntry, Voice, Closed, is_open, user_payload, verdict, state, is_reached, audio_len, opus_len, packet, segments_len, segments_len_within, number_at, word_at, Legal, Wrong, audited, findings, first_wrong, lines_on, control_findings, decided, voice_finding, entry_findings, worker_findings}
use Rattle.mum_base.specs.declared.number.Cause.TheVariants as causes

-- what all facts below compute with
unfoldable audits : Type 0
unfolding digits encode_with messages authenticate_of kind_of named_length payload_of spelling_of is_open user_payload verdict state is_reached audio_len opus_len packet segments_len segments_len_within number_at word_at audited findings first_wrong lines_on control_findings decided voice_finding entry_findings worker_findings
audits = Unit {0}

-- ---- the lines

abbrev asked : ℕ → String → Mark → ControlEntry
asked connection frame outcome = record { connection = connection; version = None; frame = Some (hex frame); verdict = outcome }

abbrev left : ℕ → Mark → ControlEntry
left connection outcome = record { connection = connection; version = None; frame = None; verdict = outcome }

-- logins as ann and bob
abbrev ann : ControlEntry
ann = asked 1 "0002000000050a03616e6e" (Accepted 1)

abbrev bob : ControlEntry
bob = asked 2 "0002000000050a03626f62" (Accepted 2)

-- a packet of talk at a revision
abbrev talk : ℕ → ℕ → List Marked → WorkerEntry
talk connection revision copies = Voice connection revision (hex "800103aabbcc") copies

-- a copy for session 2
abbrev to_bob : Marked
to_bob = record { session = record { 0 = 2 }; context = 0; sent = true }

abbrev ended : ℕ → WorkerEntry
ended connection = Closed connection causes.End

-- a journal of one worker
abbrev journal : List ControlEntry → List WorkerEntry → Journal
journal controls entries = record { workers = 1; limits = None; config = []; controls = controls; by_worker = entries ∷ [] }

-- ---- what is found

pub record AreAudited : Type 0 where
  pub legal : audited (journal (ann ∷ bob ∷ []) (talk 1 2 (to_bob ∷ []) ∷ ended 1 ∷ ended 2 ∷ [])) ≡ Legal 2 1 1 0
  pub wrong_audience : audited (journal (ann ∷ bob ∷ []) (talk 1 2 [] ∷ ended 1 ∷ ended 2 ∷ [])) ≡ Wrong 7 (codes "0") (codes "1 2/0")
  pub earlier_audience : audited (journal (ann ∷ bob ∷ []) (talk 1 1 (to_bob ∷ []) ∷ [])) ≡ Wrong 7 (codes "1 2/0") (codes "0")
  pub fallen_revision : audited (journal (ann ∷ bob ∷ []) (talk 1 2 (to_bob ∷ []) ∷ talk 1 1 [] ∷ ended 1 ∷ [])) ≡ Wrong 8 (codes "1") (codes "2")
  pub great_revision : audited (journal (ann ∷ []) (talk 1 2 [] ∷ [])) ≡ Wrong 6 (codes "2") (codes "1")
  pub wrong_packet : audited (journal (ann ∷ bob ∷ []) (Voice 1 2 (hex "8001") [] ∷ [])) ≡ Wrong 7 (codes "8001") (codes "23")
  pub nobody : audited (journal [] (talk 7 0 [] ∷ [])) ≡ Wrong 5 (codes "7") (codes "0")
  pub wrong_verdict : audited (journal (ann ∷ asked 2 "0002000000050a03626f62" (Accepted 3) ∷ []) []) ≡ Wrong 5 (codes "accepted 3") (codes "accepted 2")
  pub second_closing : audited (journal (ann ∷ bob ∷ []) (talk 1 2 (to_bob ∷ []) ∷ ended 1 ∷ ended 1 ∷ ended 2 ∷ [])) ≡ Wrong 9 (codes "1") (codes "8")
  pub greater_limits : audited (record {
    workers = 1;
    limits = Some (512, 2048);
    config = [];
    controls = ann ∷ bob ∷ [];
    by_worker = (talk 1 2 [] ∷ []) ∷ [];
  }) ≡ Wrong 8 (codes "0") (codes "1 2/0")
  pub gone_session : audited (journal (ann ∷ left 1 (Accepted 2) ∷ asked 1 "000300000000" (Ignored 8) ∷ asked 2 "000300000000" (Ignored 1) ∷ asked 2 "000900000000" (Ignored 3) ∷ left 2 (Ignored 8) ∷ []) [])
      ≡ Legal 6 0 0 0

pub are_audited : AreAudited
unfolding audits
are_audited = record {
  legal = refl;
  wrong_audience = refl;
  earlier_audience = refl;
  fallen_revision = refl;
  great_revision = refl;
  wrong_packet = refl;
  nobody = refl;
  wrong_verdict = refl;
  second_closing = refl;
  greater_limits = refl;
  gone_session = refl;
}
