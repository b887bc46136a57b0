-- Where no line is wrong the entries are as a legal journal has them, and the other way round.
use Rattle.mum_audit.proofs.Common.{◌≡◌, ◌∙◌, ℕ, zero, suc, ◌≤◌, Bool, true, false, cond, eqb, ltb, List, [], ◌∷◌, ◌++◌, length, map, take, Option, Some, None, Result, Ok, Err, refl, sym, ap, subst, append_assoc, slice_get, AllByRecursion, filter_map, flat_map, lookup, option_map, cond-false, eqb-false, le-ltb, ltb-false, ne_eqb, append-nil, map-append, filter_map-append, SessionId, ControlEntry, Marked, WorkerEntry, Voice, Closed, route, BadVoice, Parts, packet, Finding, after_entries, after_entry, control_findings, entry_finding, mark_on, audiences_differ, members_of, numbers_differ, same_members, same_verdict, verdicts_differ, IsHeard, IsRight, closed_by, revision_of, Past, session_of, state_at, or_else, packet_finding, revision_finding, speaker_finding, voice_finding, Trail, at_worker, closed_at, closing_finding, entry_findings, worker_findings}
use Rattle.mum_audit.proofs.{Clean.AreNone, Clean.met_none, Clean.none_above, Clean.none_below, Clean.none_both, Clean.test_met, Pairs.Absent, Pairs.Apart, Pairs.Rise, Pairs.apart_back, Pairs.apart_both, Pairs.apart_front, Pairs.each_back, Pairs.each_both, Pairs.each_front, Same.members_are, Same.members_themselves, Same.same_is, Same.same_itself}
use Rattle.mum_audit.specs.Workers as workers

-- ---- the control entries

entry_right : (past : Past) (entry : ControlEntry) → entry_finding past entry ≡ None → entry.verdict ≡ mark_on past entry
entry_right past entry none =
    same_is entry.verdict (mark_on past entry) (test_met (same_verdict entry.verdict (mark_on past entry)) (verdicts_differ entry.verdict (mark_on past entry)) none)

right_entry : (past : Past) (entry : ControlEntry) → entry.verdict ≡ mark_on past entry → entry_finding past entry ≡ None
right_entry past entry right =
    met_none (same_verdict entry.verdict (mark_on past entry)) (verdicts_differ entry.verdict (mark_on past entry))
    (ap (same_verdict entry.verdict) (sym right) ∙ same_itself entry.verdict)

abbrev pub HaveVerdicts : Past → List ControlEntry → Type 0
HaveVerdicts past entries = (i : ℕ) (entry : ControlEntry) → slice_get entries i ≡ Some entry → entry.verdict ≡ mark_on (after_entries past (take i entries)) entry

pub verdicts_right : (past : Past) (entries : List ControlEntry) → AreNone (control_findings past entries) → HaveVerdicts past entries
unfolding control_findings
verdicts_right past [] none i entry found = cc
verdicts_right past (first ∷ entries) none zero entry found =
    let same : first ≡ entry = cc in
    subst (λ (one : ControlEntry). one.verdict ≡ mark_on past one) same (entry_right past first none.0)
verdicts_right past (first ∷ entries) none (suc i) entry found = verdicts_right (after_entry past first) entries none.1 i entry found

pub right_verdicts : (past : Past) (entries : List ControlEntry) → HaveVerdicts past entries → AreNone (control_findings past entries)
unfolding control_findings
right_verdicts past [] all = tt
right_verdicts past (first ∷ entries) all =
    (right_entry past first (all zero first refl), right_verdicts (after_entry past first) entries (λ i entry found. all (suc i) entry found))

-- ---- a voice entry

both_none : (first second : Option Finding) → or_else first second ≡ None → (first ≡ None) × (second ≡ None)
both_none None second none = (refl, none)
both_none (Some finding) second none = cc none

revision_right : (least greatest revision : ℕ) → revision_finding least greatest revision ≡ None → (least ≤ revision) × (revision ≤ greatest)
revision_right least greatest revision none = by (ltb revision least) (ltb greatest revision) refl refl none
  where
    by : (low high : Bool) → ltb revision least ≡ low → ltb greatest revision ≡ high
        → cond low (Some (numbers_differ revision least)) (cond high (Some (numbers_differ revision greatest)) None) ≡ None → (least ≤ revision) × (revision ≤ greatest)
    by true high is_low is_high found = cc found
    by false true is_low is_high found = cc found
    by false false is_low is_high found = (ltb-false revision least is_low, ltb-false greatest revision is_high)

right_revision : (least greatest revision : ℕ) → least ≤ revision → revision ≤ greatest → revision_finding least greatest revision ≡ None
right_revision least greatest revision above below =
    cond-false (ltb revision least) (Some (numbers_differ revision least)) (cond (ltb greatest revision) (Some (numbers_differ revision greatest)) None) (le-ltb revision least above)
    ∙ cond-false (ltb greatest revision) (Some (numbers_differ revision greatest)) None (le-ltb greatest revision below)

heard_by : (past : Past) (connection revision : ℕ) (bytes : List ℕ) (copies : List Marked) (parts : Parts) (speaker : Option SessionId) → revision ≤ length past.accepted
    → packet bytes ≡ Ok parts → session_of past connection ≡ speaker → speaker_finding past revision connection copies parts.target speaker ≡ None → IsHeard past connection revision bytes copies
heard_by past connection revision bytes copies parts None accepted parsed logged_in none = cc none
heard_by past connection revision bytes copies parts (Some speaker) accepted parsed logged_in none =
    let given = members_of copies in
    let defined = route (state_at past revision) speaker parts.target in
    record {
      accepted = accepted;
      parts = parts;
      parsed = parsed;
      speaker = speaker;
      logged_in = logged_in;
      audience = members_are given defined (test_met (same_members given defined) (audiences_differ given defined) none);
    }

heard_read : (past : Past) (connection revision : ℕ) (bytes : List ℕ) (copies : List Marked) (read : Result Parts BadVoice) → revision ≤ length past.accepted
    → packet bytes ≡ read → packet_finding past connection revision bytes copies read ≡ None → IsHeard past connection revision bytes copies
heard_read past connection revision bytes copies (Err fault) accepted parsed none = cc none
heard_read past connection revision bytes copies (Ok parts) accepted parsed none =
    heard_by past connection revision bytes copies parts (session_of past connection) accepted parsed refl none

voice_right : (past : Past) (least connection revision : ℕ) (bytes : List ℕ) (copies : List Marked) → voice_finding past least connection revision bytes copies ≡ None
    → (least ≤ revision) × IsHeard past connection revision bytes copies
unfolding voice_finding
voice_right past least connection revision bytes copies none =
    let parts = both_none (revision_finding least (length past.accepted) revision) (packet_finding past connection revision bytes copies (packet bytes)) none in
    let within = revision_right least (length past.accepted) revision parts.0 in
    (within.0, heard_read past connection revision bytes copies (packet bytes) within.1 refl parts.1)

right_voice : (past : Past) (least connection revision : ℕ) (bytes : List ℕ) (copies : List Marked) → least ≤ revision → IsHeard past connection revision bytes copies
    → voice_finding past least connection revision bytes copies ≡ None
unfolding voice_finding
right_voice past least connection revision bytes copies above heard =
    let given = members_of copies in
    let defined = route (state_at past revision) heard.speaker heard.parts.target in
    ap (λ (first : Option Finding). or_else first (packet_finding past connection revision bytes copies (packet bytes))) (right_revision least (length past.accepted) revision above heard.accepted)
    ∙ ap (packet_finding past connection revision bytes copies) heard.parsed
    ∙ ap (speaker_finding past revision connection copies heard.parts.target) heard.logged_in
    ∙ met_none (same_members given defined) (audiences_differ given defined) (ap (same_members given) (sym heard.audience) ∙ members_themselves given)

-- ---- closing entries

-- the connections of a table
abbrev keys : List (ℕ × ℕ) → List ℕ
keys closed = map (λ (one : ℕ × ℕ). one.0) closed

absent_from : (connection : ℕ) (closed : List (ℕ × ℕ)) → lookup (λ other. eqb connection other) closed ≡ None → Absent connection (keys closed)
absent_from connection [] none = tt
absent_from connection (one ∷ others) none = by (eqb connection one.0) refl none (absent_from connection others)
  where
    by : (same : Bool) → eqb connection one.0 ≡ same → cond same (Some one.1) (lookup (λ other. eqb connection other) others) ≡ None
        → (lookup (λ other. eqb connection other) others ≡ None → Absent connection (keys others)) → Absent connection (keys (one ∷ others))
    by true is found rest = cc found
    by false is found rest = (eqb-false connection one.0 is, rest found)

from_absent : (connection : ℕ) (closed : List (ℕ × ℕ)) → Absent connection (keys closed) → lookup (λ other. eqb connection other) closed ≡ None
from_absent connection [] absent = refl
from_absent connection (one ∷ others) absent =
    cond-false (eqb connection one.0) (Some one.1) (lookup (λ other. eqb connection other) others) (ne_eqb connection one.0 absent.0) ∙ from_absent connection others absent.1

first_closing : (trail : Trail) (connection : ℕ) (found : Option ℕ) → closed_at trail connection ≡ found → closing_finding trail connection ≡ None → closed_at trail connection ≡ None
first_closing trail connection None is none = is
first_closing trail connection (Some line) is none = absurd (no_none (numbers_differ connection line) (sym (ap (option_map (λ first. numbers_differ connection first)) is) ∙ none))
  where
    no_none : (finding : Finding) → Some finding ≡ None → ⊥
    no_none finding same = cc same

-- ---- the entries of a worker

abbrev revisions : List WorkerEntry → List ℕ
revisions entries = filter_map revision_of entries

abbrev closings : List WorkerEntry → List ℕ
closings entries = filter_map closed_by entries

-- a connection more in a table
keys_more : (closed : List (ℕ × ℕ)) (connection line : ℕ) → keys (closed ++ (connection, line) ∷ []) ≡ keys closed ++ connection ∷ []
keys_more closed connection line = map-append (λ (one : ℕ × ℕ). one.0) closed ((connection, line) ∷ [])

-- the entries of a worker are right after a trail
pub record AreRight (past : Past) (trail : Trail) (entries : List WorkerEntry) : Type 0 where
  pub rising : Rise trail.least (revisions entries)
  pub heard : AllByRecursion (IsRight past) entries
  pub closed_once : Apart (keys trail.closed) (closings entries)

pub entries_right : (past : Past) (trail : Trail) (entries : List WorkerEntry) → AreNone (entry_findings past trail entries) → AreRight past trail entries
unfolding entry_findings
entries_right past trail [] none = record { rising = tt; heard = tt; closed_once = tt }
entries_right past trail (Voice connection revision bytes copies ∷ entries) none =
    let first = voice_right past trail.least connection revision bytes copies none.0 in
    let rest = entries_right past (workers.after_entry trail (Voice connection revision bytes copies)) entries none.1 in
    record { rising = (first.0, rest.rising); heard = (first.1, rest.heard); closed_once = rest.closed_once }
entries_right past trail (Closed connection cause ∷ entries) none =
    let rest = entries_right past (workers.after_entry trail (Closed connection cause)) entries none.1 in
    record {
      rising = rest.rising;
      heard = (tt, rest.heard);
      closed_once = (
        absent_from connection trail.closed (first_closing trail connection (closed_at trail connection) refl none.0),
        subst (λ (seen : List ℕ). Apart seen (closings entries)) (keys_more trail.closed connection trail.line) rest.closed_once,
      );
    }

pub right_entries : (past : Past) (trail : Trail) (entries : List WorkerEntry) → AreRight past trail entries → AreNone (entry_findings past trail entries)
unfolding entry_findings
right_entries past trail [] right = tt
right_entries past trail (Voice connection revision bytes copies ∷ entries) right = (
  right_voice past trail.least connection revision bytes copies right.rising.0 right.heard.0,
  right_entries past (workers.after_entry trail (Voice connection revision bytes copies)) entries
      (record { rising = right.rising.1; heard = right.heard.1; closed_once = right.closed_once }),
)
right_entries past trail (Closed connection cause ∷ entries) right = (
  ap (option_map (λ first. numbers_differ connection first)) (from_absent connection trail.closed right.closed_once.0),
  right_entries past (workers.after_entry trail (Closed connection cause)) entries
      (record {
        rising = right.rising;
        heard = right.heard.1;
        closed_once = subst (λ (seen : List ℕ). Apart seen (closings entries)) (sym (keys_more trail.closed connection trail.line)) right.closed_once.1;
      }),
)

keys_after : (trail : Trail) (entries : List WorkerEntry) → keys (workers.after_entries trail entries).closed ≡ keys trail.closed ++ closings entries
keys_after trail [] = sym (append-nil (keys trail.closed))
keys_after trail (Voice connection revision bytes copies ∷ entries) = keys_after (workers.after_entry trail (Voice connection revision bytes copies)) entries
keys_after trail (Closed connection cause ∷ entries) =
    keys_after (workers.after_entry trail (Closed connection cause)) entries
    ∙ ap (λ (seen : List ℕ). seen ++ closings entries) (keys_more trail.closed connection trail.line)
    ∙ append_assoc (keys trail.closed) (connection ∷ []) (closings entries)

-- ---- all workers

abbrev pub together : List (List WorkerEntry) → List WorkerEntry
together by_worker = flat_map (λ entries. entries) by_worker

pub record AllRight (past : Past) (trail : Trail) (by_worker : List (List WorkerEntry)) : Type 0 where
  pub rising : AllByRecursion (λ entries. Rise 0 (revisions entries)) by_worker
  pub heard : AllByRecursion (IsRight past) (together by_worker)
  pub closed_once : Apart (keys trail.closed) (closings (together by_worker))

pub workers_right : (past : Past) (trail : Trail) (by_worker : List (List WorkerEntry)) → AreNone (worker_findings past trail by_worker) → AllRight past trail by_worker
unfolding worker_findings
workers_right past trail [] none = record { rising = tt; heard = tt; closed_once = tt }
workers_right past trail (entries ∷ by_worker) none =
    let begun : Trail = at_worker trail in
    let above = entry_findings past begun entries in
    let below = worker_findings past (workers.after_entries begun entries) by_worker in
    let first = entries_right past begun entries (none_above above below none.1) in
    let rest = workers_right past (workers.after_entries begun entries) by_worker (none_below above below none.1) in
    record {
      rising = (first.rising, rest.rising);
      heard = each_both (IsRight past) entries (together by_worker) first.heard rest.heard;
      closed_once = subst (Apart (keys trail.closed)) (sym (filter_map-append closed_by entries (together by_worker)))
          (apart_both (keys trail.closed) (closings entries) (closings (together by_worker)) first.closed_once
          (subst (λ (seen : List ℕ). Apart seen (closings (together by_worker))) (keys_after begun entries) rest.closed_once));
    }

pub right_workers : (past : Past) (trail : Trail) (by_worker : List (List WorkerEntry)) → AllRight past trail by_worker → AreNone (worker_findings past trail by_worker)
unfolding worker_findings
right_workers past trail [] right = tt
right_workers past trail (entries ∷ by_worker) right =
    let begun : Trail = at_worker trail in
    let above = entry_findings past begun entries in
    let below = worker_findings past (workers.after_entries begun entries) by_worker in
    let apart : Apart (keys trail.closed) (closings entries ++ closings (together by_worker)) =
    subst (Apart (keys trail.closed)) (filter_map-append closed_by entries (together by_worker)) right.closed_once in (
      refl,
      none_both above below
          (right_entries past begun entries (record {
            rising = right.rising.0;
            heard = each_front (IsRight past) entries (together by_worker) right.heard;
            closed_once = apart_front (keys trail.closed) (closings entries) (closings (together by_worker)) apart;
          }))
          (right_workers past (workers.after_entries begun entries) by_worker (record {
            rising = right.rising.1;
            heard = each_back (IsRight past) entries (together by_worker) right.heard;
            closed_once = subst (λ (seen : List ℕ). Apart seen (closings (together by_worker))) (sym (keys_after begun entries))
                (apart_back (keys trail.closed) (closings entries) (closings (together by_worker)) apart);
          })),
    )
