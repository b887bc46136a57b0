-- A denial is short enough for a frame.
use Rattle.mum_session.proofs.Common.{◌≡◌, ℕ, ◌≤◌, Bool, true, false, cond, List, length, length-append, Option, Some, None, refl, ap, ◌∙◌, arith, ◌==◌, codes, option_map, le-leb, ChannelId, SessionId, Perm, spelled, length-shortest, Frame, PAYLOAD_LIMIT, frame_spelling, PermissionDenied, permission_denied, reject, Verdict, Accepted, Lacks, Refused, Answer, Ignored, deny_code, Text, denial, denial_of_lack, denial_of_limit, denied_frame, rejected_frame, rejection, sendable, wire}
use Rattle.mum_state.specs.declared.verdict.Verdict.TheVariants.{Rejected}

lack_short : (actor : Option SessionId) (perm : Perm) (channel : ChannelId) → length (spelled permission_denied (denial_of_lack actor perm channel)) ≤ PAYLOAD_LIMIT
lack_short None perm channel =
    simp length-append (omega (arith, length-shortest perm.0, length-shortest channel.0, length-shortest 1, length-shortest 8, length-shortest 16, length-shortest 40))
lack_short (Some session) perm channel =
    simp length-append (omega (arith, length-shortest perm.0, length-shortest channel.0, length-shortest session.0, length-shortest 1, length-shortest 8, length-shortest 16, length-shortest 24, length-shortest 40))

-- a denial of this type, with this word or none
abbrev limit_reached : Option ℕ → Option (List ℕ) → ℕ → PermissionDenied
limit_reached actor word kind = record { permission = None; channel_id = None; session = actor; reason = word; kind = Some kind; name = None }

limit_short : (actor : Option SessionId) (kind : ℕ) (b : Bool)
    → length (spelled permission_denied (limit_reached (option_map (λ session. session.0) actor) (cond b (Some (codes "refused")) None) kind)) ≤ PAYLOAD_LIMIT
limit_short None kind false = simp length-append (omega (arith, length-shortest kind, length-shortest 40))
limit_short None kind true = simp length-append (omega (arith, length-shortest kind, length-shortest 7, length-shortest 34, length-shortest 40))
limit_short (Some session) kind false = simp length-append (omega (arith, length-shortest kind, length-shortest session.0, length-shortest 24, length-shortest 40))
limit_short (Some session) kind true = simp length-append (omega (arith, length-shortest kind, length-shortest session.0, length-shortest 7, length-shortest 24, length-shortest 34, length-shortest 40))

rejection_short : (kind : ℕ) → length (spelled reject (rejection kind)) ≤ PAYLOAD_LIMIT
rejection_short kind = simp length-append (omega (arith, length-shortest kind, length-shortest 8))

sent : (frame : Frame) → length frame.payload ≤ PAYLOAD_LIMIT → sendable frame ≡ frame_spelling frame
sent frame short = rw (le-leb (length frame.payload) PAYLOAD_LIMIT short) refl

given_frame : (a b : Frame) → Some a ≡ Some b → frame_spelling a ≡ frame_spelling b
given_frame a b is = let same : a ≡ b = cc in ap frame_spelling same

pub denied_is_sent : (session : Option SessionId) (verdict : Verdict) (frame : Frame) → denial session verdict ≡ Some frame → wire session verdict ≡ frame_spelling frame
unfolding denied_frame rejected_frame
denied_is_sent session (Accepted edit) frame is = absurd cc
denied_is_sent session (Lacks perm channel) frame is =
    sent (denied_frame (denial_of_lack session perm channel)) (lack_short session perm channel) ∙ given_frame _ frame is
denied_is_sent session (Refused kind) frame is =
    sent (denied_frame (denial_of_limit session kind)) (limit_short session kind (kind == deny_code Text)) ∙ given_frame _ frame is
denied_is_sent session (Rejected kind) frame is = sent (rejected_frame (rejection kind)) (rejection_short kind) ∙ given_frame _ frame is
denied_is_sent session (Answer answer) frame is = absurd cc
denied_is_sent session (Ignored why) frame is = absurd cc
