-- What the frames of a connection ask for that was answered all that it asked.
use Rattle.mum_recording_laws.proofs.Common.{◌≡◌, ℕ, ◌==◌, ◌^◌, ◌<◌, ◌⊎◌, Bool, true, false, cond, List, [], Option, Some, None, Ok, refl, sym, ap, subst, ◌∙◌, arith, inl, inr, is_some, list_any, eqb-true, false≢true, append-nil, kind_of, payload_of, spelling_of, AUTHENTICATE, PING, UDP_TUNNEL, VERSION, kind-reads_back, payload_of-spelling, Values, decoded, layout, parts, spelled, read_back, version, Version, action, after_frame, command_action, commands_after_login, version_action, version_after, command_heard, login_heard, Ask, Keep, Asked, Command, Malformed, Message, Connection, Stays, Seat, machine_of, stage_of, frame_heard}
use Rattle.mum_session.specs.Machine.{session_of as session_in}
use Rattle.mum_session.specs.declared.action.Action.TheVariants.{Voice}

-- a connection that was answered all that it asked, and not rejected
abbrev pub at_rest : ℕ → Option ℕ → Option Seat → Bool → Connection
at_rest worker version seat lagged = record {
  worker = worker;
  version = version;
  seat = seat;
  rejected = false;
  lagged = lagged;
  waiting = None;
  decided = None;
  leave = Stays;
  closed = None;
}

kind_read : (kind : ℕ) (payload : List ℕ) → kind < 2 ^ 16 → kind_of (spelling_of kind payload) ≡ kind
unfolding kind_of
kind_read kind payload fits = ap kind_of (sym (append-nil (spelling_of kind payload))) ∙ kind-reads_back kind payload [] fits

payload_read : (kind : ℕ) (payload : List ℕ) → payload_of (spelling_of kind payload) ≡ payload
payload_read kind payload = payload_of-spelling (record { kind = kind; payload = payload })

-- ---- a command

-- the command that the connection asks for
abbrev pub command_by : ℕ → Connection → Asked → Command
command_by c x what = record { connection = c; worker = x.worker; session = session_in (stage_of x); what = what }

login_asks : (c worker : ℕ) (told : Option ℕ) (seat : Option Seat) (lagged : Bool) (payload : List ℕ) (what : Asked) → login_heard told payload ≡ Message what
    → action (machine_of c (at_rest worker told seat lagged)) AUTHENTICATE payload ≡ Ask (command_by c (at_rest worker told seat lagged) what)
unfolding action
login_asks c worker told None lagged payload what is = ap (command_action (machine_of c (at_rest worker told None lagged))) is
login_asks c worker told (Some seat) lagged payload what is = ap (command_action (machine_of c (at_rest worker told (Some seat) lagged))) is

-- a type that is none of those is a different one
is_none_of : (kind other : ℕ) → list_any (λ known. known == kind) commands_after_login ≡ true → list_any (λ known. known == other) commands_after_login ≡ false → (kind == other) ≡ false
is_none_of kind other one none = from (kind == other) refl
  where
    from : (b : Bool) → (kind == other) ≡ b → b ≡ false
    from false is = refl
    from true is = absurd (false≢true (sym none ∙ ap (λ (n : ℕ). list_any (λ known. known == n) commands_after_login) (sym (eqb-true kind other is)) ∙ one))

later_asks : (c worker : ℕ) (told : Option ℕ) (seat : Seat) (lagged : Bool) (kind : ℕ) (payload : List ℕ) (what : Asked) → list_any (λ known. known == kind) commands_after_login ≡ true
    → command_heard kind payload ≡ Message what → action (machine_of c (at_rest worker told (Some seat) lagged)) kind payload ≡ Ask (command_by c (at_rest worker told (Some seat) lagged) what)
unfolding action
later_asks c worker told seat lagged kind payload what known is =
    let no_voice : (kind == UDP_TUNNEL) ≡ false = is_none_of kind UDP_TUNNEL known refl in
    let no_version : (kind == VERSION) ≡ false = is_none_of kind VERSION known refl in
    let no_ping : (kind == PING) ≡ false = is_none_of kind PING known refl in
    let no_login : (kind == AUTHENTICATE) ≡ false = is_none_of kind AUTHENTICATE known refl in
    rw (no_voice, no_version, no_ping, no_login, known) (ap (command_action (machine_of c (at_rest worker told (Some seat) lagged))) is)

-- a frame that is heard as a command asks for it, where it is a login or the connection has a seat
pub frame_asks : (c worker : ℕ) (told : Option ℕ) (seat : Option Seat) (lagged : Bool) (kind : ℕ) (payload : List ℕ) (what : Asked) → frame_heard told kind payload ≡ Message what
    → (kind ≡ AUTHENTICATE) ⊎ (is_some seat ≡ true) → action (machine_of c (at_rest worker told seat lagged)) kind payload ≡ Ask (command_by c (at_rest worker told seat lagged) what)
frame_asks c worker told seat lagged kind payload what is (inl login) =
    let heard : login_heard told payload ≡ Message what = subst (λ (n : ℕ). frame_heard told n payload ≡ Message what) login is in
    subst (λ (n : ℕ). action (machine_of c (at_rest worker told seat lagged)) n payload ≡ Ask (command_by c (at_rest worker told seat lagged) what)) (sym login)
    (login_asks c worker told seat lagged payload what heard)
frame_asks c worker told None lagged kind payload what is (inr seated) = absurd (false≢true seated)
frame_asks c worker told (Some seat) lagged kind payload what is (inr seated) = by_login (kind == AUTHENTICATE) (list_any (λ known. known == kind) commands_after_login) refl refl is
  where
    by_login : (a b : Bool) → (kind == AUTHENTICATE) ≡ a → list_any (λ known. known == kind) commands_after_login ≡ b
        → cond a (login_heard told payload) (cond b (command_heard kind payload) Malformed) ≡ Message what
        → action (machine_of c (at_rest worker told (Some seat) lagged)) kind payload ≡ Ask (command_by c (at_rest worker told (Some seat) lagged) what)
    by_login true b login known heard =
        subst (λ (n : ℕ). action (machine_of c (at_rest worker told (Some seat) lagged)) n payload ≡ Ask (command_by c (at_rest worker told (Some seat) lagged) what))
        (sym (eqb-true kind AUTHENTICATE login)) (login_asks c worker told (Some seat) lagged payload what heard)
    by_login false true login known heard = later_asks c worker told seat lagged kind payload what known heard
    by_login false false login known heard = absurd (cc)

-- ---- a Version

-- the frame that reports a version
abbrev version_message : ℕ → Version
version_message number = record { version = Some number; release = None; os = None; os_version = None }

abbrev pub version_frame : ℕ → List ℕ
version_frame number = spelling_of VERSION (spelled version (version_message number))

reported : (number : ℕ) → number < 2 ^ 32 → decoded version (spelled version (version_message number)) ≡ Ok (parts version (version_message number))
reported number fits = read_back version (version_message number) refl ((omega (arith, fits), omega (arith, fits)), (tt, (tt, (tt, tt)))) refl

keeps : (c worker : ℕ) (told : Option ℕ) (seat : Option Seat) (lagged : Bool) (payload : List ℕ) (values : Values (layout version)) → decoded version payload ≡ Ok values
    → action (machine_of c (at_rest worker told seat lagged)) VERSION payload ≡ Keep
unfolding action
keeps c worker told None lagged payload values is = ap version_action is
keeps c worker told (Some seat) lagged payload values is = ap version_action is

kept : (c worker : ℕ) (told : Option ℕ) (seat : Option Seat) (lagged : Bool) (payload : List ℕ) (values : Values (layout version)) → decoded version payload ≡ Ok values
    → (after_frame (machine_of c (at_rest worker told seat lagged)) VERSION payload).version ≡ version_after told (Ok values)
unfolding after_frame
kept c worker told None lagged payload values is = ap (version_after told) is
kept c worker told (Some seat) lagged payload values is = ap (version_after told) is

pub version_kept : (c worker : ℕ) (told : Option ℕ) (seat : Option Seat) (lagged : Bool) (number : ℕ) → number < 2 ^ 32
    → action (machine_of c (at_rest worker told seat lagged)) (kind_of (version_frame number)) (payload_of (version_frame number)) ≡ Keep
version_kept c worker told seat lagged number fits =
    let payload : List ℕ = spelled version (version_message number) in
    ap (λ (n : ℕ). action (machine_of c (at_rest worker told seat lagged)) n (payload_of (version_frame number))) (kind_read VERSION payload (omega arith))
    ∙ ap (action (machine_of c (at_rest worker told seat lagged)) VERSION) (payload_read VERSION payload)
    ∙ keeps c worker told seat lagged payload (parts version (version_message number)) (reported number fits)

pub version_told : (c worker : ℕ) (told : Option ℕ) (seat : Option Seat) (lagged : Bool) (number : ℕ) → number < 2 ^ 32
    → (after_frame (machine_of c (at_rest worker told seat lagged)) (kind_of (version_frame number)) (payload_of (version_frame number))).version ≡ Some number
version_told c worker told seat lagged number fits =
    let payload : List ℕ = spelled version (version_message number) in
    ap (λ (n : ℕ). (after_frame (machine_of c (at_rest worker told seat lagged)) n (payload_of (version_frame number))).version) (kind_read VERSION payload (omega arith))
    ∙ ap (λ (p : List ℕ). (after_frame (machine_of c (at_rest worker told seat lagged)) VERSION p).version) (payload_read VERSION payload)
    ∙ kept c worker told seat lagged payload (parts version (version_message number)) (reported number fits)

-- ---- a packet

abbrev pub voice_frame : List ℕ → List ℕ
voice_frame bytes = spelling_of UDP_TUNNEL bytes

heard_voice : (c : ℕ) (x : Connection) (seat : Seat) (payload : List ℕ) → x.rejected ≡ false → x.seat ≡ Some seat
    → action (machine_of c x) UDP_TUNNEL payload ≡ Voice payload
unfolding action
heard_voice c x seat payload welcome seated =
    ap (λ (b : Bool). action (machine_of c (record x { rejected = b })) UDP_TUNNEL payload) welcome
    ∙ ap (λ (o : Option Seat). action (machine_of c (record x { rejected = false; seat = o })) UDP_TUNNEL payload) seated

pub voice_heard : (c : ℕ) (x : Connection) (seat : Seat) (bytes : List ℕ) → x.rejected ≡ false → x.seat ≡ Some seat
    → action (machine_of c x) (kind_of (voice_frame bytes)) (payload_of (voice_frame bytes)) ≡ Voice bytes
voice_heard c x seat bytes welcome seated =
    ap (λ (n : ℕ). action (machine_of c x) n (payload_of (voice_frame bytes))) (kind_read UDP_TUNNEL bytes (omega arith))
    ∙ ap (action (machine_of c x) UDP_TUNNEL) (payload_read UDP_TUNNEL bytes)
    ∙ heard_voice c x seat bytes welcome seated
