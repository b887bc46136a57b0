-- What a frame may be heard as, and what the connection that asks has then.
use Rattle.mum_recording_laws.proofs.Common.{◌≡◌, ℕ, ◌==◌, ◌&&◌, ◌⊎◌, Bool, true, false, cond, List, Option, Some, None, Ok, Err, refl, sym, ap, subst, ◌∙◌, inl, inr, is_some, list_any, option_map, eqb-true, SessionId, AUTHENTICATE, PING, UDP_TUNNEL, VERSION, or_else, Values, decoded, layout, authenticate, ping, version, authenticate_of, Join, Leave, Decoded, action, after_frame, after_login, bans_action, command_action, commands_after_login, ignore, login_action, ping_action, tree_or_user_action, version_action, version_after, voice_action, command_heard, heard_map, login_heard, read, Machine, NotRead, Action, BAN_LIST, Ask, Bans, Ignore, Asked, Tree, User, Command, Heard, Malformed, Message, TooLong, Connection, Seat, machine_of, frame_heard}
use Rattle.mum_session.specs.Machine.{is_rejected, session_of}
use Rattle.mum_recording_laws.proofs.Deciding.{IsLater, comes_later}

-- ---- logins and other commands

-- a login with this version, or a command that comes after one
abbrev pub IsLogin : Option ℕ → Asked → Type 0
IsLogin told (User (Join message given)) = given ≡ told
IsLogin told others = ⊥

login_made : (told : Option ℕ) (heard : Heard (Values (layout authenticate))) (what : Asked) → heard_map (λ values. User (Join (authenticate_of values) told)) heard ≡ Message what → IsLogin told what
login_made told (Message values) what is = let same : User (Join (authenticate_of values) told) ≡ what = cc in subst (IsLogin told) same refl
login_made told Malformed what is = absurd (cc)
login_made told TooLong what is = absurd (cc)

pub login_of : (told : Option ℕ) (payload : List ℕ) (what : Asked) → login_heard told payload ≡ Message what → IsLogin told what
login_of told payload what is = login_made told (read authenticate payload) what is

pub heard_as : (told : Option ℕ) (kind : ℕ) (payload : List ℕ) (what : Asked) → frame_heard told kind payload ≡ Message what → ((kind ≡ AUTHENTICATE) × IsLogin told what) ⊎ IsLater what
heard_as told kind payload what is = from (kind == AUTHENTICATE) (list_any (λ known. known == kind) commands_after_login) refl is
  where
    from : (a b : Bool) → (kind == AUTHENTICATE) ≡ a → cond a (login_heard told payload) (cond b (command_heard kind payload) Malformed) ≡ Message what
        → ((kind ≡ AUTHENTICATE) × IsLogin told what) ⊎ IsLater what
    from true b login heard = inl (eqb-true kind AUTHENTICATE login, login_of told payload what heard)
    from false true login heard = inr (comes_later payload what kind heard)
    from false false login heard = absurd (cc)

-- ---- what fits the connection

-- a login has the version that the connection sent, and for another command it has a seat
abbrev pub Suits : Option ℕ → Option Seat → Asked → Type 0
Suits told seat (User (Join message given)) = given ≡ told
Suits told seat (User Leave) = ⊥
Suits told seat others = is_some seat ≡ true

login_suits : (told : Option ℕ) (seat : Option Seat) (what : Asked) → IsLogin told what → Suits told seat what
login_suits told seat (User (Join message given)) is = is
login_suits told seat (User Leave) is = absurd is
login_suits told seat (User others) is = absurd is
login_suits told seat (Tree message) is = absurd is

later_suits : (told : Option ℕ) (seat : Option Seat) (what : Asked) → IsLater what → is_some seat ≡ true → Suits told seat what
later_suits told seat (User (Join message given)) later some = absurd later
later_suits told seat (User Leave) later some = absurd later
later_suits told seat others later some = some

pub suits_later : (told : Option ℕ) (seat : Option Seat) (what : Asked) → IsLater what → Suits told seat what → is_some seat ≡ true
suits_later told seat (User (Join message given)) later is = absurd later
suits_later told seat (User Leave) later is = absurd later
suits_later told seat others later is = is

pub suits_login : (told given : Option ℕ) (seat : Option Seat) (what : Asked) → IsLogin given what → Suits told seat what → given ≡ told
suits_login told given seat (User (Join message one)) login is = sym login ∙ is
suits_login told given seat (User Leave) login is = absurd login
suits_login told given seat (User others) login is = absurd login
suits_login told given seat (Tree message) login is = absurd login

pub suits_seated : (told : Option ℕ) (one other : Option Seat) (what : Asked) → (is_some one ≡ true → is_some other ≡ true) → Suits told one what → Suits told other what
suits_seated told one other (User (Join message given)) more is = is
suits_seated told one other (User Leave) more is = is
suits_seated told one other others more is = more is

-- ---- what a frame asks for

pub record Asks (x : Connection) (command : Command) : Type 0 where
  pub welcome : x.rejected ≡ false
  pub suits : Suits x.version x.seat command.what

asks_of : (machine : Machine) (heard : Heard Asked) (command : Command) → command_action machine heard ≡ Ask command → heard ≡ Message command.what
asks_of machine (Message what) command is =
    let same : command.what ≡ what = cc in ap (λ (one : Asked). Message one) (sym same)
asks_of machine Malformed command is = absurd (cc)
asks_of machine TooLong command is = absurd (cc)

no_voice : (session : Option SessionId) (payload : List ℕ) (command : Command) → voice_action session payload ≡ Ask command → ⊥
no_voice None payload command is = cc
no_voice (Some session) payload command is = cc

no_version : (values : Decoded version) (command : Command) → version_action values ≡ Ask command → ⊥
no_version (Ok values) command is = cc
no_version (Err fault) command is = cc

no_ping : (values : Decoded ping) (command : Command) → ping_action values ≡ Ask command → ⊥
no_ping (Ok values) command is = cc
no_ping (Err fault) command is = cc

never_ignored : (why : ℕ) (command : Command) → Ignore why ≡ Ask command → ⊥
never_ignored why command is = cc

module _ (c worker : ℕ) (told : Option ℕ) (lagged : Bool) (payload : List ℕ) (command : Command) where
  abbrev of_kind : Option SessionId → Bool → Bool → Bool → Bool → Bool → ℕ → Machine → Action
  of_kind session a b d e known kind machine =
      cond a (voice_action session payload)
      (cond b (version_action (decoded version payload))
      (cond d (ping_action (decoded ping payload))
      (cond e (login_action machine payload)
      (cond known (after_login session (tree_or_user_action machine kind payload)) (bans_action machine kind payload)))))

  by_kind : (seat : Option Seat) (machine : Machine) (a b d e known : Bool) (kind : ℕ) → machine.version ≡ told → machine.bans ≡ false
      → of_kind (option_map (λ (own : Seat). own.session) seat) a b d e known kind machine ≡ Ask command → Suits told seat command.what
  by_kind seat machine true b d e known kind at bans is = absurd (no_voice (option_map (λ (own : Seat). own.session) seat) payload command is)
  by_kind seat machine false true d e known kind at bans is = absurd (no_version (decoded version payload) command is)
  by_kind seat machine false false true e known kind at bans is = absurd (no_ping (decoded ping payload) command is)
  by_kind seat machine false false false true known kind at bans is =
      login_suits told seat command.what (subst (λ (o : Option ℕ). IsLogin o command.what) at (login_of machine.version payload command.what (asks_of machine (login_heard machine.version payload) command is)))
  by_kind None machine false false false false true kind at bans is = absurd (never_ignored _ command is)
  by_kind (Some seat) machine false false false false true kind at bans is =
      later_suits told (Some seat) command.what (comes_later payload command.what kind (asks_of machine (command_heard kind payload) command is)) refl
  by_kind seat machine false false false false false kind at bans is =
      absurd (never_ignored _ command (sym (ap (λ (b : Bool). cond (b && kind == BAN_LIST) (after_login (session_of machine.stage) (Bans payload)) (ignore NotRead)) bans) ∙ is))

asks_at : (c : ℕ) (x : Connection) (rejected : Bool) (seat : Option Seat) (kind : ℕ) (payload : List ℕ) (command : Command) → x.rejected ≡ rejected → x.seat ≡ seat
    → action (machine_of c (record x { rejected = rejected; seat = seat })) kind payload ≡ Ask command → (rejected ≡ false) × Suits x.version seat command.what
unfolding action
asks_at c x true seat kind payload command welcome seated is = absurd (never_ignored _ command is)
asks_at c x false None kind payload command welcome seated is = (
  refl,
  by_kind c x.worker x.version x.lagged payload command None (machine_of c (record x { rejected = false; seat = None })) (kind == UDP_TUNNEL) (kind == VERSION) (kind == PING) (kind == AUTHENTICATE)
      (list_any (λ known. known == kind) commands_after_login) kind refl refl is,
)
asks_at c x false (Some seat) kind payload command welcome seated is = (
  refl,
  by_kind c x.worker x.version x.lagged payload command (Some seat) (machine_of c (record x { rejected = false; seat = Some seat })) (kind == UDP_TUNNEL) (kind == VERSION) (kind == PING) (kind == AUTHENTICATE)
      (list_any (λ known. known == kind) commands_after_login) kind refl refl is,
)

-- the actor was not rejected, and has what the command wants
pub asks_so : (c : ℕ) (x : Connection) (kind : ℕ) (payload : List ℕ) (command : Command) → action (machine_of c x) kind payload ≡ Ask command → Asks x command
asks_so c x kind payload command is =
    let both = asks_at c x x.rejected x.seat kind payload command refl refl is in record { welcome = both.0; suits = both.1 }

-- ---- a version stays

some_before : (one before : Option ℕ) → is_some before ≡ true → is_some (or_else one before) ≡ true
some_before None before is = is
some_before (Some number) before is = refl

some_after : (before : Option ℕ) (values : Decoded version) → is_some before ≡ true → is_some (version_after before values) ≡ true
some_after before (Ok values) is = some_before values.0 before is
some_after before (Err fault) is = is

pub version_stays : (machine : Machine) (kind : ℕ) (payload : List ℕ) → is_some machine.version ≡ true → is_some (after_frame machine kind payload).version ≡ true
unfolding after_frame
version_stays machine kind payload is = from (is_rejected machine.stage) (kind == VERSION)
  where
    from : (a b : Bool) → is_some (cond a machine.version (cond b (version_after machine.version (decoded version payload)) machine.version)) ≡ true
    from true b = is
    from false true = some_after machine.version (decoded version payload) is
    from false false = is
