-- What a port puts on the desk is of its own connection.
use Rattle.mum_worker_laws.proofs.Common.{◌≡◌, ◌==◌, ◌&&◌, ◌∙◌, ℕ, Bool, true, false, if◌then◌else◌, List, Option, Some, None, Ok, Err, refl, ap, sym, list_any, eq-eqb, eqb-true, SessionId, decoded, Frame, UDP_TUNNEL, VERSION, PING, AUTHENTICATE, ping, version, Gone, NotRead, Decoded, action, after_login, bans_action, command_action, commands_after_login, ignore, login_action, ping_action, tree_or_user_action, version_action, voice_action, command_heard, login_heard, Machine, is_rejected, session_of, Action, Ask, Bans, BAN_LIST, Asked, asked_item, machine_after, waiting_after_put, PortFacts, due_item, item_of, leave, next_item, next_word, waiting_after, DeskItem, Leave, LastWord, Done, Stage, Live, Ending, Closed, connection-after_frame, is_item_of}
use Rattle.mum_session.specs.declared.heard.Heard.{Heard}
use Rattle.mum_session.specs.declared.heard.Heard.TheVariants as heard
use Rattle.mum_port.specs.declared.item.DeskItem.TheVariants as items

-- ---- what a connection asks for is its own

abbrev asks_own : ℕ → Action → Bool
asks_own connection (Ask command) = command.connection == connection
asks_own connection others = true

either_own : (connection : ℕ) (test : Bool) (a b : Action) → asks_own connection a ≡ true → asks_own connection b ≡ true → asks_own connection (if test then a else b) ≡ true
either_own connection true a b first other = first
either_own connection false a b first other = other

version-own : (connection : ℕ) (read : Decoded version) → asks_own connection (version_action read) ≡ true
version-own connection (Ok values) = refl
version-own connection (Err fault) = refl

ping-own : (connection : ℕ) (read : Decoded ping) → asks_own connection (ping_action read) ≡ true
ping-own connection (Ok values) = refl
ping-own connection (Err fault) = refl

voice-own : (connection : ℕ) (session : Option SessionId) (payload : List ℕ) → asks_own connection (voice_action session payload) ≡ true
voice-own connection None payload = refl
voice-own connection (Some session) payload = refl

command-own : (machine : Machine) (heard_one : Heard Asked) → asks_own machine.connection (command_action machine heard_one) ≡ true
command-own machine (heard.Message what) = eq-eqb machine.connection machine.connection refl
command-own machine heard.Malformed = refl
command-own machine heard.TooLong = refl

later-own : (connection : ℕ) (session : Option SessionId) (a : Action) → asks_own connection a ≡ true → asks_own connection (after_login session a) ≡ true
later-own connection None a own = refl
later-own connection (Some session) a own = own

bans-own : (machine : Machine) (kind : ℕ) (payload : List ℕ) → asks_own machine.connection (bans_action machine kind payload) ≡ true
bans-own machine kind payload =
    either_own machine.connection (machine.bans && kind == BAN_LIST) (after_login (session_of machine.stage) (Bans payload)) (ignore NotRead)
    (later-own machine.connection (session_of machine.stage) (Bans payload) refl) refl

action-own : (machine : Machine) (kind : ℕ) (payload : List ℕ) → asks_own machine.connection (action machine kind payload) ≡ true
unfolding action
action-own machine kind payload =
    either_own machine.connection (is_rejected machine.stage) (ignore Gone) _ refl
    (either_own machine.connection (kind == UDP_TUNNEL) (voice_action (session_of machine.stage) payload) _ (voice-own machine.connection (session_of machine.stage) payload)
    (either_own machine.connection (kind == VERSION) (version_action (decoded version payload)) _ (version-own machine.connection (decoded version payload))
    (either_own machine.connection (kind == PING) (ping_action (decoded ping payload)) _ (ping-own machine.connection (decoded ping payload))
    (either_own machine.connection (kind == AUTHENTICATE) (login_action machine payload) _ (command-own machine (login_heard machine.version payload))
    (either_own machine.connection (list_any (λ known. known == kind) commands_after_login) (after_login (session_of machine.stage) (tree_or_user_action machine kind payload)) _
    (later-own machine.connection (session_of machine.stage) (tree_or_user_action machine kind payload) (command-own machine (command_heard kind payload))) (bans-own machine kind payload))))))

-- ---- what waits, and what is due

-- it waits for the desk with an item of its own connection alone
abbrev pub OwnItem : ℕ → Option DeskItem → Type 0
OwnItem connection waiting = (item : DeskItem) → waiting ≡ Some item → is_item_of connection item ≡ true

word-own : (machine : Machine) (stage : Stage) → OwnItem machine.connection (next_word machine stage)
word-own machine Live item is = absurd (cc is)
word-own machine (Ending parting) item is = absurd (cc is)
word-own machine (Closed cause Leave) item is =
    let same : item ≡ items.Command (leave machine) = cc (sym is) in
    ap (λ (i : DeskItem). is_item_of machine.connection i) same ∙ eq-eqb machine.connection machine.connection refl
word-own machine (Closed cause LastWord) item is =
    let same : item ≡ items.Closed machine.connection = cc (sym is) in
    ap (λ (i : DeskItem). is_item_of machine.connection i) same ∙ eq-eqb machine.connection machine.connection refl
word-own machine (Closed cause Done) item is = absurd (cc is)

next-own : (waiting : Option DeskItem) (machine : Machine) (stage : Stage) → OwnItem machine.connection waiting → OwnItem machine.connection (next_item waiting machine stage)
next-own (Some waits) machine stage own item is = own item is
next-own None machine stage own item is = word-own machine stage item is

pub due-own : {L : Type 0} (port : PortFacts L) → OwnItem port.machine.connection port.waiting → OwnItem port.machine.connection (due_item port)
due-own port own item is = next-own port.waiting port.machine port.stage own item is

pub put-own : (connection : ℕ) (put waiting : Option DeskItem) → OwnItem connection waiting → OwnItem connection (waiting_after_put put waiting)
put-own connection (Some done) waiting own item is = absurd (cc is)
put-own connection None waiting own item is = own item is

acted-own : (connection : ℕ) (session : Option SessionId) (asked : Action) → asks_own connection asked ≡ true → OwnItem connection (item_of connection session asked)
acted-own connection session (Ask command) asks item is =
    let same : item ≡ items.Command command = cc (sym is) in
    ap (λ (i : DeskItem). is_item_of connection i) same ∙ asks
acted-own connection (Some own) (Bans payload) asks item is =
    let same : item ≡ items.Bans connection own payload = cc (sym is) in
    ap (λ (i : DeskItem). is_item_of connection i) same ∙ eq-eqb connection connection refl
acted-own connection None (Bans payload) asks item is = absurd (cc is)
acted-own connection session others asks item is = absurd (cc is)

waits-own : (connection : ℕ) (asked waiting : Option DeskItem) → OwnItem connection asked → OwnItem connection waiting → OwnItem connection (waiting_after asked waiting)
waits-own connection None waiting asks own item is = own item is
waits-own connection (Some asked) waiting asks own item is = asks item is

pub asked-own : (machine : Machine) (frame : Option Frame) (waiting : Option DeskItem) → OwnItem machine.connection waiting → OwnItem machine.connection (waiting_after (asked_item machine frame) waiting)
asked-own machine None waiting own item is = own item is
asked-own machine (Some frame) waiting own item is =
    waits-own machine.connection (asked_item machine (Some frame)) waiting
    (acted-own machine.connection (session_of machine.stage) (action machine frame.kind frame.payload) (action-own machine frame.kind frame.payload)) own item is

pub connection-machine_after : (machine : Machine) (frame : Option Frame) → (machine_after machine frame).connection ≡ machine.connection
connection-machine_after machine None = refl
connection-machine_after machine (Some frame) = connection-after_frame machine frame.kind frame.payload

-- an item that is of one connection is of another where that is the same
pub item-of : (item : DeskItem) (own connection : ℕ) → is_item_of own item ≡ true → is_item_of connection item ≡ (own == connection)
item-of (items.Command command) own connection is = ap (λ (n : ℕ). n == connection) (eqb-true command.connection own is)
item-of (items.Closed closed) own connection is = ap (λ (n : ℕ). n == connection) (eqb-true closed own is)
item-of (items.Bans sender session payload) own connection is = ap (λ (n : ℕ). n == connection) (eqb-true sender own is)
