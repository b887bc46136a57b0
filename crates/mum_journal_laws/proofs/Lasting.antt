-- An accepted login of a connection is its login from then on.
use Rattle.mum_journal_laws.proofs.Common.{◌≡◌, ◌∙◌, ℕ, ◌==◌, Bool, false, cond, List, [], ◌∷◌, ◌++◌, Option, Some, None, refl, ap, sym, AllByRecursion, eq-eqb, ne_eqb, All-from_recursion, with_login, SessionId, ReplyEnd, Decided, Joined, Rejected, with_command, DoorFacts, LinkFacts, appended, state_of, Opening, login_of, decisions, logins_decided, reply_end, verdict, Command, Edit, Decision, AreAnswered, AreForTheirLogins, Logins, LoginsLast, logins_after, session_in, with_login_of}
use Rattle.mum_journal_laws.proofs.Seats.{actor_gives, login_found, opened_follow}

-- a login of another connection changes nothing for this one
others_login : (end : ReplyEnd) (other connection : ℕ) (logins : Logins) → (connection == other) ≡ false → session_in (with_login other end logins) connection ≡ session_in logins connection
others_login (Joined session slot) other connection logins apart =
    login_found logins other session connection ∙ ap (λ (b : Bool). cond b (Some session) (session_in logins connection)) apart
others_login Decided other connection logins apart = refl
others_login Rejected other connection logins apart = refl

module _ (opening : Opening) (connection : ℕ) (session : SessionId) where
  -- whoever has a session logs in no more, and whoever has none is another
  still_in : (edits : List Edit) (logins : Logins) (command : Command) (actor : Option SessionId) → command.session ≡ actor → actor ≡ session_in logins command.connection
      → session_in logins connection ≡ Some session → session_in (with_login_of opening edits command logins) connection ≡ Some session
  still_in edits logins command (Some own) is kept has =
      ap (λ (a : Option SessionId). session_in (with_login command.connection (reply_end (verdict (state_of opening edits) a command.what)) logins) connection) is
      ∙ ap (λ (l : Logins). session_in l connection) (actor_gives (state_of opening edits) own command.what command.connection logins) ∙ has
  still_in edits logins command None is kept has =
      let apart : (connection == command.connection) ≡ false =
      ne_eqb connection command.connection (λ same. nobody (session_in logins command.connection) kept (ap (session_in logins) (sym same) ∙ has)) in
      others_login (reply_end (verdict (state_of opening edits) command.session command.what)) command.connection connection logins apart ∙ has
    where
      nobody : (o : Option SessionId) → None ≡ o → o ≡ Some session → ⊥
      nobody o none some = cc

  -- after all commands that follow
  stays_in : (edits : List Edit) (logins : Logins) (made : List Decision) → AreForTheirLogins opening edits logins made → session_in logins connection ≡ Some session
      → session_in (logins_after opening edits logins made) connection ≡ Some session
  stays_in edits logins [] own has = has
  stays_in edits logins (decision ∷ others) own has =
      stays_in (with_command opening edits decision.command) (with_login_of opening edits decision.command logins) others own.1
      (still_in edits logins decision.command decision.command.session refl own.0 has)

-- the login of one command
first_last : (opening : Opening) (edits : List Edit) (logins : Logins) (decision : Decision) (others : List Decision) (end : ReplyEnd)
    → AreForTheirLogins opening (with_command opening edits decision.command) (with_login_of opening edits decision.command logins) others
    → end ≡ reply_end (verdict (state_of opening edits) decision.command.session decision.command.what)
    → AllByRecursion (λ one. session_in (logins_after opening edits logins (decision ∷ others)) one.connection ≡ Some one.session) (login_of decision.command.connection end)
first_last opening edits logins decision others Decided own is = tt
first_last opening edits logins decision others Rejected own is = tt
first_last opening edits logins decision others (Joined session slot) own is =
    let connection : ℕ = decision.command.connection in
    let begins : session_in (with_login_of opening edits decision.command logins) connection ≡ Some session =
    ap (λ (e : ReplyEnd). session_in (with_login connection e logins) connection) (sym is)
    ∙ login_found logins connection session connection
    ∙ ap (λ (b : Bool). cond b (Some session) (session_in logins connection)) (eq-eqb connection connection refl) in
    (stays_in opening connection session (with_command opening edits decision.command) (with_login_of opening edits decision.command logins) others own begins, tt)

all_append : {X : Type 0} (P : X → Type 0) (xs ys : List X) → AllByRecursion P xs → AllByRecursion P ys → AllByRecursion P (xs ++ ys)
all_append P [] ys held also = also
all_append P (x ∷ xs) ys held also = (held.0, all_append P xs ys held.1 also)

pub all_last : (opening : Opening) (edits : List Edit) (logins : Logins) (made : List Decision) → AreForTheirLogins opening edits logins made → AreAnswered opening edits made
    → AllByRecursion (λ one. session_in (logins_after opening edits logins made) one.connection ≡ Some one.session) (logins_decided made)
all_last opening edits logins [] own ends = tt
all_last opening edits logins (decision ∷ others) own ends =
    all_append (λ one. session_in (logins_after opening edits logins (decision ∷ others)) one.connection ≡ Some one.session)
    (login_of decision.command.connection decision.reply.end) (logins_decided others)
    (first_last opening edits logins decision others decision.reply.end own.1 ends.0)
    (all_last opening (with_command opening edits decision.command) (with_login_of opening edits decision.command logins) others own.1 ends.1)

module _ {D L : Type 0} (door_facts : D → DoorFacts) (link_facts : L → LinkFacts) where
  pub logins_last : LoginsLast D L door_facts link_facts
  logins_last control door connections journal queues store opened owner turns new all =
      let made : List Decision = decisions door_facts link_facts opened turns owner all in
      let follow = opened_follow door_facts link_facts control door connections journal queues store opened owner turns new all in
      All-from_recursion (λ one. session_in (logins_after opened.control.publisher.opening (appended opened.control.publisher) [] made) one.connection ≡ Some one.session) (logins_decided made)
      (all_last opened.control.publisher.opening (appended opened.control.publisher) [] made follow.own follow.ends)
