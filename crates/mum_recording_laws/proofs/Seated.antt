-- Whoever has a session is neither given another nor rejected, so it keeps its session.
use Rattle.mum_recording_laws.proofs.Common.{◌≡◌, ℕ, ◌==◌, Bool, true, false, cond, List, Option, Some, None, refl, sym, ap, subst, ◌∙◌, is_some, option_map, option_or, eqb-true, false≢true, SessionId, ReplyEnd, Actor, ControlEntry, Verdict, Answer, granted_where_there, StateValue, first_lack, first_standing, tree_verdict, TreeMessage, UserCommand, user_command, limits, needs, answer_frame, outcome, reasons, actor_for, Leave, mark, reply_end, verdict, Asked, Tree, User, Message, tree_holds, unless, is_rejected, seat_in, seat_of, Seat, after_entry, verdict_on, Past, IsAsked, command_of}
use Rattle.mum_base.specs.declared.reply.ReplyEnd.TheVariants.{Decided}
use Rattle.mum_state.specs.declared.verdict.Verdict.TheVariants.{Rejected}
use Rattle.mum_rules_user.specs.Verdict.{command_verdict}
use Rattle.mum_audit.specs.Past.{current, session_of}
use Rattle.mum_recording_laws.proofs.{Deciding.decided_so, Following.logged_in}

-- ---- what is decided of who has a session

abbrev pub IsPlain : Verdict → Type 0
IsPlain one = reply_end one ≡ Decided

tree_plain : (state : StateValue) (session : SessionId) (message : TreeMessage) → IsPlain (tree_verdict state session message)
tree_plain = tree_holds IsPlain (record {
  ignored = λ why. refl;
  lacks = λ perm channel. refl;
  refused = λ kind. refl;
  answered = λ frame. refl;
  made = λ id parent name temporary info maker. refl;
  changed = λ id actor name parent description position max_users links_add links_remove. refl;
  removed = λ id actor. refl;
  ruled = λ channel actor policy. refl;
})

outcome_plain : (state : StateValue) (who : Actor) (actor : SessionId) (command : UserCommand) → IsPlain (outcome state who actor command)
outcome_plain state who actor (UserCommand.renew message) = refl
outcome_plain state who actor (UserCommand.change other message) = refl
outcome_plain state who actor (UserCommand.kick other message) = refl
outcome_plain state who actor (UserCommand.text message) = refl
outcome_plain state who actor (UserCommand.target message) = refl
outcome_plain state who actor (UserCommand.query id) = unless IsPlain (λ held. Answer (answer_frame id held)) (granted_where_there state who id) _ (λ held. refl) refl
outcome_plain state who actor UserCommand.leave = refl

command_plain : (state : StateValue) (who : Actor) (actor : SessionId) (command : UserCommand) → IsPlain (command_verdict state who actor command)
command_plain state who actor command =
    unless IsPlain _ (first_lack state (needs state who actor command)) _ (λ lack. refl)
    (unless IsPlain _ (first_standing (limits state actor command)) _ (λ kind. refl) (outcome_plain state who actor command))

pub plain_verdict : (state : StateValue) (session : SessionId) (what : Asked) → IsPlain (verdict state (Some session) what)
unfolding verdict
plain_verdict state session (Tree message) = tree_plain state session message
plain_verdict state session (User message) =
    unless IsPlain _ (first_standing (reasons state (Some session) message)) _ (λ reason. refl)
    (command_plain state (actor_for state session message) session (user_command session message))

-- ---- whoever is seated was not rejected

pub not_rejected : (n : ℕ) (one : Verdict) → IsPlain one → is_rejected (mark n one) ≡ false
not_rejected n (Rejected kind) plain = absurd (cc)
not_rejected n others plain = refl

seated_by : (n : ℕ) (one : Verdict) → is_some (option_or (seat_of one) None) ≡ true → is_rejected (mark n one) ≡ false
seated_by n (Rejected kind) some = absurd (false≢true some)
seated_by n others some = refl

pub welcomed : (state : StateValue) (seat : Option Seat) (session : Option SessionId) (what : Asked) (n : ℕ) → session ≡ option_map (λ (own : Seat). own.session) seat
    → is_some (option_or (seat_of (verdict state session what)) seat) ≡ true → is_rejected (mark n (verdict state session what)) ≡ false
welcomed state None session what n is some = seated_by n (verdict state session what) some
welcomed state (Some seat) session what n is some =
    subst (λ (o : Option SessionId). is_rejected (mark n (verdict state o what)) ≡ false) (sym is) (not_rejected n (verdict state (Some seat.session) what) (plain_verdict state seat.session what))

-- ---- a session stays

asked_for : (past : Past) (earlier : List ControlEntry) (entry : ControlEntry) → IsAsked past earlier entry → (what : Asked) × (command_of entry.version entry.frame ≡ Message what)
asked_for past earlier entry asked = from entry.frame refl
  where
    from : (o : Option (List ℕ)) → entry.frame ≡ o → (what : Asked) × (command_of entry.version entry.frame ≡ Message what)
    from None ended = (User Leave, ap (command_of entry.version) ended)
    from (Some bytes) framed = let command = asked.command bytes framed in (command.what, ap (command_of entry.version) framed ∙ command.asks)

pub keeps_session : (past : Past) (earlier : List ControlEntry) (entry : ControlEntry) (c : ℕ) (session : SessionId) → IsAsked past earlier entry → session_of past c ≡ Some session
    → session_of (after_entry past entry) c ≡ Some session
keeps_session past earlier entry c session asked has =
    logged_in (reply_end (verdict_on past entry)) entry.connection past.logins c ∙ from (c == entry.connection) refl ∙ has
  where
    end : ReplyEnd
    end = reply_end (verdict_on past entry)

    plain : c ≡ entry.connection → end ≡ Decided
    plain same =
        let what = asked_for past earlier entry asked in
        let own : session_of past entry.connection ≡ Some session = subst (λ (d : ℕ). session_of past d ≡ Some session) same has in
        ap (λ (one : Verdict). reply_end one) (decided_so (current past) (session_of past entry.connection) entry.version entry.frame what.0 what.1)
        ∙ ap (λ (o : Option SessionId). reply_end (verdict (current past) o what.0)) own ∙ plain_verdict (current past) session what.0

    from : (b : Bool) → (c == entry.connection) ≡ b → cond b (option_or (option_map (λ (seat : Seat). seat.session) (seat_in end)) (session_of past c)) (session_of past c) ≡ session_of past c
    from false apart = refl
    from true same = ap (λ (e : ReplyEnd). option_or (option_map (λ (seat : Seat). seat.session) (seat_in e)) (session_of past c)) (plain (eqb-true c entry.connection same))
