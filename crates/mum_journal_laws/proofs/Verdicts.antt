-- The control entries of decisions have the verdicts that an audit finds.
use Rattle.mum_journal_laws.proofs.Common.{◌≡◌, ◌∙◌, ℕ, zero, suc, ◌+◌, List, [], ◌∷◌, length, take, Option, Some, refl, ap, sym, slice_get, after_entries, after_entry, mark_on, verdict_on, decided, Past, after_verdict, SessionId, IsHeardAgain, RequestsAreHeardAgain, with_command, own_frame, version_of, state_of, Opening, ControlEntry, edits_after, entries_after, entry_of, mark, verdict, Command, Edit, Verdict, Decision, AreAskedFor, AreForTheirLogins, Logins, logins_after, session_in, with_login_of}

module _ (opening : Opening) where
  -- what these edits and logins leave
  abbrev pub past_with : List Edit → Logins → Past
  past_with edits logins = record { opening = opening.state; accepted = edits; logins = logins }

  module _ (edits : List Edit) (logins : Logins) (decision : Decision) (own : decision.command.session ≡ session_in logins decision.command.connection) (heard : IsHeardAgain decision.command.what) where
    abbrev command : Command
    command = decision.command

    -- an audit finds the verdict of the decision
    verdict_found : verdict_on (past_with edits logins) (entry_of opening edits command) ≡ verdict (state_of opening edits) command.session command.what
    verdict_found =
        ap (λ (actor : Option SessionId). decided (state_of opening edits) actor (version_of command.what) (own_frame command.what)) (sym own)
        ∙ heard (state_of opening edits) command.session

    mark_found : (entry_of opening edits command).verdict ≡ mark_on (past_with edits logins) (entry_of opening edits command)
    mark_found = ap (λ (found : Verdict). mark (length edits + 1) found) (sym verdict_found)

    past_found : after_entry (past_with edits logins) (entry_of opening edits command) ≡ past_with (with_command opening edits command) (with_login_of opening edits command logins)
    past_found = ap (λ (found : Verdict). after_verdict (past_with edits logins) command.connection found) verdict_found

  -- what the entries of decisions leave
  pub past_after : (edits : List Edit) (logins : Logins) (made : List Decision) → AreForTheirLogins opening edits logins made → RequestsAreHeardAgain → AreAskedFor made
      → after_entries (past_with edits logins) (entries_after opening edits made) ≡ past_with (edits_after opening edits made) (logins_after opening edits logins made)
  past_after edits logins [] own heard asked = refl
  past_after edits logins (decision ∷ others) own heard asked =
      ap (λ (past : Past). after_entries past (entries_after opening (with_command opening edits decision.command) others)) (past_found edits logins decision own.0 (heard decision.command.what asked.0))
      ∙ past_after (with_command opening edits decision.command) (with_login_of opening edits decision.command logins) others own.1 heard asked.1

  same_entry : (one other : ControlEntry) (past : Past) → Some one ≡ Some other → one.verdict ≡ mark_on past one → other.verdict ≡ mark_on past other
  same_entry one other past same right =
      let is : one ≡ other = cc in
      ap (λ (entry : ControlEntry). entry.verdict) (sym is) ∙ right ∙ ap (mark_on past) is

  pub verdicts_found : (edits : List Edit) (logins : Logins) (made : List Decision) → AreForTheirLogins opening edits logins made → RequestsAreHeardAgain → AreAskedFor made
      → (i : ℕ) (entry : ControlEntry) → slice_get (entries_after opening edits made) i ≡ Some entry
      → entry.verdict ≡ mark_on (after_entries (past_with edits logins) (take i (entries_after opening edits made))) entry
  verdicts_found edits logins [] own heard asked i entry there = absurd (cc)
  verdicts_found edits logins (decision ∷ others) own heard asked zero entry there =
      same_entry (entry_of opening edits decision.command) entry (past_with edits logins) there (mark_found edits logins decision own.0 (heard decision.command.what asked.0))
  verdicts_found edits logins (decision ∷ others) own heard asked (suc i) entry there =
      let later : List Edit = with_command opening edits decision.command in
      let more : Logins = with_login_of opening edits decision.command logins in
      verdicts_found later more others own.1 heard asked.1 i entry there
      ∙ ap (λ (past : Past). mark_on (after_entries past (take i (entries_after opening later others))) entry) (sym (past_found edits logins decision own.0 (heard decision.command.what asked.0)))
