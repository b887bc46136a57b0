-- What an accepted message on channels is: one of four edits, each with the permissions that it needs.
use Rattle.mum_rights_laws.proofs.Common.{◌≡◌, ℕ, ◌&&◌, ◌||◌, Bool, true, false, cond, [], Option, Some, None, refl, ap, sym, ◌∙◌, subst, is_none, option_map_or, option_or, and_parts, not-false, or_parts, reason_code, ChannelId, SessionId, DenyType, Reason, NotThere, MAKE_CHANNEL, MAKE_TEMP_CHANNEL, WRITE, AclMessage, ChannelRemove, ChannelState, ChannelPolicy, parent_of, session_of, User, fits, actor_from, IsProper, StateValue, policy_of, Edit, RemoveChannel, SetAcl, Verdict, Accepted, Answer, Ignored, Command, channel, channel_or_root, command_of, is_named_there, is_query, is_to_be_temporary, names_there, parent_of_new, FitsWhereAccepted, first_lack, first_standing, AllMet, needs_of, limits, needs, answer_frame, edit_to_change, edit_to_make, outcome, policy_asked, is_gone, reasons, takes_no_edits, nobody, tree_verdict, TreeMessage, Acl, Remove, State, Lack, accepted_fits, all_off, outcome_at, all_met_where, told, may}
use Rattle.mum_rights_laws.proofs.Needed.{either_had, had}

-- what is accepted of this session, with what each edit needs
pub data IsKind (before : StateValue) (actor : SessionId) (own : User) : TreeMessage → Edit → Type 0 where
  makes : (asked : ChannelState) (parent : ℕ) → asked.channel_id ≡ None → asked.parent ≡ Some parent
      → may before own (cond (is_to_be_temporary asked) MAKE_TEMP_CHANNEL MAKE_CHANNEL) (channel parent) ≡ true
      → IsKind before actor own (State asked) (edit_to_make before.tree actor asked)
  changes : (asked : ChannelState) (id : ChannelId) → asked.channel_id ≡ Some id.0
      → AllMet before (needs before.tree (actor_from before.tree own) (Command.edit id asked))
      → IsKind before actor own (State asked) (edit_to_change before.tree actor id asked)
  removes : (asked : ChannelRemove) (id : ChannelId) → asked.channel_id ≡ Some id.0 → may before own WRITE id ≡ true
      → IsKind before actor own (Remove asked) (RemoveChannel id actor)
  rules : (asked : AclMessage) (id : ChannelId) → asked.channel_id ≡ Some id.0
      → (may before own WRITE id || may before own WRITE (parent_of before.tree id)) ≡ true
      → IsKind before actor own (Acl asked) (SetAcl id (Some actor) (policy_asked asked))

pub record IsTreeEdit (before : StateValue) (actor : SessionId) (own : User) (message : TreeMessage) (edit : Edit) : Type 0 where
  pub there : session_of before.roster actor ≡ Some own
  pub fit : fits before edit ≡ true
  pub kind : IsKind before actor own message edit

query_edits_nothing : (id : ChannelId) (policy : Option ChannelPolicy) (edit : Edit)
    → option_map_or (λ p. Answer (answer_frame id p)) policy (Ignored (reason_code NotThere)) ≡ Accepted edit → ⊥
query_edits_nothing id None edit is = cc
query_edits_nothing id (Some policy) edit is = cc

same_edit : (one other : Edit) → Accepted one ≡ Accepted other → one ≡ other
same_edit one other is = cc

here : (o : Option User) → is_none o ≡ false → (own : User) × (o ≡ Some own)
here None is = cc
here (Some own) is = (own, refl)

module _ (before : StateValue) (actor : SessionId) (own : User) where
  kind_of_state : (asked : ChannelState) (number : Option ℕ) (edit : Edit) → asked.channel_id ≡ number
      → is_named_there before.tree (option_or number asked.parent) ≡ true
      → AllMet before (needs before.tree (actor_from before.tree own) (option_map_or (λ n. Command.edit (channel n) asked) number (Command.make asked)))
      → outcome before actor (option_map_or (λ n. Command.edit (channel n) asked) number (Command.make asked)) ≡ Accepted edit
      → IsKind before actor own (State asked) edit
  kind_of_state asked (Some number) edit names named met is =
      subst (λ e. IsKind before actor own (State asked) e) (same_edit (edit_to_change before.tree actor (channel number) asked) edit is)
      (changes asked (channel number) names met)
  kind_of_state asked None edit names named met is =
      subst (λ e. IsKind before actor own (State asked) e) (same_edit (edit_to_make before.tree actor asked) edit is) (under asked.parent refl named)
    where
      under : (parent : Option ℕ) → asked.parent ≡ parent → is_named_there before.tree parent ≡ true
          → IsKind before actor own (State asked) (edit_to_make before.tree actor asked)
      under None is there = cc
      under (Some parent) is there =
          makes asked parent names is
          (sym (ap (λ (o : Option ℕ). may before own (cond (is_to_be_temporary asked) MAKE_TEMP_CHANNEL MAKE_CHANNEL) (channel_or_root o)) is)
          ∙ had before own own.tokens (cond (is_to_be_temporary asked) MAKE_TEMP_CHANNEL MAKE_CHANNEL) (parent_of_new asked) [] met)

  kind_of_remove : (asked : ChannelRemove) (number : Option ℕ) (edit : Edit) → asked.channel_id ≡ number → is_named_there before.tree number ≡ true
      → AllMet before (needs before.tree (actor_from before.tree own) (Command.remove (channel_or_root number)))
      → outcome before actor (Command.remove (channel_or_root number)) ≡ Accepted edit → IsKind before actor own (Remove asked) edit
  kind_of_remove asked None edit names named met is = cc
  kind_of_remove asked (Some number) edit names named met is =
      subst (λ e. IsKind before actor own (Remove asked) e) (same_edit (RemoveChannel (channel number) actor) edit is)
      (removes asked (channel number) names (had before own own.tokens WRITE (channel number) [] met))

  kind_of_acl : (asked : AclMessage) (number : Option ℕ) (query : Bool) (edit : Edit) → asked.channel_id ≡ number → is_named_there before.tree number ≡ true
      → AllMet before (needs before.tree (actor_from before.tree own) (cond query (Command.query (channel_or_root number)) (Command.set (channel_or_root number) asked)))
      → outcome before actor (cond query (Command.query (channel_or_root number)) (Command.set (channel_or_root number) asked)) ≡ Accepted edit
      → IsKind before actor own (Acl asked) edit
  kind_of_acl asked None query edit names named met is = cc
  kind_of_acl asked (Some number) true edit names named met is =
      absurd (query_edits_nothing (channel number) (policy_of before (channel number)) edit is)
  kind_of_acl asked (Some number) false edit names named met is =
      subst (λ e. IsKind before actor own (Acl asked) e) (same_edit (SetAcl (channel number) (Some actor) (policy_asked asked)) edit is)
      (rules asked (channel number) names (either_had before own own.tokens WRITE WRITE (channel number) (parent_of before.tree (channel number)) [] met))

  kind_of : (message : TreeMessage) (edit : Edit) → names_there before.tree message ≡ true
      → AllMet before (needs before.tree (actor_from before.tree own) (command_of message)) → outcome before actor (command_of message) ≡ Accepted edit
      → IsKind before actor own message edit
  kind_of (State asked) edit named met is =
      let (three, last) = and_parts (is_named_there before.tree (option_or asked.channel_id asked.parent) && _ && _) _ named in
      let (two, third) = and_parts (is_named_there before.tree (option_or asked.channel_id asked.parent) && _) _ three in
      kind_of_state asked asked.channel_id edit refl (and_parts (is_named_there before.tree (option_or asked.channel_id asked.parent)) _ two).0 met is
  kind_of (Remove asked) edit named met is = kind_of_remove asked asked.channel_id edit refl named met is
  kind_of (Acl asked) edit named met is = kind_of_acl asked asked.channel_id (is_query asked) edit refl named met is

pub tree_edit : (before : StateValue) (actor : SessionId) (message : TreeMessage) (edit : Edit) → IsProper before
    → tree_verdict before actor message ≡ Accepted edit → (own : User) × IsTreeEdit before actor own message edit
tree_edit before actor message edit proper is =
    let command = command_of message in
    let none = reasons_none (first_standing (reasons before actor message)) (first_lack before (needs_of before actor message))
    (first_standing (limits before command)) (outcome before actor command) is in
    let off = all_off (reasons before actor message) none in
    let (own, there) = here (session_of before.roster actor) (or_parts (is_gone before actor) (takes_no_edits before) off.0).0 in
    let (met, rest) = outcome_at (first_standing (reasons before actor message)) (first_lack before (needs_of before actor message))
    (first_standing (limits before command)) (outcome before actor command) edit is in
    let who = ap (λ (o : Option User). option_map_or (actor_from before.tree) o nobody) there in (
      own,
      record {
        there = there;
        fit = subst (FitsWhereAccepted before) is (accepted_fits before actor message proper);
        kind = kind_of before actor own message edit (not-false (names_there before.tree message) off.1.1.0)
            (subst (λ one. AllMet before (needs before.tree one command)) who (all_met_where before (needs_of before actor message) met)) rest;
      },
    )
  where
    reasons_none : (reason : Option Reason) (lack : Option Lack) (limit : Option DenyType) (rest : Verdict) → told reason lack limit rest ≡ Accepted edit → reason ≡ None
    reasons_none (Some reason) lack limit rest said = cc
    reasons_none None lack limit rest said = refl
