-- What a message on users changes of sessions is permitted.
use Rattle.mum_rights_laws.proofs.Common.{◌≡◌, ◌≢◌, ℕ, ◌==◌, ◌||◌, not, Bool, true, false, cond, List, Option, Some, None, refl, ap, sym, ◌∙◌, subst, inl, inr, ⊎_elim, ◌⊎◌, is_some, option_map_or, unwrap_or, and_parts, both_ways, cases_Bool, eq-eqb, or_parts, AccountId, ChannelId, SessionId, SUPER_USER, ROOT, BAN, SPEAK, UserState, is_account, changed_user, silence_after, session_of, has_number, User, applied, fits, sets_policy, sets_tokens_of, IsProper, set_by, StateValue, is_cleared, Edit, Kicks, found_passes, silent_after, clears_suppression, is_oneself, new_channel, rules_speech, session_or, tokens_kept, UserMessage, Join, Changes, Leave, BansWherePermitted, GoesWherePermitted, IsKicked, NobodyComes, Enters, IsMoved, MovesArePermitted, may, LogsInAgain, MayRuleSpeech, SpeechIsRuledWherePermitted, SuppressionIsRuledWherePermitted, OfStaying, IsAbout, OfUserCommands}
use Rattle.mum_rights_laws.proofs.{Seated.goes, Seated.seated, Seated.was_there, Seated.went, Settled.same_session, Silenced.silenced, UserKinds.IsUserKind, UserKinds.MayChange, UserKinds.aims, UserKinds.change_of, UserKinds.changes, UserKinds.kicks, UserKinds.leaves, UserKinds.renews, UserKinds.says, UserKinds.user_edit}

-- ---- from what each edit makes of a row to what a law says

-- the row that is found has the number
pub number_is : (state : StateValue) (session : SessionId) (user : User) → session_of state.roster session ≡ Some user → user.session ≡ session
number_is state session user found = same_session user.session session (found_passes (has_number session) state.roster.sessions user found)

-- what is shown of each edit, where the edit fits, holds of each message
pub of_user : (Holds : StateValue → StateValue → User → List (List ℕ) → UserMessage → Type 0)
    → ((before : StateValue) (actor : SessionId) (own : User) (tokens : List (List ℕ)) (message : UserMessage) (edit : Edit) → IsProper before
    → own.session ≡ actor → fits before edit ≡ true → IsUserKind before actor own tokens message edit → Holds before (applied before edit) own tokens message)
    → OfUserCommands Holds
of_user Holds each before actor message edit proper is =
    let (own, tokens, all) = user_edit before actor message edit is in
    (own, tokens, all.by, each before actor own tokens message edit proper (number_is before actor own all.by.there) (all.fit proper) all.kind)

-- what is shown of what each edit makes of a row, however it is suppressed then, holds of each session that stays
pub of_rows : (Holds : StateValue → User → List (List ℕ) → UserMessage → User → User → Type 0)
    → ((before : StateValue) (actor : SessionId) (own : User) (tokens : List (List ℕ)) (message : UserMessage) (edit : Edit) → own.session ≡ actor
    → IsUserKind before actor own tokens message edit → (was : User) → session_of before.roster was.session ≡ Some was → (silent : Bool)
    → Holds before own tokens message was (record (seated edit was) { suppress = silent }))
    → OfUserCommands (λ before after own tokens message. OfStaying before after (Holds before own tokens message))
of_rows Holds each =
    of_user (λ before after own tokens message. OfStaying before after (Holds before own tokens message))
    (λ before actor own tokens message edit proper same fit kind session was now is found.
    let (one, there, row) = was_there before actor own tokens kind session now found in
    let it : one ≡ was = some_is one was (sym there ∙ is) in
    subst (Holds before own tokens message was) (ap (λ (user : User). record (seated edit user) { suppress = silent_after before edit (set_by before edit) (seated edit user) }) (sym it) ∙ row.row)
    (each before actor own tokens message edit same kind was (ap (session_of before.roster) (number_is before session was is) ∙ is)
    (silent_after before edit (set_by before edit) (seated edit was))))
  where
    some_is : (one other : User) → Some one ≡ Some other → one ≡ other
    some_is one other same = cc

pub if_so : {X : Type 0} (Holds : X → Type 0) (b : Bool) (one other : X) → (b ≡ true → Holds one) → Holds other → Holds (cond b one other)
if_so Holds true one other on off = on refl
if_so Holds false one other on off = off

pub none_given : {X : Type 0} (o : Option X) → is_some o ≡ false → o ≡ None
none_given None off = refl
none_given (Some x) off = cc

-- ---- whom a UserState is about

module _ (before : StateValue) (actor : SessionId) (own : User) (tokens : List (List ℕ)) (asked : UserState) (may_so : MayChange before actor tokens own asked)
    (by : own.session ≡ actor) (was : User) (found : session_of before.roster was.session ≡ Some was) (on : has_number (session_or actor asked.session) was ≡ true) where
  pub it_is : was.session ≡ session_or actor asked.session
  it_is = same_session was.session (session_or actor asked.session) on

  there : session_of before.roster (session_or actor asked.session) ≡ Some was
  there = ap (session_of before.roster) (sym it_is) ∙ found

  about : IsAbout own (Changes asked) was
  about = (asked, refl, named asked.session ∙ ap (λ (one : SessionId). one.0) (sym it_is))
    where
      named : (o : Option ℕ) → unwrap_or o own.session.0 ≡ (session_or actor o).0
      named None = ap (λ (one : SessionId). one.0) by
      named (Some n) = refl

  oneself : is_oneself actor (session_or actor asked.session) ≡ true → was.session ≡ own.session
  oneself same = it_is ∙ sym (same_session actor (session_or actor asked.session) same) ∙ sym by

  another : is_oneself actor (session_or actor asked.session) ≡ false → was.session ≢ own.session
  another other same =
      both_ways (is_oneself actor (session_or actor asked.session)) other
      (eq-eqb actor.0 (session_or actor asked.session).0 (ap (λ (one : SessionId). one.0) (sym by ∙ sym same ∙ it_is)))

  may_rule : rules_speech asked ≡ true → MayRuleSpeech before own tokens (Changes asked) was
  may_rule rules = (
    about,
    may_so.rules rules was there,
    λ account. oneself (may_so.spares rules
        (ap (λ (o : Option User). option_map_or (λ user. is_account user.account SUPER_USER) o false) there
        ∙ ap (λ (a : Option AccountId). is_account a SUPER_USER) account ∙ eq-eqb SUPER_USER.0 SUPER_USER.0 refl)),
  )

-- ---- moves

abbrev MovedTo : StateValue → User → List (List ℕ) → UserMessage → User → ChannelId → Type 0
MovedTo before own tokens message was channel =
    (channel ≡ was.channel) ⊎ (IsAbout own message was × (Enters before own tokens was channel ⊎ IsMoved before own tokens was channel))

moved_by : (before : StateValue) (actor : SessionId) (own : User) (tokens : List (List ℕ)) {message : UserMessage} {edit : Edit} → own.session ≡ actor
    → IsUserKind before actor own tokens message edit → (was : User) → session_of before.roster was.session ≡ Some was
    → MovedTo before own tokens message was (seated edit was).channel
moved_by before actor own tokens by (renews login version) was found =
    if_so (λ (user : User). MovedTo before own tokens (Join login version) was user.channel) (has_number actor was) (record was { tokens = tokens_kept login.tokens }) was (λ on. inl refl) (inl refl)
moved_by before actor own tokens by (changes asked may_so) was found =
    if_so (λ (user : User). MovedTo before own tokens (Changes asked) was user.channel) (has_number (session_or actor asked.session) was) (changed_user (change_of before.roster actor asked) was) was
    (λ on. to on (new_channel before.roster (session_or actor asked.session) asked) refl) (inl refl)
  where
    to : has_number (session_or actor asked.session) was ≡ true → (new : Option ChannelId) → new_channel before.roster (session_or actor asked.session) asked ≡ new
        → MovedTo before own tokens (Changes asked) was (unwrap_or new was.channel)
    to on None is = inl refl
    to on (Some new) is =
        inr (
          about before actor own tokens asked may_so by was found on,
          ⊎_elim
              (λ (same : is_oneself actor (session_or actor asked.session) ≡ true).
              inl (oneself before actor own tokens asked may_so by was found on same, may_so.enters same new is))
              (λ (other : is_oneself actor (session_or actor asked.session) ≡ false).
              let both = may_so.moves other was (there before actor own tokens asked may_so by was found on) new is in
              inr (another before actor own tokens asked may_so by was found on other, both.0, both.1))
              (cases_Bool (is_oneself actor (session_or actor asked.session))),
        )
moved_by before actor own tokens by (kicks asked may_so) was found = inl refl
moved_by before actor own tokens by (says asked) was found = inl refl
moved_by before actor own tokens by (aims asked) was found = inl refl
moved_by before actor own tokens by leaves was found = inl refl

pub moves_are_permitted_lem : MovesArePermitted
moves_are_permitted_lem =
    of_rows (λ before own tokens message was now. MovedTo before own tokens message was now.channel)
    (λ before actor own tokens message edit by kind was found silent. moved_by before actor own tokens by kind was found)

-- ---- who is heard

abbrev Ruled : StateValue → User → List (List ℕ) → UserMessage → User → User → Type 0
Ruled before own tokens message was now =
    ((now.mute ≡ was.mute) × (now.deaf ≡ was.deaf) × (now.priority ≡ was.priority)) ⊎ MayRuleSpeech before own tokens message was

ruled_by : (before : StateValue) (actor : SessionId) (own : User) (tokens : List (List ℕ)) {message : UserMessage} {edit : Edit} → own.session ≡ actor
    → IsUserKind before actor own tokens message edit → (was : User) → session_of before.roster was.session ≡ Some was
    → Ruled before own tokens message was (seated edit was)
ruled_by before actor own tokens by (renews login version) was found =
    if_so (Ruled before own tokens (Join login version) was) (has_number actor was) (record was { tokens = tokens_kept login.tokens }) was (λ on. inl (refl, refl, refl)) (inl (refl, refl, refl))
ruled_by before actor own tokens by (changes asked may_so) was found =
    if_so (Ruled before own tokens (Changes asked) was) (has_number (session_or actor asked.session) was) (changed_user (change_of before.roster actor asked) was) was
    (λ on. ⊎_elim
    (λ (rules : rules_speech asked ≡ true). inr (may_rule before actor own tokens asked may_so by was found on rules))
    (λ (none : rules_speech asked ≡ false). inl (unruled none))
    (cases_Bool (rules_speech asked)))
    (inl (refl, refl, refl))
  where
    unruled : rules_speech asked ≡ false
        → ((silence_after asked.mute asked.deaf (record { mute = was.mute; deaf = was.deaf })).mute ≡ was.mute)
        × ((silence_after asked.mute asked.deaf (record { mute = was.mute; deaf = was.deaf })).deaf ≡ was.deaf)
        × (unwrap_or asked.priority_speaker was.priority ≡ was.priority)
    unruled off =
        let (three, priority) = or_parts (is_some asked.mute || is_some asked.deaf || clears_suppression asked) (is_some asked.priority_speaker) off in
        let (two, clears) = or_parts (is_some asked.mute || is_some asked.deaf) (clears_suppression asked) three in
        let (mute, deaf) = or_parts (is_some asked.mute) (is_some asked.deaf) two in
        let same = ap (λ (o : Option Bool). silence_after o asked.deaf (record { mute = was.mute; deaf = was.deaf })) (none_given asked.mute mute)
        ∙ ap (λ (o : Option Bool). silence_after None o (record { mute = was.mute; deaf = was.deaf })) (none_given asked.deaf deaf) in
        (ap (λ s. s.mute) same, ap (λ s. s.deaf) same, ap (λ (o : Option Bool). unwrap_or o was.priority) (none_given asked.priority_speaker priority))
ruled_by before actor own tokens by (kicks asked may_so) was found = inl (refl, refl, refl)
ruled_by before actor own tokens by (says asked) was found = inl (refl, refl, refl)
ruled_by before actor own tokens by (aims asked) was found = inl (refl, refl, refl)
ruled_by before actor own tokens by leaves was found = inl (refl, refl, refl)

pub speech_is_ruled_where_permitted_lem : SpeechIsRuledWherePermitted
speech_is_ruled_where_permitted_lem =
    of_rows Ruled (λ before actor own tokens message edit by kind was found silent. ruled_by before actor own tokens by kind was found)

-- ---- suppression

clears_so : (mute deaf clears priority : Bool) → clears ≡ true → (mute || deaf || clears || priority) ≡ true
clears_so true deaf clears priority on = refl
clears_so false true clears priority on = refl
clears_so false false true priority on = refl
clears_so false false false priority on = cc

seated_keeps : (before : StateValue) (actor : SessionId) (own : User) (tokens : List (List ℕ)) {message : UserMessage} {edit : Edit}
    → IsUserKind before actor own tokens message edit → (was : User) → ((seated edit was).session ≡ was.session) × ((seated edit was).suppress ≡ was.suppress)
seated_keeps before actor own tokens (renews login version) was =
    if_so (λ (user : User). (user.session ≡ was.session) × (user.suppress ≡ was.suppress)) (has_number actor was) (record was { tokens = tokens_kept login.tokens }) was (λ on. (refl, refl)) (refl, refl)
seated_keeps before actor own tokens (changes asked may_so) was =
    if_so (λ (user : User). (user.session ≡ was.session) × (user.suppress ≡ was.suppress)) (has_number (session_or actor asked.session) was) (changed_user (change_of before.roster actor asked) was) was
    (λ on. (refl, refl)) (refl, refl)
seated_keeps before actor own tokens (kicks asked may_so) was = (refl, refl)
seated_keeps before actor own tokens (says asked) was = (refl, refl)
seated_keeps before actor own tokens (aims asked) was = (refl, refl)
seated_keeps before actor own tokens leaves was = (refl, refl)

cleared_by : (before : StateValue) (actor : SessionId) (own : User) (tokens : List (List ℕ)) {message : UserMessage} {edit : Edit} → own.session ≡ actor
    → IsUserKind before actor own tokens message edit → (was mid : User) → session_of before.roster was.session ≡ Some was → mid.session ≡ was.session
    → is_cleared edit mid ≡ true → MayRuleSpeech before own tokens message was
cleared_by before actor own tokens by (renews login version) was mid found number on = cc
cleared_by before actor own tokens by (changes asked may_so) was mid found number on =
    let (clears, here) = and_parts (clears_suppression asked) (has_number (session_or actor asked.session) mid) on in
    may_rule before actor own tokens asked may_so by was found (ap (λ (one : SessionId). one.0 == (session_or actor asked.session).0) (sym number) ∙ here)
    (clears_so (is_some asked.mute) (is_some asked.deaf) (clears_suppression asked) (is_some asked.priority_speaker) clears)
cleared_by before actor own tokens by (kicks asked may_so) was mid found number on = cc
cleared_by before actor own tokens by (says asked) was mid found number on = cc
cleared_by before actor own tokens by (aims asked) was mid found number on = cc
cleared_by before actor own tokens by leaves was mid found number on = cc

logged_in_by : (before : StateValue) (actor : SessionId) (own : User) (tokens : List (List ℕ)) {message : UserMessage} {edit : Edit} → own.session ≡ actor
    → IsUserKind before actor own tokens message edit → (was mid : User) → mid.session ≡ was.session
    → (sets_tokens_of edit mid ≡ true) ⊎ (sets_policy edit ≡ true) → LogsInAgain own message was
logged_in_by before actor own tokens by (renews login version) was mid number set =
    ⊎_elim
    (λ (on : has_number actor mid ≡ true). (sym number ∙ same_session mid.session actor on ∙ sym by, (login, version, refl)))
    (λ (on : false ≡ true). cc) set
logged_in_by before actor own tokens by (changes asked may_so) was mid number set = ⊎_elim (λ (on : false ≡ true). cc) (λ (on : false ≡ true). cc) set
logged_in_by before actor own tokens by (kicks asked may_so) was mid number set = ⊎_elim (λ (on : false ≡ true). cc) (λ (on : false ≡ true). cc) set
logged_in_by before actor own tokens by (says asked) was mid number set = ⊎_elim (λ (on : false ≡ true). cc) (λ (on : false ≡ true). cc) set
logged_in_by before actor own tokens by (aims asked) was mid number set = ⊎_elim (λ (on : false ≡ true). cc) (λ (on : false ≡ true). cc) set
logged_in_by before actor own tokens by leaves was mid number set = ⊎_elim (λ (on : false ≡ true). cc) (λ (on : false ≡ true). cc) set

abbrev pub Suppressed : StateValue → StateValue → User → List (List ℕ) → UserMessage → User → User → Type 0
Suppressed before after own tokens message was now =
    (now.suppress ≡ was.suppress)
    ⊎ (((now.suppress ≡ false) × MayRuleSpeech before own tokens message was)
    ⊎ ((now.suppress ≡ not (may after now SPEAK now.channel)) × ((now.channel ≢ was.channel) ⊎ LogsInAgain own message was)))

pub suppressed_by : (before : StateValue) (actor : SessionId) (own : User) (tokens : List (List ℕ)) (message : UserMessage) (edit : Edit) → IsProper before
    → own.session ≡ actor → fits before edit ≡ true → IsUserKind before actor own tokens message edit
    → OfStaying before (applied before edit) (Suppressed before (applied before edit) own tokens message)
suppressed_by before actor own tokens message edit proper by fit kind session was now is found =
    let (one, there_one, row) = was_there before actor own tokens kind session now found in
    let it : one ≡ was = some_is one was (sym there_one ∙ is) in
    let (number, suppress) = seated_keeps before actor own tokens kind one in
    let at : session_of before.roster was.session ≡ Some was = ap (session_of before.roster) (number_is before session was is) ∙ is in
    let mid = seated edit one in
    let same_number = number ∙ ap (λ (user : User). user.session) it in
    ⊎_elim
    (λ (same : now.suppress ≡ was.suppress). inl same)
    (⊎_elim
    (λ (clear : (is_cleared edit mid ≡ true) × (now.suppress ≡ false)).
    inr (inl (clear.1, cleared_by before actor own tokens by kind was mid at same_number clear.0)))
    (λ anew. inr (inr (anew.0, ⊎_elim (λ moved. inl moved) (λ set. inr (logged_in_by before actor own tokens by kind was mid same_number set)) anew.1))))
    (silenced before edit proper fit session was mid now is found row.row same_number (suppress ∙ ap (λ (user : User). user.suppress) it))
  where
    some_is : (one other : User) → Some one ≡ Some other → one ≡ other
    some_is one other same = cc

pub suppression_is_ruled_where_permitted_lem : SuppressionIsRuledWherePermitted
suppression_is_ruled_where_permitted_lem =
    of_user (λ before after own tokens message. OfStaying before after (Suppressed before after own tokens message)) suppressed_by

-- ---- who goes

went_by : (before : StateValue) (actor : SessionId) (own : User) (tokens : List (List ℕ)) {message : UserMessage} {edit : Edit} → own.session ≡ actor
    → IsUserKind before actor own tokens message edit → (was : User) → session_of before.roster was.session ≡ Some was → goes edit was.session ≡ true
    → ((was.session ≡ own.session) × (message ≡ Leave)) ⊎ IsKicked before own message was
went_by before actor own tokens by (renews login version) was found on = cc
went_by before actor own tokens by (changes asked may_so) was found on = cc
went_by before actor own tokens by (kicks asked may_so) was found on =
    let it : session_or actor asked.session ≡ was.session = same_session (session_or actor asked.session) was.session on in
    inr (
      (asked, refl, may_so.named ∙ ap (λ (n : ℕ). Some n) (sym (ap (λ (o : Option ℕ). (session_or actor o).0) may_so.named) ∙ ap (λ (one : SessionId). one.0) it)),
      may_so.kicks,
      λ account. sym it ∙ sym (same_session actor (session_or actor asked.session) (may_so.spares
          (ap (λ (o : Option User). option_map_or (λ user. is_account user.account SUPER_USER) o false) (ap (session_of before.roster) it ∙ found)
          ∙ ap (λ (a : Option AccountId). is_account a SUPER_USER) account ∙ eq-eqb SUPER_USER.0 SUPER_USER.0 refl))) ∙ sym by,
    )
went_by before actor own tokens by (says asked) was found on = cc
went_by before actor own tokens by (aims asked) was found on = cc
went_by before actor own tokens by leaves was found on = inl (sym (same_session actor was.session on) ∙ sym by, refl)

pub goes_where_permitted_lem : GoesWherePermitted
goes_where_permitted_lem before actor message edit proper accepted =
    let (own, tokens, all) = user_edit before actor message edit accepted in
    let by = number_is before actor own all.by.there in
    let fit = all.fit proper in
    let kind = all.kind in (
      own,
      tokens,
      all.by,
      λ session was is gone.
          let number = number_is before session was is in
          went_by before actor own tokens by kind was (ap (session_of before.roster) number ∙ is)
          (ap (goes edit) number ∙ went before actor own tokens kind session was is gone),
    )

pub nobody_comes_lem : NobodyComes
nobody_comes_lem before actor message edit proper accepted =
    let (own, tokens, all) = user_edit before actor message edit accepted in
    let by = number_is before actor own all.by.there in
    let fit = all.fit proper in
    let kind = all.kind in (
      own,
      tokens,
      all.by,
      λ session now found.
          let (was, is, row) = was_there before actor own tokens kind session now found in (was, is),
    )

abbrev bans_in : Edit → Bool
bans_in (Kicks session by reason ban) = ban
bans_in edit = false

banned_by : (before : StateValue) (actor : SessionId) (own : User) (tokens : List (List ℕ)) {message : UserMessage} {edit : Edit}
    → IsUserKind before actor own tokens message edit → bans_in edit ≡ true → may before own BAN ROOT ≡ true
banned_by before actor own tokens (renews login version) ban = cc
banned_by before actor own tokens (changes asked may_so) ban = cc
banned_by before actor own tokens (kicks asked may_so) ban = may_so.bans ban
banned_by before actor own tokens (says asked) ban = cc
banned_by before actor own tokens (aims asked) ban = cc
banned_by before actor own tokens leaves ban = cc

pub bans_where_permitted_lem : BansWherePermitted
bans_where_permitted_lem before actor message session by reason is =
    let (own, tokens, all) = user_edit before actor message (Kicks session by reason true) is in
    (own, all.by.there, banned_by before actor own tokens all.kind refl)
