-- What a message on users asks for is what changes of sessions, and nothing else does.
use Rattle.mum_rights_laws.proofs.Common.{◌≡◌, ◌≢◌, ℕ, ◌==◌, ◌&&◌, ◌||◌, not, Bool, true, false, cond, List, Option, Some, None, refl, ap, sym, ◌∙◌, subst, ⊎_elim, inl, inr, ◌⊎◌, find, option_map, option_map_or, unwrap_or, and_from, eq-eqb, eqb-true, is_among, ChannelId, SessionId, ROOT, VoiceTarget, Authenticate, UserState, is_there, changed_user, edited, silence_after, listens, session_of, target_of, targeted, TargetRow, has_number, is_target, User, listens_as_told_lem, applied, set_by, StateValue, is_cleared, Edit, any_map, silent_after, silent_anew, channel, given_unless, channel_of, channels, clears_suppression, number_of_target, session_or, target_asked, tokens_kept, UserMessage, Join, Target, Changes, LogsInAgain, MayRuleSpeech, IsAbout, is_listed, IsAsAsked, LoginsRenewTokens, OtherTargetsStand, TheUnnamedStand, UserStatesAreDone, deaf_asked, mute_asked}
use Rattle.mum_rules_user.specs.Outcome.{edit_to_change}
use Rattle.mum_rights_laws.proofs.{Seated.goes, Seated.left_aims, Seated.seated, Seated.targeted_apart, Seated.was_there, SessionLaws.number_is, SessionLaws.suppressed_by, Settled.aims as aims_are, Settled.listening, Settled.same_session, UserKinds.IsUserKind, UserKinds.aims, UserKinds.change_of, UserKinds.changes, UserKinds.kicks, UserKinds.leaves, UserKinds.renews, UserKinds.says, UserKinds.user_edit}

-- ---- flags and the channel

silence_is : (mute deaf : Option Bool) (is_mute is_deaf : Bool)
    → ((silence_after mute deaf (record { mute = is_mute; deaf = is_deaf })).mute ≡ mute_asked mute deaf is_mute)
    × ((silence_after mute deaf (record { mute = is_mute; deaf = is_deaf })).deaf ≡ deaf_asked mute deaf is_deaf)
silence_is None None is_mute is_deaf = (refl, refl)
silence_is None (Some true) is_mute is_deaf = (refl, refl)
silence_is None (Some false) is_mute is_deaf = (refl, refl)
silence_is (Some true) None is_mute is_deaf = (refl, refl)
silence_is (Some true) (Some true) is_mute is_deaf = (refl, refl)
silence_is (Some true) (Some false) is_mute is_deaf = (refl, refl)
silence_is (Some false) None is_mute is_deaf = (refl, refl)
silence_is (Some false) (Some true) is_mute is_deaf = (refl, refl)
silence_is (Some false) (Some false) is_mute is_deaf = (refl, refl)

-- a channel that is given is the new one, also where it is the present one
placed_is : (given : Option ℕ) (was here : ChannelId) → here ≡ was
    → (unwrap_or (given_unless (λ (there : ChannelId). there.0 == here.0) (option_map channel given)) was).0 ≡ unwrap_or given was.0
placed_is None was here same = refl
placed_is (Some n) was here same = step (n == here.0) refl
  where
    step : (b : Bool) → (n == here.0) ≡ b → (unwrap_or (cond b None (Some (channel n))) was).0 ≡ n
    step true is = sym (eqb-true n here.0 is ∙ ap (λ (one : ChannelId). one.0) same)
    step false is = refl

-- ---- a UserState

module _ (before : StateValue) (actor : SessionId) (own : User) (by : own.session ≡ actor) (was : User) (found : session_of before.roster was.session ≡ Some was) (asked : UserState)
    (named : unwrap_or asked.session own.session.0 ≡ was.session.0) where
  number : (o : Option ℕ) → (session_or actor o).0 ≡ unwrap_or o own.session.0
  number None = ap (λ (one : SessionId). one.0) (sym by)
  number (Some n) = refl

  on : has_number (session_or actor asked.session) was ≡ true
  on = eq-eqb was.session.0 (session_or actor asked.session).0 (sym (number asked.session ∙ named))

  it : was.session ≡ session_or actor asked.session
  it = same_session was.session (session_or actor asked.session) on

  done : (silent : Bool) → (clears_suppression asked ≡ true → silent ≡ false)
      → IsAsAsked asked was (record (changed_user (change_of before.roster actor asked) was) { suppress = silent })
  done silent clears =
      let others = silence_is asked.mute asked.deaf was.mute was.deaf in
      let selves = silence_is asked.self_mute asked.self_deaf was.self_mute was.self_deaf in record {
        channel = placed_is asked.channel_id was.channel (channel_of before.roster (session_or actor asked.session))
            (ap (λ (o : Option User). option_map_or (λ user. user.channel) o ROOT) (ap (session_of before.roster) (sym it) ∙ found));
        mute = others.0;
        deaf = others.1;
        self_mute = selves.0;
        self_deaf = selves.1;
        priority = refl;
        recording = refl;
        comment = refl;
        context = refl;
        tokens = refl;
        speaks = λ said. clears (ap (λ (o : Option Bool). not (unwrap_or o true)) said);
      }

done_by : (before : StateValue) (actor : SessionId) (own : User) (tokens : List (List ℕ)) {message : UserMessage} {edit : Edit} → own.session ≡ actor
    → IsUserKind before actor own tokens message edit → (was : User) → session_of before.roster was.session ≡ Some was → (asked : UserState)
    → message ≡ Changes asked → unwrap_or asked.session own.session.0 ≡ was.session.0 → (silent : Bool) → (is_cleared edit (seated edit was) ≡ true → silent ≡ false)
    → IsAsAsked asked was (record (seated edit was) { suppress = silent })
    × ((one : ChannelId) → listens (set_by before edit).roster was.session one
    ≡ ((listens before.roster was.session one || is_listed asked.listening_channel_add one) && not (is_listed asked.listening_channel_remove one)))
done_by before actor own tokens by (renews login version) was found asked is named silent clears = cc
done_by before actor own tokens by (changes given may_so) was found asked is named silent clears =
    let same : given ≡ asked = cc in
    let named_given : unwrap_or given.session own.session.0 ≡ was.session.0 = ap (λ (one : UserState). unwrap_or one.session own.session.0) same ∙ named in
    let so = on before actor own by was found given named_given in
    let seat = ap (λ (b : Bool). cond b (changed_user (change_of before.roster actor given) was) was) so in
    subst (λ (one : UserState). IsAsAsked one was (record (cond (has_number (session_or actor given.session) was) (changed_user (change_of before.roster actor given) was) was) { suppress = silent })
    × ((there : ChannelId) → listens (edited before.roster (session_or actor given.session) (change_of before.roster actor given)) was.session there
    ≡ ((listens before.roster was.session there || is_listed one.listening_channel_add there) && not (is_listed one.listening_channel_remove there)))) same (
      subst (λ (user : User). IsAsAsked given was (record user { suppress = silent })) (sym seat)
          (done before actor own by was found given named_given silent (λ clear. clears
          (and_from (clears_suppression given) (has_number (session_or actor given.session) (seated (edit_to_change before.roster actor (session_or actor given.session) given) was)) clear
          (ap (λ (user : User). has_number (session_or actor given.session) user) seat ∙ so)))),
      λ there.
          let at = it before actor own by was found given named_given in
          ap (λ s. listens (edited before.roster s (change_of before.roster actor given)) was.session there) (sym at)
          ∙ listens_as_told_lem before.roster was.session (change_of before.roster actor given) there
          ∙ ap (λ (b : Bool). (listens before.roster was.session there || b) && not (is_among (channels given.listening_channel_remove) there))
          (any_map (λ (c : ChannelId). c.0 == there.0) (λ (n : ℕ). n == there.0) channel (λ n. refl) given.listening_channel_add)
          ∙ ap (λ (b : Bool). (listens before.roster was.session there || is_listed given.listening_channel_add there) && not b)
          (any_map (λ (c : ChannelId). c.0 == there.0) (λ (n : ℕ). n == there.0) channel (λ n. refl) given.listening_channel_remove),
    )
done_by before actor own tokens by (kicks given may_so) was found asked is named silent clears = cc
done_by before actor own tokens by (says given) was found asked is named silent clears = cc
done_by before actor own tokens by (aims given) was found asked is named silent clears = cc
done_by before actor own tokens by leaves was found asked is named silent clears = cc

some_is : (one other : User) → Some one ≡ Some other → one ≡ other
some_is one other same = cc

pub user_states_are_done_lem : UserStatesAreDone
user_states_are_done_lem before actor message edit proper accepted =
    let (own, tokens, all) = user_edit before actor message edit accepted in
    let by = number_is before actor own all.by.there in (
      own,
      tokens,
      all.by,
      λ session was now is found asked same named.
          let (one, there, row) = was_there before actor own tokens all.kind session now found in
          let it_is : one ≡ was = some_is one was (sym there ∙ is) in
          let known : session_of before.roster was.session ≡ Some was = ap (session_of before.roster) (number_is before session was is) ∙ is in
          let silent = silent_after before edit (set_by before edit) (seated edit was) in
          let (done_so, listened) = done_by before actor own tokens by all.kind was known asked same named silent
          (λ on. ap (λ (b : Bool). cond b false (silent_anew before edit (set_by before edit) (seated edit was))) on) in (
            subst (IsAsAsked asked was) (ap (λ (user : User). record (seated edit user) { suppress = silent_after before edit (set_by before edit) (seated edit user) }) (sym it_is) ∙ row.row)
                done_so,
            λ there_so. listening before edit was.session there_so ∙ ap (λ (b : Bool). b && is_there (applied before edit).tree.channels there_so) (listened there_so),
          ),
    )

-- ---- the others

unseated_by : (before : StateValue) (actor : SessionId) (own : User) (tokens : List (List ℕ)) {message : UserMessage} {edit : Edit} → own.session ≡ actor
    → IsUserKind before actor own tokens message edit → (was : User) → ¬ IsAbout own message was → ¬ LogsInAgain own message was → seated edit was ≡ was
unseated_by before actor own tokens by (renews login version) was other stays = step (has_number actor was) refl
  where
    step : (b : Bool) → has_number actor was ≡ b → cond b (record was { tokens = tokens_kept login.tokens }) was ≡ was
    step true on = absurd (stays (same_session was.session actor on ∙ sym by, (login, version, refl)))
    step false off = refl
unseated_by before actor own tokens by (changes asked may_so) was other stays = step (has_number (session_or actor asked.session) was) refl
  where
    named : (o : Option ℕ) → unwrap_or o own.session.0 ≡ (session_or actor o).0
    named None = ap (λ (one : SessionId). one.0) by
    named (Some n) = refl

    step : (b : Bool) → has_number (session_or actor asked.session) was ≡ b → cond b (changed_user (change_of before.roster actor asked) was) was ≡ was
    step true on = absurd (other (asked, refl, named asked.session ∙ sym (eqb-true was.session.0 (session_or actor asked.session).0 on)))
    step false off = refl
unseated_by before actor own tokens by (kicks asked may_so) was other stays = refl
unseated_by before actor own tokens by (says asked) was other stays = refl
unseated_by before actor own tokens by (aims asked) was other stays = refl
unseated_by before actor own tokens by leaves was other stays = refl

pub the_unnamed_stand_lem : TheUnnamedStand
the_unnamed_stand_lem before actor message edit proper accepted =
    let (own, tokens, all) = user_edit before actor message edit accepted in
    let by = number_is before actor own all.by.there in (
      own,
      tokens,
      all.by,
      λ session was now is found other stays.
          let (one, there, row) = was_there before actor own tokens all.kind session now found in
          let it_is : one ≡ was = some_is one was (sym there ∙ is) in
          let silent = silent_after before edit (set_by before edit) (seated edit one) in
          let plain : record was { suppress = silent } ≡ now =
          ap (λ (user : User). record user { suppress = silent }) (sym (ap (seated edit) it_is ∙ unseated_by before actor own tokens by all.kind was other stays)) ∙ row.row in
          let same : now.suppress ≡ was.suppress =
          ⊎_elim (λ (kept : now.suppress ≡ was.suppress). kept)
          (⊎_elim
          (λ (clear : (now.suppress ≡ false) × MayRuleSpeech before own tokens message was). absurd (other clear.1.0))
          (λ anew. ⊎_elim (λ (moved : now.channel ≢ was.channel). absurd (moved (sym (ap (λ (user : User). user.channel) plain)))) (λ again. absurd (stays again)) anew.1))
          (suppressed_by before actor own tokens message edit proper by (all.fit proper) all.kind session was now is found) in
          sym plain ∙ ap (λ (b : Bool). record was { suppress = b }) (ap (λ (user : User). user.suppress) plain ∙ same),
    )

renewed_by : (before : StateValue) (actor : SessionId) (own : User) (tokens : List (List ℕ)) {message : UserMessage} {edit : Edit} → own.session ≡ actor
    → IsUserKind before actor own tokens message edit → (was : User) → (login : Authenticate) (version : Option ℕ) → message ≡ Join login version → was.session ≡ own.session
    → seated edit was ≡ record was { tokens = tokens_kept login.tokens }
renewed_by before actor own tokens by (renews given at) was login version is mine =
    let same : given ≡ login = cc in
    ap (λ (b : Bool). cond b (record was { tokens = tokens_kept given.tokens }) was) (eq-eqb was.session.0 actor.0 (ap (λ (one : SessionId). one.0) (mine ∙ by)))
    ∙ ap (λ (one : Authenticate). record was { tokens = tokens_kept one.tokens }) same
renewed_by before actor own tokens by (changes asked may_so) was login version is mine = cc
renewed_by before actor own tokens by (kicks asked may_so) was login version is mine = cc
renewed_by before actor own tokens by (says asked) was login version is mine = cc
renewed_by before actor own tokens by (aims asked) was login version is mine = cc
renewed_by before actor own tokens by leaves was login version is mine = cc

pub logins_renew_tokens_lem : LoginsRenewTokens
logins_renew_tokens_lem before actor message edit proper accepted =
    let (own, tokens, all) = user_edit before actor message edit accepted in
    let by = number_is before actor own all.by.there in (
      own,
      tokens,
      all.by,
      λ session was now is found login version same mine.
          let (one, there, row) = was_there before actor own tokens all.kind session now found in
          let it_is : one ≡ was = some_is one was (sym there ∙ is) in
          let silent = silent_after before edit (set_by before edit) (seated edit one) in
          let plain : record was { tokens = tokens_kept login.tokens; suppress = silent } ≡ now =
          ap (λ (user : User). record user { suppress = silent }) (sym (ap (seated edit) it_is ∙ renewed_by before actor own tokens by all.kind was login version same mine)) ∙ row.row in
          sym plain ∙ ap (λ (b : Bool). record was { tokens = tokens_kept login.tokens; suppress = b }) (ap (λ (user : User). user.suppress) plain),
    )

targets_by : (before : StateValue) (actor : SessionId) (own : User) (tokens : List (List ℕ)) {message : UserMessage} {edit : Edit} → IsUserKind before actor own tokens message edit
    → (session : SessionId) → goes edit session ≡ false → (id : ℕ)
    → (target_of (set_by before edit).roster session id ≡ target_of before.roster session id)
    ⊎ ((asked : VoiceTarget) × (message ≡ Target asked) × (unwrap_or asked.id 0 ≡ id))
targets_by before actor own tokens (renews login version) session stays id = inl refl
targets_by before actor own tokens (changes asked may_so) session stays id = inl refl
targets_by before actor own tokens (kicks asked may_so) session stays id = inl (left_aims before.roster (session_or actor asked.session) session id stays)
targets_by before actor own tokens (says asked) session stays id = inl refl
targets_by before actor own tokens (aims asked) session stays id = step (number_of_target asked == id) refl
  where
    none : (b : Bool) → (b && false) ≡ false
    none true = refl
    none false = refl

    step : (b : Bool) → (number_of_target asked == id) ≡ b
        → (target_of (targeted before.roster actor (number_of_target asked) (target_asked asked)) session id ≡ target_of before.roster session id)
        ⊎ ((one : VoiceTarget) × (Target asked ≡ Target one) × (unwrap_or one.id 0 ≡ id))
    step true same = inr (asked, refl, eqb-true (number_of_target asked) id same)
    step false apart =
        inl (targeted_apart before.roster actor session id (number_of_target asked) (target_asked asked)
        (ap (λ (b : Bool). (actor.0 == session.0) && b) apart ∙ none (actor.0 == session.0)))
targets_by before actor own tokens leaves session stays id = inl (left_aims before.roster actor session id stays)

pub other_targets_stand_lem : OtherTargetsStand
other_targets_stand_lem before actor message edit proper accepted =
    let (own, tokens, all) = user_edit before actor message edit accepted in (
      own,
      tokens,
      all.by,
      λ session was now is found mine id.
          let (one, there, row) = was_there before actor own tokens all.kind session now found in
          let at : was.session ≡ session = number_is before session was is in
          ⊎_elim
          (λ (same : target_of (set_by before edit).roster was.session id ≡ target_of before.roster was.session id).
          inl (ap (λ rows. option_map (λ (one_row : TargetRow). one_row.target) (find (is_target was.session id) rows)) (aims_are before edit) ∙ same))
          (λ asked. inr asked)
          (targets_by before actor own tokens all.kind was.session (ap (goes edit) at ∙ row.stays) id),
    )
