-- Whether a session is suppressed changes only where an edit clears it or sets it again.
use Rattle.mum_rights_laws.proofs.Common.{◌≡◌, ◌≢◌, ◌==◌, ◌&&◌, ◌||◌, not, Bool, true, false, cond, Some, refl, ap, sym, ◌∙◌, inl, inr, ⊎_elim, ◌⊎◌, list_any, and_from, both_ways, cases_Bool, eq-eqb, not-true, SessionId, SPEAK, is_there, session_of, has_number, is_in, User, applied, fits, sets_policy, sets_tokens_of, may_speak, IsProper, set_by, StateValue, is_cleared, is_newcomer, is_set_anew, Edit, SetTokens, each_find, each_passes, passing_any, fit_proper, suppressed_where_silent_lem, heard, silent_after, silent_anew, may}

tokens_heard : (edit : Edit) (silent : User → Bool) (user : User) → sets_tokens_of edit (heard silent user) ≡ sets_tokens_of edit user
tokens_heard (SetTokens session tokens) silent user = refl
tokens_heard edit silent user = refl

-- the edit sets it again: the session is in another channel, its tokens are set, or a policy is
abbrev pub IsAnew : Edit → User → User → User → Type 0
IsAnew edit was mid now = (now.channel ≢ was.channel) ⊎ ((sets_tokens_of edit mid ≡ true) ⊎ (sets_policy edit ≡ true))

-- it is suppressed as it was, or cleared, or where it may not speak
abbrev pub IsSilenced : Edit → StateValue → User → User → User → Type 0
IsSilenced edit after was mid now =
    (now.suppress ≡ was.suppress)
    ⊎ (((is_cleared edit mid ≡ true) × (now.suppress ≡ false))
    ⊎ ((now.suppress ≡ not (may after now SPEAK now.channel)) × IsAnew edit was mid now))

module _ (before : StateValue) (edit : Edit) (proper : IsProper before) (fit : fits before edit ≡ true) (session : SessionId) (was mid now : User)
    (is : session_of before.roster session ≡ Some was) (found : session_of (applied before edit).roster session ≡ Some now)
    (same : heard (silent_after before edit (set_by before edit)) mid ≡ now) (number : mid.session ≡ was.session) (suppress : mid.suppress ≡ was.suppress) where
  -- who is in the same channel is no newcomer there
  elsewhere : is_newcomer before.roster.sessions mid ≡ true → now.channel ≢ was.channel
  elsewhere on place =
      let here : mid.channel ≡ was.channel = ap (λ (user : User). user.channel) same ∙ place in
      let known : (has_number mid.session was && is_in mid.channel was) ≡ true =
      and_from (was.session.0 == mid.session.0) (was.channel.0 == mid.channel.0)
      (eq-eqb was.session.0 mid.session.0 (ap (λ (one : SessionId). one.0) (sym number)))
      (eq-eqb was.channel.0 mid.channel.0 (ap (λ c. c.0) (sym here))) in
      both_ways (list_any (λ one. has_number mid.session one && is_in mid.channel one) before.roster.sessions)
      (not-true (list_any (λ one. has_number mid.session one && is_in mid.channel one) before.roster.sessions) on)
      (passing_any (has_number session) (λ one. has_number mid.session one && is_in mid.channel one) before.roster.sessions was known is)

  why : is_set_anew before.roster.sessions edit mid ≡ true → IsAnew edit was mid now
  why on =
      ⊎_elim
      (λ (policy : sets_policy edit ≡ true). inr (inr policy))
      (λ (none : sets_policy edit ≡ false). ⊎_elim
      (λ (tokens : sets_tokens_of edit mid ≡ true). inr (inl tokens))
      (λ (no_tokens : sets_tokens_of edit mid ≡ false). inl (elsewhere (first (is_newcomer before.roster.sessions mid) (sets_tokens_of edit mid) (sets_policy edit) on no_tokens none)))
      (cases_Bool (sets_tokens_of edit mid)))
      (cases_Bool (sets_policy edit))
    where
      first : (a b c : Bool) → ((a || b) || c) ≡ true → b ≡ false → c ≡ false → a ≡ true
      first true b c on one two = refl
      first false true c on one two = cc
      first false false true on one two = cc
      first false false false on one two = on

  speaks : not (may_speak (applied before edit) now) ≡ not (may (applied before edit) now SPEAK now.channel)
  speaks =
      let rows = (applied before edit).tree.channels in
      let inside = (each_find (λ user. is_there rows user.channel ≡ true) (has_number session) (applied before edit).roster.sessions now
      (each_passes (λ user. is_there rows user.channel) (applied before edit).roster.sessions (fit_proper before edit proper fit).1.inside) found).0 in
      ap (λ (b : Bool). not (b && may_speak (applied before edit) now)) (sym inside)

  anew_now : is_set_anew before.roster.sessions edit now ≡ is_set_anew before.roster.sessions edit mid
  anew_now =
      ap (is_set_anew before.roster.sessions edit) (sym same)
      ∙ ap (λ (b : Bool). (is_newcomer before.roster.sessions mid || b) || sets_policy edit) (tokens_heard edit (silent_after before edit (set_by before edit)) mid)

  pub silenced : IsSilenced edit (applied before edit) was mid now
  silenced = cleared (is_cleared edit mid) refl
    where
      value : now.suppress ≡ cond (is_cleared edit mid) false (silent_anew before edit (set_by before edit) mid)
      value = sym (ap (λ (user : User). user.suppress) same)

      anew : (b : Bool) → is_set_anew before.roster.sessions edit mid ≡ b → is_cleared edit mid ≡ false → IsSilenced edit (applied before edit) was mid now
      anew true on off =
          inr (inr (
            suppressed_where_silent_lem before edit session now proper fit found (anew_now ∙ on) (ap (is_cleared edit) (sym same) ∙ off) ∙ speaks,
            why on,
          ))
      anew false on off =
          inl (value ∙ ap (λ (b : Bool). cond b false (silent_anew before edit (set_by before edit) mid)) off
          ∙ ap (λ (b : Bool). cond b (not (may_speak (set_by before edit) mid)) mid.suppress) on ∙ suppress)

      cleared : (b : Bool) → is_cleared edit mid ≡ b → IsSilenced edit (applied before edit) was mid now
      cleared true on = inr (inl (on, value ∙ ap (λ (b : Bool). cond b false (silent_anew before edit (set_by before edit) mid)) on))
      cleared false off = anew (is_set_anew before.roster.sessions edit mid) refl off
