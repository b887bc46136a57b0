-- What is there under a number that was given was there before.
use Rattle.mum_state.proofs.Common.{◌≡◌, ◌≤◌, ◌==◌, ℕ, true, List, [], ◌∷◌, refl, sym, ap, ◌∙◌, arith, IsTrue, list_any, eq-eqb, eqb-true, ChannelId, SessionId, Row, is_there, number, User, has_number, Edit, all_fit, led_to, applied, PresentWasPresent, StateValue}
use Rattle.mum_state.proofs.{Descent.Descends, Descent.applied_descends, Descent.set_descends, Each.Each, Each.each_any, Each.each_self, Each.each_so, Each.some_found, Numbers.last_rises, RowsStay.IsOfRows, RowsStay.rows_stay}

-- ---- sessions

module _ (first : StateValue) where
  -- a session with a number that was given was here
  abbrev WasHere : User → Type 0
  WasHere user = user.session.0 ≤ first.roster.last → list_any (has_number user.session) first.roster.sessions ≡ true

  here_descends : (edit : Edit) (last : ℕ) → first.roster.last ≤ last → Descends edit last WasHere WasHere
  here_descends edit last known = record {
    stays = λ was now same here given.
        ap (λ (session : SessionId). list_any (has_number session) first.roster.sessions) same.session
        ∙ here (let same_number : now.session.0 ≡ was.session.0 = ap (λ (s : SessionId). s.0) same.session in omega (arith, given, same_number));
    joins = λ now above given. absurd (omega (arith, known, above, given));
  }

  here_after : (state : StateValue) (edits : List Edit) → first.roster.last ≤ state.roster.last → Each WasHere state.roster.sessions → Each WasHere (led_to state edits).roster.sessions
  here_after state [] known all = all
  here_after state (edit ∷ edits) known all =
      let rises : state.roster.last ≤ (applied state edit).roster.last = last_rises state edit in
      here_after (applied state edit) edits (omega (arith, known, rises))
      (applied_descends WasHere (λ user on here. here) state edit
      (set_descends state WasHere WasHere all edit (here_descends edit state.roster.last known)))

  here_at_first : Each WasHere first.roster.sessions
  here_at_first =
      each_so (λ user. list_any (has_number user.session) first.roster.sessions ≡ true) WasHere (λ user here given. here) first.roster.sessions
      (each_self (λ user one. has_number user.session one) (λ user. eq-eqb user.session.0 user.session.0 refl) first.roster.sessions)

  session_was : (edits : List Edit) (session : SessionId) → session.0 ≤ first.roster.last → IsTrue (list_any (has_number session) (led_to first edits).roster.sessions)
      → IsTrue (list_any (has_number session) first.roster.sessions)
  session_was edits session given here =
      each_any WasHere (list_any (has_number session) first.roster.sessions ≡ true) (has_number session)
      (λ user was passes.
      let same : user.session.0 ≡ session.0 = eqb-true user.session.0 session.0 passes in
      let is : user.session ≡ session = ap (λ n. record { 0 = n }) same in
      ap (λ (one : SessionId). list_any (has_number one) first.roster.sessions) (sym is) ∙ was (omega (arith, given, same)))
      (led_to first edits).roster.sessions (here_after first edits (omega arith) here_at_first) here

  -- ---- channels

  -- a channel with a number that was given was there
  abbrev WasThere : Row → Type 0
  WasThere row = number row ≤ first.tree.greatest → is_there first.tree.channels row.channel.id ≡ true

  there_keeps : IsOfRows WasThere
  there_keeps row change same there given =
      ap (is_there first.tree.channels) same
      ∙ there (let same_number : change.id.0 ≡ row.channel.id.0 = ap (λ (id : ChannelId). id.0) same in omega (arith, given, same_number))

  there_at_first : Each WasThere first.tree.channels
  there_at_first =
      each_so (λ row. list_any (λ one. number one == number row) first.tree.channels ≡ true) WasThere
      (λ row there given. some_found (λ one. number one == number row) first.tree.channels ∙ there) first.tree.channels
      (each_self (λ row one. number one == number row) (λ row. eq-eqb (number row) (number row) refl) first.tree.channels)

  channel_was : (edits : List Edit) (channel : ChannelId) → IsTrue (all_fit first edits) → channel.0 ≤ first.tree.greatest
      → IsTrue (is_there (led_to first edits).tree.channels channel) → IsTrue (is_there first.tree.channels channel)
  channel_was edits channel fit given there =
      each_any WasThere (is_there first.tree.channels channel ≡ true) (λ row. number row == channel.0)
      (λ row was passes.
      let same : number row ≡ channel.0 = eqb-true (number row) channel.0 passes in
      let is : row.channel.id ≡ channel = ap (λ n. record { 0 = n }) same in
      ap (is_there first.tree.channels) (sym is) ∙ was (omega (arith, given, same)))
      (led_to first edits).tree.channels
      (rows_stay WasThere there_keeps first.tree.greatest (λ row above known. absurd (omega (arith, above, known))) first edits fit (omega arith) there_at_first)
      (sym (some_found (λ row. number row == channel.0) (led_to first edits).tree.channels) ∙ there)

pub present_was_present_lem : PresentWasPresent
present_was_present_lem state edits fit =
    (λ session given. session_was state edits session given, λ channel given. channel_was state edits channel fit given)
