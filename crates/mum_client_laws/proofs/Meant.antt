-- A text goes to nobody for whom it is not meant.
use Rattle.mum_client_laws.proofs.Common.{◌≡◌, ◌≢◌, ℕ, ◌==◌, ◌||◌, Bool, true, false, not, cond, List, [], ◌∷◌, map, Option, Some, None, refl, ap, sym, ◌∙◌, subst, inl, inr, ⊎_elim, All, Contains, filter, list_any, option_map_or, and_parts, both_ways, eq-eqb, eqb-true, false≢true, not-true, or_cases, append-nil, All-contains_itself, All-cons, All-filter, All-nil, All-weaker, is_among, ChannelId, SessionId, TEXT_MESSAGE, holds, is_below, User, SlotsRise-filter, perm_of, StateValue, Text, each_any, each_from_all, is_for, is_in_trees, is_named, may_text, text_parcels, text_told, same_channel, IsMeant, MayText, TextsGoToNobodyElse, notice_to}
use Rattle.mum_client_laws.proofs.{Framed.text_framed, Watching.same_session}

pub all_passing : {X : Type 0} (p : X → Bool) (xs : List X) → All (λ x. p x ≡ true) (filter p xs)
all_passing p [] = All-nil (λ x. p x ≡ true)
all_passing {X} p (x ∷ xs) = step (p x) refl (all_passing p xs)
  where
    step : (b : Bool) → p x ≡ b → All (λ y. p y ≡ true) (filter p xs) → All (λ y. p y ≡ true) (cond b (x ∷ filter p xs) (filter p xs))
    step true is rest = All-cons (λ y. p y ≡ true) x (filter p xs) is rest
    step false is rest = rest

-- one of a list that passes a test
passing : {X : Type 0} (p : X → Bool) (Q : Type 0) (xs : List X) → ((x : X) → Contains xs x → p x ≡ true → Q) → list_any p xs ≡ true → Q
passing p Q xs so some = each_any (Contains xs) Q p so xs (each_from_all (Contains xs) xs (All-contains_itself xs)) some

may_be_texted : (state : StateValue) (actor : SessionId) (channel : ChannelId) → may_text state actor channel ≡ true → MayText state actor channel
may_be_texted state actor channel may = step (perm_of state actor channel) refl may
  where
    step : (held : Option ℕ) → perm_of state actor channel ≡ held → option_map_or (λ all. holds all TEXT_MESSAGE.0) held false ≡ true → MayText state actor channel
    step None is on = absurd (false≢true on)
    step (Some held) is on = (held, is, on)

meant : (state : StateValue) (actor : SessionId) (sessions : List SessionId) (channels trees : List ChannelId) (user : User)
    → is_for state actor sessions channels trees user ≡ true → (user.session.0 ≢ actor.0) × IsMeant state actor sessions channels trees user
meant state actor sessions channels trees user is =
    let (other, for_it) = and_parts (not (user.session.0 == actor.0)) (is_named sessions user || is_among channels user.channel || is_in_trees state actor trees user) is in (
      λ (same : user.session.0 ≡ actor.0). both_ways (user.session.0 == actor.0) (not-true (user.session.0 == actor.0) other) (eq-eqb user.session.0 actor.0 same),
      ⊎_elim
          (λ (near : (is_named sessions user || is_among channels user.channel) ≡ true).
          ⊎_elim
          (λ (named : is_named sessions user ≡ true).
          inl (passing (λ (session : SessionId). session.0 == user.session.0) (Contains sessions user.session) sessions
          (λ session there same. subst (Contains sessions) (same_session session user.session same) there) named))
          (λ (among : is_among channels user.channel ≡ true).
          inr (inl (passing (λ (channel : ChannelId). channel.0 == user.channel.0) (Contains channels user.channel) channels
          (λ channel there same. subst (Contains channels) (same_channel channel user.channel (eqb-true channel.0 user.channel.0 same)) there) among)))
          (or_cases (is_named sessions user) (is_among channels user.channel) near))
          (λ (in_trees : is_in_trees state actor trees user ≡ true).
          let (below, may) = and_parts (list_any (λ top. is_below state.tree.channels top user.channel) trees) (may_text state actor user.channel) in_trees in
          inr (inr (passing (λ (top : ChannelId). is_below state.tree.channels top user.channel)
          ((top : ChannelId) × Contains trees top × (is_below state.tree.channels top user.channel ≡ true) × MayText state actor user.channel) trees
          (λ top there on. (top, there, on, may_be_texted state actor user.channel may)) below)))
          (or_cases (is_named sessions user || is_among channels user.channel) (is_in_trees state actor trees user) for_it),
    )

pub texts_go_to_nobody_else_lem : TextsGoToNobodyElse
texts_go_to_nobody_else_lem before after actor sessions channels trees text proper =
    let message = text_told actor sessions channels trees text in
    let receivers : List User = filter (is_for after actor sessions channels trees) after.roster.sessions in
    let here : All (λ user. Contains after.roster.sessions user) (filter (is_for after actor sessions channels trees) after.roster.sessions) =
    All-filter (is_for after actor sessions channels trees) (λ user. Contains after.roster.sessions user) after.roster.sessions (All-contains_itself after.roster.sessions) in
    let for_them : All (λ user. (user.session.0 ≢ actor.0) × IsMeant after actor sessions channels trees user) (filter (is_for after actor sessions channels trees) after.roster.sessions) =
    All-weaker (λ user. is_for after actor sessions channels trees user ≡ true) (λ user. (user.session.0 ≢ actor.0) × IsMeant after actor sessions channels trees user)
    (meant after actor sessions channels trees) (filter (is_for after actor sessions channels trees) after.roster.sessions)
    (all_passing (is_for after actor sessions channels trees) after.roster.sessions) in (
      message,
      refl,
      refl,
      receivers,
      SlotsRise-filter after.roster.limit (is_for after actor sessions channels trees) 0 after.roster.sessions proper.roster.slots,
      λ k d within. (here k d within, (for_them k d within).0, (for_them k d within).1),
      append-nil (text_parcels after (Text actor sessions channels trees text))
          ∙ ap (λ (bytes : List ℕ). map (notice_to bytes) receivers) (sym (text_framed message)),
    )
