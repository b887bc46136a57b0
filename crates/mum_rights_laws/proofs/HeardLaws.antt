-- Whoever hears a packet is at a channel that it is aimed at, where the lists give the speaker what it needs.
use Rattle.mum_rights_laws.proofs.Common.{◌≡◌, ℕ, zero, suc, ◌&&◌, Bool, true, false, cond, List, [], ◌∷◌, ◌++◌, Option, Some, None, refl, ap, sym, ◌∙◌, subst, arith, inl, inr, ⊎_elim, ◌⊎◌, Contains, filter, option_map, option_map_or, ne_eqb, All-contains, ChannelId, SessionId, Perm, LISTEN, SPEAK, WHISPER, IsPermission, holds, is_there, path, below, linked, session_of, target_of, TargetItem, User, actor_from, granted_to, IsProper, StateValue, policy_of, Context, TALK, code, cover, spread, is_in_group, may_in_route, IsItemContext, IsTalkContext, Listens, Member, by_items, by_talk, items_of, route, each_hearing, found_number, found_own, item_context, kept_from, talk_context, HasByLists, IsAimedAt, IsAt, IsGrantedIn, TalkIsHeardByLists, WhispersAreHeardByLists, may}
use Rattle.mum_users.specs.declared.target.Target.{Target}
use Rattle.mum_rights_laws.proofs.GrantedLast.{rights_are_by_lists_lem}

-- ---- lists

none_within : {X : Type 0} (x : X) → Contains [] x → ⊥
none_within x (k, within, at) = absurd (omega arith)

first_or_rest : {X : Type 0} (first x : X) (xs : List X) → Contains (first ∷ xs) x → (first ≡ x) ⊎ Contains xs x
first_or_rest first x xs (zero, within, at) = inl at
first_or_rest first x xs (suc k, within, at) = inr (k, omega arith, at)

one_or_other : {X : Type 0} (xs ys : List X) (x : X) → Contains (xs ++ ys) x → Contains xs x ⊎ Contains ys x
one_or_other [] ys x has = inr has
one_or_other (first ∷ xs) ys x has =
    ⊎_elim
    (λ (here : first ≡ x). inl (zero, omega arith, here))
    (λ (later : Contains (xs ++ ys) x).
    ⊎_elim (λ (among : Contains xs x). inl (suc among.0, omega (arith, among.1), among.2)) (λ (among : Contains ys x). inr among) (one_or_other xs ys x later))
    (first_or_rest first x (xs ++ ys) has)

if_listed : {X : Type 0} (b : Bool) (xs : List X) (x : X) → Contains (cond b xs []) x → (b ≡ true) × Contains xs x
if_listed true xs x has = (refl, has)
if_listed false xs x has = absurd (none_within x has)

-- ---- what the route asks is a permission

may_so : (state : StateValue) (session : SessionId) (user : User) (perm : Perm) (channel : ChannelId) → session_of state.roster session ≡ Some user
    → may_in_route state session perm channel ≡ may state user perm channel
may_so state session user perm channel found =
    ap (λ (o : Option User). option_map_or (λ held. holds held perm.0)
    (option_map (λ who. granted_to state who channel) (cond (is_there state.tree.channels channel) (option_map (actor_from state.tree) o) None)) false) found
    ∙ step (is_there state.tree.channels channel)
  where
    step : (there : Bool) → option_map_or (λ held. holds held perm.0)
        (option_map (λ who. granted_to state who channel) (cond there (Some (actor_from state.tree user)) None)) false
        ≡ (there && holds (granted_to state (actor_from state.tree user) channel) perm.0)
    step true = refl
    step false = refl

module _ (state : StateValue) (proper : IsProper state) where
  has_by_lists : (session : SessionId) (user : User) (perm : Perm) (channel : ChannelId) → session_of state.roster session ≡ Some user → IsPermission perm.0
      → may_in_route state session perm channel ≡ true → HasByLists (policy_of state) (path state.tree.channels channel) (actor_from state.tree user) perm.0
  has_by_lists session user perm channel found is had =
      rights_are_by_lists_lem state user user.tokens perm channel proper is (sym (may_so state session user perm channel found) ∙ had)

  -- neither Speak nor Whisper is brought by Write
  speaks : (session : SessionId) (user : User) (channel : ChannelId) → session_of state.roster session ≡ Some user
      → may_in_route state session SPEAK channel ≡ true → IsGrantedIn state user SPEAK channel
  speaks session user channel found had =
      ⊎_elim (λ (granted : IsGrantedIn state user SPEAK channel). granted) (λ brought. absurd (brought.0.0 refl))
      (has_by_lists session user SPEAK channel found (3, omega arith, refl) had).1

  whispers : (session : SessionId) (user : User) (channel : ChannelId) → session_of state.roster session ≡ Some user
      → may_in_route state session WHISPER channel ≡ true → IsGrantedIn state user WHISPER channel
  whispers session user channel found had =
      ⊎_elim (λ (granted : IsGrantedIn state user WHISPER channel). granted) (λ brought. absurd (brought.0.1 refl))
      (has_by_lists session user WHISPER channel found (8, omega arith, refl) had).1

  listening_at : (user : User) (channel : ChannelId) → session_of state.roster user.session ≡ Some user → Listens state user channel → IsAt state user channel
  listening_at user channel found (pair, had) = inr (pair, has_by_lists user.session user LISTEN channel found (11, omega arith, refl) had)

  -- ---- talk

  abbrev HearsTalk : SessionId → Member → Type 0
  HearsTalk speaker member =
      (own : User) × (user : User) × (channel : ChannelId)
      × (session_of state.roster speaker ≡ Some own) × (session_of state.roster member.0 ≡ Some user)
      × Contains (linked state.tree own.channel) channel × IsGrantedIn state own SPEAK channel × IsAt state user channel

  talk_heard : (speaker : SessionId) (own user : User) (context : Context) → session_of state.roster speaker ≡ Some own → session_of state.roster user.session ≡ Some user
      → own.session ≡ speaker → IsTalkContext state own user (code context) → HearsTalk speaker (user.session, code context)
  talk_heard speaker own user context found there number (inl (is, among)) =
      let (reached, had) = kept_from (may_in_route state own.session SPEAK) (linked state.tree own.channel) user.channel among in
      (own, user, user.channel, found, there, reached, speaks own.session own user.channel (ap (session_of state.roster) number ∙ found) had, inl refl)
  talk_heard speaker own user context found there number (inr (is, outside, (channel, among, listens))) =
      let (reached, had) = kept_from (may_in_route state own.session SPEAK) (linked state.tree own.channel) channel among in
      (own, user, channel, found, there, reached, speaks own.session own channel (ap (session_of state.roster) number ∙ found) had, listening_at user channel there listens)

  -- ---- voice targets

  abbrev HearsWhisper : SessionId → ℕ → Member → Type 0
  HearsWhisper speaker target member =
      (own : User) × (user : User) × (set : Target) × (item : TargetItem) × (channel : ChannelId)
      × (session_of state.roster speaker ≡ Some own) × (session_of state.roster member.0 ≡ Some user)
      × (target_of state.roster speaker target ≡ Some set) × Contains set.items item
      × IsGrantedIn state own WHISPER channel
      × ((Contains item.sessions member.0 × (user.channel ≡ channel))
      ⊎ (IsAimedAt state.tree item channel × (is_in_group state item.group channel user ≡ true) × IsAt state user channel))

  -- what an item covers it is aimed at, and the speaker may whisper there
  covered : (own : User) (item : TargetItem) (channel : ChannelId) → Contains (cover state own item) channel
      → IsAimedAt state.tree item channel × (may_in_route state own.session WHISPER channel ≡ true)
  covered own item channel has = by_channel item.channel refl has
    where
      aimed : (top : ChannelId) → item.channel ≡ Some top → Contains (spread state.tree item.links item.children top) channel → IsAimedAt state.tree item channel
      aimed top is among = (
        top,
        is,
        ⊎_elim (λ (here : top ≡ channel). inl (sym here))
            (λ (later : Contains (cond item.links (linked state.tree top) [] ++ cond item.children (below state.tree top) []) channel).
            inr (⊎_elim (λ links. inl (if_listed item.links (linked state.tree top) channel links)) (λ children. inr (if_listed item.children (below state.tree top) channel children))
            (one_or_other (cond item.links (linked state.tree top) []) (cond item.children (below state.tree top) []) channel later)))
            (first_or_rest top channel (cond item.links (linked state.tree top) [] ++ cond item.children (below state.tree top) []) among),
      )

      by_there : (b : Bool) (xs : List ChannelId) → Contains (cond b xs []) channel → Contains xs channel
      by_there b xs there = (if_listed b xs channel there).1

      by_channel : (o : Option ChannelId) → item.channel ≡ o
          → Contains (option_map_or (λ top. cond (is_there state.tree.channels top) (filter (may_in_route state own.session WHISPER) (spread state.tree item.links item.children top)) []) o []) channel
          → IsAimedAt state.tree item channel × (may_in_route state own.session WHISPER channel ≡ true)
      by_channel None is among = absurd (none_within channel among)
      by_channel (Some top) is among =
          let all = spread state.tree item.links item.children top in
          let (spreads, had) = kept_from (may_in_route state own.session WHISPER) all channel
          (by_there (is_there state.tree.channels top) (filter (may_in_route state own.session WHISPER) all) among) in
          (aimed top is spreads, had)

  set_of : (o : Option Target) (item : TargetItem) → Contains (option_map_or (λ (set : Target). set.items) o []) item → (set : Target) × (o ≡ Some set) × Contains set.items item
  set_of None item has = absurd (none_within item has)
  set_of (Some set) item has = (set, refl, has)

  whisper_heard : (speaker : SessionId) (target : ℕ) (own user : User) (context : Context) → session_of state.roster speaker ≡ Some own
      → session_of state.roster user.session ≡ Some user → own.session ≡ speaker
      → IsItemContext state own (items_of state speaker target) user (code context) → HearsWhisper speaker target (user.session, code context)
  whisper_heard speaker target own user context found there number (inl (is, (item, has, among, grouped))) =
      let (set, is_set, listed) = set_of (target_of state.roster speaker target) item has in
      let (aimed, had) = covered own item user.channel among in (
        own,
        user,
        set,
        item,
        user.channel,
        found,
        there,
        is_set,
        listed,
        whispers own.session own user.channel (ap (session_of state.roster) number ∙ found) had,
        inr (aimed, grouped, inl refl),
      )
  whisper_heard speaker target own user context found there number (inr (inl (is, outside, (item, has, named, had)))) =
      let (set, is_set, listed) = set_of (target_of state.roster speaker target) item has in (
        own,
        user,
        set,
        item,
        user.channel,
        found,
        there,
        is_set,
        listed,
        whispers own.session own user.channel (ap (session_of state.roster) number ∙ found) had,
        inl (named, refl),
      )
  whisper_heard speaker target own user context found there number (inr (inr (is, outside, unnamed, (item, channel, has, among, grouped, listens)))) =
      let (set, is_set, listed) = set_of (target_of state.roster speaker target) item has in
      let (aimed, had) = covered own item channel among in (
        own,
        user,
        set,
        item,
        channel,
        found,
        there,
        is_set,
        listed,
        whispers own.session own channel (ap (session_of state.roster) number ∙ found) had,
        inr (aimed, grouped, listening_at user channel there listens),
      )

pub talk_is_heard_by_lists_lem : TalkIsHeardByLists
talk_is_heard_by_lists_lem state speaker hearer context proper has =
    All-contains (HearsTalk state proper speaker) (route state speaker TALK) (hearer, context)
    (each_hearing state speaker TALK (HearsTalk state proper speaker) (λ never. absurd (cc))
    (λ own user one is. talk_heard state proper speaker own user one is.found (found_own state user proper is.there)
    (found_number state.roster.sessions speaker own is.found) (talk_context state own user one is.is))) has

pub whispers_are_heard_by_lists_lem : WhispersAreHeardByLists
whispers_are_heard_by_lists_lem state speaker hearer target context proper talks loops has =
    All-contains (HearsWhisper state proper speaker target) (route state speaker target) (hearer, context)
    (each_hearing state speaker target (HearsWhisper state proper speaker target) loops
    (λ own user one is.
    let number = found_number state.roster.sessions speaker own is.found in
    let to_items = ap (λ (b : Bool). cond b (by_talk state own user) (by_items state own (items_of state own.session target) user)) (ne_eqb target 0 talks) in
    whisper_heard state proper speaker target own user one is.found (found_own state user proper is.there) number
    (subst (λ (s : SessionId). IsItemContext state own (items_of state s target) user (code one)) number
    (item_context state own user (items_of state own.session target) one (sym to_items ∙ is.is))))) has
