-- What a message on channels changes of sessions.
use Rattle.mum_rights_laws.proofs.Common.{◌≡◌, ◌<◌, ◌≤◌, ◌==◌, ◌&&◌, ◌||◌, not, Bool, true, false, cond, List, [], ◌∷◌, Option, Some, None, refl, ap, sym, ◌∙◌, subst, arith, inl, inr, ⊎_elim, ◌⊎◌, find, list_any, is_some, option_map, option_map_or, and_parts, cases_Bool, eq-eqb, ChannelId, SessionId, parent_of, is_below, is_root, is_temporary, is_there, row_of, upward, without_subtree, Row, list_any-reverse, listens, session_of, has_number, is_pair, is_target, ListenerPair, TargetRow, User, applied, fits, sets_policy, sets_tokens_of, IsProper, moved_up, set_by, with_maker_in, StateValue, is_cleared, Edit, MakeChannel, RemoveChannel, each_find, each_passes, found_passes, there_without_subtree, fit_proper, there_known, heard, heard_after, silent_after, is_to_be_temporary, new_number, edit_to_make, TreeMessage, Remove, State, EntersWhatItMade, IsMovedUp, NobodyComesOrGoes, ResidentsAreHeard, ResidentsKeepTheirOwn, ResidentsStay, TheServerStays, IsSetAsBefore, AsksForPolicy}
use Rattle.mum_rights_laws.proofs.{Altered.above, Altered.made_comes, ChannelLaws.of_kinds, ChannelLaws.there_was, Kept.any_kept, Kept.found_mapped, Settled.aims as aims_are, Settled.found_as, Settled.gone_as, Settled.gone_from, Settled.lasting, Settled.listening, Settled.same_channel, Settled.same_session, Silenced.silenced, TreeKinds.IsKind, TreeKinds.changes, TreeKinds.makes, TreeKinds.removes, TreeKinds.rules, TreeKinds.tree_edit}

-- ---- rows

-- where an edit leaves a session
abbrev resettled : StateValue → Edit → User → User
resettled before (MakeChannel id parent name temporary info (Some maker)) user = cond temporary (cond (has_number maker user) (record user { channel = id }) user) user
resettled before (RemoveChannel id actor) user = moved_up before.tree id user
resettled before edit user = user

found_same : {X : Type 0} (o : Option X) → o ≡ option_map (λ x. x) o
found_same None = refl
found_same (Some x) = refl

maker_sessions : (state : StateValue) (id : ChannelId) (temporary : Bool) (maker session : SessionId)
    → session_of (with_maker_in state id temporary (Some maker)).roster session
    ≡ option_map (λ user. cond temporary (cond (has_number maker user) (record user { channel = id }) user) user) (session_of state.roster session)
maker_sessions state id false maker session = found_same (session_of state.roster session)
maker_sessions state id true maker session =
    found_mapped (has_number session) (λ user. cond (has_number maker user) (record user { channel = id }) user) (λ user. same user (has_number maker user)) state.roster.sessions
  where
    same : (user : User) (b : Bool) → has_number session (cond b (record user { channel = id }) user) ≡ has_number session user
    same user true = refl
    same user false = refl

moved_number : (before : StateValue) (top : ChannelId) (session : SessionId) (user : User) → has_number session (moved_up before.tree top user) ≡ has_number session user
moved_number before top session user = step (is_below before.tree.channels top user.channel)
  where
    step : (b : Bool) → has_number session (cond b (record user { channel = parent_of before.tree top }) user) ≡ has_number session user
    step true = refl
    step false = refl

some_is : {X : Type 0} (one other : X) → Some one ≡ Some other → one ≡ other
some_is one other same = cc

number_is : (state : StateValue) (session : SessionId) (user : User) → session_of state.roster session ≡ Some user → user.session ≡ session
number_is state session user found = same_session user.session session (found_passes (has_number session) state.roster.sessions user found)

either : {X : Type 0} (Holds : X → Type 0) (b : Bool) (one other : X) → (b ≡ true → Holds one) → Holds other → Holds (cond b one other)
either Holds true one other on off = on refl
either Holds false one other on off = off

module _ (before : StateValue) (actor : SessionId) (own : User) where
  sessions_set : {message : TreeMessage} {edit : Edit} → IsKind before actor own message edit → (session : SessionId)
      → session_of (set_by before edit).roster session ≡ option_map (resettled before edit) (session_of before.roster session)
  sessions_set (makes asked parent none named had_there) session = maker_sessions _ (new_number before.tree) (is_to_be_temporary asked) actor session
  sessions_set (changes asked id named met) session = found_same (session_of before.roster session)
  sessions_set (removes asked top named had_there) session =
      found_mapped (has_number session) (moved_up before.tree top) (moved_number before top session) before.roster.sessions
  sessions_set (rules asked id named had_there) session = found_same (session_of before.roster session)

  row_is : {message : TreeMessage} {edit : Edit} → IsKind before actor own message edit → (session : SessionId) (was now : User)
      → session_of before.roster session ≡ Some was → session_of (applied before edit).roster session ≡ Some now
      → heard (silent_after before edit (set_by before edit)) (resettled before edit was) ≡ now
  row_is {edit = edit} kind session was now is found =
      let (mid, set, same) = found_as before edit session now found in
      ap (heard (silent_after before edit (set_by before edit)))
      (some_is (resettled before edit was) mid (sym (ap (option_map (resettled before edit)) is) ∙ sym (sessions_set kind session) ∙ set)) ∙ same

  -- nothing of it is another but its channel
  settled_by : {message : TreeMessage} {edit : Edit} → IsKind before actor own message edit → (was : User)
      → resettled before edit was ≡ record was { channel = (resettled before edit was).channel }
  settled_by (makes asked parent none named had_there) was =
      either (λ (user : User). user ≡ record was { channel = user.channel }) (is_to_be_temporary asked) _ was
      (λ on. either (λ (user : User). user ≡ record was { channel = user.channel }) (has_number actor was) (record was { channel = new_number before.tree }) was (λ here. refl) refl) refl
  settled_by (changes asked id named met) was = refl
  settled_by (removes asked top named had_there) was =
      either (λ (user : User). user ≡ record was { channel = user.channel }) (is_below before.tree.channels top was.channel) (record was { channel = parent_of before.tree top }) was (λ on. refl) refl
  settled_by (rules asked id named had_there) was = refl

-- who is there is in a channel that is there
inside_after : (before : StateValue) (edit : Edit) → IsProper before → fits before edit ≡ true → (session : SessionId) (now : User)
    → session_of (applied before edit).roster session ≡ Some now → is_there (applied before edit).tree.channels now.channel ≡ true
inside_after before edit proper fit session now found =
    let rows = (applied before edit).tree.channels in
    (each_find (λ user. is_there rows user.channel ≡ true) (has_number session) (applied before edit).roster.sessions now
    (each_passes (λ user. is_there rows user.channel) (applied before edit).roster.sessions (fit_proper before edit proper fit).1.inside) found).0

-- ---- what sessions have beside their rows

maker_roster : (state : StateValue) (id : ChannelId) (temporary : Bool) (maker : SessionId)
    → ((with_maker_in state id temporary (Some maker)).roster.listeners ≡ state.roster.listeners) × ((with_maker_in state id temporary (Some maker)).roster.targets ≡ state.roster.targets)
maker_roster state id true maker = (refl, refl)
maker_roster state id false maker = (refl, refl)

absorbed : (l m a : Bool) → (a ≡ true → m ≡ true) → ((l && m) && a) ≡ (l && a)
absorbed false m a so = refl
absorbed true true a so = refl
absorbed true false true so = cc (so refl)
absorbed true false false so = refl

twice : (b : Bool) → not (not b) ≡ b
twice true = refl
twice false = refl

beside_by : (before : StateValue) (actor : SessionId) (own : User) {message : TreeMessage} {edit : Edit} → IsKind before actor own message edit → IsProper (set_by before edit)
    → (session : SessionId)
    → ((channel : ChannelId) → (listens (set_by before edit).roster session channel && is_there (applied before edit).tree.channels channel)
    ≡ (listens before.roster session channel && is_there (applied before edit).tree.channels channel))
    × ((set_by before edit).roster.targets ≡ before.roster.targets)
beside_by before actor own (makes asked parent none named had_there) proper session =
    let same = maker_roster _ (new_number before.tree) (is_to_be_temporary asked) actor in
    (λ channel. ap (λ pairs. list_any (is_pair session channel) pairs && is_there (applied before (edit_to_make before.tree actor asked)).tree.channels channel) same.0, same.1)
beside_by before actor own (changes asked id named met) proper session = (λ channel. refl, refl)
beside_by before actor own (removes asked top named had_there) proper session = (
  λ channel.
      let rows = (without_subtree before.tree top).channels in
      ap (λ (b : Bool). b && is_there (applied before (RemoveChannel top actor)).tree.channels channel)
      (any_kept (is_pair session channel) (λ (pair : ListenerPair). not (not (is_there rows pair.channel))) (is_there rows channel)
      (λ pair is. twice (is_there rows pair.channel) ∙ ap (is_there rows) (same_channel pair.channel channel (and_parts (pair.session.0 == session.0) (pair.channel.0 == channel.0) is).1))
      before.roster.listeners)
      ∙ absorbed (listens before.roster session channel) (is_there rows channel) (is_there (applied before (RemoveChannel top actor)).tree.channels channel)
      (there_was before (RemoveChannel top actor) proper channel),
  refl,
)
beside_by before actor own (rules asked id named had_there) proper session = (λ channel. refl, refl)

pub residents_keep_their_own_lem : ResidentsKeepTheirOwn
residents_keep_their_own_lem before actor message edit proper accepted =
    let (own, all) = tree_edit before actor message edit proper accepted in
    let fit = all.fit in
    let kind = all.kind in (
      own,
      all.there,
      λ session was now is found.
          let row = row_is before actor own kind session was now is found in
          let (listen, aim) = beside_by before actor own kind (fit_proper before edit proper fit).0 was.session in (
            subst (λ (user : User). user ≡ record was { channel = user.channel; suppress = user.suppress }) row
                (ap (λ (user : User). record user { suppress = silent_after before edit (set_by before edit) (resettled before edit was) }) (settled_by before actor own kind was)),
            inside_after before edit proper fit session now found,
            λ channel. listening before edit was.session channel ∙ listen channel,
            λ id. ap (λ rows. option_map (λ (one : TargetRow). one.target) (find (is_target was.session id) rows)) (aims_are before edit ∙ aim),
          ),
    )

-- ---- where they are

below_itself : (rows : List Row) (top : ChannelId) (row : Row) → row_of rows top ≡ Some row → is_below rows top top ≡ true
unfolding upward
below_itself rows top row found =
    let is_top : ChannelId → Bool = λ one. one.0 == top.0 in
    let up : Row → List ChannelId = λ one. cond (is_root top) [] (upward rows 32 one.channel.parent) in
    list_any-reverse is_top (upward rows 33 top)
    ∙ ap (λ (o : Option Row). list_any is_top (option_map_or (λ (one : Row). top ∷ up one) o [])) found
    ∙ ap (λ (b : Bool). b || list_any is_top (up row)) (eq-eqb top.0 top.0 refl)

removed_top : (before : StateValue) (top : ChannelId) → is_there (without_subtree before.tree top).channels top ≡ false
removed_top before top =
    there_without_subtree before.tree top top ∙ step (row_of before.tree.channels top) refl
  where
    step : (o : Option Row) → row_of before.tree.channels top ≡ o → (is_some o && not (is_below before.tree.channels top top)) ≡ false
    step None is = refl
    step (Some row) is = ap not (below_itself before.tree.channels top row is)

gone_after : (before : StateValue) (edit : Edit) → IsProper (set_by before edit) → (id : ChannelId) → is_there (set_by before edit).tree.channels id ≡ false
    → is_there (applied before edit).tree.channels id ≡ false
gone_after before edit proper id none =
    ⊎_elim
    (λ (on : is_there (applied before edit).tree.channels id ≡ true). let no : true ≡ false = sym (there_was before edit proper id on) ∙ none in cc)
    (λ (off : is_there (applied before edit).tree.channels id ≡ false). off)
    (cases_Bool (is_there (applied before edit).tree.channels id))

abbrev IsAt : StateValue → StateValue → User → TreeMessage → User → ChannelId → Type 0
IsAt before after own message was there =
    (there ≡ was.channel) ⊎ (IsMovedUp before after own message was there ⊎ EntersWhatItMade before after own was there)

stays_by : (before : StateValue) (actor : SessionId) (own : User) {message : TreeMessage} {edit : Edit} → own.session ≡ actor → IsKind before actor own message edit
    → IsProper before → fits before edit ≡ true → (was : User) → (is_there (applied before edit).tree.channels (resettled before edit was).channel ≡ true)
    → IsAt before (applied before edit) own message was (resettled before edit was).channel
stays_by before actor own by (makes asked parent none named had_there) proper fit was inside =
    into (is_to_be_temporary asked) (has_number actor was) refl refl inside
  where
    new : ChannelId
    new = new_number before.tree

    not_there : (o : Option Row) → row_of before.tree.channels new ≡ o → o ≡ None
    not_there None is = refl
    not_there (Some row) is =
        let high : before.tree.greatest < new.0 = above before actor asked fit in
        let known : new.0 ≤ before.tree.greatest = there_known before.tree new proper.tree (ap is_some is) in
        absurd (omega (arith, high, known))

    temporary_now : is_to_be_temporary asked ≡ true → (o : Option Row) → row_of (applied before (edit_to_make before.tree actor asked)).tree.channels new ≡ o → is_some o ≡ true
        → is_temporary (applied before (edit_to_make before.tree actor asked)).tree.channels new ≡ true
    temporary_now on None is some = cc
    temporary_now on (Some row) is some =
        let set = lasting before (edit_to_make before.tree actor asked) (fit_proper before (edit_to_make before.tree actor asked) proper fit).0 new row is in
        let (under, kind, number) = made_comes before actor asked new row (not_there (row_of before.tree.channels new) refl) set in
        ap (λ (o : Option Row). option_map_or (λ (one : Row). one.channel.temporary) o false) is ∙ kind ∙ on

    into : (t b : Bool) → is_to_be_temporary asked ≡ t → has_number actor was ≡ b
        → is_there (applied before (edit_to_make before.tree actor asked)).tree.channels (cond t (cond b (record was { channel = new }) was) was).channel ≡ true
        → IsAt before (applied before (edit_to_make before.tree actor asked)) own (State asked) was (cond t (cond b (record was { channel = new }) was) was).channel
    into false b kind mine there = inl refl
    into true false kind mine there = inl refl
    into true true kind mine there =
        inr (inr (
          same_session was.session actor mine ∙ sym by,
          ap is_some (not_there (row_of before.tree.channels new) refl),
          temporary_now kind (row_of (applied before (edit_to_make before.tree actor asked)).tree.channels new) refl there,
        ))
stays_by before actor own by (changes asked id named met) proper fit was inside = inl refl
stays_by before actor own by (removes asked top named had_there) proper fit was inside =
    out (is_below before.tree.channels top was.channel) refl
  where
    out : (b : Bool) → is_below before.tree.channels top was.channel ≡ b
        → IsAt before (applied before (RemoveChannel top actor)) own (Remove asked) was (cond b (record was { channel = parent_of before.tree top }) was).channel
    out true below =
        inr (inl (
          top,
          (asked, refl, named),
          had_there,
          below,
          gone_after before (RemoveChannel top actor) (fit_proper before (RemoveChannel top actor) proper fit).0 top (removed_top before top),
          refl,
        ))
    out false apart = inl refl
stays_by before actor own by (rules asked id named had_there) proper fit was inside = inl refl

pub residents_stay_lem : ResidentsStay
residents_stay_lem before actor message edit proper is =
    let (own, all) = tree_edit before actor message edit proper is in (
      own,
      all.there,
      λ session was now was_is found.
          let row = row_is before actor own all.kind session was now was_is found in
          let at : (resettled before edit was).channel ≡ now.channel = ap (λ (user : User). user.channel) row in
          subst (IsAt before (applied before edit) own message was) at
          (stays_by before actor own (number_is before actor own all.there) all.kind proper all.fit was
          (ap (is_there (applied before edit).tree.channels) at ∙ inside_after before edit proper all.fit session now found)),
    )

-- ---- whether they are heard

quiet_by : (before : StateValue) (actor : SessionId) (own : User) {message : TreeMessage} {edit : Edit} → IsKind before actor own message edit → (mid : User)
    → (is_cleared edit mid ≡ false) × (sets_tokens_of edit mid ≡ false) × (sets_policy edit ≡ true → (id : ChannelId) × AsksForPolicy message id)
quiet_by before actor own (makes asked parent none named had_there) mid = (refl, refl, λ on. cc)
quiet_by before actor own (changes asked id named met) mid = (refl, refl, λ on. cc)
quiet_by before actor own (removes asked top named had_there) mid = (refl, refl, λ on. cc)
quiet_by before actor own (rules asked id named had_there) mid = (refl, refl, λ on. (id, (asked, refl, named)))

pub residents_are_heard_lem : ResidentsAreHeard
residents_are_heard_lem before actor message edit proper accepted =
    let (own, all) = tree_edit before actor message edit proper accepted in
    let fit = all.fit in
    let kind = all.kind in (
      own,
      all.there,
      λ session was now is found.
          let mid = resettled before edit was in
          let plain = settled_by before actor own kind was in
          let (uncleared, no_tokens, policy) = quiet_by before actor own kind mid in
          ⊎_elim (λ (same : now.suppress ≡ was.suppress). inl same)
          (⊎_elim
          (λ (clear : (is_cleared edit mid ≡ true) × (now.suppress ≡ false)). let no : true ≡ false = sym clear.0 ∙ uncleared in cc)
          (λ anew. inr (
            anew.0,
            ⊎_elim (λ moved. inl moved)
                (⊎_elim (λ (tokens : sets_tokens_of edit mid ≡ true). let no : true ≡ false = sym tokens ∙ no_tokens in cc) (λ set. inr (policy set))) anew.1,
          )))
          (silenced before edit proper fit session was mid now is found (row_is before actor own kind session was now is found)
          (ap (λ (user : User). user.session) plain) (ap (λ (user : User). user.suppress) plain)),
    )

-- ---- who is there, and settings

none_mapped : (f : User → User) (o : Option User) → option_map f o ≡ None → o ≡ None
none_mapped f None is = refl
none_mapped f (Some user) is = cc

pub nobody_comes_or_goes_lem : NobodyComesOrGoes
nobody_comes_or_goes_lem before actor message edit proper accepted =
    let (own, all) = tree_edit before actor message edit proper accepted in
    let fit = all.fit in
    let kind = all.kind in (
      own,
      all.there,
      λ session. (
        λ gone. none_mapped (resettled before edit) (session_of before.roster session) (sym (sessions_set before actor own kind session) ∙ gone_as before edit session gone),
        λ none. gone_from before edit session (sessions_set before actor own kind session ∙ ap (option_map (resettled before edit)) none),
      ),
    )

record Stands (before set : StateValue) : Type 0 where
  server : set.server ≡ before.server
  accounts : set.accounts ≡ before.accounts
  limit : set.roster.limit ≡ before.roster.limit
  channels : set.tree.limit ≡ before.tree.limit

maker_stands : (state : StateValue) (id : ChannelId) (temporary : Bool) (maker : SessionId) → Stands state (with_maker_in state id temporary (Some maker))
maker_stands state id true maker = record { server = refl; accounts = refl; limit = refl; channels = refl }
maker_stands state id false maker = record { server = refl; accounts = refl; limit = refl; channels = refl }

stands_by : (before : StateValue) (actor : SessionId) (own : User) {message : TreeMessage} {edit : Edit} → IsKind before actor own message edit → Stands before (set_by before edit)
stands_by before actor own (makes asked parent none named had_there) =
    let same = maker_stands _ (new_number before.tree) (is_to_be_temporary asked) actor in
    record { server = same.server; accounts = same.accounts; limit = same.limit; channels = same.channels }
stands_by before actor own (changes asked id named met) = record { server = refl; accounts = refl; limit = refl; channels = refl }
stands_by before actor own (removes asked top named had_there) = record { server = refl; accounts = refl; limit = refl; channels = refl }
stands_by before actor own (rules asked id named had_there) = record { server = refl; accounts = refl; limit = refl; channels = refl }

pub the_server_stays_lem : TheServerStays
the_server_stays_lem =
    of_kinds (λ before after own message. IsSetAsBefore before after) (λ before actor own message edit proper kind fit.
    let stands = stands_by before actor own kind in
    let settled = heard_after before edit (set_by before edit) in record {
      server = ap (λ (s : StateValue). s.server) settled ∙ stands.server;
      accounts = ap (λ (s : StateValue). s.accounts) settled ∙ stands.accounts;
      sessions = ap (λ (s : StateValue). s.roster.limit) settled ∙ stands.limit;
      channels = ap (λ (s : StateValue). s.tree.limit) settled ∙ stands.channels;
    })
