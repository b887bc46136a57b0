-- Who is heard again is suppressed exactly where it may not speak in the state after the edit.
use Rattle.mum_state.proofs.Common.{◌≡◌, ℕ, ◌==◌, ◌||◌, not, Bool, true, false, cond, List, [], ◌∷◌, map, reverse, refl, sym, ap, subst, ◌∙◌, Some, filter, find, option_map, and_parts, both_ways, eqb-true, ChannelId, SPEAK, holds, perm, Row, IsProperTree, is_there, path, without_rows, path_leads, User, has_number, Edit, SetTokens, applied, without_emptied, sets_policy, sets_tokens_of, SuppressedWhereSilent, actor_from, actor_at, may_speak, IsProper, set_by, with_tree, PolicyRow, StateValue, policy_of, is_cleared, is_newcomer, is_set_anew}
use Rattle.mum_state.proofs.{Alike.Agrees, Alike.perm_by_path, Closed.AreClosed, Closed.closed_proper, Closed.inside_kept, Closed.is_kept, Closed.kept_closed, Closed.rows_not_left, Closed.up_of, Each.Each, Each.each_find, Each.each_from_all, Each.each_map, Each.each_passes, Each.each_so, Gone.rows_of, Gone.there_of, Keeping.fit_proper, Ways.each_of_mapped, Suppressed.heard, Suppressed.heard_after, Suppressed.heard_proper, Suppressed.silent_after, Suppressed.silent_anew, Suppressed.silent_cleared, Suppressed.with_heard}

-- ---- channels that go change nothing for who stays

-- what is looked for is found where all that fits is kept
find_kept : {X : Type 0} (test keep : X → Bool) → ((x : X) → test x ≡ true → keep x ≡ true) → (xs : List X) → find test (filter keep xs) ≡ find test xs
find_kept test keep so [] = refl
find_kept test keep so (x ∷ xs) = step (test x) (keep x) refl refl (find_kept test keep so xs)
  where
    step : (t k : Bool) → test x ≡ t → keep x ≡ k → find test (filter keep xs) ≡ find test xs
        → find test (cond k (x ∷ filter keep xs) (filter keep xs)) ≡ cond t (Some x) (find test xs)
    step true true is kept rest = ap (λ (b : Bool). cond b (Some x) (find test (filter keep xs))) is
    step true false is kept rest = absurd (both_ways (keep x) kept (so x is))
    step false true is kept rest = ap (λ (b : Bool). cond b (Some x) (find test (filter keep xs))) is ∙ rest
    step false false is kept rest = rest

module _ (state : StateValue) (stays : ChannelId → Bool) where
  abbrev kept : List Row
  kept = rows_of stays state.tree.channels

  abbrev left : StateValue
  left = with_tree state (without_rows state.tree kept)

  -- a channel that stays keeps its policy
  policy_stays : (channel : ChannelId) → is_there kept channel ≡ true → policy_of left channel ≡ policy_of state channel
  policy_stays channel there =
      ap (option_map (λ (row : PolicyRow). row.policy))
      (find_kept (λ (row : PolicyRow). row.channel.0 == channel.0) (λ row. is_there kept row.channel)
      (λ row same.
      let is : row.channel ≡ channel = ap (λ n. record { 0 = n }) (eqb-true row.channel.0 channel.0 same) in
      ap (is_there kept) is ∙ there) state.policies)

  -- who is in such a channel may speak there as before
  left_speaks : (user : User) → IsProper state → AreClosed state.tree.channels stays → is_there kept user.channel ≡ true → may_speak left user ≡ may_speak state user
  left_speaks user proper closed there =
      let (was, stay) = and_parts (is_there state.tree.channels user.channel) (stays user.channel) (sym (there_of stays state.tree.channels user.channel) ∙ there) in
      let way : path kept user.channel ≡ path state.tree.channels user.channel =
      ap (reverse {A = ChannelId}) (up_of state.tree.channels stays closed 33 user.channel (proper.tree.lead user.channel was) stay) in
      let after : IsProperTree (without_rows state.tree kept) = closed_proper state.tree stays closed proper.tree in
      let agree : Each (Agrees (policy_of left) (policy_of state)) (path kept user.channel) =
      each_so (λ channel. is_there kept channel ≡ true) (Agrees (policy_of left) (policy_of state)) (λ channel here. policy_stays channel here) (path kept user.channel)
      (each_from_all (λ channel. is_there kept channel ≡ true) (path kept user.channel) (path_leads kept user.channel (after.lead user.channel there)).there) in
      ap (λ (set : ℕ). holds set SPEAK.0)
      (perm_by_path (policy_of left) (policy_of state) (path kept user.channel) (actor_from left.tree user) agree
      ∙ ap (λ (home : List ChannelId). perm (policy_of state) home (actor_at home user user.tokens)) way)

emptied_speaks : (before state : StateValue) (user : User) → IsProper state
    → is_there (rows_of (is_kept before.roster.sessions state.roster.sessions state.tree.channels) state.tree.channels) user.channel ≡ true
    → may_speak (without_emptied before state) user ≡ may_speak state user
emptied_speaks before state user proper there =
    let was : List User = before.roster.sessions in
    let now : List User = state.roster.sessions in
    ap (λ (rows : List Row). may_speak (with_tree state (without_rows state.tree rows)) user) (rows_not_left was now state.tree.channels proper.tree.rise)
    ∙ left_speaks state (is_kept was now state.tree.channels) user proper (kept_closed was now state.tree proper.tree) there

-- ---- who is heard again

not_cleared : (edit : Edit) (user : User) → is_cleared edit user ≡ false → silent_cleared edit user ≡ user.suppress
not_cleared edit user none = ap (λ (b : Bool). cond b false user.suppress) none

-- neither depends on who may speak
cleared_heard : (edit : Edit) (silent : User → Bool) (user : User) → is_cleared edit (heard silent user) ≡ is_cleared edit user
cleared_heard edit silent user = refl

tokens_heard : (edit : Edit) (silent : User → Bool) (user : User) → sets_tokens_of edit (heard silent user) ≡ sets_tokens_of edit user
tokens_heard (SetTokens session tokens) silent user = refl
tokens_heard edit silent user = refl

anew_heard : (before : List User) (edit : Edit) (silent : User → Bool) (user : User) → is_set_anew before edit (heard silent user) ≡ is_set_anew before edit user
anew_heard before edit silent user = ap (λ (b : Bool). (is_newcomer before user || b) || sets_policy edit) (tokens_heard edit silent user)

-- by what it may do in this state, if it is heard again
abbrev IsHeardIn : StateValue → Edit → StateValue → User → Type 0
IsHeardIn before edit state user =
    is_set_anew before.roster.sessions edit user ≡ true → is_cleared edit user ≡ false → user.suppress ≡ not (may_speak state user)

heard_in : (before : StateValue) (edit : Edit) (set : StateValue) → IsProper set
    → Each (IsHeardIn before edit (without_emptied before (with_heard (silent_after before edit set) set))) (map (heard (silent_after before edit set)) set.roster.sessions)
heard_in before edit set proper =
    let silent : User → Bool = silent_after before edit set in
    let state : StateValue = with_heard silent set in
    let good : IsProper state = heard_proper silent set proper in
    let rows : List Row = rows_of (is_kept before.roster.sessions state.roster.sessions state.tree.channels) state.tree.channels in
    let inside : Each (λ user. is_there rows user.channel ≡ true) state.roster.sessions =
    each_passes (λ user. is_there rows user.channel) state.roster.sessions (inside_kept before.roster.sessions state.roster.sessions state.tree.channels good.inside) in
    each_map (λ user. is_there rows user.channel ≡ true) (IsHeardIn before edit (without_emptied before state)) (heard silent)
    (λ user there anew none.
    not_cleared edit (heard (silent_anew before edit set) user) (cleared_heard edit (silent_anew before edit set) user ∙ sym (cleared_heard edit silent user) ∙ none)
    ∙ ap (λ (b : Bool). cond b (not (may_speak set user)) user.suppress) (sym (anew_heard before.roster.sessions edit silent user) ∙ anew)
    ∙ ap not (sym (emptied_speaks before state (heard silent user) good there)))
    set.roster.sessions (each_of_mapped (λ user. is_there rows user.channel ≡ true) (heard silent) set.roster.sessions inside)

pub suppressed_where_silent_lem : SuppressedWhereSilent
suppressed_where_silent_lem state edit session user proper fit found anew none =
    let set : StateValue = set_by state edit in
    let is = heard_after state edit set in
    let all : Each (IsHeardIn state edit (applied state edit)) (applied state edit).roster.sessions =
    subst (λ (s : StateValue). Each (IsHeardIn state edit (without_emptied state s)) s.roster.sessions) (sym is)
    (heard_in state edit set (fit_proper state edit proper fit).0) in
    (each_find (IsHeardIn state edit (applied state edit)) (has_number session) (applied state edit).roster.sessions user all found).0 anew none
