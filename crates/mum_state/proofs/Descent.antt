-- Whence the sessions after an edit come: each was there before, or joined with the next number.
use Rattle.mum_state.proofs.Common.{◌≡◌, ℕ, ◌+◌, not, Bool, true, false, cond, List, map, refl, sym, ◌∙◌, Some, None, if◌then◌else◌, false≢true, SessionId, User, changed_user, RosterState, has_number, joining, free_slot, next_number, next_slot, parent_of, is_below, Edit, Join, Kick, Leave, MakeChannel, RemoveChannel, SetTarget, SetTokens, SetUser, applied, sets_tokens_of, user_parts, set_by, StateValue, heard_anew, is_set_anew, with_clearing, with_suppression}
use Rattle.mum_state.proofs.{Clearing.by_clearing, Each.Each, Each.each_filter, Each.each_insert, Each.each_map, Each.each_so}

-- it is the same session, in its slot, with its account and, unless the edit sets them, its tokens
pub record IsSame (edit : Edit) (was now : User) : Type 0 where
  pub session : now.session ≡ was.session
  pub slot : now.slot ≡ was.slot
  pub account : now.account ≡ was.account
  pub tokens : sets_tokens_of edit now ≡ false → now.tokens ≡ was.tokens

-- what holds of sessions before an edit leads to what holds of those that it may leave
pub record Descends (edit : Edit) (last : ℕ) (P Q : User → Type 0) : Type 0 where
  pub stays : (was now : User) → IsSame edit was now → P was → Q now
  pub joins : (now : User) → now.session.0 ≡ last + 1 → Q now

is_itself : (edit : Edit) (user : User) → IsSame edit user user
is_itself edit user = record { session = refl; slot = refl; account = refl; tokens = λ kept. refl }

module _ (edit : Edit) (last : ℕ) (P Q : User → Type 0) (descends : Descends edit last P Q) where
  untouched : (users : List User) → Each P users → Each Q users
  untouched users all = each_so P Q (λ user. descends.stays user user (is_itself edit user)) users all

  one_touched : (b : Bool) (was now : User) → IsSame edit was now → P was → Q (cond b now was)
  one_touched true was now same holds = descends.stays was now same holds
  one_touched false was now same holds = descends.stays was was (is_itself edit was) holds

  touched : (test : User → Bool) (change : User → User) → ((user : User) → IsSame edit user (change user)) → (users : List User) → Each P users
      → Each Q (map (λ user. cond (test user) (change user) user) users)
  touched test change same users all =
      each_map P Q (λ user. cond (test user) (change user) user) (λ user holds. one_touched (test user) user (change user) (same user) holds) users all

  either_roster : (is : Bool) (one other : RosterState) → Each Q one.sessions → Each Q other.sessions → Each Q (if is then one else other).sessions
  either_roster true one other all also = all
  either_roster false one other all also = also

-- the session of the tokens has them set, and every other is as it was
token_set : (session : SessionId) (tokens : List (List ℕ)) (user : User) (b : Bool) → has_number session user ≡ b
    → IsSame (SetTokens session tokens) user (cond b (record user { tokens = tokens }) user)
token_set session tokens user true here = record { session = refl; slot = refl; account = refl; tokens = λ kept. absurd (false≢true (sym kept ∙ here)) }
token_set session tokens user false other = is_itself (SetTokens session tokens) user

module _ (state : StateValue) (P Q : User → Type 0) (all : Each P state.roster.sessions) where
  set_tokens : (session : SessionId) (tokens : List (List ℕ)) → Descends (SetTokens session tokens) state.roster.last P Q
      → Each Q (set_by state (SetTokens session tokens)).roster.sessions
  set_tokens session tokens descends =
      each_map P Q (λ user. cond (has_number session user) (record user { tokens = tokens }) user)
      (λ user holds. descends.stays user _ (token_set session tokens user (has_number session user) refl) holds) state.roster.sessions all

  -- what an edit sets
  pub set_descends : (edit : Edit) → Descends edit state.roster.last P Q → Each Q (set_by state edit).roster.sessions
  set_descends (Join session slot name account tokens) descends =
      each_insert Q state.roster.sessions (free_slot state.roster) (joining (next_number state.roster) (next_slot state.roster) name account tokens)
      (untouched _ _ P Q descends state.roster.sessions all) (descends.joins _ refl)
  set_descends (Leave session) descends =
      each_filter Q (λ user. not (has_number session user)) state.roster.sessions (untouched _ _ P Q descends state.roster.sessions all)
  set_descends (Kick session actor reason ban) descends =
      each_filter Q (λ user. not (has_number session user)) state.roster.sessions (untouched _ _ P Q descends state.roster.sessions all)
  set_descends (MakeChannel id parent name temporary info None) descends = untouched _ _ P Q descends state.roster.sessions all
  set_descends (MakeChannel id parent name true info (Some maker)) descends =
      touched _ _ P Q descends (has_number maker) (λ user. record user { channel = id })
      (λ user. record { session = refl; slot = refl; account = refl; tokens = λ kept. refl }) state.roster.sessions all
  set_descends (MakeChannel id parent name false info (Some maker)) descends = untouched _ _ P Q descends state.roster.sessions all
  set_descends (RemoveChannel id actor) descends =
      touched _ _ P Q descends (λ user. is_below state.tree.channels id user.channel) (λ user. record user { channel = parent_of state.tree id })
      (λ user. record { session = refl; slot = refl; account = refl; tokens = λ kept. refl }) state.roster.sessions all
  set_descends (SetUser session actor channel mute deaf clear_suppress priority self_mute self_deaf recording comment context listen unlisten) descends =
      touched _ _ P Q descends (has_number session)
      (changed_user (user_parts channel mute deaf priority self_mute self_deaf recording comment context listen unlisten))
      (λ user. record { session = refl; slot = refl; account = refl; tokens = λ kept. refl }) state.roster.sessions all
  set_descends (SetTokens session tokens) descends = set_tokens session tokens descends
  set_descends (SetTarget session id target) descends =
      let same = untouched _ _ P Q descends state.roster.sessions all in either_roster _ _ P Q descends _ _ _ same same
  set_descends edit descends = untouched _ _ P Q descends state.roster.sessions all

-- whether it may speak is not seen
abbrev pub IsUnheard : (User → Type 0) → Type 0
IsUnheard P = (user : User) (on : Bool) → P user → P (record user { suppress = on })

module _ (P : User → Type 0) (unheard : IsUnheard P) where
  one_heard : (b : Bool) (on : Bool) (user : User) → P user → P (cond b (record user { suppress = on }) user)
  one_heard true on user holds = unheard user on holds
  one_heard false on user holds = holds

  suppression_descends : (before : StateValue) (edit : Edit) (state : StateValue) → Each P state.roster.sessions
      → Each P (with_suppression before edit state).roster.sessions
  suppression_descends before edit state all =
      each_map P P (λ user. cond (is_set_anew before.roster.sessions edit user) (heard_anew state user) user)
      (λ user holds. one_heard (is_set_anew before.roster.sessions edit user) _ user holds) state.roster.sessions all

  clearing_descends : (edit : Edit) (state : StateValue) → Each P state.roster.sessions → Each P (with_clearing edit state).roster.sessions
  clearing_descends edit state all =
      by_clearing (λ after. Each P after.roster.sessions) edit state all
      (λ session.
      each_map P P (λ user. cond (has_number session user) (record user { suppress = false }) user)
      (λ user holds. one_heard (has_number session user) false user holds) state.roster.sessions all)

  -- what an edit leaves
  pub applied_descends : (state : StateValue) (edit : Edit) → Each P (set_by state edit).roster.sessions → Each P (applied state edit).roster.sessions
  applied_descends state edit all =
      clearing_descends edit (with_suppression state edit (set_by state edit)) (suppression_descends state edit (set_by state edit) all)
