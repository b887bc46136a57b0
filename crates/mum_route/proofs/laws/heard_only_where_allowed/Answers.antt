use Rattle.mum_route.proofs.Common.{◌≡◌, ◌≢◌, ◌∙◌, ℕ, List, ◌⊎◌, inl, inr, Bool, true, cond, Some, refl, ap, sym, subst, ⊎_elim, IsTrue, Contains, cases_eq, ne_eqb, ChannelId, SessionId, Perm, SPEAK, WHISPER, linked, session_of, TargetItem, User, StateValue, Context, code, talk, may, IsItemContext, IsTalkContext, Listens, needed_for, by_items, by_talk, context_of, items_of}
use Rattle.mum_route.proofs.{Hearers.IsHearing, Hearers.each_hearing, Hearers.found_number, Hearers.found_own, Relations.cover_allowed, Relations.item_context, Relations.kept_from, Relations.talk_context}
use Rattle.mum_route.proofs.laws.heard_only_where_allowed.Goals as goal

-- a channel where the speaker has the permission, in which the session is or to which it listens
abbrev IsAllowed : StateValue → SessionId → Perm → User → Type 0
IsAllowed state speaker perm user =
    (channel : ChannelId) × IsTrue (may state speaker perm channel) × ((user.channel ≡ channel) ⊎ Listens state user channel)

talk_allowed : (state : StateValue) (own : User) (channel : ChannelId) → Contains (talk state own) channel → may state own.session SPEAK channel ≡ true
talk_allowed state own channel has = (kept_from (may state own.session SPEAK) (linked state.tree own.channel) channel has).1

by_talking : (state : StateValue) (own user : User) (number : ℕ) → IsTalkContext state own user number → IsAllowed state own.session SPEAK user
by_talking state own user number (inl (is, among)) = (user.channel, talk_allowed state own user.channel among, inl refl)
by_talking state own user number (inr (is, outside, (channel, among, listening))) = (channel, talk_allowed state own channel among, inr listening)

by_item : (state : StateValue) (own user : User) (items : List TargetItem) (number : ℕ) → IsItemContext state own items user number → IsAllowed state own.session WHISPER user
by_item state own user items number (inl (is, (item, has, among, grouped))) = (user.channel, cover_allowed state own item user.channel among, inl refl)
by_item state own user items number (inr (inl (is, outside, (item, has, inside, allowed)))) = (user.channel, allowed, inl refl)
by_item state own user items number (inr (inr (is, outside, unnamed, (item, channel, has, among, grouped, listening)))) =
    (channel, cover_allowed state own item channel among, inr listening)

by_target : (state : StateValue) (speaker : SessionId) (target : ℕ) (own user : User) (context : Context) → IsHearing state speaker target own user context
    → IsAllowed state own.session (needed_for target) user
by_target state speaker target own user context is =
    ⊎_elim
    (λ (talks : target ≡ 0).
    subst (λ (n : ℕ). IsAllowed state own.session (needed_for n) user) (sym talks)
    (by_talking state own user (code context) (talk_context state own user context (ap (λ (n : ℕ). context_of state own n user) (sym talks) ∙ is.is))))
    (λ (away : target ≢ 0).
    subst (λ (perm : Perm). IsAllowed state own.session perm user) (sym (ap (λ (b : Bool). cond b SPEAK WHISPER) (ne_eqb target 0 away)))
    (by_item state own user (items_of state own.session target) (code context)
    (item_context state own user (items_of state own.session target) context
    (sym (ap (λ (b : Bool). cond b (by_talk state own user) (by_items state own (items_of state own.session target) user)) (ne_eqb target 0 away)) ∙ is.is))))
    (cases_eq target 0)

pub returns : goal.returns
returns c = λ state speaker target proper away.
    each_hearing state speaker target (λ member. (user : User) × (session_of state.roster member.0 ≡ Some user) × IsAllowed state speaker (needed_for target) user) away
    (λ own user context is. (
      user,
      found_own state user proper is.there,
      subst (λ (s : SessionId). IsAllowed state s (needed_for target) user) (found_number state.roster.sessions speaker own is.found) (by_target state speaker target own user context is),
    ))
