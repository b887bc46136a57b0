use Rattle.mum_route.proofs.Common.{◌≡◌, ◌≢◌, ◌∙◌, ℕ, Bool, true, false, cond, List, Some, None, ap, sym, subst, Contains, ne_eqb, same_Some, SessionId, session_of, User, StateValue, Context, LOOPBACK, heard_as, code, can_hear, is_silent, IsItemContext, IsTalkContext, Member, by_items, by_talk, context_of, items_of, member_by, route}
use Rattle.mum_route.proofs.{Hearers.each_hearing, Hearers.found_number, Hearers.found_own, Hearers.members_contain, Hearers.route_of_heard, Relations.item_context, Relations.item_reached, Relations.talk_context, Relations.talk_reached}
use Rattle.mum_route.proofs.laws.contexts_by_precedence.Goals as goal

-- one session has one row
one_row : (state : StateValue) (speaker : SessionId) (own user : User) → session_of state.roster speaker ≡ Some own → session_of state.roster speaker ≡ Some user → own ≡ user
one_row state speaker own user first second = same_Some own user (sym first ∙ second)

-- a target that is not talk is a voice target
to_items : (state : StateValue) (own : User) (target : ℕ) (user : User) → target ≢ 0 → context_of state own target user ≡ by_items state own (items_of state own.session target) user
to_items state own target user away = ap (λ (b : Bool). cond b (by_talk state own user) (by_items state own (items_of state own.session target) user)) (ne_eqb target 0 away)

pub returns-clause-first : goal.returns-clause-first
returns-clause-first c = λ state speaker own proper found. (
  each_hearing state speaker 0 (λ member. (user : User) × (session_of state.roster member.0 ≡ Some user) × IsTalkContext state own user member.1) (λ never. absurd (cc))
      (λ row user context is.
      let same : row ≡ own = one_row state speaker row own is.found found in
      (user, found_own state user proper is.there, subst (λ (one : User). IsTalkContext state one user (code context)) same (talk_context state row user context is.is))),
  λ target talks loops.
      each_hearing state speaker target (λ member. (user : User) × (session_of state.roster member.0 ≡ Some user) × IsItemContext state own (items_of state speaker target) user member.1) loops
      (λ row user context is.
      let same : row ≡ own = one_row state speaker row own is.found found in
      let number : row.session ≡ speaker = found_number state.roster.sessions speaker row is.found in
      let told = item_context state row user (items_of state row.session target) context (sym (to_items state row target user talks) ∙ is.is) in (
        user,
        found_own state user proper is.there,
        subst (λ (one : User). IsItemContext state one (items_of state speaker target) user (code context)) same
            (subst (λ (session : SessionId). IsItemContext state row (items_of state session target) user (code context)) number told),
      )),
)

-- one that can hear and has a context is in the route
heard_with : (state : StateValue) (speaker : SessionId) (target : ℕ) (own user : User) (context : Context) (number : ℕ) → target ≢ LOOPBACK
    → session_of state.roster speaker ≡ Some own → is_silent own ≡ false → Contains state.roster.sessions user → can_hear speaker user ≡ true
    → context_of state own target user ≡ Some context → code context ≡ number → Contains (route state speaker target) (user.session, number)
heard_with state speaker target own user context number away found heard there can is numbered =
    let own_can : can_hear own.session user ≡ true = ap (λ (s : SessionId). can_hear s user) (found_number state.roster.sessions speaker own found) ∙ can in
    let reach : heard_as state own target user ≡ Some context = ap (λ (b : Bool). cond b (context_of state own target user) None) own_can ∙ is in
    subst (λ (n : ℕ). Contains (route state speaker target) (user.session, n)) numbered
    (subst (λ (ms : List Member). Contains ms (member_by user context)) (sym (route_of_heard state speaker target own away found heard))
    (members_contain (heard_as state own target) state.roster.sessions user context there reach))

pub returns-clause-all : goal.returns-clause-all
returns-clause-all c = λ state speaker own user found heard there can. (
  λ number is.
      let (context, told, numbered) = talk_reached state own user number is in
      heard_with state speaker 0 own user context number (λ never. absurd (cc)) found heard there can told numbered,
  λ target number talks loops is.
      let asked : IsItemContext state own (items_of state own.session target) user number =
      subst (λ (s : SessionId). IsItemContext state own (items_of state s target) user number) (sym (found_number state.roster.sessions speaker own found)) is in
      let (context, told, numbered) = item_reached state own user (items_of state own.session target) number asked in
      heard_with state speaker target own user context number loops found heard there can (to_items state own target user talks ∙ told) numbered,
)
