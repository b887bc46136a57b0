-- Voice targets are those of the message that sets them.
use Rattle.mum_rights_laws.proofs.Common.{◌≡◌, ℕ, ◌==◌, ◌&&◌, ◌||◌, not, Bool, true, false, cond, List, [], ◌∷◌, filter, find, map, Option, Some, None, refl, ap, sym, ◌∙◌, subst, arith, length, nat_lt, unwrap_or, AllZip, option_map, and_from, eq-eqb, ne_eqb, nat_tests, SessionId, TargetBlock, VoiceTarget, VoiceTargets, TargetItem, TargetRow, User, RosterState, is_target, target_below, target_of, targeted, with_target, applied, set_by, StateValue, Edit, SetTarget, channel, item_asked, number_of_target, session_numbered, target_asked, UserMessage, Target, IsItemAsked, IsTargetAsked, TargetsAreDone}
use Rattle.mum_rights_laws.proofs.{Kept.none_kept, SessionLaws.number_is, Settled.aims as aims_are, UserKinds.IsUserKind, UserKinds.aims, UserKinds.changes as alters, UserKinds.kicks, UserKinds.leaves, UserKinds.renews, UserKinds.says, UserKinds.user_edit}

targets_numbered : (listed : List ℕ) → map (λ session. session.0) (map session_numbered listed) ≡ listed
targets_numbered [] = refl
targets_numbered (n ∷ listed) = ap (λ (rest : List ℕ). n ∷ rest) (targets_numbered listed)

channel_back : (o : Option ℕ) → option_map (λ one. one.0) (option_map channel o) ≡ o
channel_back None = refl
channel_back (Some n) = refl

items_asked : (blocks : List TargetBlock) → AllZip IsItemAsked blocks (map item_asked blocks)
items_asked [] = tt
items_asked (block ∷ blocks) = (
  record { sessions = targets_numbered block.session; channel = channel_back block.channel_id; group = refl; links = refl; children = refl },
  items_asked blocks,
)

never_both : (a b c d : ℕ) → (nat_lt a b || ((a == b) && nat_lt c d)) ≡ true → ((a == b) && (c == d)) ≡ false
never_both a b c d below = grind (arith, nat_tests)

put_found : (session : SessionId) (id : ℕ) (target : VoiceTargets) (rows : List TargetRow)
    → find (is_target session id) (with_target (record { session = session; id = id; target = target }) rows) ≡ Some (record { session = session; id = id; target = target })
put_found session id target rows = go rows
  where
    new : TargetRow
    new = record { session = session; id = id; target = target }

    own : is_target session id new ≡ true
    own = and_from (session.0 == session.0) (id == id) (eq-eqb session.0 session.0 refl) (eq-eqb id id refl)

    here : (rest : List TargetRow) → find (is_target session id) (new ∷ rest) ≡ Some new
    here rest = ap (λ (b : Bool). cond b (Some new) (find (is_target session id) rest)) own

    go : (rows : List TargetRow) → find (is_target session id) (with_target new rows) ≡ Some new
    go [] = here []
    go (row ∷ rows) = step (target_below session id row) refl (is_target session id row) (go rows)
      where
        step : (below : Bool) → target_below session id row ≡ below → (same : Bool) → find (is_target session id) (with_target new rows) ≡ Some new
            → find (is_target session id) (cond below (row ∷ with_target new rows) (cond same (new ∷ rows) (new ∷ row ∷ rows))) ≡ Some new
        step true is same rest =
            ap (λ (b : Bool). cond b (Some row) (find (is_target session id) (with_target new rows))) (never_both row.session.0 session.0 row.id id is) ∙ rest
        step false is true rest = here rows
        step false is false rest = here (row ∷ rows)

some_items : (item : TargetItem) (items : List TargetItem) → (length (item ∷ items) == 0) ≡ false
some_items item items = ne_eqb (length (item ∷ items)) 0 (λ (e : length (item ∷ items) ≡ 0). absurd (omega (arith, e)))

target_set : (roster : RosterState) (session : SessionId) (id : ℕ) (blocks : List TargetBlock)
    → IsTargetAsked blocks (target_of (targeted roster session id (record { items = map item_asked blocks })) session id)
target_set roster session id [] =
    ap (option_map (λ (row : TargetRow). row.target)) (none_kept (is_target session id) (λ (row : TargetRow). not (is_target session id row)) (λ row is. ap not is) roster.targets)
target_set roster session id (block ∷ blocks) =
    let new : TargetRow = record { session = session; id = id; target = record { items = map item_asked (block ∷ blocks) } } in
    let put : target_of (targeted roster session id new.target) session id ≡ Some new.target =
    ap (λ (b : Bool). option_map (λ (row : TargetRow). row.target) (find (is_target session id)
    (cond b (record roster { targets = filter (λ row. not (is_target session id row)) roster.targets }) (record roster { targets = with_target new roster.targets })).targets))
    (some_items (item_asked block) (map item_asked blocks))
    ∙ ap (option_map (λ (row : TargetRow). row.target)) (put_found session id new.target roster.targets) in
    subst (IsTargetAsked (block ∷ blocks)) (sym put) (items_asked (block ∷ blocks))

target_by : (before : StateValue) (actor : SessionId) (own : User) (tokens : List (List ℕ)) {message : UserMessage} {edit : Edit} → IsUserKind before actor own tokens message edit
    → (asked : VoiceTarget) → message ≡ Target asked → IsTargetAsked asked.targets (target_of (set_by before edit).roster actor (unwrap_or asked.id 0))
target_by before actor own tokens (renews login version) asked is = cc
target_by before actor own tokens (alters given may_so) asked is = cc
target_by before actor own tokens (kicks given may_so) asked is = cc
target_by before actor own tokens (says given) asked is = cc
target_by before actor own tokens (aims given) asked is =
    let same : given ≡ asked = cc in
    subst (λ (one : VoiceTarget). IsTargetAsked one.targets (target_of (set_by before (SetTarget actor (number_of_target given) (target_asked given))).roster actor (unwrap_or one.id 0))) same
    (target_set before.roster actor (unwrap_or given.id 0) given.targets)
target_by before actor own tokens leaves asked is = cc

pub targets_are_done_lem : TargetsAreDone
targets_are_done_lem before actor message edit proper accepted =
    let (own, tokens, all) = user_edit before actor message edit accepted in (
      own,
      tokens,
      all.by,
      λ asked is.
          subst (λ (one : SessionId). IsTargetAsked asked.targets (target_of (applied before edit).roster one (unwrap_or asked.id 0))) (sym (number_is before actor own all.by.there))
          (subst (IsTargetAsked asked.targets)
          (sym (ap (λ rows. option_map (λ (row : TargetRow). row.target) (find (is_target actor (unwrap_or asked.id 0)) rows)) (aims_are before edit)))
          (target_by before actor own tokens all.kind asked is)),
    )
