-- What a session holds at the end of a path.
use Rattle.mum_policy.proofs.Common.{◌≡◌, ℕ, suc, ◌+◌, ◌&&◌, ◌||◌, Bool, true, false, not, List, [], ◌∷◌, ◌++◌, bit_and, bit_or, filter, cond, refl, subst, sym, ap, ◌∙◌, Some, None, append_assoc, w32, arith, if◌then◌else◌, bit_not, All, list_any, slice_get, All-head, All-tail, same_Some, Holds, ChannelId, ALL, ROOT_ONLY, START, WRITE, AclEntry, Walk, Actor, PolicyMap, after_channel, after_entries, after_match, along, applies, entering, finished, full_set, goes_on, granted, holds, is_asked, matches, on_root, perm, walk_start, AreGrantsKnown, EntriesDecide, IsPermission, LastNamingEntryDecides, NoWayBelow, NoWayThrough, NobodyHasMore, NothingOfTheRootElsewhere, SuperUserMayAll, counting, entries_of, held_after, is_held, is_super_user, leaves_a_mark, matching, starts_over}
use Rattle.mum_policy.proofs.{Sets.all_but_voice, Sets.finished_holds, Sets.known_and, Sets.known_finished, Sets.known_full, Sets.known_or, Sets.none_elsewhere, Walks.perm_super, Walks.perm_walked, Ways.begun_on, Ways.ends, Ways.reaches, Ways.set_at_end, Ways.test_holds}

-- ---- what the entries decide

begun_at_start : (p : ℕ) (again : Bool) → begun_on p again walk_start ≡ holds START.0 p
begun_at_start p true = refl
begun_at_start p false = refl

pub last_decides : LastNamingEntryDecides
last_decides policies path who p end fit is e =
    set_at_end p is policies path who 0 path walk_start end fit e
    ∙ ap (λ (b : Bool). held_after p b (counting policies path who 0 path)) (begun_at_start p (list_any (λ lower. starts_over (policies lower)) path))

pub entries_decide : EntriesDecide
entries_decide policies path who p fit is other open_ =
    let root : Bool = on_root path in
    let reached : (end : Walk) × (along policies path who 0 path walk_start ≡ Some end) = reaches policies path who 0 path walk_start open_ in
    let end : Walk = reached.0 in
    let held : (q : ℕ) → IsPermission q → holds end.set.0 q ≡ is_held policies path who q = λ q q_is. last_decides policies path who q end fit q_is reached.1 in
    let mask : Bool = root || not (holds ROOT_ONLY.0 p) in
    ap (λ (n : ℕ). holds n p) (sym (perm_walked policies path who false root (Some end) (sym other) refl refl reached.1))
    ∙ finished_holds root end.set.0 p is
    ∙ ap (λ (b : Bool). mask && (b || (holds end.set.0 WRITE.0 && holds (full_set root) p))) (held p is)
    ∙ ap (λ (b : Bool). mask && (is_held policies path who p || (b && holds (full_set root) p))) (held WRITE.0 (0, omega arith, refl))

-- ---- no way through

pub no_way : NoWayThrough
no_way policies path who above below channel other e closed =
    sym (perm_walked policies path who false (on_root path) None (sym other) refl refl
    (ap (λ (channels : List ChannelId). along policies path who 0 channels walk_start) e ∙ ends policies path who 0 above below channel walk_start closed))

-- two tests that agree on each element keep the same
filter_alike : (p q : AclEntry → Bool) (entries : List AclEntry) → All (λ entry. p entry ≡ q entry) entries → filter p entries ≡ filter q entries
filter_alike p q [] same = refl
filter_alike p q (entry ∷ entries) same =
    ap (λ (b : Bool). cond b (entry ∷ filter p entries) (filter p entries)) (All-head (λ (e : AclEntry). p e ≡ q e) entry entries same)
    ∙ ap (λ (kept : List AclEntry). cond (q entry) (entry ∷ kept) kept) (filter_alike p q entries (All-tail (λ (e : AclEntry). p e ≡ q e) entry entries same))

matching_alike : (policies : PolicyMap) (path longer : List ChannelId) (who : Actor) (place : ℕ) (channels : List ChannelId)
    → ((i : ℕ) (channel : ChannelId) (at : ℕ) → slice_get channels i ≡ Some channel → at ≡ place + i
    → All (λ entry. matches policies longer who at entry ≡ matches policies path who at entry) (entries_of (policies channel)))
    → matching policies longer who place channels ≡ matching policies path who place channels
unfolding matching
matching_alike policies path longer who place [] alike = refl
matching_alike policies path longer who place (channel ∷ below) alike =
    ap (λ (entries : List AclEntry). entries ++ matching policies longer who (place + 1) below)
    (filter_alike (matches policies longer who place) (matches policies path who place) (entries_of (policies channel)) (alike 0 channel place refl (omega arith)))
    ∙ ap (λ (entries : List AclEntry). filter (matches policies path who place) (entries_of (policies channel)) ++ entries)
    (matching_alike policies path longer who (place + 1) below (λ i lower at e is. alike (suc i) lower at e (omega (arith, is))))

pub no_way_below : NoWayBelow
no_way_below policies path who above below lower channel other e closed alike =
    let both : (i : ℕ) (there : ChannelId) (at : ℕ) → slice_get (above ++ channel ∷ []) i ≡ Some there → at ≡ 0 + i
    → All (λ entry. matches policies (path ++ lower) who at entry ≡ matches policies path who at entry) (entries_of (policies there)) =
    λ i there at found is. subst (λ (n : ℕ). All (λ entry. matches policies (path ++ lower) who n entry ≡ matches policies path who n entry) (entries_of (policies there))) (omega (arith, is)) (alike i there found) in
    no_way policies (path ++ lower) who above (below ++ lower) channel other
    (ap (λ (channels : List ChannelId). channels ++ lower) e ∙ append_assoc above (channel ∷ below) lower)
    (ap leaves_a_mark (matching_alike policies path (path ++ lower) who 0 (above ++ channel ∷ []) both) ∙ closed)

-- ---- nobody has more

known_match : (asked : Bool) (entry : AclEntry) (walk : Walk) → Holds ALL.0 entry.grant.0 → Holds ALL.0 walk.set.0 → Holds ALL.0 (after_match asked entry walk).set.0
unfolding after_match
known_match asked entry walk one h = elim (applies asked entry) as (λ b. Holds ALL.0 (if b then granted walk.set entry else walk.set).0) [
  | true ↦ known_and ALL.0 (bit_or walk.set.0 entry.grant.0) (bit_not w32 entry.deny.0) (known_or ALL.0 walk.set.0 entry.grant.0 h one)
  | false ↦ h
]

known_entries : (matching_ : AclEntry → Bool) (asked : Bool) (entries : List AclEntry) → All (λ entry. Holds ALL.0 entry.grant.0) entries → (walk : Walk) → Holds ALL.0 walk.set.0
    → Holds ALL.0 (after_entries matching_ asked entries walk).set.0
unfolding after_entries
known_entries matching_ asked [] known walk h = h
known_entries matching_ asked (entry ∷ entries) known walk h =
    let one : Holds ALL.0 entry.grant.0 = All-head (λ (e : AclEntry). Holds ALL.0 e.grant.0) entry entries known in
    let later : (w : Walk) → Holds ALL.0 w.set.0 → Holds ALL.0 (after_entries matching_ asked entries w).set.0 =
    known_entries matching_ asked entries (All-tail (λ (e : AclEntry). Holds ALL.0 e.grant.0) entry entries known) in
    elim (matching_ entry) as (λ b. Holds ALL.0 (after_entries matching_ asked entries (if b then after_match asked entry walk else walk)).set.0) [
      | true ↦ later (after_match asked entry walk) (known_match asked entry walk one h)
      | false ↦ later walk h
    ]

known_entering : (inherit : Bool) (walk : Walk) → Holds ALL.0 walk.set.0 → Holds ALL.0 (entering inherit walk).set.0
known_entering true walk h = h
known_entering false walk h = refl

known_channel : (policies : PolicyMap) (path : List ChannelId) (who : Actor) (place : ℕ) (asked : Bool) (channel : ChannelId) (walk : Walk) → AreGrantsKnown policies
    → Holds ALL.0 walk.set.0 → Holds ALL.0 (after_channel policies path who place asked (policies channel) walk).set.0
unfolding after_channel
known_channel policies path who place asked channel walk known h =
    elim (policies channel) as (λ policy. policies channel ≡ policy → Holds ALL.0 (after_channel policies path who place asked policy walk).set.0) [
      | None ↦ λ e. h
      | Some policy ↦ λ e. known_entries (matches policies path who place) asked policy.acls (known channel policy e) (entering policy.inherit_acls walk) (known_entering policy.inherit_acls walk h)
    ] refl

known_along : (policies : PolicyMap) (path : List ChannelId) (who : Actor) (place : ℕ) (channels : List ChannelId) (walk end : Walk) → AreGrantsKnown policies
    → Holds ALL.0 walk.set.0 → along policies path who place channels walk ≡ Some end → Holds ALL.0 end.set.0
unfolding along
known_along policies path who place [] walk end known h e = subst (λ (w : Walk). Holds ALL.0 w.set.0) (same_Some walk end e) h
known_along policies path who place (channel ∷ below) walk end known h e =
    let after : Walk = after_channel policies path who place (is_asked below) (policies channel) walk in
    let on = test_holds (goes_on after) (along policies path who (place + 1) below after) end e in
    known_along policies path who (place + 1) below after end known (known_channel policies path who place (is_asked below) channel walk known h) on.1

-- what holds of the full set and of each set at the end of a walk, of none too, holds of the answer
answered : (P : ℕ → Type 0) (policies : PolicyMap) (path : List ChannelId) (who : Actor)
    → P (full_set (on_root path)) → P 0 → ((end : Walk) → along policies path who 0 path walk_start ≡ Some end → P (finished (on_root path) end.set.0)) → P (perm policies path who)
answered P policies path who full none some = elim (is_super_user who) as (λ super. is_super_user who ≡ super → P (perm policies path who)) [
  | true ↦ λ is. subst P (perm_super policies path who true (on_root path) (sym is) refl refl) full
  | false ↦ λ is. elim (along policies path who 0 path walk_start) as (λ end. along policies path who 0 path walk_start ≡ end → P (perm policies path who)) [
    | None ↦ λ e. subst P (perm_walked policies path who false (on_root path) None (sym is) refl refl e) none
    | Some end ↦ λ e. subst P (perm_walked policies path who false (on_root path) (Some end) (sym is) refl refl e) (some end e)
  ] refl
] refl

pub nobody_has_more : NobodyHasMore
nobody_has_more policies path who known =
    answered (λ (set : ℕ). Holds ALL.0 set) policies path who (known_full (on_root path)) refl
    (λ end e. known_finished (on_root path) end.set.0 (known_along policies path who 0 path walk_start end known refl e))

pub nothing_elsewhere : NothingOfTheRootElsewhere
nothing_elsewhere policies path who off =
    answered (λ (set : ℕ). bit_and set ROOT_ONLY.0 ≡ 0) policies path who
    (ap (λ (root : Bool). bit_and (full_set root) ROOT_ONLY.0) off) refl
    (λ end e. ap (λ (root : Bool). bit_and (finished root end.set.0) ROOT_ONLY.0) off ∙ none_elsewhere end.set.0)

pub super_may_all : SuperUserMayAll
super_may_all policies path who super =
    sym (perm_super policies path who true (on_root path) (sym super) refl refl) ∙ all_but_voice (on_root path)
