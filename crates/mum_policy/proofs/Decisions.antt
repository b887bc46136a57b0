-- The last entry that names a permission decides it, in the marks and in the set of a walk.
use Rattle.mum_policy.proofs.Common.{◌≡◌, ℕ, ◌^◌, ◌<◌, ◌&&◌, ◌||◌, Bool, true, false, not, List, [], ◌∷◌, ◌++◌, filter, find, reverse, refl, sym, ap, ◌∙◌, Option, Some, None, bit_or, cond, if◌then◌else◌, option_or, All, reverse-append, All-head, All-nil, All-tail, find-append, without_bits, ChannelId, START, TRAVERSE, WRITE, AclEntry, ChannelPolicy, Walk, Actor, PolicyMap, after_channel, after_entries, after_match, applies, entering, granted, holds, marked, matches, AreDeniesIn32Bits, IsPermission, entries_of, held_after, held_by, last_naming, matching_at, names_permission, starts_over}
use Rattle.mum_policy.proofs.Bits.{holds_or, holds_without}

-- ---- a list of entries

-- of two lists, one after the other, the last entry that names a permission
last_naming-append : (p : ℕ) (first then_ : List AclEntry) → last_naming p (first ++ then_) ≡ option_or (last_naming p then_) (last_naming p first)
last_naming-append p first then_ =
    ap (find (names_permission p)) (reverse-append first then_) ∙ find-append (names_permission p) (reverse then_) (reverse first)

held_by-or : (p : ℕ) (before : Bool) (late early : Option AclEntry) → held_by p before (option_or late early) ≡ held_by p (held_by p before early) late
held_by-or p before None early = refl
held_by-or p before (Some entry) early = refl

pub held_after-append : (p : ℕ) (before : Bool) (first then_ : List AclEntry) → held_after p before (first ++ then_) ≡ held_after p (held_after p before first) then_
held_after-append p before first then_ =
    ap (held_by p before) (last_naming-append p first then_) ∙ held_by-or p before (last_naming p then_) (last_naming p first)

by_marking : (p : ℕ) (before grants denies : Bool) (entry : AclEntry) → denies ≡ holds entry.deny.0 p
    → held_by p before (cond (grants || denies) (Some entry) None) ≡ ((before || grants) && not denies)
by_marking p true true true entry e = ap not (sym e)
by_marking p true true false entry e = ap not (sym e)
by_marking p true false true entry e = ap not (sym e)
by_marking p true false false entry e = refl
by_marking p false true true entry e = ap not (sym e)
by_marking p false true false entry e = ap not (sym e)
by_marking p false false true entry e = ap not (sym e)
by_marking p false false false entry e = refl

-- one entry decides as a mark is set and cleared
pub held_after-one : (p : ℕ) (before : Bool) (entry : AclEntry) → held_after p before (entry ∷ []) ≡ marked before entry p
held_after-one p before entry = by_marking p before (holds entry.grant.0 p) (holds entry.deny.0 p) entry refl

held_after-cons : (p : ℕ) (before : Bool) (entry : AclEntry) (later : List AclEntry) → held_after p before (entry ∷ later) ≡ held_after p (marked before entry p) later
held_after-cons p before entry later =
    held_after-append p before (entry ∷ []) later ∙ ap (λ (b : Bool). held_after p b later) (held_after-one p before entry)

-- ---- the marks

pub traverse_after : (matching : AclEntry → Bool) (asked : Bool) (entries : List AclEntry) (walk : Walk)
    → (after_entries matching asked entries walk).traverse ≡ held_after TRAVERSE.0 walk.traverse (filter matching entries)
unfolding after_entries after_match
traverse_after matching asked [] walk = refl
traverse_after matching asked (entry ∷ entries) walk = elim (matching entry) as (λ b. (after_entries matching asked entries (if b then after_match asked entry walk else walk)).traverse ≡ held_after TRAVERSE.0 walk.traverse (cond b (entry ∷ filter matching entries) (filter matching entries))) [
  | true ↦ traverse_after matching asked entries (after_match asked entry walk) ∙ sym (held_after-cons TRAVERSE.0 walk.traverse entry (filter matching entries))
  | false ↦ traverse_after matching asked entries walk
]

pub write_after : (matching : AclEntry → Bool) (asked : Bool) (entries : List AclEntry) (walk : Walk)
    → (after_entries matching asked entries walk).write ≡ held_after WRITE.0 walk.write (filter matching entries)
unfolding after_entries after_match
write_after matching asked [] walk = refl
write_after matching asked (entry ∷ entries) walk = elim (matching entry) as (λ b. (after_entries matching asked entries (if b then after_match asked entry walk else walk)).write ≡ held_after WRITE.0 walk.write (cond b (entry ∷ filter matching entries) (filter matching entries))) [
  | true ↦ write_after matching asked entries (after_match asked entry walk) ∙ sym (held_after-cons WRITE.0 walk.write entry (filter matching entries))
  | false ↦ write_after matching asked entries walk
]

-- ---- the set

-- the set changes in one permission as a mark does
pub granted_marks : (p set : ℕ) (entry : AclEntry) → entry.deny.0 < 2 ^ 32 → IsPermission p
    → holds (without_bits (bit_or set entry.grant.0) entry.deny.0) p ≡ marked (holds set p) entry p
granted_marks p set entry fits is =
    holds_without (bit_or set entry.grant.0) entry.deny.0 p fits is
    ∙ ap (λ (b : Bool). b && not (holds entry.deny.0 p)) (holds_or set entry.grant.0 p is)

-- the set after an entry that matches
set_matched : (p : ℕ) → IsPermission p → (asked : Bool) (entry : AclEntry) (later : List AclEntry) (walk : Walk) → entry.deny.0 < 2 ^ 32
    → held_after p (holds (after_match asked entry walk).set.0 p) later ≡ held_after p (holds walk.set.0 p) (cond (applies asked entry) (entry ∷ later) later)
unfolding after_match
set_matched p is asked entry later walk fits = elim (applies asked entry) as (λ b. held_after p (holds (if b then granted walk.set entry else walk.set).0 p) later ≡ held_after p (holds walk.set.0 p) (cond b (entry ∷ later) later)) [
  | true ↦ ap (λ (before : Bool). held_after p before later) (granted_marks p walk.set.0 entry fits is) ∙ sym (held_after-cons p (holds walk.set.0 p) entry later)
  | false ↦ refl
]

pub set_after : (p : ℕ) → IsPermission p → (matching : AclEntry → Bool) (asked : Bool) (entries : List AclEntry) → All (λ entry. entry.deny.0 < 2 ^ 32) entries
    → (walk : Walk) → holds (after_entries matching asked entries walk).set.0 p ≡ held_after p (holds walk.set.0 p) (filter (applies asked) (filter matching entries))
unfolding after_entries after_match
set_after p is matching asked [] fit walk = refl
set_after p is matching asked (entry ∷ entries) fit walk =
    let fits : entry.deny.0 < 2 ^ 32 = All-head (λ (e : AclEntry). e.deny.0 < 2 ^ 32) entry entries fit in
    let later : (w : Walk) → holds (after_entries matching asked entries w).set.0 p ≡ held_after p (holds w.set.0 p) (filter (applies asked) (filter matching entries)) =
    set_after p is matching asked entries (All-tail (λ (e : AclEntry). e.deny.0 < 2 ^ 32) entry entries fit) in
    elim (matching entry) as (λ b. holds (after_entries matching asked entries (if b then after_match asked entry walk else walk)).set.0 p
    ≡ held_after p (holds walk.set.0 p) (filter (applies asked) (cond b (entry ∷ filter matching entries) (filter matching entries)))) [
      | true ↦ later (after_match asked entry walk) ∙ set_matched p is asked entry (filter (applies asked) (filter matching entries)) walk fits
      | false ↦ later walk
    ]

-- ---- one channel

-- the marks after a channel
pub traverse_passed : (policies : PolicyMap) (path : List ChannelId) (who : Actor) (place : ℕ) (asked : Bool) (channel : ChannelId) (walk : Walk)
    → (after_channel policies path who place asked (policies channel) walk).traverse ≡ held_after TRAVERSE.0 walk.traverse (matching_at policies path who place channel)
unfolding after_channel
traverse_passed policies path who place asked channel walk = elim (policies channel) as (λ policy. (after_channel policies path who place asked policy walk).traverse ≡ held_after TRAVERSE.0 walk.traverse (filter (matches policies path who place) (entries_of policy))) [
  | None ↦ refl
  | Some policy ↦ traverse_after (matches policies path who place) asked policy.acls (entering policy.inherit_acls walk)
]

pub write_passed : (policies : PolicyMap) (path : List ChannelId) (who : Actor) (place : ℕ) (asked : Bool) (channel : ChannelId) (walk : Walk)
    → (after_channel policies path who place asked (policies channel) walk).write ≡ held_after WRITE.0 walk.write (matching_at policies path who place channel)
unfolding after_channel
write_passed policies path who place asked channel walk = elim (policies channel) as (λ policy. (after_channel policies path who place asked policy walk).write ≡ held_after WRITE.0 walk.write (filter (matches policies path who place) (entries_of policy))) [
  | None ↦ refl
  | Some policy ↦ write_after (matches policies path who place) asked policy.acls (entering policy.inherit_acls walk)
]

-- a permission in the set with which a channel begins
abbrev pub begun : ℕ → Option ChannelPolicy → Walk → Bool
begun p policy walk = if starts_over policy then holds START.0 p else holds walk.set.0 p

entered : (p : ℕ) (inherit : Bool) (walk : Walk) → holds (entering inherit walk).set.0 p ≡ (if not inherit then holds START.0 p else holds walk.set.0 p)
entered p true walk = refl
entered p false walk = refl

set_of_policy : (p : ℕ) → IsPermission p → (policies : PolicyMap) (path : List ChannelId) (who : Actor) (place : ℕ) (asked : Bool) (policy : Option ChannelPolicy) (walk : Walk)
    → All (λ entry. entry.deny.0 < 2 ^ 32) (entries_of policy)
    → holds (after_channel policies path who place asked policy walk).set.0 p
    ≡ held_after p (begun p policy walk) (filter (applies asked) (filter (matches policies path who place) (entries_of policy)))
unfolding after_channel
set_of_policy p is policies path who place asked None walk fit = refl
set_of_policy p is policies path who place asked (Some policy) walk fit =
    set_after p is (matches policies path who place) asked policy.acls fit (entering policy.inherit_acls walk)
    ∙ ap (λ (b : Bool). held_after p b (filter (applies asked) (filter (matches policies path who place) policy.acls))) (entered p policy.inherit_acls walk)

fit_at : (policies : PolicyMap) (channel : ChannelId) → AreDeniesIn32Bits policies → All (λ entry. entry.deny.0 < 2 ^ 32) (entries_of (policies channel))
fit_at policies channel fit = elim (policies channel) as (λ policy. policies channel ≡ policy → All (λ entry. entry.deny.0 < 2 ^ 32) (entries_of policy)) [
  | None ↦ λ e. All-nil (λ (entry : AclEntry). entry.deny.0 < 2 ^ 32)
  | Some policy ↦ λ e. fit channel policy e
] refl

pub set_passed : (p : ℕ) → IsPermission p → (policies : PolicyMap) (path : List ChannelId) (who : Actor) (place : ℕ) (asked : Bool) (channel : ChannelId) (walk : Walk)
    → AreDeniesIn32Bits policies
    → holds (after_channel policies path who place asked (policies channel) walk).set.0 p
    ≡ held_after p (begun p (policies channel) walk) (filter (applies asked) (matching_at policies path who place channel))
set_passed p is policies path who place asked channel walk fit =
    set_of_policy p is policies path who place asked (policies channel) walk (fit_at policies channel fit)
