-- No two cuts hold of a session and a permission.
use Rattle.mum_why.proofs.Common.{◌≡◌, ◌∙◌, ℕ, zero, suc, ◌+◌, ◌-◌, ◌<◌, Bool, true, false, cond, List, [], ◌∷◌, ◌++◌, length, take, drop, get_or, Some, refl, sym, ap, subst, arith, ⊎_elim, Contains, filter, list_any, slice_get, cases_order, false≢true, or_right, drop-drop, drop_more, get_or-drop, length-drop, take-append-drop, take_more, All-contains, Contains-append_left, Contains-append_right, get_or_from_slice_get, none-some, same_Some, slice_get-get_or, slice_get_within, ChannelId, AclEntry, IsWayOpen, counting, entries_of, matching_at, names_permission, passes, starts_over, Actor, PolicyMap, applies, holds, is_asked, matches, contains_filtered, Closed, Denied, NeverGiven, RootOnly, SuperUser, CutsAreAlone, IsClosed, IsDenied, IsNeverGiven, NoneNames}

-- ---- lists

contains_there : {X : Type 0} (xs : List X) (i : ℕ) (x : X) → slice_get xs i ≡ Some x → Contains xs x
contains_there xs i x is = (i, slice_get_within xs i x is, get_or_from_slice_get xs i x x is)

-- what is at a place past the first ones
later_there : {X : Type 0} (xs : List X) (m k : ℕ) (x : X) → slice_get xs (m + k) ≡ Some x → slice_get (drop m xs) k ≡ Some x
later_there {X} xs m k x is =
    let within : m + k < length xs = slice_get_within xs (m + k) x is in
    slice_get-get_or (drop m xs) k x (omega (arith, length-drop m xs, within))
    ∙ ap (λ (y : X). Some y) (get_or-drop m xs k x ∙ get_or_from_slice_get xs (m + k) x x is)

none_named : (p : ℕ) (entries : List AclEntry) (entry : AclEntry) → NoneNames p entries → Contains entries entry → names_permission p entry ≡ true → ⊥
none_named p entries entry none has on = false≢true (sym (All-contains (λ (e : AclEntry). names_permission p e ≡ false) entries entry none has) ∙ on)

-- ---- entries that count

-- an entry that matches and applies counts, where no channel below starts over
counting_has : (policies : PolicyMap) (path : List ChannelId) (who : Actor) (place : ℕ) (channels : List ChannelId) (k : ℕ) (channel : ChannelId) (index : ℕ) (entry : AclEntry)
    → slice_get channels k ≡ Some channel → list_any (λ lower. starts_over (policies lower)) (drop (suc k) channels) ≡ false
    → slice_get (entries_of (policies channel)) index ≡ Some entry → matches policies path who (place + k) entry ≡ true
    → applies (is_asked (drop (suc k) channels)) entry ≡ true → Contains (counting policies path who place channels) entry
unfolding counting
counting_has policies path who place [] k channel index entry there counts in_list matched applied = absurd (none-some channel there)
counting_has policies path who place (first ∷ below) zero channel index entry there counts in_list matched applied =
    let same : first ≡ channel = same_Some first channel there in
    let own : List AclEntry = filter (applies (is_asked below)) (matching_at policies path who place first) in
    let has : Contains own entry =
    contains_filtered (applies (is_asked below)) (matching_at policies path who place first) entry
    (contains_filtered (matches policies path who place) (entries_of (policies first)) entry
    (contains_there (entries_of (policies first)) index entry (ap (λ (c : ChannelId). slice_get (entries_of (policies c)) index) same ∙ in_list))
    (ap (λ (n : ℕ). matches policies path who n entry) (omega arith) ∙ matched))
    applied in
    Contains-append_left (cond (list_any (λ lower. starts_over (policies lower)) below) [] own) (counting policies path who (place + 1) below) entry
    (subst (λ (b : Bool). Contains (cond b [] own) entry) (sym counts) has)
counting_has policies path who place (first ∷ below) (suc k) channel index entry there counts in_list matched applied =
    Contains-append_right
    (cond (list_any (λ lower. starts_over (policies lower)) below) [] (filter (applies (is_asked below)) (matching_at policies path who place first)))
    (counting policies path who (place + 1) below) entry
    (counting_has policies path who (place + 1) below k channel index entry there counts in_list
    (ap (λ (n : ℕ). matches policies path who n entry) (omega arith) ∙ matched) applied)

-- ---- two entries

denied_names : {policies : PolicyMap} {path : List ChannelId} {who : Actor} {p : ℕ} {channel : ChannelId} {index : ℕ} (d : IsDenied policies path who p channel index)
    → names_permission p d.entry ≡ true
denied_names {policies} {path} {who} {p} {channel} {index} d = or_right (holds d.entry.grant.0 p) (holds d.entry.deny.0 p) d.denies

-- no entry that takes it away is below another
not_below : {policies : PolicyMap} {path : List ChannelId} {who : Actor} {p : ℕ} {channel lower : ChannelId} {index other : ℕ} (d : IsDenied policies path who p channel index)
    (e : IsDenied policies path who p lower other) → d.place < e.place → ⊥
not_below {policies} {path} {who} {p} {channel} {lower} {index} {other} d e below =
    let k : ℕ = e.place - suc d.place in
    let at : suc d.place + k ≡ e.place = omega (arith, below) in
    let rest : drop (suc k) (drop (suc d.place) path) ≡ drop (suc e.place) path =
    let total : suc d.place + suc k ≡ suc e.place = omega (arith, at) in
    drop-drop (suc k) (suc d.place) path ∙ ap (λ (n : ℕ). drop n path) total in
    let same : d.place + 1 + k ≡ e.place = omega (arith, at) in
    none_named p (counting policies path who (d.place + 1) (drop (suc d.place) path)) e.entry d.none_below
    (counting_has policies path who (d.place + 1) (drop (suc d.place) path) k lower other e.entry
    (later_there path (suc d.place) k lower (ap (slice_get path) at ∙ e.on_path))
    (ap (list_any (λ one. starts_over (policies one))) rest ∙ e.counts) e.in_list
    (ap (λ (n : ℕ). matches policies path who n e.entry) same ∙ e.is_for_it)
    (ap (λ (cs : List ChannelId). applies (is_asked cs) e.entry) rest ∙ e.applicable))
    (denied_names e)

-- none is after another in one list
not_behind : {policies : PolicyMap} {path : List ChannelId} {who : Actor} {p : ℕ} {channel same : ChannelId} {index other : ℕ} (d : IsDenied policies path who p channel index)
    (e : IsDenied policies path who p same other) → d.place ≡ e.place → index < other → ⊥
not_behind {policies} {path} {who} {p} {channel} {same} {index} {other} d e at behind =
    let here : channel ≡ same = same_Some channel same (sym d.on_path ∙ ap (slice_get path) at ∙ e.on_path) in
    let k : ℕ = other - suc index in
    let past : suc index + k ≡ other = omega (arith, behind) in
    let own : List AclEntry = entries_of (policies channel) in
    let there : slice_get own (suc index + k) ≡ Some e.entry = ap (slice_get own) past ∙ ap (λ (c : ChannelId). slice_get (entries_of (policies c)) other) here ∙ e.in_list in
    none_named p (filter (applies (is_asked (drop (suc d.place) path))) (filter (matches policies path who d.place) (drop (suc index) own))) e.entry d.none_behind
    (contains_filtered (applies (is_asked (drop (suc d.place) path))) (filter (matches policies path who d.place) (drop (suc index) own)) e.entry
    (contains_filtered (matches policies path who d.place) (drop (suc index) own) e.entry
    (contains_there (drop (suc index) own) k e.entry (later_there own (suc index) k e.entry there))
    (ap (λ (n : ℕ). matches policies path who n e.entry) at ∙ e.is_for_it))
    (ap (λ (n : ℕ). applies (is_asked (drop (suc n) path)) e.entry) at ∙ e.applicable))
    (denied_names e)

two_denied : {policies : PolicyMap} {path : List ChannelId} {who : Actor} {p : ℕ} (channel other : ChannelId) (index place : ℕ) (d : IsDenied policies path who p channel index)
    (e : IsDenied policies path who p other place) → Denied channel index ≡ Denied other place
two_denied {policies} {path} {who} {p} channel other index place d e =
    ⊎_elim
    (λ (at : d.place ≡ e.place).
    ap (λ (c : ChannelId). Denied c index) (same_Some channel other (sym d.on_path ∙ ap (slice_get path) at ∙ e.on_path))
    ∙ ap (λ (n : ℕ). Denied other n)
    (⊎_elim (λ (same : index ≡ place). same)
    (⊎_elim (λ (first : index < place). absurd (not_behind d e at first)) (λ (later : place < index). absurd (not_behind e d (sym at) later)))
    (cases_order index place)))
    (⊎_elim (λ (above : d.place < e.place). absurd (not_below d e above)) (λ (below : e.place < d.place). absurd (not_below e d below)))
    (cases_order d.place e.place)

-- ---- where the walk ends

two_closed : {policies : PolicyMap} {path : List ChannelId} {who : Actor} (channel other : ChannelId) (d : IsClosed policies path who channel) (e : IsClosed policies path who other)
    → Closed channel ≡ Closed other
two_closed {policies} {path} {who} channel other d e =
    ⊎_elim
    (λ (at : d.place ≡ e.place). ap (λ (c : ChannelId). Closed c) (same_Some channel other (sym d.on_path ∙ ap (slice_get path) at ∙ e.on_path)))
    (⊎_elim (λ (above : d.place < e.place). absurd (false≢true (sym d.closed ∙ e.open_above d.place above)))
    (λ (below : e.place < d.place). absurd (false≢true (sym e.closed ∙ d.open_above e.place below))))
    (cases_order d.place e.place)

-- a way that is open ends nowhere
open_or_closed : (policies : PolicyMap) (path : List ChannelId) (who : Actor) (channel : ChannelId) → IsWayOpen policies path who → IsClosed policies path who channel → ⊥
open_or_closed policies path who channel open_ d =
    let within = slice_get_within path d.place channel d.on_path in
    let at : get_or path d.place channel ≡ channel = get_or_from_slice_get path d.place channel channel d.on_path in
    let rest : List ChannelId = drop (d.place + 1) path in
    let split : path ≡ take d.place path ++ channel ∷ rest =
    sym (take-append-drop d.place path)
    ∙ ap (λ (cs : List ChannelId). take d.place path ++ cs) (drop_more path d.place channel within ∙ ap (λ (c : ChannelId). c ∷ rest) at) in
    let down : take (suc d.place) path ≡ take d.place path ++ channel ∷ [] =
    let next : suc d.place ≡ d.place + 1 = omega arith in
    ap (λ (n : ℕ). take n path) next ∙ take_more path d.place channel within ∙ ap (λ (c : ChannelId). take d.place path ++ c ∷ []) at in
    false≢true (sym d.closed ∙ ap (passes policies path who) down ∙ open_ (take d.place path) rest channel split)

-- an entry that takes it away is one that names it
denied_or_never : {policies : PolicyMap} {path : List ChannelId} {who : Actor} {p : ℕ} {channel : ChannelId} {index : ℕ} (d : IsDenied policies path who p channel index)
    → IsNeverGiven policies path who p → ⊥
denied_or_never {policies} {path} {who} {p} {channel} {index} d n =
    none_named p (counting policies path who 0 path) d.entry n.unnamed
    (counting_has policies path who 0 path d.place channel index d.entry d.on_path d.counts d.in_list
    (ap (λ (k : ℕ). matches policies path who k d.entry) (omega arith) ∙ d.is_for_it) d.applicable)
    (denied_names d)

-- ---- all of them

pub cuts_are_alone : CutsAreAlone
cuts_are_alone policies path who p RootOnly RootOnly on also = refl
cuts_are_alone policies path who p RootOnly SuperUser on (off, super, voice) = absurd (false≢true (sym off ∙ on))
cuts_are_alone policies path who p RootOnly (Closed other) on ((off, rest), e) = absurd (false≢true (sym off ∙ on))
cuts_are_alone policies path who p RootOnly (Denied other place) on ((off, rest), opens, e) = absurd (false≢true (sym off ∙ on))
cuts_are_alone policies path who p RootOnly NeverGiven on ((off, rest), opens, e) = absurd (false≢true (sym off ∙ on))
cuts_are_alone policies path who p SuperUser RootOnly (off, super, voice) on = absurd (false≢true (sym off ∙ on))
cuts_are_alone policies path who p SuperUser SuperUser on also = refl
cuts_are_alone policies path who p SuperUser (Closed other) (off, super, voice) ((also, usual), e) = absurd (false≢true (sym usual ∙ super))
cuts_are_alone policies path who p SuperUser (Denied other place) (off, super, voice) ((also, usual), opens, e) = absurd (false≢true (sym usual ∙ super))
cuts_are_alone policies path who p SuperUser NeverGiven (off, super, voice) ((also, usual), opens, e) = absurd (false≢true (sym usual ∙ super))
cuts_are_alone policies path who p (Closed channel) RootOnly ((off, rest), d) on = absurd (false≢true (sym off ∙ on))
cuts_are_alone policies path who p (Closed channel) SuperUser ((also, usual), d) (off, super, voice) = absurd (false≢true (sym usual ∙ super))
cuts_are_alone policies path who p (Closed channel) (Closed other) (walk, d) (also, e) = two_closed channel other d e
cuts_are_alone policies path who p (Closed channel) (Denied other place) (walk, d) (also, open_, e) = absurd (open_or_closed policies path who channel open_ d)
cuts_are_alone policies path who p (Closed channel) NeverGiven (walk, d) (also, open_, e) = absurd (open_or_closed policies path who channel open_ d)
cuts_are_alone policies path who p (Denied channel index) RootOnly ((off, rest), opens, d) on = absurd (false≢true (sym off ∙ on))
cuts_are_alone policies path who p (Denied channel index) SuperUser ((also, usual), opens, d) (off, super, voice) = absurd (false≢true (sym usual ∙ super))
cuts_are_alone policies path who p (Denied channel index) (Closed other) (walk, open_, d) (also, e) = absurd (open_or_closed policies path who other open_ e)
cuts_are_alone policies path who p (Denied channel index) (Denied other place) (walk, open_, d) (also, too, e) = two_denied channel other index place d e
cuts_are_alone policies path who p (Denied channel index) NeverGiven (walk, open_, d) (also, too, e) = absurd (denied_or_never d e)
cuts_are_alone policies path who p NeverGiven RootOnly ((off, rest), opens, d) on = absurd (false≢true (sym off ∙ on))
cuts_are_alone policies path who p NeverGiven SuperUser ((also, usual), opens, d) (off, super, voice) = absurd (false≢true (sym usual ∙ super))
cuts_are_alone policies path who p NeverGiven (Closed other) (walk, open_, d) (also, e) = absurd (open_or_closed policies path who other open_ e)
cuts_are_alone policies path who p NeverGiven (Denied other place) (walk, open_, d) (also, too, e) = absurd (denied_or_never e d)
cuts_are_alone policies path who p NeverGiven NeverGiven on also = refl
