-- What is said of a permission that a session lacks does hold.
use Rattle.mum_why.proofs.Common.{◌≡◌, ℕ, zero, suc, ◌+◌, ◌<◌, ◌&&◌, ◌||◌, ◌⊎◌, inl, inr, Bool, true, false, cond, not, List, [], ◌∷◌, ◌++◌, length, take, drop, reverse, find, refl, sym, ap, subst, ◌∙◌, arith, bit_or, Option, Some, None, append_assoc, All, filter, list_any, slice_get, option_map, option_map_or, option_or, and_parts, false≢true, not-false, or_parts, reverse-append, All-append, All-cons, All-head, All-nil, All-tail, find-append, none-some, ChannelId, ALL, BY_WRITE, ROOT_ONLY, SPEAK, START, WHISPER, WRITE, AclEntry, AreDeniesIn32Bits, IsPermission, IsWayOpen, counting, entries_of, held_by, is_held, is_super_user, last_naming, names_permission, passes, starts_over, Actor, PolicyMap, applies, full_set, holds, is_asked, matches, on_root, perm, holds_or, entries_decide, perm_super, Closed, RootOnly, SuperUser, by_entry, closed_below, cut, last_along, last_in, last_place, CutHolds, IsByWalk, NoneNames}

-- ---- the last entry of a list

or_none : {X : Type 0} (o : Option X) → option_or o None ≡ o
or_none None = refl
or_none (Some x) = refl

-- of two lists, one after the other, the last entry that names a permission
naming-append : (p : ℕ) (first later : List AclEntry) → last_naming p (first ++ later) ≡ option_or (last_naming p later) (last_naming p first)
naming-append p first later =
    ap (find (names_permission p)) (reverse-append first later) ∙ find-append (names_permission p) (reverse later) (reverse first)

-- those that match and apply
abbrev pub kept : (AclEntry → Bool) → (AclEntry → Bool) → List AclEntry → List AclEntry
kept m a entries = filter a (filter m entries)

-- an entry matches, applies and names the permission
abbrev pub all_three : (AclEntry → Bool) → (AclEntry → Bool) → ℕ → AclEntry → Bool
all_three m a p entry = m entry && a entry && names_permission p entry

-- an entry before others
kept_more : (m a : AclEntry → Bool) (p : ℕ) (x : AclEntry) (xs : List AclEntry)
    → last_naming p (kept m a (x ∷ xs)) ≡ option_or (last_naming p (kept m a xs)) (cond (all_three m a p x) (Some x) None)
kept_more m a p x xs = by_tests (m x) refl (a x) refl
  where
    by_tests : (b : Bool) → m x ≡ b → (c : Bool) → a x ≡ c
        → last_naming p (filter a (cond b (x ∷ filter m xs) (filter m xs)))
        ≡ option_or (last_naming p (kept m a xs)) (cond (b && a x && names_permission p x) (Some x) None)
    by_tests true on true here =
        ap (λ (c : Bool). last_naming p (cond c (x ∷ kept m a xs) (kept m a xs))) here
        ∙ naming-append p (x ∷ []) (kept m a xs)
        ∙ ap (λ (c : Bool). option_or (last_naming p (kept m a xs)) (cond (c && names_permission p x) (Some x) None)) (sym here)
    by_tests true on false off =
        ap (λ (c : Bool). last_naming p (cond c (x ∷ kept m a xs) (kept m a xs))) off
        ∙ sym (or_none (last_naming p (kept m a xs)))
        ∙ ap (λ (c : Bool). option_or (last_naming p (kept m a xs)) (cond (c && names_permission p x) (Some x) None)) (sym off)
    by_tests false off c any = sym (or_none (last_naming p (kept m a xs)))

-- no entry of a list matches, applies and names the permission
pub record IsUnnamed (m a : AclEntry → Bool) (p : ℕ) (entries : List AclEntry) : Type 0 where
  pub none : All (λ entry. all_three m a p entry ≡ false) entries
  pub unnamed : last_naming p (kept m a entries) ≡ None

-- this is the last that does
pub record IsNamedLast (m a : AclEntry → Bool) (p : ℕ) (entries : List AclEntry) (index : ℕ) : Type 0 where
  pub entry : AclEntry
  pub is : slice_get entries index ≡ Some entry
  pub tested : all_three m a p entry ≡ true
  pub behind : All (λ later. all_three m a p later ≡ false) (drop (suc index) entries)
  pub last : last_naming p (kept m a entries) ≡ Some entry

abbrev pub Outcome : (AclEntry → Bool) → (AclEntry → Bool) → ℕ → List AclEntry → Type 0
Outcome m a p entries =
    ((last_place (all_three m a p) entries ≡ None) × IsUnnamed m a p entries)
    ⊎ ((index : ℕ) × (last_place (all_three m a p) entries ≡ Some index) × IsNamedLast m a p entries index)

place_more : (passing : AclEntry → Bool) (x : AclEntry) (xs : List AclEntry)
    → last_place passing (x ∷ xs) ≡ option_or (option_map suc (last_place passing xs)) (cond (passing x) (Some 0) None)
unfolding last_place
place_more passing x xs = refl

place_none : (passing : AclEntry → Bool) → last_place passing [] ≡ None
unfolding last_place
place_none passing = refl

-- where none of the later entries does
outcome_here : (m a : AclEntry → Bool) (p : ℕ) (x : AclEntry) (xs : List AclEntry) → last_place (all_three m a p) xs ≡ None → IsUnnamed m a p xs
    → (b : Bool) → all_three m a p x ≡ b → Outcome m a p (x ∷ xs)
outcome_here m a p x xs none_later later true here =
    inr (
      0,
      place_more (all_three m a p) x xs
          ∙ ap (λ (o : Option ℕ). option_or (option_map suc o) (cond (all_three m a p x) (Some 0) None)) none_later
          ∙ ap (λ (b : Bool). cond b (Some 0) None) here,
      record {
        entry = x;
        is = refl;
        tested = here;
        behind = later.none;
        last = kept_more m a p x xs
            ∙ ap (λ (o : Option AclEntry). option_or o (cond (all_three m a p x) (Some x) None)) later.unnamed
            ∙ ap (λ (b : Bool). cond b (Some x) None) here;
      },
    )
outcome_here m a p x xs none_later later false off =
    inl (
      place_more (all_three m a p) x xs
          ∙ ap (λ (o : Option ℕ). option_or (option_map suc o) (cond (all_three m a p x) (Some 0) None)) none_later
          ∙ ap (λ (b : Bool). cond b (Some 0) None) off,
      record {
        none = All-cons (λ (entry : AclEntry). all_three m a p entry ≡ false) x xs off later.none;
        unnamed = kept_more m a p x xs
            ∙ ap (λ (o : Option AclEntry). option_or o (cond (all_three m a p x) (Some x) None)) later.unnamed
            ∙ ap (λ (b : Bool). cond b (Some x) None) off;
      },
    )

outcome_more : (m a : AclEntry → Bool) (p : ℕ) (x : AclEntry) (xs : List AclEntry) → Outcome m a p xs → Outcome m a p (x ∷ xs)
outcome_more m a p x xs (inl (none_later, later)) = outcome_here m a p x xs none_later later (all_three m a p x) refl
outcome_more m a p x xs (inr (index, found, later)) =
    inr (
      suc index,
      place_more (all_three m a p) x xs
          ∙ ap (λ (o : Option ℕ). option_or (option_map suc o) (cond (all_three m a p x) (Some 0) None)) found,
      record {
        entry = later.entry;
        is = later.is;
        tested = later.tested;
        behind = later.behind;
        last = kept_more m a p x xs ∙ ap (λ (o : Option AclEntry). option_or o (cond (all_three m a p x) (Some x) None)) later.last;
      },
    )

outcome_of : (m a : AclEntry → Bool) (p : ℕ) (entries : List AclEntry) → Outcome m a p entries
outcome_of m a p [] = inl (place_none (all_three m a p), record { none = All-nil (λ (entry : AclEntry). all_three m a p entry ≡ false); unnamed = refl })
outcome_of m a p (x ∷ xs) = outcome_more m a p x xs (outcome_of m a p xs)

-- what no test of three passes, does not name the permission where it passes the first two
none_kept : (m a : AclEntry → Bool) (p : ℕ) (entries : List AclEntry) → All (λ entry. all_three m a p entry ≡ false) entries → NoneNames p (kept m a entries)
none_kept m a p [] none = All-nil (λ (entry : AclEntry). names_permission p entry ≡ false)
none_kept m a p (x ∷ xs) none =
    by_tests (m x) refl (a x) refl (All-head (λ (entry : AclEntry). all_three m a p entry ≡ false) x xs none)
    (none_kept m a p xs (All-tail (λ (entry : AclEntry). all_three m a p entry ≡ false) x xs none))
  where
    by_tests : (b : Bool) → m x ≡ b → (c : Bool) → a x ≡ c → all_three m a p x ≡ false → NoneNames p (kept m a xs)
        → NoneNames p (filter a (cond b (x ∷ filter m xs) (filter m xs)))
    by_tests true on true here first rest =
        subst (λ (c : Bool). NoneNames p (cond c (x ∷ kept m a xs) (kept m a xs))) (sym here)
        (All-cons (λ (entry : AclEntry). names_permission p entry ≡ false) x (kept m a xs)
        (ap (λ (c : Bool). c && names_permission p x) (sym here) ∙ ap (λ (b : Bool). b && a x && names_permission p x) (sym on) ∙ first) rest)
    by_tests true on false off first rest = subst (λ (c : Bool). NoneNames p (cond c (x ∷ kept m a xs) (kept m a xs))) (sym off) rest
    by_tests false off c any first rest = rest

-- ---- the last entry of a path

-- the places of a path from one on: nothing that counts names the permission
pub record IsUnnamedAlong (policies : PolicyMap) (path : List ChannelId) (who : Actor) (p place : ℕ) (channels : List ChannelId) : Type 0 where
  pub none : NoneNames p (counting policies path who place channels)
  pub unnamed : last_naming p (counting policies path who place channels) ≡ None

-- this is the last that does
pub record IsLastAlong (policies : PolicyMap) (path : List ChannelId) (who : Actor) (p place : ℕ) (channels : List ChannelId) (found : ChannelId × ℕ) : Type 0 where
  pub n : ℕ
  pub at : ℕ
  pub at_is : at ≡ place + n
  pub entry : AclEntry
  pub on_path : slice_get channels n ≡ Some found.0
  pub in_list : slice_get (entries_of (policies found.0)) found.1 ≡ Some entry
  pub tested : all_three (matches policies path who at) (applies (is_asked (drop (suc n) channels))) p entry ≡ true
  pub counts : list_any (λ lower. starts_over (policies lower)) (drop (suc n) channels) ≡ false
  pub behind : NoneNames p (kept (matches policies path who at) (applies (is_asked (drop (suc n) channels))) (drop (suc found.1) (entries_of (policies found.0))))
  pub below : NoneNames p (counting policies path who (at + 1) (drop (suc n) channels))
  pub last : last_naming p (counting policies path who place channels) ≡ Some entry

abbrev pub Along : PolicyMap → List ChannelId → Actor → ℕ → ℕ → List ChannelId → Type 0
Along policies path who p place channels =
    ((last_along policies path who p place channels ≡ None) × IsUnnamedAlong policies path who p place channels)
    ⊎ ((found : ChannelId × ℕ) × (last_along policies path who p place channels ≡ Some found) × IsLastAlong policies path who p place channels found)

-- one channel, before entries that count and do not name the permission
abbrev pub Step : ℕ → ChannelId → (AclEntry → Bool) → (AclEntry → Bool) → List AclEntry → List AclEntry → Bool → Type 0
Step p channel m a own later over =
    ((cond {A = Option (ChannelId × ℕ)} over None (option_map (λ index. (channel, index)) (last_place (all_three m a p) own)) ≡ None)
    × NoneNames p (cond over [] (kept m a own) ++ later) × (last_naming p (cond over [] (kept m a own) ++ later) ≡ None))
    ⊎ ((index : ℕ) × (over ≡ false) × (cond {A = Option (ChannelId × ℕ)} over None (option_map (λ i. (channel, i)) (last_place (all_three m a p) own)) ≡ Some (channel, index))
    × (named : IsNamedLast m a p own index) × (last_naming p (cond over [] (kept m a own) ++ later) ≡ Some named.entry))

step_here : (p : ℕ) (channel : ChannelId) (m a : AclEntry → Bool) (own later : List AclEntry) → NoneNames p later → last_naming p later ≡ None
    → Outcome m a p own → Step p channel m a own later false
step_here p channel m a own later none unnamed (inl (none_here, here)) = inl (
  ap (option_map (λ (index : ℕ). (channel, index))) none_here,
  All-append (λ (entry : AclEntry). names_permission p entry ≡ false) (kept m a own) later (none_kept m a p own here.none) none,
  naming-append p (kept m a own) later ∙ ap (λ (o : Option AclEntry). option_or o (last_naming p (kept m a own))) unnamed ∙ here.unnamed,
)
step_here p channel m a own later none unnamed (inr (index, found, here)) = inr (
  index,
  refl,
  ap (option_map (λ (i : ℕ). (channel, i))) found,
  here,
  naming-append p (kept m a own) later ∙ ap (λ (o : Option AclEntry). option_or o (last_naming p (kept m a own))) unnamed ∙ here.last,
)

step_of : (p : ℕ) (channel : ChannelId) (m a : AclEntry → Bool) (own later : List AclEntry) (over : Bool) → NoneNames p later → last_naming p later ≡ None
    → Step p channel m a own later over
step_of p channel m a own later true none unnamed = inl (refl, none, unnamed)
step_of p channel m a own later false none unnamed = step_here p channel m a own later none unnamed (outcome_of m a p own)

along_step : (policies : PolicyMap) (path : List ChannelId) (who : Actor) (p place : ℕ) (channel : ChannelId) (below : List ChannelId)
    → last_along policies path who p (place + 1) below ≡ None → IsUnnamedAlong policies path who p (place + 1) below
    → Step p channel (matches policies path who place) (applies (is_asked below)) (entries_of (policies channel)) (counting policies path who (place + 1) below)
    (list_any (λ lower. starts_over (policies lower)) below)
    → Along policies path who p place (channel ∷ below)
unfolding counting last_along
along_step policies path who p place channel below none_later later (inl (none_here, none, unnamed)) = inl (
  ap (λ (o : Option (ChannelId × ℕ)). option_or o (cond (list_any (λ lower. starts_over (policies lower)) below) None
      (option_map (λ index. (channel, index)) (last_in policies path who p place (is_asked below) channel)))) none_later
      ∙ none_here,
  record { none = none; unnamed = unnamed },
)
along_step policies path who p place channel below none_later later (inr (index, off, found_here, named, last_is)) = inr (
  (channel, index),
  ap (λ (o : Option (ChannelId × ℕ)). option_or o (cond (list_any (λ lower. starts_over (policies lower)) below) None
      (option_map (λ i. (channel, i)) (last_in policies path who p place (is_asked below) channel)))) none_later
      ∙ found_here,
  record {
    n = 0;
    at = place;
    at_is = omega arith;
    entry = named.entry;
    on_path = refl;
    in_list = named.is;
    tested = named.tested;
    counts = off;
    behind = none_kept (matches policies path who place) (applies (is_asked below)) p (drop (suc index) (entries_of (policies channel))) named.behind;
    below = later.none;
    last = last_is;
  },
)

along_below : (policies : PolicyMap) (path : List ChannelId) (who : Actor) (p place : ℕ) (channel : ChannelId) (below : List ChannelId) (found : ChannelId × ℕ)
    → last_along policies path who p (place + 1) below ≡ Some found → IsLastAlong policies path who p (place + 1) below found
    → Along policies path who p place (channel ∷ below)
unfolding counting last_along
along_below policies path who p place channel below found is r =
    let over : Bool = list_any (λ lower. starts_over (policies lower)) below in
    let own : List AclEntry = kept (matches policies path who place) (applies (is_asked below)) (entries_of (policies channel)) in
    inr (
      found,
      ap (λ (o : Option (ChannelId × ℕ)). option_or o (cond over None
          (option_map (λ index. (channel, index)) (last_in policies path who p place (is_asked below) channel)))) is,
      record {
        n = suc r.n;
        at = r.at;
        at_is = omega (arith, r.at_is);
        entry = r.entry;
        on_path = r.on_path;
        in_list = r.in_list;
        tested = r.tested;
        counts = r.counts;
        behind = r.behind;
        below = r.below;
        last = naming-append p (cond over [] own) (counting policies path who (place + 1) below)
            ∙ ap (λ (o : Option AclEntry). option_or o (last_naming p (cond over [] own))) r.last;
      },
    )

along_more : (policies : PolicyMap) (path : List ChannelId) (who : Actor) (p place : ℕ) (channel : ChannelId) (below : List ChannelId)
    → Along policies path who p (place + 1) below → Along policies path who p place (channel ∷ below)
along_more policies path who p place channel below (inl (none_later, later)) =
    along_step policies path who p place channel below none_later later
    (step_of p channel (matches policies path who place) (applies (is_asked below)) (entries_of (policies channel)) (counting policies path who (place + 1) below)
    (list_any (λ lower. starts_over (policies lower)) below) later.none later.unnamed)
along_more policies path who p place channel below (inr (found, is, r)) = along_below policies path who p place channel below found is r

along_end : (policies : PolicyMap) (path : List ChannelId) (who : Actor) (p place : ℕ) → Along policies path who p place []
unfolding counting last_along
along_end policies path who p place = inl (refl, record { none = All-nil (λ (entry : AclEntry). names_permission p entry ≡ false); unnamed = refl })

pub along_of : (policies : PolicyMap) (path : List ChannelId) (who : Actor) (p place : ℕ) (channels : List ChannelId) → Along policies path who p place channels
along_of policies path who p place [] = along_end policies path who p place
along_of policies path who p place (channel ∷ below) = along_more policies path who p place channel below (along_of policies path who p (place + 1) below)

-- ---- where the walk ends

-- what holds of the first and of those after it holds of all up to some place
first_or : (P : ℕ → Type 0) (n : ℕ) → P 0 → ((k : ℕ) → k < n → P (suc k)) → (m : ℕ) → m < suc n → P m
first_or P n first more zero under = first
first_or P n first more (suc k) under = more k (omega arith)

-- after others, the channel is the first of these that the session does not pass
pub record IsFirstClosed (policies : PolicyMap) (path : List ChannelId) (who : Actor) (above below : List ChannelId) (channel : ChannelId) : Type 0 where
  pub n : ℕ
  pub there : slice_get below n ≡ Some channel
  pub open_above : (m : ℕ) → m < n → passes policies path who (above ++ take (suc m) below) ≡ true
  pub closed : passes policies path who (above ++ take (suc n) below) ≡ false

closed_found : (policies : PolicyMap) (path : List ChannelId) (who : Actor) (above below : List ChannelId) (channel : ChannelId)
    → closed_below policies path who above below ≡ Some channel → IsFirstClosed policies path who above below channel
unfolding closed_below
closed_found policies path who above [] channel is = absurd (none-some channel is)
closed_found policies path who above (x ∷ rest) channel is = by_first (passes policies path who (above ++ x ∷ [])) refl is (closed_found policies path who (above ++ x ∷ []) rest channel)
  where
    by_first : (b : Bool) → passes policies path who (above ++ x ∷ []) ≡ b
        → cond b (closed_below policies path who (above ++ x ∷ []) rest) (Some x) ≡ Some channel
        → (closed_below policies path who (above ++ x ∷ []) rest ≡ Some channel → IsFirstClosed policies path who (above ++ x ∷ []) rest channel)
        → IsFirstClosed policies path who above (x ∷ rest) channel
    by_first true on is later =
        let r = later is in
        record {
          n = suc r.n;
          there = r.there;
          open_above = first_or (λ m. passes policies path who (above ++ take (suc m) (x ∷ rest)) ≡ true) r.n on
              (λ k under. sym (ap (passes policies path who) (append_assoc above (x ∷ []) (take (suc k) rest))) ∙ r.open_above k under);
          closed = sym (ap (passes policies path who) (append_assoc above (x ∷ []) (take (suc r.n) rest))) ∙ r.closed;
        }
    by_first false off is later = record { n = 0; there = is; open_above = λ m under. absurd (omega arith); closed = off }

-- the session passes each of them
closed_none : (policies : PolicyMap) (path : List ChannelId) (who : Actor) (above below : List ChannelId)
    → closed_below policies path who above below ≡ None
    → (m : ℕ) → m < length below → passes policies path who (above ++ take (suc m) below) ≡ true
unfolding closed_below
closed_none policies path who above [] is m under = absurd (omega arith)
closed_none policies path who above (x ∷ rest) is m under =
    by_first (passes policies path who (above ++ x ∷ [])) refl is (closed_none policies path who (above ++ x ∷ []) rest) m under
  where
    by_first : (b : Bool) → passes policies path who (above ++ x ∷ []) ≡ b
        → cond b (closed_below policies path who (above ++ x ∷ []) rest) (Some x) ≡ None
        → (closed_below policies path who (above ++ x ∷ []) rest ≡ None
        → (k : ℕ) → k < length rest → passes policies path who ((above ++ x ∷ []) ++ take (suc k) rest) ≡ true)
        → (m : ℕ) → m < length (x ∷ rest) → passes policies path who (above ++ take (suc m) (x ∷ rest)) ≡ true
    by_first true on is later zero under = on
    by_first true on is later (suc k) under =
        sym (ap (passes policies path who) (append_assoc above (x ∷ []) (take (suc k) rest))) ∙ later is k (omega arith)
    by_first false off is later m under = absurd (none-some x (sym is))

-- the channels of a path down to one
taken_to : (above below : List ChannelId) (channel : ChannelId) → take (suc (length above)) (above ++ channel ∷ below) ≡ above ++ channel ∷ []
taken_to [] below channel = refl
taken_to (x ∷ above) below channel =
    let one_more : length (x ∷ above) ≡ suc (length above) = omega arith in
    ap (λ (n : ℕ). take (suc n) (x ∷ above ++ channel ∷ below)) one_more ∙ ap (λ (cs : List ChannelId). x ∷ cs) (taken_to above below channel)

within_path : (above below : List ChannelId) (channel : ChannelId) → length above < length (above ++ channel ∷ below)
within_path [] below channel = omega arith
within_path (x ∷ above) below channel = omega (arith, within_path above below channel)

pub way_open : (policies : PolicyMap) (path : List ChannelId) (who : Actor) → closed_below policies path who [] path ≡ None → IsWayOpen policies path who
way_open policies path who none above below channel split =
    ap (passes policies path who) (sym (ap (take (suc (length above))) split ∙ taken_to above below channel))
    ∙ closed_none policies path who [] path none (length above)
    (subst (λ (cs : List ChannelId). length above < length cs) (sym split) (within_path above below channel))

-- ---- SuperUser

or_off : (a b : Bool) → a ≡ false → (a || b) ≡ b
or_off a b off = ap (λ (t : Bool). t || b) off

-- all is what Write adds, what is of the root, and voice
all_of_three : (p : ℕ) → IsPermission p → holds ALL.0 p ≡ ((holds BY_WRITE.0 p || holds ROOT_ONLY.0 p) || holds (bit_or SPEAK.0 WHISPER.0) p)
all_of_three p is =
    holds_or (bit_or BY_WRITE.0 ROOT_ONLY.0) (bit_or SPEAK.0 WHISPER.0) p is
    ∙ ap (λ (t : Bool). t || holds (bit_or SPEAK.0 WHISPER.0) p) (holds_or BY_WRITE.0 ROOT_ONLY.0 p is)

voice_alone : (root : Bool) (p : ℕ) → IsPermission p → holds (full_set root) p ≡ false → (not root && holds ROOT_ONLY.0 p) ≡ false
    → holds ALL.0 p ≡ true → holds (bit_or SPEAK.0 WHISPER.0) p ≡ true
voice_alone true p is lacks allowed known =
    sym (or_off (holds BY_WRITE.0 p || holds ROOT_ONLY.0 p) (holds (bit_or SPEAK.0 WHISPER.0) p) (sym (holds_or BY_WRITE.0 ROOT_ONLY.0 p is) ∙ lacks))
    ∙ sym (all_of_three p is) ∙ known
voice_alone false p is lacks allowed known =
    sym (or_off (holds BY_WRITE.0 p || holds ROOT_ONLY.0 p) (holds (bit_or SPEAK.0 WHISPER.0) p)
    (ap (λ (t : Bool). t || holds ROOT_ONLY.0 p) lacks ∙ allowed))
    ∙ sym (all_of_three p is) ∙ known

-- ---- the cut

lacking : (root only held rest : Bool) → (not root && only) ≡ false → ((root || not only) && (held || rest)) ≡ false → held ≡ false
lacking true only held rest allowed lacks = (or_parts held rest lacks).0
lacking false true held rest allowed lacks = absurd (false≢true (sym allowed))
lacking false false held rest allowed lacks = (or_parts held rest lacks).0

-- where a permission is lacking, the entries do not leave it
unheld : (policies : PolicyMap) (path : List ChannelId) (who : Actor) (p : ℕ) → AreDeniesIn32Bits policies → IsPermission p → is_super_user who ≡ false
    → IsWayOpen policies path who → (not (on_root path) && holds ROOT_ONLY.0 p) ≡ false → holds (perm policies path who) p ≡ false
    → is_held policies path who p ≡ false
unheld policies path who p fit is other open_ allowed lacks =
    lacking (on_root path) (holds ROOT_ONLY.0 p) (is_held policies path who p) (is_held policies path who WRITE.0 && holds (full_set (on_root path)) p) allowed
    (sym (entries_decide policies path who p fit is other open_) ∙ lacks)

-- by the last entry that names it
by_entries : (policies : PolicyMap) (path : List ChannelId) (who : Actor) (p : ℕ) → IsByWalk path who p → IsWayOpen policies path who → is_held policies path who p ≡ false
    → Along policies path who p 0 path → CutHolds policies path who p (by_entry (last_along policies path who p 0 path))
by_entries policies path who p walks open_ unheld_ (inl (none, unnamed)) =
    subst (λ (o : Option (ChannelId × ℕ)). CutHolds policies path who p (by_entry o)) (sym none)
    (walks, open_, record { unnamed = unnamed.none; not_at_first = ap (held_by p (holds START.0 p)) (sym unnamed.unnamed) ∙ unheld_ })
by_entries policies path who p walks open_ unheld_ (inr (found, is, r)) =
    let place_is : r.at ≡ r.n = omega (arith, r.at_is) in
    let three = and_parts (matches policies path who r.at r.entry && applies (is_asked (drop (suc r.n) path)) r.entry) (names_permission p r.entry) r.tested in
    let two = and_parts (matches policies path who r.at r.entry) (applies (is_asked (drop (suc r.n) path)) r.entry) three.0 in
    subst (λ (o : Option (ChannelId × ℕ)). CutHolds policies path who p (by_entry o)) (sym is) (
      walks,
      open_,
      record {
        place = r.n;
        entry = r.entry;
        on_path = r.on_path;
        in_list = r.in_list;
        is_for_it = subst (λ (k : ℕ). matches policies path who k r.entry ≡ true) place_is two.0;
        applicable = two.1;
        denies = not-false (holds r.entry.deny.0 p) (ap (held_by p (holds START.0 p)) (sym r.last) ∙ unheld_);
        counts = r.counts;
        none_behind = subst (λ (k : ℕ). NoneNames p (kept (matches policies path who k) (applies (is_asked (drop (suc r.n) path))) (drop (suc found.1) (entries_of (policies found.0))))) place_is r.behind;
        none_below = subst (λ (k : ℕ). NoneNames p (counting policies path who (k + 1) (drop (suc r.n) path))) place_is r.below;
      },
    )

-- by where the walk ends
by_walk : (policies : PolicyMap) (path : List ChannelId) (who : Actor) (p : ℕ) → AreDeniesIn32Bits policies → IsPermission p → is_super_user who ≡ false
    → (not (on_root path) && holds ROOT_ONLY.0 p) ≡ false → holds (perm policies path who) p ≡ false → (closed : Option ChannelId)
    → closed_below policies path who [] path ≡ closed
    → CutHolds policies path who p (option_map_or Closed closed (by_entry (last_along policies path who p 0 path)))
by_walk policies path who p fit is other allowed lacks None none =
    let open_ : IsWayOpen policies path who = way_open policies path who none in
    by_entries policies path who p (allowed, other) open_ (unheld policies path who p fit is other open_ allowed lacks) (along_of policies path who p 0 path)
by_walk policies path who p fit is other allowed lacks (Some channel) found =
    let r = closed_found policies path who [] path channel found in
    ((allowed, other), record { place = r.n; on_path = r.there; open_above = r.open_above; closed = r.closed })

-- by SuperUser
by_super : (policies : PolicyMap) (path : List ChannelId) (who : Actor) (p : ℕ) → AreDeniesIn32Bits policies → IsPermission p
    → (not (on_root path) && holds ROOT_ONLY.0 p) ≡ false → holds (perm policies path who) p ≡ false → (super : Bool) → is_super_user who ≡ super
    → CutHolds policies path who p
    (cond super SuperUser (option_map_or Closed (closed_below policies path who [] path) (by_entry (last_along policies path who p 0 path))))
by_super policies path who p fit is allowed lacks true super = (
  allowed,
  super,
  voice_alone (on_root path) p is (ap (λ (set : ℕ). holds set p) (perm_super policies path who true (on_root path) (sym super) refl refl) ∙ lacks) allowed,
)
by_super policies path who p fit is allowed lacks false other = by_walk policies path who p fit is other allowed lacks (closed_below policies path who [] path) refl

by_root : (policies : PolicyMap) (path : List ChannelId) (who : Actor) (p : ℕ) → AreDeniesIn32Bits policies → IsPermission p
    → holds (perm policies path who) p ≡ false → (only : Bool) → (not (on_root path) && holds ROOT_ONLY.0 p) ≡ only
    → CutHolds policies path who p
    (cond only RootOnly (cond (is_super_user who) SuperUser (option_map_or Closed (closed_below policies path who [] path) (by_entry (last_along policies path who p 0 path)))))
by_root policies path who p fit is lacks true on = on
by_root policies path who p fit is lacks false off = by_super policies path who p fit is off lacks (is_super_user who) refl

pub cut_holds : (policies : PolicyMap) (path : List ChannelId) (who : Actor) (p : ℕ) → AreDeniesIn32Bits policies → IsPermission p
    → holds (perm policies path who) p ≡ false → CutHolds policies path who p (cut policies path who p)
cut_holds policies path who p fit is lacks = by_root policies path who p fit is lacks (not (on_root path) && holds ROOT_ONLY.0 p) refl
