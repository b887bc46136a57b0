-- One entry more, and one channel more, of a walk.
use Rattle.mum_policy.proofs.Common.{◌≡◌, ℕ, suc, ◌+◌, ◌<◌, ◌≤◌, ◌==◌, Bool, true, false, List, ◌∷◌, length, get_or, drop, refl, sym, ap, ◌∙◌, drop-cons, add-one, add-zero, arith, inl, inr, Option, Some, None, if◌then◌else◌, drop_of_length-le, cases_lt, eq-eqb, ne_eqb, SUPER_USER, ChannelId, AclEntry, ChannelPolicy, Walk, Actor, PolicyMap, goes_on, after_match, after_entries, after_policy, after_channel, entry_count, is_asked, along, visits_along, is_account, full_set, on_root, set_of, perm, visits, walk_start}

-- ---- entries

rest_at : {X : Type 0} (xs : List X) (i : ℕ) (x : X) → i < length xs → x ≡ get_or xs i x → drop i xs ≡ x ∷ drop (i + 1) xs
rest_at {X} xs i x lt is = rw (add-one i) (drop-cons xs i x lt ∙ ap (λ (y : X). y ∷ drop (suc i) xs) (sym is))

drop_at : {X : Type 0} (xs : List X) (i : ℕ) (d : X) → i < length xs → drop i xs ≡ get_or xs i d ∷ drop (i + 1) xs
drop_at {X} xs i d lt = rw (add-one i) (drop-cons xs i d lt)

pub entries_as : (matching : AclEntry → Bool) (asked : Bool) (entries acls : List AclEntry) (walk from : Walk) → entries ≡ acls → walk ≡ from
    → after_entries matching asked entries walk ≡ after_entries matching asked acls from
entries_as matching asked entries acls walk from e f = cc

entries_next : (matching : AclEntry → Bool) (asked : Bool) (entries : List AclEntry) (i : ℕ) (entry : AclEntry) (walk : Walk) (matches : Bool)
    → i < length entries → entry ≡ get_or entries i entry → matches ≡ matching entry
    → after_entries matching asked (drop i entries) walk ≡ after_entries matching asked (drop (i + 1) entries) (if matches then after_match asked entry walk else walk)
unfolding after_entries
entries_next matching asked entries i entry walk matches lt is e =
    ap (λ (rest : List AclEntry). after_entries matching asked rest walk) (rest_at entries i entry lt is)
    ∙ ap (λ (b : Bool). after_entries matching asked (drop (i + 1) entries) (if b then after_match asked entry walk else walk)) (sym e)

pub entries_matched : (matching : AclEntry → Bool) (asked : Bool) (entries : List AclEntry) (i : ℕ) (entry : AclEntry) (walk after : Walk) (matches : Bool)
    → i < length entries → entry ≡ get_or entries i entry → matches ≡ matching entry → matches ≡ true → after ≡ after_match asked entry walk
    → after_entries matching asked (drop (i + 1) entries) after ≡ after_entries matching asked (drop i entries) walk
entries_matched matching asked entries i entry walk after matches lt is e is_true after_is =
    ap (λ (w : Walk). after_entries matching asked (drop (i + 1) entries) w) after_is
    ∙ sym (entries_next matching asked entries i entry walk true lt is (sym is_true ∙ e))

pub entries_passed : (matching : AclEntry → Bool) (asked : Bool) (entries : List AclEntry) (i : ℕ) (entry : AclEntry) (walk after : Walk) (matches : Bool)
    → i < length entries → entry ≡ get_or entries i entry → matches ≡ matching entry → matches ≡ false → after ≡ walk
    → after_entries matching asked (drop (i + 1) entries) after ≡ after_entries matching asked (drop i entries) walk
entries_passed matching asked entries i entry walk after matches lt is e is_false after_is =
    ap (λ (w : Walk). after_entries matching asked (drop (i + 1) entries) w) after_is
    ∙ sym (entries_next matching asked entries i entry walk false lt is (sym is_false ∙ e))

pub entries_end : (matching : AclEntry → Bool) (asked : Bool) (entries : List AclEntry) (i : ℕ) (walk : Walk) → length entries ≤ i
    → walk ≡ after_entries matching asked (drop i entries) walk
unfolding after_entries
entries_end matching asked entries i walk past = rw (drop_of_length-le entries past) refl

-- ---- channels

asked_at : (path : List ChannelId) (place : ℕ) (d : ChannelId) → place < length path → is_asked (drop (place + 1) path) ≡ (place + 1 == length path)
asked_at path place d lt =
    elim (cases_lt (place + 1) (length path)) [
      | inl below ↦ ap is_asked (drop-cons path (place + 1) d below) ∙ sym (ne_eqb (place + 1) (length path) (λ e. omega arith))
      | inr last ↦ ap is_asked (drop_of_length-le path last) ∙ sym (eq-eqb (place + 1) (length path) (omega arith))
    ]

-- what is known of a channel that was passed
pub record Passed (policies : PolicyMap) (path : List ChannelId) (who : Actor) (place : ℕ) (policy : ChannelPolicy) (walk after : Walk) : Type 0 where
  pub within : place < length path
  pub default : ChannelId
  pub there : Some policy ≡ policies (get_or path place default)
  pub after_is : after ≡ after_policy policies path who place (place + 1 == length path) policy walk

reached : {policies : PolicyMap} {path : List ChannelId} {who : Actor} {place : ℕ} {policy : ChannelPolicy} {walk after : Walk}
    → (p : Passed policies path who place policy walk after)
    → after_channel policies path who place (is_asked (drop (place + 1) path)) (policies (get_or path place p.default)) walk ≡ after
unfolding after_channel
reached {policies} {path} {who} {place} {policy} {walk} {after} p =
    ap (λ (q : Option ChannelPolicy). after_channel policies path who place (is_asked (drop (place + 1) path)) q walk) (sym p.there)
    ∙ ap (λ (b : Bool). after_policy policies path who place b policy walk) (asked_at path place p.default p.within)
    ∙ sym p.after_is

along_next : {policies : PolicyMap} {path : List ChannelId} {who : Actor} {place : ℕ} {policy : ChannelPolicy} {walk after : Walk} (on : Bool)
    → Passed policies path who place policy walk after → on ≡ goes_on after
    → along policies path who place (drop place path) walk ≡ (if on then along policies path who (place + 1) (drop (place + 1) path) after else None)
unfolding along
along_next {policies} {path} {who} {place} {policy} {walk} {after} on p e =
    ap (λ (rest : List ChannelId). along policies path who place rest walk) (drop_at path place p.default p.within)
    ∙ ap (λ (w : Walk). if goes_on w then along policies path who (place + 1) (drop (place + 1) path) w else None) (reached p)
    ∙ ap (λ (b : Bool). if b then along policies path who (place + 1) (drop (place + 1) path) after else None) (sym e)

visits_next : {policies : PolicyMap} {path : List ChannelId} {who : Actor} {place : ℕ} {policy : ChannelPolicy} {walk after : Walk} (on : Bool)
    → Passed policies path who place policy walk after → on ≡ goes_on after
    → visits_along policies path who place (drop place path) walk
    ≡ length policy.acls + (if on then visits_along policies path who (place + 1) (drop (place + 1) path) after else 0)
unfolding visits_along
visits_next {policies} {path} {who} {place} {policy} {walk} {after} on p e =
    ap (λ (rest : List ChannelId). visits_along policies path who place rest walk) (drop_at path place p.default p.within)
    ∙ ap (λ (w : Walk). entry_count (policies (get_or path place p.default)) + (if goes_on w then visits_along policies path who (place + 1) (drop (place + 1) path) w else 0)) (reached p)
    ∙ ap (λ (q : Option ChannelPolicy). entry_count q + (if goes_on after then visits_along policies path who (place + 1) (drop (place + 1) path) after else 0)) (sym p.there)
    ∙ ap (λ (b : Bool). length policy.acls + (if b then visits_along policies path who (place + 1) (drop (place + 1) path) after else 0)) (sym e)

pub along_last : (policies : PolicyMap) (path : List ChannelId) (who : Actor) (place : ℕ) (walk : Walk) → length path ≤ place
    → along policies path who place (drop place path) walk ≡ Some walk
unfolding along
along_last policies path who place walk past = rw (drop_of_length-le path past) refl

pub visits_last : (policies : PolicyMap) (path : List ChannelId) (who : Actor) (place : ℕ) (walk : Walk) → length path ≤ place
    → visits_along policies path who place (drop place path) walk ≡ 0
unfolding visits_along
visits_last policies path who place walk past = rw (drop_of_length-le path past) refl

-- ---- the whole walk

-- what holds before each channel: the rest of the walk gives the answer, and its entries are to be read
pub record SoFar (policies : PolicyMap) (path : List ChannelId) (who : Actor) (place : ℕ) (walk : Walk) (before now : ℕ) : Type 0 where
  pub answer : along policies path who place (drop place path) walk ≡ along policies path who 0 path walk_start
  pub read : now + visits_along policies path who place (drop place path) walk ≡ before + visits_along policies path who 0 path walk_start

pub so_far_next : {policies : PolicyMap} {path : List ChannelId} {who : Actor} {place : ℕ} {policy : ChannelPolicy} {walk after : Walk} {before now : ℕ}
    (on : Bool) (later : ℕ) → Passed policies path who place policy walk after → on ≡ goes_on after → on ≡ true → later ≡ now + length policy.acls
    → SoFar policies path who place walk before now → SoFar policies path who (place + 1) after before later
so_far_next on later p e is_true later_is s =
    record {
      answer = sym (along_next true p (sym is_true ∙ e)) ∙ s.answer;
      read = omega (arith, visits_next true p (sym is_true ∙ e), s.read, later_is);
    }

-- where the last channel was passed
pub whole : {policies : PolicyMap} {path : List ChannelId} {who : Actor} {place : ℕ} {walk : Walk} {before now : ℕ}
    → length path ≤ place → SoFar policies path who place walk before now → along policies path who 0 path walk_start ≡ Some walk
whole past s = sym s.answer ∙ along_last _ _ _ _ _ past

pub whole_visits : {policies : PolicyMap} {path : List ChannelId} {who : Actor} {place : ℕ} {walk : Walk} {before now : ℕ}
    → length path ≤ place → SoFar policies path who place walk before now → now ≡ before + visits_along policies path who 0 path walk_start
whole_visits {policies} {path} {who} {place} {walk} past s = omega (arith, visits_last policies path who place walk past, s.read)

-- where the walk ends on the way
pub ended : {policies : PolicyMap} {path : List ChannelId} {who : Actor} {place : ℕ} {policy : ChannelPolicy} {walk after : Walk} {before now : ℕ}
    (on : Bool) → Passed policies path who place policy walk after → on ≡ goes_on after → on ≡ false → SoFar policies path who place walk before now
    → along policies path who 0 path walk_start ≡ None
ended on p e is_false s = sym s.answer ∙ along_next false p (sym is_false ∙ e)

pub ended_visits : {policies : PolicyMap} {path : List ChannelId} {who : Actor} {place : ℕ} {policy : ChannelPolicy} {walk after : Walk} {before now : ℕ}
    (on : Bool) (later : ℕ) → Passed policies path who place policy walk after → on ≡ goes_on after → on ≡ false → later ≡ now + length policy.acls
    → SoFar policies path who place walk before now → later ≡ before + visits_along policies path who 0 path walk_start
ended_visits on later p e is_false later_is s = omega (arith, visits_next false p (sym is_false ∙ e), s.read, later_is)

-- ---- the answer

pub perm_super : (policies : PolicyMap) (path : List ChannelId) (who : Actor) (super root : Bool) → super ≡ is_account who.account SUPER_USER → super ≡ true
    → root ≡ on_root path → full_set root ≡ perm policies path who
unfolding perm
perm_super policies path who super root e is_true at_root =
    ap full_set at_root
    ∙ ap (λ (b : Bool). if b then full_set (on_root path) else set_of (on_root path) (along policies path who 0 path walk_start)) (sym is_true ∙ e)

pub perm_walked : (policies : PolicyMap) (path : List ChannelId) (who : Actor) (super root : Bool) (end : Option Walk) → super ≡ is_account who.account SUPER_USER → super ≡ false
    → root ≡ on_root path → along policies path who 0 path walk_start ≡ end → set_of root end ≡ perm policies path who
unfolding perm
perm_walked policies path who super root end e is_false at_root ends =
    ap (λ (b : Bool). set_of b end) at_root ∙ ap (set_of (on_root path)) (sym ends)
    ∙ ap (λ (b : Bool). if b then full_set (on_root path) else set_of (on_root path) (along policies path who 0 path walk_start)) (sym is_false ∙ e)

pub visits_super : (policies : PolicyMap) (path : List ChannelId) (who : Actor) (super : Bool) (before : ℕ) → super ≡ is_account who.account SUPER_USER → super ≡ true
    → before ≡ before + visits policies path who
unfolding visits
visits_super policies path who super before e is_true =
    sym (add-zero before)
    ∙ ap (λ (b : Bool). before + (if b then 0 else visits_along policies path who 0 path walk_start)) (sym is_true ∙ e)

pub visits_walked : (policies : PolicyMap) (path : List ChannelId) (who : Actor) (super : Bool) (before now : ℕ) → super ≡ is_account who.account SUPER_USER → super ≡ false
    → now ≡ before + visits_along policies path who 0 path walk_start → now ≡ before + visits policies path who
unfolding visits
visits_walked policies path who super before now e is_false read =
    read ∙ ap (λ (b : Bool). before + (if b then 0 else visits_along policies path who 0 path walk_start)) (sym is_false ∙ e)
