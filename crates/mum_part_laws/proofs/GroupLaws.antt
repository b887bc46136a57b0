-- An account is in a group by the nearest definition that names it.
use Rattle.mum_part_laws.proofs.Common.{◌≡◌, ◌≢◌, ◌⊎◌, ℕ, suc, ◌+◌, ◌-◌, ◌==◌, ◌&&◌, ◌||◌, not, Bool, true, false, cond, List, [], ◌∷◌, ◌++◌, map, reverse, take, drop, Option, Some, None, inl, inr, refl, sym, ap, subst, ◌∙◌, arith, codes, length, nat_eq, All, find, list_any, starts_with, bytes_eq, and_parts, eqb-true, false≢true, ne_eqb, take-append-drop, All-cons, All-nil, list_any-append, none-some, same_Some, bytes_eq-Decides, take-length, AccountId, ChannelId, ChannelPolicy, Group, Actor, PolicyMap, definition, definitions, definitions_from, is_listed, lists, meets, member, member_by, members, taken, upwards, without, Asks, Understood, asked_by, is_built_in_without_members, meaning, understood, understood_after, Adds, Defines, GuestsAreInNone, IsAddedAbove, IsInGroup, IsInheritable, IsPlain, LeavesOpen, MembersAreByDefinitions, Names}
use Rattle.mum_part_laws.proofs.Chains.{Tells, tells_any, tells_eq}

-- ---- accounts in lists

names : (accounts : List AccountId) (account : AccountId) → Tells (lists accounts account) (Names accounts account)
names accounts account = tells_any (λ (one : AccountId). one.0 == account.0) (λ (one : AccountId). one.0 ≡ account.0) (λ one. tells_eq one.0 account.0) accounts

kept : (removed xs : List AccountId) (account : AccountId) → lists (without removed xs) account ≡ (lists xs account && not (lists removed account))
kept removed [] account = refl
kept removed (one ∷ xs) account = step (one.0 == account.0) refl (lists removed one) refl (kept removed xs account)
  where
    same_account : one.0 ≡ account.0 → lists removed one ≡ lists removed account
    same_account is = ap (λ (n : ℕ). list_any (λ (listed : AccountId). listed.0 == n) removed) is

    step : (same : Bool) → (one.0 == account.0) ≡ same → (gone : Bool) → lists removed one ≡ gone
        → lists (without removed xs) account ≡ (lists xs account && not (lists removed account))
        → lists (cond (not gone) (one ∷ without removed xs) (without removed xs)) account ≡ ((same || lists xs account) && not (lists removed account))
    step true is true out rest = rest ∙ none (lists xs account) (lists removed account) (sym (same_account (eqb-true one.0 account.0 is)) ∙ out)
      where
        none : (a b : Bool) → b ≡ true → (a && not b) ≡ (true && not b)
        none a true on = all_off a
          where
            all_off : (a : Bool) → (a && false) ≡ false
            all_off true = refl
            all_off false = refl
        none a false on = absurd (false≢true on)
    step true is false out rest =
        ap (λ (b : Bool). b || lists (without removed xs) account) is
        ∙ sym (ap (λ (b : Bool). true && not b) (sym (same_account (eqb-true one.0 account.0 is)) ∙ out))
    step false is true out rest = rest
    step false is false out rest = ap (λ (b : Bool). b || lists (without removed xs) account) is ∙ rest

-- ---- the definition of a channel

first_named : (name : List ℕ) (groups : List Group) (group : Group) → find (λ (one : Group). bytes_eq one.name name) groups ≡ Some group
    → (earlier later : List Group) × (groups ≡ earlier ++ group ∷ later) × (group.name ≡ name) × All (λ other. other.name ≢ name) earlier
first_named name [] group found = absurd (none-some group found)
first_named name (one ∷ groups) group found = step (bytes_eq one.name name) refl (first_named name groups group)
  where
    step : (b : Bool) → bytes_eq one.name name ≡ b
        → (find (λ (other : Group). bytes_eq other.name name) groups ≡ Some group
        → (earlier later : List Group) × (groups ≡ earlier ++ group ∷ later) × (group.name ≡ name) × All (λ other. other.name ≢ name) earlier)
        → (earlier later : List Group) × (one ∷ groups ≡ earlier ++ group ∷ later) × (group.name ≡ name) × All (λ other. other.name ≢ name) earlier
    step true is rest =
        let same : one ≡ group = same_Some one group (sym (ap (λ (b : Bool). cond b (Some one) (find (λ (other : Group). bytes_eq other.name name) groups)) is) ∙ found) in
        ([], groups, ap (λ (g : Group). g ∷ groups) same, sym (ap (λ (g : Group). g.name) same) ∙ (bytes_eq-Decides one.name name).0 is, All-nil (λ (other : Group). other.name ≢ name))
    step false off rest =
        let later = rest (sym (ap (λ (b : Bool). cond b (Some one) (find (λ (other : Group). bytes_eq other.name name) groups)) off) ∙ found) in (
          one ∷ later.0,
          later.1,
          ap (λ (list : List Group). one ∷ list) later.2,
          later.3,
          All-cons (λ (other : Group). other.name ≢ name) one later.0 (λ same. false≢true (sym off ∙ (bytes_eq-Decides one.name name).1 same)) later.4,
        )

named_first : (name : List ℕ) (group : Group) → group.name ≡ name → (earlier later : List Group) → All (λ other. other.name ≢ name) earlier
    → find (λ (one : Group). bytes_eq one.name name) (earlier ++ group ∷ later) ≡ Some group
named_first name group is [] later none = ap (λ (b : Bool). cond b (Some group) (find (λ (one : Group). bytes_eq one.name name) later)) ((bytes_eq-Decides group.name name).1 is)
named_first name group is (one ∷ earlier) later none = step (bytes_eq one.name name) refl (named_first name group is earlier later (λ k d within. none (suc k) d (omega arith)))
  where
    step : (b : Bool) → bytes_eq one.name name ≡ b → find (λ (other : Group). bytes_eq other.name name) (earlier ++ group ∷ later) ≡ Some group
        → cond b (Some one) (find (λ (other : Group). bytes_eq other.name name) (earlier ++ group ∷ later)) ≡ Some group
    step true same rest = absurd (none 0 one (omega arith) ((bytes_eq-Decides one.name name).0 same))
    step false other rest = rest

defines : (name : List ℕ) (policy : Option ChannelPolicy) (group : Group) → definition policy name ≡ Some group → Defines name policy group
unfolding definition
defines name None group is = none-some group is
defines name (Some policy) group is = first_named name policy.groups group is

defined : (name : List ℕ) (policy : Option ChannelPolicy) (group : Group) → Defines name policy group → definition policy name ≡ Some group
unfolding definition
defined name None group is = absurd is
defined name (Some policy) group is = ap (find (λ (one : Group). bytes_eq one.name name)) is.2 ∙ named_first name group is.3 is.0 is.1 is.4

-- ---- going up

-- from a channel up: whether it is above the chosen one matters for what may be inherited
abbrev Open : Bool → List ℕ → Option ChannelPolicy → Type 0
Open above name policy = above ≡ true → IsInheritable name policy

abbrev Reaches : Bool → List ℕ → AccountId → List (Option ChannelPolicy) → Type 0
Reaches above name account [] = ⊥
Reaches above name account (policy ∷ up) =
    (Adds name account policy × Open above name policy) ⊎ (LeavesOpen name account policy × Open above name policy × Reaches true name account up)

-- what a definition makes of the answer from further up
module _ (name : List ℕ) (account : AccountId) (above : Bool) (policy : Option ChannelPolicy) (group : Group) (is : definition policy name ≡ Some group) where
  it : (other : Group) → Defines name policy other → group ≡ other
  it other also = same_Some group other (sym is ∙ defined name policy other also)

  own : Defines name policy group
  own = defines name policy group is

  closed : above ≡ true → group.inheritable ≡ false → Open above name policy → ⊥
  closed up barred open_to = false≢true (sym barred ∙ open_to up group own)

  opens : (above && not group.inheritable) ≡ false → Open above name policy
  opens off up other also = subst (λ (g : Group). g.inheritable ≡ true) (it other also) (inheritable above group.inheritable up off)
    where
      inheritable : (a b : Bool) → a ≡ true → (a && not b) ≡ false → b ≡ true
      inheritable true true up off = refl
      inheritable true false up off = absurd (false≢true (sym off))
      inheritable false b up off = absurd (false≢true up)

  -- of the tests whether it removes and adds the account, whether it inherits, and what is further up
  decided : (up : List (Option ChannelPolicy)) (removes adds inherits further : Bool) → (above && not group.inheritable) ≡ false → lists group.remove account ≡ removes → lists group.add account ≡ adds
      → group.inherit ≡ inherits → Tells further (Reaches true name account up)
      → Tells (((inherits && further) || adds) && not removes) (Reaches above name account (policy ∷ up))
  decided up true adds inherits further off removed added inherited tells = record {
    so = λ on. absurd (false≢true (sym (none ((inherits && further) || adds)) ∙ on));
    not_so = λ _ reaches. elim reaches as (λ _. ⊥) [
      | inl adding ↦ adding.0.3 (subst (λ (g : Group). Names g.remove account) (it adding.0.0 adding.0.1) ((names group.remove account).so removed))
      | inr leaving ↦ (leaving.0 group own).2 ((names group.remove account).so removed)
    ];
  }
    where
      none : (a : Bool) → (a && false) ≡ false
      none true = refl
      none false = refl
  decided up false true inherits further off removed added inherited tells = record {
    so = λ on. inl ((group, own, (names group.add account).so added, (names group.remove account).not_so removed), opens off);
    not_so = λ off_now. absurd (false≢true (sym off_now ∙ all (inherits && further)));
  }
    where
      all : (a : Bool) → ((a || true) && true) ≡ true
      all true = refl
      all false = refl
  decided up false false true true off removed added inherited tells = record {
    so = λ on. inr (
      (λ other also. (
        ap (λ (g : Group). g.inherit) (sym (it other also)) ∙ inherited,
        subst (λ (g : Group). Names g.add account → ⊥) (it other also) ((names group.add account).not_so added),
        subst (λ (g : Group). Names g.remove account → ⊥) (it other also) ((names group.remove account).not_so removed),
      )),
      opens off,
      tells.so refl,
    );
    not_so = λ off_now. absurd (false≢true (sym off_now));
  }
  decided up false false true false off removed added inherited tells = record {
    so = λ on. absurd (false≢true on);
    not_so = λ _ reaches. elim reaches as (λ _. ⊥) [
      | inl adding ↦ (names group.add account).not_so added (subst (λ (g : Group). Names g.add account) (sym (it adding.0.0 adding.0.1)) adding.0.2)
      | inr leaving ↦ tells.not_so refl leaving.2
    ];
  }
  decided up false false false further off removed added inherited tells = record {
    so = λ on. absurd (false≢true on);
    not_so = λ _ reaches. elim reaches as (λ _. ⊥) [
      | inl adding ↦ (names group.add account).not_so added (subst (λ (g : Group). Names g.add account) (sym (it adding.0.0 adding.0.1)) adding.0.2)
      | inr leaving ↦ false≢true (sym inherited ∙ (leaving.0 group own).0)
    ];
  }

-- what the members of the definitions that are taken say
members_are : (group : Group) (further : List Group) (account : AccountId)
    → lists (members (group ∷ cond group.inherit further [])) account
    ≡ (((group.inherit && lists (members further) account) || lists group.add account) && not (lists group.remove account))
unfolding members
members_are group further account =
    kept group.remove (members (cond group.inherit further []) ++ group.add) account
    ∙ ap (λ (b : Bool). b && not (lists group.remove account)) (list_any-append (λ (listed : AccountId). listed.0 == account.0) (members (cond group.inherit further [])) group.add)
    ∙ ap (λ (b : Bool). (b || lists group.add account) && not (lists group.remove account)) (through group.inherit)
  where
    through : (b : Bool) → lists (members (cond b further [])) account ≡ (b && lists (members further) account)
    through true = refl
    through false = refl

none_listed : (account : AccountId) → lists (members []) account ≡ false
unfolding members
none_listed account = refl

reached : (name : List ℕ) (account : AccountId) (above : Bool) (up : List (Option ChannelPolicy)) → Tells (lists (members (definitions_from above name up)) account) (Reaches above name account up)
unfolding definitions_from
reached name account above [] = record { so = λ on. absurd (false≢true (sym (none_listed account) ∙ on)); not_so = λ off never. never }
reached name account above (policy ∷ up) = step (definition policy name) refl (reached name account true up)
  where
    undefined : definition policy name ≡ None → (group : Group) → Defines name policy group → ⊥
    undefined none group also = none-some group (sym none ∙ defined name policy group also)

    through : (group : Group) → definition policy name ≡ Some group → (b : Bool) → (above && not group.inheritable) ≡ b → Tells (lists (members (definitions_from true name up)) account) (Reaches true name account up)
        → Tells (lists (members (cond b [] (group ∷ cond group.inherit (definitions_from true name up) []))) account) (Reaches above name account (policy ∷ up))
    through group is true on rest = record {
      so = λ listed. absurd (false≢true (sym (none_listed account) ∙ listed));
      not_so = λ off reaches.
          let parts = and_parts above (not group.inheritable) on in
          let barred : group.inheritable ≡ false = not_true group.inheritable parts.1 in
          elim reaches as (λ _. ⊥) [
            | inl adding ↦ closed name account above policy group is parts.0 barred adding.1
            | inr leaving ↦ closed name account above policy group is parts.0 barred leaving.1
          ];
    }
      where
        not_true : (b : Bool) → not b ≡ true → b ≡ false
        not_true true on = absurd (false≢true on)
        not_true false on = refl
    through group is false off rest =
        subst (λ (b : Bool). Tells b (Reaches above name account (policy ∷ up))) (sym (members_are group (definitions_from true name up) account))
        (decided name account above policy group is up (lists group.remove account) (lists group.add account) group.inherit (lists (members (definitions_from true name up)) account) off refl refl refl rest)

    step : (o : Option Group) → definition policy name ≡ o → Tells (lists (members (definitions_from true name up)) account) (Reaches true name account up)
        → Tells (lists (members (taken above o (definitions_from true name up))) account) (Reaches above name account (policy ∷ up))
    step None is rest = record {
      so = λ on. inr ((λ group also. absurd (undefined is group also)), (λ up_there group also. absurd (undefined is group also)), rest.so on);
      not_so = λ off reaches. elim reaches as (λ _. ⊥) [
        | inl adding ↦ undefined is adding.0.0 adding.0.1
        | inr leaving ↦ rest.not_so off leaving.2
      ];
    }
    step (Some group) is rest = through group is (above && not group.inheritable) refl rest

-- ---- in words of the way

to_above : (name : List ℕ) (account : AccountId) (up : List (Option ChannelPolicy)) → Reaches true name account up → IsAddedAbove name account up
to_above name account [] reaches = absurd reaches
to_above name account (policy ∷ up) reaches = elim reaches as (λ _. IsAddedAbove name account (policy ∷ up)) [
  | inl adding ↦ record {
    nearer = [];
    policy = policy;
    further = up;
    whole = refl;
    open_below = All-nil (λ one. LeavesOpen name account one × IsInheritable name one);
    adds = adding.0;
    inheritable = adding.1 refl;
  }
  | inr leaving ↦ (let rest : IsAddedAbove name account up = to_above name account up leaving.2 in record {
    nearer = policy ∷ rest.nearer;
    policy = rest.policy;
    further = rest.further;
    whole = ap (λ (list : List (Option ChannelPolicy)). policy ∷ list) rest.whole;
    open_below = All-cons (λ one. LeavesOpen name account one × IsInheritable name one) policy rest.nearer (leaving.0, leaving.1 refl) rest.open_below;
    adds = rest.adds;
    inheritable = rest.inheritable;
  })
]

from_above : (name : List ℕ) (account : AccountId) (up : List (Option ChannelPolicy)) → IsAddedAbove name account up → Reaches true name account up
from_above name account up added = subst (Reaches true name account) (sym added.whole) (go added.nearer added.open_below)
  where
    go : (nearer : List (Option ChannelPolicy)) → All (λ one. LeavesOpen name account one × IsInheritable name one) nearer → Reaches true name account (nearer ++ added.policy ∷ added.further)
    go [] all = inl (added.adds, (λ up_there. added.inheritable))
    go (one ∷ nearer) all = inr ((all 0 one (omega arith)).0, (λ up_there. (all 0 one (omega arith)).1), go nearer (λ k d within. all (suc k) d (omega arith)))

to_group : (name : List ℕ) (account : AccountId) (up : List (Option ChannelPolicy)) → Reaches false name account up → IsInGroup name account up
to_group name account [] reaches = reaches
to_group name account (chosen ∷ above) reaches = elim reaches as (λ _. IsInGroup name account (chosen ∷ above)) [
  | inl adding ↦ inl adding.0
  | inr leaving ↦ inr (leaving.0, to_above name account above leaving.2)
]

from_group : (name : List ℕ) (account : AccountId) (up : List (Option ChannelPolicy)) → IsInGroup name account up → Reaches false name account up
from_group name account [] in_group = in_group
from_group name account (chosen ∷ above) in_group = elim in_group as (λ _. Reaches false name account (chosen ∷ above)) [
  | inl adding ↦ inl (adding, (λ never. absurd (false≢true never)))
  | inr leaving ↦ inr (leaving.0, (λ never. absurd (false≢true never)), from_above name account above leaving.1)
]

-- ---- the name

other_word : (name word : List ℕ) → name ≢ word → bytes_eq name word ≡ false
other_word name word other = step (bytes_eq name word) refl
  where
    step : (b : Bool) → bytes_eq name word ≡ b → b ≡ false
    step true is = absurd (other ((bytes_eq-Decides name word).0 is))
    step false is = refl

no_arguments : (name : List ℕ) → ((arguments : List ℕ) → name ≢ codes "sub," ++ arguments) → starts_with nat_eq name (codes "sub,") ≡ false
no_arguments name none = step (starts_with nat_eq name (codes "sub,")) refl
  where
    split : (n : ℕ) (xs : List ℕ) → xs ≡ take n xs ++ drop n xs
    split n xs = sym (take-append-drop n xs)

    step : (b : Bool) → starts_with nat_eq name (codes "sub,") ≡ b → b ≡ false
    step true is = absurd (none (drop 4 name) (split 4 name ∙ ap (λ (front : List ℕ). front ++ drop 4 name) (sym ((bytes_eq-Decides (codes "sub,") (take 4 name)).0 is))))
    step false is = refl

skip : {X : Type 0} (b : Bool) (x y : X) → b ≡ false → cond b x y ≡ y
skip b x y off = ap (λ (t : Bool). cond t x y) off

plain_means : (name : List ℕ) → All (λ word. name ≢ word) (codes "all" ∷ codes "auth" ∷ codes "in" ∷ codes "out" ∷ codes "none" ∷ codes "strong" ∷ codes "sub" ∷ [])
    → ((arguments : List ℕ) → name ≢ codes "sub," ++ arguments) → meaning name ≡ Asks.defined name
unfolding meaning is_built_in_without_members
plain_means name others none =
    skip (bytes_eq name (codes "all")) _ _ (other_word name (codes "all") (others 0 [] (omega arith)))
    ∙ skip (bytes_eq name (codes "auth")) _ _ (other_word name (codes "auth") (others 1 [] (omega arith)))
    ∙ skip (bytes_eq name (codes "in")) _ _ (other_word name (codes "in") (others 2 [] (omega arith)))
    ∙ skip (bytes_eq name (codes "out")) _ _ (other_word name (codes "out") (others 3 [] (omega arith)))
    ∙ skip (bytes_eq name (codes "none") || bytes_eq name (codes "strong")) _ _
    (ap (λ (b : Bool). b || bytes_eq name (codes "strong")) (other_word name (codes "none") (others 4 [] (omega arith))) ∙ other_word name (codes "strong") (others 5 [] (omega arith)))
    ∙ skip (bytes_eq name (codes "sub")) _ _ (other_word name (codes "sub") (others 6 [] (omega arith)))
    ∙ skip (starts_with nat_eq name (codes "sub,")) _ _ (no_arguments name none)

plain_asked : (byte : ℕ) (rest : List ℕ) → IsPlain (byte ∷ rest) → asked_by (byte ∷ rest) ≡ Asks.defined (byte ∷ rest)
unfolding asked_by
plain_asked byte rest plain =
    skip (byte == 35) _ _ (ne_eqb byte 35 (plain.0 2 0 (omega arith)))
    ∙ skip (byte == 36) _ _ (ne_eqb byte 36 (plain.0 3 0 (omega arith)))
    ∙ plain_means (byte ∷ rest) plain.1 plain.2

plain_asks : (byte : ℕ) (rest : List ℕ) → IsPlain (byte ∷ rest) → understood (byte ∷ rest) ≡ record { negated = false; at_acl = false; asks = Asks.defined (byte ∷ rest) }
unfolding understood_after
plain_asks byte rest plain =
    skip (byte == 33) _ _ (ne_eqb byte 33 (plain.0 0 0 (omega arith)))
    ∙ skip (byte == 126) _ _ (ne_eqb byte 126 (plain.0 1 0 (omega arith)))
    ∙ ap (λ (asks : Asks). record { negated = false; at_acl = false; asks = asks }) (plain_asked byte rest plain)

-- ---- the laws

whole_way : (path : List ChannelId) → upwards path (length path - 1) ≡ reverse path
whole_way [] = refl
whole_way (channel ∷ path) = ap (λ (n : ℕ). reverse (take n (channel ∷ path))) (one_less (length path)) ∙ ap (λ (list : List ChannelId). reverse list) (take-length (channel ∷ path))
  where
    one_less : (n : ℕ) → suc n - 1 + 1 ≡ suc n
    one_less n = omega arith

asks_members : (policies : PolicyMap) (path : List ChannelId) (acl_at byte : ℕ) (rest : List ℕ) (who : Actor) → IsPlain (byte ∷ rest)
    → member policies path acl_at (byte ∷ rest) who ≡ is_listed (definitions (byte ∷ rest) (map policies (reverse path))) who.account
unfolding member meets
asks_members policies path acl_at byte rest who plain =
    ap (λ (name : Understood). member_by policies (record { path = path; acl_at = acl_at }) who name) (plain_asks byte rest plain)
    ∙ ap (λ (ids : List ChannelId). is_listed (definitions (byte ∷ rest) (map policies ids)) who.account) (whole_way path)

of_account : (groups : List Group) (found : Option AccountId) (account : AccountId) → found ≡ Some account → is_listed groups found ≡ lists (members groups) account
unfolding is_listed
of_account groups found account is = ap (λ (o : Option AccountId). is_listed groups o) is

of_guest : (groups : List Group) (found : Option AccountId) → found ≡ None → is_listed groups found ≡ false
unfolding is_listed
of_guest groups found is = ap (λ (o : Option AccountId). is_listed groups o) is

pub members_are_by_definitions_lem : MembersAreByDefinitions
members_are_by_definitions_lem policies path acl_at [] who account plain is = absurd plain
members_are_by_definitions_lem policies path acl_at (byte ∷ rest) who account plain is =
    let up : List (Option ChannelPolicy) = map policies (reverse path) in
    let same : member policies path acl_at (byte ∷ rest) who ≡ lists (members (definitions (byte ∷ rest) up)) account =
    asks_members policies path acl_at byte rest who plain ∙ of_account (definitions (byte ∷ rest) up) who.account account is in
    let tells : Tells (lists (members (definitions (byte ∷ rest) up)) account) (Reaches false (byte ∷ rest) account up) = reached (byte ∷ rest) account false up in (
      (λ (on : member policies path acl_at (byte ∷ rest) who ≡ true). to_group (byte ∷ rest) account up (tells.so (sym same ∙ on))),
      (λ (in_group : IsInGroup (byte ∷ rest) account up). same ∙ on_where (lists (members (definitions (byte ∷ rest) up)) account) refl (λ off. tells.not_so off (from_group (byte ∷ rest) account up in_group))),
    )
  where
    on_where : (b : Bool) → b ≡ b → (b ≡ false → ⊥) → b ≡ true
    on_where true is never = refl
    on_where false is never = absurd (never refl)

pub guests_are_in_none_lem : GuestsAreInNone
guests_are_in_none_lem policies path acl_at [] who plain is = absurd plain
guests_are_in_none_lem policies path acl_at (byte ∷ rest) who plain is =
    asks_members policies path acl_at byte rest who plain ∙ of_guest (definitions (byte ∷ rest) (map policies (reverse path))) who.account is
