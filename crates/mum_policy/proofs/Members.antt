-- The nearest definition that speaks of an account decides.
use Rattle.mum_policy.proofs.Common.{◌≡◌, ℕ, ◌==◌, ◌||◌, ◌&&◌, Bool, true, false, not, List, [], ◌∷◌, ◌++◌, length, map, reverse, refl, ap, ◌∙◌, if◌then◌else◌, Option, Some, None, arith, list_any, unwrap_or, eqb-true, reverse-append, list_any-append, any-filter_same, AccountId, ChannelId, Group, PolicyMap, definition, taken, definitions_from, lists, without, members}

-- ---- one definition

-- an account is among those that are left exactly where it was among them and is not removed
lists-without : (removed accounts : List AccountId) (account : AccountId) → lists (without removed accounts) account ≡ (not (lists removed account) && lists accounts account)
lists-without removed accounts account =
    any-filter_same (λ (listed : AccountId). listed.0 == account.0) (λ (other : AccountId). not (lists removed other)) (not (lists removed account))
    (λ other same. ap (λ (n : ℕ). not (list_any (λ (listed : AccountId). listed.0 == n) removed)) (eqb-true other.0 account.0 same)) accounts

-- what a definition says of an account
abbrev pub decision : Group → AccountId → Option Bool
decision group account =
    if lists group.remove account then Some false
    else if lists group.add account then Some true else None

by_cases : (removed added was : Bool) → (not removed && (was || added)) ≡ unwrap_or (if removed then Some false else if added then Some true else None) was
by_cases true added was = refl
by_cases false true true = refl
by_cases false true false = refl
by_cases false false true = refl
by_cases false false false = refl

nearest_decides : (nearest : Group) (further : List Group) (account : AccountId)
    → lists (members (nearest ∷ further)) account ≡ unwrap_or (decision nearest account) (lists (members further) account)
unfolding members
nearest_decides nearest further account =
    lists-without nearest.remove (members further ++ nearest.add) account
    ∙ ap (λ (b : Bool). not (lists nearest.remove account) && b) (list_any-append (λ (listed : AccountId). listed.0 == account.0) (members further) nearest.add)
    ∙ by_cases (lists nearest.remove account) (lists nearest.add account) (lists (members further) account)

-- ---- one channel

-- whether the account is in the group that the channels of the path define, the last of them chosen
abbrev pub found : Bool → PolicyMap → List ℕ → AccountId → List ChannelId → Bool
found above policies name account path = lists (members (definitions_from above name (map policies (reverse path)))) account

taken_at : (above : Bool) (policies : PolicyMap) (name : List ℕ) (path rest : List ChannelId) (channel : ChannelId) → path ≡ rest ++ (channel ∷ [])
    → definitions_from above name (map policies (reverse path)) ≡ taken above (definition (policies channel) name) (definitions_from true name (map policies (reverse rest)))
unfolding definitions_from
taken_at above policies name path rest channel e = rw (e, reverse-append rest (channel ∷ [])) refl

-- where the channel has no definition of the name
pub found_above : (above : Bool) (policies : PolicyMap) (name : List ℕ) (account : AccountId) (path rest : List ChannelId) (channel : ChannelId)
    → path ≡ rest ++ (channel ∷ []) → None ≡ definition (policies channel) name → found true policies name account rest ≡ found above policies name account path
found_above above policies name account path rest channel e none = rw (taken_at above policies name path rest channel e, ← none) refl

-- where its definition does not reach the chosen channel
pub found_barred : (above : Bool) (policies : PolicyMap) (name : List ℕ) (account : AccountId) (path rest : List ChannelId) (channel : ChannelId) (group : Group)
    → path ≡ rest ++ (channel ∷ []) → Some group ≡ definition (policies channel) name → (above && not group.inheritable) ≡ true
    → false ≡ found above policies name account path
unfolding members
found_barred above policies name account path rest channel group e some barred = rw (taken_at above policies name path rest channel e, ← some, barred) refl

-- where its definition is taken
found_taken : (above : Bool) (policies : PolicyMap) (name : List ℕ) (account : AccountId) (path rest : List ChannelId) (channel : ChannelId) (group : Group)
    → path ≡ rest ++ (channel ∷ []) → Some group ≡ definition (policies channel) name → (above && not group.inheritable) ≡ false
    → found above policies name account path
    ≡ unwrap_or (decision group account) (lists (members (if group.inherit then definitions_from true name (map policies (reverse rest)) else [])) account)
found_taken above policies name account path rest channel group e some free =
    rw (taken_at above policies name path rest channel e, ← some, free) (nearest_decides group (if group.inherit then definitions_from true name (map policies (reverse rest)) else []) account)

pub found_decided : (above : Bool) (policies : PolicyMap) (name : List ℕ) (account : AccountId) (path rest : List ChannelId) (channel : ChannelId) (group : Group) (decided : Bool)
    → path ≡ rest ++ (channel ∷ []) → Some group ≡ definition (policies channel) name → (above && not group.inheritable) ≡ false
    → Some decided ≡ decision group account → decided ≡ found above policies name account path
found_decided above policies name account path rest channel group decided e some free is =
    rw (found_taken above policies name account path rest channel group e some free, ← is) refl

pub found_no_further : (above : Bool) (policies : PolicyMap) (name : List ℕ) (account : AccountId) (path rest : List ChannelId) (channel : ChannelId) (group : Group)
    → path ≡ rest ++ (channel ∷ []) → Some group ≡ definition (policies channel) name → (above && not group.inheritable) ≡ false
    → None ≡ decision group account → group.inherit ≡ false → false ≡ found above policies name account path
unfolding members
found_no_further above policies name account path rest channel group e some free is ends =
    rw (found_taken above policies name account path rest channel group e some free, ← is, ends) refl

pub found_further : (above : Bool) (policies : PolicyMap) (name : List ℕ) (account : AccountId) (path rest : List ChannelId) (channel : ChannelId) (group : Group)
    → path ≡ rest ++ (channel ∷ []) → Some group ≡ definition (policies channel) name → (above && not group.inheritable) ≡ false
    → None ≡ decision group account → group.inherit ≡ true → found true policies name account rest ≡ found above policies name account path
found_further above policies name account path rest channel group e some free is goes_on =
    rw (found_taken above policies name account path rest channel group e some free, ← is, goes_on) refl

-- above the root
pub found_nowhere : (above : Bool) (policies : PolicyMap) (name : List ℕ) (account : AccountId) (path : List ChannelId) → length path ≡ 0
    → false ≡ found above policies name account path
unfolding definitions_from members
found_nowhere above policies name account [] e = refl
found_nowhere above policies name account (channel ∷ rest) e = absurd (omega arith)
