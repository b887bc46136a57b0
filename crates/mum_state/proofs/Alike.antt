-- What may be done in a channel depends on the policies of the channels on the way there, and on no other.
use Rattle.mum_state.proofs.Common.{◌≡◌, ℕ, zero, suc, ◌+◌, not, Bool, List, [], ◌∷◌, map, reverse, take, refl, sym, ap, subst, ◌∙◌, Option, Some, None, if◌then◌else◌, ChannelId, SUPER_USER, AclEntry, ChannelPolicy, Whom, Group, Actor, PolicyMap, definitions, is_listed, meets, member, upwards, Asks, understood, after_channel, after_entries, along, entering, full_set, goes_on, is_account, is_asked, matches, names, on_root, perm, set_of, walk_start, reverse-cons}
use Rattle.mum_policy.specs.declared.policy.Whom.TheVariants.{Account}
use Rattle.mum_state.proofs.Each.{Each, each_append}

-- how far a walk has come
abbrev TypeOf : {X : Type 0} → X → Type 0
TypeOf {X} x = X

abbrev Walk : Type 0
Walk = TypeOf walk_start

pub each_reverse : {X : Type 0} (P : X → Type 0) (xs : List X) → Each P xs → Each P (reverse xs)
each_reverse P [] all = all
each_reverse P (x ∷ xs) all = subst (Each P) (sym (reverse-cons x xs)) (each_append P (reverse xs) (x ∷ []) (each_reverse P xs all.1) (all.0, tt))

each_take : {X : Type 0} (P : X → Type 0) (n : ℕ) (xs : List X) → Each P xs → Each P (take n xs)
each_take P zero xs all = tt
each_take P (suc n) [] all = tt
each_take P (suc n) (x ∷ xs) all = (all.0, each_take P n xs all.1)

module _ (policies others : PolicyMap) where
  -- the channel has the same policy by both
  abbrev pub Agrees : ChannelId → Type 0
  Agrees channel = policies channel ≡ others channel

  map_alike : (channels : List ChannelId) → Each Agrees channels → map policies channels ≡ map others channels
  map_alike [] all = refl
  map_alike (channel ∷ channels) all = λ i. all.0 i ∷ map_alike channels all.1 i

  module _ (path : List ChannelId) (who : Actor) (all : Each Agrees path) where
    upwards_alike : (place : ℕ) → map policies (upwards path place) ≡ map others (upwards path place)
    upwards_alike place = map_alike (upwards path place) (each_reverse Agrees (take (place + 1) path) (each_take Agrees (place + 1) path all))

    meets_alike : (acl_at : ℕ) (at_acl : Bool) (asks : Asks)
        → meets policies (record { path = path; acl_at = acl_at }) at_acl who asks ≡ meets others (record { path = path; acl_at = acl_at }) at_acl who asks
    unfolding meets
    meets_alike acl_at at_acl Asks.nobody = refl
    meets_alike acl_at at_acl Asks.everybody = refl
    meets_alike acl_at at_acl Asks.registered = refl
    meets_alike acl_at at_acl Asks.inside = refl
    meets_alike acl_at at_acl Asks.outside = refl
    meets_alike acl_at at_acl (Asks.token word) = refl
    meets_alike acl_at at_acl (Asks.subtree span) = refl
    meets_alike acl_at at_acl (Asks.defined name) =
        ap (λ (found : List (Option ChannelPolicy)). is_listed (definitions name found) who.account) (upwards_alike _)

    names_alike : (place : ℕ) (whom : Whom) → names policies path who place whom ≡ names others path who place whom
    unfolding member
    names_alike place (Account account) = refl
    names_alike place (Group name) =
        ap (λ (met : Bool). if (understood name).negated then not met else met) (meets_alike place (understood name).at_acl (understood name).asks)

    matches_alike : (place : ℕ) (entry : AclEntry) → matches policies path who place entry ≡ matches others path who place entry
    unfolding matches
    matches_alike place entry = names_alike place entry.whom

    after_alike : (place : ℕ) (asked : Bool) (policy : Option ChannelPolicy) (walk : Walk)
        → after_channel policies path who place asked policy walk ≡ after_channel others path who place asked policy walk
    unfolding after_channel
    after_alike place asked None walk = refl
    after_alike place asked (Some policy) walk =
        ap (λ (matching : AclEntry → Bool). after_entries matching asked policy.acls (entering policy.inherit_acls walk)) (λ i entry. matches_alike place entry i)

    along_alike : (place : ℕ) (below : List ChannelId) (walk : Walk) → Each Agrees below → along policies path who place below walk ≡ along others path who place below walk
    unfolding along
    along_alike place [] walk agree = refl
    along_alike place (channel ∷ below) walk agree =
        let after : Walk = after_channel others path who place (is_asked below) (others channel) walk in
        ap (λ (w : Walk). if goes_on w then along policies path who (place + 1) below w else None)
        (after_alike place (is_asked below) (policies channel) walk ∙ ap (λ (policy : Option ChannelPolicy). after_channel others path who place (is_asked below) policy walk) agree.0)
        ∙ ap (λ (end : Option Walk). if goes_on after then end else None) (along_alike (place + 1) below after agree.1)

  pub perm_by_path : (path : List ChannelId) (who : Actor) → Each Agrees path → perm policies path who ≡ perm others path who
  unfolding perm
  perm_by_path path who all =
      ap (λ (end : Option Walk). if is_account who.account SUPER_USER then full_set (on_root path) else set_of (on_root path) end)
      (along_alike path who all 0 path walk_start all)
