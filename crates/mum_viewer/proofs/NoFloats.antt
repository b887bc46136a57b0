-- No number of a view is a float.
use Rattle.mum_viewer.proofs.Common.{◌≡◌, ◌||◌, false, List, [], ◌∷◌, map, Option, Some, None, refl, ap, ◌∙◌, Data, items_of, has_float, items_have_float, AccountId, ChannelId, account_or_null, channel_numbers, channel_object, channel_or_null, picture_object, user_object, whole, Picture, ShownChannel, ShownUser}

none_in_list : {X : Type 0} (of : X → Data) → ((x : X) → has_float (of x) ≡ false) → (xs : List X) → items_have_float (items_of (map of xs)) ≡ false
none_in_list of none [] = refl
none_in_list of none (x ∷ xs) = ap (λ b. b || items_have_float (items_of (map of xs))) (none x) ∙ none_in_list of none xs

none_in_numbers : (ids : List ChannelId) → has_float (channel_numbers ids) ≡ false
none_in_numbers ids = none_in_list (λ (id : ChannelId). whole id.0) (λ id. refl) ids

none_in_parent : (given : Option ChannelId) → has_float (channel_or_null given) ≡ false
none_in_parent None = refl
none_in_parent (Some id) = refl

none_in_account : (given : Option AccountId) → has_float (account_or_null given) ≡ false
none_in_account None = refl
none_in_account (Some id) = refl

none_in_channel : (channel : ShownChannel) → has_float (channel_object channel) ≡ false
none_in_channel channel =
    ap (λ b. b || (has_float (channel_or_null channel.parent) || false)) (none_in_numbers channel.links)
    ∙ ap (λ b. b || false) (none_in_parent channel.parent)

none_in_user : (user : ShownUser) → has_float (user_object user) ≡ false
none_in_user user =
    ap (λ b. b || (has_float (channel_numbers user.listens) || false)) (none_in_account user.account)
    ∙ ap (λ b. b || false) (none_in_numbers user.listens)

pub none_in_picture : (picture : Picture) → has_float (picture_object picture) ≡ false
none_in_picture picture =
    ap (λ b. b || (items_have_float (items_of (map user_object picture.users)) || false))
    (none_in_list channel_object none_in_channel picture.channels)
    ∙ ap (λ b. b || false) (none_in_list user_object none_in_user picture.users)
