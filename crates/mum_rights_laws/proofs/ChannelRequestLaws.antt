-- What a message on channels asks for is what changes of channels, and nothing else does.
use Rattle.mum_rights_laws.proofs.Common.{◌≡◌, ℕ, ◌==◌, Bool, true, false, cond, List, [], Option, Some, None, refl, ap, sym, ◌∙◌, subst, option_map, option_map_or, unwrap_or, bytes_eq, eq-eqb, eqb-true, bytes_eq-Decides, ChannelId, SessionId, ChannelState, given_or, with_given, name_of, parent_of, number, row_of, Row, change_row, row_of-map, User, set_by, StateValue, Edit, fit_proper, change_asked, channel, given_unless, TreeMessage, State, ChannelStatesAreDone, ChannelsAreMadeAsAsked, IsChanged, IsNew, OtherChannelsStand, OfLasting, AsksToChange}
use Rattle.mum_rights_laws.proofs.{Altered.altered, Altered.changed_number, Altered.made_is, Altered.number_is, ChannelLaws.altered_is, ChannelLaws.of_kinds, Settled.lasting, TreeKinds.IsKind, TreeKinds.changes, TreeKinds.makes, TreeKinds.removes, TreeKinds.rules}

-- ---- what is given

given_is : {X : Type 0} (o : Option X) (was : X) → given_or o was ≡ unwrap_or o was
given_is None was = refl
given_is (Some x) was = refl

-- a name that is given is the new one, also where it is the present one
named_is : (given : Option (List ℕ)) (was here : List ℕ) → here ≡ was → given_or (given_unless (λ (name : List ℕ). bytes_eq name here) given) was ≡ unwrap_or given was
named_is None was here same = refl
named_is (Some name) was here same = step (bytes_eq name here) refl
  where
    step : (b : Bool) → bytes_eq name here ≡ b → given_or (cond b None (Some name)) was ≡ name
    step true is = sym ((bytes_eq-Decides name here).0 is ∙ same)
    step false is = refl

-- so is a parent
placed_is : (given : Option ℕ) (was here : ChannelId) → here ≡ was
    → (given_or (given_unless (λ (there : ChannelId). there.0 == here.0) (option_map channel given)) was).0 ≡ unwrap_or given was.0
placed_is None was here same = refl
placed_is (Some n) was here same = step (n == here.0) refl
  where
    step : (b : Bool) → (n == here.0) ≡ b → (given_or (cond b None (Some (channel n))) was).0 ≡ n
    step true is = sym (eqb-true n here.0 is ∙ ap (λ (one : ChannelId). one.0) same)
    step false is = refl

one_number : (o : Option ℕ) (one other : ℕ) → o ≡ Some one → o ≡ Some other → one ≡ other
one_number o one other first second = let both : Some one ≡ Some other = sym first ∙ second in cc

changed_so : (before : StateValue) (id : ChannelId) (asked : ChannelState) (was : Row) → row_of before.tree.channels id ≡ Some was
    → IsChanged asked was.channel (with_given (change_asked before.tree id asked) was.channel)
changed_so before id asked was found = record {
  name = named_is asked.name was.channel.name (name_of before.tree id) (ap (λ (o : Option Row). option_map_or (λ (row : Row). row.channel.name) o []) found);
  parent = placed_is asked.parent was.channel.parent (parent_of before.tree id) (ap (λ (o : Option Row). option_map_or (λ (row : Row). row.channel.parent) o id) found);
  description = given_is asked.description was.channel.info.description;
  position = given_is asked.position was.channel.info.position;
  max_users = given_is asked.max_users was.channel.info.max_users;
}

-- ---- the channel that is named, and the others

done_by : (before : StateValue) (actor : SessionId) (own : User) {message : TreeMessage} {edit : Edit} → IsKind before actor own message edit → (was : Row)
    → row_of before.tree.channels was.channel.id ≡ Some was → (asked : ChannelState) → AsksToChange message was.channel.id asked
    → IsChanged asked was.channel (altered edit was).channel
done_by before actor own (makes given parent none named had_there) was found asked (is, asks) =
    let same : given ≡ asked = cc in
    let no : None ≡ Some was.channel.id.0 = sym none ∙ ap (λ (one : ChannelState). one.channel_id) same ∙ asks in cc
done_by before actor own (changes given id named met) was found asked (is, asks) =
    let same : given ≡ asked = cc in
    let at : id.0 ≡ was.channel.id.0 = one_number given.channel_id id.0 was.channel.id.0 named (ap (λ (one : ChannelState). one.channel_id) same ∙ asks) in
    let it : was.channel.id ≡ id = ap (λ n. record { 0 = n }) (sym at) in
    subst (λ (one : ChannelState). IsChanged one was.channel (change_row id (with_given (change_asked before.tree id given)) was).channel) same
    (subst (λ (b : Bool). IsChanged given was.channel (cond b (record was { channel = with_given (change_asked before.tree id given) was.channel }) was).channel)
    (sym (eq-eqb (number was) id.0 (sym at)))
    (changed_so before id given was (ap (row_of before.tree.channels) (sym it) ∙ found)))
done_by before actor own (removes given top named had_there) was found asked (is, asks) = cc
done_by before actor own (rules given id named had_there) was found asked (is, asks) = cc

pub channel_states_are_done_lem : ChannelStatesAreDone
channel_states_are_done_lem =
    of_kinds (λ before after own message. OfLasting before after (λ was now. (asked : ChannelState) → AsksToChange message was.channel.id asked → IsChanged asked was.channel now.channel))
    (λ before actor own message edit proper kind fit id was now is found asked asks.
    subst (λ (row : Row). IsChanged asked was.channel row.channel) (sym (altered_is before actor own message edit proper kind fit id was now is found))
    (done_by before actor own kind was (ap (row_of before.tree.channels) (number_is before.tree.channels id was is) ∙ is) asked asks))

stands_by : (before : StateValue) (actor : SessionId) (own : User) {message : TreeMessage} {edit : Edit} → IsKind before actor own message edit → (was : Row)
    → ((asked : ChannelState) → AsksToChange message was.channel.id asked → ⊥) → altered edit was ≡ was
stands_by before actor own (makes given parent none named had_there) was other = refl
stands_by before actor own (changes given id named met) was other = step (number was == id.0) refl
  where
    step : (b : Bool) → (number was == id.0) ≡ b → cond b (record was { channel = with_given (change_asked before.tree id given) was.channel }) was ≡ was
    step true is = absurd (other given (refl, named ∙ ap (λ (n : ℕ). Some n) (sym (eqb-true (number was) id.0 is))))
    step false is = refl
stands_by before actor own (removes given top named had_there) was other = refl
stands_by before actor own (rules given id named had_there) was other = refl

pub other_channels_stand_lem : OtherChannelsStand
other_channels_stand_lem =
    of_kinds (λ before after own message. OfLasting before after (λ was now. ((asked : ChannelState) → AsksToChange message was.channel.id asked → ⊥) → now ≡ was))
    (λ before actor own message edit proper kind fit id was now is found other.
    altered_is before actor own message edit proper kind fit id was now is found ∙ stands_by before actor own kind was other)

-- ---- a new channel

made_by : (before : StateValue) (actor : SessionId) (own : User) {message : TreeMessage} {edit : Edit} → IsKind before actor own message edit → (id : ChannelId) (now : Row)
    → (asked : ChannelState) → row_of before.tree.channels id ≡ None → row_of (set_by before edit).tree.channels id ≡ Some now → message ≡ State asked
    → IsNew asked now.channel
made_by before actor own (makes given parent none named had_there) id now asked gone found is =
    let same : given ≡ asked = cc in
    subst (λ (one : ChannelState). IsNew one now.channel) same
    (subst (λ (row : Row). IsNew given row.channel) (sym (made_is before actor given id now gone found))
    (record { name = refl; temporary = refl; description = refl; position = refl; max_users = refl }))
made_by before actor own (changes given other named met) id now asked gone found is =
    let change = with_given (change_asked before.tree other given) in
    let no : None ≡ Some now = sym (ap (option_map (change_row other change)) gone)
    ∙ sym (row_of-map (change_row other change) (changed_number other change (λ one. refl)) before.tree.channels id) ∙ found in cc
made_by before actor own (removes given top named had_there) id now asked gone found is = cc
made_by before actor own (rules given other named had_there) id now asked gone found is = cc

pub channels_are_made_as_asked_lem : ChannelsAreMadeAsAsked
channels_are_made_as_asked_lem =
    of_kinds (λ before after own message. (id : ChannelId) (now : Row) (asked : ChannelState) → row_of before.tree.channels id ≡ None → row_of after.tree.channels id ≡ Some now
    → message ≡ State asked → IsNew asked now.channel)
    (λ before actor own message edit proper kind fit id now asked gone found is.
    made_by before actor own kind id now asked gone (lasting before edit (fit_proper before edit proper fit).0 id now found) is)
