-- Of needs that are all met, each is met.
use Rattle.mum_command_laws.proofs.Common.{◌≡◌, ◌||◌, Bool, true, false, List, [], ◌∷◌, ◌++◌, map, refl, sym, ◌∙◌, All, All-cons, All-head, All-nil, All-tail, ChannelId, Perm, Actor, StateValue, Need, Way, is_met, is_open, need, way, AllMet}

pub or_none : (a : Bool) → (a || false) ≡ true → a ≡ true
or_none true on = refl
or_none false on = cc

pub or_end : (a b : Bool) → (a || (b || false)) ≡ (a || b)
or_end true b = refl
or_end false true = refl
or_end false false = refl

-- of a list of which all holds, it holds of the first part and of the second
pub first_part : {X : Type 0} (P : X → Type 0) (xs ys : List X) → All P (xs ++ ys) → All P xs
first_part P [] ys all = All-nil P
first_part P (x ∷ xs) ys all = All-cons P x xs (All-head P x (xs ++ ys) all) (first_part P xs ys (All-tail P x (xs ++ ys) all))

pub second_part : {X : Type 0} (P : X → Type 0) (xs ys : List X) → All P (xs ++ ys) → All P ys
second_part P [] ys all = all
second_part P (x ∷ xs) ys all = second_part P xs ys (All-tail P x (xs ++ ys) all)

pub first_met : (state : StateValue) (needs others : List Need) → AllMet state (needs ++ others) → AllMet state needs
first_met state needs others met = first_part (λ w. is_met state w ≡ true) needs others met

pub others_met : (state : StateValue) (needs others : List Need) → AllMet state (needs ++ others) → AllMet state others
others_met state needs others met = second_part (λ w. is_met state w ≡ true) needs others met

-- the first is met, if it has one way
pub one_open : (state : StateValue) (who : Actor) (perm : Perm) (channel : ChannelId) (needs : List Need)
    → AllMet state (need who perm channel ∷ needs) → is_open state (way who perm channel) ≡ true
one_open state who perm channel needs met =
    or_none (is_open state (way who perm channel)) (All-head (λ w. is_met state w ≡ true) (need who perm channel) needs met)

-- the first is met, if it has two
pub either_open : (state : StateValue) (first second : Way) (needs : List Need)
    → AllMet state (record { first = first; others = second ∷ [] } ∷ needs) → (is_open state first || is_open state second) ≡ true
either_open state first second needs met =
    sym (or_end (is_open state first) (is_open state second))
    ∙ All-head (λ w. is_met state w ≡ true) (record { first = first; others = second ∷ [] }) needs met

pub rest_met : (state : StateValue) (wanted : Need) (needs : List Need) → AllMet state (wanted ∷ needs) → AllMet state needs
rest_met state wanted needs met = All-tail (λ w. is_met state w ≡ true) wanted needs met

-- a permission in each of these channels
pub each_open : (state : StateValue) (who : Actor) (perm : Perm) (channels : List ChannelId) → AllMet state (map (need who perm) channels)
    → All (λ channel. is_open state (way who perm channel) ≡ true) channels
each_open state who perm [] met = All-nil (λ channel. is_open state (way who perm channel) ≡ true)
each_open state who perm (channel ∷ channels) met =
    All-cons (λ c. is_open state (way who perm c) ≡ true) channel channels (one_open state who perm channel (map (need who perm) channels) met)
    (each_open state who perm channels (rest_met state (need who perm channel) (map (need who perm) channels) met))
