-- Needs in three groups, one after another.
use Rattle.mum_rules_user.proofs.Common.{◌≡◌, List, ◌++◌, map, Ok, Err, sym, ap, ◌∙◌, map-append, ChannelId, StateValue, Lack, Need, all_met, met_on, met_stop}

-- what is missing of the first is missing of all
pub first_fails : (state : StateValue) (first second third : List Need) (lack : Lack) → Err lack ≡ all_met state first → Err lack ≡ all_met state (first ++ second ++ third)
first_fails state first second third lack missing = sym (met_stop state (first ++ second) third lack (met_stop state first second lack (sym missing)))

-- what is missing of the second, where the first are met
pub second_fails : (state : StateValue) (first second third : List Need) (lack : Lack) → Ok tt ≡ all_met state first → Err lack ≡ all_met state second → Err lack ≡ all_met state (first ++ second ++ third)
second_fails state first second third lack ok missing = sym (met_stop state (first ++ second) third lack (met_on state first second (sym ok) ∙ sym missing))

-- where both are met, the third decide
pub third_decide : (state : StateValue) (first second third : List Need) → Ok tt ≡ all_met state first → Ok tt ≡ all_met state second → all_met state third ≡ all_met state (first ++ second ++ third)
third_decide state first second third ok too = sym (met_on state (first ++ second) third (met_on state first second (sym ok) ∙ sym too))

-- the same need in each of three lists of channels
pub in_three : (wanted : ChannelId → Need) (first second third : List ChannelId) → map wanted (first ++ second ++ third) ≡ (map wanted first ++ map wanted second ++ map wanted third)
in_three wanted first second third = map-append wanted (first ++ second) third ∙ ap (λ (ns : List Need). ns ++ map wanted third) (map-append wanted first second)
