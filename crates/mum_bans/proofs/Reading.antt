-- What a survey and a decoded message say of the list in a payload.
use Rattle.mum_bans.proofs.Common.{◌≡◌, ℕ, Bool, true, false, List, Result, Ok, Err, is_ok, refl, ap, ◌∙◌, MessageFault, Values, layout, parts, decoded, spelled_size, surveyed, Ban, BanList, BanVerdict, ban_list, ban_list_back, list_of, list_in, after_call, verdict_of, event_of}
use Rattle.mum_bans.specs.declared.verdict.BanVerdict.TheVariants as verdicts

both_whole : (r : Result (Values (layout ban_list)) MessageFault) → is_ok (spelled_size (layout ban_list) r) ≡ is_ok (list_of r)
both_whole (Ok values) = refl
both_whole (Err fault) = refl

-- a survey finds no fault where there is a list
pub surveyed_list : (payload : List ℕ) → is_ok (surveyed ban_list payload) ≡ is_ok (list_in payload)
surveyed_list payload = both_whole (decoded ban_list payload)

-- a message that is decoded is the list
pub list_read : (payload : List ℕ) (list : BanList) → decoded ban_list payload ≡ Ok (parts ban_list list) → list_in payload ≡ Ok list
list_read payload list h = ap list_of h ∙ ap (λ (x : BanList). Ok x) (ban_list_back list)

-- what is no list is ignored
pub ignored : (bans : List Ban) (allowed : Bool) (r : Result BanList MessageFault) → is_ok r ≡ false → verdicts.Ignored ≡ verdict_of bans allowed r
ignored bans allowed (Ok list) h = let never : ⊥ = cc in absurd never
ignored bans allowed (Err fault) h = refl

pub no_event : (moment : ℕ) (verdict : BanVerdict) (bans : List Ban) (r : Result BanList MessageFault) → is_ok r ≡ false → bans ≡ after_call bans (event_of moment verdict r)
no_event moment verdict bans (Ok list) h = let never : ⊥ = cc in absurd never
no_event moment verdict bans (Err fault) h = refl

-- whoever may not ban lacks the permission
pub lacking : (bans : List Ban) (r : Result BanList MessageFault) → is_ok r ≡ true → verdicts.Lacks ≡ verdict_of bans false r
lacking bans (Ok list) h = refl
lacking bans (Err fault) h = let never : ⊥ = cc in absurd never

pub no_event_of_lacks : (moment : ℕ) (bans : List Ban) (r : Result BanList MessageFault) → bans ≡ after_call bans (event_of moment verdicts.Lacks r)
no_event_of_lacks moment bans (Ok list) = refl
no_event_of_lacks moment bans (Err fault) = refl
