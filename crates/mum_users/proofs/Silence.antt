-- Who is deaf is mute, and stays so where flags change.
use Rattle.mum_users.proofs.Common.{◌≡◌, Bool, true, false, ◌||◌, ◌&&◌, not, Option, Some, None, refl, FlagChange, Silence, User, UserEdit, changed_user, flagged, silence_after, deaf_is_mute}
use Rattle.mum_users.proofs.Rosters.{KeepsIdentity}

abbrev is_mute_too : Silence → Bool
is_mute_too silence = not silence.deaf || silence.mute

or_true : (b : Bool) → (b || true) ≡ true
or_true true = refl
or_true false = refl

silence_after_keeps : (mute deaf : Option Bool) (was : Silence) → is_mute_too was ≡ true → is_mute_too (silence_after mute deaf was) ≡ true
silence_after_keeps None None was e = e
silence_after_keeps (Some true) None was e = or_true (not was.deaf)
silence_after_keeps (Some false) None was e = refl
silence_after_keeps None (Some true) was e = refl
silence_after_keeps (Some true) (Some true) was e = refl
silence_after_keeps (Some false) (Some true) was e = refl
silence_after_keeps None (Some false) was e = refl
silence_after_keeps (Some true) (Some false) was e = refl
silence_after_keeps (Some false) (Some false) was e = refl

both : (a b : Bool) → a ≡ true → b ≡ true → (a && b) ≡ true
both true true e f = refl
both true false e f = f
both false b e f = e

first : (a b : Bool) → (a && b) ≡ true → a ≡ true
first true b e = refl
first false b e = e

second : (a b : Bool) → (a && b) ≡ true → b ≡ true
second true b e = e
second false b e = cc

flagged_stays_mute : (change : FlagChange) (user : User) → deaf_is_mute user ≡ true → deaf_is_mute (flagged user change) ≡ true
flagged_stays_mute change user e =
    both _ _
    (silence_after_keeps change.mute change.deaf (record { mute = user.mute; deaf = user.deaf }) (first _ _ e))
    (silence_after_keeps change.self_mute change.self_deaf (record { mute = user.self_mute; deaf = user.self_deaf }) (second (not user.deaf || user.mute) _ e))

pub flagged_keeps : (change : FlagChange) → KeepsIdentity (λ user. flagged user change)
flagged_keeps change = record { session = λ _. refl; slot = λ _. refl; name = λ _. refl; silence = flagged_stays_mute change }

pub changed_user_keeps : (change : UserEdit) → KeepsIdentity (changed_user change)
changed_user_keeps change = record { session = λ _. refl; slot = λ _. refl; name = λ _. refl; silence = λ user e. flagged_stays_mute change.flags user e }
