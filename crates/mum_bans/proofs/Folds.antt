-- A book after many calls.
use Rattle.mum_bans.proofs.Common.{◌≡◌, List, [], ◌∷◌, ◌++◌, fold, Option, Some, None, refl, sym, ap, ◌∙◌, fold-append, Ban, Event, Call, AreCalls, after, after_call, bans_after, bans_of, events_of, with_event}

one_event : (bans : List Ban) (event : Option Event) (events : List Event) → fold after bans (with_event event events) ≡ fold after (after_call bans event) events
one_event bans None events = refl
one_event bans (Some event) events = refl

pub calls_fold : (bans : List Ban) (calls : List Call) → AreCalls bans calls → bans_after bans calls ≡ fold after bans (events_of calls)
calls_fold bans [] are = refl
calls_fold bans (call ∷ calls) are =
    calls_fold call.bans calls are.1
    ∙ ap (λ (now : List Ban). fold after now (events_of calls)) are.0
    ∙ sym (one_event bans call.event (events_of calls))

pub one_more : (events : List Event) (event : Event) → bans_of (events ++ event ∷ []) ≡ after (bans_of events) event
one_more events event = fold-append after [] events (event ∷ [])
