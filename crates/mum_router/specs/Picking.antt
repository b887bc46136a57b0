-- One look for those who hear a packet.
use Rattle.std.specs.Prelude.{◌≡◌, ℕ, List, length, map, min}
use Rattle.mum_base.specs.declared.number.SessionId.{SessionId}
use Rattle.mum_voice.specs.Packet.{Parts, client_bytes}
use Rattle.mum_outbox.specs.declared.rule.TheConstants.{LAST}
use Rattle.mum_state.specs.declared.edit.Edit.{Edit}
use Rattle.mum_route.specs.declared.hearer.Hearer.{Hearer}
use Rattle.mum_route.specs.{Route.route, Hearers.hearers_at, Hearers.member_of}
use Rattle.mum_published.specs.declared.ask.Ask.{Ask}
use Rattle.mum_published.specs.{Calls.MayMeet, Calls.looked, Calls.state_of, Facts.Opening, Facts.PassFacts}
use Rattle.mum_cache.specs.Routes.{KeepsAsked, RouteAnswers}
use Rattle.mum_router.specs.Facts.{RouterFacts}

-- what a look asks for a packet
abbrev pub ask_of : SessionId → Parts → Ask
ask_of speaker packet =
    record { speaker = speaker; target = packet.target; packet = record { items = client_bytes packet } }

-- a look that saw these edits: who hears is kept, each in its slot at their state, and those are the members of the route.
-- The entry of the speaker and the target is kept too. The passes of the boxes and the marks are as before
pub record LooksAt
    (opening : Opening) (old : RouterFacts) (speaker : SessionId) (packet : Parts)
    (edits : List Edit) (new : RouterFacts) : Type 0 where
  pub may : MayMeet old.pass edits
  pub router : new ≡ record old {
    pass = looked old.pass edits (ask_of speaker packet);
    caches = new.caches;
    hearers = hearers_at (state_of opening edits) speaker packet.target;
  }
  pub heard : map member_of new.hearers ≡ route (state_of opening edits) speaker packet.target
  pub entry : KeepsAsked (state_of opening edits) speaker packet.target old.caches.routes new.caches.routes

-- one look, at a list of edits that it may see
abbrev pub Looks : Opening → RouterFacts → SessionId → Parts → RouterFacts → Type 0
Looks opening old speaker packet new = (edits : List Edit) × LooksAt opening old speaker packet edits new

-- one look, and the answer is who is kept
abbrev pub Picks : Opening → RouterFacts → SessionId → Parts → RouterFacts → List Hearer → Type 0
Picks opening old speaker packet new audience = Looks opening old speaker packet new × (audience ≡ new.hearers)

-- the entry of the speaker and the target was valid already at the state that the look saw
abbrev pub EntryStood : Opening → RouterFacts → SessionId → Parts → RouterFacts → Type 0
EntryStood opening old speaker packet new =
    RouteAnswers (state_of opening new.pass.seen) speaker packet.target old.caches.routes

-- how many looks there were, as far as that is counted
abbrev pub looks_of : PassFacts → ℕ
looks_of pass = min (length pass.asks) LAST
