-- After a command no frame is handled before a reply.
use Rattle.mum_port.proofs.Common.{◌≡◌, ℕ, true, List, [], ◌∷◌, ◌++◌, Option, Some, None, refl, sym, ap, ◌∙◌, inl, inr, true≢false, not, option_map, option_to_list, SessionId, Frame, LinkFacts, action, after_frame, asks, Machine, session_of, sends, Action, Ask, Bans, PortDid, asked_item, machine_after, port_after_put, PortFacts, item_of, AreUnanswered, Event, Lives, Steps, frames_handled, lagged, replied, stepped, is_live, DeskItem}
use Rattle.mum_port.proofs.{Closing.and-left, Idle.and-right}
use Rattle.mum_port.specs.declared.item.DeskItem.TheVariants as items

pub asks-some : (connection : ℕ) (session : Option SessionId) (asked : Action) (item : DeskItem) → item_of connection session asked ≡ Some item → asks asked ≡ true
asks-some connection session (Ask command) item is = refl
asks-some connection session (Bans payload) item is = refl
asks-some connection session others item is = absurd (cc is)

item-there : (machine : Machine) (kind : ℕ) (payload : List ℕ) (asked : Action) → asked ≡ action machine kind payload → asks asked ≡ true
    → (item : DeskItem) × (item_of machine.connection (session_of machine.stage) asked ≡ Some item)
item-there machine kind payload (Ask command) is waits = (items.Command command, refl)
item-there machine kind payload (Bans list) is waits =
    let sent = sends machine kind payload list (sym is) in
    (items.Bans machine.connection sent.session list, ap (option_map (λ own. items.Bans machine.connection own list)) sent.logged_in)
item-there machine kind payload others is waits = absurd (true≢false (sym waits))

pub awaits-after_frame : (machine : Machine) (kind : ℕ) (payload : List ℕ) → (after_frame machine kind payload).awaits ≡ asks (action machine kind payload)
unfolding after_frame
awaits-after_frame machine kind payload = refl

pub awaits_behind : (machine : Machine) (frame : Option Frame) (item : DeskItem) → asked_item machine frame ≡ Some item → (machine_after machine frame).awaits ≡ true
awaits_behind machine None item is = absurd (cc is)
awaits_behind machine (Some frame) item is = awaits-after_frame machine frame.kind frame.payload ∙ asks-some machine.connection (session_of machine.stage) (action machine frame.kind frame.payload) item is

pub item-awaited : (machine : Machine) (frame : Frame) → (after_frame machine frame.kind frame.payload).awaits ≡ true → (item : DeskItem) × (asked_item machine (Some frame) ≡ Some item)
item-awaited machine frame waits =
    item-there machine frame.kind frame.payload (action machine frame.kind frame.payload) refl (sym (awaits-after_frame machine frame.kind frame.payload) ∙ waits)

no_frame : (frame : Option Frame) → ((f : Frame) → frame ≡ Some f → ⊥) → frame ≡ None
no_frame None never = refl
no_frame (Some frame) never = absurd (never frame refl)

module _ {L V : Type 0} (facts : L → LinkFacts) (routed : V → ℕ → SessionId → List ℕ → V → Type 0) where
  pub waits_still : (old : PortFacts L) (machine : Machine) (did : PortDid) (new : PortFacts L) → Steps facts routed old machine did new → old.machine.awaits ≡ true → did.handled ≡ None
  waits_still old machine did new steps awaits =
      no_frame did.handled (λ f is.
      let free : not old.machine.awaits ≡ true = and-left (not old.machine.awaits) _ (and-right (is_live (port_after_put did.put old).stage) _ (steps.turn.handles.allowed f is)) in
      true≢false (sym free ∙ ap not awaits))

  life_waits : (old : PortFacts L) (events : List Event) (new : PortFacts L) → Lives facts routed old events new → old.machine.awaits ≡ true → AreUnanswered events → frames_handled events ≡ []
  life_waits old [] new same awaits unanswered = refl
  life_waits old (stepped machine did ∷ events) new (mid, steps, lives) awaits unanswered =
      let none = waits_still old machine did mid steps awaits in
      let still : mid.machine.awaits ≡ true = ap (λ (m : Machine). m.awaits) (steps.turn.handles.machine ∙ ap (λ (f : Option Frame). machine_after old.machine f) none) ∙ awaits in
      ap (λ (f : Option Frame). option_to_list f ++ frames_handled events) none ∙ life_waits mid events new lives still unanswered
  life_waits old (replied heard cause ∷ events) new lives awaits unanswered = absurd unanswered
  life_waits old (lagged cause ∷ events) new (mid, inl stays, lives) awaits unanswered =
      life_waits mid events new lives (ap (λ (p : PortFacts L). p.machine.awaits) stays.same ∙ awaits) unanswered
  life_waits old (lagged cause ∷ events) new (mid, inr lags, lives) awaits unanswered =
      life_waits mid events new lives (ap (λ (p : PortFacts L). p.machine.awaits) lags.2.rest ∙ awaits) unanswered

  -- after a frame that asks for a command a reply is awaited
  pub awaits_then : (old new : PortFacts L) (machine : Machine) (did : PortDid) (item : DeskItem) → Steps facts routed old machine did new
      → asked_item machine did.handled ≡ Some item → new.machine.awaits ≡ true
  awaits_then old new machine did item steps asked =
      ap (λ (m : Machine). m.awaits) (steps.turn.handles.machine ∙ ap (λ (m : Machine). machine_after m did.handled) (sym steps.of_port)) ∙ awaits_behind machine did.handled item asked

  pub unanswered_waits : (old mid new : PortFacts L) (machine : Machine) (did : PortDid) (item : DeskItem) (events : List Event) → Steps facts routed old machine did mid
      → asked_item machine did.handled ≡ Some item → Lives facts routed mid events new → AreUnanswered events → frames_handled events ≡ []
  unanswered_waits old mid new machine did item events steps asked lives unanswered =
      life_waits mid events new lives (awaits_then old mid machine did item steps asked) unanswered
