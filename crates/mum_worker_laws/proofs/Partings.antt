-- A port closes after a rejection only where it heard one, and after a last parcel only where it took one.
use Rattle.mum_worker_laws.proofs.Common.{◌≡◌, ◌∙◌, ℕ, ◌||◌, Bool, true, false, true≢false, List, [], ◌∷◌, ◌++◌, Option, Some, None, refl, ap, sym, subst, inl, inr, ⊤, append-nil, Cause, ReplyEnd, LinkFacts, PortDid, is_last, queued, stage_kept, stage_once_put, PortFacts, stage_after_put, Event, Happens, Lives, Steps, lagged, replied, stepped, cause_of, closed_for, stage_after_reply, stage_after_post, Settled, DeskItem, Stage, Live, Ending, Closed, Opening, Machine, session_of, RoutesPacket, IsLife, IsNew, Life, is_rejection, parts, rejects, was_parted, was_rejected}
use Rattle.mum_base.specs.declared.number.Cause.TheVariants as causes
use Rattle.mum_base.specs.declared.reply.ReplyEnd.TheVariants as ends
use Rattle.mum_port.specs.declared.stage.Parting.TheVariants as partings

-- ---- or

or_left : (a b : Bool) → a ≡ true → a || b ≡ true
or_left true b is = refl
or_left false b is = absurd (true≢false (sym is))

or_right : (a b : Bool) → b ≡ true → a || b ≡ true
or_right true b is = refl
or_right false b is = is

or_assoc : (a b c : Bool) → (a || b) || c ≡ a || (b || c)
or_assoc true b c = refl
or_assoc false b c = refl

or_false : (a : Bool) → a || false ≡ a
or_false true = refl
or_false false = refl

-- ---- what led to a stage

-- the stage of a port, where it was rejected and where it took its last parcel
abbrev Led : Bool → Bool → Stage → Type 0
Led rejected parted Live = ⊤
Led rejected parted (Ending partings.Rejected) = rejected ≡ true
Led rejected parted (Ending partings.Kicked) = parted ≡ true
Led rejected parted (Closed causes.Rejected farewell) = rejected ≡ true
Led rejected parted (Closed causes.Kicked farewell) = parted ≡ true
Led rejected parted (Closed others farewell) = ⊤

led_on : (rejected parted one two : Bool) (stage : Stage) → Led rejected parted stage → Led (rejected || one) (parted || two) stage
led_on rejected parted one two Live led = tt
led_on rejected parted one two (Ending partings.Rejected) led = or_left rejected one led
led_on rejected parted one two (Ending partings.Kicked) led = or_left parted two led
led_on rejected parted one two (Closed causes.End farewell) led = tt
led_on rejected parted one two (Closed causes.LinkFault farewell) led = tt
led_on rejected parted one two (Closed causes.FrameTooLong farewell) led = tt
led_on rejected parted one two (Closed causes.Rejected farewell) led = or_left rejected one led
led_on rejected parted one two (Closed causes.Kicked farewell) led = or_left parted two led
led_on rejected parted one two (Closed causes.Lagged farewell) led = tt
led_on rejected parted one two (Closed causes.Memory farewell) led = tt

-- a word of a farewell leaves the cause
led_said : (rejected parted : Bool) (stage : Stage) → Led rejected parted stage → Led rejected parted (stage_after_put None stage)
led_said rejected parted Live led = tt
led_said rejected parted (Ending partings.Rejected) led = led
led_said rejected parted (Ending partings.Kicked) led = led
led_said rejected parted (Closed causes.End farewell) led = tt
led_said rejected parted (Closed causes.LinkFault farewell) led = tt
led_said rejected parted (Closed causes.FrameTooLong farewell) led = tt
led_said rejected parted (Closed causes.Rejected farewell) led = led
led_said rejected parted (Closed causes.Kicked farewell) led = led
led_said rejected parted (Closed causes.Lagged farewell) led = tt
led_said rejected parted (Closed causes.Memory farewell) led = tt

led_put : (rejected parted : Bool) (put waiting : Option DeskItem) (stage : Stage) → Led rejected parted stage → Led rejected parted (stage_once_put put waiting stage)
led_put rejected parted None waiting stage led = led
led_put rejected parted (Some item) None stage led = led_said rejected parted stage led
led_put rejected parted (Some item) (Some first) stage led = led

led_taken : (rejected parted last : Bool) (stage : Stage) → Led rejected parted stage → Led rejected (parted || last) (stage_after_post last stage)
led_taken rejected parted true stage led = or_right parted true refl
led_taken rejected parted false stage led = subst (λ (b : Bool). Led rejected b stage) (sym (or_false parted)) led

led_answered : (rejected parted : Bool) (end : ReplyEnd) (stage : Stage) → Led rejected parted stage → Led (rejected || is_rejection end) parted (stage_after_reply end stage)
led_answered rejected parted (ends.Joined session slot) stage led = subst (λ (b : Bool). Led b parted stage) (sym (or_false rejected)) led
led_answered rejected parted ends.Decided stage led = subst (λ (b : Bool). Led b parted stage) (sym (or_false rejected)) led
led_answered rejected parted ends.Rejected Live led = or_right rejected true refl
led_answered rejected parted ends.Rejected (Ending parting) led = subst (λ (b : Bool). Led (rejected || true) b (Ending parting)) (or_false parted) (led_on rejected parted true false (Ending parting) led)
led_answered rejected parted ends.Rejected (Closed cause farewell) led = subst (λ (b : Bool). Led (rejected || true) b (Closed cause farewell)) (or_false parted) (led_on rejected parted true false (Closed cause farewell) led)

module _ {L : Type 0} (facts : L → LinkFacts) (opening : Opening) where
  -- ---- one event

  led_kept : (rejected parted : Bool) (old : PortFacts L) (machine : Machine) (did : PortDid) → machine ≡ old.machine → Led rejected parted old.stage
      → Led (rejected || false) (parted || is_last (session_of machine.stage) did.post) (stage_kept old did)
  led_kept rejected parted old machine did is led =
      subst (λ (b : Bool). Led b (parted || is_last (session_of machine.stage) did.post) (stage_kept old did)) (sym (or_false rejected))
      (subst (λ (m : Machine). Led rejected (parted || is_last (session_of m.stage) did.post) (stage_kept old did)) (sym is)
      (led_taken rejected parted (is_last (session_of old.machine.stage) did.post) (stage_once_put did.put old.waiting old.stage) (led_put rejected parted did.put old.waiting old.stage led)))

  -- what it closed for is what it was ending for
  led_closed : (rejected parted : Bool) (old : PortFacts L) (did : PortDid) (new : PortFacts L) (cause : Cause) → Settled facts old did new (Some cause) → Led rejected parted (stage_kept old did) → Led rejected parted (closed_for cause)
  led_closed rejected parted old did new causes.End closes led = tt
  led_closed rejected parted old did new causes.LinkFault closes led = tt
  led_closed rejected parted old did new causes.FrameTooLong closes led = tt
  led_closed rejected parted old did new causes.Rejected closes led = subst (Led rejected parted) closes.shown.0 led
  led_closed rejected parted old did new causes.Kicked closes led = subst (Led rejected parted) closes.shown.0 led
  led_closed rejected parted old did new causes.Lagged closes led = tt
  led_closed rejected parted old did new causes.Memory closes led = tt

  led_settled : (rejected parted : Bool) (old : PortFacts L) (did : PortDid) (new : PortFacts L) (closed : Option Cause) → Settled facts old did new closed → Led rejected parted (stage_kept old did) → Led rejected parted new.stage
  led_settled rejected parted old did new None settled led = subst (Led rejected parted) (sym settled.stage) led
  led_settled rejected parted old did new (Some cause) closes led = subst (Led rejected parted) (sym closes.stage) (led_closed rejected parted old did new cause closes led)

  led_event : (rejected parted : Bool) (old : PortFacts L) (event : Event) (new : PortFacts L) → Happens facts (RoutesPacket opening) old event new → Led rejected parted old.stage
      → Led (rejected || rejects event) (parted || parts event) new.stage
  led_event rejected parted old (stepped machine did) new steps led =
      led_settled (rejected || false) (parted || is_last (session_of machine.stage) did.post) old did new did.closed steps.turn.ends.settled (led_kept rejected parted old machine did steps.of_port led)
  led_event rejected parted old (replied heard closed) new (inl stays) led =
      subst (λ (p : PortFacts L). Led (rejected || is_rejection heard.end) (parted || false) p.stage) (sym stays.same) (led_on rejected parted (is_rejection heard.end) false old.stage led)
  led_event rejected parted old (replied heard closed) new (inr (inl takes)) led =
      subst (λ (p : PortFacts L). Led (rejected || is_rejection heard.end) (parted || false) p.stage) (sym takes.rest)
      (subst (λ (b : Bool). Led (rejected || is_rejection heard.end) b (stage_after_reply heard.end old.stage)) (sym (or_false parted)) (led_answered rejected parted heard.end old.stage led))
  led_event rejected parted old (replied heard closed) new (inr (inr closes)) led =
      subst (λ (p : PortFacts L). Led (rejected || is_rejection heard.end) (parted || false) p.stage) (sym closes.closes.rest) tt
  led_event rejected parted old (lagged closed) new (inl stays) led =
      subst (λ (p : PortFacts L). Led (rejected || false) (parted || false) p.stage) (sym stays.same) (led_on rejected parted false false old.stage led)
  led_event rejected parted old (lagged closed) new (inr closes) led =
      subst (λ (p : PortFacts L). Led (rejected || false) (parted || false) p.stage) (sym closes.2.rest) tt

  led_events : (rejected parted : Bool) (old : PortFacts L) (events : List Event) (new : PortFacts L) → Lives facts (RoutesPacket opening) old events new → Led rejected parted old.stage
      → Led (rejected || was_rejected events) (parted || was_parted events) new.stage
  led_events rejected parted old [] new same led =
      subst (λ (p : PortFacts L). Led (rejected || false) (parted || false) p.stage) (sym same) (led_on rejected parted false false old.stage led)
  led_events rejected parted old (event ∷ events) new (mid, happens, lives) led =
      subst (λ (b : Bool). Led b (parted || (parts event || was_parted events)) new.stage) (or_assoc rejected (rejects event) (was_rejected events))
      (subst (λ (b : Bool). Led ((rejected || rejects event) || was_rejected events) b new.stage) (or_assoc parted (parts event) (was_parted events))
      (led_events (rejected || rejects event) (parted || parts event) mid events new lives (led_event rejected parted old event mid happens led)))

  led_life : (life : Life L) → IsNew life.first → IsLife facts opening life → Led (was_rejected life.events) (was_parted life.events) life.last.stage
  led_life life new is_life =
      led_events false false life.first life.events life.last is_life
      (subst (λ (p : PortFacts L). Led false false p.stage) (sym new.is) tt)

  rejected_led : (rejected parted : Bool) (stage : Stage) → cause_of stage ≡ Some causes.Rejected → Led rejected parted stage → rejected ≡ true
  rejected_led rejected parted Live is led = absurd (cc is)
  rejected_led rejected parted (Ending parting) is led = absurd (cc is)
  rejected_led rejected parted (Closed causes.Rejected farewell) is led = led
  rejected_led rejected parted (Closed others farewell) is led = absurd (cc is)

  parted_led : (rejected parted : Bool) (stage : Stage) → cause_of stage ≡ Some causes.Kicked → Led rejected parted stage → parted ≡ true
  parted_led rejected parted Live is led = absurd (cc is)
  parted_led rejected parted (Ending parting) is led = absurd (cc is)
  parted_led rejected parted (Closed causes.Kicked farewell) is led = led
  parted_led rejected parted (Closed others farewell) is led = absurd (cc is)

  pub rejected_life : (life : Life L) → IsNew life.first → IsLife facts opening life → cause_of life.last.stage ≡ Some causes.Rejected → was_rejected life.events ≡ true
  rejected_life life new is_life is = rejected_led (was_rejected life.events) (was_parted life.events) life.last.stage is (led_life life new is_life)

  pub parted_life : (life : Life L) → IsNew life.first → IsLife facts opening life → cause_of life.last.stage ≡ Some causes.Kicked → was_parted life.events ≡ true
  parted_life life new is_life is = parted_led (was_rejected life.events) (was_parted life.events) life.last.stage is (led_life life new is_life)

  -- ---- the bytes

  all_written : (old : PortFacts L) (machine : Machine) (did : PortDid) (new : PortFacts L) → Steps facts (RoutesPacket opening) old machine did new → new.out ≡ [] → did.unsaid ≡ [] → did.wrote ≡ old.out ++ queued old.machine did
  all_written old machine did new steps kept unsaid =
      sym (steps.turn.writes.bytes
      ∙ (ap (λ (l : List ℕ). did.wrote ++ (l ++ did.unsaid)) kept ∙ (ap (λ (l : List ℕ). did.wrote ++ l) unsaid ∙ append-nil did.wrote)))

  closed_rejected : (old : PortFacts L) (did : PortDid) (new : PortFacts L) (closed : Option Cause) → closed ≡ Some causes.Rejected → Settled facts old did new closed → (new.out ≡ []) × (did.unsaid ≡ [])
  closed_rejected old did new closed is settled =
      let closes : Settled facts old did new (Some causes.Rejected) = subst (Settled facts old did new) is settled in (closes.nothing_unwritten, closes.shown.1)

  closed_parted : (old : PortFacts L) (did : PortDid) (new : PortFacts L) (closed : Option Cause) → closed ≡ Some causes.Kicked → Settled facts old did new closed → (new.out ≡ []) × (did.unsaid ≡ [])
  closed_parted old did new closed is settled =
      let closes : Settled facts old did new (Some causes.Kicked) = subst (Settled facts old did new) is settled in (closes.nothing_unwritten, closes.shown.1)

  pub rejected_written : (old : PortFacts L) (machine : Machine) (did : PortDid) (new : PortFacts L) → Steps facts (RoutesPacket opening) old machine did new → did.closed ≡ Some causes.Rejected → did.wrote ≡ old.out ++ queued old.machine did
  rejected_written old machine did new steps is =
      let so = closed_rejected old did new did.closed is steps.turn.ends.settled in all_written old machine did new steps so.0 so.1

  pub parted_written : (old : PortFacts L) (machine : Machine) (did : PortDid) (new : PortFacts L) → Steps facts (RoutesPacket opening) old machine did new → did.closed ≡ Some causes.Kicked → did.wrote ≡ old.out ++ queued old.machine did
  parted_written old machine did new steps is =
      let so = closed_parted old did new did.closed is steps.turn.ends.settled in all_written old machine did new steps so.0 so.1
