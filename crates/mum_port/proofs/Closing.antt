-- A port that closed does nothing more in its step but shut its link.
use Rattle.mum_port.proofs.Common.{◌≡◌, Bool, true, false, ◌&&◌, IsTrue, Option, Some, None, refl, sym, ap, ◌∙◌, inl, inr, true≢false, ⊎_elim, Cause, LinkFacts, PassFacts, PortFacts, stage_after_put, after_word, cause_of, closed_for, is_live, stage_by, Puts, Settles, settled, DeskItem, Stage, Live, Ending, Closed, Went, NotDue, Stalled, Worked, Closes}

pub live-is : (stage : Stage) → is_live stage ≡ true → stage ≡ Live
live-is Live live = refl
live-is (Ending cause) live = absurd (cc live)
live-is (Closed cause farewell) live = absurd (cc live)

pub and-left : (a b : Bool) → IsTrue (a && b) → a ≡ true
and-left true b both = refl
and-left false b both = both

-- a stage that is live after a part of a step was live before it
pub stage_by-live : (went : Went) (stage : Stage) → stage_by went stage ≡ Live → stage ≡ Live
stage_by-live NotDue stage live = live
stage_by-live Stalled stage live = live
stage_by-live Worked stage live = live
stage_by-live (Closes cause) Live live = refl
stage_by-live (Closes cause) (Ending before) live = absurd (cc live)
stage_by-live (Closes cause) (Closed before farewell) live = absurd (cc live)

after_word-live : (stage : Stage) → after_word stage ≡ Live → stage ≡ Live
after_word-live Live live = refl
after_word-live (Ending cause) live = absurd (cc live)
after_word-live (Closed cause farewell) live = absurd (cc live)

pub stage_after_put-live : (waiting : Option DeskItem) (stage : Stage) → stage_after_put waiting stage ≡ Live → stage ≡ Live
stage_after_put-live (Some item) stage live = live
stage_after_put-live None stage live = after_word-live stage live

module _ {L : Type 0} where
  pub Puts-live : (old : PortFacts L) (desk : PassFacts DeskItem) (put : Bool) (new : PortFacts L) (after : PassFacts DeskItem)
      → Puts old desk put new after → new.stage ≡ Live → old.stage ≡ Live
  Puts-live old desk put new after (inl item) live =
      stage_after_put-live old.waiting old.stage (sym (ap (λ (p : PortFacts L). p.stage) item.left) ∙ live)
  Puts-live old desk put new after (inr nothing) live = sym (ap (λ (p : PortFacts L). p.stage) nothing.same) ∙ live

module _ {L : Type 0} (facts : L → LinkFacts) where
  -- a port that was open before its step and met a cause closes for it
  pub settles-closed : (was_closed : Bool) (old : PortFacts L) (closed : Option Cause) (new : PortFacts L) (cause : Cause)
      → Settles facts was_closed old closed new → was_closed ≡ false → old.stage ≡ closed_for cause → closed ≡ Some cause
  settles-closed was_closed old closed new cause (inl stays) was_open met =
      let found : cause_of (settled old.out old.stage) ≡ Some cause = ap (λ (s : Stage). cause_of (settled old.out s)) met in
      ⊎_elim (λ (shut : was_closed ≡ true). absurd (true≢false (sym shut ∙ was_open)))
      (λ (none : cause_of (settled old.out old.stage) ≡ None). absurd (cc (sym none ∙ found))) stays.why
  settles-closed was_closed old closed new cause (inr now) was_open met =
      let found : cause_of (settled old.out old.stage) ≡ Some cause = ap (λ (s : Stage). cause_of (settled old.out s)) met in
      now.so ∙ (sym now.by ∙ found)
