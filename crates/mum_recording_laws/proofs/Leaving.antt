-- In orderly runs nothing is decided of a connection after its leave.
use Rattle.mum_recording_laws.proofs.Common.{◌≡◌, ℕ, ◌+◌, Bool, true, false, cond, Option, Some, None, refl, sym, ap, subst, ◌∙◌, IfSome, is_some, option_map, Step, Close, Frame, Tell, Action, Ask, Keep, Asked, Verdict, Connection, Leads, Stays, Waits, Reply, answered, closed_at, followed, fresh, lagging, leads, leaving, next_of_frame, CoreState, connection_at, up, does, frame_action, frame_version, Change, at_place, change_by, change_of, change_to, conn, each_step, IsOrderly}
use Rattle.mum_core.specs.declared.connection.Leave.{Leave, TheVariants.Decided}
use Rattle.mum_record.specs.declared.step.Step.TheVariants as steps
use Rattle.mum_core.specs.steps.Edit as edit_step

-- a leave leads no command, and once it is decided none waits, and the connection is closed
pub record Departs (x : Connection) : Type 0 where
  pub behind : leads x.leave ≡ false
  pub last : x.leave ≡ Decided → x.waiting ≡ None
  pub shut : x.leave ≡ Decided → is_some x.closed ≡ true

abbrev pub AreDeparting : CoreState → Type 0
AreDeparting core = (i : ℕ) → Departs (conn core i)

abbrev ChangeDeparts : Option Change → ℕ → Connection → Type 0
ChangeDeparts change i x = IfSome change (λ one. one.0 ≡ i + 1 → Departs x → Departs (one.1 x))

leaving_behind : (leave : Leave) → leads leave ≡ false → leads (leaving leave) ≡ false
leaving_behind Stays is = refl
leaving_behind Waits is = refl
leaving_behind Leads is = is
leaving_behind Decided is = refl

was_decided : (leave : Leave) → leaving leave ≡ Decided → leave ≡ Decided
was_decided Stays is = absurd (cc)
was_decided Waits is = absurd (cc)
was_decided Leads is = absurd (cc)
was_decided Decided is = refl

stays_apart : Stays ≡ Decided → ⊥
stays_apart is = cc

pub lagging_departs : (x : Connection) → Departs x → Departs (lagging x)
lagging_departs x departs = record {
  behind = leaving_behind x.leave departs.behind;
  last = λ is. departs.last (was_decided x.leave is);
  shut = λ is. departs.shut (was_decided x.leave is);
}

closed_departs : (line : ℕ) (x : Connection) → Departs x → Departs (closed_at line x)
closed_departs line x departs = record { behind = leaving_behind x.leave departs.behind; last = λ is. departs.last (was_decided x.leave is); shut = λ is. refl }

pub fresh_departs : (w : ℕ) → Departs (fresh w)
fresh_departs w = record { behind = refl; last = λ is. absurd (stays_apart is); shut = λ is. absurd (stays_apart is) }

frame_departs : (core : CoreState) (c i : ℕ) (version : Option ℕ) (a : Action) → (connection_at core c).leave ≡ Stays → ChangeDeparts (change_by c version a) i (conn core i)
frame_departs core c i version (Ask command) stays = λ at departs.
    let own : (conn core i).leave ≡ Stays = sym (ap (λ (x : Connection). x.leave) (at_place core c i at)) ∙ stays in
    let still : followed (conn core i).leave ≡ Stays = ap (λ (leave : Leave). followed leave) own in
    record {
      behind = ap (λ (leave : Leave). leads leave) still;
      last = λ is. absurd (stays_apart (sym still ∙ is));
      shut = λ is. absurd (stays_apart (sym still ∙ is));
    }
frame_departs core c i version Keep stays = λ at departs. record { behind = departs.behind; last = departs.last; shut = departs.shut }
frame_departs core c i version others stays = tt

none_waits : (x : Connection) → leads x.leave ≡ false → next_of_frame x ≡ None → x.waiting ≡ None
none_waits x behind none = sym (ap (λ (b : Bool). cond b None x.waiting) behind) ∙ none

answered_departs : (o : Option Asked) (reply : Reply) (x : Connection) → next_of_frame x ≡ o → (next_of_frame x ≡ None → is_some x.closed ≡ true) → Departs x → Departs (answered o reply x)
answered_departs None reply x next shut departs = record { behind = refl; last = λ is. none_waits x departs.behind next; shut = λ is. shut next }
answered_departs (Some what) reply x next shut departs = record { behind = departs.behind; last = λ is. refl; shut = departs.shut }

edit_departs : (core : CoreState) (c i : ℕ) (o : Option Verdict) → (next_of_frame (connection_at core c) ≡ None → is_some (connection_at core c).closed ≡ true)
    → ChangeDeparts (option_map (change_to core c) o) i (conn core i)
edit_departs core c i None shut = tt
edit_departs core c i (Some one) shut = λ at departs.
    let x : Connection = conn core i in
    answered_departs (next_of_frame x) (edit_step.reply_to core c one) x refl
    (subst (λ (y : Connection). next_of_frame y ≡ None → is_some y.closed ≡ true) (at_place core c i at) shut) departs

changes_depart : (core : CoreState) (step : Step) (i : ℕ) → IsOrderly core step → ChangeDeparts (change_of core step) i (conn core i)
changes_depart core (Frame c bytes) i orderly = frame_departs core c i (frame_version core c bytes) (frame_action core c bytes) orderly
changes_depart core (steps.Edit c) i orderly = edit_departs core c i (edit_step.decision core c) orderly
changes_depart core (Tell c revision) i orderly = λ at departs. record { behind = departs.behind; last = departs.last; shut = departs.shut }
changes_depart core (Close c cause) i orderly = λ at departs. closed_departs (up core.line) (conn core i) departs
changes_depart core others i orderly = tt

pub departs_step : (core : CoreState) (step : Step) → IsOrderly core step → AreDeparting core → AreDeparting (does core step)
departs_step core step orderly departs i =
    each_step (λ (old new : Connection). Departs old → Departs new) (λ x is. is) (λ x is. lagging_departs x is) core step i (λ w past is. fresh_departs w) (changes_depart core step i orderly) (departs i)
