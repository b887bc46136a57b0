use Rattle.mum_session.proofs.Common.{◌∙◌, Bool, ap, sym, refl, IfOk-weaker, on_ok_weaker, decoded, version, version_action, version_after, Machine, is_rejected}
use Rattle.mum_session.proofs.{Frames.behind, Frames.behind-gone, Frames.behind-version, Frames.version-asks, Strangers.gone}
use Rattle.mum_session.proofs.session.Session.frame.Goals as goal

abbrev stage_test : Machine → Bool
stage_test machine = is_rejected machine.stage

pub returns-then-is_rejected-clause-action : goal.returns-then-is_rejected-clause-action
returns-then-is_rejected-clause-action c =
    let machine = c.args.self.now in
    c.ignored.ensures ∙ sym (gone machine.stage machine c.args.frame.kind c.args.frame.payload refl (sym (ap stage_test c.self.view_is) ∙ sym c.if-is_rejected.ensures))

pub returns-then-is_rejected-clause-after : goal.returns-then-is_rejected-clause-after
returns-then-is_rejected-clause-after c =
    behind-gone c.args.self.now c.args.frame.kind c.args.frame.payload c.requires (sym (ap stage_test c.self.view_is) ∙ sym c.if-is_rejected.ensures)

pub returns-then-kind-eq-VERSION-clause-action : goal.returns-then-kind-eq-VERSION-clause-action
returns-then-kind-eq-VERSION-clause-action c =
    let asks = version-asks c.args.self.now c.args.frame.kind c.args.frame.payload (sym (ap stage_test c.self.view_is) ∙ sym c.if-is_rejected.ensures) c.if-kind-eq-VERSION.true in
    IfOk-weaker c.keep.result _ _ (λ _ is. is ∙ (ap (λ payload. version_action (decoded version payload)) c.as_slice.ensures ∙ asks)) c.keep.ensures.action

pub returns-then-kind-eq-VERSION-clause-after : goal.returns-then-kind-eq-VERSION-clause-after
returns-then-kind-eq-VERSION-clause-after c =
    let machine = c.args.self.now in
    let behind = behind-version machine c.args.frame.kind c.args.frame.payload c.requires (sym (ap stage_test c.self.view_is) ∙ sym c.if-is_rejected.ensures) c.if-kind-eq-VERSION.true in
    on_ok_weaker c.keep.result (λ is. is ∙ (ap (λ payload. record machine { version = version_after machine.version (decoded version payload) }) c.as_slice.ensures ∙ behind)) c.keep.ensures.after

pub returns-clause-after : goal.returns-clause-after
returns-clause-after c =
    let machine = c.args.self.now in
    ap (λ (m : Machine). record m { awaits = c.asks-self-inside.result }) c.self.view_is
    ∙ (ap (λ (b : Bool). record machine { awaits = b }) c.asks-self-inside.ensures
    ∙ behind machine c.args.frame.kind c.args.frame.payload c.in_ok-action.action c.in_ok-action.ensures c.if-kind-eq-VERSION.false)
