use Rattle.mum_session.proofs.Common.{◌≡◌, ◌∙◌, rules, IfOk-weaker, UDP_TUNNEL, PING, AUTHENTICATE}
use Rattle.mum_session.proofs.Frames.{other-asks}
use Rattle.mum_session.proofs.session.Session.action_of.Goals as goal

pub returns-in_default : goal.returns-in_default
returns-in_default c =
    let tunnel : (c.args.kind ≡ UDP_TUNNEL → ⊥) = λ e. search rules in
    let ping : (c.args.kind ≡ PING → ⊥) = λ e. search rules in
    let login : (c.args.kind ≡ AUTHENTICATE → ⊥) = λ e. search rules in
    let other = other-asks c.args.self.now c.args.kind c.args.payload c.requires.stays tunnel c.requires.other ping login in
    IfOk-weaker c.other.result _ _ (λ _ is. is ∙ other) c.other.ensures
