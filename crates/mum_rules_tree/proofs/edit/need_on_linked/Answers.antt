use Rattle.mum_rules_tree.proofs.Common.{◌≡◌, ℕ, Err, List, map, arith, ap, ◌∙◌, common_steps, LINK_CHANNEL, actor_of, others, all_met, need}
use Rattle.mum_rules_tree.proofs.OneByOne.{second_stops, third_decides}
use Rattle.mum_rules_tree.proofs.edit.need_on_linked.Goals as goal

pub returns-in_err-need_on_others : goal.returns-in_err-need_on_others
returns-in_err-need_on_others c =
    let state = c.args.state.now in
    let wanted = need (actor_of c.args.who.now) LINK_CHANNEL in
    let id = c.args.id in
    let message = c.args.message.now in
    let lack = c.in_err-need_on_others.field-0.0 in
    let err : c.from_residual-in_err-need_on_others.result ≡ Err lack = grind (arith, common_steps) in
    let missing = c.in_err-need_on_others.ensures.value ∙ ap (λ (ns : List ℕ). all_met state (map wanted (others id ns))) c.as_slice.ensures in
    err ∙ second_stops state (wanted id) (map wanted (others id message.links_add)) (map wanted (others id message.links_remove)) lack c.in_ok-need.ensures missing

pub returns : goal.returns
returns c =
    let state = c.args.state.now in
    let wanted = need (actor_of c.args.who.now) LINK_CHANNEL in
    let id = c.args.id in
    let message = c.args.message.now in
    let first = c.in_ok-need_on_others.ensures.value ∙ ap (λ (ns : List ℕ). all_met state (map wanted (others id ns))) c.as_slice.ensures in
    c.need_on_others-2.ensures.value
    ∙ ap (λ (ns : List ℕ). all_met state (map wanted (others id ns))) c.as_slice-2.ensures
    ∙ third_decides state (wanted id) (map wanted (others id message.links_add)) (map wanted (others id message.links_remove)) c.in_ok-need.ensures first
