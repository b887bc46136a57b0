use Rattle.mum_rules_user.proofs.Common.{◌≡◌, ℕ, Err, List, map, arith, ap, sym, ◌∙◌, common_steps, TEXT_MESSAGE, actor_of, all_met, need, channels_of, channels_there}
use Rattle.mum_rules_user.proofs.InTurn.{first_fails, in_three, second_fails, third_decide}
use Rattle.mum_rules_user.proofs.text.need_to_tell.Goals as goal

pub returns-in_err-need_at_sessions : goal.returns-in_err-need_at_sessions
returns-in_err-need_at_sessions c =
    let state = c.args.state.now in
    let message = c.args.message.now in
    let wanted = need (actor_of c.args.who.now) TEXT_MESSAGE in
    let sessions = channels_of state.roster message.session in
    let channels = channels_there state message.channel_id in
    let trees = channels_there state message.tree_id in
    let lack = c.in_err-need_at_sessions.field-0.0 in
    let err : c.from_residual.result ≡ Err lack = grind (arith, common_steps) in
    let missing = c.in_err-need_at_sessions.ensures.value ∙ ap (λ (ns : List ℕ). all_met state (map wanted (channels_of state.roster ns))) c.as_slice.ensures in
    err
    ∙ first_fails state (map wanted sessions) (map wanted channels) (map wanted trees) lack missing
    ∙ ap (all_met state) (sym (in_three wanted sessions channels trees))

pub returns-in_err-need_in_channels : goal.returns-in_err-need_in_channels
returns-in_err-need_in_channels c =
    let state = c.args.state.now in
    let message = c.args.message.now in
    let wanted = need (actor_of c.args.who.now) TEXT_MESSAGE in
    let sessions = channels_of state.roster message.session in
    let channels = channels_there state message.channel_id in
    let trees = channels_there state message.tree_id in
    let lack = c.in_err-need_in_channels.field-0.0 in
    let err : c.from_residual-in_err-need_in_channels.result ≡ Err lack = grind (arith, common_steps) in
    let first = c.in_ok-need_at_sessions.ensures.value ∙ ap (λ (ns : List ℕ). all_met state (map wanted (channels_of state.roster ns))) c.as_slice.ensures in
    let missing = c.in_err-need_in_channels.ensures.value ∙ ap (λ (ns : List ℕ). all_met state (map wanted (channels_there state ns))) c.as_slice-2.ensures in
    err
    ∙ second_fails state (map wanted sessions) (map wanted channels) (map wanted trees) lack first missing
    ∙ ap (all_met state) (sym (in_three wanted sessions channels trees))

pub returns : goal.returns
returns c =
    let state = c.args.state.now in
    let message = c.args.message.now in
    let wanted = need (actor_of c.args.who.now) TEXT_MESSAGE in
    let sessions = channels_of state.roster message.session in
    let channels = channels_there state message.channel_id in
    let trees = channels_there state message.tree_id in
    let first = c.in_ok-need_at_sessions.ensures.value ∙ ap (λ (ns : List ℕ). all_met state (map wanted (channels_of state.roster ns))) c.as_slice.ensures in
    let second = c.in_ok-need_in_channels.ensures.value ∙ ap (λ (ns : List ℕ). all_met state (map wanted (channels_there state ns))) c.as_slice-2.ensures in
    c.need_in_channels-2.ensures.value
    ∙ ap (λ (ns : List ℕ). all_met state (map wanted (channels_there state ns))) c.as_slice-3.ensures
    ∙ third_decide state (map wanted sessions) (map wanted channels) (map wanted trees) first second
    ∙ ap (all_met state) (sym (in_three wanted sessions channels trees))
