-- The channels are made after the settings and the accounts, and these after the limits.
use Rattle.mum_serve.proofs.Common.{◌≡◌, ◌∙◌, ◌++◌, subst, IfOk-weaker, settings_and_accounts, rebuild, HaveNumbers, served_edits, after, led_to, StateValue}
use Rattle.mum_serve.proofs.Beginning.{all_led_behind, channels_fit_behind, settings_fit_first}
use Rattle.mum_serve.proofs.states.rebuilt_state.Goals as goal

pub with_settings-requires : goal.with_settings-requires
with_settings-requires c = settings_fit_first c.args.edits.now c.args.rows.now c.greatest.result c.in_ok-limited.limited c.in_ok-limited.limited c.greatest.ensures c.in_ok-limited.ensures c.requires.alone

pub state_from-requires : goal.state_from-requires
state_from-requires c =
    channels_fit_behind c.args.edits.now c.args.rows.now c.greatest.result c.in_ok-limited.limited c.in_ok-state.state c.deref.result.now c.greatest.ensures c.in_ok-limited.ensures c.in_ok-state.ensures
    (c.deref.ensures.value ∙ c.in_ok-channels.ensures) c.requires.alone c.requires.rows (subst HaveNumbers c.as_slice.ensures c.have_numbers.ensures)

pub returns : goal.returns
returns c =
    IfOk-weaker c.state_from.result (λ (led : StateValue). led ≡ led_to c.in_ok-state.state c.deref.result.now) (λ (led : StateValue). led ≡ after (served_edits (settings_and_accounts c.args.edits.now ++ rebuild c.args.rows.now)))
    (λ led last.
    all_led_behind c.args.edits.now c.args.rows.now c.greatest.result c.in_ok-limited.limited c.in_ok-state.state c.deref.result.now led c.greatest.ensures c.in_ok-limited.ensures c.in_ok-state.ensures
    (c.deref.ensures.value ∙ c.in_ok-channels.ensures) last)
    c.state_from.ensures
