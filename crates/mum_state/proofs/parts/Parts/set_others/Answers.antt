use Rattle.mum_state.proofs.Common.{◌≡◌, true, ap, subst, option_map, user_edit_of, Edit, fits, session_edit}
use Rattle.mum_state.proofs.{Limiting.limits_fit, Marking.account_fits, OfSession.user_fits}
use Rattle.mum_state.proofs.parts.Parts.set_others.Goals as goal

pub edit_user-requires : goal.edit_user-requires
edit_user-requires c =
    user_fits c.args.self.now c.args.edit.now c.in-SetUser.session (user_edit_of c.in-Some.change) c.requires.fits
    (ap (λ (e : Edit). option_map (λ user. user.session) (session_edit e)) c.in-SetUser.is) c.in-Some.ensures

pub add_account-requires : goal.add_account-requires
add_account-requires c =
    let added = c.in-AddAccount in
    let parts = account_fits c.args.self.now added.account added.name added.digest (subst (λ (e : Edit). fits c.args.self.now e ≡ true) added.is c.requires.fits) in
    record { name = parts.0; number = parts.1 }

pub set_limits-requires : goal.set_limits-requires
set_limits-requires c =
    let are = limits_fit c.args.self.now c.in-SetLimits.sessions c.in-SetLimits.channels (subst (λ (e : Edit). fits c.args.self.now e ≡ true) c.in-SetLimits.is c.requires.fits) in
    record { sessions = are.sessions_rise; few_sessions = are.few_sessions; channels = are.channels_rise; few_channels = are.few_channels }
