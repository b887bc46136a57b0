use Rattle.mum_session.proofs.Common.{ap, sym, UserState, user_state_back, User}
use Rattle.mum_rules_user.specs.declared.message.UserMessage.TheVariants as users
use Rattle.mum_session.proofs.asks.UserStateAsks.asked.Goals as goal

pub returns : goal.returns
returns c = sym (ap (λ (m : UserState). User (users.User m)) (user_state_back c.args.self))
