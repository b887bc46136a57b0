use Rattle.mum_state.proofs.Common.{◌∙◌, ap, is_some, is_named}
use Rattle.mum_state.proofs.Judged.{copied_some, some_any}
use Rattle.mum_state.proofs.accounts.Accounts.has_name.Goals as goal

pub returns : goal.returns
returns c = c.is_some.ensures ∙ copied_some c.named.result ∙ ap is_some c.named.ensures ∙ some_any (is_named c.args.name.now) c.args.self.now
