use Rattle.mum_rights_laws.proofs.UserRequestLaws.{logins_renew_tokens_lem}
use Rattle.mum_rights_laws.proofs.requests.logins_renew_tokens.Goals as goal

pub returns : goal.returns
returns c = logins_renew_tokens_lem
