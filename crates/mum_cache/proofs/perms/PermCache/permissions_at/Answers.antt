use Rattle.mum_cache.proofs.Common.{◌≡◌, ◌∙◌, List, Option, None, ap, subst, MatchOption, perm_of, Key, PermEntry, IsKey, answers, kept_at}
use Rattle.mum_cache.proofs.Answered.{answered_answers}
use Rattle.mum_cache.proofs.perms.PermCache.permissions_at.Goals as goal

pub returns-clause-stands : goal.returns-clause-stands
returns-clause-stands g c =
    let state = c.args.state.now in
    let key : IsKey state c.args.session c.args.channel c.in-Some.key =
    subst (λ (o : Option Key). MatchOption o (perm_of state c.args.session c.args.channel ≡ None) (IsKey state c.args.session c.args.channel)) c.in-Some.is c.key_of.ensures in
    ap (λ (es : List PermEntry). answers state c.args.session c.args.channel (kept_at state c.args.session c.args.channel es)) c.answer.ensures.kept
    ∙ answered_answers state c.args.session c.args.channel c.in-Some.key key c.self.inside.entries c.answer.result c.self.invariant
