use Rattle.mum_policy.proofs.Common.{◌≡◌, ◌∙◌, List, ℕ, true, codes, ap, sym, bytes_eq, actor_of}
use Rattle.mum_policy.proofs.Reading.{everybody_is_member}
use Rattle.mum_policy.proofs.group.member_of.Goals as goal

pub returns-then-is_everybody : goal.returns-then-is_everybody
returns-then-is_everybody g c =
    let all : bytes_eq c.args.name.now (codes "all") ≡ true =
    ap (λ (bytes : List ℕ). bytes_eq bytes (codes "all")) (sym c.as_bytes-name.ensures.value) ∙ sym c.is_everybody.ensures ∙ c.if-is_everybody.true in
    sym (everybody_is_member (g.P.Policies.policy_of c.args.policies.now) c.args.path.now c.args.acl_at c.args.name.now (actor_of c.args.who.now) all)
