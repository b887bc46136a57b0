use Rattle.mum_control.proofs.Common.{◌∙◌, ℕ, false, Option, ap, subst, sym, ◌↔◌, IsSomeAnd, IsTrue, option_map, Perm, Holds}
use Rattle.mum_control.proofs.permission.holds.Goals as goal

pub returns-in-Some : goal.returns-in-Some
returns-in-Some c =
    subst (λ (held : Option ℕ). IsTrue c.has.result ↔ IsSomeAnd held (λ h. Holds h c.args.perm.0))
    (sym (ap (option_map (λ (p : Perm). p.0)) c.in-Some.is) ∙ c.counted.ensures) c.has.ensures

pub returns-in-None : goal.returns-in-None
returns-in-None c =
    subst (λ (held : Option ℕ). IsTrue false ↔ IsSomeAnd held (λ h. Holds h c.args.perm.0))
    (sym (ap (option_map (λ (p : Perm). p.0)) c.in-None.is) ∙ c.counted.ensures) (λ never. cc, λ never. absurd never)
