use Rattle.mum_policy.proofs.Common.{◌≡◌, ap, ◌∙◌, Asks, Understood, understood_after}
use Rattle.mum_policy.proofs.{Reading.read, Reading.read_negation, Reading.read_at_acl, Reading.read_no_prefix, Reading.read_end, name.understand.Goals.in-Some+else-prefix-eq33+else-prefix-eq126, name.understand.Goals.in_default}
use Rattle.mum_policy.proofs.name.understand.Goals as goal

pub prefixes-preserved-then-prefix-eq33 : goal.prefixes-preserved-then-prefix-eq33
prefixes-preserved-then-prefix-eq33 c = read_negation _ _ _ _ _ c.in-Some.ensures.cases.0 c.if-prefix-eq33.true ∙ c.prefixes.invariant

pub prefixes-preserved : goal.prefixes-preserved
prefixes-preserved c = read_at_acl _ _ _ _ _ c.in-Some.ensures.cases.0 c.if-prefix-eq126.true ∙ c.prefixes.invariant

pub returns : goal.returns
returns c =
    let last : read c.prefixes.negated c.prefixes.at_acl c.prefixes.rest.now ≡ understood_after c.prefixes.negated c.prefixes.at_acl c.prefixes.rest.now = elim c.match-split_first.branch [
      | in-Some+else-prefix-eq33+else-prefix-eq126 w ↦
          read_no_prefix c.prefixes.negated c.prefixes.at_acl _ _ _ w.in-Some.ensures.cases.0 w.if-prefix-eq33.false w.if-prefix-eq126.false
      | in_default w ↦ read_end c.prefixes.negated c.prefixes.at_acl _ w.in_default.ensures.cases
    ] in
    ap (λ (asks : Asks). let name : Understood = record { negated = c.prefixes.negated; at_acl = c.prefixes.at_acl; asks = asks } in name) c.asked_behind.ensures ∙ last ∙ c.prefixes.invariant
