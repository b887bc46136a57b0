use Rattle.mum_document.proofs.Common.{◌≡◌, false, true, map, rules, sym, ◌∙◌, ap, list_any, bytes_eq, members_view, view, unknown_key}
use Rattle.mum_document.proofs.Objects.{list_any-now, unknown_key-here, unknown_key-known, unknown_said}
use Rattle.mum_document.proofs.object.Object.refuse_others.Goals as goal

pub loop-key-preserved : goal.loop-key-preserved
loop-key-preserved c =
    let names = map (λ n. n.now) c.args.names.now in
    let known : list_any (λ name. bytes_eq name c.as_str.result.now) names ≡ true = list_any-now _ c.args.names.now ∙ sym c.is_known.ensures ∙ c.if-not-is_known.false in
    sym (ap (λ es. unknown_key names (members_view es)) c.in-Some-2.ensures.steps ∙ unknown_key-known names _ (view c.in-Some-2.field-0-1.now) _ (rw c.as_str.ensures.value at known)) ∙ c.loop-key.invariant

pub returns-then-not-is_known : goal.returns-then-not-is_known
returns-then-not-is_known c =
    let names = map (λ n. n.now) c.args.names.now in
    let other : list_any (λ name. bytes_eq name c.as_str.result.now) names ≡ false = list_any-now _ c.args.names.now ∙ sym c.is_known.ensures ∙ c.if-not-is_known.true in
    let all : c.into_iter-key-iterator.result ≡ c.in-Some.members.now.entries = search rules in
    let least =
    sym (ap (λ es. unknown_key names (members_view es)) all) ∙ sym c.loop-key.invariant
    ∙ ap (λ es. unknown_key names (members_view es)) c.in-Some-2.ensures.steps
    ∙ unknown_key-here names _ (view c.in-Some-2.field-0-1.now) _ (rw c.as_str.ensures.value at other) in
    unknown_said c.args.self.now.dot.now _ names _ _ _ c.in-Some.ensures least (rw c.as_str-then-not-is_known.ensures.value at c.fault.ensures)
