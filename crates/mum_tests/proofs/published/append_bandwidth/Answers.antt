use Rattle.std.proofs.Common.{rules, ◌≡◌, None, ap, sym, ◌∙◌}
use Rattle.std.proofs.lemmas.Result.{on_ok_weaker}
use Rattle.mum_state.specs.declared.edit.Edit.{Edit, TheVariants.SetServer}
use Rattle.mum_state.specs.Applied.{applied}
use Rattle.mum_published.proofs.Public.{kept_up}
use Rattle.mum_published.specs.Calls.{latest}
use Rattle.mum_tests.proofs.published.append_bandwidth.Goals as goal

-- the copy took the edit before the publisher did
pub returns-clause-twin : goal.returns-clause-twin
returns-clause-twin c =
    let edit : Edit = SetServer c.empty.result c.args.bandwidth None in
    let is : c.apply.new.self ≡ applied c.args.twin.now edit = search rules in
    on_ok_weaker c.append.result
    (kept_up c.reserve.new.self c.append.new.self c.args.twin.now c.apply.new.self edit (c.requires ∙ sym (ap latest c.reserve.ensures)) is)
    c.append.ensures.ok
