use Rattle.mum_document.proofs.Common.{◌<◌, ◌≤◌, length, rules}
use Rattle.mum_document.proofs.Values.{list_fault-fits, list_fault-over}
use Rattle.mum_document.proofs.value.read_list.Goals as goal

pub returns-in-Some : goal.returns-in-Some
returns-in-Some c =
    let few : length c.in-Some.values.now.items ≤ c.args.limit = search rules in
    rw c.as_slice.ensures.value (list_fault-fits _ c.in-Some.values.now.items c.args.limit c.in-Some.ensures few)

pub returns-in-Some-2 : goal.returns-in-Some-2
returns-in-Some-2 c =
    let many : c.args.limit < length c.in-Some-2.field-0.now.items = search rules in
    list_fault-over _ c.in-Some-2.field-0.now.items c.args.limit c.in-Some-2.ensures many
