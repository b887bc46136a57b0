use Rattle.mum_notify.proofs.Common.{ap, permission_parcels}
use Rattle.mum_notify.proofs.Sent.{all_inside, policy_sent, so_on_ok}
use Rattle.mum_notify.proofs.texts.tell_of_policy.Goals as goal

pub tell_permissions-requires : goal.tell_permissions-requires
tell_permissions-requires c = all_inside c.args.after.now _ _ c.roster-roster.ensures.proper c.roster-roster.ensures.roster c.users.ensures

pub returns : goal.returns
returns c =
    so_on_ok c.tell_permissions.result
    (policy_sent c.args.after.now (permission_parcels c.args.after.now c.args.edit.now) c.roster-roster.result.now c.users.result.now c.args.list.now.items c.tell_permissions.new.list.items
    (ap (permission_parcels c.args.after.now) c.in-SetAcl.is) c.roster-roster.ensures.roster c.users.ensures)
    c.tell_permissions.ensures
