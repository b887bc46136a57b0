use Rattle.mum_users.proofs.Common.{◌∙◌, ap, list_any, is_row_of}
use Rattle.mum_users.proofs.Members.{has_row-member}
use Rattle.mum_users.proofs.roster.Roster.has_member.Goals as goal

pub returns : goal.returns
returns c =
    rw (← c.self.view_is)
    (c.has_row.ensures ∙ ap (list_any (is_row_of c.args.channel)) c.as_slice.ensures.value ∙ has_row-member c.args.channel _ _ c.self.invariant.member_masks)
