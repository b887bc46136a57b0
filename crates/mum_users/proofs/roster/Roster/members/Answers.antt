use Rattle.mum_users.proofs.Common.{◌∙◌, ap, mask_at}
use Rattle.mum_users.proofs.Members.{bits_of_word}
use Rattle.mum_users.proofs.roster.Roster.members.Goals as goal

pub returns : goal.returns
returns c = rw (← c.self.view_is) (bits_of_word _ _ c.args.channel c.args.word _ c.self.invariant.member_masks (c.mask_at.ensures ∙ ap (mask_at c.args.channel c.args.word) c.as_slice.ensures.value))
