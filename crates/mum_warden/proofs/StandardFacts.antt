-- Frames worked out by hand.
use Rattle.std.proofs.Common.{◌≡◌, [], length, refl}
use Rattle.mum_base.proofs.Public.{hex}
use Rattle.mum_base.specs.declared.number.SessionId.{SessionId}
use Rattle.mum_frame.specs.Frame.{spelling_of}
use Rattle.mum_fields.proofs.Public.{messages}
use Rattle.mum_fields.specs.Table.{spelled}
use Rattle.mum_msg_state.specs.Messages.{reject}
use Rattle.mum_rules_tree.specs.Denial.{denied_frame}
use Rattle.mum_warden.specs.Answer.{refusal, rejection, sent}
use Rattle.mum_bans.specs.declared.verdict.BanVerdict.TheVariants as bans

-- the message to who is banned is short
pub ten_bytes : length (spelled reject rejection) ≡ 10
unfolding messages
ten_bytes = refl

-- a login of who is banned
pub who_is_banned : refusal ≡ hex "0004 0000000a 0800 1206 62616e6e6564"
unfolding messages refusal spelling_of
who_is_banned = refl

abbrev five : SessionId
five = record { 0 = 5 }

pub record ListsAnswered : Type 0 where
  -- Ban is missing on the root
  pub lacks : sent five bans.Lacks ≡ hex "000c 0000000a 08808008 1000 1805 2801"
  -- a limit, with the word that a denial without a type of its own has
  pub refused : sent five bans.Refused ≡ hex "000c 0000000d 1805 2207 72656675736564 2800"
  -- the bans, here 10.0.0.0 with the mask 104 for 60 seconds
  pub shown : sent five (bans.Answer (hex "0a16 0a10 00000000000000000000ffff0a000000 1068 383c"))
      ≡ hex "000a 00000018 0a16 0a10 00000000000000000000ffff0a000000 1068 383c"
  pub malformed : sent five bans.Ignored ≡ []
  pub set : sent five bans.Set ≡ []

pub lists_answered : ListsAnswered
unfolding messages spelling_of denied_frame
lists_answered = record { lacks = refl; refused = refl; shown = refl; malformed = refl; set = refl }
