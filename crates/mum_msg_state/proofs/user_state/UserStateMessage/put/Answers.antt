use Rattle.mum_msg_state.proofs.Common.{layout, parts, fields-added, user_state}
use Rattle.mum_msg_state.proofs.user_state.UserStateMessage.put.Goals as goal

pub returns-clause-ok : goal.returns-clause-ok
returns-clause-ok c =
    fields-added (layout user_state) (parts user_state c.args.self.now) c.args.writer
    _ c.in_ok-put_number.ensures.ok
    _ c.in_ok-put_number-2.ensures.ok
    _ c.in_ok-put_text.ensures.ok
    _ c.in_ok-put_number-3.ensures.ok
    _ c.in_ok-put_number-4.ensures.ok
    _ c.in_ok-put_number-5.ensures.ok
    _ c.in_ok-put_number-6.ensures.ok
    _ c.in_ok-put_number-7.ensures.ok
    _ c.in_ok-put_number-8.ensures.ok
    _ c.in_ok-put_number-9.ensures.ok
    _ c.in_ok-put_octets.ensures.ok
    _ c.in_ok-put_text-2.ensures.ok
    _ c.in_ok-put_text-3.ensures.ok
    _ c.in_ok-put_number-10.ensures.ok
    _ c.in_ok-put_number-11.ensures.ok
    _ c.in_ok-put_each_text.ensures.ok
    _ c.in_ok-put_each_number.ensures.ok
    _ c.in_ok-put_each_number-2.ensures.ok
