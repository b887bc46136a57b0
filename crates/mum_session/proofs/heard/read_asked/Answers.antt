use Rattle.mum_session.proofs.Common.{◌∙◌, ap, Message, Malformed, TooLong, heard_map}
use Rattle.mum_session.proofs.Tables.{by_table}
use Rattle.mum_session.proofs.heard.read_asked.Goals as goal

pub returns-in-Message : goal.returns-in-Message
returns-in-Message g c =
    let message = c.in-Message.message in
    let found = rw c.in-Message.is at c.in_ok-message.ensures in
    ap Message c.asked.ensures
    ∙ ap (heard_map g.M.Asks.asked_by) (by_table g.M.Message.rows g.M.Asks.table c.args.payload.now (Message message) g.met.M.Asks.own_table found)

pub returns-in-Malformed : goal.returns-in-Malformed
returns-in-Malformed g c =
    let found = rw c.in-Malformed.is at c.in_ok-message.ensures in
    ap (heard_map g.M.Asks.asked_by) (by_table g.M.Message.rows g.M.Asks.table c.args.payload.now Malformed g.met.M.Asks.own_table found)

pub returns-in-TooLong : goal.returns-in-TooLong
returns-in-TooLong g c =
    let found = rw c.in-TooLong.is at c.in_ok-message.ensures in
    ap (heard_map g.M.Asks.asked_by) (by_table g.M.Message.rows g.M.Asks.table c.args.payload.now TooLong g.met.M.Asks.own_table found)
