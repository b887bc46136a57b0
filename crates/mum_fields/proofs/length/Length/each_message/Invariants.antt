use Rattle.mum_fields.proofs.Common.{◌≡◌, ◌+◌, map, take, cut, size, layout, parts, items, each_message}
use Rattle.mum_fields.proofs.length.Length.each_message.Given as goal

abbrev pub invariant-loop-message : goal.invariant-loop-message
invariant-loop-message g l =
    let rows = g.M.Message.rows in
    l.length ≡ cut (l.fn.self + size (each_message (items (layout rows)) l.number (map (parts rows) (take l.message-index l.list))))
