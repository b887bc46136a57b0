use Rattle.mum_fields.proofs.Common.{◌≡◌, ◌++◌, take, map, All, written, IsBytes, AreTyped, layout, parts, items, each_message}
use Rattle.mum_fields.proofs.writer.Writer.put_each_message.Given as goal

abbrev pub invariant-loop-message : goal.invariant-loop-message
invariant-loop-message g l =
    let rows = g.M.Message.rows in
    record {
      ok : l.self ≡ l.fn.self ++ written (each_message (items (layout rows)) l.number (map (parts rows) (take l.message-index l.list)));
      typed : All (λ x. AreTyped (layout rows) x × IsBytes (written (items (layout rows) x))) (map (parts rows) (take l.message-index l.list));
    }
