use Rattle.mum_tree.proofs.Common.{◌≡◌, false, length, get_or, take, All, is_among}
use Rattle.mum_tree.proofs.rows.places_of.Given as goal

abbrev pub invariant-loop-id : goal.invariant-loop-id
invariant-loop-id l = record {
  whole : length l.marks ≡ 2048;
  done : All (λ row. get_or l.marks row.place false ≡ is_among (take l.id-index l.ids) row.channel.id) l.rows;
}
