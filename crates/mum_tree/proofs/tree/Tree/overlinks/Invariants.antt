use Rattle.mum_tree.proofs.Common.{◌≡◌, ◌&&◌, false, length, take, leb, count_by, list_any, change_of, is_new_partner, is_partner_after, partners}
use Rattle.mum_tree.proofs.tree.Tree.overlinks.Given as goal

abbrev pub invariant-loop-row : goal.invariant-loop-row
invariant-loop-row l = record {
  count : l.partners ≡ count_by (λ row. is_partner_after l.self l.id (change_of l.change) row.channel.id) (take l.row-index l.rows);
  none : list_any (λ row. is_new_partner l.self l.id (change_of l.change) row.channel.id && leb 64 (length (partners l.self row.channel.id))) (take l.row-index l.rows) ≡ false;
}
