use Rattle.mum_tree.proofs.Common.{◌≡◌, ℕ, ◌<◌, false, length, get_or, Row, is_below, AreLevels}
use Rattle.mum_tree.proofs.levels.places_below.Given as goal

abbrev pub invariant-loop-at : goal.invariant-loop-at
invariant-loop-at l = record {
  room : length l.known ≡ 2048;
  right : AreLevels l.rows l.top l.known;
  whole : length l.below ≡ 2048;
  done : (k : ℕ) (d : Row) → k < l.at → get_or l.below (get_or l.rows k d).place false ≡ is_below l.rows l.fn.top (get_or l.rows k d).channel.id;
}
