-- What the limit of a tree bounds.
use Rattle.mum_tree.proofs.Common.{◌≡◌, ◌<◌, List, arith, sym, subst, All, All-weaker, Row, IsProper, TreeState}

pub placed_within : (tree : TreeState) (seen : List Row) → seen ≡ tree.channels → IsProper tree → All (λ row. row.place < 2048) seen
placed_within tree seen same proper =
    subst (λ (rows : List Row). All (λ row. row.place < 2048) rows) (sym same)
    (All-weaker (λ (row : Row). row.place < tree.limit) (λ (row : Row). row.place < 2048) (λ row places_fit. omega (arith, proper.limited)) tree.channels proper.places_fit)
