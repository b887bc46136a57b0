use Rattle.mum_bans.proofs.Common.{sym, subst, List, ℕ, IsCut}
use Rattle.mum_bans.proofs.Cuts.{cut_at}
use Rattle.mum_bans.proofs.reason.cut.Goals as goal

pub returns : goal.returns
returns c =
    subst (λ (front : List ℕ). IsCut c.args.text.now front) (sym c.split_at.ensures.front)
    (cut_at c.args.text.now c.floor_char_boundary.result c.utf8.text c.floor_char_boundary.ensures.bound c.floor_char_boundary.ensures.boundary c.floor_char_boundary.ensures.nearest)
