use Rattle.mum_tree.proofs.Common.{get_or, length, upward}
use Rattle.mum_tree.proofs.Start.{root_row}
use Rattle.mum_tree.proofs.levels.+find_level.Given as goal

-- the way up gets shorter
abbrev pub decreases-find_level : goal.decreases-find_level
decreases-find_level l = length (upward l.rows.now 33 (get_or l.rows.now l.at root_row).channel.id)
