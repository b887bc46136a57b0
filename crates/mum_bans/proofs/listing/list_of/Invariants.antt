use Rattle.mum_bans.proofs.Common.{◌≡◌, map, take, entry_of}
use Rattle.mum_bans.proofs.listing.list_of.Given as goal

abbrev pub invariant-loop-ban : goal.invariant-loop-ban
invariant-loop-ban l = l.entries.items ≡ map entry_of (take l.ban-index l.bans)
