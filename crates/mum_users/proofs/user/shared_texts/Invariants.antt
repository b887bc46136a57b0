use Rattle.mum_users.proofs.Common.{◌≡◌, take}
use Rattle.mum_users.proofs.user.shared_texts.Given as goal

abbrev pub invariant-loop-text : goal.invariant-loop-text
invariant-loop-text l = l.copies.items ≡ take l.text-index l.texts
