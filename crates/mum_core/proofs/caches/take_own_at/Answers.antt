use Rattle.mum_core.proofs.Common.{IfOk, Result, Ok, Err, nothing_sound}
use Rattle.mum_core.proofs.caches.take_own_at.Goals as goal

both_ok : {A E : Type 0} {P Q R : A → Type 0} (answered : Result A E) → ((x : A) → P x → Q x → R x) → IfOk answered P → IfOk answered Q → IfOk answered R
both_ok (Ok x) f p q = f x p q
both_ok (Err e) f p q = tt

pub returns-in-None-clause-sound : goal.returns-in-None-clause-sound
returns-in-None-clause-sound c = both_ok c.new.result (λ own perms routes state here. nothing_sound state own perms routes) c.new.ensures.perms c.new.ensures.routes
