use Rattle.mum_notify.proofs.Common.{◌≡◌, ◌++◌, ◌∙◌, List, ap, subst, OnOk, RosterState, User, all_to_each}
use Rattle.mum_notify.proofs.telling.tell_here.Goals as goal

pub returns : goal.returns
returns c =
    subst (λ (users : List User). OnOk c.tell_all.result (c.tell_all.new.list.items ≡ c.args.list.now.items ++ all_to_each users c.args.frames.now)) (c.users.ensures ∙ ap (λ (roster : RosterState). roster.sessions) c.roster-roster.ensures.roster) c.tell_all.ensures
