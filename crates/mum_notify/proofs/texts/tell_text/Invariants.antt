use Rattle.mum_notify.proofs.Common.{◌≡◌, ◌++◌, filter, take, to_each, is_for}
use Rattle.mum_notify.proofs.texts.tell_text.Given as goal

abbrev pub invariant-loop-user : goal.invariant-loop-user
invariant-loop-user l = l.list.items ≡ l.fn.list.items ++ to_each (filter (is_for l.state l.text.actor l.text.sessions.now l.text.channels.now l.text.trees.now) (take l.user-index l.users)) l.frame
