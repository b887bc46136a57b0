use Rattle.mum_notify.proofs.Common.{◌≡◌, ℕ, ◌++◌, ◌∙◌, List, map, subst, OnOk, parcel}
use Rattle.mum_notify.proofs.sync.tell_state.Goals as goal

pub returns : goal.returns
returns c =
    subst (λ (frames : List (List ℕ)). OnOk c.send_all.result (c.send_all.new.list.items ≡ c.args.list.now.items ++ map (λ frame. parcel frame c.args.user.now) frames)) (c.as_slice.ensures.value ∙ c.in_ok-frames.ensures) c.send_all.ensures
