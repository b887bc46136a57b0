use Rattle.mum_notify.proofs.Common.{◌≡◌, subst, IfOk, Version, version_frame}
use Rattle.mum_notify.proofs.Within.{version_fits}
use Rattle.mum_notify.proofs.sync.frame_of_version.Goals as goal

pub version_frame-requires : goal.version_frame-requires
version_frame-requires c = version_fits _ c.in_ok-told.ensures

pub returns : goal.returns
returns c = subst (λ (told : Version). IfOk c.version_frame.result (λ frame. frame ≡ version_frame told)) c.in_ok-told.ensures c.version_frame.ensures
