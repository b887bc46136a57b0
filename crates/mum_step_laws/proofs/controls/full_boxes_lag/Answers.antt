use Rattle.mum_step_laws.proofs.ControlParts.{lags}
use Rattle.mum_step_laws.proofs.controls.full_boxes_lag.Goals as goal

pub returns : goal.returns
returns c = lags
