-- What frames and replies leave of the machine of a connection.
use Rattle.mum_port.proofs.Common.{◌≡◌, ℕ, List, Result, Ok, Err, OnErr, OnOk, refl, ap, ◌∙◌, AllocError, after_frame, Machine, Action}

pub connection-after_frame : (machine : Machine) (kind : ℕ) (payload : List ℕ) → (after_frame machine kind payload).connection ≡ machine.connection
unfolding after_frame
connection-after_frame machine kind payload = refl

pub worker-after_frame : (machine : Machine) (kind : ℕ) (payload : List ℕ) → (after_frame machine kind payload).worker ≡ machine.worker
unfolding after_frame
worker-after_frame machine kind payload = refl

pub stage-after_frame : (machine : Machine) (kind : ℕ) (payload : List ℕ) → (after_frame machine kind payload).stage ≡ machine.stage
unfolding after_frame
stage-after_frame machine kind payload = refl

-- a frame leaves the numbers, whether it was taken or not
pub frame_keeps_numbers : (answer : Result Action AllocError) (old new : Machine) (kind : ℕ) (payload : List ℕ)
    → OnOk answer (new ≡ after_frame old kind payload) → OnErr answer (new ≡ old)
    → (new.connection ≡ old.connection) × (new.worker ≡ old.worker)
frame_keeps_numbers (Ok action) old new kind payload taken refused = (
  ap (λ (m : Machine). m.connection) taken ∙ connection-after_frame old kind payload,
  ap (λ (m : Machine). m.worker) taken ∙ worker-after_frame old kind payload,
)
frame_keeps_numbers (Err memory) old new kind payload taken refused =
    (ap (λ (m : Machine). m.connection) refused, ap (λ (m : Machine). m.worker) refused)
