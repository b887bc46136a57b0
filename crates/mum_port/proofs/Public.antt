-- What the crates above use of these proofs. Declares nothing.
pub use Rattle.mum_port.proofs.{Asking.asks-as_heard, Awaiting.awaits-after_frame, Awaiting.awaits_then, Awaiting.waits_still, BoxParts.post-leaves, BoxParts.taking-is, BoxParts.voice-leaves, Closing.and-left, Course.stage_once_put-closed, Farewells.put_once, Idle.and-right, Lifelong.conserved, Lifelong.end_has_all, Lifelong.front_of, Lifelong.written_in_order, Living.closed_life, Living.quiet, Machines.connection-after_frame, Machines.stage-after_frame, Machines.worker-after_frame}
