-- What the crates above use of these proofs. Declares nothing.
pub use Rattle.mum_core.proofs.{Changed.changed-by, Changed.changed_other, Changed.changed_same, Changed.length-changed, Counts.AreClean, Counts.clean_start, Counts.clean_step, Counts.frame_hands, Counts.held_there, Delivered.delivered, Fitted.lawful_all, Fitted.lawful_start, Fitted.state_proper, Fitted.state_stays, Lower.SeatsNext, Lower.verdict_seats, Notices.notices_are_posted, Notices.posts_are_collected, Notices.waits, Present.slot_below, Settled.AreSettled, Settled.closed_stays, Settled.seat_all, Settled.seat_on, Settled.seat_placed, Settled.settled_start, Settled.settled_step, Subsequences.skip}
pub use Rattle.mum_core.proofs.Copies.{AllCopies, AllLooked, boxes_step, collect_boxes, copies_step, decided_still, each_looked, empty_box, frame_still, idle_copies, looks_before, notes_still, posted_still, rest_core}
pub use Rattle.mum_core.proofs.Places.{Change, at_place, change_by, change_of, change_to, conn, connections_stay, each_step, place_stays, placed}
pub use Rattle.mum_core.proofs.RunLaws.{IsWithin, Keeps, accepted_grows, collect_keeps, collect_workers, decided_workers, drain_keeps, drain_workers, frame_keeps, goes_on, looks_are_bounded, none_stands, not_false, notes_keep, offers_take_the_first, opening_stays, posted_keeps, posted_workers, posting_core, puts_keep, puts_workers, same_opening, taken_core, told_core, within}
pub use Rattle.mum_core.proofs.Speakers.{Has, IsOf, Sound, Source, of_speaker, sound_all, sound_start, source}
