-- What the crates above use of these proofs. Declares nothing.
pub use Rattle.mum_notify.proofs.{Bounds.bound, Bounds.items-few, Bounds.row-few, Bounds.written-append, ByParent.family_alike, ByParent.filter_alike, ByParent.no_levels, Families.parents_come_first_lem, Families.same_channel, Pieces.dropped_more, Pieces.kept_more, Pieces.mapped_more, Pieces.next_front, Pieces.pieces_more, Pieces.whole_front, Placed.rises_with, Sent.root_there, Standing.apart_sym, Standing.applied_tree, Standing.changed_number, Standing.filter_within, Standing.other_channels_stand_lem, Told.each_has_its_session_lem, Told.last_only_for_kicked_lem, Unwatched.comments_stand_lem, Unwatched.other_sessions_stand_lem}
