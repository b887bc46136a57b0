-- What the crates above use of these proofs. Declares nothing.
pub use Rattle.mum_route.proofs.{Among.Contains-among, Among.among-Contains, Among.among-below, Among.among-filter, Among.among-spread, Among.marked_among, Inputs.route_is_of_its_inputs_lem, Known.one_row, Known.place_within, Known.row_at, Present.all_at, Present.channel_there, Present.listened_there, Relations.item_context, Relations.kept_from, Relations.talk_context, Seated.each_hearer, Seated.each_hearer_by, Seated.each_seated, Seated.seated, Slots.slot_below}
pub use Rattle.mum_route.proofs.Hearers.{IsHearing, each_hearing, found_number, found_own, members_contain, pairs_hearing, route_of_heard, route_of_loopback, route_of_none, route_of_silent}
pub use Rattle.mum_route.proofs.StandardFacts.{each_in_its_own, flags, linked, loopback, spread_out, talk, three, wide, without}
