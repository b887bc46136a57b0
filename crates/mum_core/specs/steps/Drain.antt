-- A connection takes the oldest copy of its slot.
use Rattle.std.specs.Prelude.{drop, slice_get}
use Rattle.std.specs.Option.{option_map}
use Rattle.mum_frame.specs.declared.kind.TheConstants.{UDP_TUNNEL}
use Rattle.mum_frame.specs.Frame.{spelling_of}
use Rattle.mum_core.specs.declared.outbox.Parcel.{Parcel}
use Rattle.mum_core.specs.{Core.at_outbox, Core.outbox_at, Delivery.Delivery, Delivery.Queues}

-- a copy comes on the wire as the frame that carries it
abbrev pub carried : Parcel → Delivery
carried parcel = record { to = parcel.to; frame = spelling_of UDP_TUNNEL parcel.bytes }

abbrev pub copy_queues : Queues
copy_queues = record {
  oldest = λ core slot. option_map carried (slice_get (outbox_at core slot) 0);
  without = λ slot core. at_outbox slot (λ parcels. drop 1 parcels) core;
}
