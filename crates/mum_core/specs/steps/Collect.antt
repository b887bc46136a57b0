-- A connection takes the oldest notice of its slot.
use Rattle.std.specs.Prelude.{drop, slice_get}
use Rattle.std.specs.Option.{option_map}
use Rattle.mum_notify.specs.declared.notice.Notice.{Notice}
use Rattle.mum_core.specs.{Core.at_posts, Core.posts_at, Delivery.Delivery, Delivery.Queues}

-- a notice comes on the wire as the frame that it is
abbrev pub framed : Notice → Delivery
framed notice = record { to = notice.to; frame = notice.bytes }

abbrev pub notice_queues : Queues
notice_queues = record {
  oldest = λ core slot. option_map framed (slice_get (posts_at core slot) 0);
  without = λ slot core. at_posts slot (λ posts. drop 1 posts) core;
}
