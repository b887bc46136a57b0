-- Each owner keeps the lower half of its numbers, and the other gets the upper half.
use Rattle.mum_serve.proofs.Common.{refl}
use Rattle.mum_serve.proofs.queues.share.Goals as goal

pub returns-in-Ok-share_boxes : goal.returns-in-Ok-share_boxes
returns-in-Ok-share_boxes g c = record {
  voices = c.in-Ok-share_boxes.ensures.voices;
  posts = c.in-Ok-share_boxes.ensures.posts;
  desk = c.in-Ok.ensures.0;
  voice_half = c.in-Ok-share_boxes.ensures.voice;
  post_half = c.in-Ok-share_boxes.ensures.post;
  desk_half = c.in-Ok.ensures.1;
  bell_is = refl;
}
