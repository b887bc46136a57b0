-- Each worker gets its half of the numbers, and a bell.
use Rattle.mum_serve.proofs.Common.{◌≡◌, ◌∙◌, arith, has_fewer, numbers_behind}
use Rattle.mum_serve.proofs.{Naming.have_fewer, Naming.numbers_some, Sharing.are_shared, Sharing.none_shared}
use Rattle.mum_serve.proofs.queues.Queues.new.Goals as goal

pub workers-init : goal.workers-init
workers-init g c =
    none_shared _ _ _ c.new-bells.ensures.items c.new-shared.ensures.items c.in_ok-voices.ensures.many c.in_ok-posts.ensures.many
    c.in_ok-voices.ensures.names c.in_ok-posts.ensures.names c.in_ok-voices.ensures.numbers c.in_ok-posts.ensures.numbers c.in_ok-desk.ensures

pub returns : goal.returns
returns g c =
    let so = c.workers.invariant in
    let is : c.workers.worker ≡ c.args.workers = omega arith in
    record {
      posts = so.posts;
      bells = so.bells_many ∙ is;
      shares = so.shares ∙ is;
      boxes = so.boxes;
      shared = are_shared c.workers.worker _ _ _ so;
      post_numbers = have_fewer (numbers_behind c.workers.worker) 1 _ (numbers_some c.workers.worker) so.numbers.posts;
      desk_numbers = has_fewer (numbers_behind c.workers.worker) 1 _ (numbers_some c.workers.worker) so.numbers.desk;
    }
