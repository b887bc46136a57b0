use Rattle.mum_users.proofs.Common.{◌≡◌, ℕ, ◌+◌, ◌<◌, ◌≤◌, Bool, cond, ltb, not, List, drop, drop_of_length-le, refl, sym, ap, ◌∙◌, arith, count_by, nat_tests, ChannelId, ListenerPair, LISTENED_CHANNELS, is_among, staying, with_channels, is_of_session}
use Rattle.mum_users.proofs.{Edits.count-staying_own, Edits.one_more_own, Edits.own_grows, edit.listens_to_too_many.Goals.then-channels-test+else-count-le-LISTENED_CHANNELS, edit.listens_to_too_many.Goals.else-channels-test}
use Rattle.mum_users.proofs.edit.listens_to_too_many.Goals as goal

pub channels-init : goal.channels-init
channels-init c =
    let session = c.args.session in
    let left = c.args.change.now.unlisten.now in
    let channels = c.args.change.now.listen.now in
    let pairs = c.args.listeners.now in
    record {
      rest = omega arith;
      count =
          c.staying_count-count.ensures
          ∙ ap (λ (ps : List ListenerPair). count_by (λ (pair : ListenerPair). not (is_among left pair.channel)) ps) c.of_session.ensures
          ∙ count-staying_own session left pairs
          ∙ sym (ap (λ (cs : List ChannelId). count_by (is_of_session session) (with_channels session left cs (staying session left pairs))) (drop_of_length-le channels (omega arith)));
    }

pub channels-preserved-then-is_one_more : goal.channels-preserved-then-is_one_more
channels-preserved-then-is_one_more c = record {
  rest = omega arith;
  count =
      one_more_own c.args.session c.args.change.now.unlisten.now c.args.change.now.listen.now _ c.args.listeners.now c.channels.rest _ c.is_one_more.result c.channels.count (c.channels.count + 1)
      c.requires (omega arith) (omega arith) refl c.is_one_more.ensures (sym (ap (λ (b : Bool). c.channels.count + cond b 1 0) c.if-is_one_more.true)) c.channels.invariant.count;
}

pub channels-preserved : goal.channels-preserved
channels-preserved c = record {
  rest = omega arith;
  count =
      one_more_own c.args.session c.args.change.now.unlisten.now c.args.change.now.listen.now _ c.args.listeners.now c.channels.rest _ c.is_one_more.result c.channels.count c.channels.count
      c.requires (omega arith) (omega arith) refl c.is_one_more.ensures (omega (arith, ap (λ (b : Bool). cond {A = ℕ} b 1 0) c.if-is_one_more.false)) c.channels.invariant.count;
}

both_above : (n m : ℕ) → LISTENED_CHANNELS < n → n ≤ m → ltb LISTENED_CHANNELS n ≡ ltb LISTENED_CHANNELS m
both_above n m above le = grind (arith, nat_tests)

pub returns : goal.returns
returns c =
    let session = c.args.session in
    let left = c.args.change.now.unlisten.now in
    let channels = c.args.change.now.listen.now in
    let pairs = c.args.listeners.now in
    elim c.channels-test.branch [
      | then-channels-test+else-count-le-LISTENED_CHANNELS w ↦
          both_above _ _ w.if-count-le-LISTENED_CHANNELS.false (omega (arith, c.channels.invariant.count, own_grows session left channels pairs c.channels.rest c.requires))
      | else-channels-test w ↦
          (let none : c.channels.rest ≡ 0 = omega (arith, w.channels-test.false) in
          ap (ltb LISTENED_CHANNELS) (c.channels.invariant.count ∙ ap (λ (k : ℕ). count_by (is_of_session session) (with_channels session left (drop k channels) (staying session left pairs))) none))
    ]
