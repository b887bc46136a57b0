use Rattle.mum_tree.proofs.Common.{◌≡◌, ◌∙◌, ◌&&◌, ◌+◌, Bool, true, not, eqb, false, List, get_or, arith, ap, sym, subst, vec_capacity, vec_len, is_among, Row, Pair}
use Rattle.mum_tree.proofs.{Partners.linked_in, Relinked.after_test, Relinked.came_after, Relinked.room_here, Relinked.room_more, Relinked.settled_all, Relinked.settled_more, Relinked.settled_none, Relinked.AreSettled, links.change_links.Goals.After-has_mark-goes}
use Rattle.mum_tree.proofs.links.change_links.Goals as goal

came : (c : After-has_mark-goes) → c.has_mark-comes.result ≡ is_among c.args.adds.now c.row-item.result.channel.id
came c =
    c.has_mark-comes.ensures
    ∙ ap (λ (r : Row). get_or c.places_of.new.marks r.place false) c.row-item.is
    ∙ c.places_of.ensures.value c.loop-row.row-index c.row-item.result c.loop-row-test.true
    ∙ ap (λ (r : Row). is_among c.args.adds.now r.channel.id) (sym c.row-item.is)

gone : (c : After-has_mark-goes) → c.has_mark-goes.result ≡ is_among c.args.removes.now c.row-item.result.channel.id
gone c =
    c.has_mark-goes.ensures
    ∙ ap (λ (r : Row). get_or c.places_of-2.new.marks r.place false) c.row-item.is
    ∙ c.places_of-2.ensures.value c.loop-row.row-index c.row-item.result c.loop-row-test.true
    ∙ ap (λ (r : Row). is_among c.args.removes.now r.channel.id) (sym c.row-item.is)

-- the channel is linked after the change
abbrev after : After-has_mark-goes → Row → Bool
after c row = after_test c.args.links.now.items c.args.id c.args.adds.now c.args.removes.now row.channel.id

passes : (c : After-has_mark-goes) → (not c.has_mark-goes.result && (c.has_mark-comes.result && not (eqb c.row-item.result.channel.id.0 c.args.id.0))) ≡ true → after c (get_or c.args.rows.now c.loop-row.row-index c.row-item.result) ≡ true
passes c on =
    let o = c.row-item.result.channel.id in
    let n = not (eqb o.0 c.args.id.0) in
    let same = ap (λ (g : Bool). not g && (c.has_mark-comes.result && n)) (gone c) ∙ ap (λ (k : Bool). not (is_among c.args.removes.now o) && (k && n)) (came c) in
    ap (after c) (sym c.row-item.is) ∙ came_after (linked_in c.args.links.now.items c.args.id o) (is_among c.args.adds.now o) n (is_among c.args.removes.now o) _ same on

pub loop-row-init : goal.loop-row-init
loop-row-init c = record {
  settled = settled_none c.args.rows.now c.args.links.now.items c.args.id c.args.adds.now c.args.removes.now c.requires.pairs;
  room = omega (arith, c.requires.room);
}

pub set_link-requires-clause-room : goal.set_link-requires-clause-room
set_link-requires-clause-room c = λ on.
    let end = (goal.at.set_link-requires-clause-room c).After-has_mark-goes in
    room_here (after end) c.args.rows.now c.loop-row.row-index c.row-item.result (vec_len c.loop-row.links) (vec_capacity c.loop-row.links) c.loop-row-test.true (passes end on) c.requires.few c.loop-row.invariant.room

pub loop-row-preserved : goal.loop-row-preserved
loop-row-preserved c =
    let end = (goal.at.loop-row-preserved c).After-has_mark-goes in
    let rows = c.args.rows.now in
    let row = c.row-item.result in
    let at = c.loop-row.row-index in
    record {
      settled = subst (λ (ps : List Pair). AreSettled rows c.args.links.now.items ps c.args.id c.args.adds.now c.args.removes.now (at + 1)) (sym c.set_link.ensures.made)
          (settled_more rows c.args.links.now.items c.loop-row.links.items c.args.id c.args.adds.now c.args.removes.now at row c.has_mark-comes.result c.has_mark-goes.result c.requires.rise c.requires.here c.loop-row-test.true c.row-item.is (came end) (gone end) c.loop-row.invariant.settled);
      room = room_more (after end) rows at row (vec_len c.loop-row.links) (vec_len c.set_link.new.links) (vec_capacity c.loop-row.links) (vec_capacity c.set_link.new.links)
          (not c.has_mark-goes.result && (c.has_mark-comes.result && not (eqb row.channel.id.0 c.args.id.0)))
          c.loop-row-test.true c.set_link.ensures.len c.set_link.ensures.capacity (passes end) c.loop-row.invariant.room;
    }

pub returns : goal.returns
returns c = record {
  made = settled_all c.args.rows.now c.args.links.now.items c.loop-row.links.items c.args.id c.args.adds.now c.args.removes.now c.loop-row.row-index c.loop-row-test.false c.requires.here c.requires.added c.requires.pairs c.loop-row.invariant.settled;
  pairs = c.loop-row.invariant.settled.pairs;
}
