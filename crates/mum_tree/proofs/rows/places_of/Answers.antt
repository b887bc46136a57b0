use Rattle.mum_tree.proofs.Common.{◌≡◌, ◌<◌, ◌∙◌, Bool, true, false, List, length, get_or, arith, refl, ap, length-set, get_or_default, take_all, Row, is_among}
use Rattle.mum_tree.proofs.Marks.{mark_more, none_marked}
use Rattle.mum_tree.proofs.rows.places_of.Goals as goal

pub loop-id-init : goal.loop-id-init
loop-id-init c =
    let cleared = c.clear.ensures in
    record {
      whole = ap (λ (marks : List Bool). length marks) cleared;
      done = λ k d within.
          let place = (get_or c.args.rows.now k d).place in
          ap (λ (marks : List Bool). get_or marks place false) cleared ∙ none_marked 2048 place;
    }

pub loop-id-preserved : goal.loop-id-preserved
loop-id-preserved c =
    let rows = c.args.rows.now in
    let ids = c.args.ids.now in
    let marks = c.loop-id.marks in
    let i = c.loop-id.id-index in
    let at = c.place_in_rows.result in
    let row = c.index-rows-place_in_rows.result in
    let within = c.place_in_rows.ensures.within in
    let here = c.index-rows-place_in_rows.is in
    let id = row.channel.id in
    let read = ap (λ (r : Row). r.channel.id) here ∙ c.place_in_rows.ensures.is row ∙ get_or_default ids i _ id c.loop-id-test.true in
    let places_fit : (get_or rows at row).place < 2048 = c.requires.places_fit at row within in
    let same : row.place ≡ (get_or rows at row).place = ap (λ (r : Row). r.place) here in
    let inside : row.place < length marks = omega (arith, c.loop-id.invariant.whole) in
    record {
      whole = length-set marks row.place true ∙ c.loop-id.invariant.whole;
      done = mark_more rows marks ids i id id at row row c.requires.rise c.requires.places_apart c.loop-id-test.true read within here refl inside c.loop-id.invariant.done;
    }

pub returns : goal.returns
returns c = record {
  length = c.loop-id.invariant.whole;
  value = λ k d within. c.loop-id.invariant.done k d within ∙ ap (λ ids. is_among ids (get_or c.args.rows.now k d).channel.id) (take_all c.loop-id.id-index c.args.ids.now c.loop-id-test.false);
}
