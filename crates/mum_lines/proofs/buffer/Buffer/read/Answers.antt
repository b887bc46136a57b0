use Rattle.mum_lines.proofs.Common.{ℕ, ◌≡◌, ◌+◌, ◌≤◌, ◌++◌, ◌∙◌, List, take, drop, slice_range, sym, ap, arith, length-drop, subst, length-take-le, is_line_feed, line_length}
use Rattle.mum_lines.proofs.{LineFeeds.first-longer, Windows.grown, Windows.same}
use Rattle.mum_lines.proofs.buffer.Buffer.read.Goals as goal

-- what is kept after more bytes is what was kept and these
longer : (scanned start end n : ℕ) (xs ys : List ℕ) → start ≤ end → take end ys ≡ take end xs → scanned ≤ line_length (slice_range xs start end)
    → scanned ≤ line_length (slice_range ys start (end + n))
longer scanned start end n xs ys ordered front le =
    subst (λ (bytes : List ℕ). scanned ≤ line_length bytes) (sym (grown xs ys start end n ordered front))
    (let more = first-longer is_line_feed (slice_range xs start end) (take n (drop end ys)) in omega (arith, le, more))

pub invariant_of-self : goal.invariant_of-self
invariant_of-self g c =
    let b = c.make_room.new.self in
    let bytes = c.read_behind.new.bytes in
    let got = c.in-Got.ensures in
    let long = length-drop b.end bytes.items in
    record {
      ordered = omega (arith, b.ordered);
      within = omega (arith, got.len, got.bytes.1, b.within, long);
      sized = got.len ∙ b.sized;
      no_line_feed = longer b.scanned b.start b.end c.in-Got.count b.bytes.items bytes.items b.ordered got.front b.no_line_feed;
    }

pub returns-in-Got-clause-bytes : goal.returns-in-Got-clause-bytes
returns-in-Got-clause-bytes g c =
    let b = c.make_room.new.self in
    let bytes = c.read_behind.new.bytes.items in
    let got = c.in-Got.ensures in
    let more = take c.in-Got.count (drop b.end bytes) in (
      more,
      omega (arith, got.bytes.0, got.bytes.1, length-take-le c.in-Got.count (drop b.end bytes) got.bytes.1),
      grown b.bytes.items bytes b.start b.end c.in-Got.count b.ordered got.front ∙ ap (λ (kept : List ℕ). kept ++ more) c.make_room.ensures.same,
      got.bytes.2,
    )

-- a read that got nothing leaves what is kept
kept_so : (scanned start end : ℕ) (xs ys : List ℕ) → start ≤ end → take end ys ≡ take end xs → scanned ≤ line_length (slice_range xs start end)
    → scanned ≤ line_length (slice_range ys start end)
kept_so scanned start end xs ys ordered front le = subst (λ (bytes : List ℕ). scanned ≤ line_length bytes) (sym (same xs ys start end ordered front)) le

pub invariant_of-self-in-End : goal.invariant_of-self-in-End
invariant_of-self-in-End g c =
    let b = c.make_room.new.self in
    let got = c.in-End.ensures in
    record {
      ordered = b.ordered;
      within = omega (arith, got.len, b.within);
      sized = got.len ∙ b.sized;
      no_line_feed = kept_so b.scanned b.start b.end b.bytes.items c.read_behind.new.bytes.items b.ordered got.front b.no_line_feed;
    }

pub invariant_of-self-in-Failed : goal.invariant_of-self-in-Failed
invariant_of-self-in-Failed g c =
    let b = c.make_room.new.self in
    let got = c.in-Failed.ensures in
    record {
      ordered = b.ordered;
      within = omega (arith, got.len, b.within);
      sized = got.len ∙ b.sized;
      no_line_feed = kept_so b.scanned b.start b.end b.bytes.items c.read_behind.new.bytes.items b.ordered got.front b.no_line_feed;
    }

pub returns-in-End-clause-bytes : goal.returns-in-End-clause-bytes
returns-in-End-clause-bytes g c =
    let b = c.make_room.new.self in
    (same b.bytes.items c.read_behind.new.bytes.items b.start b.end b.ordered c.in-End.ensures.front ∙ c.make_room.ensures.same, c.in-End.ensures.bytes.0, c.in-End.ensures.bytes.1)

pub returns-in-Failed-clause-bytes : goal.returns-in-Failed-clause-bytes
returns-in-Failed-clause-bytes g c =
    let b = c.make_room.new.self in
    (same b.bytes.items c.read_behind.new.bytes.items b.start b.end b.ordered c.in-Failed.ensures.front ∙ c.make_room.ensures.same, c.in-Failed.ensures.bytes)
