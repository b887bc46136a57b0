use Rattle.mum_lines.proofs.Common.{ℕ, ◌≤◌, List, length, subst, sym, arith, is_line_feed, kept_in}
use Rattle.mum_lines.proofs.LineFeeds.{first-within}
use Rattle.mum_lines.proofs.buffer.Buffer.line_feed.Goals as goal

pub line_feed_from-found-requires-clause-within : goal.line_feed_from-found-requires-clause-within
line_feed_from-found-requires-clause-within c =
    let b = c.args.self.now in
    let within : b.scanned ≤ length (kept_in b) = omega (arith, b.no_line_feed, first-within is_line_feed (kept_in b)) in
    subst (λ (bytes : List ℕ). b.scanned ≤ length bytes) (sym c.as_slice.ensures.value) within
