use Rattle.mum_lines.proofs.Common.{◌≡◌, ◌+◌, ◌-◌, ◌≤◌, ◌∙◌, ℕ, length, ap, refl, sym, arith, length-take, length-drop, vec_len, LINE_LIMIT, ReaderState, kept_in, Buffer}
use Rattle.mum_lines.proofs.Readers.{gives_line}
use Rattle.mum_lines.proofs.reader.LineReader.next.Goals as goal

fits : (b : Buffer) → length (kept_in b) ≤ LINE_LIMIT + 1
fits b = omega (arith, b.ordered, b.within, b.sized, length-take {A = ℕ}, length-drop {A = ℕ})

pub returns-in-LineFeed : goal.returns-in-LineFeed
returns-in-LineFeed g c =
    let left = g.I.Source.left in
    let sought = c.in-LineFeed.ensures.sought in
    let buffer = c.seek.new.buffer in
    let at = c.in-LineFeed.at in
    let kept : kept_in c.self.inside.buffer ≡ c.args.self.now.kept = ap (λ (r : ReaderState). r.kept) c.self.view_is in
    let room : c.self.inside.room ≡ c.args.self.now.room = ap (λ (r : ReaderState). r.room) c.self.view_is in
    let rest = c.drop_line-start.new.self in
    let stays : vec_len rest.bytes ≡ c.args.self.now.buffer =
    rest.sized ∙ sym c.self.inside.buffer.sized ∙ ap (λ (r : ReaderState). r.buffer) c.self.view_is in (
      (
        refl,
        λ _. tt,
        rw room (gives_line c.args.self.now (kept_in buffer) at c.part.result.now (kept_in rest) (c.args.self.now.room - (at + 1)) (vec_len rest.bytes)
            (left c.args.input.now) (left c.seek.new.input) (rw (← kept) sought.0) sought.1 (rw (← room) sought.2) (fits buffer)
            (c.part.ensures ∙ c.drop_line-start.ensures.line) c.drop_line-start.ensures.rest refl stays),
      ),
      record { lines = tt; counts = c.in-LineFeed.ensures.counts; unread = rw (← kept) c.in-LineFeed.ensures.unread },
    )
