use Rattle.mum_lines.proofs.Common.{ℕ, ◌≡◌, ◌-◌, ◌∙◌, List, length, take, drop, sym, ap, arith, length-drop, take_all, position, is_line_feed}
use Rattle.mum_lines.proofs.LineFeeds.{found-behind, none-behind}
use Rattle.mum_lines.proofs.buffer.line_feed_from.Goals as goal

whole : (bytes : List ℕ) (k : ℕ) → take (length bytes - k) (drop k bytes) ≡ drop k bytes
whole bytes k = take_all (length bytes - k) (drop k bytes) (omega (arith, length-drop k bytes))

pub returns-in-Some : goal.returns-in-Some
returns-in-Some c =
    let bytes = c.args.bytes.now in
    sym (found-behind is_line_feed c.args.scanned bytes c.in-Some.at c.requires.none c.requires.within
    (sym (c.in-Some.ensures ∙ ap (position is_line_feed) (whole bytes c.args.scanned))))

pub returns-in-None : goal.returns-in-None
returns-in-None c =
    let bytes = c.args.bytes.now in
    sym (none-behind is_line_feed c.args.scanned bytes c.requires.none c.requires.within
    (sym (c.in-None.ensures ∙ ap (position is_line_feed) (whole bytes c.args.scanned))))
