use Rattle.mum_kept.proofs.Common.{◌||◌, Bool, not, refl, ap, sym, ◌∙◌, list_any, is_seat, seat_of, seats_of}
use Rattle.mum_kept.proofs.Seats.{same_keys, seats_added}
use Rattle.mum_kept.proofs.siblings.take_seat.Goals as goal

pub returns-clause-free : goal.returns-clause-free
returns-clause-free c =
    let channel = c.args.channel.now in
    let seats = c.args.seats.now.keys in
    c.in_ok-insert.ensures.added
    ∙ ap not (same_keys seats channel.parent.0 channel.name c.as_str.result.now c.as_str.ensures.value)
    ∙ sym (ap (λ (top : Bool). top || not (list_any (is_seat (seat_of channel)) (seats_of seats))) (sym c.is_root.ensures ∙ c.if-is_root.false))

pub returns-clause-seats : goal.returns-clause-seats
returns-clause-seats c = λ free.
    seats_added c.args.seats.now.keys c.insert.new.self.keys (c.args.channel.now.parent.0, c.as_str.result) c.args.channel.now _ (sym c.is_root.ensures ∙ c.if-is_root.false) refl c.as_str.ensures.value
    c.in_ok-insert.ensures.added c.in_ok-insert.ensures.keys free
