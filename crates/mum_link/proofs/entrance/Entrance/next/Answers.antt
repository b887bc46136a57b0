use Rattle.mum_link.proofs.Common.{◌≡◌, true, false, is_some, rules, sym, subst, ◌∙◌, ap, LetsIn}
use Rattle.mum_link.proofs.{Coming.comes_in, Coming.stays_out, entrance.Entrance.next.Goals.then-is_some, entrance.Entrance.next.Goals.else-is_some}
use Rattle.mum_link.proofs.entrance.Entrance.next.Goals as goal

pub returns-then-not-have_arrivals_room-clause-rate : goal.returns-then-not-have_arrivals_room-clause-rate
returns-then-not-have_arrivals_room-clause-rate g c =
    (c.now-now.result, stays_out c.have_arrivals_room.result c.now-now.result c.args.self.now.arrivals c.try_again.new.self.arrivals c.have_arrivals_room.new.self.arrivals c.try_again.ensures.arrivals c.have_arrivals_room.ensures.room)

pub returns-clause-rate : goal.returns-clause-rate
returns-clause-rate g c =
    let now = c.now-now.result in
    let old = c.args.self.now.arrivals in
    let asked = c.have_arrivals_room.new.self.arrivals in
    let passed = c.next_of_all-link.new.self.arrivals in
    let may : c.have_arrivals_room.result ≡ true = search rules in
    elim c.if-is_some.branch [
      | then-is_some w ↦
          let some : is_some c.next_of_all-link.result ≡ true = search rules in (
            now,
            subst (λ b. LetsIn b now old c.if-is_some.self.arrivals) (sym some)
                (rw w.self-is (comes_in c.have_arrivals_room.result now old c.try_again.new.self.arrivals asked passed w.count_arrival.new.self.arrivals c.try_again.ensures.arrivals c.have_arrivals_room.ensures.room may c.next_of_all-link.ensures.arrivals w.count_arrival.ensures.counted)),
          )
      | else-is_some w ↦
          let none : is_some c.next_of_all-link.result ≡ false = search rules in (
            now,
            subst (λ b. LetsIn b now old c.if-is_some.self.arrivals) (sym none)
                (rw (w.self-is, c.next_of_all-link.ensures.arrivals) (stays_out c.have_arrivals_room.result now old c.try_again.new.self.arrivals asked c.try_again.ensures.arrivals c.have_arrivals_room.ensures.room)),
          )
    ]
