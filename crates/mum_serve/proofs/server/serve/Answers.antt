-- What was lent was there, and is there again.
use Rattle.mum_serve.proofs.Common.{◌∙◌, Option, Some, ap, refl, sym}
use Rattle.mum_serve.proofs.server.serve.Goals as goal

pub returns-clause-serves : goal.returns-clause-serves
returns-clause-serves g c =
    let all = c.in-Some-Some-Some-Some in
    let door = sym (c.take.ensures.value) ∙ all.is-0 in
    let view = sym (c.take-2.ensures.value) ∙ all.is-1 in
    let clock = sym (c.take-3.ensures.value) ∙ all.is-2 in
    let keeper = sym (c.take-4.ensures.value) ∙ all.is-3 in
    record {
      objects = record { door = all.lent_door; view = all.lent_view; clock = all.lent_clock; keeper = all.lent_keeper };
      left = c.serve_over-served.result.1;
      was =
          ap (λ (d : Option _). record { door = d; view = c.args.view.now; clock = c.args.clock.now; keeper = c.args.keeper.now }) door
          ∙ ap (λ (v : Option _). record { door = Some all.lent_door; view = v; clock = c.args.clock.now; keeper = c.args.keeper.now }) view
          ∙ ap (λ (k : Option _). record { door = Some all.lent_door; view = Some all.lent_view; clock = k; keeper = c.args.keeper.now }) clock
          ∙ ap (λ (p : Option _). record { door = Some all.lent_door; view = Some all.lent_view; clock = Some all.lent_clock; keeper = p }) keeper;
      is = refl;
      serves = c.serve_over-served.ensures.serves;
      clock = c.serve_over-served.ensures.clock;
    }
