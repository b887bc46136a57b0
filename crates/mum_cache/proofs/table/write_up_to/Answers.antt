use Rattle.mum_cache.proofs.Common.{◌∙◌, ℕ, vec_capacity, ap, arith, padded}
use Rattle.mum_cache.proofs.Padded.{padded_push}
use Rattle.mum_cache.proofs.table.write_up_to.Goals as goal

pub push_reserved-requires : goal.push_reserved-requires
push_reserved-requires g c =
    let room = c.numbers.invariant.room in
    let below = c.numbers-test.true in
    omega (arith, c.len.ensures, below, room, c.requires)

pub numbers-preserved : goal.numbers-preserved
numbers-preserved g c =
    let before = c.numbers.written in
    let room = c.numbers.invariant.room in
    let below = c.numbers-test.true in
    record {
      same =
          ap (λ (n : ℕ). padded n c.args.blank c.push_reserved.new.self.items) c.push_reserved.ensures.capacity
          ∙ ap (padded (vec_capacity before) c.args.blank) c.push_reserved.ensures.items
          ∙ padded_push (vec_capacity before) c.args.blank before.items (omega (arith, before.ok.0, c.len.ensures, below, room, c.requires))
          ∙ c.numbers.invariant.same;
      room = c.push_reserved.ensures.capacity ∙ room;
    }

pub returns-clause-reached : goal.returns-clause-reached
returns-clause-reached g c =
    let past = c.numbers-test.false in
    omega (arith, c.numbers.written.ok.0, c.len.ensures, past)
