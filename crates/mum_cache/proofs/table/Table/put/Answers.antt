use Rattle.mum_cache.proofs.Common.{◌≡◌, ◌≤◌, ◌∙◌, length, set, vec_capacity, sym, ap, arith}
use Rattle.mum_cache.proofs.Padded.{padded_length, padded_set}
use Rattle.mum_cache.proofs.table.Table.put.Goals as goal

pub write_up_to-requires : goal.write_up_to-requires
write_up_to-requires g c =
    let written = c.self.inside.written in
    let blank = c.self.inside.blank in
    let few : length written.items ≤ vec_capacity written = omega (arith, written.ok.0, written.ok.1) in
    let whole : length c.args.self.now ≡ vec_capacity written =
    ap length (sym c.self.view_is) ∙ padded_length (vec_capacity written) blank written.items few in
    omega (arith, whole, c.requires)

pub returns : goal.returns
returns g c =
    let after = c.write_up_to.new.written in
    let blank = c.self.inside.blank in
    padded_set (vec_capacity after) blank after.items c.args.number c.args.value c.write_up_to.ensures.reached
    ∙ ap (λ xs. set xs c.args.number c.args.value) (c.write_up_to.ensures.same ∙ c.self.view_is)
