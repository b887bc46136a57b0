use Rattle.mum_address.proofs.Common.{◌≡◌, ◌≤◌, ◌++◌, List, ℕ, sym, subst, length, OnOk, reading, IsRead, wanted}
use Rattle.mum_address.proofs.Pieces.{room, read_fits}
use Rattle.mum_address.proofs.reader.HeaderReader.take.Goals as goal

pub unwrap-requires : goal.unwrap-requires
unwrap-requires c =
    let next = c.args.bytes.now in
    let few : length next ≤ wanted (reading c.self.inside.bytes.items) = subst (λ (bytes : List ℕ). length next ≤ wanted (reading bytes)) (sym c.self.view_is) c.requires in
    c.try_extend_from_slice.ensures.variant.1 (room c.self.inside.bytes.items next (read_fits c.self.invariant) few)

pub invariant_of-self : goal.invariant_of-self
invariant_of-self c =
    let bytes = c.self.inside.bytes.items in
    let next = c.args.bytes.now in
    let few : length next ≤ wanted (reading bytes) = subst (λ (b : List ℕ). length next ≤ wanted (reading b)) (sym c.self.view_is) c.requires in
    let new = c.try_extend_from_slice.new.self.items in
    let is : new ≡ bytes ++ next = subst (λ r. OnOk r (new ≡ bytes ++ next)) c.unwrap.ensures c.try_extend_from_slice.ensures.ok in
    subst IsRead (sym is) (IsRead.piece bytes next c.self.invariant few)
