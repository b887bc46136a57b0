-- What is read by a table is read by the same table.
use Rattle.mum_session.proofs.Common.{◌≡◌, ℕ, List, sym, subst, Table, parts, Heard, heard_map, read}

pub by_table : {M : Type 0} (rows table : Table M) (payload : List ℕ) (heard : Heard M) → table ≡ rows → heard_map (parts rows) heard ≡ read rows payload → heard_map (parts table) heard ≡ read table payload
by_table {M} rows table payload heard same h = subst (λ (t : Table M). heard_map (parts t) heard ≡ read t payload) (sym same) h
