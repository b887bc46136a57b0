-- The names that the proofs of this crate take from elsewhere, passed on from one place. Declares nothing.
pub use Rattle.std.proofs.{Math.Seq.take-append_seam, lemmas.Bool.Decides.eqb_tells, lemmas.Bool.Decides.nat_tests, lemmas.Bool.ne_eqb, lemmas.Grind.common_steps, lemmas.Grind.elements, lemmas.List.Elements.All-cons, lemmas.List.Elements.All-nil, lemmas.List.Elements.All-pop, lemmas.List.Elements.All-push, lemmas.List.Elements.filter-append}
pub use Rattle.std.proofs.lemmas.List.{append-nil, drop-set-lt, drop_more, get_or-set_other, get_or-set_same, get_or-take, get_or_default, length-append, length-map, length-set, map-append, map-id, same_from_push, take-take, take_more_set}
pub use Rattle.std.proofs.Common.{All, Bool, IsTrue, List, Some, [], ap, append_assoc, arith, cond, drop, eq-eqb, eqb, false, filter, get_or, if◌then◌else◌, inl, inr, length, map, refl, set, subst, suc, sym, take, true, vec_capacity, vec_len, zero, zero-add, ℕ, ◌++◌, ◌+◌, ◌-◌, ◌<◌, ◌∙◌, ◌∷◌, ◌≡◌, ◌≢◌, ◌≤◌}
pub use Rattle.std.specs.List.{AllZip}
pub use Rattle.mum_crew.specs.{Along.Along, Along.EachAlong, Along.SomeAlong, Deal.HoldsAsDealt, Deal.IsDealt, Deal.KeepsEach, Deal.hand, Deal.needed_threads, Deal.thread_at, Turns.Came, Turns.RelatesEach, Turns.TurnsLead, Turns.TurnsTo}
pub use Rattle.mum_crew.specs.declared.{crew.CrewEnd.CrewEnd, role.Turn.Turn}
