use Rattle.mum_tree.proofs.Common.{◌∙◌, ◌≤◌, ◌+◌, Bool, cond, refl, sym, subst, vec_capacity, vec_len}
use Rattle.mum_tree.proofs.{Numbered.numbered_as_seen, Numbered.pairs_seen, Relinked.none_named}
use Rattle.mum_tree.proofs.components.relink.Goals as goal

pub returns-then-names_no_links-clause-made : goal.returns-then-names_no_links-clause-made
returns-then-names_no_links-clause-made c = sym (none_named c.args.id c.args.adds.now c.args.removes.now c.args.links.now.items (sym c.names_no_links.ensures ∙ c.if-names_no_links.true))

pub change_links-requires-clause-room : goal.change_links-requires-clause-room
change_links-requires-clause-room c = subst (λ (t : Bool). vec_len c.args.links.now + cond t 0 128 ≤ vec_capacity c.args.links.now) (sym c.names_no_links.ensures ∙ c.if-names_no_links.false) c.requires.room

pub number_components-requires-clause-pairs : goal.number_components-requires-clause-pairs
number_components-requires-clause-pairs c = pairs_seen _ _ _ _ refl c.deref.ensures.value c.change_links.ensures.pairs

pub returns-clause-numbered : goal.returns-clause-numbered
returns-clause-numbered c = numbered_as_seen _ _ _ _ _ refl c.deref.ensures.value c.number_components.ensures
